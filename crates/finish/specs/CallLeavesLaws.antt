-- A good mesh that differs from the one lent below its counts only, written to rows with room for it: the rows hold it (`links-back`,
-- `places-back`), and that is what a call leaves (`call-leaves`). Assumes nothing.
use Rattle.std.specs.Prelude.{List, ◌≡◌, refl, ℕ, ◌<◌, ◌≤◌, length, replicate}
use Rattle.std.proofs.Common.{◌∙◌, ap}
use Rattle.std.proofs.Math.Path.{subst⁻¹}
use native.Mathlib.Omega.{arith}
use Rattle.corner.specs.Untouched.{Untouched, rows_back, positions-back}
use Rattle.dcel.specs.MeshRows.{MeshRows, links_in, places_in, mesh_rows_from}
use Rattle.dcel.specs.Views.{lengths-from}
use Rattle.math.specs.declared.Point.{Point}
use Rattle.mesh.specs.declared.Counts.{Counts}
use Rattle.mesh.specs.Mesh.{Links}
use Rattle.mesh.proofs.AreaLaws.{area-theorem}
use Rattle.mesh.proofs.CountsLaws.{count-edges, count-faces}
use Rattle.mesh.specs.Good.{Good}
use Rattle.mesh_check.specs.Accepted.{MeshSizes}
use Rattle.finish.specs.CallLeaves.{CallLeaves}

-- L and p: the mesh of C' vertices, edges and faces that is written
module _ {n : ℕ} (m : MeshRows) (S : MeshSizes n m) {C' : Counts} {L : Links} {p : ℕ → Point} (most : C'.vertices ≤ n)
    (G : Good C' L p) (links-past : Untouched C' (links_in m) L)
    (places-past : (u : ℕ) → C'.vertices ≤ u → p u ≡ places_in m u) where
  pub links-back : links_in (mesh_rows_from m L p) ≡ L
  unfolding mesh_rows_from
  links-back =
      let u = count-edges G.wf in
      let w = count-faces G.wf in
      rows_back (record { outs = omega arith; halves = omega arith; faces = omega arith }) links-past

  pub places-back : places_in (mesh_rows_from m L p) ≡ p
  unfolding mesh_rows_from
  places-back = positions-back m.positions p C'.vertices (omega arith) places-past

  -- a fact of the mesh that is written is one of the rows
  pub in_rows : (F : Links → (ℕ → Point) → Type 0) → F L p → F (links_in (mesh_rows_from m L p)) (places_in (mesh_rows_from m L p))
  in_rows F x = rw (links-back, places-back) x

  pub call-leaves : (C : Counts) → ((u : ℕ) → u < C.vertices → p u ≡ places_in m u) → (pending : List ℕ)
      → CallLeaves C m pending C' (mesh_rows_from m L p) (replicate (length pending) 0)
  call-leaves C seed pending =
      let good = in_rows (Good C') G in
      record {
        good = good;
        area = area-theorem good.wf _;
        seed = λ u l. ap (λ (P : ℕ → Point). P u) places-back ∙ seed u l;
        pending-zero = refl;
        links-past = subst⁻¹ (Untouched C' (links_in m)) links-back links-past;
        places-past = λ u l. ap (λ (P : ℕ → Point). P u) places-back ∙ places-past u l;
        lengths = lengths-from m L p;
      }
