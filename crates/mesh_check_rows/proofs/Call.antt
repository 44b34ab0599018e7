-- The rows of the table as `check_range` and `check_faces` meet them: what each answer says, and what the next function may read. Assumes
-- nothing.
use Rattle.std.specs.Prelude.{Ok}
use mathlib.Core.Path.{◌≡◌}
use mathlib.Core.Bool.{Bool, true, false, ◌||◌}
use mathlib.Core.List.{List}
use Prim.Native.Nat.{ℕ, ◌+◌, ◌*◌, ◌<◌, ◌≤◌}
use native.Mathlib.Omega.{arith}
use lib.Dec.{ltb}
use lib.IntN.{ℤ}
use lib.ListN.{length}
use borrow.Author.Tests.{ltb-false}
use Rattle.dcel.specs.MeshRows.{MeshRows, links_in}
use Rattle.dcel.specs.Rows.{Placed}
use Rattle.mesh.specs.declared.Counts.{Counts}
use Rattle.mesh.specs.Rules.{rules}
use Rattle.mesh.proofs.RulesWf.{rules-wf}
use Rattle.mesh_check.specs.Accepted.{MeshSizes, RowsInLimits}
use Rattle.mesh_check.proofs.AcceptedLaws.{or-false, not-short-rows}
use Rattle.mesh_check.specs.Check.{refused, count_refused, mesh_short, first_outside, places_with, point_count, vertex_count, rows_short, range_with}
use Rattle.mesh_check.proofs.CheckLawsFacts.{range-count, range-short, range-outside, range-accepted, count-within}
use Rattle.mesh_check.specs.Readable.{Readable}
use Rattle.mesh_check.proofs.ReadableLaws.{readable-rows}
use Rattle.mesh_rules.specs.Holds.{RowsThere}
use Rattle.sums.proofs.BitLaws.{from-true}

-- the sizes, where neither 1 nor 2 was answered. n: seed plus points
pub record SizesAccepted (points : List ℤ) (C : Counts) (m : MeshRows) (n : ℕ) : Type 0 where
  pub all : n ≡ C.vertices + point_count points
  pub most : n ≤ 1000000
  pub pairs : 2 * point_count points ≤ length points
  pub rows : MeshSizes n m

pub few : (n : ℕ) → count_refused n ≡ false → n ≤ 1000000
few n e = (count-within n e).1

-- ---- rows 1 to 3
module _ (points : List ℤ) (short : Bool) (C : Counts) (m : MeshRows) {n : ℕ} (ns : n ≡ vertex_count C points) where
  abbrev shorts : Bool
  shorts = short || rows_short (vertex_count C points) points m

  pub with-count : count_refused n ≡ true → refused 1 0 ≡ range_with points short C m
  unfolding range_with
  with-count e = range-count (vertex_count C points) shorts (places_with points C m) (rw ns at e)

  module _ (e : count_refused n ≡ false) where
    e' : count_refused (vertex_count C points) ≡ false
    e' = rw ns at e

    pub with-short : short ≡ true → refused 2 0 ≡ range_with points short C m
    unfolding range_with
    with-short b = range-short (vertex_count C points) shorts (places_with points C m) e' (rw b)

    module _ (b : short ≡ false) where
      pub with_rows : rows_short n points m ≡ true → refused 2 0 ≡ range_with points short C m
      unfolding range_with
      with_rows d = range-short (vertex_count C points) shorts (places_with points C m) e' (rw (b, ← ns) d)

      module _ (d : rows_short n points m ≡ false) where
        b' : (short || rows_short (vertex_count C points) points m) ≡ false
        b' = rw (b, ← ns) d

        pub sized : SizesAccepted points C m n
        unfolding rows_short vertex_count
        sized =
            let r = or-false (ltb (length points) (2 * point_count points)) (mesh_short n m) d in
            record { all = ns; most = few n e; pairs = ltb-false (length points) (2 * point_count points) r.0; rows = not-short-rows r.1 }

        module _ {i count : ℕ} (ms : count ≡ point_count points) (q : i ≡ first_outside (C.vertices + count) (places_with points C m)) where
          q' : i ≡ first_outside (vertex_count C points) (places_with points C m)
          unfolding vertex_count
          q' = rw ms at q

          pub with-outside : i < n → refused 3 i ≡ range_with points short C m
          unfolding range_with
          with-outside l = range-outside (vertex_count C points) shorts (places_with points C m) e' b' q' (rw ns at l)

          pub with-range : n ≤ i → (Ok tt) ≡ range_with points short C m
          unfolding range_with
          with-range l = range-accepted (vertex_count C points) shorts (places_with points C m) e' b' q' (rw ns at l)

-- ---- rows 4 and 5
module _ {C : Counts} {m : MeshRows} (R : RowsInLimits C m) where
  -- what the sweeps over the mesh ask
  pub mesh-there : RowsThere C m.outs m.halves m.faces
  mesh-there =
      let S = R.rows in let k = R.most in let a = S.outs in let b = S.halves in let d = S.faces in
      record { outs = a; halves = b; faces = d; small = k }

  placed : {v : ℕ} → v < C.vertices → Placed m.positions v
  placed {v} l = let a = R.rows.positions in record { there = omega arith; range = R.range l }

  pub readable : rules C (links_in m) ≡ true → Readable C m.positions m.halves m.faces
  readable r =
      let S = R.rows in let b = S.halves in let d = S.faces in
      readable-rows m.outs m.halves m.faces m.positions (rules-wf C (links_in m) (from-true r)) (λ v k. placed k) b d
