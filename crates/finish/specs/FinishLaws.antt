-- The call `finish` on the lent rows: what an accepted call leaves (`finish-accepted`), and what a refused one leaves (`finish-refused`):
-- 9 the mesh that stood before the flip, every other refusal, which is one of the checks', all as it was. Assumes nothing.
use Rattle.std.specs.Prelude.{Bool, List, ◌⊎◌, ℕ, ◌+◌, ◌≤◌, ◌-ℤ◌, length, replicate, ◌≤ℤ◌, Ok, Err}
use Rattle.std.proofs.Math.Bool.{true, false}
use Rattle.std.proofs.Common.{inl, inr, ◌∙◌, ap, arith}
use Rattle.std.proofs.Math.Path.{◌≡◌, refl, sym, subst, subst⁻¹}
use Rattle.std.proofs.Math.IntN.{pos}
use Rattle.corner.specs.Corner.{Extended}
use Rattle.corner.specs.CornerLaws.{Closings}
use Rattle.closing.specs.Closing.{Closing, closing_pass}
use Rattle.convexity.specs.Convexity.{convexity, unpassed, NoLeftCorner}
use Rattle.convexity.proofs.ConvexityLawsFacts.{convexity-closings}
use Rattle.dcel.specs.MeshRows.{MeshRows, links_in, places_in, mesh_rows_from}
use Rattle.dcel.specs.Views.{positions-from}
use Rattle.math.specs.declared.Point.{Point}
use Rattle.mesh.specs.declared.Counts.{Counts}
use Rattle.mesh.specs.Mesh.{Links}
use Rattle.mesh.specs.Area.{height_sum}
use Rattle.mesh.specs.Circle.{LocallyDelaunay, Settled}
use Rattle.mesh.proofs.CircleLawsFacts.{settled-far}
use Rattle.mesh.specs.FlipRun.{FlipRun}
use Rattle.mesh.specs.Good.{Good}
use Rattle.mesh_check.specs.Checked.{Checked}
use Rattle.mesh_check.specs.declared.Refusal.{Refusal}
use Rattle.mesh_check.specs.Accepted.{MeshSizes}
use Rattle.mesh_check.specs.Check.{check_with}
use Rattle.mesh_check.specs.CheckLaws.{NumberedTo}
use Rattle.mesh_check.proofs.CheckLawsFacts.{check-numbered}
use Rattle.finish.specs.Finished.{Finished}
use Rattle.finish.specs.declared.Totals.{Totals}
use Rattle.finish.specs.CallLeaves.{CallLeaves}
use Rattle.finish.specs.CallLeavesLaws.{in_rows, call-leaves}
use Rattle.finish.specs.Finish.{Finishing, finish_mesh, totals_from, finished_from, FinishOutcome, finished_with, finish_outcome, seed_checked, finish_of}
use Rattle.finish.specs.FinishRows.{accepted-ready, accepted-sizes}
use Rattle.finish.specs.MeshLaws.{finish-flips, finish-good, finish-counts, finish-fall, finish-untouched, finish-closing, finish-convex, finish-settled}

-- the counts after a call: the same vertices, an edge and a face more for each face added
abbrev pub with_faces : Counts → ℕ → Counts
with_faces C n = record { vertices = C.vertices; edges = C.edges + n; faces = C.faces + n }

-- what a call on a good mesh leaves, where n faces were added
pub record FinishLeaves (C : Counts) (m : MeshRows) (pending : List ℕ) (r : FinishOutcome) (n : ℕ) : Type 0 where
  pub leaves : CallLeaves C m pending r.answer.counts r.mesh r.pending
  pub counts : r.answer.counts ≡ with_faces C n
  pub positions : r.mesh.positions ≡ m.positions

-- the mesh after the convexity passes
abbrev pub after_passes : Counts → MeshRows → List ℕ → Extended
after_passes C m pending = convexity (length pending) C (places_in m) (links_in m)

-- what an accepted call leaves besides
pub record FinishAccepted (C : Counts) (m : MeshRows) (pending : List ℕ) (r : FinishOutcome) (t : Totals) : Type 0 where
  pub leaves : FinishLeaves C m pending r t.faces
  -- no boundary corner turns left, and no triangle's circle strictly contains a neighbour's far vertex
  pub convex : NoLeftCorner r.answer.counts (links_in r.mesh) (places_in r.mesh)
  pub circles : LocallyDelaunay r.answer.counts (links_in r.mesh) (places_in r.mesh)
  -- corners closed one after another, each followed by its flips, as many of both as reported
  pub passes : Closings (places_in m) (unpassed C (links_in m)).mesh (after_passes C m pending)
  pub faces : t.faces ≡ (after_passes C m pending).faces
  pub convexflips : t.convexflips ≡ (after_passes C m pending).flips
  -- then the closing pass: as many flips as reported,
  pub closing : ◌≡◌ {A = Closing} (record { links = links_in r.mesh; flips = t.closingflips })
      (closing_pass r.answer.counts (places_in r.mesh) (after_passes C m pending).links)
  pub closingflips : FlipRun r.answer.counts (places_in r.mesh) (after_passes C m pending).links (links_in r.mesh)
      t.closingflips
  -- which are at most the fall of the height sum
  pub fall : pos t.closingflips
      ≤ℤ (height_sum r.answer.counts (after_passes C m pending).links (places_in r.mesh)
      -ℤ height_sum r.answer.counts (links_in r.mesh) (places_in r.mesh))

module _ (C : Counts) (m : MeshRows) (pending : List ℕ) where
  -- the checks' refusals have the numbers 1 to 5
  seed-numbered : NumberedTo 5 (seed_checked C m pending)
  unfolding seed_checked check_with
  seed-numbered = check-numbered _ _ _ _ _

  abbrev p : ℕ → Point
  p = places_in m

  abbrev L : Links
  L = links_in m

  abbrev f : Finishing
  f = finish_mesh (length pending) C p L

  -- ---- the checks accept
  module _ (e : seed_checked C m pending ≡ Ok tt) where
    abbrev R : FinishOutcome
    R =
        finished_with (record { counts = f.counts; finished = finished_from 0 f })
        (mesh_rows_from m f.links p) (replicate (length pending) 0)

    is-accepted : finish_of C m pending ≡ R
    unfolding finish_of finish_outcome
    is-accepted = rw e refl

    G : Good C L p
    G = (accepted-ready C m pending (sym e)).rows.good

    sizes : MeshSizes C.vertices m
    sizes = accepted-sizes C m pending (sym e)

    most : f.counts.vertices ≤ C.vertices
    most = let c = ap (λ (K : Counts). K.vertices) (finish-counts (length pending) C p L G) in omega arith

    leaves : FinishLeaves C m pending R f.faces
    unfolding mesh_rows_from
    leaves = record {
      leaves = call-leaves m sizes most (finish-good (length pending) C p L G) (finish-untouched (length pending) C p L G) (λ u l. refl)
          C (λ u l. refl) pending;
      counts = finish-counts (length pending) C p L G;
      positions = sym (positions-from m.positions p refl (length m.positions) refl);
    }

    -- a fact of the finished mesh is one of the rows
    there : (F : Links → (ℕ → Point) → Type 0) → F f.links p → F (links_in R.mesh) (places_in R.mesh)
    there = in_rows m sizes most (finish-good (length pending) C p L G) (finish-untouched (length pending) C p L G) (λ u l. refl)

    accepted : f.full ≡ false → FinishAccepted C m pending R (totals_from f)
    unfolding finish_mesh totals_from
    accepted z =
        let v = after_passes C m pending in
        record {
          leaves = leaves;
          convex = there (NoLeftCorner f.counts) (finish-convex (length pending) C p L G z);
          circles = settled-far leaves.leaves.good (there (Settled f.counts) (finish-settled (length pending) C p L G z));
          passes = convexity-closings (length pending) C p L G;
          faces = refl;
          convexflips = refl;
          closing = there (λ K P. ◌≡◌ {A = Closing} (record { links = K; flips = f.closingflips }) (closing_pass f.counts P v.links))
              (finish-closing (length pending) C p L G z);
          closingflips = there (λ K P. FlipRun f.counts P v.links K f.closingflips) (finish-flips (length pending) C p L G);
          fall = there (λ K P. pos f.closingflips ≤ℤ (height_sum f.counts v.links P -ℤ height_sum f.counts K P))
              (finish-fall (length pending) C p L G);
        }

  -- ---- by what is answered
  -- accepted: the mesh is good, no boundary corner turns left, and it is settled
  pub finish-accepted : (t : Totals) → (finish_of C m pending).answer.finished ≡ Ok t
      → FinishAccepted C m pending (finish_of C m pending) t
  unfolding finished_from finish_of finish_outcome
  finish-accepted t e = by (seed_checked C m pending) refl
    where
      at : (k : seed_checked C m pending ≡ Ok tt) → (b : Bool) → f.full ≡ b → FinishAccepted C m pending (finish_of C m pending) t
      at k true z =
          let x : Err (record { number = 9; place = 0 }) ≡ Ok t = sym (rw (is-accepted k, z) refl) ∙ e in
          absurd (let z : ◌≡◌ {A = ℕ} 0 1 = cc in omega arith)
      at k false z =
          let x : Ok (totals_from f) ≡ Ok t = sym (rw (is-accepted k, z) refl) ∙ e in
          let y : totals_from f ≡ t = cc in
          subst (FinishAccepted C m pending (finish_of C m pending)) y
          (subst⁻¹ (λ (r : FinishOutcome). FinishAccepted C m pending r (totals_from f)) (is-accepted k) (accepted k z))

      by : (c : Checked) → seed_checked C m pending ≡ c → FinishAccepted C m pending (finish_of C m pending) t
      by (Ok tt) k = at k f.full refl
      by (Err x) k =
          let y : Err x ≡ Ok t = rw k at e in
          absurd (let z : ◌≡◌ {A = ℕ} 0 1 = cc in omega arith)

  -- refused: by the checks, and 01: "All but 9 change nothing lent"; or before a flip whose pushes would overfill the pending list
  pub finish-refused : (x : Refusal) → (finish_of C m pending).answer.finished ≡ Err x
      → (NumberedTo 5 (Err x) × (finish_of C m pending ≡ finished_with (record { counts = C; finished = Err x }) m pending))
      ⊎ ((x.number ≡ 9) × (x.place ≡ 0) × FinishLeaves C m pending (finish_of C m pending) f.faces)
  unfolding finished_from finish_of finish_outcome
  finish-refused x e = by (seed_checked C m pending) refl seed-numbered
    where
      Wanted : Type 0
      Wanted =
          (NumberedTo 5 (Err x) × (finish_of C m pending ≡ finished_with (record { counts = C; finished = Err x }) m pending))
          ⊎ ((x.number ≡ 9) × (x.place ≡ 0) × FinishLeaves C m pending (finish_of C m pending) f.faces)

      at : (k : seed_checked C m pending ≡ Ok tt) → (b : Bool) → f.full ≡ b → Wanted
      at k true z =
          let y : Err (record { number = 9; place = 0 }) ≡ Err x = sym (rw (is-accepted k, z) refl) ∙ e in
          let w : record { number = 9; place = 0 } ≡ x = cc in
          inr (
            ap (λ (r : Refusal). r.number) (sym w),
            ap (λ (r : Refusal). r.place) (sym w),
            subst⁻¹ (λ (r : FinishOutcome). FinishLeaves C m pending r f.faces) (is-accepted k) (leaves k),
          )
      at k false z =
          let y : Ok (totals_from f) ≡ Err x = sym (rw (is-accepted k, z) refl) ∙ e in
          absurd (let z : ◌≡◌ {A = ℕ} 0 1 = cc in omega arith)

      by : (c : Checked) → seed_checked C m pending ≡ c → NumberedTo 5 c → Wanted
      by (Ok tt) k l = at k f.full refl
      by (Err y) k l =
          let z : Err y ≡ Err x = rw k at e in
          let w : y ≡ x = cc in
          inl (subst (λ (r : Refusal). NumberedTo 5 (Err r)) w l, rw (k, w) refl)
