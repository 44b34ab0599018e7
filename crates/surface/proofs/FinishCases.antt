-- The skipped points and the finish with them, where a flip is refused: at one point, and by the stage. Assumes nothing.
use Rattle.std.specs.Prelude.{Bool, true, false, cond, ◌≡◌, ℕ}
use Rattle.std.proofs.lemmas.Bool.{false≢true}
use Rattle.std.proofs.Math.Path.{refl}
use Rattle.std.proofs.Common.{ap}
use Rattle.convexity.specs.Convexity.{convexity}
use Rattle.corner.specs.Corner.{Extended}
use Rattle.location.specs.declared.PositionInTriangulation.{PositionInTriangulation}
use Rattle.location.specs.declared.PositionInTriangulation.TheVariants.{OnVertex, OnFace, OnEdge, OutsideOfConvexHull}
use Rattle.location.specs.Scan.{locate_point}
use Rattle.math.specs.declared.Point.{Point}
use Rattle.mesh.specs.declared.Counts.{Counts}
use Rattle.mesh.specs.Mesh.{Links}
use Rattle.skipped.specs.Insert.{is_new, mesh_at, insert_point}
use Rattle.skipped.specs.Fill.{Filling, insert_on, filled_by, passed_by, fill_point, fill_after, fill_from, convex_after, Completing, complete_mesh}
use Rattle.skipped.proofs.FillLawsFacts.{fill-answered}

-- ---- one point
-- an insertion that is refused a flip is that of a new vertex
pub full-new : (room : ℕ) (C : Counts) (L : Links) (p : ℕ → Point) (v : Point) → (insert_point room C L p v).mesh.full ≡ true
    → is_new (insert_point room C L p v).place ≡ true
unfolding insert_point mesh_at is_new
full-new room C L p v = go (locate_point C L p v)
  where
    go : (x : PositionInTriangulation) → (mesh_at room C L p v x).full ≡ true → is_new x ≡ true
    go (OnFace f) q = refl
    go (OnEdge e) q = refl
    go (OutsideOfConvexHull e) q = refl
    go (OnVertex w) q = absurd (false≢true q)

-- after a refused flip no point follows
pub fill-stays : (room : ℕ) (s : Filling) (b : Bool) (v : Point) → s.full ≡ true → fill_point room s b v ≡ s
unfolding fill_point
fill-stays room s b v f = ap (λ (x : Bool). cond x s (cond b (filled_by s (insert_on room s v)) (passed_by s))) f

-- a skipped point that is refused a flip
pub fill-full : (room : ℕ) (s : Filling) {b : Bool} (v : Point) → s.full ≡ false → b ≡ true → (insert_on room s v).mesh.full ≡ true
    → (fill_point room s b v).full ≡ true
unfolding fill_point
fill-full room s v f t g = rw (f, t) g

-- ---- the finish, by the stage in which a flip was refused
module _ (room : ℕ) (C : Counts) (L : Links) (p : ℕ → Point) (skipped : ℕ → Bool) (point : ℕ → Point) (n : ℕ) where
  abbrev passed : Extended
  passed = convexity room C p L

  abbrev filled : Filling
  filled = fill_after room passed.counts passed.links p skipped point n

  abbrev completed : Completing
  completed = complete_mesh room C L p skipped point n

  -- in the first convexity passes: no point has gone in
  pub complete-passed : passed.full ≡ true → (completed.place ≡ n) × (completed.inserted ≡ 0)
  unfolding complete_mesh fill_from
  complete-passed q = rw q (refl, refl)

  -- at a point
  pub record AtPoint : Type 0 where
    pub place : completed.place ≡ filled.answered
    pub inserted : completed.inserted ≡ filled.answered
    pub counts : completed.mesh.counts ≡ filled.counts
    pub full : completed.mesh.full ≡ true

  pub complete-at : passed.full ≡ false → filled.full ≡ true → AtPoint
  unfolding complete_mesh fill_from convex_after
  complete-at q f = record { place = rw (q, f) refl; inserted = rw q refl; counts = rw (q, f) refl; full = rw (q, f) refl }

  -- in no stage before the second convexity passes
  pub complete-all : passed.full ≡ false → filled.full ≡ false → (completed.place ≡ n) × (completed.inserted ≡ n)
  unfolding complete_mesh fill_from
  complete-all q f = rw (q, f) (refl, (fill-answered room passed.counts passed.links p skipped point n).all f)
