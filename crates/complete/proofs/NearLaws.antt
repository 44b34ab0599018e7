-- What the search from near by asks, for one point and for the list: a mesh to walk on stays one while points go in. Assumes nothing.
use Rattle.std.specs.Prelude.{Bool, true, List, ◌≡◌, ℕ, ◌*◌, ◌<◌, ◌≤◌, T, ℤ, length}
use Rattle.std.proofs.Common.{sym, ◌∙◌, ap, subst, arith}
use Rattle.answers.specs.AnswerRows.{skipped_in}
use Rattle.circle_test.specs.GoodRows.{GoodRows}
use Rattle.dcel.specs.Rows.{links_of, position_of, row_of}
use Rattle.insert.specs.InsertRows.{NearPointReady}
use Rattle.math.specs.declared.Point.{Point}
use Rattle.mesh.specs.declared.Counts.{Counts}
use Rattle.mesh.proofs.BoundaryLaws.{first<}
use Rattle.mesh.proofs.CountsLaws.{vertices-least}
use Rattle.nearby.specs.Test.{is_walkable}
use Rattle.nearby.proofs.TestLaws.{tested-walkable}
use Rattle.skipped.specs.Fill.{Filling}
use Rattle.skipped_nearby.proofs.InsertWalkable.{fill-walkable}
use Rattle.sums.proofs.BitLaws.{from-true}
use Rattle.sweep.specs.Run.{answer_words}
use Rattle.walkable.specs.Walkable.{Walkable}
use Rattle.complete.specs.CompleteRows.{PointNear, FillReady, FillNear}
use Rattle.complete.specs.FillLoop.{FillingOn}
use Rattle.complete.proofs.FillLoopLaws.{filling-point}
use Rattle.complete.proofs.PointLaws.{point-ready}

-- ---- one point
module _ {C : Counts} {q : List ℤ} {o h a row w : List ℕ} {points : List ℤ} {i : ℕ} {known : Bool}
    (N : PointNear C q o h a row w points i known) {b : Bool} (e : b ≡ skipped_in (row_of w) i) (t : b ≡ true) where
  pub point-edges : 0 < C.edges
  point-edges = let k = first< (N.rows.ready (from-true (sym e ∙ t))).rows.good.wf in omega arith

  pub point-near : {v : Point} → v ≡ position_of points i → {u : ℕ} → u < C.edges → NearPointReady C q o h a row v known u
  point-near v-is l = record { ready = point-ready N.rows e t v-is; used = l; walkable = N.walkable }

-- ---- what is prepared: the test says that the mesh is one to walk on
module _ {C : Counts} {q : List ℤ} {o h a : List ℕ} (R : GoodRows C q o h a) where
  pub vertices-some : 0 < C.vertices
  vertices-some = let k = vertices-least R.good.wf in omega arith

  pub prepared : {b : Bool} → b ≡ is_walkable C (links_of o h a) (position_of q) → b ≡ true → Walkable C (links_of o h a) (position_of q)
  prepared e t = tested-walkable R.good.wf (position_of q) (from-true (sym e ∙ t))

-- what the preparation of a list reads
pub record ToPrepare (C : Counts) (q : List ℤ) (o h a w : List ℕ) (points : List ℤ) (n : ℕ) : Type 0 where
  pub rows : GoodRows C q o h a
  pub pairs : 2 * n ≤ length points
  pub answers-room : answer_words * n ≤ length w

pub grid-ready : {C : Counts} {q : List ℤ} {o h a w : List ℕ} {points : List ℤ} {n : ℕ} → ToPrepare C q o h a w points n
    → (0 < C.vertices) × (2 * C.vertices ≤ length q) × (2 * n ≤ length points)
grid-ready R = (vertices-some R.rows, R.rows.positions, R.pairs)

-- a list that is ready is so for the preparation
pub to-prepare : {C : Counts} {q : List ℤ} {o h a row w : List ℕ} {points : List ℤ} {n : ℕ} → FillReady C q o h a row w points n
    → ToPrepare C q o h a w points n
to-prepare R = record { rows = R.rows; pairs = R.pairs; answers-room = R.answers-room }

-- ---- the list: the mesh before point i is still one to walk on
pub filling-near : {C₀ : Counts} {q₀ : List ℤ} {o₀ h₀ a₀ row₀ w₀ : List ℕ} {points : List ℤ} {n : ℕ} {known : Bool}
    → FillNear C₀ q₀ o₀ h₀ a₀ row₀ w₀ points n known → {C : Counts} {q : List ℤ} {o h a row w : List ℕ} {i : ℕ}
    → FillingOn C₀ q₀ o₀ h₀ a₀ row₀ w₀ points n C q o h a row w i → i < n → {b : Bool} → b ≡ known → PointNear C q o h a row w points i b
filling-near {row₀ = row₀} {w₀ = w₀} {points = points} R {i = i} I l k = record {
  rows = filling-point I l;
  walkable = λ t. subst (λ (s : Filling). Walkable s.counts s.links s.positions) I.at
      (fill-walkable (length row₀) R.fill.rows.good (skipped_in (row_of w₀)) (position_of points) R.fill.range (R.walkable (subst T k t)) i
      I.most (ap (λ (s : Filling). s.full) I.at));
}
