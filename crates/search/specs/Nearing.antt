-- The loop of `walk_to_nearest_neighbor`: to go on from here is to go on from vertex 0. Assumes nothing.
use Rattle.std.specs.Prelude.{Bool, List, Option, Some, None, ◌≡◌, ℕ, ◌+◌, ◌*◌, ◌<◌, ℤ, length}
use Rattle.std.proofs.Common.{◌∙◌, subst, arith}
use Rattle.std.proofs.Math.Path.{ap}
use Rattle.dcel.specs.Rows.{links_of, position_of}
use Rattle.location.proofs.HeldLaws.{some-inner}
use Rattle.location.proofs.NearestLaws.{nearest-falls}
use Rattle.location.specs.Search.{closer, closer_count, first_closer, is_nearest, nearer, nearest}
use Rattle.math.specs.declared.Point.{Point}
use Rattle.math.specs.Determinant.{InRange, length2}
use Rattle.mesh.specs.declared.Counts.{Counts}
use Rattle.mesh.specs.Wf.{Wf}
use Rattle.mesh.proofs.BoundaryLaws.{first<}
use Rattle.sums.proofs.BoundedLaws.{count-le}
use Rattle.sums.proofs.UntilLaws.{Falls, Going, going_start, going-turn, going_less, going_end}
use Rattle.search.specs.SearchRows.{NearReady, SpokesReady, CloserIs, ready-placed}

-- the walk's test and its turn, with some row of faces
abbrev ends : Counts → List ℤ → List ℕ → List ℕ → List ℕ → Point → ℕ → Bool
ends C q o h a point = is_nearest C (links_of o h a) (position_of q) point

abbrev goes : Counts → List ℤ → List ℕ → List ℕ → List ℕ → Point → ℕ → ℕ
goes C q o h a point = nearer C (links_of o h a) (position_of q) point

-- v, at the squared distance z
pub record Nearing (C : Counts) (q : List ℤ) (o h : List ℕ) (point : Point) (v : ℕ) (z : ℤ) : Type 0 where
  pub near : NearReady C q o h point
  pub distance : z ≡ length2 (position_of q v) point
  pub going : Going (ends C q o h near.faces point) (goes C q o h near.faces point) (λ v. v < C.vertices)
      (closer_count C (position_of q) point) (2 * C.edges) 0 v

module _ {C : Counts} {q : List ℤ} {o h : List ℕ} {point : Point} (R : NearReady C q o h point) where
  W : Wf C (links_of o h R.faces)
  W = R.ready.rows.good.wf

  some : 0 < C.vertices
  some = let k = W.ranges.origin< (first< W) in omega arith

  pub first-there : 2 * 0 + 1 < length q
  first-there = (ready-placed R.ready some).there

  pub first_range : {p : Point} → p ≡ position_of q 0 → InRange p × InRange point
  first_range y = (rw y (ready-placed R.ready some).range, R.ready.range)

  pub nearing-start : {p : Point} {z : ℤ} → p ≡ position_of q 0 → z ≡ length2 p point → Nearing C q o h point 0 z
  unfolding closer_count
  nearing-start y i = record {
    near = R;
    distance = i ∙ ap (λ (p : Point). length2 p point) y;
    going = going_start (ends C q o h R.faces point) (goes C q o h R.faces point) (nearest-falls W (position_of q) point) (2 * C.edges) 0 some
        (let n = some in let m = count-le C.vertices (closer (position_of q) point 0) in let e = W.euler in let f = some-inner W in omega arith);
  }

module _ {C : Counts} {q : List ℤ} {o h : List ℕ} {point : Point} {v : ℕ} {z : ℤ} (K : Nearing C q o h point v z) where
  falls : Falls (ends C q o h K.near.faces point) (goes C q o h K.near.faces point) (λ v. v < C.vertices) (closer_count C (position_of q) point)
  falls = nearest-falls K.near.ready.rows.good.wf (position_of q) point

  pub nearing-spokes : SpokesReady C q o h point v z
  nearing-spokes = record { near = K.near; used = K.going.claim; distance = K.distance }

  module _ {r : Option (ℕ × ℤ)} (c : (a : List ℕ) → CloserIs C (links_of o h a) (position_of q) point v r) where
    module _ {w : ℕ} {d : ℤ} (e : r ≡ Some (w, d)) where
      here : CloserIs C (links_of o h K.near.faces) (position_of q) point v (Some (w, d))
      here = subst (CloserIs C (links_of o h K.near.faces) (position_of q) point v) e (c K.near.faces)

      pub nearing-on : {u : ℤ} → u ≡ d → Nearing C q o h point w u
      nearing-on i = record {
        near = K.near;
        distance = i ∙ here.2;
        going = rw here.1 (going-turn (ends C q o h K.near.faces point) (goes C q o h K.near.faces point) falls K.going here.0);
      }

      pub nearing-less : closer_count C (position_of q) point w < closer_count C (position_of q) point v
      nearing-less = rw here.1 (going_less (ends C q o h K.near.faces point) (goes C q o h K.near.faces point) falls K.going here.0)

    pub nearing-end : r ≡ None → (a : List ℕ) → v ≡ nearest C (links_of o h a) (position_of q) point
    unfolding nearest is_nearest nearer first_closer links_of
    nearing-end e a =
        going_end (ends C q o h K.near.faces point) (goes C q o h K.near.faces point) falls K.going
        (subst (CloserIs C (links_of o h K.near.faces) (position_of q) point v) e (c K.near.faces))
