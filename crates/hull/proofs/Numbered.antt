-- What holds while the nodes are numbered in the order of the boundary's edges. Assumes nothing.
use Prim.Native.Nat.{ℕ, ◌+◌, ◌-◌, ◌%◌, ◌<◌, ◌≤◌}
use native.Mathlib.Decide.{ℕ_discrete}
use native.Mathlib.Omega.{arith}
use mathlib.Core.Path.{◌≡◌, refl, sym, ◌∙◌, ap, subst}
use mathlib.Core.List.{List}
use lib.IntN.{ℤ}
use lib.Ieee.{Float}
use lib.ListN.{length}
use Rattle.sums.specs.Put.{put}
use Rattle.sums.proofs.PutLaws.{put_same, put_other}
use Rattle.dcel.specs.Rows.{halves_of}
use Rattle.ring_rows.specs.declared.Node.{Node}
use Rattle.ring_rows.specs.Rows.{nodes_of}
use Rattle.hull.specs.Boundary.{AngledBoundary, Angled, AngleAt, edge_at, NodeOfEdge, NodesOfEdges}
use Rattle.hull.proofs.Along.{next-at, angled}

pub record Building (p : List ℤ) (h : List ℕ) (cx cy : Float) (start size : ℕ) (old new : List Node) (e left k : ℕ) : Type 0 where
  pub boundary : AngledBoundary p h cx cy start
  pub room : size ≤ length old
  pub same : length new ≡ length old
  pub most : k ≤ size
  pub at : e ≡ edge_at h start k
  pub left-first : k ≡ 0 → left ≡ size - 1
  pub left-more : 0 < k → left ≡ k - 1
  pub done : (i : ℕ) → i < k → NodeOfEdge p h cx cy start size i (nodes_of new i)

pub building : {p : List ℤ} {h : List ℕ} {cx cy : Float} {start size : ℕ} {old : List Node} → AngledBoundary p h cx cy start → size ≤ length old → Building p h cx cy start size old old start (size - 1) 0
building B r = record { boundary = B; room = r; same = refl; most = omega arith; at = refl; left-first = λ z. refl; left-more = λ l. absurd (omega arith); done = λ i l. absurd (omega arith) }

module _ {p : List ℤ} {h : List ℕ} {cx cy : Float} {start size : ℕ} {old new : List Node} {e left k : ℕ} (K : Building p h cx cy start size old new e left k) where
  pub building-angled : Angled p h cx cy e
  building-angled = angled k K.boundary K.at

  pub built-more : {new' : List Node} {a : Float} {n : ℕ} → k < size → AngleAt p h cx cy e a → nodes_of new' ≡ put (nodes_of new) k (record { angle = a; edge = e; left = left; right = (k + 1) % size }) → length new' ≡ length new
      → n ≡ (halves_of h).next e → Building p h cx cy start size old new' n k (k + 1)
  built-more {new'} {a} {n} l A s q d = record {
    boundary = K.boundary;
    room = K.room;
    same = q ∙ K.same;
    most = omega arith;
    at = next-at h start k K.at d;
    left-first = λ z. absurd (omega arith);
    left-more = λ m. less k;
    done = λ i u. subst (NodeOfEdge p h cx cy start size i) (sym (ap (λ (f : ℕ → Node). f i) s)) (go i u (ℕ_discrete i k));
  }
    where
      less : (k : ℕ) → k ≡ k + 1 - 1
      less k = omega arith

      go : (i : ℕ) → i < k + 1 → Dec (i ≡ k) → NodeOfEdge p h cx cy start size i (put (nodes_of new) k (record { angle = a; edge = e; left = left; right = (k + 1) % size }) i)
      go i u (yes z) =
          rw (z, put_same (nodes_of new) k (record { angle = a; edge = e; left = left; right = (k + 1) % size }))
          (record { is-angle = A.is-angle; angle = rw (← K.at) A.turns-are; edge = K.at; left-first = K.left-first; left-more = K.left-more; right = refl })
      go i u (no z) = rw (put_other (nodes_of new) k (record { angle = a; edge = e; left = left; right = (k + 1) % size }) i z) (K.done i (omega arith))

  pub built-all : size ≤ k → NodesOfEdges p h cx cy start size (nodes_of new)
  built-all l i u = K.done i (omega arith)
