-- What `insert` asks of the two calls that it makes, and what they leave, for each mesh before and after. Assumes nothing.
use Prim.Native.Nat.{ℕ, suc, ◌≤◌}
use native.Mathlib.Omega.{arith}
use mathlib.Core.Path.{◌≡◌}
use mathlib.Core.List.{List}
use lib.Ieee.{Float}
use lib.ListN.{length}
use Rattle.mesh.specs.declared.Counts.{Counts}
use Rattle.mesh.specs.Mesh.{Links}
use Rattle.ring.specs.Resize.{adjusted_buckets}
use Rattle.ring.proofs.RingOfLaws.{ring-size}
use Rattle.ring_rows.specs.declared.Node.{Node}
use Rattle.ring_rows.specs.declared.Hull.{Hull}
use Rattle.ring_rows.specs.Rows.{size_of}
use Rattle.ring_insert.specs.Insert.{ToInsert, InsertedRows, ToAdjust, Adjusted}
use Rattle.hull.specs.Held.{Held}
use Rattle.hull.proofs.Find.{held_rows}
use Rattle.hull.proofs.InsertLaws.{to-insert, insert-len, insert-held, adjusted-held, buckets-fit}
use Rattle.hull.specs.EntersRing.{EntersRing}

module _ {C : Counts} {L : Links} {α : ℕ → ℕ} {C' : Counts} {L' : Links} {α'' : ℕ → ℕ} {e m n q r N : ℕ}
    {nodes : List Node} {freed buckets : List ℕ} {h : Hull} {left middle right : Float} {leftedge rightedge : ℕ}
    (E : EntersRing C L α C' L' α'' e m n q r N nodes freed buckets h left middle right leftedge rightedge) where
  pub entering-insert : ToInsert nodes freed buckets h left middle right
  entering-insert =
      to-insert E.rules E.held E.change N E.vertices-most E.nodes-most E.node-room E.freed-room (let s = E.small in omega arith)
      E.left-angle E.middle-angle E.right-angle E.left_is E.right_is

  -- after the stores, with the number of buckets as it was
  module _ {nodes' : List Node} {freed' buckets' : List ℕ} {h' : Hull}
      (I : InsertedRows nodes freed buckets nodes' freed' buckets' h left middle right leftedge rightedge h')
      (u : length nodes' ≡ length nodes) (v : length freed' ≡ length freed) (w : length buckets' ≡ length buckets) where
    stored-most : h'.nodes ≤ suc N
    stored-most = insert-len E.rules E.held E.change E.left_is E.middle-is E.right_is I E.vertices-most E.nodes-most

    stored-held : Held C' L' α'' nodes' freed' buckets' h'
    stored-held =
        insert-held E.rules E.held E.change E.left_is E.middle-is E.right_is I E.rules-after u v w
        (let a = stored-most in let b = E.freed-room in omega arith) (let a = stored-most in let b = E.small in omega arith)

    size-most : size_of h' ≤ N
    size-most = let a = ring-size E.rules-after stored-held.ring in let b = E.vertices-after-most in omega arith

    room : adjusted_buckets h'.buckets (size_of h') ≤ length buckets'
    room = buckets-fit E.rules-after stored-held (let a = E.vertices-after-most in let b = E.bucket-room in omega arith) stored-held.bucket-room

    pub entering-adjust : ToAdjust nodes' buckets' h'
    entering-adjust = record { rows = held_rows stored-held; size-most = let a = size-most in let b = E.small in omega arith; room = room }

    pub entering-held : {buckets'' : List ℕ} {h'' : Hull} → Adjusted nodes' buckets' buckets'' h' h'' → length buckets'' ≡ length buckets'
        → Held C' L' α'' nodes' freed' buckets'' h'' × (h''.nodes ≤ suc N)
    entering-held A z = (
      adjusted-held E.rules-after stored-held (let a = size-most in let b = E.small in omega arith) A (let a = room in omega arith),
      (let a = stored-most in let b = A.used in omega arith),
    )
