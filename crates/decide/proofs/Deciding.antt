-- The decision about a point by its located edge: what its parts ask, and which fate their answers mean. Assumes nothing.
use mathlib.Core.Bool.{Bool, true, false, not, cond, ◌||◌}
use mathlib.Core.List.{List}
use mathlib.Core.Path.{◌≡◌, refl, sym, ◌∙◌, ap, ap₂, subst}
use Prim.Native.Nat.{ℕ, suc, ◌+◌, ◌<◌, ◌^◌}
use native.Mathlib.Omega.{arith}
use lib.Ieee.{Float}
use lib.IntN.{ℤ, pos}
use lib.Signed.{lt_z, le_z}
use Rattle.angle.specs.Angle.{IsAngle, turns}
use Rattle.algebra.proofs.Test.{le_read}
use Rattle.circle_test.specs.GoodRows.{held}
use Rattle.dcel.specs.Rows.{halves_of, links_of, position_of}
use Rattle.dcel.specs.MeshHeld.{counts-fit}
use Rattle.hull.specs.Boundary.{edge_at, origin_turns}
use Rattle.math.specs.declared.Point.{Point}
use Rattle.math.specs.Determinant.{InRange, orient2d, is_position}
use Rattle.mesh.specs.declared.Counts.{Counts}
use Rattle.mesh.specs.Mesh.{In}
use Rattle.mesh.specs.Area.{boundary_length}
use Rattle.mesh.proofs.BoundaryLaws.{next-inverse}
use Rattle.mesh.proofs.CountsLaws.{count-halves, faces-least}
use Rattle.ring.specs.declared.Side.TheVariants.{Left, Right}
use Rattle.ring.specs.Ring.{full_turn, at_ends, proper}
use Rattle.ring.specs.Center.{turns_about}
use Rattle.ring.proofs.Boundary.{outer-round}
use Rattle.ring.specs.Chain.{sees_edge, left_chain, right_chain, chain_start, chain_length, sound_after, is_fit}
use Rattle.ring.proofs.ChainMesh.{before-walk, chain-short, chain-sound}
use Rattle.ring.specs.Node.{nodes as node_count}
use Rattle.ring.proofs.RingOfLaws.{nodes-most}
use Rattle.ring.proofs.SegmentsLaws.{holds-proper}
use Rattle.sums.specs.Bit.{bit}
use Rattle.sums.proofs.BitLaws.{bit-yes, from-true}
use Rattle.sums.specs.Half.{rev}
use Rattle.sums.specs.Iterate.{iter}
use Rattle.sums.proofs.IterateLaws.{iter-add, iter-back, inverse-sym}
use Rattle.sums.proofs.TallyLaws.{tally-at, tally-most}
use Rattle.decide.specs.declared.Decision.{Decision}
use Rattle.decide.specs.declared.Fate.{Fate}
use Rattle.decide.specs.declared.Fate.TheVariants.{Added, Dropped, NotLeft, Unsound}
use Rattle.decide.specs.Decide.{Decided, at_end, decided_at, fate_at, if_added}
use Rattle.decide.specs.SweepRows.{ChainAngles}
use Rattle.decide.specs.Located.{LocatedRows, EndAngles, DecidesAt, LeavesOut}
use Rattle.decide.proofs.VertexAngles.{left_out}
use Rattle.walks.specs.declared.WalkEnd.{WalkEnd}
use Rattle.walks.specs.Walks.{origin_position, EdgeAbout, ToWalk, WalkedTo}
use Rattle.walks.proofs.WalkLaws.{edge-about, stands_at, to-walk, walked-chain, chain-nodes}

-- ---- the decision by four tests: is the point at the first end, at the second, is it strictly left, is the ring sound after the step
abbrev fate_of : ℕ → Bool → Bool → Bool → Bool → Fate
fate_of n x y s g = cond (x || y) Dropped (cond (not s) NotLeft (cond (not g) Unsound (Added n)))

abbrev with_fate : Fate → ℕ → ℕ → ℕ → Decided
with_fate F e m n = record { fate = F; edge = if_added F e; left = if_added F m; right = if_added F n }

module _ (C : Counts) (q : List ℤ) (o h f : List ℕ) (α : ℕ → ℕ) (v : Point) (a e : ℕ) where
  decided-by : {x y s g : Bool} → is_position v (origin_position q h e) ≡ x → is_position v (origin_position q h (rev e)) ≡ y
      → sees_edge (links_of o h f) (position_of q) v e ≡ s → sound_after C (links_of o h f) (position_of q) α v a e ≡ g
      → decided_at C (links_of o h f) (position_of q) α v a e
      ≡ with_fate (fate_of C.vertices x y s g) e (left_chain C (links_of o h f) (position_of q) α v a e)
      (right_chain C (links_of o h f) (position_of q) α v a e)
  unfolding decided_at fate_at at_end links_of
  decided-by x y s g = λ i.
      with_fate (fate_of C.vertices (x i) (y i) (s i) (g i)) e (left_chain C (links_of o h f) (position_of q) α v a e)
      (right_chain C (links_of o h f) (position_of q) α v a e)

-- the answer about one that is
abbrev pub added_with : ℕ → ℕ → ℕ → ℕ → Float → Float → Float → ℕ → Decision
added_with n e i j a s t k = record { fate = Added n; edge = e; left = i; right = j; angle = a; startangle = s; endangle = t; node = k }

-- the positions of e's ends
pub record EndsAt (q : List ℤ) (h : List ℕ) (e : ℕ) (from to : Point) : Type 0 where
  pub from_is : from ≡ origin_position q h e
  pub to_is : to ≡ origin_position q h (rev e)

-- the point is at neither end of e, and strictly left of it
pub record Passes (q : List ℤ) (o h f : List ℕ) (v : Point) (e : ℕ) : Type 0 where
  pub from : is_position v (origin_position q h e) ≡ false
  pub to : is_position v (origin_position q h (rev e)) ≡ false
  pub side : sees_edge (links_of o h f) (position_of q) v e ≡ true

-- ---- the located edge
module _ {C : Counts} {q : List ℤ} {o h f : List ℕ} {cx cy : Float} {e size next : ℕ} {v : Point} {a : Float}
    (K : LocatedRows C q o h f cx cy e size next v a) where
  pub here-about : EdgeAbout q h cx cy e
  here-about = edge-about K.mesh cx cy K.center K.in_use K.outer

  -- ---- the tests of its ends and its side
  pub ends_at : {from to : Point} {t : ℕ} → from ≡ origin_position q h e → t ≡ rev e → to ≡ origin_position q h t → EndsAt q h e from to
  ends_at x y z = record { from_is = x; to_is = z ∙ ap (origin_position q h) y }

  module _ {from to : Point} (E : EndsAt q h e from to) where
    pub asks-side : InRange from × InRange to × InRange v
    asks-side = (rw E.from_is here-about.from.placed.range, rw E.to_is here-about.to.placed.range, K.range)

    module _ {x : Bool} (x-is : x ≡ is_position v from) where
      first-is : is_position v (origin_position q h e) ≡ x
      first-is = ap (is_position v) (sym E.from_is) ∙ sym x-is

      pub at_from : x ≡ true → {d : Decision} → LeavesOut Dropped d → DecidesAt C q o h f cx cy e v a d
      unfolding if_added
      at_from i w = left_out Dropped refl w
          (decided-by C q o h f (turns_about cx cy (position_of q)) v (turns a) e (first-is ∙ i) refl refl refl)

      module _ (i : x ≡ false) {y : Bool} (y-is : y ≡ is_position v to) where
        second_is : is_position v (origin_position q h (rev e)) ≡ y
        second_is = ap (is_position v) (sym E.to_is) ∙ sym y-is

        pub at-to : y ≡ true → {d : Decision} → LeavesOut Dropped d → DecidesAt C q o h f cx cy e v a d
        unfolding if_added
        at-to j w = left_out Dropped refl w
            (decided-by C q o h f (turns_about cx cy (position_of q)) v (turns a) e (first-is ∙ i) (second_is ∙ j) refl refl)

        module _ (j : y ≡ false) {s : ℤ} (s-is : s ≡ orient2d from to v) where
          side-is : {t : Bool} → le_z s (pos 0) ≡ t → sees_edge (links_of o h f) (position_of q) v e ≡ not t
          unfolding links_of
          side-is k =
              sym (ap (lt_z (pos 0)) (s-is ∙ ap₂ (λ (x y : Point). orient2d x y v) E.from_is E.to_is)) ∙ le_read s (pos 0) k

          pub not_left : le_z s (pos 0) ≡ true → {d : Decision} → LeavesOut NotLeft d → DecidesAt C q o h f cx cy e v a d
          unfolding if_added
          not_left k w = left_out NotLeft refl w
              (decided-by C q o h f (turns_about cx cy (position_of q)) v (turns a) e (first-is ∙ i) (second_is ∙ j) (side-is k) refl)

          pub passes : le_z s (pos 0) ≡ false → Passes q o h f v e
          passes k = record { from = first-is ∙ i; to = second_is ∙ j; side = side-is k }

    -- ---- the walks, from its ends
    module _ {s t : Float} (A : EndAngles q h cx cy e s t) where
      pub asks-left : ToWalk Left q h cx cy v a e (record { position = from; angle = s })
      asks-left =
          to-walk K.mesh cx cy K.center K.in_use K.outer K.range K.is-angle Left
          (record { position = E.from_is; angle = A.from-angle })

      pub asks-right : ToWalk Right q h cx cy v a e (record { position = to; angle = t })
      asks-right =
          to-walk K.mesh cx cy K.center K.in_use K.outer K.range K.is-angle Right
          (record { position = E.to_is; angle = A.to-angle })

  -- ---- the chain's first edge, m edges before e
  start-outer : (m : ℕ) → In C (iter m (halves_of h).prev e) × ((links_of o h f).face (iter m (halves_of h).prev e) ≡ 0)
  unfolding links_of
  start-outer = before-walk K.mesh.good.wf (position_of q) (turns_about cx cy (position_of q)) v (turns a) K.in_use K.outer

  -- along it to e
  start-to : (m : ℕ) → iter m (halves_of h).next (iter m (halves_of h).prev e) ≡ e
  unfolding links_of
  start-to m = iter-back (inverse-sym (next-inverse K.mesh.good.wf)) m K.in_use

  -- e has a node, since it holds the angle
  own-node : bit (at_ends proper (halves_of h).next (origin_turns q h cx cy) e) ≡ 1
  unfolding links_of
  own-node = bit-yes (at_ends proper (halves_of h).next (origin_turns q h cx cy) e)
      (holds-proper (turns a) (origin_turns q h cx cy e) (origin_turns q h cx cy ((halves_of h).next e)) K.at)

  -- ---- the chain's length, and whether the ring is sound after the step
  module _ (S : Passes q o h f v e) {left right : WalkEnd}
      (A : WalkedTo Left q h cx cy v a e left) (B : WalkedTo Right q h cx cy v a e right) where
    left_is : left_chain C (links_of o h f) (position_of q) (turns_about cx cy (position_of q)) v (turns a) e ≡ left.count
    unfolding left_chain
    left_is = walked-chain K.mesh cx cy K.center K.in_use K.outer K.range K.is-angle Left A.covers

    right_is : right_chain C (links_of o h f) (position_of q) (turns_about cx cy (position_of q)) v (turns a) e ≡ right.count
    unfolding right_chain
    right_is = walked-chain K.mesh cx cy K.center K.in_use K.outer K.range K.is-angle Right B.covers

    length-is :
        chain_length C (links_of o h f) (position_of q) (turns_about cx cy (position_of q)) v (turns a) e ≡ left.count + 1 + right.count
    length-is = ap₂ (λ (i j : ℕ). i + 1 + j) left_is right_is

    start : ℕ
    start = iter left.count (halves_of h).prev e

    start_is : chain_start C (links_of o h f) (position_of q) (turns_about cx cy (position_of q)) v (turns a) e ≡ start
    unfolding links_of start
    start_is = ap (λ (i : ℕ). iter i (halves_of h).prev e) left_is

    -- an edge is left over
    short : left.count + 1 + right.count < boundary_length C (links_of o h f)
    short = subst (λ (i : ℕ). i < boundary_length C (links_of o h f)) length-is
        (chain-short K.mesh.good.wf (position_of q) (turns_about cx cy (position_of q)) v (turns a) K.in_use K.outer
        K.mesh.good.turning (from-true S.side))

    -- the angles at its two ends
    start-turns : turns left.vertex.angle ≡ origin_turns q h cx cy start
    unfolding start
    start-turns = A.vertex.angle.turns-are
        ∙ ap (turns_about cx cy (position_of q)) (stands_at K.mesh cx cy K.center K.in_use K.outer Left left.count)

    end_is : edge_at h start (left.count + 1 + right.count) ≡ iter (suc right.count) (halves_of h).next e
    unfolding start
    end_is =
        ap (edge_at h (iter left.count (halves_of h).prev e)) (regroup left.count right.count)
        ∙ iter-add left.count (suc right.count) (halves_of h).next (iter left.count (halves_of h).prev e)
        ∙ ap (iter (suc right.count) (halves_of h).next) (start-to left.count)
      where
        regroup : (i j : ℕ) → i + 1 + j ≡ i + suc j
        regroup i j = omega arith

    -- its nodes, and the whole ring's from its first edge on
    nodes-are : node_count (halves_of h).next (origin_turns q h cx cy) (left.count + 1 + right.count) start ≡ left.nodes + 1 + right.nodes
    unfolding start
    nodes-are =
        chain-nodes K.mesh cx cy K.center K.in_use K.outer left.count right.count A.nodes B.nodes
        ∙ ap (λ (k : ℕ). left.nodes + k + right.nodes) own-node

    size_is : node_count (halves_of h).next (origin_turns q h cx cy) (boundary_length C (links_of o h f)) start ≡ size
    unfolding links_of start
    size_is =
        let s = iter left.count (halves_of h).prev e in let w = start-outer left.count in
        sym (tally-at (at_ends proper (halves_of h).next (origin_turns q h cx cy)) (halves_of h).next (boundary_length C (links_of o h f))
        s (outer-round K.mesh.good.wf w.0 w.1) left.count)
        ∙ ap (node_count (halves_of h).next (origin_turns q h cx cy) (boundary_length C (links_of o h f))) (start-to left.count) ∙ K.count

    -- what the test of the ring asks
    nodes-fit : 3 + (left.nodes + 1 + right.nodes) < 2 ^ 32
    nodes-fit =
        let W = K.mesh.good.wf in
        let u = short in let c = count-halves W in let m = faces-least W in let l = K.mesh.room.small in
        let i = nodes-are in
        let b = at_ends proper (halves_of h).next (origin_turns q h cx cy) in
        let j = tally-most b (halves_of h).next (left.count + 1 + right.count) start in
        omega arith

    pub asks-fit : IsAngle left.vertex.angle × IsAngle a × IsAngle right.vertex.angle
        × (3 + (left.nodes + 1 + right.nodes) < 2 ^ 32) × (size + 2 < 2 ^ 32)
    asks-fit =
        let W = K.mesh.good.wf in
        let t = nodes-most W (turns_about cx cy (position_of q)) K.sound K.in_use K.outer in
        let u = short in let c = count-halves W in let m = faces-least W in let l = K.mesh.room.small in
        let g = K.count in let w = counts-fit (held K.mesh) in
        (A.vertex.angle.is-angle, K.is-angle, B.vertex.angle.is-angle, nodes-fit, omega arith)

    -- it tests what fate 4 asks
    module _ {t : Bool}
        (t-is : t ≡ is_fit full_turn (turns left.vertex.angle) (turns a) (turns right.vertex.angle)
        (left.nodes + 1 + right.nodes) size)
      where
        sound-is : sound_after C (links_of o h f) (position_of q) (turns_about cx cy (position_of q)) v (turns a) e ≡ t
        unfolding links_of
        sound-is =
            let β = origin_turns q h cx cy in
            let x = sym start-turns in let y = ap β end_is ∙ sym B.vertex.angle.turns-are in
            chain-sound K.mesh.good.wf (position_of q) (turns_about cx cy (position_of q)) v (turns a) K.in_use K.outer
            K.mesh.good.turning (from-true S.side) K.sound K.at
            ∙ ap₂ (λ (d i : ℕ). is_fit full_turn (β d) (turns a) (β (edge_at h d i)) (node_count (halves_of h).next β i d)
            (node_count (halves_of h).next β (boundary_length C (links_of o h f)) d)) start_is length-is
            ∙ (λ i. is_fit full_turn (x i) (turns a) (y i) (nodes-are i) (size_is i))
            ∙ sym t-is

        pub unsound : t ≡ false → {d : Decision} → LeavesOut Unsound d → DecidesAt C q o h f cx cy e v a d
        unfolding if_added
        unsound k w = left_out Unsound refl w
            (decided-by C q o h f (turns_about cx cy (position_of q)) v (turns a) e S.from S.to S.side (sound-is ∙ k))

        added_is : t ≡ true
            → decided_at C (links_of o h f) (position_of q) (turns_about cx cy (position_of q)) v (turns a) e
            ≡ record { fate = Added next; edge = e; left = left.count; right = right.count }
        unfolding if_added
        added_is k =
            decided-by C q o h f (turns_about cx cy (position_of q)) v (turns a) e S.from S.to S.side (sound-is ∙ k)
            ∙ (λ i. record { fate = Added (K.vertex i); edge = e; left = left_is i; right = right_is i })

        -- an added point, with the angles of the chain's ends
        pub added : {node : ℕ} → t ≡ true
            → DecidesAt C q o h f cx cy e v a
            (added_with next e left.count right.count a left.vertex.angle right.vertex.angle node)
        unfolding links_of start
        added {node} k = record {
          is = sym (added_is k);
          angles = λ m z. subst
              (λ (D : Decided). ChainAngles C (links_of o h f) (position_of q) cx cy v D
              (added_with next e left.count right.count a left.vertex.angle right.vertex.angle node))
              (sym (added_is k)) (record {
                is-angle = K.is-angle;
                angle = K.angle;
                start-angle = A.vertex.angle.is-angle;
                start = start-turns;
                end-angle = B.vertex.angle.is-angle;
                end = B.vertex.angle.turns-are;
              });
        }
