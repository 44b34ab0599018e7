-- The walks on the boundary of a good mesh about an accepted centre, for any point in range and any angle: each edge can be tested,
-- a walk ends, and what it covers is the chain's part on its side, with that part's nodes. Assumes nothing.
use Rattle.std.specs.Prelude.{Bool, not, List, ◌≡◌, refl, Float, ℤ}
use Rattle.std.proofs.Math.Path.{sym, ap, subst}
use Rattle.std.proofs.Common.{◌∙◌, T_not}
use Prim.Native.Nat.{ℕ, zero, suc, ◌+◌, ◌-◌, ◌<◌, ◌≤◌}
use Rattle.std.proofs.Math.Decide.{dec_lt}
use native.Mathlib.Omega.{arith}
use Rattle.std.proofs.Math.Dec.{T, not_T}
use Rattle.angle.specs.Angle.{IsAngle, turns, angle_about, valid_center}
use Rattle.circle_test.specs.GoodRows.{GoodRows, held}
use Rattle.dcel.specs.Rows.{halves_of, links_of, position_of, row_of, Placed}
use Rattle.dcel.specs.MeshHeld.{there, there-rev, origin-in, to_in}
use Rattle.hull.specs.Boundary.{AngledBoundary, origin_at_center, origin_turns, vertex_at_center}
use Rattle.hull.proofs.Ready.{angled-boundary, size_small}
use Rattle.math.specs.declared.Point.{Point}
use Rattle.math.specs.Determinant.{InRange}
use Rattle.mesh.specs.declared.Counts.{Counts}
use Rattle.mesh.specs.Mesh.{Links, In}
use Rattle.mesh.specs.Wf.{Wf}
use Rattle.mesh.specs.Area.{boundary_length, LeftTurning}
use Rattle.mesh.proofs.BoundaryLaws.{next-inverse, first<, first-outer, boundary-least}
use Rattle.ring.specs.Ring.{at_ends, proper}
use Rattle.ring.specs.Center.{refuses_center, turns_about}
use Rattle.ring.proofs.Boundary.{outer-round, outer-walk, outer-on}
use Rattle.ring.specs.declared.Side.{Side}
use Rattle.ring.specs.declared.Side.TheVariants.{Left, Right}
use Rattle.ring.specs.Chain.{sees_edge, beside, covers, chain_on}
use Rattle.ring.proofs.ChainMesh.{some-unseen, covers-sees, before-walk}
use Rattle.ring.specs.Node.{nodes as node_count}
use Rattle.sums.specs.Bit.{bit}
use Rattle.sums.specs.Bounded.{first_below}
use Rattle.sums.proofs.BoundedLaws.{first-below-is}
use Rattle.sums.specs.Half.{rev}
use Rattle.sums.specs.Iterate.{iter}
use Rattle.sums.proofs.IterateLaws.{iter-add, iter-back, iter-last, inverse-sym}
use Rattle.sums.specs.Tally.{tally, walk}
use Rattle.sums.proofs.TallyLaws.{tally-add, tally-back, tally-ext, tally-first}
use Rattle.walks.specs.declared.BoundaryVertex.{BoundaryVertex}
use Rattle.walks.specs.Walks.{origin_position, EdgeAbout, ToRead, ReadAt, VertexAt, walk_test, walk_step, walk_edge}
use Rattle.walks.specs.Walks.{near_half, far_half, has_node, ToWalk, Covers}

-- ---- a boundary vertex at the origin of a half-edge, whose position p was read
module _ (q : List ℤ) (h : List ℕ) {cx cy : Float} (d : ℕ) {p : Point} (x : p ≡ origin_position q h d) where
  pub to_read : T (valid_center cx cy) → T (not (origin_at_center q h cx cy d)) → ToRead p cx cy
  unfolding vertex_at_center
  to_read k t = record { valid = k; apart = rw x t }

  pub read_at : {r : BoundaryVertex} → ReadAt p cx cy r → VertexAt q h cx cy d r
  unfolding turns_about
  read_at R = record {
    position = R.position ∙ x;
    angle = record {
      is-angle = R.is-angle;
      turns-are = R.turns-are ∙ ap (λ (p : Point). turns (angle_about p.x p.y cx cy)) x;
    };
  }

-- ---- the tests read origins alone
test-rows : (side : Side) (q : List ℤ) (o h f : List ℕ) (cx cy : Float) (v : Point) (a : Float) (d : ℕ)
    → walk_test side q h cx cy v a d ≡ covers side (links_of o h f) (position_of q) (turns_about cx cy (position_of q)) v (turns a) d
unfolding walk_test links_of
test-rows Left q o h f cx cy v a d = refl
test-rows Right q o h f cx cy v a d = refl

step-rows : (side : Side) (o h f : List ℕ) → walk_step side h ≡ beside side (links_of o h f)
unfolding links_of
step-rows Left o h f = refl
step-rows Right o h f = refl

walk_rows : (side : Side) (q : List ℤ) (o h f : List ℕ) (cx cy : Float) (v : Point) (a : Float) (e k : ℕ)
    → (let L = links_of o h f in
    walk_test side q h cx cy v a (iter k (walk_step side h) e)
    ≡ covers side L (position_of q) (turns_about cx cy (position_of q)) v (turns a) (iter k (beside side L) e))
walk_rows side q o h f cx cy v a e k = rw (step-rows side o h f) (test-rows side q o h f cx cy v a (iter k (beside side (links_of o h f)) e))

-- ---- from e a walk on either side comes to every boundary edge
module _ {C : Counts} {L : Links} (W : Wf C L) {e : ℕ} (l : In C e) (o : L.face e ≡ 0) where
  reach : (side : Side) {d : ℕ} → In C d → L.face d ≡ 0
      → (m : ℕ) × (m < boundary_length C L) × (iter (suc m) (beside side L) e ≡ d)
  reach Left {d} i z =
      let r = outer-on W l o i z in
      let m = boundary_length C L - suc r.0 in
      let whole = sum r.0 (boundary_length C L) r.1 in (
        m,
        (let b = r.1 in omega arith),
        ap (iter (suc m) L.prev)
            (sym (outer-round W l o) ∙ ap (λ (k : ℕ). iter k L.next e) (sym whole) ∙ iter-add r.0 (suc m) L.next e)
            ∙ iter-back (next-inverse W) (suc m) (outer-walk W l o r.0).0 ∙ r.2,
      )
    where
      sum : (k n : ℕ) → k < n → k + suc (n - suc k) ≡ n
      sum k n b = omega arith
  reach Right {d} i z = go (outer-on W l o i z)
    where
      around : (n : ℕ) → 3 ≤ n → suc (n - 1) ≡ n
      around n b = omega arith

      go : (k : ℕ) × (k < boundary_length C L) × (iter k L.next e ≡ d)
          → (m : ℕ) × (m < boundary_length C L) × (iter (suc m) L.next e ≡ d)
      go (zero, b, y) =
          let s = around (boundary_length C L) (boundary-least W) in
          (boundary_length C L - 1, omega arith, ap (λ (k : ℕ). iter k L.next e) s ∙ outer-round W l o ∙ y)
      go (suc j, b, y) = (j, omega arith, y)

  beside-outer : (p : ℕ → Point) (α : ℕ → ℕ) (v : Point) (q : ℕ) (side : Side) (k : ℕ)
      → In C (iter k (beside side L) e) × (L.face (iter k (beside side L) e) ≡ 0)
  beside-outer p α v q Left k = before-walk W p α v q l o k
  beside-outer p α v q Right k = outer-walk W l o k

  -- one of them the point does not see, so that a walk ends
  walk_ends : {p : ℕ → Point} (F : LeftTurning C L p) (α : ℕ → ℕ) (v : Point) (q : ℕ) (side : Side)
      → (m : ℕ) × (m < boundary_length C L) × T (not (covers side L p α v q (iter (suc m) (beside side L) e)))
  walk_ends {p} F α v q side =
      let u = some-unseen W F v in
      let r = reach side u.1 u.2 in
      let d = iter (suc r.0) (beside side L) e in (
        r.0,
        r.1,
        not_T (covers side L p α v q d)
            (λ t. T_not (sees_edge L p v u.0) u.3
            (subst (λ (x : ℕ). T (sees_edge L p v x)) r.2 (covers-sees W p α v q l o side d t))),
      )

-- the number of those before the first that fails, where one below N does
first-fails : (test : ℕ → Bool) (n : ℕ) → ((k : ℕ) → k < n → T (test k)) → T (not (test n))
    → (N m : ℕ) → m < N → T (not (test m)) → first_below N (λ k. not (test k)) ≡ n
first-fails test n covered stops N m l f =
    first-below-is N (λ k. not (test k)) (go (dec_lt m n)) (λ u. stops) (λ j u t. T_not (test j) t (covered j u))
  where
    go : Dec (m < n) → n ≤ N
    go (yes u) = absurd (T_not (test m) f (covered m u))
    go (no u) = omega arith

-- ---- a good mesh in its rows, and a centre that is accepted
module _ {C : Counts} {q : List ℤ} {o h f : List ℕ} (G : GoodRows C q o h f) (cx cy : Float)
    (ok : T (not (refuses_center C (links_of o h f) (position_of q) cx cy))) where
  -- from face 0's stored edge on
  first-about : AngledBoundary q h cx cy (row_of f 0)
  first-about = angled-boundary (held G) q G.positions cx cy ok

  placed : {u : ℕ} → u < C.vertices → Placed q u
  placed l = record { there = let k = G.positions in omega arith; range = G.good.range l }

  outer-apart : {d : ℕ} → In C d → (links_of o h f).face d ≡ 0 → T (not (origin_at_center q h cx cy d))
  unfolding links_of
  outer-apart l b =
      let W = G.good.wf in
      let r = outer-on W (first< W) (first-outer W) l b in
      subst (λ (x : ℕ). T (not (origin_at_center q h cx cy x))) r.2 (first-about.apart r.0)

  -- each boundary edge has two ends with angles
  pub edge-about : {d : ℕ} → In C d → (links_of o h f).face d ≡ 0 → EdgeAbout q h cx cy d
  unfolding links_of
  edge-about {d} l b =
      let W = G.good.wf in
      let M = held G in record {
        from = record { here = there M l; placed = placed (origin-in M l) };
        to = record { here = there-rev M l; placed = placed (to_in M l) };
        valid = first-about.valid;
        from-apart = outer-apart l b;
        to-apart = subst (λ (u : ℕ). T (not (vertex_at_center (position_of q) cx cy u))) (W.links.origin-next l)
            (outer-apart (W.ranges.next< l) (W.links.face-next l ∙ b));
      }

  next-origin : {d : ℕ} → In C d → (halves_of h).origin ((halves_of h).next d) ≡ (halves_of h).origin (rev d)
  unfolding links_of
  next-origin i = G.good.wf.links.origin-next i

  -- a half-edge on a walk begins where the one before it ends
  meets : (side : Side) {d : ℕ} → In C d
      → (halves_of h).origin (near_half side (walk_step side h d)) ≡ (halves_of h).origin (far_half side d)
  unfolding links_of
  meets Left i =
      let W = G.good.wf in sym (next-origin (W.ranges.prev< i)) ∙ ap (halves_of h).origin (W.links.next-prev i)
  meets Right i = next-origin i

  -- its node, by the half-edge after it
  node-is : {d : ℕ} → In C d → has_node q h cx cy d ≡ at_ends proper (halves_of h).next (origin_turns q h cx cy) d
  node-is {d} i = ap (λ (u : ℕ). proper (origin_turns q h cx cy d) (turns_about cx cy (position_of q) u)) (sym (next-origin i))

  module _ {e : ℕ} (l : In C e) (b : (links_of o h f).face e ≡ 0) where
    -- the k-th half-edge of a walk
    walk-in : (side : Side) (k : ℕ) → In C (iter k (walk_step side h) e) × ((links_of o h f).face (iter k (walk_step side h) e) ≡ 0)
    walk-in side k = rw (step-rows side o h f)
        (beside-outer G.good.wf l b (position_of q) (turns_about cx cy (position_of q)) (position_of q 0) 0 side k)

    -- a walk stands, after k half-edges, where the last of them ends
    pub stands_at : (side : Side) (k : ℕ)
        → (halves_of h).origin (near_half side (walk_edge side h e k)) ≡ (halves_of h).origin (far_half side (iter k (walk_step side h) e))
    stands_at side k =
        ap (λ (d : ℕ). (halves_of h).origin (near_half side d)) (iter-last k (walk_step side h) e)
        ∙ meets side (walk-in side k).0

    -- ---- for any point in range and any angle
    module _ {v : Point} (R : InRange v) {a : Float} (A : IsAngle a) where
      -- what the walk on a side asks, from the end of e on that side
      pub to-walk : (side : Side) {r : BoundaryVertex} → VertexAt q h cx cy (far_half side e) r → ToWalk side q h cx cy v a e r
      unfolding links_of
      to-walk side {r} S =
          let α = turns_about cx cy (position_of q) in
          let m = walk_ends G.good.wf l b G.good.turning α v (turns a) side in
          let z = sym (stands_at side 0) in record {
            here = there (held G) l;
            each = λ k. (let w = walk-in side (suc k) in edge-about w.0 w.1);
            joined = λ k. stands_at side (suc k);
            from = record {
              position = S.position ∙ ap (position_of q) z;
              angle = record { is-angle = S.angle.is-angle; turns-are = S.angle.turns-are ∙ ap α z };
            };
            range = R;
            is-angle = A;
            most = m.0;
            fails = subst (λ (t : Bool). T (not t)) (sym (walk_rows side q o h f cx cy v a e (suc m.0))) m.2;
            small = let k = m.1 in let s = size_small (held G) in omega arith;
          }

      -- what it covers is the chain's part on that side
      pub walked-chain : (side : Side) {n : ℕ} → Covers side q h cx cy v a e n
          → chain_on side C (links_of o h f) (position_of q) (turns_about cx cy (position_of q)) v (turns a) e ≡ n
      walked-chain side {n} K =
          let L = links_of o h f in let α = turns_about cx cy (position_of q) in
          let r = walk_ends G.good.wf l b G.good.turning α v (turns a) side in
          first-fails (λ k. covers side L (position_of q) α v (turns a) (iter (suc k) (beside side L) e)) n
          (λ k u. subst T (walk_rows side q o h f cx cy v a e (suc k)) (K.covered k u))
          (subst (λ (t : Bool). T (not t)) (walk_rows side q o h f cx cy v a e (suc n)) K.stops)
          (boundary_length C L) r.0 r.1 r.2

    -- ---- the nodes of the chain from n half-edges before e to m after it: those of the two walks, and e's own
    walked-nodes : (side : Side) (n : ℕ)
        → tally (at_ends proper (halves_of h).next (origin_turns q h cx cy)) (walk n (walk_step side h) (walk_step side h e))
        ≡ tally (has_node q h cx cy) (walk n (walk_step side h) (walk_step side h e))
    walked-nodes side n = sym
        (tally-ext (at_ends proper (halves_of h).next (origin_turns q h cx cy)) (has_node q h cx cy) (walk_step side h) n (walk_step side h e)
        (λ k u. node-is (walk-in side (suc k)).0))

    pub chain-nodes : (n m : ℕ) {i j : ℕ}
        → i ≡ tally (has_node q h cx cy) (walk n (halves_of h).prev ((halves_of h).prev e))
        → j ≡ tally (has_node q h cx cy) (walk m (halves_of h).next ((halves_of h).next e))
        → node_count (halves_of h).next (origin_turns q h cx cy) (n + 1 + m) (iter n (halves_of h).prev e)
        ≡ i + bit (at_ends proper (halves_of h).next (origin_turns q h cx cy) e) + j
    unfolding links_of
    chain-nodes n m x y =
        let W = G.good.wf in
        let t = at_ends proper (halves_of h).next (origin_turns q h cx cy) in
        let s = iter n (halves_of h).prev e in
        let on : iter n (halves_of h).next s ≡ e = iter-back (inverse-sym (next-inverse W)) n l in
        let whole = ap (λ (k : ℕ). tally t (walk k (halves_of h).next s)) (regroup n m) ∙ tally-add t (halves_of h).next n (suc m) s in
        let first = tally-back (next-inverse W) t n l ∙ walked-nodes Left n in
        let rest = ap (λ (d : ℕ). tally t (walk (suc m) (halves_of h).next d)) on ∙ tally-first t (halves_of h).next m e in
        let last = walked-nodes Right m in
        omega arith
      where
        regroup : (i j : ℕ) → i + 1 + j ≡ i + suc j
        regroup i j = omega arith
