-- The chain that a step covers of a mesh's boundary. A new point never sees the whole boundary, so that an edge is left
-- over; the located edge is on the chain; and whether the boundary that the step would leave has a sound ring is
-- decided by the local test, and is so of the boundary that it does leave. Assumes nothing.
use Rattle.std.specs.Prelude.{◌≡◌, ◌⊎◌, Bool, ◌||◌, [], ◌∷◌, map, eqb, ◌+ℤ◌, ◌-ℤ◌, ◌<ℤ◌}
use Rattle.std.proofs.Math.Path.{refl, sym, ap, ap₂, subst}
use Rattle.std.proofs.Common.{◌∙◌, inl, inr, T_not}
use Rattle.std.proofs.Math.Bool.{not}
use Prim.Native.Nat.{ℕ, zero, suc, ◌+◌, ◌-◌, ◌<◌, ◌≤◌}
use native.Mathlib.Omega.{arith}
use Rattle.std.proofs.Math.Dec.{T, not_T}
use Rattle.std.proofs.Math.IntN.{ℤ, pos, neg_ℤ}
use Rattle.std.specs.Int.Signed.{lt_z_yes}
use Rattle.algebra.specs.Ring.{num, ◌⊕◌, ◌⊖◌, ⊝◌}
use Rattle.algebra.proofs.RingLaws.{v0, v1, v2, ring}
use Rattle.algebra.proofs.Sign.{pos-in, weak, ◌+⁺◌, refute}
use Rattle.math.specs.declared.Point.{Point}
use Rattle.math.specs.Determinant.{orient2d, is_behind_edge}
use Rattle.math.proofs.Plane.{orient2d-swap}
use Rattle.mesh.specs.declared.Counts.{Counts}
use Rattle.mesh.specs.Mesh.{Links, In, to}
use Rattle.mesh.specs.Wf.{Wf}
use Rattle.mesh.specs.Area.{boundary_length, boundary_area, cross, LeftTurning}
use Rattle.mesh.proofs.AreaLaws.{cross-back, area-cross}
use Rattle.mesh.proofs.BoundaryLaws.{next-inverse, first<, first-outer, boundary-least, boundary-period, period-back}
use Rattle.mesh.proofs.LeftLaws.{boundary-positive}
use Rattle.segment.specs.Arc.{holds}
use Rattle.sums.specs.Bit.{test-ext}
use Rattle.sums.proofs.BitLaws.{test, and_right, sure}
use Rattle.sums.specs.Bounded.{any_below}
use Rattle.sums.proofs.BoundedLaws.{first-below-at-most, first-below-before, first-below-passes, any-below→, none-below→}
use Rattle.sums.specs.Iterate.{iter}
use Rattle.sums.proofs.IterateLaws.{iter-add, iter-last, iter-keeps, iter-back, inverse-sym}
use Rattle.sums.specs.Sum.{sum}
use Rattle.sums.proofs.SumLaws.{sum-ext, sum-add, sum-neg, sum-positive}
use Rattle.sums.specs.Tally.{tally, walk}
use Rattle.ring.specs.Ring.{full_turn, proper, edge_angle, at_ends, is_sound, is_sound_ring}
use Rattle.ring.specs.Sound.{Sound}
use Rattle.ring.proofs.Merged.{sound-round, round-sound}
use Rattle.ring.proofs.Boundary.{outer-round, outer-walk, outer-on, sound-outer, outer-sound}
use Rattle.ring.specs.declared.Side.{Side}
use Rattle.ring.specs.declared.Side.TheVariants.{Left, Right}
use Rattle.ring.specs.Chain.{sees_edge, beside, behind, near_end, covers, covers_left, covers_right}
use Rattle.ring.specs.Chain.{chain_on, left_chain, right_chain, chain_start, chain_length, angles_after, sound_after, is_fit}
use Rattle.ring.proofs.ChainLaws.{sound-after, spliced-angles}
use Rattle.ring.specs.Covered.{Covered}

-- ---- a new point never sees the whole boundary
telescope : (n : ℕ) (g : ℕ → ℤ) → sum n (λ k. g (suc k) -ℤ g k) ≡ g n -ℤ g 0
unfolding sum
telescope zero g = ring (g 0 ∷ []) (num (pos 0)) (v0 ⊖ v0) refl
telescope (suc n) g =
    ap (λ (z : ℤ). z +ℤ (g (suc n) -ℤ g n)) (telescope n g) ∙ ring (g 0 ∷ g n ∷ g (suc n) ∷ []) (v1 ⊖ v0 ⊕ (v2 ⊖ v1)) (v2 ⊖ v0) refl

module _ {C : Counts} {L : Links} (W : Wf C L) {p : ℕ → Point} (F : LeftTurning C L p) (v : Point) where
  h : ℕ
  h = boundary_length C L

  -- the boundary's vertices, against next
  back : ℕ → ℕ
  back k = iter k L.prev (L.adjacent 0)

  u : ℕ → Point
  u k = p (L.origin (back k))

  -- the areas of v with the boundary's edges total less than nothing
  sees-total : sum h (λ k. orient2d (u (suc k)) (u k) v) ≡ neg_ℤ (boundary_area C L p)
  unfolding boundary_area h u back
  sees-total =
      let n = boundary_length C L in
      let g : ℕ → ℤ = λ k. cross (u k) v in
      let a : ℕ → ℤ = λ k. cross (u k) (u (suc k)) in
      sum-ext n {g = λ k. neg_ℤ (a k +ℤ (g (suc k) -ℤ g k))} (λ k l. one (u k) (u (suc k)))
      ∙ sum-neg n (λ k. a k +ℤ (g (suc k) -ℤ g k))
      ∙ ap neg_ℤ
      (sum-add n a (λ k. g (suc k) -ℤ g k) ∙ ap₂ (λ (x y : ℤ). x +ℤ y) (sum-ext n (λ k l. ap (λ (x : ℕ). cross (u k) (p (L.origin x))) (iter-last k L.prev (L.adjacent 0)))) (telescope n g)
      ∙ none (boundary_area C L p) (g n) (g 0)
      (ap (λ (x : ℕ). cross (p (L.origin x)) v) (period-back (next-inverse W) (first< W) (boundary-period W)).back))
    where
      one : (a b : Point) → orient2d b a v ≡ neg_ℤ (cross a b +ℤ (cross b v -ℤ cross a v))
      one a b =
          orient2d-swap a b v ∙ ap neg_ℤ (area-cross a b v ∙ ap (λ (z : ℤ). cross a b +ℤ cross b v +ℤ z) (cross-back v a)
          ∙ ring (cross a b ∷ cross b v ∷ cross a v ∷ []) (v0 ⊕ v1 ⊕ ⊝ v2) (v0 ⊕ (v1 ⊖ v2)) refl)

      none : (a b c : ℤ) → b ≡ c → a +ℤ (b -ℤ c) ≡ a
      none a b c e = ap (λ (z : ℤ). a +ℤ (z -ℤ c)) e ∙ ring (a ∷ c ∷ []) (v0 ⊕ (v1 ⊖ v1)) v0 refl

  -- so v is not strictly left of all of them
  sees : ℕ → Bool
  sees k = sees_edge L p v (back (suc k))

  sees-orient : (k : ℕ) → T (sees k) → pos 0 <ℤ orient2d (u (suc k)) (u k) v
  unfolding sees u back
  sees-orient k t = subst (λ (x : ℕ). pos 0 <ℤ orient2d (p (L.origin (back (suc k)))) (p x) v) end (lt_z_yes t)
    where
      end : to L (iter (suc k) L.prev (L.adjacent 0)) ≡ L.origin (iter k L.prev (L.adjacent 0))
      end =
          let m = iter-keeps (In C) (λ e l. W.ranges.prev< l) k (first< W) in
          ap (to L) (iter-last k L.prev (L.adjacent 0)) ∙ sym (W.links.origin-next (W.ranges.prev< m))
          ∙ ap L.origin (W.links.next-prev m)

  pub some-unseen : (d : ℕ) × In C d × (L.face d ≡ 0) × T (not (sees_edge L p v d))
  unfolding h sees back
  some-unseen = go (test (any_below (boundary_length C L) (λ k. not (sees k))))
    where
      stay : (k : ℕ) → In C (iter k L.prev (L.adjacent 0)) × (L.face (iter k L.prev (L.adjacent 0)) ≡ 0)
      stay k = iter-keeps (λ x. In C x × (L.face x ≡ 0))
          (λ x m. (W.ranges.prev< m.0, sym (W.links.face-next (W.ranges.prev< m.0)) ∙ ap L.face (W.links.next-prev m.0) ∙ m.1))
          k (first< W, first-outer W)

      go : T (any_below (boundary_length C L) (λ k. not (sees k))) ⊎ T
          (not (any_below (boundary_length C L) (λ k. not (sees k))))
          → (d : ℕ) × In C d × (L.face d ≡ 0) × T (not (sees_edge L p v d))
      go (inl t) =
          let r = any-below→ (boundary_length C L) (λ k. not (sees k)) t in
          (back (suc r.0), (stay (suc r.0)).0, (stay (suc r.0)).1, r.2)
      go (inr t) =
          let n = none-below→ (boundary_length C L) (λ k. not (sees k)) t in
          let all = sum-positive (boundary_length C L) (λ k. orient2d (u (suc k)) (u k) v) (let b = boundary-least W in omega arith)
          (λ k l. sees-orient k (sure (sees k) (n k l))) in
          let ρ = boundary_area C L p ∷ [] in
          absurd (refute (pos-in ρ (⊝ v0) (subst (λ (z : ℤ). pos 0 <ℤ z) sees-total all) +⁺ weak (pos-in ρ v0 (boundary-positive W F))) tt)

-- ---- the chain of a boundary edge e
module _ {C : Counts} {L : Links} (W : Wf C L) (p : ℕ → Point) (α : ℕ → ℕ) (v : Point) (q : ℕ) {e : ℕ} (l : In C e)
    (o : L.face e ≡ 0) where
  -- the edges of either walk are covered, and the one after them is not
  pub chain-covered : (side : Side) (k : ℕ) → k < chain_on side C L p α v q e → T (covers side L p α v q (iter (suc k) (beside side L) e))
  chain-covered side k u =
      sure (covers side L p α v q (iter (suc k) (beside side L) e))
      (first-below-before (boundary_length C L) (λ k. not (covers side L p α v q (iter (suc k) (beside side L) e))) k u)

  pub chain-stops : (side : Side) → (let m = chain_on side C L p α v q e in
      m < boundary_length C L → T (not (covers side L p α v q (iter (suc m) (beside side L) e))))
  chain-stops side u = first-below-passes (boundary_length C L) (λ k. not (covers side L p α v q (iter (suc k) (beside side L) e))) u

  -- an edge that is covered has v strictly on its left
  pub covers-sees : (side : Side) (d : ℕ) → T (covers side L p α v q d) → T (sees_edge L p v d)
  covers-sees side d t =
      and_right (not (behind side (p (L.origin d)) (p (to L d)) v) || eqb q (α (near_end side L d))) (sees_edge L p v d) t

  -- so the chain on a side is no longer than the way to an edge that v does not see
  pub chain-most : (side : Side) (m : ℕ) → T (not (sees_edge L p v (iter (suc m) (beside side L) e))) → chain_on side C L p α v q e ≤ m
  chain-most side m n =
      let d = iter (suc m) (beside side L) e in
      first-below-at-most (boundary_length C L) (λ k. not (covers side L p α v q (iter (suc k) (beside side L) e))) m
      (not_T (covers side L p α v q d) (λ c. T_not (sees_edge L p v d) n (covers-sees side d c)))

  -- the same, side by side
  pub left-covered : (k : ℕ) → k < left_chain C L p α v q e → T (covers_left L p α v q (iter (suc k) L.prev e))
  unfolding left_chain covers_left
  left-covered = chain-covered Left

  pub right-covered : (k : ℕ) → k < right_chain C L p α v q e → T (covers_right L p α v q (iter (suc k) L.next e))
  unfolding right_chain covers_right
  right-covered = chain-covered Right

  pub left-stops : left_chain C L p α v q e < boundary_length C L
      → T (not (covers_left L p α v q (iter (suc (left_chain C L p α v q e)) L.prev e)))
  unfolding left_chain covers_left
  left-stops = chain-stops Left

  pub right-stops : right_chain C L p α v q e < boundary_length C L
      → T (not (covers_right L p α v q (iter (suc (right_chain C L p α v q e)) L.next e)))
  unfolding right_chain covers_right
  right-stops = chain-stops Right

  pub left-sees : (d : ℕ) → T (covers_left L p α v q d) → T (sees_edge L p v d)
  unfolding covers_left
  left-sees = covers-sees Left

  pub right-sees : (d : ℕ) → T (covers_right L p α v q d) → T (sees_edge L p v d)
  unfolding covers_right
  right-sees = covers-sees Right

  -- ---- its first edge
  pub before-walk : (k : ℕ) → In C (iter k L.prev e) × (L.face (iter k L.prev e) ≡ 0)
  before-walk k = iter-keeps (λ x. In C x × (L.face x ≡ 0))
      (λ x m. (W.ranges.prev< m.0, sym (W.links.face-next (W.ranges.prev< m.0)) ∙ ap L.face (W.links.next-prev m.0) ∙ m.1))
      k (l, o)

  -- e is on the chain
  pub start-walk : iter (left_chain C L p α v q e) L.next (chain_start C L p α v q e) ≡ e
  start-walk = iter-back (inverse-sym (next-inverse W)) (left_chain C L p α v q e) l

  -- ---- an edge is left over, where v is strictly left of e
  module _ (F : LeftTurning C L p) (seen : T (sees_edge L p v e)) where
    pub chain-short : chain_length C L p α v q e < boundary_length C L
    unfolding left_chain right_chain
    chain-short = let r = some-unseen W F v in go r.0 r.3 (outer-on W l o r.1 r.2)
      where
        go : (d : ℕ) → T (not (sees_edge L p v d)) → (k : ℕ) × (k < boundary_length C L) × (iter k L.next e ≡ d)
            → chain_length C L p α v q e < boundary_length C L
        go d t (zero, u, z) = absurd (T_not (sees_edge L p v e) (subst (λ (x : ℕ). T (not (sees_edge L p v x))) (sym z) t) seen)
        go d t (suc j, u, z) =
            let n = boundary_length C L in
            let i = n - suc (suc j) in
            let there : suc j + suc i ≡ n = omega arith in
            let back : iter (suc i) L.prev e ≡ iter (suc j) L.next e =
            ap (iter (suc i) L.prev)
            (sym (outer-round W l o) ∙ ap (λ (k : ℕ). iter k L.next e) (sym there) ∙ iter-add (suc j) (suc i) L.next e)
            ∙ iter-back (next-inverse W) (suc i) (outer-walk W l o (suc j)).0 in
            let left = chain-most Left i (subst (λ (x : ℕ). T (not (sees_edge L p v x))) (sym (back ∙ z)) t) in
            let right = chain-most Right j (subst (λ (x : ℕ). T (not (sees_edge L p v x))) (sym z) t) in
            omega arith

    -- the rest of the boundary leads from the chain's end back to its start
    pub chain-round : iter (boundary_length C L - chain_length C L p α v q e) L.next
        (iter (chain_length C L p α v q e) L.next (chain_start C L p α v q e)) ≡ chain_start C L p α v q e
    chain-round =
        let m = chain_length C L p α v q e in let n = boundary_length C L in let s = chain_start C L p α v q e in
        let b = before-walk (left_chain C L p α v q e) in
        sym (iter-add m (n - m) L.next s) ∙ ap (λ (k : ℕ). iter k L.next s) (whole m n chain-short) ∙ outer-round W b.0 b.1
      where
        whole : (m n : ℕ) → m < n → m + (n - m) ≡ n
        whole m n u = omega arith

    -- FATE 4 IS DECIDED BY THE CHAIN ALONE, where e holds q in a sound ring: that is, where e is located at q
    pub chain-sound : T (is_sound_ring C L α) → T (at_ends (holds q) L.next (edge_angle L α) e)
        → sound_after C L p α v q e
        ≡ is_fit full_turn (edge_angle L α (chain_start C L p α v q e)) q
        (edge_angle L α (iter (chain_length C L p α v q e) L.next (chain_start C L p α v q e)))
        (tally (at_ends proper L.next (edge_angle L α)) (walk (chain_length C L p α v q e) L.next (chain_start C L p α v q e)))
        (tally (at_ends proper L.next (edge_angle L α)) (walk (boundary_length C L) L.next (chain_start C L p α v q e)))
    unfolding sound_after angles_after
    chain-sound t g =
        let m = chain_length C L p α v q e in let n = boundary_length C L in let s = chain_start C L p α v q e in
        let r = iter m L.next s in
        let a = edge_angle L α in
        let b = before-walk (left_chain C L p α v q e) in
        let whole : m + (n - m) ≡ n = (let u = chain-short in omega arith) in
        sound-after L.next a s m (n - m) q r refl chain-round
        (subst (Sound full_turn L.next a s) (sym whole) (sound-outer W α t b.0 b.1)) (left_chain C L p α v q e) (omega arith)
        (subst (λ (x : ℕ). T (at_ends (holds q) L.next a x)) (sym start-walk) g)
        ∙ ap
        (λ (k : ℕ). is_fit full_turn (a s) q (a r) (tally (at_ends proper L.next a) (walk m L.next s)) (tally (at_ends proper L.next a) (walk k L.next s)))
        whole

-- ---- the boundary that the step leaves is the one that was decided about
pub covered-sound : (C : Counts) (L : Links) (α : ℕ → ℕ) {C' : Counts} {L' : Links} {α'' : ℕ → ℕ} {s m l p q : ℕ} → Wf C' L'
    → Covered L.next (edge_angle L α) C' L' α'' s m (boundary_length C L - m) l p q (iter m L.next s)
    → is_sound_ring C' L' α'' ≡ is_sound full_turn (angles_after C L α q s m)
unfolding angles_after
covered-sound C L α {C'} {L'} {α''} {s} {m} {l} {p} {q} W K =
    let n = suc (suc (boundary_length C L - m)) in
    let f = L'.next in let a = edge_angle L' α'' in
    let r : iter n f l ≡ l = ap (λ (k : ℕ). iter k f l) (sym K.length) ∙ outer-round W K.in_use K.outer in
    test-ext (is_sound_ring C' L' α'') (is_sound full_turn (map a (walk n f l)))
    (λ t. round-sound (subst (Sound full_turn f a l) K.length (sound-outer W α'' t K.in_use K.outer)))
    (λ t. outer-sound W α'' K.in_use K.outer (subst (Sound full_turn f a l) (sym K.length) (sound-round full_turn f a l n r t)))
    ∙ ap (is_sound full_turn) (spliced-angles K.spliced)
