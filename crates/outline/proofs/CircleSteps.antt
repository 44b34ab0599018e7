-- The steps to CircleHull: where the directions fall, and how far left of the first step the points are. Assumes nothing.
use Rattle.std.specs.Prelude.{◌≡◌, ◌⊎◌, not, ℕ, zero, suc, ◌+◌, ◌-◌, ◌≤◌, ◌<◌, ℤ, ◌+ℤ◌, ◌<ℤ◌, ◌≤ℤ◌}
use Rattle.std.proofs.Common.{sym, ◌∙◌, inl, inr, arith}
use Rattle.std.proofs.Math.Path.{ap, subst}
use Rattle.std.proofs.Math.Dec.{T, not_T}
use Rattle.std.proofs.Math.IntN.{pos}
use Rattle.std.specs.Int.Signed.{≤ℤ_refl, <ℤ_irrefl, clash_ℤ}
use Rattle.algebra.proofs.Order.{lt-le}
use Rattle.math.specs.declared.Point.{Point}
use Rattle.math.specs.declared.Vector.{Vector}
use Rattle.math.specs.Determinant.{orient2d}
use Rattle.math.proofs.Plane.{orient2d-aba}
use Rattle.math.specs.Vector.{difference, cross_of, dot_of}
use Rattle.math.proofs.VectorLaws.{orient2d-vectors}
use Rattle.sums.proofs.BitLaws.{test, and_both}
use Rattle.sums.specs.Bounded.{any_below, count}
use Rattle.sums.proofs.BoundedLaws.{any-below→, none-below→, count-sole}
use Rattle.outline.specs.Outline.{upper}
use Rattle.outline.proofs.OutlineLaws.{falls}
use Rattle.outline.proofs.Falls.{fall-between}
use Rattle.outline.proofs.VectorLaws.{cross-self, cross-step, falls-on, rose-to, three-signs}
use Rattle.outline.specs.HalfPlane.{SameWay, left}
use Rattle.outline.proofs.HalfPlaneLaws.{same-way-sym, RightTurn, left→, left←, not-left→, same-way-trans, right-turn-not-0, right-turn-into}
use Rattle.outline.proofs.Rounds.{leaves-left}

module _ (n : ℕ) (q : ℕ → Point) (back : q n ≡ q 0) (back₁ : q (suc n) ≡ q 1)
    (turn : (k : ℕ) → RightTurn (difference (q (suc k)) (q k)) (difference (q (suc (suc k))) (q (suc k))))
    (once : count n (falls (λ k. upper (difference (q (suc k)) (q k)))) ≤ 1) where
  -- the directions, and how far left of the first step the points are
  d : ℕ → Vector
  d k = difference (q (suc k)) (q k)

  f : ℕ → ℤ
  f k = cross_of (d 0) (difference (q k) (q 0))

  step : (k : ℕ) → f (suc k) ≡ f k +ℤ cross_of (d 0) (d k)
  unfolding d f
  step k = cross-step (q k) (q (suc k)) (q 0) (d 0)

  d-back : d n ≡ d 0
  unfolding d
  d-back = ap (λ (x : Point). difference x (q n)) back₁ ∙ ap (λ (x : Point). difference (q 1) x) back

  d-turn : (k : ℕ) → RightTurn (d k) (d (suc k))
  unfolding d
  d-turn k = turn k

  not-0 : pos 0 <ℤ dot_of (d 0) (d 0)
  not-0 = right-turn-not-0 (d 0) (d 1) (d-turn 0)

  t-once : count n (falls (λ k. left (d 0) (d k))) ≤ 1
  unfolding d
  t-once = subst (λ (m : ℕ). m ≤ 1) (sym (leaves-left n d d-back d-turn (d 0) not-0)) once

  -- from k on to n there is a fall, or the k-th direction is the first one's
  last-fall : (m k : ℕ) → m + k ≡ n → SameWay (d 0) (d k) ⊎ ((i : ℕ) × (k ≤ i) × (i < n) × T (falls (λ k. left (d 0) (d k)) i))
  last-fall zero k p = inl (subst (SameWay (d 0)) (sym d-back ∙ ap d (end n k p)) (record { parallel = cross-self (d 0); ahead = not-0 }))
    where
      end : (n k : ℕ) → 0 + k ≡ n → n ≡ k
      end n k p = omega arith
  last-fall (suc m) k p = go (last-fall m (suc k) (omega arith)) (d-turn k)
    where
      go : SameWay (d 0) (d (suc k)) ⊎ ((i : ℕ) × (suc k ≤ i) × (i < n) × T (falls (λ k. left (d 0) (d k)) i))
          → RightTurn (d k) (d (suc k))
          → SameWay (d 0) (d k) ⊎ ((i : ℕ) × (k ≤ i) × (i < n) × T (falls (λ k. left (d 0) (d k)) i))
      go (inr r) u = let l = r.1 in inr (r.0, (omega arith), r.2, r.3)
      go (inl s) (inr u) = inl (same-way-trans (d 0) (d (suc k)) (d k) s (same-way-sym u))
      go (inl s) (inl u) = inr (
        k,
        (omega arith),
        (omega arith),
        and_both (left (d 0) (d k)) (not (left (d 0) (d (suc k))))
            (left← (d 0) (d k) (right-turn-into (d 0) (d k) (d (suc k)) s u))
            (not_T (left (d 0) (d (suc k))) (λ h. <ℤ_irrefl (subst (λ (z : ℤ). pos 0 <ℤ z) s.parallel (left→ (d 0) (d (suc k)) h)))),
      )

  -- once a direction was left of the first one, the later ones are left of it or along it
  rises : (k i : ℕ) → k ≤ i → i < n → T (left (d 0) (d k)) → pos 0 ≤ℤ cross_of (d 0) (d i)
  rises k i l m t = go (three-signs (cross_of (d 0) (d i)))
    where
      below : cross_of (d 0) (d i) <ℤ pos 0 → SameWay (d 0) (d i) ⊎ ((j : ℕ) × (i ≤ j) × (j < n) × T (falls (λ k. left (d 0) (d k)) j)) → ⊥
      below h (inl s) = <ℤ_irrefl (subst (λ (z : ℤ). z <ℤ pos 0) s.parallel h)
      below h (inr r) =
          let b = fall-between (λ k. left (d 0) (d k)) k i l t (not_T (left (d 0) (d i)) (λ u. clash_ℤ h (lt-le (left→ (d 0) (d i) u)))) in
          let u = b.2 in let v = r.1 in
          let e = count-sole n (falls (λ k. left (d 0) (d k))) b.0 r.0 t-once (omega arith) r.2 b.3 r.3 in
          omega arith

      go : (cross_of (d 0) (d i) <ℤ pos 0) ⊎ ((cross_of (d 0) (d i) ≡ pos 0) ⊎ (pos 0 <ℤ cross_of (d 0) (d i))) → pos 0 ≤ℤ cross_of (d 0) (d i)
      go (inl h) = absurd (below h (last-fall (n - i) i (omega arith)))
      go (inr (inl h)) = subst (λ (z : ℤ). pos 0 ≤ℤ z) (sym h) (≤ℤ_refl (pos 0))
      go (inr (inr h)) = lt-le h

  f-0 : f 0 ≡ pos 0
  unfolding f d
  f-0 = orient2d-vectors (q 0) (q 1) (q 0) ∙ orient2d-aba (q 0) (q 1)

  f-n : f n ≡ pos 0
  unfolding f
  f-n = ap (λ (x : Point). cross_of (d 0) (difference x (q 0))) back ∙ f-0

  -- f does not rise before such a direction, and does not fall after it
  forwards : (j : ℕ) → ((k : ℕ) → k < j → T (not (left (d 0) (d k)))) → f j ≤ℤ pos 0
  forwards zero off = subst (λ (z : ℤ). z ≤ℤ pos 0) (sym f-0) (≤ℤ_refl (pos 0))
  forwards (suc j) off = falls-on (f j) (f (suc j)) (pos 0) (cross_of (d 0) (d j)) (step j) (not-left→ (d 0) (d j) (off j (omega arith))) (forwards j (λ k l. off k (omega arith)))

  backwards : (m j : ℕ) → m + j ≡ n → ((i : ℕ) → j ≤ i → i < n → pos 0 ≤ℤ cross_of (d 0) (d i)) → f j ≤ℤ pos 0
  backwards zero j p on = subst (λ (z : ℤ). z ≤ℤ pos 0) (sym f-n ∙ ap f (end n j p)) (≤ℤ_refl (pos 0))
    where
      end : (n k : ℕ) → 0 + k ≡ n → n ≡ k
      end n k p = omega arith
  backwards (suc m) j p on = rose-to (f j) (f (suc j)) (pos 0) (cross_of (d 0) (d j)) (step j) (on j (omega arith) (omega arith)) (backwards m (suc j) (omega arith) (λ i l u. on i (omega arith) u))

  pub steps-turned : (j : ℕ) → j ≤ n → orient2d (q 0) (q 1) (q j) ≤ℤ pos 0
  unfolding f d
  steps-turned j l = subst (λ (z : ℤ). z ≤ℤ pos 0) (orient2d-vectors (q 0) (q 1) (q j)) (go (test (any_below j (λ k. left (d 0) (d k)))))
    where
      go : T (any_below j (λ k. left (d 0) (d k))) ⊎ T (not (any_below j (λ k. left (d 0) (d k)))) → f j ≤ℤ pos 0
      go (inl h) = let r = any-below→ j (λ k. left (d 0) (d k)) h in let m = r.1 in
          backwards (n - j) j (omega arith) (λ i u v. rises r.0 i (omega arith) v r.2)
      go (inr h) = forwards j (λ k u. not_T (left (d 0) (d k)) (none-below→ j (λ k. left (d 0) (d k)) h k u))
