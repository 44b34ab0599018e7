-- A loop that looks for the first number that a test names, and the search over the seed's vertices and the points after them. Assumes nothing.
use mathlib.Core.Path.{◌≡◌, sym, ◌∙◌, ap, subst}
use mathlib.Core.Bool.{Bool, true, false}
use mathlib.Core.List.{List}
use Prim.Native.Nat.{ℕ, ◌+◌, ◌-◌, ◌*◌, ◌/◌, ◌%◌, ◌<◌, ◌≤◌}
use native.Mathlib.Decide.{dec_lt, ℕ_discrete}
use native.Mathlib.Nat.{le_refl}
use native.Mathlib.Omega.{arith}
use borrow.Author.Tests.{lt-ltb, le-ltb}
use lib.Dec.{T, ltb}
use lib.IntN.{ℤ}
use lib.ListN.{length}
use Rattle.math.specs.declared.Point.{Point}
use Rattle.mesh_check.specs.Check.{is_outside, first_outside, vertex_or_point, point_count}
use Rattle.mesh_check.proofs.AcceptedLaws.{vertex-is, point-is}
use Rattle.sums.proofs.BitLaws.{from-true}
use Rattle.sums.specs.Bounded.{first_below}
use Rattle.sums.proofs.BoundedLaws.{first-below-is, first-below-le, first-below-passes, first-below-before}

-- nothing below k passes
pub record Missed (t : ℕ → Bool) (k : ℕ) : Type 0 where
  pub before : (j : ℕ) → j < k → T (t j) → ⊥

pub missed-none : (t : ℕ → Bool) → Missed t 0
missed-none t = record { before = λ j l u. omega arith }

pub missed_more : (t : ℕ → Bool) (k : ℕ) → Missed t k → t k ≡ false → Missed t (k + 1)
missed_more t k M e = record { before = λ j l u. go j l u (ℕ_discrete j k) }
  where
    go : (j : ℕ) → j < k + 1 → T (t j) → Dec (j ≡ k) → ⊥
    go j l u (yes q) = subst T (ap t q ∙ e) u
    go j l u (no q) = M.before j (omega arith) u

pub found : (t : ℕ → Bool) (k n : ℕ) → k < n → Missed t k → t k ≡ true → k ≡ first_below n t
found t k n l M e = sym (first-below-is n t (omega arith) (λ _. from-true e) M.before)

pub found_none : (t : ℕ → Bool) (k n : ℕ) → k ≡ n → Missed t k → n ≡ first_below n t
found_none t k n e M = sym (first-below-is n t (le_refl n) (λ l. absurd (omega arith)) (λ j l. M.before j (omega arith)))

-- ---- a row of points, by whether its last number stands alone
module _ (points : List ℤ) where
  pub alone : (length points % 2 ≡ 0 → ⊥) → ltb (length points) (2 * point_count points) ≡ true
  unfolding point_count
  alone n = lt-ltb (length points) (2 * ((length points + 1) / 2)) (omega arith)

  pub paired : length points % 2 ≡ 0 → ltb (length points) (2 * point_count points) ≡ false
  unfolding point_count
  paired e = le-ltb (length points) (2 * ((length points + 1) / 2)) (omega arith)

-- ---- the seed's vertices, and then the points
module _ (s m : ℕ) (p q : ℕ → Point) {i : ℕ} (e : i ≡ first_outside s p) where
  abbrev both : ℕ → Point
  both = vertex_or_point s p q

  early : (v : ℕ) → v < i → T (is_outside (both v)) → ⊥
  unfolding first_outside
  early v l t = first-below-before s (λ v. is_outside (p v)) v (omega arith)
      (subst (λ (w : Point). T (is_outside w)) (vertex-is s p q v (let k = first-below-le s (λ v. is_outside (p v)) in omega arith)) t)

  pub in-seed : i < s → i ≡ first_outside (s + m) both
  unfolding first_outside
  in-seed l = sym (first-below-is (s + m) (λ v. is_outside (both v)) (omega arith)
      (λ _. subst (λ (w : Point). T (is_outside w)) (sym (vertex-is s p q i l))
      (subst (λ (v : ℕ). T (is_outside (p v))) (sym e) (first-below-passes s (λ v. is_outside (p v)) (omega arith)))) early)

  pub in-points : s ≤ i → {j : ℕ} → j ≡ first_outside m q → s + j ≡ first_outside (s + m) both
  unfolding first_outside
  in-points l {j} d =
      let k = first-below-le m (λ v. is_outside (q v)) in
      sym (first-below-is (s + m) (λ v. is_outside (both v)) (omega arith)
      (λ u. subst (λ (w : Point). T (is_outside w)) (sym (point-is s p q j))
      (subst (λ (v : ℕ). T (is_outside (q v))) (sym d) (first-below-passes m (λ v. is_outside (q v)) (omega arith)))) (λ v u. late v u (dec_lt v s)))
    where
      late : (v : ℕ) → v < s + j → Dec (v < s) → T (is_outside (both v)) → ⊥
      late v u (yes w) t = early v (omega arith) t
      late v u (no w) t =
          let r : v ≡ s + (v - s) = omega arith in
          first-below-before m (λ v. is_outside (q v)) (v - s) (omega arith)
          (subst (λ (w : Point). T (is_outside w)) (ap both r ∙ point-is s p q (v - s)) t)

pub outside-most : (n : ℕ) (p : ℕ → Point) {i : ℕ} → i ≡ first_outside n p → i ≤ n
unfolding first_outside
outside-most n p e = let l = first-below-le n (λ v. is_outside (p v)) in omega arith
