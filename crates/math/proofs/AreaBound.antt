-- A triangle in range has at most half the square's area: its doubled area is at most 2 ^ 50. Assumes nothing.
use Rattle.std.specs.Prelude.{◌≡◌, refl, [], ◌∷◌, ℕ, suc, ◌+◌, ◌*◌, ◌-◌, ◌^◌, ◌≤◌, ◌<◌, ℤ, pos, negsuc, nat_abs, ◌+ℤ◌, ◌-ℤ◌, ◌*ℤ◌}
use Rattle.std.proofs.Common.{◌∙◌, ap, ap₂, le_refl, arith}
use Rattle.std.proofs.Math.Decide.{dec_lt}
use Rattle.algebra.specs.Ring.{◌⊕◌, ◌⊖◌, ◌⊗◌, ⊝◌}
use Rattle.algebra.proofs.RingLaws.{v0, v1, v2, v3, v4, v5, ring}
use Rattle.algebra.proofs.Bound.{[]ᵉ, ◌∷ᵉ◌, within, nat_abs-neg}
use Rattle.math.specs.declared.Point.{Point}
use Rattle.math.specs.Determinant.{Orient2d, InRange, orient2d}
use Rattle.math.proofs.Plane.{E·, A, B, C, env3}

-- a number of at most M without its sign, moved up by M
moved : (M : ℕ) (z : ℤ) → nat_abs z ≤ M → (n : ℕ) × (z ≡ pos n -ℤ pos M) × (n ≤ 2 * M)
moved M (pos a) h = (a + M, ring (pos a ∷ pos M ∷ []) v0 (v0 ⊕ v1 ⊖ v1) refl, omega arith)
moved M (negsuc a) h =
    let e : M - suc a + suc a ≡ M = omega arith in (
      M - suc a,
      ring (pos (M - suc a) ∷ pos (suc a) ∷ []) (⊝ v1) (v0 ⊖ (v0 ⊕ v1)) refl
          ∙ ap (λ (m : ℕ). pos (M - suc a) -ℤ pos m) e,
      omega arith,
    )

-- the distance of two natural numbers: one of the two differences is 0
apart : (m n : ℕ) → nat_abs (pos m -ℤ pos n) ≡ m - n + (n - m)
apart m n = go (dec_lt m n)
  where
    go : Dec (m < n) → nat_abs (pos m -ℤ pos n) ≡ m - n + (n - m)
    go (yes l) =
        let e : n ≡ m + (n - m) = omega arith in
        ap (λ (k : ℕ). nat_abs (pos m -ℤ pos k)) e
        ∙ ap nat_abs (ring (pos m ∷ pos (n - m) ∷ []) (v0 ⊖ (v0 ⊕ v1)) (⊝ v1) refl)
        ∙ nat_abs-neg (pos (n - m)) ∙ omega arith
    go (no l) =
        let e : m ≡ n + (m - n) = omega arith in
        ap (λ (k : ℕ). nat_abs (pos k -ℤ pos n)) e
        ∙ ap nat_abs (ring (pos n ∷ pos (m - n) ∷ []) (v0 ⊕ v1 ⊖ v0) v1 refl)
        ∙ omega arith

-- three numbers from -M to M: their distances add up to twice the largest, so to 4M at most
distances : (M : ℕ) (a b c : ℤ) → nat_abs a ≤ M → nat_abs b ≤ M → nat_abs c ≤ M
    → nat_abs (b -ℤ c) + nat_abs (c -ℤ a) + nat_abs (a -ℤ b) ≤ 4 * M
distances M a b c h k l =
    let x = moved M a h in
    let y = moved M b k in
    let z = moved M c l in
    let p = between b c _ _ y.1 z.1 in
    let q = between c a _ _ z.1 x.1 in
    let r = between a b _ _ x.1 y.1 in
    omega (arith, x.2, y.2, z.2)
  where
    between : (u v : ℤ) (m n : ℕ) → u ≡ pos m -ℤ pos M → v ≡ pos n -ℤ pos M → nat_abs (u -ℤ v) ≡ m - n + (n - m)
    between u v m n e f =
        ap₂ (λ (s t : ℤ). nat_abs (s -ℤ t)) e f
        ∙ ap nat_abs (ring (pos m ∷ pos n ∷ pos M ∷ []) (v0 ⊖ v2 ⊖ (v1 ⊖ v2)) (v0 ⊖ v1) refl)
        ∙ apart m n

pub area-bound : {a b c : Point} → InRange a → InRange b → InRange c → nat_abs (orient2d a b c) ≤ 2 ^ 50
unfolding orient2d
area-bound {a} {b} {c} h k l =
    let u = b.y -ℤ c.y in
    let v = c.y -ℤ a.y in
    let w = a.y -ℤ b.y in
    let e : orient2d a b c ≡ a.x *ℤ u +ℤ b.x *ℤ v +ℤ c.x *ℤ w =
    ring (env3 a b c) (Orient2d E· A B C) (A.x ⊗ (B.y ⊖ C.y) ⊕ B.x ⊗ (C.y ⊖ A.y) ⊕ C.x ⊗ (A.y ⊖ B.y)) refl in
    rw e (at_most (nat_abs u) (nat_abs v) (nat_abs w) (distances 16777216 a.y b.y c.y h.y k.y l.y)
    (within {ρ = a.x ∷ b.x ∷ c.x ∷ u ∷ v ∷ w ∷ []}
    (h.x ∷ᵉ k.x ∷ᵉ l.x ∷ᵉ le_refl (nat_abs u) ∷ᵉ le_refl (nat_abs v) ∷ᵉ le_refl (nat_abs w) ∷ᵉ []ᵉ)
    (v0 ⊗ v3 ⊕ v1 ⊗ v4 ⊕ v2 ⊗ v5)))
  where
    at_most : (x y z : ℕ) {n : ℕ} → x + y + z ≤ 4 * 16777216 → n ≤ 16777216 * x + 16777216 * y + 16777216 * z → n ≤ 2 ^ 50
    at_most x y z d h = omega arith
