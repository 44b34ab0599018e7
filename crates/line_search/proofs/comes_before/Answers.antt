-- `line_search::comes_before` meets its contract: in 32 bits the keys are in the order of x, then y. Assumes nothing.
use Rattle.std.specs.Prelude.{◌≡◌, refl, ◌&&◌, ◌||◌, ◌⊎◌, List, [], ◌∷◌, suc, ◌<◌, ◌≤◌, ℤ, pos, negsuc, ◌+ℤ◌, ◌*ℤ◌, ◌<ℤ◌, ◌≤ℤ◌, T}
use Rattle.std.proofs.Common.{rules, sym, ◌∙◌, subst₂, arith, inl, inr, FitsSigned, to_z-of_z}
use Rattle.std.specs.Int.{w32, w64}
use Rattle.std.specs.Int.Signed.{mag, lt_z, le_z, lt_z_yes, le_z_yes}
use Rattle.algebra.proofs.Bound.{abs-le, abs-ge}
use Rattle.algebra.specs.Ring.{E, ◌⊕◌, ◌⊖◌, ◌⊗◌, ⊝◌}
use Rattle.algebra.proofs.RingLaws.{v0, v1, v2, v3, #◌}
use Rattle.algebra.proofs.Sign.{Pos, NN, ◌*°◌, ◌+⁺◌, less1, pos-in, nn-in, lt_in, le_in, cases, lt_by, le-by, refute}
use Rattle.algebra.proofs.Test.{test-ext}
use Rattle.sums.proofs.BitLaws.{or_cases, or_left, or_right, and_left, and_right, and_both}
use Rattle.math.specs.declared.Point.{Point}
use Rattle.line.specs.Order.{comes_before}
use Rattle.line_search.proofs.comes_before.Goals as goal

low : (z : ℤ) → mag z < 2147483648 → negsuc 2147483647 ≤ℤ z
low (pos n) h = le_z_yes tt
low (negsuc n) h = abs-ge {B = 2147483648} (let g : suc n ≤ 2147483648 = omega arith in g)

high : (z : ℤ) → mag z < 2147483648 → z ≤ℤ pos 2147483647
high (pos n) h = abs-le {B = 2147483647} (let g : n ≤ 2147483647 = omega arith in g)
high (negsuc n) h = le_z_yes tt

abbrev key : Point → ℤ
key a = a.x *ℤ pos 4294967296 +ℤ (a.y +ℤ pos 2147483648)

module _ (a b : Point) (fa : FitsSigned w32 a.y) (fb : FitsSigned w32 b.y) where
  abbrev ρ : List ℤ
  ρ = a.x ∷ a.y ∷ b.x ∷ b.y ∷ []

  abbrev A : E
  A = v0 ⊗ # 4294967296 ⊕ (v1 ⊕ # 2147483648)

  abbrev B : E
  B = v2 ⊗ # 4294967296 ⊕ (v3 ⊕ # 2147483648)

  low-a : NN ρ (v1 ⊖ ⊝ # 2147483648)
  low-a = le_in ρ (⊝ # 2147483648) v1 (low a.y fa.sfits)

  high-a : NN ρ (# 2147483647 ⊖ v1)
  high-a = le_in ρ v1 (# 2147483647) (high a.y fa.sfits)

  low-b : NN ρ (v3 ⊖ ⊝ # 2147483648)
  low-b = le_in ρ (⊝ # 2147483648) v3 (low b.y fb.sfits)

  high-b : NN ρ (# 2147483647 ⊖ v3)
  high-b = le_in ρ v3 (# 2147483647) (high b.y fb.sfits)

  large : NN ρ (# 4294967296)
  large = nn-in ρ (# 4294967296) (le_z_yes tt)

  one : Pos ρ (# 1)
  one = pos-in ρ (# 1) (lt_z_yes tt)

  before-key : T (comes_before a b) → key a <ℤ key b
  unfolding comes_before
  before-key t = go (or_cases (lt_z a.x b.x) _ t)
    where
      go : T (lt_z a.x b.x) ⊎ T (le_z a.x b.x && lt_z a.y b.y) → key a <ℤ key b
      go (inl h) = lt_by (one +⁺ large *° less1 (lt_in ρ v0 v2 (lt_z_yes h)) +⁺ low-b +⁺ high-a) A B refl
      go (inr h) = lt_by (lt_in ρ v1 v3 (lt_z_yes (and_right (le_z a.x b.x) _ h))
          +⁺ large *° le_in ρ v0 v2 (le_z_yes (and_left (le_z a.x b.x) _ h))) A B refl

  key-before : key a <ℤ key b → T (comes_before a b)
  unfolding comes_before
  key-before h = go (cases ρ (v2 ⊖ v0)) (cases ρ (v0 ⊖ v2))
    where
      k : Pos ρ (B ⊖ A)
      k = lt_in ρ A B h

      go : Pos ρ (v2 ⊖ v0) ⊎ NN ρ (⊝ (v2 ⊖ v0)) → Pos ρ (v0 ⊖ v2) ⊎ NN ρ (⊝ (v0 ⊖ v2))
          → T (lt_z a.x b.x || (le_z a.x b.x && lt_z a.y b.y))
      go (inl u) w = or_left (lt_z a.x b.x) _ (lt_by u v0 v2 refl).lt
      go (inr u) (inl w) = absurd (refute (k +⁺ large *° less1 w +⁺ high-b +⁺ low-a) tt)
      go (inr u) (inr w) = or_right (lt_z a.x b.x) _ (and_both (le_z a.x b.x) _ (le-by w v0 v2 refl).le (lt_by (k +⁺ large *° u) v1 v3 refl).lt)

  ordered : {u v : ℤ} → u ≡ key a → v ≡ key b → lt_z u v ≡ comes_before a b
  ordered p q =
      test-ext _ _ (λ t. key-before (subst₂ (λ (x y : ℤ). x <ℤ y) p q (lt_z_yes t)))
      (λ t. (subst₂ (λ (x y : ℤ). x <ℤ y) (sym p) (sym q) (before-key t)).lt)

pub returns : goal.returns
returns c =
    ordered c.args.a c.args.b (search rules) (search rules)
    (to_z-of_z {w = w64} {z = c.key.result} (search rules) ∙ c.key.ensures)
    (to_z-of_z {w = w64} {z = c.key-2.result} (search rules) ∙ c.key-2.ensures)
