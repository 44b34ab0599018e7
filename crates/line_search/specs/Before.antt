-- The order of positions, also of those out of range: it is transitive, nothing comes before itself, and what the tests of
-- two comparisons tell. Two positions out of range have every vertex between them. Assumes nothing.
use Rattle.std.proofs.Math.Bool.{not}
use Rattle.std.specs.Prelude.{◌&&◌, List, [], ◌∷◌, ◌⊎◌, refl, ℕ, ◌<◌, T, ℤ, pos, negsuc, ◌<ℤ◌, ◌≤ℤ◌}
use Rattle.std.proofs.Math.Logic.{inl, inr, ⊎_elim}
use Rattle.std.proofs.Common.{T_not}
use Rattle.std.proofs.Math.Dec.{not_T}
use Rattle.std.specs.Int.Signed.{lt_z, le_z, lt_z_yes, le_z_yes, <ℤ-≤ℤ_trans, <ℤ_irrefl}
use Rattle.algebra.proofs.Bound.{abs-le, abs-ge}
use Rattle.algebra.proofs.Order.{lt-le}
use Rattle.algebra.proofs.RingLaws.{v0, v1, v2}
use Rattle.algebra.proofs.Sign.{◌+⁺◌, ◌+°◌, lt_in, le_in, lt_by, le-by}
use Rattle.line.specs.Locate.{none_between}
use Rattle.line.specs.Order.{comes_before}
use Rattle.math.specs.declared.Point.{Point}
use Rattle.math.specs.Determinant.{InRange}
use Rattle.mesh.specs.declared.Counts.{Counts}
use Rattle.sums.proofs.BitLaws.{or_cases, or_left, or_right, and_left, and_right, and_both}
use Rattle.sums.proofs.BoundedLaws.{all-below→, all-below←}

-- the test passes
pub record Precedes (a b : Point) : Type 0 where
  pub is : T (comes_before a b)

module _ (x y z : ℤ) where
  abbrev ρ : List ℤ
  ρ = x ∷ y ∷ z ∷ []

  le-lt : x ≤ℤ y → y <ℤ z → x <ℤ z
  le-lt h k = lt_by (lt_in ρ v1 v2 k +⁺ le_in ρ v0 v1 h) v0 v2 refl

  le-le : x ≤ℤ y → y ≤ℤ z → x ≤ℤ z
  le-le h k = le-by (le_in ρ v0 v1 h +° le_in ρ v1 v2 k) v0 v2 refl

-- by x, or by y where x is no greater
module _ (a b : Point) where
  by-x : a.x <ℤ b.x → Precedes a b
  unfolding comes_before
  by-x h = record { is = or_left (lt_z a.x b.x) _ h.lt }

  by-y : a.x ≤ℤ b.x → a.y <ℤ b.y → Precedes a b
  unfolding comes_before
  by-y h k = record { is = or_right (lt_z a.x b.x) _ (and_both (le_z a.x b.x) _ h.le k.lt) }

  by-either : Precedes a b → (a.x <ℤ b.x) ⊎ ((a.x ≤ℤ b.x) × (a.y <ℤ b.y))
  unfolding comes_before
  by-either t = ⊎_elim (λ h. inl (lt_z_yes h))
      (λ h. inr (le_z_yes (and_left (le_z a.x b.x) _ h), lt_z_yes (and_right (le_z a.x b.x) _ h)))
      (or_cases (lt_z a.x b.x) _ t.is)

pub precedes-trans : {a b c : Point} → Precedes a b → Precedes b c → Precedes a c
precedes-trans {a} {b} {c} s t = go (by-either a b s) (by-either b c t)
  where
    go : (a.x <ℤ b.x) ⊎ ((a.x ≤ℤ b.x) × (a.y <ℤ b.y)) → (b.x <ℤ c.x) ⊎ ((b.x ≤ℤ c.x) × (b.y <ℤ c.y)) → Precedes a c
    go (inl h) (inl k) = by-x a c (<ℤ-≤ℤ_trans h (lt-le k))
    go (inl h) (inr k) = by-x a c (<ℤ-≤ℤ_trans h k.0)
    go (inr h) (inl k) = by-x a c (le-lt _ _ _ h.0 k)
    go (inr h) (inr k) = by-y a c (le-le _ _ _ h.0 k.0) (<ℤ-≤ℤ_trans h.1 (lt-le k.1))

pub precedes-irrefl : {a : Point} → Precedes a a → ⊥
precedes-irrefl {a} t = ⊎_elim (λ h. <ℤ_irrefl h) (λ h. <ℤ_irrefl h.1) (by-either a a t)

-- ---- two tests
module _ (a b c : Point) where
  pub both-pass : T (comes_before a b && comes_before b c) → Precedes a b × Precedes b c
  both-pass t =
      let l = and_left (comes_before a b) (comes_before b c) t in
      let r = and_right (comes_before a b) (comes_before b c) t in
      (record { is = l }, record { is = r })

  pub one-fails : T (not (comes_before a b && comes_before b c)) → Precedes a b → Precedes b c → ⊥
  one-fails t s u = T_not (comes_before a b && comes_before b c) t (and_both (comes_before a b) (comes_before b c) s.is u.is)

module _ (C : Counts) (p : ℕ → Point) (a b : Point) where
  pub none-between→ : T (none_between C p a b) → (j : ℕ) → j < C.vertices → Precedes a (p j) → Precedes (p j) b → ⊥
  unfolding none_between
  none-between→ t j l = one-fails a (p j) b (all-below→ C.vertices (λ j. not (comes_before a (p j) && comes_before (p j) b)) t j l)

  pub none-between← : ((j : ℕ) → j < C.vertices → Precedes a (p j) → Precedes (p j) b → ⊥) → T (none_between C p a b)
  unfolding none_between
  none-between← f = all-below← C.vertices (λ j. not (comes_before a (p j) && comes_before (p j) b))
      (λ j l. not_T (comes_before a (p j) && comes_before (p j) b) (λ t. let s = both-pass a (p j) b t in f j l s.0 s.1))

-- ---- out of range on either side
abbrev pub lowest : Point
lowest = record { x = negsuc 16777216; y = pos 0 }

abbrev pub highest : Point
highest = record { x = pos 16777217; y = pos 0 }

module _ {p : Point} (r : InRange p) where
  pub lowest-precedes : Precedes lowest p
  lowest-precedes = by-x lowest p (<ℤ-≤ℤ_trans (lt_z_yes tt) (abs-ge r.x))

  pub precedes-highest : Precedes p highest
  precedes-highest = by-x p highest (le-lt _ _ _ (abs-le r.x) (lt_z_yes tt))
