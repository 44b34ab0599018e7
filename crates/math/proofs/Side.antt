-- What `by_sign` chooses: by the two tests that code makes of an area, and, where something holds of each choice under its sign,
-- it holds of the one chosen. Assumes nothing.
use Rattle.std.specs.Prelude.{Bool, true, false, cond, ◌≡◌, T, ℤ, pos, ◌<ℤ◌}
use Rattle.std.proofs.Math.Path.{refl}
use Rattle.std.proofs.Common.{sym, subst}
use Rattle.std.specs.Int.Signed.{lt_z, lt_z_yes}
use Rattle.algebra.proofs.Order.{le_antisymm}
use Rattle.algebra.proofs.Test.{lt-left}
use Rattle.math.specs.Determinant.{by_sign}

module _ {A : Type 0} (area : ℤ) (left right line : A) where
  pub by_left : lt_z (pos 0) area ≡ true → by_sign area left right line ≡ left
  unfolding by_sign
  by_left i = rw i refl

  pub by_right : lt_z (pos 0) area ≡ false → lt_z area (pos 0) ≡ true → by_sign area left right line ≡ right
  unfolding by_sign
  by_right i j = rw (i, j) refl

  pub by-line : lt_z (pos 0) area ≡ false → lt_z area (pos 0) ≡ false → by_sign area left right line ≡ line
  unfolding by_sign
  by-line i j = rw (i, j) refl

pub by-sign : {A : Type 0} (P : A → Type 0) (area : ℤ) {left right line : A}
    → (pos 0 <ℤ area → P left)
    → (area <ℤ pos 0 → P right)
    → (area ≡ pos 0 → P line)
    → P (by_sign area left right line)
unfolding by_sign
by-sign P area {left} {right} {line} l r o = go (lt_z (pos 0) area) (lt_z area (pos 0)) refl refl
  where
    go : (x y : Bool) → lt_z (pos 0) area ≡ x → lt_z area (pos 0) ≡ y → P (cond x left (cond y right line))
    go true y i j = l (lt_z_yes (subst T (sym i) tt))
    go false true i j = r (lt_z_yes (subst T (sym j) tt))
    go false false i j = o (le_antisymm (lt-left refl refl i) (lt-left refl refl j))
