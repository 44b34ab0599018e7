-- `legalize_edge` of each half-edge of a list, one part of the list after another: after a refused flip the rest changes
-- nothing, so the parts come to the whole. Assumes nothing.
use Rattle.std.specs.Prelude.{Bool, ◌≡◌, ℕ}
use Rattle.std.proofs.Math.Bool.{true, false, cond}
use mathlib.Core.List.{List, [], ◌∷◌, ◌++◌}
use Rattle.std.proofs.Math.Path.{refl}
use Rattle.corner.specs.Corner.{Extended}
use Rattle.math.specs.declared.Point.{Point}
use Rattle.skipped.specs.Insert.{legalize_one, legalize_each}

module _ (room : ℕ) (p : ℕ → Point) where
  pub each-full : (m : Extended) (l : List ℕ) → m.full ≡ true → legalize_each room p m l ≡ m
  unfolding legalize_each
  each-full m [] z = refl
  each-full m (e ∷ l) z = rw z refl

  pub each_none : (m : Extended) → legalize_each room p m [] ≡ m
  unfolding legalize_each
  each_none m = refl

  pub each-one : (m : Extended) (e : ℕ) → m.full ≡ false → legalize_each room p m (e ∷ []) ≡ legalize_one room p m e
  unfolding legalize_each
  each-one m e z = rw z refl

  pub each_append : (l k : List ℕ) (m : Extended)
      → legalize_each room p (legalize_each room p m l) k ≡ legalize_each room p m (l ++ k)
  unfolding legalize_each
  each_append [] k m = refl
  each_append (e ∷ l) k m = go m.full refl (each_append l k (legalize_one room p m e))
    where
      go : (b : Bool) → m.full ≡ b
          → legalize_each room p (legalize_each room p (legalize_one room p m e) l) k ≡ legalize_each room p (legalize_one room p m e) (l ++ k)
          → legalize_each room p (cond b m (legalize_each room p (legalize_one room p m e) l)) k
          ≡ cond b m (legalize_each room p (legalize_one room p m e) (l ++ k))
      go true z rest = each-full m k z
      go false z rest = rest
