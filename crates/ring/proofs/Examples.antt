-- Sound and strict rings can be met and can fail: lists of angles on a circle of 16 places, by computation. Assumes nothing.
use Rattle.std.specs.Prelude.{◌≡◌, refl, true, false, [], ◌∷◌}
use Rattle.segment.specs.Arc.{gap, wide}
use Rattle.ring.specs.Ring.{wraps, count_before, count_around, merged_before, merged, member, all_differ, is_sound, is_strict}

-- a ring with a run is sound and not strict
pub run_sound : (is_sound 16 (9 ∷ 14 ∷ 3 ∷ 9 ∷ []) ≡ true) × (is_strict 16 (9 ∷ 14 ∷ 3 ∷ 9 ∷ []) ≡ false)
unfolding is_sound is_strict merged merged_before all_differ member count_around count_before wraps wide gap
run_sound = (refl, refl)

-- a gap of exactly 3/4 is sound, and one more is not
pub three_quarters : (is_strict 16 (0 ∷ 12 ∷ 14 ∷ []) ≡ true) × (is_sound 16 (0 ∷ 13 ∷ 14 ∷ []) ≡ false)
unfolding is_sound is_strict merged merged_before all_differ member count_around count_before wraps wide gap
three_quarters = (refl, refl)

-- two angles are too few, and an order that goes around twice is not sound
pub unsound : (is_sound 16 (3 ∷ 9 ∷ 9 ∷ []) ≡ false) × (is_sound 16 (1 ∷ 9 ∷ 3 ∷ 11 ∷ []) ≡ false)
unfolding is_sound merged merged_before all_differ member count_around count_before wraps wide gap
unsound = (refl, refl)

-- 1.0 and 0.0 are two angles
pub top-to-zero : is_strict 16 (0 ∷ 6 ∷ 11 ∷ 16 ∷ []) ≡ true
unfolding is_sound is_strict merged merged_before all_differ member count_around count_before wraps wide gap
top-to-zero = refl
