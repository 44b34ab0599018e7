-- The loop of `area::sum_areas`.
use mathlib.Core.List.{List}
use mathlib.Core.Path.{◌≡◌}
use Prim.Native.Nat.{ℕ, ◌-◌, ◌<◌, ◌≤◌}
use Rattle.int128.specs.Int128.{in_halves}
use Rattle.area.specs.Summable.{areas_to}
use Rattle.area.proofs.sum_areas.Given as goal

abbrev pub invariant-loop-f : goal.invariant-loop-f
invariant-loop-f l =
    (0 < l.f) × ((o : List ℕ) → l.total ≡ in_halves (areas_to (l.f - 1) l.positions o l.halves l.faces))
