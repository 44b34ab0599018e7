-- The loop of `mesh_check_rows::first_not_left`.
use Prim.Native.Nat.{ℕ, ◌<◌}
use mathlib.Core.Bool.{not, ◌&&◌}
use mathlib.Core.List.{List}
use lib.Dec.{ltb}
use Rattle.dcel.specs.Rows.{position_of, links_of}
use Rattle.mesh_check.specs.Check.{turns_left}
use Rattle.mesh_check_rows.proofs.Search.{Missed}
use Rattle.mesh_check_rows.proofs.first_not_left.Given as goal

abbrev pub invariant-loop-f : goal.invariant-loop-f
invariant-loop-f l = (0 < l.f) × ((o : List ℕ) → Missed (λ j. ltb 0 j && not (turns_left (links_of o l.halves l.faces) (position_of l.positions) ((links_of o l.halves l.faces).adjacent j))) l.f)
