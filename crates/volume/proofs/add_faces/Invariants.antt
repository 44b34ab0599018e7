-- The loop of `volume::add_faces`.
use mathlib.Core.List.{List}
use mathlib.Core.Path.{◌≡◌}
use Prim.Native.Nat.{ℕ, ◌-◌, ◌<◌, ◌≤◌}
use Rattle.dcel.specs.Rows.{position_of, links_of}
use Rattle.heights.specs.Heights.{height_of}
use Rattle.volume.specs.Measurable.{face_sums}
use Rattle.volume.proofs.add_faces.Given as goal

abbrev pub invariant-loop-f : goal.invariant-loop-f
invariant-loop-f l =
    (0 < l.f) × ((o : List ℕ)
    → l.sums ≡ face_sums (l.f - 1) (links_of o l.halves l.faces) (position_of l.positions) (height_of l.heights) l.level)
