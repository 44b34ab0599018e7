-- The loop of `complete::fill_each`.
use mathlib.Core.Path.{◌≡◌}
use lib.Dec.{T}
use Rattle.std.proofs.Common.{is_some}
use Rattle.dcel.specs.Rows.{links_of, position_of}
use Rattle.mesh.specs.Circle.{Settled}
use Rattle.complete.specs.FillLoop.{FillingOn}
use Rattle.complete.proofs.fill_each.Given as goal

abbrev pub invariant-loop-i : goal.invariant-loop-i
invariant-loop-i l =
    FillingOn l.initial.now l.initial.positions l.initial.outs l.initial.halves l.initial.faces l.initial.pending l.initial.answers l.points l.count l.now l.positions l.outs l.halves l.faces l.pending l.answers l.i
    × (is_some l.grid ≡ is_some l.initial.grid)
    × (T l.settled → Settled l.now (links_of l.outs l.halves l.faces) (position_of l.positions))
