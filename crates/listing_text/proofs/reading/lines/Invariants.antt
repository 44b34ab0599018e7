-- The loop of `listing_text::reading::lines`.
use Rattle.std.specs.Prelude.{◌-◌, length}
use Rattle.listing_text.proofs.Lines.{Taken}
use Rattle.listing_text.proofs.reading.lines.Given as goal

abbrev pub invariant-loop-place : goal.invariant-loop-place
invariant-loop-place l = Taken l.text l.initial.numbers l.numbers l.place l.number l.stored

abbrev pub decreases-loop-place : goal.decreases-loop-place
decreases-loop-place l = length l.text - l.place
