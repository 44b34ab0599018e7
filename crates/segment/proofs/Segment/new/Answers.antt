-- `less` tells which case it is, and `segment-holds` what the segment holds.
use Rattle.std.specs.Prelude.{◌≡◌, ◌≢◌, ℕ, Float}
use Rattle.std.proofs.Common.{sym, ap, ◌∙◌}
use Rattle.angle.specs.Angle.{turns}
use Rattle.segment.specs.declared.Segment.{Segment}
use Rattle.segment.specs.declared.Segment.TheVariants.{Plain, Wrapping}
use Rattle.segment.specs.Arc.{holds}
use Rattle.segment.specs.Segment.{segment_of, contains_turns}
use Rattle.segment.proofs.Laws.{segment-holds}
use Rattle.segment.proofs.Segment.new.Goals as goal

arc : (s e : Float) (r : Segment) → turns s ≢ turns e → r ≡ segment_of s e → (k : ℕ) → contains_turns r k ≡ holds k (turns s) (turns e)
arc s e r n is k = ap (λ (q : Segment). contains_turns q k) is ∙ segment-holds s e n k

pub returns-then-less-clause-arc : goal.returns-then-less-clause-arc
returns-then-less-clause-arc c = arc c.args.from c.args.to (Plain c.args.from c.args.to) c.requires.2 (simp (sym c.less.ensures, c.if-less.true))

pub returns-else-less-clause-arc : goal.returns-else-less-clause-arc
returns-else-less-clause-arc c = arc c.args.from c.args.to (Wrapping c.args.from c.args.to) c.requires.2 (simp (sym c.less.ensures, c.if-less.false))
