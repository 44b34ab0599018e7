-- `complete::close_unsettled` meets its contract. Assumes nothing.
use Rattle.sums.proofs.BitLaws.{from-true}
use Rattle.complete.proofs.SettledLaws.{closing-left-out}
use Rattle.complete.proofs.close_unsettled.Goals as goal

pub returns-then-settled : goal.returns-then-settled
returns-then-settled c = closing-left-out _ _ _ _ (c.requires.2 (from-true c.if-settled.true))

pub closing_pass-requires : goal.closing_pass-requires
closing_pass-requires c = let p = c.requires in (p.0, p.1)
