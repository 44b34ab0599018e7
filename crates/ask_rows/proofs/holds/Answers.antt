-- `ask_rows::holds` meets its contract. Assumes nothing.
use borrow.Author.Tests.{eq-eqb}
use mathlib.Core.Bool.{not, false≢true}
use mathlib.Core.Path.{sym, ◌∙◌, ap}
use Rattle.angle.proofs.Bits.{angle-valid}
use Rattle.ask_rows.proofs.Look.{equal-none}
use Rattle.ask_rows.proofs.holds.Goals as goal

pub new-requires : goal.new-requires
new-requires c =
    let p = c.requires in
    (p.0, p.1, λ e. false≢true (sym c.if-not-equal.true ∙ c.equal.ensures ∙ eq-eqb _ _ e))

pub contains_angle-requires : goal.contains_angle-requires
contains_angle-requires c = (c.new.ensures.angles, angle-valid _ c.requires.2)

pub returns-then-not-equal : goal.returns-then-not-equal
returns-then-not-equal c = c.contains_angle.ensures.whole ∙ c.new.ensures.arc _

pub returns-else-not-equal : goal.returns-else-not-equal
returns-else-not-equal c = ap not c.if-not-equal.false ∙ equal-none _ _ _ (sym c.equal.ensures ∙ c.if-not-equal.false)
