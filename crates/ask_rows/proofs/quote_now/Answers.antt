-- `ask_rows::quote_now` meets its contract. Assumes nothing.
use mathlib.Core.Path.{◌∙◌, ap}
use mir.Facts.{to_z-of_z}
use Rattle.ask.specs.Ask.{quote_from, quote_of}
use Rattle.ask_rows.proofs.quote_now.Goals as goal

pub returns : goal.returns
unfolding quote_of
returns c o A =
    rw (to_z-of_z c.ranges.z) at c.quoted.ensures
    ∙ ap (quote_from _ _ _) (c.decide_now-decision.ensures o A).is
