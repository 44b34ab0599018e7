-- `listing_text::reading::fields` meets its contract. The invariant: so many numbers are read and stored, and the rest of the line
-- is left. Assumes nothing.
use Rattle.std.proofs.Common.{sym, ◌∙◌, arith, rules}
use Rattle.std.specs.Int.{w32}
use Rattle.std.proofs.lemmas.Int.{to_z-of_z}
use Rattle.listing_text.proofs.Pieces.{up-to-le}
use Rattle.listing_text.proofs.Fields.{filled_start, filled_none, filled-end, filled-malformed, filled_next}
use Rattle.listing_text.proofs.reading.fields.Goals as goal

pub loop-stored-init : goal.loop-stored-init
loop-stored-init c = filled_start c.args.line.now c.args.numbers.now

pub returns-in_default : goal.returns-in_default
returns-in_default c = filled_none c.loop-stored.invariant c.loop-stored-test.true c.in_default.ensures.cases

pub split_at-requires : goal.split_at-requires
split_at-requires c = let h = up-to-le 32 c.in-Some.behind.now in let e = c.end.ensures in omega arith

pub returns-in_default-number : goal.returns-in_default-number
returns-in_default-number c =
    filled-malformed c.loop-stored.invariant c.loop-stored-test.true c.in-Some.ensures.cases.0
    (rw c.end.ensures at c.split_at.ensures.front) (rw c.end.ensures at c.split_at.ensures.back)
    (sym c.number.ensures ∙ c.in_default-number.is)

pub loop-stored-preserved : goal.loop-stored-preserved
loop-stored-preserved c =
    filled_next c.loop-stored.invariant c.loop-stored-test.true c.in-Some.ensures.cases.0
    (rw c.end.ensures at c.split_at.ensures.front) (rw c.end.ensures at c.split_at.ensures.back)
    (sym c.number.ensures ∙ c.in-Some-number.is) (to_z-of_z w32 c.in-Some-number.n (search rules))

pub returns : goal.returns
returns c = rw c.is_empty.ensures (filled-end c.loop-stored.invariant c.loop-stored-test.false)
