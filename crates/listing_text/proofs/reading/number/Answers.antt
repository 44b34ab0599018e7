-- `listing_text::reading::number` meets its contract, by the first byte. Assumes nothing.
use Rattle.std.specs.Prelude.{◌≡◌, ◌<◌, length, get_or, pos, neg_ℤ, ◌-ℤ◌}
use Rattle.std.specs.Int.{w64}
use Rattle.std.proofs.Common.{sym, ◌∙◌, ap, rules, arith, to_z, of_z}
use Rattle.std.proofs.lemmas.Int.{ints}
use Rattle.listing_text.specs.Reading.{positive, negative}
use Rattle.listing_text.proofs.Numbers.{number_minus, number_other, no_minus, unsaid, positive-said, negative-said}
use Rattle.listing_text.proofs.reading.number.Goals.{in_default-via-then-field-lt1, in_default-via-else-field-lt1+in_default-1}
use Rattle.listing_text.proofs.reading.number.Goals as goal

pub returns-in_err-digits-in-45 : goal.returns-in_err-digits-in-45
returns-in_err-digits-in-45 c =
    let some : 0 < length c.args.field.now = search rules in
    let minus : get_or c.args.field.now 0 0 ≡ 45 = search rules in
    let e = unsaid _ (sym c.digits.ensures ∙ c.in_err-digits-in-45.was) in
    c.from_residual.ensures ∙ sym (number_minus c.args.field.now some minus ∙ ap negative e)

pub returns-in_err-digits-in_default : goal.returns-in_err-digits-in_default
returns-in_err-digits-in_default c =
    let other : get_or c.args.field.now 0 0 ≡ 45 → ⊥ =
    elim c.in_default.branch [ in_default-via-then-field-lt1 w ↦ no_minus c.args.field.now (search rules) | in_default-via-else-field-lt1+in_default-1 w ↦ search rules ]
    in
    let e = unsaid _ (sym c.digits-in_default.ensures ∙ c.in_err-digits-in_default.was) in
    c.from_residual-in_err-digits-in_default.ensures ∙ sym (number_other c.args.field.now other ∙ ap positive e)

pub returns-in_ok-digits-in-45 : goal.returns-in_ok-digits-in-45
returns-in_ok-digits-in-45 c =
    let some : 0 < length c.args.field.now = search rules in
    let minus : get_or c.args.field.now 0 0 ≡ 45 = search rules in
    let negated : to_z w64 (of_z w64 (pos 0 -ℤ to_z w64 (of_z w64 c.from.result))) ≡ neg_ℤ (pos c.in_ok-digits-in-45.field-0) = omega (arith, ints) in
    c.ok.ensures.value
    ∙ negative-said c.try_from.result _ (sym c.digits.ensures ∙ c.in_ok-digits-in-45.was) negated c.try_from.ensures
    ∙ sym (number_minus c.args.field.now some minus)

pub returns-in_ok-digits-in_default : goal.returns-in_ok-digits-in_default
returns-in_ok-digits-in_default c =
    let other : get_or c.args.field.now 0 0 ≡ 45 → ⊥ =
    elim c.in_default.branch [ in_default-via-then-field-lt1 w ↦ no_minus c.args.field.now (search rules) | in_default-via-else-field-lt1+in_default-1 w ↦ search rules ]
    in
    c.ok-in_default.ensures.value
    ∙ positive-said c.try_from-in_default.result _ (sym c.digits-in_default.ensures ∙ c.in_ok-digits-in_default.was) c.try_from-in_default.ensures
    ∙ sym (number_other c.args.field.now other)
