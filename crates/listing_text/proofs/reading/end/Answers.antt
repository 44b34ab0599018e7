-- `listing_text::reading::end` meets its contract. Assumes nothing.
use Rattle.std.specs.Prelude.{◌≡◌, ◌≢◌}
use Rattle.std.proofs.Common.{◌∙◌, rules}
use borrow.Author.Tests.{tests}
use Rattle.std.proofs.lemmas.Iterator.{YieldsList-from_slice, IsFirst-from_position}
use Rattle.listing_text.proofs.Pieces.{up-to-found}
use Rattle.listing_text.proofs.reading.end.Goals as goal

pub returns : goal.returns
returns c =
    c.unwrap_or.ensures
    ∙ up-to-found c.args.mark c.args.text.now c.position.result
    (IsFirst-from_position _ _ _ (λ b. b ≡ c.args.mark) (λ b. b ≢ c.args.mark) c.position.ensures.ran (YieldsList-from_slice c.args.text.now cc)
    (λ x q k. search (rules, tests)) (λ x q k. search (rules, tests)))
