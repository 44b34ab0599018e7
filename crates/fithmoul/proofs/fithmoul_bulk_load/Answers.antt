-- `fithmoul::fithmoul_bulk_load` meets its contract. Assumes nothing.
use borrow.Author.Rules.{rules}
use mathlib.Core.Path.{sym, ◌∙◌}
use Rattle.bulk_load.proofs.LoadLaws.{refused-is}
use Rattle.bulk_load_check.specs.LentLaws.{lent-self}
use Rattle.fithmoul.specs.Exported.{load-exported}
use Rattle.fithmoul.specs.LoadLaws.{accepted-load, lined-load}
use Rattle.fithmoul.proofs.fithmoul_bulk_load.Goals as goal

pub returns-in-Err : goal.returns-in-Err
returns-in-Err c =
    let e = sym (c.check_bulk_load-checked.ensures _ (lent-self _)) ∙ c.in-Err.is in
    let x = load-exported (refused-is _ e) c.from.ensures in
    (x.0, x.1, (λ z y. accepted-load _ _ x.0 z y), λ y. lined-load _ _ x.0 y)

pub load-answer-requires : goal.load-answer-requires
load-answer-requires c = sym (c.check_bulk_load-checked.ensures _ (lent-self _)) ∙ c.in_default.is

pub returns : goal.returns
returns c =
    let x = load-exported c.load-answer.ensures c.from-2.ensures in
    (x.0, x.1, (λ z y. accepted-load _ _ x.0 z y), λ y. lined-load _ _ x.0 y)
