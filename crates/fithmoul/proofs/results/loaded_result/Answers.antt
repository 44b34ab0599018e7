-- `fithmoul::results::loaded_result` meets its contract. Assumes nothing.
use Rattle.fithmoul.specs.LoadLaws.{load-marked}
use borrow.Author.Rules.{rules}
use Rattle.fithmoul.proofs.results.loaded_result.Goals as goal

pub returns : goal.returns
returns c = load-marked c.args.line c.args.res c.from.ensures
