-- `fithmoul::results::finished_result` meets its contract. Assumes nothing.
use mathlib.Core.Path.{sym, ap}
use Rattle.fithmoul.specs.Results.{finished_result}
use borrow.Author.Rules.{rules}
use Rattle.fithmoul.proofs.results.finished_result.Goals as goal

pub returns-in-Ok : goal.returns-in-Ok
returns-in-Ok c = sym (ap (finished_result c.args.counts) c.in-Ok.is)

pub returns-in-Err : goal.returns-in-Err
returns-in-Err c = sym (ap (finished_result c.args.counts) c.in-Err.is)
