-- `fithmoul::results::stepped_result` meets its contract. Assumes nothing.
use mathlib.Core.Path.{◌∙◌, sym, ap}
use Rattle.mesh.specs.declared.Counts.{Counts}
use Rattle.fithmoul.specs.declared.results.PointAnswer.{PointAnswer}
use Rattle.fithmoul.specs.declared.results.StepResult.{StepResult}
use Rattle.fithmoul.specs.Results.{stepped_result}
use borrow.Author.Rules.{rules}
use Rattle.fithmoul.proofs.results.stepped_result.Goals as goal

abbrev accepted : Counts → PointAnswer → StepResult
accepted C a = record { refusal = 0; place = 0; vertices = C.vertices; edges = C.edges; faces = C.faces; answer = a }

pub returns-in-Ok : goal.returns-in-Ok
returns-in-Ok c =
    let C = c.args.counts in
    ap (accepted C) c.from.ensures ∙ sym (ap (stepped_result C) c.in-Ok.is)

pub returns-in-Err : goal.returns-in-Err
returns-in-Err c = sym (ap (stepped_result c.args.counts) c.in-Err.is)
