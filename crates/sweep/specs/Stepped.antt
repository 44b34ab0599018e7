-- What a step answers but for the counts.
use Rattle.std.specs.Prelude.{Result}
use Rattle.mesh_check.specs.declared.Refusal.{Refusal}
use Rattle.sweep.specs.declared.Answer.{Answer}

abbrev pub Stepped : Type 0
Stepped = Result Answer Refusal
