-- What a finish, or a run, answers but for the counts.
use Rattle.std.specs.Prelude.{Result}
use Rattle.finish.specs.declared.Totals.{Totals}
use Rattle.mesh_check.specs.declared.Refusal.{Refusal}

abbrev pub Finished : Type 0
Finished = Result Totals Refusal
