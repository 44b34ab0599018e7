-- What `side_query` answers.
use Rattle.std.specs.Prelude.{Result, ℤ}
use Rattle.mesh_check.specs.declared.Refusal.{Refusal}

abbrev pub Sided : Type 0
Sided = Result ℤ Refusal
