-- What the checks of a call answer: it is accepted, or refused with a row of the table.
use Rattle.std.specs.Prelude.{⊤, Result}
use Rattle.mesh_check.specs.declared.Refusal.{Refusal}

abbrev pub Checked : Type 0
Checked = Result ⊤ Refusal
