-- What `locate` answers.
use Rattle.std.specs.Prelude.{Result}
use Rattle.locate.specs.declared.Place.{Place}
use Rattle.mesh_check.specs.declared.Refusal.{Refusal}

abbrev pub Located : Type 0
Located = Result Place Refusal
