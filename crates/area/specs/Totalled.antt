-- What `area_total` answers.
use Rattle.std.specs.Prelude.{Result}
use Rattle.int128.specs.declared.Int128.{Int128}
use Rattle.mesh_check.specs.declared.Refusal.{Refusal}

abbrev pub Totalled : Type 0
Totalled = Result Int128 Refusal
