-- What `volume` answers.
use Rattle.std.specs.Prelude.{Result}
use Rattle.mesh_check.specs.declared.Refusal.{Refusal}
use Rattle.volume.specs.declared.Volumes.{Volumes}

abbrev pub Measured : Type 0
Measured = Result Volumes Refusal
