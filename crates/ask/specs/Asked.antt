-- What asking answers.
use Rattle.std.specs.Prelude.{Result}
use Rattle.mesh_check.specs.declared.Refusal.{Refusal}
use Rattle.quote.specs.declared.Quote.{Quote}

abbrev pub Asked : Type 0
Asked = Result Quote Refusal
