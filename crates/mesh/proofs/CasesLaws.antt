-- Laws of specs/Cases.antt.
use Rattle.std.specs.Prelude.{ℕ, ◌<◌, ◌≡◌, ◌≢◌, List, [], ◌∷◌}
use Rattle.std.proofs.Common.{sym}
use Rattle.sums.proofs.Cases.{All, None, each}
use Rattle.mesh.specs.Cases.{Differ}

pub differ : {a b : ℕ} → a ≢ b → Differ a b
differ n = record { ab = n; ba = λ p. n (sym p) }
