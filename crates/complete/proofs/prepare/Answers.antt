-- `complete::prepare` meets its contract. Assumes nothing.
use borrow.Author.Rules.{rules}
use mathlib.Core.Bool.{true}
use mathlib.Core.Path.{◌≡◌}
use Rattle.complete.proofs.NearLaws.{vertices-some, prepared}
use Rattle.complete.proofs.prepare.Goals as goal

pub is_walkable-requires : goal.is_walkable-requires
is_walkable-requires c = c.requires.0

pub returns-then-not-is_walkable : goal.returns-then-not-is_walkable
returns-then-not-is_walkable c = (λ t. absurd t, λ t. absurd t)

pub is_large_and_settled-settled-requires : goal.is_large_and_settled-settled-requires
is_large_and_settled-settled-requires c = c.requires.0

pub vertices_grid-grid-requires : goal.vertices_grid-grid-requires
vertices_grid-grid-requires c = (vertices-some c.requires.0, c.requires.0.positions, c.requires.1, c.requires.2)

pub returns : goal.returns
returns c =
    let walks : c.is_walkable.result ≡ true = search rules in
    (λ t. prepared c.requires.0 c.is_walkable.ensures walks, c.is_large_and_settled-settled.ensures)
