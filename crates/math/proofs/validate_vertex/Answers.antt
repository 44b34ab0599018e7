-- `math::validate_vertex` meets its contract: the two coordinates, one after the other.
-- Assumes nothing.
use mathlib.Core.Path.{◌≡◌, sym, ◌∙◌, ap}
use mathlib.Core.Bool.{Bool, ◌&&◌}
use lib.IntN.{ℤ}
use mir.Syntax.{w32}
use mir.Val.{SFits, to_z, of_z}
use mir.Facts.{to_z-of_z}
use borrow.Author.Rules.{sfits_of}
use Rattle.math.specs.Determinant.{is_valid_coordinate}
use Rattle.math.proofs.validate_vertex.Goals as goal

-- a coordinate that is read back is the same
kept : (z : ℤ) → SFits w32 z → is_valid_coordinate (to_z w32 (of_z w32 z)) ≡ is_valid_coordinate z
kept z f = ap is_valid_coordinate {y = z} (to_z-of_z f)

pub returns-then-validate_coordinate : goal.returns-then-validate_coordinate
returns-then-validate_coordinate c =
    let x-is : c.validate_coordinate.result ≡ is_valid_coordinate c.args.p.x = c.validate_coordinate.ensures ∙ kept c.args.p.x (sfits_of c.struct_told-1.given.0.1) in
    let y-is : c.validate_coordinate-then-validate_coordinate.result ≡ is_valid_coordinate c.args.p.y = c.validate_coordinate-then-validate_coordinate.ensures ∙ kept c.args.p.y (sfits_of c.struct_told-then-validate_coordinate-1.given.1.0.1) in
    let p = c.args.p in
    y-is ∙ ap (λ (b : Bool). b && is_valid_coordinate p.y) (sym c.if-validate_coordinate.true ∙ x-is)

pub returns-else-validate_coordinate : goal.returns-else-validate_coordinate
returns-else-validate_coordinate c =
    let x-is : c.validate_coordinate.result ≡ is_valid_coordinate c.args.p.x = c.validate_coordinate.ensures ∙ kept c.args.p.x (sfits_of c.struct_told-1.given.0.1) in
    let p = c.args.p in
    c.if-validate_coordinate.false ∙ ap (λ (b : Bool). b && is_valid_coordinate p.y) (sym c.if-validate_coordinate.false ∙ x-is)
