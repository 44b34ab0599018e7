-- `mesh_check_rows::turns_left` meets its contract. Assumes nothing.
use mathlib.Core.Path.{◌∙◌, ap}
use lib.IntN.{pos}
use lib.Signed.{lt_z}
use mir.Facts.{to_z-of_z}
use borrow.Author.Rules.{sfits_of}
use Rattle.mesh_check.specs.Check.{turns_left}
use mir.Syntax.{w64}
use Rattle.mesh_check_rows.proofs.turns_left.Goals as goal

pub doubled_area_at-requires : goal.doubled_area_at-requires
doubled_area_at-requires c = c.requires

pub returns : goal.returns
unfolding turns_left
returns c = λ o s. ap (lt_z (pos 0)) (to_z-of_z {w = w64} (sfits_of c.doubled_area_at.type_inv) ∙ c.doubled_area_at.ensures o s)
