-- `surface_rows::store_fate` meets its contract. Assumes nothing.
use native.Mathlib.Omega.{arith}
use mathlib.Core.Path.{◌∙◌, ap}
use borrow.Author.Tests.{not-true, not-false}
use mir.Facts.{to_z-of_z}
use Rattle.dcel.specs.Rows.{row_of}
use Rattle.heights.specs.Heights.{height_of}
use Rattle.sums.specs.Put.{put}
use Rattle.surface_rows.proofs.Stored.{fate-known, vertex-room, not-stored, is-stored}
use borrow.Author.Rules.{rules}
use mir.Syntax.{w32}
use Rattle.surface_rows.proofs.store_fate.Goals as goal

pub returns-then-not-has_fate : goal.returns-then-not-has_fate
returns-then-not-has_fate c = not-stored _ _ _ _ (fate-known _ _ _ _ c.has_fate.ensures (not-true _ c.if-not-has_fate.true-raw))

pub overflow_cast-v-2 : goal.overflow_cast-v-2
overflow_cast-v-2 c =
    let r = (vertex-room c.requires (fate-known _ _ _ _ c.has_fate.ensures (not-false _ c.if-not-has_fate.false-raw))).1 in
    omega arith

pub set_height-requires : goal.set_height-requires
set_height-requires c =
    (vertex-room c.requires (fate-known _ _ _ _ c.has_fate.ensures (not-false _ c.if-not-has_fate.false-raw))).0

pub returns : goal.returns
unfolding row_of
returns c =
    let f = fate-known _ _ _ _ c.has_fate.ensures (not-false _ c.if-not-has_fate.false-raw) in
    let z = to_z-of_z {w = w32} (record { sfits = c.height-z.type_inv }) ∙ c.height-z.ensures in
    is-stored _ _ _ _ f (c.set_height.ensures ∙ ap (put (height_of _) _) z)
