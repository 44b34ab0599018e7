-- `surface_rows::store_run` meets its contract. Assumes nothing.
use native.Mathlib.Omega.{arith}
use mathlib.Core.Path.{sym, ◌∙◌, ap}
use borrow.Author.Tests.{not-true, not-false}
use mir.Facts.{to_z-of_z}
use Rattle.heights.specs.Heights.{height_of}
use Rattle.sums.specs.Put.{put}
use Rattle.surface_rows.proofs.Stored.{rooms-at, not_made, made-end, made-last, last-room}
use borrow.Author.Rules.{rules}
use mir.Syntax.{w32}
use Rattle.surface_rows.proofs.store_run.Goals as goal

pub returns-then-not-is_made : goal.returns-then-not-is_made
returns-then-not-is_made c = not_made _ _ _ _ _ (sym c.is_made.ensures ∙ not-true _ c.if-not-is_made.true-raw)

pub overflow_cast-n : goal.overflow_cast-n
overflow_cast-n c =
    let s = c.requires.few (sym c.is_made.ensures ∙ not-false _ c.if-not-is_made.false-raw) in
    let e = c.point_count-n.ensures in omega arith

pub store_fates-requires : goal.store_fates-requires
store_fates-requires c =
    rw c.point_count-n.ensures (c.requires.added (sym c.is_made.ensures ∙ not-false _ c.if-not-is_made.false-raw))

pub store_fates-requires-2 : goal.store_fates-requires-2
store_fates-requires-2 c =
    rooms-at (c.requires.inserted (sym c.is_made.ensures ∙ not-false _ c.if-not-is_made.false-raw)) c.store_fates.auto.heights c.point_count-n.ensures

pub height-z-requires : goal.height-z-requires
height-z-requires c =
    (last-room c.requires (sym c.is_made.ensures ∙ not-false _ c.if-not-is_made.false-raw) c.point_count-n.ensures c.place_of-place.ensures c.if-place-n.true).0

pub overflow_sub-counts : goal.overflow_sub-counts
overflow_sub-counts c =
    (last-room c.requires (sym c.is_made.ensures ∙ not-false _ c.if-not-is_made.false-raw) c.point_count-n.ensures c.place_of-place.ensures c.if-place-n.true).1

pub set_height-requires : goal.set_height-requires
set_height-requires c =
    let r = last-room c.requires (sym c.is_made.ensures ∙ not-false _ c.if-not-is_made.false-raw) c.point_count-n.ensures c.place_of-place.ensures c.if-place-n.true in
    let a = r.1 in let b = r.2 in
    let k = c.store_fates.auto.heights in let m = c.store_fates-2.auto.heights in
    omega arith

pub returns-then-place-n : goal.returns-then-place-n
returns-then-place-n c =
    let z = to_z-of_z {w = w32} (record { sfits = c.height-z.type_inv }) ∙ c.height-z.ensures in
    made-last _ _ _ _ _ (sym c.is_made.ensures ∙ not-false _ c.if-not-is_made.false-raw) c.point_count-n.ensures c.store_fates.ensures
    c.store_fates-2.ensures c.place_of-place.ensures c.if-place-n.true (c.set_height.ensures ∙ ap (put (height_of _) _) z)

pub returns-else-place-n : goal.returns-else-place-n
returns-else-place-n c =
    made-end _ _ _ _ _ (sym c.is_made.ensures ∙ not-false _ c.if-not-is_made.false-raw) c.point_count-n.ensures c.store_fates.ensures
    c.store_fates-2.ensures c.place_of-place.ensures c.if-place-n.false
