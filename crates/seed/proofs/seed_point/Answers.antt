-- `seed::seed_point` meets its contract. Assumes nothing.
use mathlib.Core.Path.{refl}
use Rattle.seed.specs.PointLaws.{point-ready, center-ready, point-full, point-in}
use Rattle.seed.proofs.seed_point.Goals as goal

pub grow_on-done-requires : goal.grow_on-done-requires
grow_on-done-requires c = point-ready c.requires c.position-point.ensures

pub returns-then-added : goal.returns-then-added
returns-then-added c = point-full c.requires c.position-point.ensures _ _ _ _ _ c.grow_on-done.ensures c.if-added.true refl

pub store_words-requires : goal.store_words-requires
store_words-requires c = c.requires.answers-room

pub is_ready-ready-requires : goal.is_ready-ready-requires
is_ready-ready-requires c =
    let k = c.grow_on-done.auto in
    center-ready c.requires c.position-point.ensures _ _ _ _ _ c.grow_on-done.ensures k.positions k.outs k.halves k.faces

pub overflow_add-result : goal.overflow_add-result
overflow_add-result c = record { fits = c.requires.small }

pub returns : goal.returns
returns c =
    point-in c.requires c.position-point.ensures _ _ _ _ _ c.grow_on-done.ensures _ c.if-added.false c.store_words.ensures
    (c.is_ready-ready.ensures _)
