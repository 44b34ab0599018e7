-- `insert_outside::insert_outside` meets its contract. Assumes nothing.
use mathlib.Core.Path.{◌∙◌}
use native.Mathlib.Omega.{arith}
use Rattle.insert_outside.proofs.InsertRows.{numbers_fit, first-ready, left-ready, right-ready, inserted-rows}
use Rattle.insert_outside.proofs.insert_outside.Goals as goal

pub overflow_mul-to : goal.overflow_mul-to
overflow_mul-to c = record { fits = omega (arith, numbers_fit c.requires) }

pub overflow_add-to : goal.overflow_add-to
overflow_add-to c = record { fits = omega (arith, numbers_fit c.requires) }

pub overflow_add-to-2 : goal.overflow_add-to-2
overflow_add-to-2 c = record { fits = omega (arith, numbers_fit c.requires) }

pub overflow_mul-from : goal.overflow_mul-from
overflow_mul-from c = record { fits = omega (arith, numbers_fit c.requires) }

pub overflow_add-from : goal.overflow_add-from
overflow_add-from c = record { fits = omega (arith, numbers_fit c.requires) }

pub first_face-first-requires : goal.first_face-first-requires
first_face-first-requires c = first-ready c.requires

pub outside_walk-left-requires : goal.outside_walk-left-requires
outside_walk-left-requires c =
    left-ready c.requires {row₁ = c.first_face-first.new.pending} _ c.first_face-first.ensures
    (record { outs = c.first_face-first.auto.outs; halves = c.first_face-first.auto.halves; faces = c.first_face-first.auto.faces; pending = c.first_face-first.auto.pending })

pub outside_walk-right-requires : goal.outside_walk-right-requires
outside_walk-right-requires c =
    right-ready c.requires {row₁ = c.first_face-first.new.pending} _ c.first_face-first.ensures
    (record { outs = c.first_face-first.auto.outs; halves = c.first_face-first.auto.halves; faces = c.first_face-first.auto.faces; pending = c.first_face-first.auto.pending })
    {row₂ = c.outside_walk-left.new.pending} _ c.outside_walk-left.ensures
    (record { outs = c.outside_walk-left.auto.outs; halves = c.outside_walk-left.auto.halves; faces = c.outside_walk-left.auto.faces; pending = c.outside_walk-left.auto.pending })

pub shape_of-outs : goal.shape_of-outs
shape_of-outs c =
    c.outside_walk-right.auto.outs ∙ c.outside_walk-left.auto.outs ∙ c.first_face-first.auto.outs

pub shape_of-halves : goal.shape_of-halves
shape_of-halves c =
    c.outside_walk-right.auto.halves ∙ c.outside_walk-left.auto.halves ∙ c.first_face-first.auto.halves

pub shape_of-faces : goal.shape_of-faces
shape_of-faces c =
    c.outside_walk-right.auto.faces ∙ c.outside_walk-left.auto.faces ∙ c.first_face-first.auto.faces

pub shape_of-pending : goal.shape_of-pending
shape_of-pending c =
    c.outside_walk-right.auto.pending ∙ c.outside_walk-left.auto.pending ∙ c.first_face-first.auto.pending

pub returns : goal.returns
returns c =
    inserted-rows c.requires {row₁ = c.first_face-first.new.pending} _ c.first_face-first.ensures
    (record { outs = c.first_face-first.auto.outs; halves = c.first_face-first.auto.halves; faces = c.first_face-first.auto.faces; pending = c.first_face-first.auto.pending })
    {row₂ = c.outside_walk-left.new.pending} _ c.outside_walk-left.ensures
    (record { outs = c.outside_walk-left.auto.outs; halves = c.outside_walk-left.auto.halves; faces = c.outside_walk-left.auto.faces; pending = c.outside_walk-left.auto.pending })
    _ _ _ _ c.outside_walk-right.ensures
