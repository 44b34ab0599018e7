-- `apply_rows::add_vertex` meets its contract. Assumes nothing.
use mathlib.Core.Path.{◌∙◌}
use native.Mathlib.Omega.{arith}
use Rattle.apply_rows.proofs.AddRows.{numbers_fit, first-ready, left-ready, right-ready, added-rows}
use Rattle.apply_rows.proofs.add_vertex.Goals as goal

pub overflow_mul-to : goal.overflow_mul-to
overflow_mul-to c = record { fits = omega (arith, numbers_fit c.requires) }

pub overflow_add-to : goal.overflow_add-to
overflow_add-to c = record { fits = omega (arith, numbers_fit c.requires) }

pub overflow_add-to-2 : goal.overflow_add-to-2
overflow_add-to-2 c = record { fits = omega (arith, numbers_fit c.requires) }

pub overflow_mul-from : goal.overflow_mul-from
overflow_mul-from c = record { fits = omega (arith, numbers_fit c.requires) }

pub overflow_add-from : goal.overflow_add-from
overflow_add-from c = record { fits = omega (arith, numbers_fit c.requires) }

pub first_face-first-requires : goal.first_face-first-requires
first_face-first-requires c = first-ready c.requires

pub walk-before-requires : goal.walk-before-requires
walk-before-requires c =
    left-ready c.requires {row₁ = c.first_face-first.new.pending} _ c.first_face-first.ensures (record { outs = c.first_face-first.auto.outs; halves = c.first_face-first.auto.halves; faces = c.first_face-first.auto.faces; pending = c.first_face-first.auto.pending })

pub walk-after-requires : goal.walk-after-requires
walk-after-requires c =
    right-ready c.requires {row₁ = c.first_face-first.new.pending} _ c.first_face-first.ensures (record { outs = c.first_face-first.auto.outs; halves = c.first_face-first.auto.halves; faces = c.first_face-first.auto.faces; pending = c.first_face-first.auto.pending })
    {row₂ = c.walk-before.new.pending} _ c.walk-before.ensures (record { outs = c.walk-before.auto.outs; halves = c.walk-before.auto.halves; faces = c.walk-before.auto.faces; pending = c.walk-before.auto.pending })

pub shape_of-outs : goal.shape_of-outs
shape_of-outs c = c.walk-after.auto.outs ∙ c.walk-before.auto.outs ∙ c.first_face-first.auto.outs

pub shape_of-halves : goal.shape_of-halves
shape_of-halves c = c.walk-after.auto.halves ∙ c.walk-before.auto.halves ∙ c.first_face-first.auto.halves

pub shape_of-faces : goal.shape_of-faces
shape_of-faces c = c.walk-after.auto.faces ∙ c.walk-before.auto.faces ∙ c.first_face-first.auto.faces

pub shape_of-pending : goal.shape_of-pending
shape_of-pending c = c.walk-after.auto.pending ∙ c.walk-before.auto.pending ∙ c.first_face-first.auto.pending

pub returns : goal.returns
returns c =
    added-rows c.requires {row₁ = c.first_face-first.new.pending} _ c.first_face-first.ensures (record { outs = c.first_face-first.auto.outs; halves = c.first_face-first.auto.halves; faces = c.first_face-first.auto.faces; pending = c.first_face-first.auto.pending })
    {row₂ = c.walk-before.new.pending} _ c.walk-before.ensures (record { outs = c.walk-before.auto.outs; halves = c.walk-before.auto.halves; faces = c.walk-before.auto.faces; pending = c.walk-before.auto.pending }) _ _ _ _ c.walk-after.ensures
