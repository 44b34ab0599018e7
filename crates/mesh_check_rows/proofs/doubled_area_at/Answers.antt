-- `mesh_check_rows::doubled_area_at` meets its contract. Assumes nothing.
use mir.Facts.{to_z-of_z}
use borrow.Author.Rules.{sfits_of}
use Rattle.mesh_check_rows.proofs.Faces.{second-there, third-there, placed_one, placed-two, placed-three, placed-range, area-is}
use mathlib.Core.Path.{◌∙◌}
use mir.Syntax.{w64}
use Rattle.mesh_check_rows.proofs.doubled_area_at.Goals as goal

pub next-b-requires : goal.next-b-requires
next-b-requires c = c.requires.first

pub next-c-requires : goal.next-c-requires
next-c-requires c = second-there c.requires c.next-b.ensures

pub origin-u-requires : goal.origin-u-requires
origin-u-requires c = c.requires.first

pub origin-v-requires : goal.origin-v-requires
origin-v-requires c = second-there c.requires c.next-b.ensures

pub origin-w-requires : goal.origin-w-requires
origin-w-requires c = third-there c.requires c.next-b.ensures c.next-c.ensures

pub position-p-requires : goal.position-p-requires
position-p-requires c = (placed_one c.requires c.next-b.ensures c.origin-u.ensures).there

pub position-q-requires : goal.position-q-requires
position-q-requires c = (placed-two c.requires c.next-b.ensures c.origin-v.ensures).there

pub position-r-requires : goal.position-r-requires
position-r-requires c = (placed-three c.requires c.next-b.ensures c.next-c.ensures c.origin-w.ensures).there

pub side_query-requires : goal.side_query-requires
side_query-requires c = (
  placed-range (placed_one c.requires c.next-b.ensures c.origin-u.ensures) c.position-p.ensures,
  placed-range (placed-two c.requires c.next-b.ensures c.origin-v.ensures) c.position-q.ensures,
  placed-range (placed-three c.requires c.next-b.ensures c.next-c.ensures c.origin-w.ensures) c.position-r.ensures,
)

pub returns : goal.returns
returns c = λ o s.
    to_z-of_z {w = w64} (sfits_of c.side_query.type_inv) ∙ c.side_query.ensures ∙
    area-is o _ s _ _ c.next-b.ensures c.next-c.ensures c.origin-u.ensures c.origin-v.ensures c.origin-w.ensures c.position-p.ensures c.position-q.ensures c.position-r.ensures
