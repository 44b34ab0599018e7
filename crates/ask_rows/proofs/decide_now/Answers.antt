-- `ask_rows::decide_now` meets its contract. Assumes nothing.
use borrow.Author.Rules.{rules}
use mir.Syntax.{w32}
use mir.Facts.{to_z-of_z}
use Rattle.decide.proofs.VertexAngles.{carried, at-center}
use Rattle.start.specs.StartLaws.{started-face, started-size}
use Rattle.ask.proofs.AskRowsLaws.{quote-center, quote-boundary, found-angled, next-angled}
use Rattle.ask_rows.proofs.Deciding.{asks_at, at-located}
use Rattle.ask_rows.proofs.decide_now.Goals as goal

pub vertex_angle-requires : goal.vertex_angle-requires
vertex_angle-requires c = quote-center c.requires.start

pub returns-in_default : goal.returns-in_default
returns-in_default c o A =
    let px = to_z-of_z {w = w32} {z = c.args.point.x} (search rules) in
    let py = to_z-of_z {w = w32} {z = c.args.point.y} (search rules) in
    at-center _ _ _ c.vertex_angle.ensures.is px py c.in_default.is c.leave.ensures

pub adjacent-start-requires : goal.adjacent-start-requires
adjacent-start-requires c = started-face c.requires.start

pub convex_hull_size-size-requires : goal.convex_hull_size-size-requires
convex_hull_size-size-requires c = started-size c.requires.start

pub located_edge-e-requires : goal.located_edge-e-requires
located_edge-e-requires c = (
  quote-boundary c.requires.start c.adjacent-start.ensures,
  carried c.vertex_angle.ensures.angle c.in-Some.is,
)

pub angle_at-from-requires : goal.angle_at-from-requires
angle_at-from-requires c =
    found-angled c.requires.start _ _ _ c.adjacent-start.ensures c.located_edge-e.ensures

pub next-requires : goal.next-requires
next-requires c =
    (found-angled c.requires.start _ _ _ c.adjacent-start.ensures c.located_edge-e.ensures).there

pub angle_at-to-requires : goal.angle_at-to-requires
angle_at-to-requires c =
    next-angled c.requires.start _ _ _ c.adjacent-start.ensures c.located_edge-e.ensures
    c.next.ensures

pub decide_at-requires : goal.decide_at-requires
decide_at-requires c =
    let px = to_z-of_z {w = w32} {z = c.args.point.x} (search rules) in
    let py = to_z-of_z {w = w32} {z = c.args.point.y} (search rules) in
    asks_at _ _ c.vertex_angle.ensures.is px py c.in-Some.is (carried c.vertex_angle.ensures.angle c.in-Some.is)
    c.adjacent-start.ensures c.convex_hull_size-size.ensures c.located_edge-e.ensures
    c.next.ensures c.angle_at-from.ensures c.angle_at-to.ensures c.requires

pub returns : goal.returns
returns c =
    let px = to_z-of_z {w = w32} {z = c.args.point.x} (search rules) in
    let py = to_z-of_z {w = w32} {z = c.args.point.y} (search rules) in
    at-located _ _ c.vertex_angle.ensures.is px py c.in-Some.is (carried c.vertex_angle.ensures.angle c.in-Some.is)
    c.adjacent-start.ensures c.convex_hull_size-size.ensures c.located_edge-e.ensures c.decide_at.ensures
