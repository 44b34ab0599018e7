-- `decide::decide` meets its contract. Assumes nothing.
use borrow.Author.Rules.{rules}
use mir.Syntax.{w32}
use mir.Facts.{to_z-of_z}
use native.Mathlib.Omega.{arith}
use Rattle.angle.proofs.Bits.{angle-valid}
use Rattle.hull.proofs.Find.{held-find}
use Rattle.decide.proofs.SweepRowsLaws.{sweep-center, found_below}
use Rattle.decide.proofs.VertexAngles.{carried, at-center}
use Rattle.decide.proofs.Answers.{asks_at, at-located}
use Rattle.decide.proofs.decide.Goals as goal

pub vertex_angle-requires : goal.vertex_angle-requires
vertex_angle-requires c =
    sweep-center c.requires.sweep

pub returns-in_default : goal.returns-in_default
returns-in_default c o a S =
    let px = to_z-of_z {w = w32} {z = c.args.point.x} (search rules) in
    let py = to_z-of_z {w = w32} {z = c.args.point.y} (search rules) in
    at-center _ _ _ c.vertex_angle.ensures.is px py c.in_default.is c.leave.ensures

pub find-found-requires : goal.find-found-requires
find-found-requires c =
    (held-find c.requires.sweep.ring, angle-valid _ (carried c.vertex_angle.ensures.angle c.in-Some.is))

pub load-node-requires : goal.load-node-requires
load-node-requires c =
    let S = c.requires.sweep in let l = (found_below S c.find-found.ensures).0 in let m = S.ring.node-room in
    omega arith

pub load-right-requires : goal.load-right-requires
load-right-requires c =
    let S = c.requires.sweep in
    let l = (found_below S c.find-found.ensures).1 in let m = S.ring.node-room in
    rw c.load-node.ensures (omega arith)

pub decide_at-requires : goal.decide_at-requires
decide_at-requires c =
    let px = to_z-of_z {w = w32} {z = c.args.point.x} (search rules) in
    let py = to_z-of_z {w = w32} {z = c.args.point.y} (search rules) in
    rw c.size.ensures (asks_at _ _ _ c.vertex_angle.ensures.is px py c.in-Some.is (carried c.vertex_angle.ensures.angle c.in-Some.is)
    c.find-found.ensures c.load-node.ensures c.load-right.ensures c.requires)

pub returns : goal.returns
returns c =
    let px = to_z-of_z {w = w32} {z = c.args.point.x} (search rules) in
    let py = to_z-of_z {w = w32} {z = c.args.point.y} (search rules) in
    at-located _ _ _ c.vertex_angle.ensures.is px py c.in-Some.is (carried c.vertex_angle.ensures.angle c.in-Some.is)
    c.find-found.ensures c.load-node.ensures c.requires.range
    (λ B o a S. c.decide_at.ensures B o a (rw c.size.ensures S))
