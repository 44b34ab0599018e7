-- `search::first_closer` meets its contract. The invariant: no end from the stored out edge on to the reverse of `back` is nearer. The
-- measure is what the row's length leaves of the turns to it. Assumes nothing.
use mathlib.Core.Path.{◌∙◌}
use mir.Facts.{to_z-of_z}
use mir.Syntax.{w64}
use borrow.Author.Rules.{sfits_of}
use Rattle.search.specs.Spokes.{out-there, spoke-start, spoke-there, spoke-back, end-there, end-range, spoke-hit, spoke-none, spoke-on, spoke-less}
use Rattle.search.proofs.first_closer.Goals as goal

pub out-start-requires : goal.out-start-requires
out-start-requires c = out-there c.requires

pub loop-point-init : goal.loop-point-init
loop-point-init c =
    spoke-start c.requires (to_z-of_z c.ranges.distance) c.out-start.ensures c.rev-first.ensures

pub origin-w-requires : goal.origin-w-requires
origin-w-requires c =
    spoke-back c.requires (to_z-of_z c.ranges.distance) c.out-start.ensures c.rev-first.ensures c.loop-point.invariant

pub position-p-requires : goal.position-p-requires
position-p-requires c =
    end-there c.requires (to_z-of_z c.ranges.distance) c.out-start.ensures c.rev-first.ensures c.loop-point.invariant c.origin-w.ensures

pub distance_2-new_distance-requires : goal.distance_2-new_distance-requires
distance_2-new_distance-requires c =
    end-range c.requires (to_z-of_z c.ranges.distance) c.out-start.ensures c.rev-first.ensures c.loop-point.invariant c.origin-w.ensures
    c.position-p.ensures

pub returns-then-new_distance-distance : goal.returns-then-new_distance-distance
returns-then-new_distance-distance c =
    spoke-hit c.requires (to_z-of_z c.ranges.distance) c.out-start.ensures c.rev-first.ensures c.loop-point.invariant c.origin-w.ensures
    c.position-p.ensures
    (to_z-of_z {w = w64} (sfits_of c.distance_2-new_distance.type_inv) ∙ c.distance_2-new_distance.ensures) c.if-new_distance-distance.true

pub prev-back-requires : goal.prev-back-requires
prev-back-requires c =
    spoke-there c.requires (to_z-of_z c.ranges.distance) c.out-start.ensures c.rev-first.ensures c.loop-point.invariant c.rev-e.ensures

pub returns-then-back-first : goal.returns-then-back-first
returns-then-back-first c =
    spoke-none c.requires (to_z-of_z c.ranges.distance) c.out-start.ensures c.rev-first.ensures c.loop-point.invariant c.origin-w.ensures
    c.position-p.ensures
    (to_z-of_z {w = w64} (sfits_of c.distance_2-new_distance.type_inv) ∙ c.distance_2-new_distance.ensures) c.if-new_distance-distance.false
    c.rev-e.ensures c.prev-back.ensures c.if-back-first.true

pub loop-point-smaller : goal.loop-point-smaller
loop-point-smaller c =
    spoke-less c.requires (to_z-of_z c.ranges.distance) c.out-start.ensures c.rev-first.ensures c.loop-point.invariant c.origin-w.ensures
    c.position-p.ensures
    (to_z-of_z {w = w64} (sfits_of c.distance_2-new_distance.type_inv) ∙ c.distance_2-new_distance.ensures) c.if-new_distance-distance.false
    c.rev-e.ensures c.prev-back.ensures c.if-back-first.false

pub loop-point-preserved : goal.loop-point-preserved
loop-point-preserved c =
    spoke-on c.requires (to_z-of_z c.ranges.distance) c.out-start.ensures c.rev-first.ensures c.loop-point.invariant c.origin-w.ensures
    c.position-p.ensures
    (to_z-of_z {w = w64} (sfits_of c.distance_2-new_distance.type_inv) ∙ c.distance_2-new_distance.ensures) c.if-new_distance-distance.false
    c.rev-e.ensures c.prev-back.ensures c.if-back-first.false
