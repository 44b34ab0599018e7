-- `hull_center_rows::is_ready` meets its contract. Assumes nothing.
use Rattle.std.proofs.Common.{◌∙◌}
use Rattle.hull_center_rows.specs.CenterRows.{last-three-in}
use Rattle.hull_center_rows.specs.Ready.{no-triangle, not-accepted, by-faces}
use Rattle.hull_center_rows.proofs.is_ready.Goals as goal

pub returns-then-counts-lt2 : goal.returns-then-counts-lt2
returns-then-counts-lt2 c = no-triangle _ _ _ _ c.if-counts-lt2.true

pub last_three-sum-requires : goal.last_three-sum-requires
last_three-sum-requires c = last-three-in (c.requires c.if-counts-lt2.false).rows

pub center_of-center-requires : goal.center_of-center-requires
center_of-center-requires c =
    rw c.last_three-sum.ensures (last-three-in (c.requires c.if-counts-lt2.false).rows).small

pub has_strict_ring-requires : goal.has_strict_ring-requires
has_strict_ring-requires c =
    c.requires c.if-counts-lt2.false

pub holds_center-requires : goal.holds_center-requires
holds_center-requires c =
    record { mesh = c.requires c.if-counts-lt2.false; sum_is = c.last_three-sum.ensures }

pub returns-then-has_strict_ring : goal.returns-then-has_strict_ring
returns-then-has_strict_ring c =
    by-faces _ _ _ _ c.if-counts-lt2.false c.last_three-sum.ensures c.center_of-center.ensures c.has_strict_ring.ensures
    c.if-has_strict_ring.true c.holds_center.ensures

pub returns-else-has_strict_ring : goal.returns-else-has_strict_ring
returns-else-has_strict_ring c o =
    c.if-has_strict_ring.false
    ∙ not-accepted _ _ _ _ c.if-counts-lt2.false c.last_three-sum.ensures c.center_of-center.ensures c.has_strict_ring.ensures
    c.if-has_strict_ring.false o
