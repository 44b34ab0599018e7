-- `hull_center_rows::has_strict_ring` meets its contract. Assumes nothing.
use Rattle.std.specs.Prelude.{not}
use Rattle.std.proofs.Common.{◌∙◌, ap}
use Rattle.hull_center_rows.specs.Ready.{first-there, hull-size, boundary-in, not_valid, met-center, angled, by-strict}
use Rattle.hull_center_rows.proofs.has_strict_ring.Goals as goal

pub returns-then-not-validate_center : goal.returns-then-not-validate_center
returns-then-not-validate_center c =
    not_valid c.requires _ _ c.validate_center.ensures c.if-not-validate_center.true

pub adjacent-start-requires : goal.adjacent-start-requires
adjacent-start-requires c = first-there c.requires

pub convex_hull_size-size-requires : goal.convex_hull_size-size-requires
convex_hull_size-size-requires c = hull-size c.requires

pub meets_center-requires : goal.meets_center-requires
meets_center-requires c =
    boundary-in c.requires c.args.center.x c.args.center.y c.adjacent-start.ensures c.convex_hull_size-size.ensures

pub is_strict-requires : goal.is_strict-requires
is_strict-requires c =
    angled c.requires _ _ c.adjacent-start.ensures c.convex_hull_size-size.ensures
    c.validate_center.ensures c.meets_center.ensures c.if-not-validate_center.false c.if-not-meets_center.true

pub returns-then-not-meets_center : goal.returns-then-not-meets_center
returns-then-not-meets_center c =
    by-strict c.requires _ _ c.adjacent-start.ensures c.convex_hull_size-size.ensures
    c.validate_center.ensures c.meets_center.ensures c.if-not-validate_center.false c.if-not-meets_center.true
    c.is_strict.ensures

pub returns-else-not-meets_center : goal.returns-else-not-meets_center
returns-else-not-meets_center c o =
    ap not c.if-not-meets_center.false
    ∙ met-center c.requires _ _ c.adjacent-start.ensures c.convex_hull_size-size.ensures c.meets_center.ensures c.if-not-meets_center.false o
