-- `ring_rows::find` meets its contract. Assumes nothing.
use Rattle.std.proofs.Common.{rules}
use Rattle.dcel.specs.Rows.{row_of}
use Rattle.ring_rows.specs.Find.{OnRing}
use Rattle.ring_rows.proofs.Finding.{bucket-on, after_on, next-on, here-at, asks-test, asks-walk, walked_at, walked-round, started}
use Rattle.ring_rows.proofs.find.Goals as goal
use Rattle.ring_rows.proofs.find.Goals.{After-map_or-from}

pub contains_angle-requires : goal.contains_angle-requires
unfolding row_of
contains_angle-requires c =
    let o = bucket-on c.requires.0 c.floored_bucket-bucket.result c.floored_bucket-bucket.ensures.below in asks-test c.requires.0 o c.requires.1

pub returns-then-contains_angle : goal.returns-then-contains_angle
unfolding row_of
returns-then-contains_angle c =
    let o = bucket-on c.requires.0 c.floored_bucket-bucket.result c.floored_bucket-bucket.ensures.below in
    here-at c.requires.0 o c.contains_angle.ensures c.if-contains_angle.true

pub load-requires : goal.load-requires
unfolding row_of
load-requires c =
    let o = bucket-on c.requires.0 c.floored_bucket-bucket.result c.floored_bucket-bucket.ensures.below in
    (asks-test c.requires.0 o c.requires.1).here

pub walk_both-requires : goal.walk_both-requires
unfolding row_of
walk_both-requires c =
    let o = bucket-on c.requires.0 c.floored_bucket-bucket.result c.floored_bucket-bucket.ensures.below in
    let r = next-on c.requires.0 o c.load.ensures in
    let e = after_on c.requires.0 c.floored_bucket-bucket.result c.node_after.ensures in asks-walk c.requires.0 r e c.requires.1

pub returns-in-Some : goal.returns-in-Some
unfolding row_of
returns-in-Some c =
    let o = bucket-on c.requires.0 c.floored_bucket-bucket.result c.floored_bucket-bucket.ensures.below in
    let r = next-on c.requires.0 o c.load.ensures in
    let e = after_on c.requires.0 c.floored_bucket-bucket.result c.node_after.ensures in
    walked_at c.requires.0 r e c.walk_both.ensures c.in-Some.is

-- where the second walk starts: at the finger, or at both ends of the bucket
from_on : (c : After-map_or-from) → OnRing c.args.nodes.now c.args.buckets.now c.args.hull c.map_or-from.result.right
    × OnRing c.args.nodes.now c.args.buckets.now c.args.hull c.map_or-from.result.left
unfolding row_of
from_on c =
    let F = c.requires.0 in
    let o = bucket-on F c.floored_bucket-bucket.result c.floored_bucket-bucket.ensures.below in
    started F _ (next-on F o c.load.ensures) (after_on F c.floored_bucket-bucket.result c.node_after.ensures) c.finger.ensures c.map_or-from.ensures
    (λ i k. search rules)

pub walk_both-requires-2 : goal.walk_both-requires-2
walk_both-requires-2 c =
    let p = from_on (goal.at.walk_both-requires-2 c).After-map_or-from in asks-walk c.requires.0 p.0 p.1 c.requires.1

pub unwrap-requires : goal.unwrap-requires
unwrap-requires c =
    let p = from_on (goal.at.unwrap-requires c).After-map_or-from in walked-round c.requires.0 p.0 p.1 c.walk_both-2.ensures c.size.ensures

pub returns : goal.returns
returns c =
    let p = from_on (goal.at.returns c).After-map_or-from in walked_at c.requires.0 p.0 p.1 c.walk_both-2.ensures c.unwrap.ensures
