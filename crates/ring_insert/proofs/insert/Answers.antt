-- `ring_insert::insert` meets its contract. Assumes nothing.
use mathlib.Core.Path.{refl}
use Rattle.angle.proofs.Bits.{angle-valid}
use Rattle.ring_insert.proofs.Inserting.{chosen-as, found-angle, to-choose, to-place, to-retire, placed-retired, new-valid, new-room}
use Rattle.ring_insert.proofs.RetireLaws.{retired-valid}
use Rattle.ring_insert.proofs.insert.Goals as goal

pub choose-choice-requires : goal.choose-choice-requires
choose-choice-requires c =
    to-choose c.requires c.find_left-found.ensures

pub place-requires : goal.place-requires
place-requires c =
    let I = c.requires in
    to-place I c.find_left-found.ensures c.equal-goes.ensures c.choose-choice.ensures

pub retire-requires : goal.retire-requires
retire-requires c =
    let I = c.requires in
    to-retire I c.find_left-found.ensures c.equal-goes.ensures c.choose-choice.ensures c.saturating_sub-from.ensures c.place.auto.nodes c.choose-choice.auto.freed

pub floored_bucket-bucket-requires : goal.floored_bucket-bucket-requires
floored_bucket-bucket-requires c =
    let I = c.requires in (angle-valid _ I.q-angle, I.to-find.rows.counted)

pub returns : goal.returns
returns c =
    let I = c.requires in
    let G = c.find_left-found.ensures in let D = c.choose-choice.ensures in
    let R = placed-retired c.place.ensures c.saturating_sub-from.ensures c.retire.ensures in
    record {
      left = c.find_left-found.result;
      left-on = G.on;
      left-angle = found-angle I G;
      choice = c.choose-choice.result;
      stack = _;
      chosen = chosen-as c.equal-goes.ensures D;
      same-stack = c.set_finger.ensures;
      placed = R;
      rebuckets = c.update_buckets.ensures;
      valid = retired-valid R (new-valid I G c.equal-goes.ensures D c.ranges.leftedge.fits c.ranges.rightedge.fits refl);
      room = new-room I G c.equal-goes.ensures D;
      same-buckets = refl;
      used = refl;
      freed-now = refl;
    }
