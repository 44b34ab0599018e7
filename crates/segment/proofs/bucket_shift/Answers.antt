-- `segment::bucket_shift` meets its contract: the logarithm of 2 ^ i is i. Assumes nothing.
use Rattle.segment.proofs.Laws.{bucket-pos}
use Rattle.segment.proofs.Shift.{digits_le, shift_is}
use Rattle.segment.proofs.bucket_shift.Goals as goal

pub ilog2-requires : goal.ilog2-requires
ilog2-requires c = bucket-pos _ c.requires

pub overflow_sub-result : goal.overflow_sub-result
overflow_sub-result c = digits_le _ _ c.requires c.ilog2.ensures.power_le c.ilog2.ensures.next_power_gt

pub returns : goal.returns
returns c = shift_is _ _ c.requires c.ilog2.ensures.power_le c.ilog2.ensures.next_power_gt
