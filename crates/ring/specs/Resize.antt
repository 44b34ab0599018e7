-- The number of buckets: `adjust_bucket_size_if_necessary`. It stays 8 times a power of two, and within the lent row;
-- the buckets are then filled anew. The ceiling and the width are those of crate segment. Assumes nothing.
use Rattle.std.specs.Prelude.{◌≡◌, refl, Bool, true, false, cond, ◌&&◌, ℕ, zero, suc, ◌+◌, ◌*◌, ◌/◌, ◌%◌, ◌^◌, ◌<◌, ◌≤◌, T, ltb, leb}
use Rattle.std.proofs.Common.{sym, ◌∙◌, ap, subst, mul-div_cancel, arith, ltb→lt, leb→le, lit≤}
use Rattle.std.proofs.Math.Nat.{two-pow-succ}
use Rattle.segment.specs.Bucket.{Buckets, width, ceil_of}
use Rattle.segment.proofs.Laws.{bucket-width}
use Rattle.sums.proofs.BitLaws.{and_right}
use Rattle.ring.specs.Ring.{full_turn}
use Rattle.ring.specs.Buckets.{ceiling, Sized}

-- `adjust_bucket_size_if_necessary` of 000, where num is the number of buckets and size that of the nodes
unfoldable pub adjusted_buckets : ℕ → ℕ → ℕ
adjusted_buckets num size = cond (ltb (num * 2) size) (num * 2) (cond (ltb (size * 4) num && ltb 16 num && leb 16 (num / 4)) (num / 4) num)
