-- `test_text::double` meets its contract: a pattern that is read as it stands is no NaN's. Assumes nothing.
use borrow.Author.Tests.{le-ltb}
use lib.Ieee.Bits.{nan_bits_above}
use lib.Ieee.{binary64, ones, hid, top}
use lib.Dec.{T}
use Prim.Native.Nat.{◌*◌, ◌%◌}
use mathlib.Core.Bool.{Bool, not}
use mathlib.Core.Path.{sym, ◌∙◌, subst}
use Rattle.test_text.proofs.double.Goals as goal

pub float_from_bits-result : goal.float_from_bits-result
float_from_bits-result c = subst (λ (b : Bool). T (not b)) (sym (nan_bits_above binary64 c.args.bits ∙ le-ltb (ones binary64 * hid binary64) (c.args.bits % top binary64) c.if-bits-gt9218868437227405312.false)) tt
