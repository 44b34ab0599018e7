-- `math::wide::sum_sign_wide` meets its contract: the four numbers' digits are multiplied out, and a large high digit or the carries give the sign.
-- Assumes nothing.
use mathlib.Core.Path.{◌≡◌, sym, ◌∙◌, ap, subst}
use Prim.Native.Nat.{◌+◌, ◌/◌, ◌≤◌, ◌<◌}
use native.Mathlib.Omega.{arith}
use borrow.Author.Rules.{sfits_of}
use lib.IntN.{ℤ, nat_abs, ◌+ℤ◌, ◌*ℤ◌}
use mir.Syntax.{w64}
use mir.Val.{to_z, of_z}
use mir.Facts.{to_z-of_z}
use Rattle.math.specs.declared.wide.Digits.{Digits}
use Rattle.math.specs.Wide.{SplitOf, TwoDigits, sgn, wide_of, high_of, middle_of, low_of, total_of}
use Rattle.math.proofs.WideLaws.{two_digits, high-abs, middle-abs, low-abs, products, outweighs}
use Rattle.math.proofs.wide.sum_sign_wide.Goals as goal

pub split-a-requires : goal.split-a-requires
split-a-requires c = rw (to_z-of_z c.ranges.x) (omega (arith, c.requires.0.abs))

pub split-b-requires : goal.split-b-requires
split-b-requires c = rw (to_z-of_z c.ranges.y) (omega (arith, c.requires.1.abs))

pub split-c-requires : goal.split-c-requires
split-c-requires c = rw (to_z-of_z c.ranges.z) (omega (arith, c.requires.2.abs))

pub split-d-requires : goal.split-d-requires
split-d-requires c = rw (to_z-of_z c.ranges.w) (omega (arith, c.requires.3.abs))

pub high-hi-requires : goal.high-hi-requires
high-hi-requires c =
    let split1 : SplitOf c.args.x c.split-a.result = rw (to_z-of_z c.ranges.x) at c.split-a.ensures in
    let split2 : SplitOf c.args.y c.split-b.result = rw (to_z-of_z c.ranges.y) at c.split-b.ensures in
    let split3 : SplitOf c.args.z c.split-c.result = rw (to_z-of_z c.ranges.z) at c.split-c.ensures in
    let split4 : SplitOf c.args.w c.split-d.result = rw (to_z-of_z c.ranges.w) at c.split-d.ensures in
    let a : Digits = c.split-a.result in
    let b : Digits = c.split-b.result in
    let d : Digits = c.split-c.result in
    let e : Digits = c.split-d.result in
    let two : TwoDigits a × TwoDigits b × TwoDigits d × TwoDigits e = let p = c.requires in (two_digits (split1) p.0.abs, two_digits (split2) p.1.abs, two_digits (split3) p.2.abs, two_digits (split4) p.3.abs) in
    two

pub returns-then-unsigned_abs-total : goal.returns-then-unsigned_abs-total
returns-then-unsigned_abs-total c =
    let split1 : SplitOf c.args.x c.split-a.result = rw (to_z-of_z c.ranges.x) at c.split-a.ensures in
    let split2 : SplitOf c.args.y c.split-b.result = rw (to_z-of_z c.ranges.y) at c.split-b.ensures in
    let split3 : SplitOf c.args.z c.split-c.result = rw (to_z-of_z c.ranges.z) at c.split-c.ensures in
    let split4 : SplitOf c.args.w c.split-d.result = rw (to_z-of_z c.ranges.w) at c.split-d.ensures in
    let a : Digits = c.split-a.result in
    let b : Digits = c.split-b.result in
    let d : Digits = c.split-c.result in
    let e : Digits = c.split-d.result in
    let first : (h : ℤ) → h ≡ high_of a b d e → let s = c.args in total_of s.x s.y s.z s.w / 67108864 + 6 < nat_abs h → sgn h ≡ sgn (s.x *ℤ s.y +ℤ s.z *ℤ s.w) = λ h q k. let p = c.requires in outweighs (split1) (split2) (split3) (split4) p.0 p.1 p.2 p.3 h q k in
    let high_is : to_z w64 (of_z w64 c.high-hi.result) ≡ c.high-hi.result = to_z-of_z {w = w64} (sfits_of c.high-hi.type_inv) in
    let size : c.unsigned_abs.result ≡ nat_abs c.high-hi.result = rw high_is at c.unsigned_abs.ensures.value in
    ap sgn (high_is) ∙ first c.high-hi.result c.high-hi.ensures (omega (arith, size, c.requires.4))

pub middle-requires : goal.middle-requires
middle-requires c =
    let split1 : SplitOf c.args.x c.split-a.result = rw (to_z-of_z c.ranges.x) at c.split-a.ensures in
    let split2 : SplitOf c.args.y c.split-b.result = rw (to_z-of_z c.ranges.y) at c.split-b.ensures in
    let split3 : SplitOf c.args.z c.split-c.result = rw (to_z-of_z c.ranges.z) at c.split-c.ensures in
    let split4 : SplitOf c.args.w c.split-d.result = rw (to_z-of_z c.ranges.w) at c.split-d.ensures in
    let a : Digits = c.split-a.result in
    let b : Digits = c.split-b.result in
    let d : Digits = c.split-c.result in
    let e : Digits = c.split-d.result in
    let two : TwoDigits a × TwoDigits b × TwoDigits d × TwoDigits e = let p = c.requires in (two_digits (split1) p.0.abs, two_digits (split2) p.1.abs, two_digits (split3) p.2.abs, two_digits (split4) p.3.abs) in
    two

pub low-requires : goal.low-requires
low-requires c =
    let split1 : SplitOf c.args.x c.split-a.result = rw (to_z-of_z c.ranges.x) at c.split-a.ensures in
    let split2 : SplitOf c.args.y c.split-b.result = rw (to_z-of_z c.ranges.y) at c.split-b.ensures in
    let split3 : SplitOf c.args.z c.split-c.result = rw (to_z-of_z c.ranges.z) at c.split-c.ensures in
    let split4 : SplitOf c.args.w c.split-d.result = rw (to_z-of_z c.ranges.w) at c.split-d.ensures in
    let a : Digits = c.split-a.result in
    let b : Digits = c.split-b.result in
    let d : Digits = c.split-c.result in
    let e : Digits = c.split-d.result in
    let two : TwoDigits a × TwoDigits b × TwoDigits d × TwoDigits e = let p = c.requires in (two_digits (split1) p.0.abs, two_digits (split2) p.1.abs, two_digits (split3) p.2.abs, two_digits (split4) p.3.abs) in
    two

pub carried-requires : goal.carried-requires
carried-requires c =
    let split1 : SplitOf c.args.x c.split-a.result = rw (to_z-of_z c.ranges.x) at c.split-a.ensures in
    let split2 : SplitOf c.args.y c.split-b.result = rw (to_z-of_z c.ranges.y) at c.split-b.ensures in
    let split3 : SplitOf c.args.z c.split-c.result = rw (to_z-of_z c.ranges.z) at c.split-c.ensures in
    let split4 : SplitOf c.args.w c.split-d.result = rw (to_z-of_z c.ranges.w) at c.split-d.ensures in
    let a : Digits = c.split-a.result in
    let b : Digits = c.split-b.result in
    let d : Digits = c.split-c.result in
    let e : Digits = c.split-d.result in
    let two : TwoDigits a × TwoDigits b × TwoDigits d × TwoDigits e = let p = c.requires in (two_digits (split1) p.0.abs, two_digits (split2) p.1.abs, two_digits (split3) p.2.abs, two_digits (split4) p.3.abs) in
    let high_is : to_z w64 (of_z w64 c.high-hi.result) ≡ c.high-hi.result = to_z-of_z {w = w64} (sfits_of c.high-hi.type_inv) in
    let t = two in
    rw (high_is, to_z-of_z {w = w64} (sfits_of c.middle.type_inv), to_z-of_z {w = w64} (sfits_of c.low.type_inv)) (
      subst (λ (z : ℤ). nat_abs z ≤ 36028797018963968) (sym c.high-hi.ensures) (high-abs t.0 t.1 t.2 t.3),
      subst (λ (z : ℤ). nat_abs z ≤ 18014398509481984) (sym c.middle.ensures) (middle-abs t.0 t.1 t.2 t.3),
      subst (λ (z : ℤ). nat_abs z ≤ 18014398509481984) (sym c.low.ensures) (low-abs t.0 t.1 t.2 t.3),
    )

pub returns : goal.returns
returns c =
    let split1 : SplitOf c.args.x c.split-a.result = rw (to_z-of_z c.ranges.x) at c.split-a.ensures in
    let split2 : SplitOf c.args.y c.split-b.result = rw (to_z-of_z c.ranges.y) at c.split-b.ensures in
    let split3 : SplitOf c.args.z c.split-c.result = rw (to_z-of_z c.ranges.z) at c.split-c.ensures in
    let split4 : SplitOf c.args.w c.split-d.result = rw (to_z-of_z c.ranges.w) at c.split-d.ensures in
    let a : Digits = c.split-a.result in
    let b : Digits = c.split-b.result in
    let d : Digits = c.split-c.result in
    let e : Digits = c.split-d.result in
    let whole : let s = c.args in wide_of (high_of a b d e) (middle_of a b d e) (low_of a b d e) ≡ s.x *ℤ s.y +ℤ s.z *ℤ s.w = products (split1) (split2) (split3) (split4) in
    let high_is : to_z w64 (of_z w64 c.high-hi.result) ≡ c.high-hi.result = to_z-of_z {w = w64} (sfits_of c.high-hi.type_inv) in
    ap sgn (to_z-of_z {w = w64} (sfits_of c.carried.type_inv))
    ∙ rw (high_is, to_z-of_z {w = w64} (sfits_of c.middle.type_inv), to_z-of_z {w = w64} (sfits_of c.low.type_inv), c.high-hi.ensures, c.middle.ensures, c.low.ensures) at c.carried.ensures
    ∙ ap sgn (whole)
