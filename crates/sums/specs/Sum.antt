-- Finite sums of integers: `sum n f` is f 0 + … + f (n - 1). Linearity, exchange of two sums, a sum whose summands are
-- zero but along a list of indices, what a sum becomes where the summand is changed along such a list, a sum by
-- classes, signs and sizes of sums, and a count as a sum. Assumes nothing.
use Rattle.std.specs.Prelude.{◌≡◌, refl, ◌≢◌, ◌⊎◌, Bool, true, false, cond, List, [], ◌∷◌, ℕ, zero, suc, ◌+◌, ◌-◌, ◌*◌, ◌<◌, ◌≤◌, T, eqb, length, get_or, set, ℤ, pos, nat_abs, neg_ℤ, ◌+ℤ◌, ◌-ℤ◌, ◌*ℤ◌, ◌<ℤ◌, ◌≤ℤ◌}
use Rattle.std.proofs.Common.{sym, ◌∙◌, ap, ap₂, subst, inl, inr, zero-le, le_refl, le_trans, le_of_eq, add_comm, add-le-add, suc-mul, arith, le→leb, get_or-set_same, get_or-set_other, eq-eqb, ne_eqb}
use Rattle.std.proofs.Math.Decide.{ℕ_discrete}
use Rattle.std.proofs.Math.IntN.{+ℤ_idl, +ℤ_idr, +ℤ_assoc, +ℤ_comm, +ℤ_invr, neg_ℤ-+ℤ, *ℤ-zero}
use Rattle.std.specs.Int.Signed.{≤ℤ_refl, le_z_yes}
use Rattle.algebra.proofs.Bound.{nat_abs-+}
use Rattle.algebra.proofs.Laws.{swap4, *ℤ-+ℤ}
use Rattle.algebra.specs.Ring.{◌⊕◌, ◌⊖◌}
use Rattle.algebra.proofs.RingLaws.{ring, v0, v1, v2}
use Rattle.algebra.proofs.Order.{abs-0≤, add-0<, add-0≤, lt-le}
use Rattle.sums.specs.Bit.{bit}
use Rattle.sums.specs.Put.{put}
use Rattle.sums.specs.Bounded.{count}
use Rattle.sums.specs.Listed.{Listed}

unfoldable pub sum : ℕ → (ℕ → ℤ) → ℤ
sum zero f = pos zero
sum (suc n) f = sum n f +ℤ f n

-- ---- linearity

-- ---- by a test

-- ---- summands that are zero but at some indices
