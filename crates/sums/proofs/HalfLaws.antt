-- Laws of specs/Half.antt.
use Rattle.std.specs.Prelude.{◌≡◌, ◌≢◌, ℕ, ◌+◌, ◌-◌, ◌*◌, ◌/◌, ◌%◌, ◌<◌}
use Rattle.std.proofs.Common.{sym, ◌∙◌, ap, arith}
use Rattle.std.specs.Int.Bits.{bit_xor, xor_add_and}
use Rattle.std.proofs.lemmas.Nat.{and_mask}
use Rattle.sums.specs.Iterate.{Inverse}
use Rattle.sums.specs.Half.{rev}

-- it is `e ^ 1` of the code
pub rev-xor : (e : ℕ) → bit_xor e 1 ≡ rev e
unfolding rev
rev-xor e = omega (arith, xor_add_and e 1, and_mask e 1)

pub rev-rev : (e : ℕ) → rev (rev e) ≡ e
unfolding rev
rev-rev e = omega arith

pub rev-ne : (e : ℕ) → rev e ≢ e
unfolding rev
rev-ne e = omega arith

pub rev-below : {e : ℕ} (n : ℕ) → e < 2 * n → rev e < 2 * n
unfolding rev
rev-below {e} n l = omega arith

pub rev-inj : (d e : ℕ) → rev d ≡ rev e → d ≡ e
rev-inj d e p = sym (rev-rev d) ∙ ap rev p ∙ rev-rev e

pub rev-even : (u : ℕ) → rev (2 * u) ≡ 2 * u + 1
unfolding rev
rev-even u = omega arith

pub rev-odd : (u : ℕ) → rev (2 * u + 1) ≡ 2 * u
unfolding rev
rev-odd u = omega arith

-- both halves have the edge's number
pub rev-edge : (e : ℕ) → rev e / 2 ≡ e / 2
unfolding rev
rev-edge e = omega arith

pub rev-inverse : (n : ℕ) → Inverse (2 * n) rev rev
rev-inverse n = record { there = λ e l. rev-below n l; here = λ e l. rev-below n l; gf = λ e l. rev-rev e; fg = λ e l. rev-rev e }
