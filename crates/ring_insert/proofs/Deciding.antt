-- `is_fit` by its tests, one `&&` after the other. Assumes nothing.
use Prim.Native.Nat.{ℕ, ◌+◌}
use mathlib.Core.Path.{◌≡◌, refl, sym, ◌∙◌, ap}
use mathlib.Core.Bool.{Bool, true, false, not, ◌&&◌}
use lib.Dec.{leb, eqb}
use mir.Val.{bool_byte}
use Rattle.segment.specs.Arc.{wide}
use Rattle.sums.specs.Bit.{bit}
use Rattle.ring.specs.Ring.{proper}
use Rattle.ring.specs.Chain.{is_fit}

-- the value v of `!e && !w`, where w is asked only if e does not hold
pub first-asked : {e w v E W : Bool} → e ≡ E → e ≡ false → w ≡ W → v ≡ not w → v ≡ (not E && not W)
first-asked {W = W} p z q d = d ∙ ap not q ∙ sym (ap (λ (b : Bool). not b && not W) (sym p ∙ z))

pub first-stops : {e v E : Bool} (W : Bool) → e ≡ E → e ≡ true → v ≡ not e → v ≡ (not E && not W)
first-stops W p z d = d ∙ ap not z ∙ sym (ap (λ (b : Bool). not b && not W) (sym p ∙ z))

-- and of `a && !w`
pub next-asked : {a w v W : Bool} → a ≡ true → w ≡ W → v ≡ not w → v ≡ (a && not W)
next-asked {W = W} z q d = d ∙ ap not q ∙ sym (ap (λ (b : Bool). b && not W) z)

pub next-stops : {a v : Bool} (W : Bool) → a ≡ false → v ≡ a → v ≡ (a && not W)
next-stops W z d = d ∙ z ∙ sym (ap (λ (b : Bool). b && not W) z)

byte_bit : (b : Bool) → bool_byte b ≡ bit b
byte_bit true = refl
byte_bit false = refl

module _ (N left q right chain size : ℕ) {a v : Bool} (first : a ≡ (not (eqb q right) && not (wide N left q))) (next : v ≡ (a && not (wide N q right))) where
  value : is_fit N left q right chain size ≡ (v && leb (3 + chain) (size + bit (not (eqb left q)) + 1))
  unfolding is_fit proper
  value = sym (ap (λ (b : Bool). b && leb (3 + chain) (size + bit (not (eqb left q)) + 1)) (next ∙ ap (λ (b : Bool). b && not (wide N q right)) first))

  pub stopped : v ≡ false → v ≡ is_fit N left q right chain size
  stopped z = z ∙ sym (value ∙ ap (λ (b : Bool). b && leb (3 + chain) (size + bit (not (eqb left q)) + 1)) z)

  pub counted : v ≡ true → {e : Bool} {b : ℕ} → e ≡ eqb left q → b ≡ bool_byte (not e) → leb (3 + chain) (size + b + 1) ≡ is_fit N left q right chain size
  counted z {e} {b} p f =
      ap (λ (k : ℕ). leb (3 + chain) (size + k + 1)) (f ∙ byte_bit (not e) ∙ ap (λ (x : Bool). bit (not x)) p)
      ∙ sym (value ∙ ap (λ (x : Bool). x && leb (3 + chain) (size + bit (not (eqb left q)) + 1)) z)
