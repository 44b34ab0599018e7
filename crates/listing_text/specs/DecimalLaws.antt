-- The digits of a number.
--     decimal-small, decimal-large     what they are, with no fuel in sight
--     decimal-reads      reading them gives the number back
--     decimal-first      they begin with 0 only at 0
--     decimal-length     a number below a power of ten has at most so many
-- Assumes nothing.
use Rattle.std.specs.Prelude.{Bool, true, false, ◌&&◌, List, [], ◌∷◌, ◌++◌, ◌≡◌, refl, ℕ, zero, suc, ◌+◌, ◌-◌, ◌*◌, ◌/◌, ◌%◌, ◌^◌, ◌≤◌, ◌<◌, length, get_or}
use Rattle.std.proofs.lemmas.Bool.{false≢true}
use Rattle.std.specs.Prelude.{Some}
use Rattle.std.proofs.Common.{sym, ◌∙◌, ap, subst, pow-suc, arith, lt-ltb, le-ltb, le-leb, length-append}
use Rattle.std.proofs.Math.Decide.{dec_lt}
use Rattle.std.proofs.Math.ListN.{get_or-append}
use Rattle.listing_text.specs.Reading.{is_digit_of, all_digits, value_from, natural_of}
use Rattle.listing_text.specs.Decimal.{decimal_from, decimal}

-- ---- enough fuel is enough
fuel : (f g n : ℕ) → n < f → n < g → decimal_from f n ≡ decimal_from g n
unfolding decimal_from
fuel zero g n l m = absurd (omega arith)
fuel (suc f) zero n l m = absurd (omega arith)
fuel (suc f) (suc g) n l m = go (dec_lt n 10) (fuel f g (n / 10))
  where
    go : Dec (n < 10) → (n / 10 < f → n / 10 < g → decimal_from f (n / 10) ≡ decimal_from g (n / 10))
        → decimal_from (suc f) n ≡ decimal_from (suc g) n
    go (yes s) rest = rw (lt-ltb n 10 s) refl
    go (no s) rest = rw (le-ltb n 10 (omega arith)) (ap (λ (xs : List ℕ). xs ++ ((48 + n % 10) ∷ [])) (rest (omega arith) (omega arith)))

pub decimal-small : {n : ℕ} → n < 10 → decimal n ≡ (48 + n) ∷ []
unfolding decimal decimal_from
decimal-small {n} l = rw (lt-ltb n 10 l) refl

pub decimal-large : (n : ℕ) → 10 ≤ n → decimal n ≡ decimal (n / 10) ++ ((48 + n % 10) ∷ [])
unfolding decimal decimal_from
decimal-large n l =
    rw (le-ltb n 10 l)
    (ap (λ (xs : List ℕ). xs ++ ((48 + n % 10) ∷ [])) (fuel n (suc (n / 10)) (n / 10) (omega arith) (omega arith)))

-- induction over the digits
by_digits : (P : ℕ → List ℕ → Type 0) → ((n : ℕ) → n < 10 → P n ((48 + n) ∷ []))
    → ((n : ℕ) (xs : List ℕ) → 10 ≤ n → P (n / 10) xs → P n (xs ++ ((48 + n % 10) ∷ [])))
    → (n : ℕ) → P n (decimal n)
by_digits P small large n = go (suc n) n (omega arith)
  where
    step : (f n : ℕ) → n < suc f → (n / 10 < f → P (n / 10) (decimal (n / 10))) → Dec (n < 10) → P n (decimal n)
    step f n l rest (yes s) = subst (P n) (sym (decimal-small s)) (small n s)
    step f n l rest (no s) =
        subst (P n) (sym (decimal-large n (omega arith))) (large n (decimal (n / 10)) (omega arith) (rest (omega arith)))

    go : (f n : ℕ) → n < f → P n (decimal n)
    go zero n l = absurd (omega arith)
    go (suc f) n l = step f n l (go f (n / 10)) (dec_lt n 10)

-- ---- reading them back
is_digit : (d : ℕ) → d < 10 → is_digit_of (48 + d) ≡ true
is_digit d l = rw (le-leb 48 (48 + d) (omega arith), le-leb (48 + d) 57 (omega arith)) refl

digits-snoc : (xs : List ℕ) (b : ℕ) → all_digits xs ≡ true → is_digit_of b ≡ true → all_digits (xs ++ (b ∷ [])) ≡ true
unfolding all_digits
digits-snoc [] b e d = rw d refl
digits-snoc (x ∷ xs) b e d = go (is_digit_of x) refl e (digits-snoc xs b)
  where
    go : (t : Bool) → is_digit_of x ≡ t → t && all_digits xs ≡ true
        → (all_digits xs ≡ true → is_digit_of b ≡ true → all_digits (xs ++ (b ∷ [])) ≡ true)
        → is_digit_of x && all_digits (xs ++ (b ∷ [])) ≡ true
    go true q e rest = rw q (rest e d)
    go false q e rest = absurd (false≢true e)

value-snoc : (v : ℕ) (xs : List ℕ) (b : ℕ) → value_from v (xs ++ (b ∷ [])) ≡ value_from v xs * 10 + (b - 48)
unfolding value_from
value-snoc v [] b = refl
value-snoc v (x ∷ xs) b = value-snoc (v * 10 + (x - 48)) xs b

-- what holds of the digits of n
record Written (n : ℕ) (xs : List ℕ) : Type 0 where
  some-digit : 0 < length xs
  digits : all_digits xs ≡ true
  value : value_from 0 xs ≡ n
  leading : 0 < n → get_or xs 0 0 ≡ 48 → ⊥

written : (n : ℕ) → Written n (decimal n)
unfolding all_digits value_from
written = by_digits Written small large
  where
    small : (n : ℕ) → n < 10 → Written n ((48 + n) ∷ [])
    small n l = record {
      some-digit = omega arith;
      digits = rw (is_digit n l) refl;
      value = omega arith;
      leading = λ p q. omega arith;
    }

    large : (n : ℕ) (xs : List ℕ) → 10 ≤ n → Written (n / 10) xs → Written n (xs ++ ((48 + n % 10) ∷ []))
    large n xs l w = record {
      some-digit = let a = length-append xs ((48 + n % 10) ∷ []) in omega arith;
      digits = digits-snoc xs (48 + n % 10) w.digits (is_digit (n % 10) (omega arith));
      value = value-snoc 0 xs (48 + n % 10) ∙ (let v = w.value in omega arith);
      leading = λ p q. w.leading (omega arith) (sym (get_or-append xs ((48 + n % 10) ∷ []) 0 0 w.some-digit) ∙ q);
    }

pub decimal-reads : (n : ℕ) → natural_of (decimal n) ≡ Some n
unfolding natural_of
decimal-reads n = go (decimal n) (written n)
  where
    go : (xs : List ℕ) → Written n xs → natural_of xs ≡ Some n
    go [] w = absurd (omega (arith, w.some-digit))
    go (b ∷ s) w = rw (w.digits, w.value) refl

pub decimal-first : (n : ℕ) → 0 < n → get_or (decimal n) 0 0 ≡ 48 → ⊥
decimal-first n = (written n).leading

-- ---- how many there are
pub decimal-length : (k n : ℕ) → n < 10 ^ suc k → length (decimal n) ≤ suc k
decimal-length zero n l = rw (decimal-small {n = n} l) (omega arith)
decimal-length (suc k) n l = go (dec_lt n 10) (decimal-length k (n / 10))
  where
    go : Dec (n < 10) → (n / 10 < 10 ^ suc k → length (decimal (n / 10)) ≤ suc k) → length (decimal n) ≤ suc (suc k)
    go (yes s) rest = rw (decimal-small s) (omega arith)
    go (no s) rest =
        let p = pow-suc 10 (suc k) in
        let h = rest (omega arith) in let a = length-append (decimal (n / 10)) ((48 + n % 10) ∷ []) in
        rw (decimal-large n (omega arith)) (omega arith)
