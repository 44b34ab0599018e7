-- Reading one number: digit by digit, with a value that stops at the greatest of 32 bits, and by its sign. Assumes nothing.
use Rattle.std.specs.Prelude.{◌≡◌, true, false, cond, List, [], ◌∷◌, ℕ, zero, suc, ◌+◌, ◌-◌, ◌*◌, ◌^◌, ◌≤◌, ◌<◌, min, length, get_or, drop, ℤ, pos, neg_ℤ, FitsSigned, Option, Some, None, Result, Ok, Err}
use Rattle.std.specs.Int.{w32}
use Rattle.std.specs.Int.Signed.{mag}
use Rattle.std.specs.Result.{OkIff, result_ok}
use Rattle.std.proofs.Common.{refl, sym, ◌∙◌, ap, add-one, arith, drop-cons, drop_of_length-le, eq-eqb, ne_eqb, lt-ltb, le-ltb}
use Rattle.std.specs.List.{between}
use Rattle.std.proofs.lemmas.Slice.{between_to_end}
use Rattle.std.proofs.lemmas.Bool.{le-leb, lt-leb}
use Rattle.std.proofs.Math.Decide.{dec_lt}
use Rattle.listing_text.specs.Reading.{is_digit_of, all_digits, value_from, natural_of, positive, negative, number_of}
use Rattle.listing_text.specs.ReadingParts.{saturated}

-- ---- digits, with the value n of those before them
abbrev pub digits_on : ℕ → List ℕ → Option ℕ
digits_on n s = cond (all_digits s) (Some (value_from n s)) None

-- the number is what the digits from i on make of the value of those before, which is kept as far as it fits
pub record Counted (field : List ℕ) (value i : ℕ) : Type 0 where
  pub before : ℕ
  pub kept : value ≡ min before 4294967295
  pub same : natural_of field ≡ digits_on before (drop i field)

pub no-digits : (s : List ℕ) → length s ≡ 0 → natural_of s ≡ None
unfolding natural_of
no-digits [] l = refl
no-digits (b ∷ s) l = absurd (omega arith)

pub counted_start : (s : List ℕ) → 0 < length s → Counted s 0 0
unfolding natural_of
counted_start [] l = absurd (omega arith)
counted_start (b ∷ s) l = record { before = 0; kept = refl; same = refl }

module _ {s : List ℕ} {value i : ℕ} (c : Counted s value i) where
  pub counted-none : i < length s → is_digit_of (get_or s i 0) ≡ false → None ≡ saturated (natural_of s)
  unfolding all_digits
  counted-none l e =
      let none_left : digits_on c.before (drop i s) ≡ None = rw (drop-cons s i 0 l, e) refl in
      ap saturated (sym (c.same ∙ none_left))

  pub counted_next : i < length s → is_digit_of (get_or s i 0) ≡ true
      → {v : ℕ} → v ≡ min (min (value * 10) 4294967295 + (get_or s i 0 - 48)) 4294967295 → Counted s v (i + 1)
  unfolding all_digits value_from
  counted_next l e q = record {
    before = c.before * 10 + (get_or s i 0 - 48);
    kept = let k = c.kept in omega arith;
    same = c.same ∙ rw (drop-cons s i 0 l, add-one, e) refl;
  }

  pub counted-end : length s ≤ i → Some value ≡ saturated (natural_of s)
  unfolding all_digits value_from
  counted-end l =
      let all : digits_on c.before (drop i s) ≡ Some c.before = rw (drop_of_length-le s l) refl in
      ap Some c.kept ∙ ap saturated (sym (c.same ∙ all))

-- ---- the sign
pub number_minus : (s : List ℕ) → 0 < length s → get_or s 0 0 ≡ 45 → number_of s ≡ negative (natural_of (between 1 (length s) s))
unfolding number_of
number_minus [] l q = absurd (omega arith)
number_minus (b ∷ s) l q = rw (eq-eqb b 45 q) (ap (λ t. negative (natural_of t)) (sym (between_to_end (b ∷ s) 1 (length (b ∷ s)) (omega arith))))

pub number_other : (s : List ℕ) → (get_or s 0 0 ≡ 45 → ⊥) → number_of s ≡ positive (natural_of s)
unfolding number_of natural_of
number_other [] d = refl
number_other (b ∷ s) d = rw (ne_eqb b 45 d) refl

pub no_minus : (s : List ℕ) → length s < 1 → get_or s 0 0 ≡ 45 → ⊥
no_minus [] l q = omega arith
no_minus (b ∷ s) l q = omega arith

-- no digits, or others
pub unsaid : (o : Option ℕ) → saturated o ≡ None → o ≡ None
unsaid None e = refl
unsaid (Some n) e = absurd (cc)

sized : (v : ℕ) (z : ℤ) → z ≡ neg_ℤ (pos v) → mag z < 2 ^ 31 → v ≤ 2 ^ 31
sized zero z q l = omega arith
sized (suc v) z q l = let m : mag z ≡ v = rw q refl in omega arith

fitting : (v : ℕ) (z : ℤ) → z ≡ neg_ℤ (pos v) → v ≤ 2 ^ 31 → mag z < 2 ^ 31
fitting zero z q l = let m : mag z ≡ 0 = rw q refl in omega arith
fitting (suc v) z q l = let m : mag z ≡ v = rw q refl in omega arith

-- a number of 32 signed bits, or what is too large
module _ {E : Type 0} (r : Result ℤ E) where
  pub positive-said : (o : Option ℕ) {v : ℕ} → saturated o ≡ Some v → OkIff r (FitsSigned w32 (pos v)) (pos v) → result_ok r ≡ positive o
  positive-said None e h = absurd (cc)
  positive-said (Some n) {v} e h = go r h refl (dec_lt n (2 ^ 31))
    where
      kept : v ≡ min n 4294967295
      kept = cc

      go : (q : Result ℤ E) → OkIff q (FitsSigned w32 (pos v)) (pos v) → r ≡ q → Dec (n < 2 ^ 31) → result_ok r ≡ positive (Some n)
      go (Ok x) k p (yes l) =
          let m = kept in let same : v ≡ n = omega arith in
          rw (p, lt-ltb n (2 ^ 31) l, k.1, same) refl
      go (Ok x) k p (no l) = let m = kept in let f = k.0.sfits in absurd (omega arith)
      go (Err x) k p (yes l) = let m = kept in absurd (k (record { sfits = omega arith }))
      go (Err x) k p (no l) = rw (p, le-ltb n (2 ^ 31) (omega arith)) refl

  pub negative-said : (o : Option ℕ) {v : ℕ} → saturated o ≡ Some v → {z : ℤ} → z ≡ neg_ℤ (pos v) → OkIff r (FitsSigned w32 z) z → result_ok r ≡ negative o
  negative-said None e q h = absurd (cc)
  negative-said (Some n) {v} e {z} q h = go r h refl (dec_lt (2 ^ 31) n)
    where
      kept : v ≡ min n 4294967295
      kept = cc

      size : mag z < 2 ^ 31 → v ≤ 2 ^ 31
      size = sized v z q

      go : (q : Result ℤ E) → OkIff q (FitsSigned w32 z) z → r ≡ q → Dec (2 ^ 31 < n) → result_ok r ≡ negative (Some n)
      go (Ok x) k p (no l) =
          let m = kept in let same : v ≡ n = omega arith in
          rw (p, le-leb n (2 ^ 31) (omega arith), k.1, q, same) refl
      go (Ok x) k p (yes l) = let m = kept in let f = size k.0.sfits in absurd (omega arith)
      go (Err x) k p (no l) = let m = kept in absurd (k (record { sfits = fitting v z q (omega arith) }))
      go (Err x) k p (yes l) = rw (p, lt-leb n (2 ^ 31) l) refl
