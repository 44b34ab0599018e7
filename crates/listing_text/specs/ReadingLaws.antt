-- How many numbers a text has, and which line can be wrong.
--     line-length      a line that is right has as many numbers as it should
--     wrong-line       the wrong line has a number from 1 to 400
--     numbers-length   there are 8 numbers and two for each point, of which there are at most 397
--     row-numbers      a row of 802 entries then begins with the numbers, and goes on as before
-- Assumes nothing.
use Rattle.std.specs.Prelude.{Bool, true, false, cond, List, [], ◌∷◌, ◌++◌, ◌≡◌, refl, ℕ, zero, suc, ◌+◌, ◌-◌, ◌*◌, ◌≤◌, ◌<◌, eqb, ltb, ℤ, length, drop, Option, Some, None}
use Rattle.std.proofs.Common.{◌∙◌, ap, subst, arith, ne_eqb, lt-ltb, le-ltb, length-append}
use Rattle.std.proofs.Math.Decide.{dec_lt, ℕ_discrete}
use Rattle.std.proofs.lemmas.List.Edits.{sets-eq}
use Rattle.listing_text.specs.Reading.{lines_of, fields_of, number_of, followed, numbers_of, is_letter, labelled, line_of}
use Rattle.listing_text.specs.Reading.{letter_of, count_of, Reading, malformed, numbers, line_then, read_from, read_of, numbers_row}

-- ---- a line
abbrev OfLength : ℕ → Option (List ℤ) → Type 0
OfLength k None = Unit {0}
OfLength k (Some zs) = length zs ≡ k

followed-sized : (k : ℕ) (a : Option ℤ) (o : Option (List ℤ)) → OfLength k o → OfLength (suc k) (followed a o)
followed-sized k None o h = tt
followed-sized k (Some z) None h = tt
followed-sized k (Some z) (Some zs) h = ap suc h

numbers-sized : (k : ℕ) (fs : List (List ℕ)) → OfLength k (numbers_of k fs)
unfolding numbers_of
numbers-sized zero [] = refl
numbers-sized zero (f ∷ fs) = tt
numbers-sized (suc k) [] = tt
numbers-sized (suc k) (f ∷ fs) = followed-sized k (number_of f) (numbers_of k fs) (numbers-sized k fs)

labelled-sized : (letter k : ℕ) (fs : List (List ℕ)) → OfLength k (labelled letter k fs)
labelled-sized letter k [] = tt
labelled-sized letter k (f ∷ fs) = go (is_letter letter f)
  where
    go : (t : Bool) → OfLength k (cond t (numbers_of k fs) None)
    go true = numbers-sized k fs
    go false = tt

line-sized : (letter k : ℕ) (line : List ℕ) → OfLength k (line_of letter k line)
unfolding line_of
line-sized letter k line = labelled-sized letter k (fields_of line)

pub line-length : (letter k : ℕ) (line : List ℕ) {zs : List ℤ} → line_of letter k line ≡ Some zs → length zs ≡ k
line-length letter k line e = subst (OfLength k) e (line-sized letter k line)

-- ---- how many numbers stand before line n
abbrev pub start_of : ℕ → ℕ
start_of n = cond (eqb n 1) 0 (2 * n + 2)

pub start-next : (n : ℕ) → 1 ≤ n → start_of (n + 1) ≡ start_of n + count_of n
start-next n l = go (ℕ_discrete n 1)
  where
    go : Dec (n ≡ 1) → start_of (n + 1) ≡ start_of n + count_of n
    go (yes e) = rw e refl
    go (no d) = rw (ne_eqb n 1 d, ne_eqb (n + 1) 1 (λ e. omega arith)) (omega arith)

pub start-room : (n : ℕ) → 1 ≤ n → n < 400 → start_of n + count_of n ≤ 802
start-room n l m = go (ℕ_discrete n 1)
  where
    go : Dec (n ≡ 1) → start_of n + count_of n ≤ 802
    go (yes e) = rw e (omega arith)
    go (no d) = rw (ne_eqb n 1 d) (omega arith)

-- ---- lines from number n on: m would be the next line
abbrev Within : ℕ → Reading → Type 0
Within n (malformed m) = (n ≤ m) × (m ≤ 400)
Within n (numbers zs) = (m : ℕ) × (n ≤ m) × (3 ≤ m) × (m ≤ 400) × (start_of n + length zs ≡ 2 * m + 2)

within_none : (n : ℕ) → 1 ≤ n → n ≤ 400 → Within n (read_from n [])
unfolding read_from
within_none n l m = go (dec_lt n 3)
  where
    go : Dec (n < 3) → Within n (cond (ltb n 3) (malformed n) (numbers []))
    go (yes h) = rw (lt-ltb n 3 h) (omega arith, m)
    go (no h) = rw (le-ltb n 3 (omega arith)) (n, omega arith, omega arith, m, rw (ne_eqb n 1 (λ e. omega arith)) (omega arith))

within-line : (n : ℕ) → 1 ≤ n → n < 400 → (o : Option (List ℤ)) → OfLength (count_of n) o → (r : Reading) → Within (n + 1) r
    → Within n (line_then n o r)
within-line n l m None s r w = (omega arith, omega arith)
within-line n l m (Some zs) s (malformed k) w = (omega (arith, w.0), w.1)
within-line n l m (Some zs) s (numbers ws) w = (
  w.0,
  omega (arith, w.1),
  w.2,
  w.3,
  (let a = length-append zs ws in let b = start-next n l in let e = w.4 in omega arith),
)

within : (n : ℕ) → 1 ≤ n → n ≤ 400 → (ls : List (List ℕ)) → Within n (read_from n ls)
unfolding read_from
within n l m [] = within_none n l m
within n l m (line ∷ ls) = go (dec_lt n 400) (λ h. within (n + 1) (omega arith) (omega arith) ls)
  where
    go : Dec (n < 400) → (n < 400 → Within (n + 1) (read_from (n + 1) ls)) → Within n (read_from n (line ∷ ls))
    go (yes h) rest =
        rw (lt-ltb n 400 h)
        (within-line n l h (line_of (letter_of n) (count_of n) line) (line-sized (letter_of n) (count_of n) line) (read_from (n + 1) ls) (rest h))
    go (no h) rest = rw (le-ltb n 400 (omega arith)) (omega arith, m)

-- ---- the whole text
module _ (text : List ℕ) where
  all-within : Within 1 (read_of text)
  unfolding read_of
  all-within = within 1 (omega arith) (omega arith) (lines_of text)

  pub wrong-line : {n : ℕ} → read_of text ≡ malformed n → (1 ≤ n) × (n ≤ 400)
  wrong-line e = subst (Within 1) e all-within

  pub numbers-length : {zs : List ℤ} → read_of text ≡ numbers zs → (points : ℕ) × (points ≤ 397) × (length zs ≡ 8 + 2 * points)
  numbers-length e =
      let w = subst (Within 1) e all-within in
      let l = w.2 in let h = w.3 in let q = w.4 in
      (w.0 - 3, omega arith, omega arith)

  pub row-numbers : {zs : List ℤ} → read_of text ≡ numbers zs → (row : List ℤ) → length row ≡ 802
      → numbers_row (read_of text) row ≡ zs ++ drop (length zs) row
  row-numbers {zs} e row l =
      let w = numbers-length e in let h = w.1 in let q = w.2 in
      let z : 0 + length zs ≡ length zs = omega arith in
      rw e (sets-eq zs row 0 (omega arith) ∙ rw z refl)
