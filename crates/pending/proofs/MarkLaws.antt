-- A bit of the set, in its word of the row: what the code's shift is, and a bit put in or taken out, which changes no other. Assumes nothing.
use Rattle.std.specs.Prelude.{true, false, ◌≢◌, List, ◌∷◌, ◌≡◌, set}
use Rattle.std.proofs.Math.Path.{refl, ap}
use Rattle.std.proofs.Common.{sym, ◌∙◌, one-mul, shl_exact}
use Prim.Native.Nat.{ℕ, zero, suc, ◌+◌, ◌-◌, ◌*◌, ◌/◌, ◌%◌, ◌^◌, ◌≤◌, ◌<◌}
use Rattle.std.proofs.Math.Decide.{ℕ_discrete}
use native.Mathlib.Omega.{arith}
use Rattle.std.proofs.Math.Dec.{eqb}
use Rattle.std.proofs.Math.ListN.{length, get_or, length-set}
use Rattle.std.proofs.Math.Seq.{get_or-set_same, get_or-set_other}
use borrow.Author.Tests.{eq-eqb, ne_eqb, eqb-true, eqb-false}
use Rattle.pending.specs.Pending.{contains}
use Rattle.pending.specs.Set.{bit_of, word_at, is_marked}
use Rattle.pending.proofs.BitLaws.{bit-two, set_same, set_other, set-fits, bit-least, clear-same, clear-other}

-- ---- membership, by whether it is the first
pub contains-first : (x : ℕ) (l : List ℕ) → contains x (x ∷ l) ≡ true
unfolding contains
contains-first x l = rw (eq-eqb x x refl) refl

pub contains-rest : {x y : ℕ} (l : List ℕ) → y ≢ x → contains y (x ∷ l) ≡ contains y l
unfolding contains
contains-rest {x} {y} l d = rw (ne_eqb y x d) refl

-- ---- a bit of the set
-- `1 << k` for a bit of a word
pub one_shift : (x : ℕ) → 1 * 2 ^ (x % 32) % 2 ^ 32 ≡ 2 ^ (x % 32)
one_shift x = shl_exact {a = 1} 1 (x % 32) 32 (omega arith) (omega arith) ∙ one-mul (2 ^ (x % 32))

module _ (row : List ℕ) (x : ℕ) where
  abbrev pub word : ℕ
  word = get_or row (word_at row x) 0

  pub bit-on : is_marked row x ≡ true → bit_of word (x % 32) ≡ 1
  unfolding is_marked
  bit-on e = eqb-true _ _ e

  pub bit-off : is_marked row x ≡ false → bit_of word (x % 32) ≡ 0
  unfolding is_marked
  bit-off e = let d = eqb-false _ _ e in let t = bit-two word (x % 32) in least (bit_of word (x % 32)) t d
    where
      least : (b : ℕ) → b < 2 → (b ≡ 1 → ⊥) → b ≡ 0
      least zero t d = refl
      least (suc zero) t d = absurd (d refl)
      least (suc (suc b)) t d = absurd (omega arith)

  -- the word has room for a bit that it does not have, and is at least one that it has
  pub mark-fits : word < 2 ^ 32 → is_marked row x ≡ false → word + 2 ^ (x % 32) < 2 ^ 32
  mark-fits l e = set-fits word (x % 32) 32 (omega arith) l (bit-off e)

  pub unmark-fits : is_marked row x ≡ true → 2 ^ (x % 32) ≤ word
  unmark-fits e = bit-least word (x % 32) (bit-on e)

-- ---- one word stored anew
module _ (row : List ℕ) (x v : ℕ) (l : x / 32 < length row) where
  abbrev stored : List ℕ
  stored = set row (word_at row x) v

  word_same : (y : ℕ) → y / 32 ≡ x / 32 → is_marked stored y ≡ eqb (bit_of v (y % 32)) 1
  unfolding is_marked
  word_same y e =
      let n = length-set row (word_at row x) v in
      let i : length stored - 1 - y / 32 ≡ word_at row x = omega arith in
      ap (λ (w : ℕ). eqb (bit_of w (y % 32)) 1) (ap (λ (j : ℕ). get_or stored j 0) i ∙ get_or-set_same row (word_at row x) v 0 (omega arith))

  word-other : (y : ℕ) → y / 32 ≢ x / 32 → y / 32 < length row → is_marked stored y ≡ is_marked row y
  unfolding is_marked
  word-other y d m =
      let n = length-set row (word_at row x) v in
      let i : length stored - 1 - y / 32 ≡ word_at row y = omega arith in
      ap (λ (w : ℕ). eqb (bit_of w (y % 32)) 1)
      (ap (λ (j : ℕ). get_or stored j 0) i ∙ get_or-set_other row (word_at row x) (word_at row y) v 0 (apart (length row) (x / 32) (y / 32) l m d))
    where
      apart : (n a b : ℕ) → a < n → b < n → b ≢ a → n - 1 - b ≢ n - 1 - a
      apart n a b l m d z = d (omega arith)

-- what stands past the set's words is no matter to it
pub entry_other : (row : List ℕ) (n v y : ℕ) → n < word_at row y → is_marked (set row n v) y ≡ is_marked row y
unfolding is_marked
entry_other row n v y l =
    let m = length-set row n v in
    let i : length (set row n v) - 1 - y / 32 ≡ word_at row y = omega arith in
    ap (λ (w : ℕ). eqb (bit_of w (y % 32)) 1)
    (ap (λ (j : ℕ). get_or (set row n v) j 0) i ∙ get_or-set_other row n (word_at row y) v 0 (omega arith))

-- two numbers with one word have different bits
same_word : (x y : ℕ) → y ≢ x → y / 32 ≡ x / 32 → y % 32 ≢ x % 32
same_word x y d e z = d (omega arith)

module _ (row : List ℕ) (x : ℕ) (l : x / 32 < length row) where
  abbrev pub marked : List ℕ
  marked = set row (word_at row x) (word row x + 2 ^ (x % 32))

  abbrev pub unmarked : List ℕ
  unmarked = set row (word_at row x) (word row x - 2 ^ (x % 32))

  pub mark-same : is_marked row x ≡ false → is_marked marked x ≡ true
  mark-same e = word_same row x _ l x refl ∙ eq-eqb _ _ (set_same (word row x) (x % 32) (bit-off row x e))

  pub mark-other : (y : ℕ) → y ≢ x → y / 32 < length row → is_marked row x ≡ false → is_marked marked y ≡ is_marked row y
  unfolding is_marked
  mark-other y d m e = go (ℕ_discrete (y / 32) (x / 32))
    where
      go : Dec (y / 32 ≡ x / 32) → is_marked marked y ≡ is_marked row y
      go (no z) = word-other row x _ l y z m
      go (yes z) =
          word_same row x _ l y z
          ∙ ap (λ (b : ℕ). eqb b 1) (set_other (word row x) (x % 32) (y % 32) (same_word x y d z) (bit-off row x e))
          ∙ ap (λ (i : ℕ). eqb (bit_of (get_or row (length row - 1 - i) 0) (y % 32)) 1) (sym z)

  pub unmark-same : is_marked row x ≡ true → is_marked unmarked x ≡ false
  unmark-same e =
      word_same row x _ l x refl
      ∙ ap (λ (b : ℕ). eqb b 1) (clear-same (word row x) (x % 32) (bit-on row x e))

  pub unmark-other : (y : ℕ) → y ≢ x → y / 32 < length row → is_marked row x ≡ true → is_marked unmarked y ≡ is_marked row y
  unfolding is_marked
  unmark-other y d m e = go (ℕ_discrete (y / 32) (x / 32))
    where
      go : Dec (y / 32 ≡ x / 32) → is_marked unmarked y ≡ is_marked row y
      go (no z) = word-other row x _ l y z m
      go (yes z) =
          word_same row x _ l y z
          ∙ ap (λ (b : ℕ). eqb b 1) (clear-other (word row x) (x % 32) (y % 32) (same_word x y d z) (bit-on row x e))
          ∙ ap (λ (i : ℕ). eqb (bit_of (get_or row (length row - 1 - i) 0) (y % 32)) 1) (sym z)
