-- Reading a line, field by field: the numbers go into a row, and those read so far stand before those that are left. Assumes nothing.
use Rattle.std.specs.Prelude.{◌≡◌, Bool, true, false, cond, List, [], ◌∷◌, ◌++◌, ℕ, zero, suc, ◌+◌, ◌-◌, ◌≤◌, ◌<◌, eqb, ℤ, length, get_or, set, take, drop, Option, Some, None}
use Rattle.std.proofs.Common.{refl, sym, ◌∙◌, ap, subst, add-one, arith, eq-eqb, ne_eqb, append_assoc, append-nil, take_all, length-set}
use Rattle.std.specs.List.{between}
use Rattle.std.proofs.lemmas.Slice.{between_to_end}
use Rattle.std.proofs.Math.Seq.{take-suc-set}
use Rattle.listing_text.specs.Reading.{number_of, followed, numbers_of, is_letter, line_of}
use Rattle.listing_text.specs.ReadingParts.{up_to, fields_behind, is_there, Stored}
use Rattle.listing_text.proofs.Pieces.{fields-first, up-to-le}

-- numbers before what is left
abbrev pub ahead : List ℤ → Option (List ℤ) → Option (List ℤ)
ahead zs None = None
ahead zs (Some ws) = Some (zs ++ ws)

ahead-next : (zs : List ℤ) (z : ℤ) (o : Option (List ℤ)) → ahead zs (followed (Some z) o) ≡ ahead (zs ++ (z ∷ [])) o
ahead-next zs z None = refl
ahead-next zs z (Some ws) = ap Some (sym (append_assoc zs (z ∷ []) ws))

ahead-nil : (o : Option (List ℤ)) → o ≡ ahead [] o
ahead-nil None = refl
ahead-nil (Some ws) = refl

-- k of n numbers are read and stored, and `rest` is what is left of the line
pub record Filled (line : List ℕ) (n : ℕ) (row : List ℤ) (k : ℕ) (rest : List ℕ) : Type 0 where
  pub size : length row ≡ n
  pub same : numbers_of n (fields_behind line) ≡ ahead (take k row) (numbers_of (n - k) (fields_behind rest))

pub filled_start : (line : List ℕ) (row : List ℤ) → Filled line (length row) row 0 line
filled_start line row = record {
  size = refl;
  same = let all : length row - 0 ≡ length row = omega arith in rw all (ahead-nil (numbers_of (length row) (fields_behind line)));
}

-- numbers, or none
stored-none : {row : List ℤ} {o : Option (List ℤ)} → o ≡ None → Stored o row false
stored-none e = record { answer = ap is_there (sym e); numbers = λ zs q. absurd (cc) }

stored_some : {row : List ℤ} {o : Option (List ℤ)} → o ≡ Some row → Stored o row true
stored_some e = record { answer = ap is_there (sym e); numbers = λ ws q. cc }

module _ {line : List ℕ} {n : ℕ} {row : List ℤ} {k : ℕ} {rest : List ℕ} (g : Filled line n row k rest) where
  -- the end of the line, with numbers to come
  pub filled_none : k < n → length rest ≡ 0 → {row' : List ℤ} → Stored (numbers_of n (fields_behind line)) row' false
  unfolding numbers_of
  filled_none l e {row'} = go rest e refl
    where
      go : (s : List ℕ) → length s ≡ 0 → rest ≡ s → Stored (numbers_of n (fields_behind line)) row' false
      go [] m q =
          let more : n - k ≡ suc (n - (k + 1)) = omega arith in
          let left : numbers_of (n - k) (fields_behind rest) ≡ None = rw (q, more) refl in
          stored-none (g.same ∙ ap (ahead (take k row)) left)
      go (b ∷ s) m q = absurd (omega arith)

  -- all numbers are there: what is left of the line is too much
  pub filled-end : n ≤ k → Stored (numbers_of n (fields_behind line)) row (eqb (length rest) 0)
  unfolding numbers_of
  filled-end l = go rest refl
    where
      none : n - k ≡ 0
      none = omega arith

      all : take k row ≡ row
      all = take_all k row (let h = g.size in omega arith)

      go : (s : List ℕ) → rest ≡ s → Stored (numbers_of n (fields_behind line)) row (eqb (length rest) 0)
      go [] q =
          let left : numbers_of (n - k) (fields_behind rest) ≡ Some [] = rw (q, none) refl in
          rw q (stored_some (g.same ∙ ap (ahead (take k row)) left ∙ ap Some (append-nil (take k row) ∙ all)))
      go (b ∷ s) q =
          let left : numbers_of (n - k) (fields_behind rest) ≡ None = rw (q, none, fields-first s) refl in
          rw (q, ne_eqb (length (b ∷ s)) 0 (λ e. omega arith)) (stored-none (g.same ∙ ap (ahead (take k row)) left))

  -- one field more, with the blank before it
  module _ {b : ℕ} {behind field after : List ℕ} (l : k < n) (m : rest ≡ b ∷ behind) (f : field ≡ take (up_to 32 behind) behind)
      (a : after ≡ drop (up_to 32 behind) behind) where
    turn : numbers_of n (fields_behind line) ≡ ahead (take k row) (followed (number_of field) (numbers_of (n - (k + 1)) (fields_behind after)))
    unfolding numbers_of
    turn =
        let more : n - k ≡ suc (n - (k + 1)) = omega arith in
        g.same ∙ rw (m, more, fields-first behind, f, a) refl

    pub filled-malformed : number_of field ≡ None → {row' : List ℤ} → Stored (numbers_of n (fields_behind line)) row' false
    filled-malformed e = stored-none (turn ∙ rw e refl)

    pub filled_next : {v : ℤ} → number_of field ≡ Some v → {w : ℤ} → w ≡ v → Filled line n (set row k w) (k + 1) after
    filled_next {v} e {w} q = record {
      size = length-set row k w ∙ g.size;
      same =
          let room : k < length row = let h = g.size in omega arith in
          let one_more : take (k + 1) (set row k w) ≡ take k row ++ (v ∷ []) = rw (add-one, take-suc-set row k w room, q) refl in
          turn ∙ rw (e, one_more) (ahead-next (take k row) v (numbers_of (n - (k + 1)) (fields_behind after)));
    }

-- ---- the first field of a line is its letter
other_length : (letter : ℕ) (s : List ℕ) (u : ℕ) → u ≤ length s → (u ≡ 1 → ⊥) → is_letter letter (take u s) ≡ false
other_length letter s zero l d = refl
other_length letter s (suc zero) l d = absurd (d refl)
other_length letter [] (suc (suc u)) l d = absurd (omega arith)
other_length letter (b ∷ []) (suc (suc u)) l d = absurd (omega arith)
other_length letter (b ∷ c ∷ s) (suc (suc u)) l d = refl

one_byte : (letter : ℕ) (s : List ℕ) → 1 ≤ length s → is_letter letter (take 1 s) ≡ eqb (get_or s 0 0) letter
one_byte letter [] l = absurd (omega arith)
one_byte letter (b ∷ s) l = refl

module _ (line : List ℕ) {stop : ℕ} (s : stop ≡ up_to 32 line) where
  by-letter : (letter count : ℕ)
      → line_of letter count line ≡ cond (is_letter letter (take stop line)) (numbers_of count (fields_behind (drop stop line))) None
  unfolding line_of
  by-letter letter count = rw (fields-first line, s) refl

  stop-in : stop ≤ length line
  stop-in = let h = up-to-le 32 line in omega arith

  pub letter-in : stop ≡ 1 → 0 < length line
  letter-in e = let h = stop-in in omega arith

  pub line-length : (letter count : ℕ) → (stop ≡ 1 → ⊥) → {row : List ℤ} → Stored (line_of letter count line) row false
  line-length letter count d = stored-none (by-letter letter count ∙ rw (other_length letter line stop stop-in d) refl)

  module _ (letter count : ℕ) (e : stop ≡ 1) where
    pub line_other : (get_or line 0 0 ≡ letter → ⊥) → {row : List ℤ} → Stored (line_of letter count line) row false
    line_other d =
        stored-none (by-letter letter count ∙ rw (e, one_byte letter line (letter-in e), ne_eqb (get_or line 0 0) letter d) refl)

    pub line-stored : get_or line 0 0 ≡ letter → {row : List ℤ} {r : Bool}
        → Stored (numbers_of count (fields_behind (between 1 (length line) line))) row r → Stored (line_of letter count line) row r
    line-stored q {row} {r} h =
        let behind : fields_behind (between 1 (length line) line) ≡ fields_behind (drop 1 line) =
        ap fields_behind (between_to_end line 1 (length line) (omega arith))
        in
        subst (λ (o : Option (List ℤ)). Stored o row r)
        (ap (numbers_of count) behind
        ∙ sym (by-letter letter count ∙ rw (e, one_byte letter line (letter-in e), eq-eqb (get_or line 0 0) letter q) refl)) h
