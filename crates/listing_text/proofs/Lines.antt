-- Reading a text, line by line: the numbers read so far stand before those of the lines that are left. Assumes nothing.
use Rattle.std.specs.Prelude.{◌≡◌, Bool, true, false, List, [], ◌∷◌, ◌++◌, ℕ, suc, ◌+◌, ◌-◌, ◌≤◌, ◌<◌, ℤ, length, get_or, take, drop, Option, Some, None, Ok, Err}
use Rattle.std.specs.List.{between}
use Rattle.std.proofs.lemmas.List.Edits.{sets}
use Rattle.std.proofs.lemmas.Slice.{between_to_end}
use borrow.Rule.Slice.PartMut.{put_mid}
use Rattle.std.proofs.Math.Seq.{length-sets}
use Rattle.std.proofs.Common.{refl, sym, ◌∙◌, ap, ap₂, subst, add-one, arith, append_assoc, append-nil, length-append, length-drop, length-take-le, drop_of_length-le, drop-cons, drop-drop, lt-ltb, le-ltb}
use Rattle.std.proofs.Math.Decide.{dec_lt}
use Rattle.std.proofs.lemmas.Bool.{false≢true}
use Rattle.listing_text.specs.Reading.{cut, lines_of, line_of, letter_of, count_of, Reading, malformed, numbers, before, line_then, read_from, read_of, input_of}
use Rattle.listing_text.specs.ReadingParts.{up_to, is_there, Stored, StoredAll}
use Rattle.listing_text.specs.ReadingLaws.{line-length, start_of, start-next, start-room}
use Rattle.listing_text.proofs.Pieces.{lines_behind, lines-first, up-to-le}
use Rattle.listing_text.specs.RowLaws.{sets-append, put_mid-sets}

before-nil : (r : Reading) → r ≡ before [] r
before-nil (malformed n) = refl
before-nil (numbers ws) = refl

before-next : (zs ws : List ℤ) (r : Reading) → before zs (before ws r) ≡ before (zs ++ ws) r
before-next zs ws (malformed n) = refl
before-next zs ws (numbers vs) = ap numbers (sym (append_assoc zs ws vs))

-- a whole text that is wrong, or right
all-wrong : {row row' : List ℤ} {o : Reading} {n : ℕ} → o ≡ malformed n → StoredAll row o row' (Err (record { number = n }))
all-wrong e = record { answer = ap input_of (sym e); numbers = λ zs q. absurd (cc) }

all_right : {row row' : List ℤ} {o : Reading} {zs : List ℤ} {n : ℕ} → o ≡ numbers zs → length zs ≡ n → row' ≡ sets row 0 zs
    → StoredAll row o row' (Ok n)
all_right {row} {o = o} {zs = zs} e l s = record {
  answer = ap Ok (sym l) ∙ ap input_of (sym e);
  numbers = λ ws q. s ∙ ap (sets row 0) (same ws q);
}
  where
    same : (ws : List ℤ) → o ≡ numbers ws → zs ≡ ws
    same ws q = cc

-- lines up to `number` are right, and the text from `place` on is left
pub record Taken (text : List ℕ) (row₀ row : List ℤ) (place number stored : ℕ) : Type 0 where
  pub done : List ℤ
  pub size : length done ≡ stored
  pub rows : row ≡ sets row₀ 0 done
  pub first : 1 ≤ number
  pub last : number ≤ 400
  pub start : stored ≡ start_of number
  pub same : read_of text ≡ before done (read_from number (lines_of (drop place text)))

pub taken_start : {text : List ℕ} {row : List ℤ} → Taken text row row 0 1 0
unfolding read_of
taken_start {text} = record {
  done = [];
  size = refl;
  rows = refl;
  first = omega arith;
  last = omega arith;
  start = refl;
  same = before-nil (read_from 1 (lines_of text));
}

-- ---- the line at a place, and the lines behind it
lines-behind : (text : List ℕ) (stop : ℕ) → lines_behind (drop stop text) ≡ lines_of (drop (stop + 1) text)
unfolding cut
lines-behind text stop = go (dec_lt stop (length text))
  where
    go : Dec (stop < length text) → lines_behind (drop stop text) ≡ lines_of (drop (stop + 1) text)
    go (yes l) = rw (drop-cons text stop 0 l, add-one) refl
    go (no l) =
        let past : length text ≤ stop = omega arith in
        let past' : length text ≤ stop + 1 = omega arith in
        rw (drop_of_length-le text past, drop_of_length-le text past') refl

pub stop_is : (text : List ℕ) (place : ℕ) {k : ℕ} → k ≡ up_to 10 (between place (length text) text)
    → place + k ≡ place + up_to 10 (drop place text)
stop_is text place q = ap (λ k. place + k) (q ∙ ap (up_to 10) (between_to_end text place (length text) (omega arith)))

module _ (text : List ℕ) {place stop : ℕ} (l : place < length text) (s : stop ≡ place + up_to 10 (drop place text)) where
  lines_at : lines_of (drop place text) ≡ take (stop - place) (drop place text) ∷ lines_of (drop (stop + 1) text)
  lines_at =
      let less : stop - place ≡ up_to 10 (drop place text) = omega arith in
      let whole : drop place text ≡ get_or text place 0 ∷ drop (suc place) text = drop-cons text place 0 l in
      let far : drop (up_to 10 (drop place text)) (drop place text) ≡ drop stop text =
      rw s (drop-drop (up_to 10 (drop place text)) place text)
      in
      subst (λ (t : List ℕ). lines_of t ≡ take (up_to 10 t) t ∷ lines_behind (drop (up_to 10 t) t)) (sym whole)
      (lines-first (get_or text place 0) (drop (suc place) text))
      ∙ rw (far, less, lines-behind text stop) refl

  pub line-most : stop ≤ length text
  line-most = let h = up-to-le 10 (drop place text) in let d = length-drop place text in omega arith

-- ---- the turns of the loop
there-none : (o : Option (List ℤ)) → is_there o ≡ false → o ≡ None
there-none None e = refl
there-none (Some zs) e = absurd (false≢true (sym e))

there-some : (o : Option (List ℤ)) → is_there o ≡ true → (zs : List ℤ) × (o ≡ Some zs)
there-some None e = absurd (false≢true e)
there-some (Some zs) e = (zs, refl)

module _ {text : List ℕ} {row₀ row : List ℤ} {place number stored : ℕ} (g : Taken text row₀ row place number stored) where
  pub line-room : number < 400 → {n : ℕ} → n ≡ count_of number → stored + n ≤ 802
  line-room m q = let a = start-room number g.first m in let b = g.start in omega arith

  -- line 400 is there
  pub taken-over : place < length text → 400 ≤ number → StoredAll row₀ (read_of text) row (Err (record { number = number }))
  unfolding read_from
  taken-over l m =
      let q : read_from number (lines_of (drop place text)) ≡ malformed number = rw (lines_at text l refl, le-ltb number 400 m) refl in
      all-wrong (g.same ∙ ap (before g.done) q)

  -- the text is at its end
  pub taken-few : length text ≤ place → number < 3 → StoredAll row₀ (read_of text) row (Err (record { number = number }))
  unfolding read_from cut
  taken-few l m =
      let q : read_from number (lines_of (drop place text)) ≡ malformed number = rw (drop_of_length-le text l, lt-ltb number 3 m) refl in
      all-wrong (g.same ∙ ap (before g.done) q)

  pub taken-all : length text ≤ place → 3 ≤ number → StoredAll row₀ (read_of text) row (Ok stored)
  unfolding read_from cut
  taken-all l m =
      let q : read_from number (lines_of (drop place text)) ≡ numbers [] = rw (drop_of_length-le text l, le-ltb number 3 m) refl in
      all_right (g.same ∙ ap (before g.done) q ∙ ap numbers (append-nil g.done)) g.size g.rows

  -- a line
  module _ {stop : ℕ} (l : place < length text) (s : stop ≡ place + up_to 10 (drop place text)) (m : number < 400) where
    line-here : List ℕ
    line-here = take (stop - place) (drop place text)

    turn : read_of text
        ≡ before g.done
        (line_then number (line_of (letter_of number) (count_of number) line-here) (read_from (number + 1) (lines_of (drop (stop + 1) text))))
    unfolding read_from line-here
    turn = g.same ∙ rw (lines_at text l s, lt-ltb number 400 m) refl

    module _ {letter n : ℕ} (p : letter ≡ letter_of number) (q : n ≡ count_of number) (w : length row₀ ≡ 802) {sub : List ℤ} {r : Bool}
        (h : Stored (line_of letter (length (take (stored + n - stored) (drop stored row))) (take (stop - place) (drop place text))) sub r) where
      room : stored + n ≤ length row
      room =
          let a = line-room m q in let c = ap length g.rows ∙ length-sets row₀ 0 g.done in
          omega arith

      as-many : length (take (stored + n - stored) (drop stored row)) ≡ n
      as-many =
          let a = room in let b = length-drop stored row in
          let c : stored + n - stored ≤ length (drop stored row) = omega arith in
          length-take-le (stored + n - stored) (drop stored row) c ∙ omega arith

      as-expected : line_of letter (length (take (stored + n - stored) (drop stored row))) (take (stop - place) (drop place text))
          ≡ line_of (letter_of number) (count_of number) line-here
      unfolding line-here
      as-expected = ap₂ (λ (a b : ℕ). line_of a b (take (stop - place) (drop place text))) p (as-many ∙ q)

      found : is_there (line_of (letter_of number) (count_of number) line-here) ≡ r
      found = sym (h.answer ∙ ap is_there as-expected)

      pub taken-wrong : r ≡ false → {row' : List ℤ} → StoredAll row₀ (read_of text) row' (Err (record { number = number }))
      taken-wrong f = all-wrong (turn ∙ rw (there-none (line_of (letter_of number) (count_of number) line-here) (found ∙ f)) refl)

      with-numbers : (zs : List ℤ) → line_of (letter_of number) (count_of number) line-here ≡ Some zs
          → Taken text row₀ (put_mid stored (stored + n - stored) row sub) (stop + 1) (number + 1) (stored + n)
      with-numbers zs o =
          let e = as-expected ∙ o in
          let many : length zs ≡ n = line-length letter _ _ e ∙ as-many in
          let is : sub ≡ zs = h.numbers zs e in
          let behind : stored ≡ 0 + length g.done = let a = g.size in omega arith in
          let rest = read_from (number + 1) (lines_of (drop (stop + 1) text)) in
          record {
            done = g.done ++ zs;
            size = let a = g.size in length-append g.done zs ∙ omega arith;
            rows =
                let a = room in
                rw is (put_mid-sets stored (stored + n - stored) row zs (omega arith) (omega arith))
                ∙ ap₂ (λ (r : List ℤ) (k : ℕ). sets r k zs) g.rows behind ∙ sym (sets-append row₀ 0 g.done zs);
            first = omega arith;
            last = omega arith;
            start = let a = start-next number g.first in let b = g.start in omega arith;
            same = turn ∙ ap (λ (o : Option (List ℤ)). before g.done (line_then number o rest)) o ∙ before-next g.done zs rest;
          }

      pub taken_next : r ≡ true → Taken text row₀ (put_mid stored (stored + n - stored) row sub) (stop + 1) (number + 1) (stored + n)
      taken_next t = let o = there-some (line_of (letter_of number) (count_of number) line-here) (found ∙ t) in with-numbers o.0 o.1
