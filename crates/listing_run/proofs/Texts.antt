-- What `read` answers, by cases: the numbers stand at the row's start. Assumes nothing.
use mathlib.Core.List.{List, ◌++◌}
use mathlib.Core.Path.{◌≡◌, refl, sym, ◌∙◌, ap}
use Prim.Native.Nat.{ℕ, ◌≤◌}
use native.Mathlib.Omega.{arith}
use lib.IntN.{ℤ}
use lib.ListN.{length, take, drop, length-append}
use lib.Seq.{take_at, length-take-le}
use Rattle.std.specs.Prelude.{Result, Ok, Err}
use Rattle.listing_text.specs.declared.reading.MalformedLine.{MalformedLine}
use Rattle.listing_text.specs.Listing.{refusal_line}
use Rattle.listing_text.specs.Reading.{Reading, malformed, numbers, read_of, input_of, numbers_row}
use Rattle.listing_text.specs.ReadingLaws.{numbers-length, row-numbers}
use Rattle.listing_run.specs.ListingRun.{numbers_listing, reading_listing, listing_of}

module _ (text : List ℕ) {input : Result ℕ MalformedLine} (a : input ≡ input_of (read_of text)) where
  pub listing-malformed : {line : MalformedLine} → input ≡ Err line → refusal_line 0 line.number ≡ listing_of text
  unfolding listing_of reading_listing
  listing-malformed {line} k = go (read_of text) refl
    where
      go : (r : Reading) → read_of text ≡ r → refusal_line 0 line.number ≡ reading_listing (read_of text)
      go (malformed n) e =
          let z : input_of (malformed n) ≡ Err line = sym (a ∙ ap input_of e) ∙ k in
          let whole : record { number = n } ≡ line = cc in
          let y : n ≡ line.number = ap (λ (m : MalformedLine). m.number) whole in
          rw (e, y) refl
      go (numbers zs) e =
          let z : input_of (numbers zs) ≡ Err line = sym (a ∙ ap input_of e) ∙ k in
          absurd (cc)

  -- the numbers, and the row that begins with them
  pub record Numbered (row : List ℤ) (count : ℕ) : Type 0 where
    pub listed : numbers_listing (take count row) ≡ listing_of text
    pub room : count ≤ length row
    pub least : 8 ≤ count
    pub most : count ≤ 802

  pub numbered-sized : {row : List ℤ} {count : ℕ} → Numbered row count → (8 ≤ length (take count row)) × (length (take count row) ≤ 802)
  numbered-sized {row} {count} n = let z = length-take-le count row n.room in let l = n.least in let m = n.most in (omega arith, omega arith)

  module _ {row : List ℤ} (zeros : List ℤ) (b : row ≡ numbers_row (read_of text) zeros) (z : length zeros ≡ 802) {count : ℕ} (k : input ≡ Ok count) where
    pub numbered : Numbered row count
    unfolding listing_of reading_listing
    numbered = go (read_of text) refl
      where
        go : (r : Reading) → read_of text ≡ r → Numbered row count
        go (malformed n) e =
            let z : input_of (malformed n) ≡ Ok count = sym (a ∙ ap input_of e) ∙ k in
            absurd (cc)
        go (numbers zs) e =
            let y : input_of (numbers zs) ≡ Ok count = sym (a ∙ ap input_of e) ∙ k in
            let n : length zs ≡ count = cc in
            let w = numbers-length text e in
            let u = w.1 in let v = w.2 in
            let s : row ≡ zs ++ drop (length zs) zeros = b ∙ row-numbers text e zeros z in
            let f : take count row ≡ zs = ap (take count) s ∙ take_at zs (drop (length zs) zeros) count n in
            record {
              listed = ap numbers_listing f ∙ sym (ap reading_listing e);
              room = (let q = ap length s ∙ length-append zs (drop (length zs) zeros) in omega arith);
              least = omega arith;
              most = omega arith;
            }
