-- Rows that are written from a place on, one run of entries after the other.
--     sets-append      two runs are one
--     put_mid-sets     a part of a row that is written over is a run
--     appended-none, appended-byte, appended_then      how a text is appended: nothing, one byte, and one text behind another
--     appended-fits    with room for all, the place is behind the bytes, and the row is the bytes between what stood before and behind them
-- Assumes nothing.
use Rattle.std.specs.Prelude.{List, [], ◌∷◌, ◌++◌, ◌≡◌, refl, ℕ, suc, ◌+◌, ◌≤◌, ◌<◌, length, get_or, set, take, drop}
use Rattle.std.proofs.Common.{sym, ◌∙◌, ap, ap₂, add-zero, add-suc, suc-add, arith, add-one, length-append, take-suc, take_all}
use Rattle.std.proofs.lemmas.Slice.{put_mid-paste}
use borrow.Rule.Slice.PartMut.{put_mid}
use Rattle.std.proofs.Math.Decide.{dec_lt}
use Rattle.std.proofs.lemmas.List.Edits.{sets, sets-eq}
use Rattle.std.proofs.Math.Seq.{set_out, length-sets}
use Rattle.listing_text.specs.Decimal.{Appended, place_after}

module _ {A : Type 0} where
  pub sets-append : (row : List A) (at : ℕ) (xs ys : List A) → sets row at (xs ++ ys) ≡ sets (sets row at xs) (at + length xs) ys
  sets-append row at [] ys = rw add-zero refl
  sets-append row at (x ∷ xs) ys = sets-append (set row at x) (suc at) xs ys ∙ rw (add-suc, suc-add) refl

  pub sets-snoc : (row : List A) (at : ℕ) (xs : List A) (x : A) → sets row at (xs ++ (x ∷ [])) ≡ set (sets row at xs) (at + length xs) x
  sets-snoc row at xs x = sets-append row at xs (x ∷ [])

  -- nothing is stored past the row's end
  pub sets-out : (row : List A) (at : ℕ) (xs : List A) → length row ≤ at → sets row at xs ≡ row
  sets-out row at [] l = refl
  sets-out row at (x ∷ xs) l = rw (set_out row at x l) (sets-out row (suc at) xs (omega arith))

  -- k entries from `at` on are a slice that the code has lent and filled
  pub put_mid-sets : (at k : ℕ) (row xs : List A) → length xs ≡ k → at + k ≤ length row → put_mid at k row xs ≡ sets row at xs
  put_mid-sets at k row xs l m =
      put_mid-paste at k row xs xs (length xs) refl l refl
      ∙ rw (take_all (length xs) xs (omega arith)) (sym (sets-eq xs row at (omega arith)))

-- ---- texts in a row of bytes
pub appended-none : (row : List ℕ) (at : ℕ) → Appended row at [] row at
appended-none row at = record { stored = refl; place = omega arith }

module _ (row : List ℕ) (at byte : ℕ) where
  pub appended-byte : at < length row → Appended row at (byte ∷ []) (set row at byte) (at + 1)
  appended-byte l = record { stored = refl; place = omega arith }

  -- no room is left, and none was left before
  pub appended-end : at ≡ length row → Appended row at (byte ∷ []) row (at + 1)
  appended-end l = record { stored = sym (set_out row at byte (omega arith)); place = omega arith }

  pub appended-past : length row < at → Appended row at (byte ∷ []) row at
  appended-past l = record { stored = sym (set_out row at byte (omega arith)); place = omega arith }

module _ {row : List ℕ} {at : ℕ} {xs row' : List ℕ} {at' : ℕ} (f : Appended row at xs row' at') where
  pub appended-length : length row' ≡ length row
  appended-length = ap length f.stored ∙ length-sets row at xs

  pub appended_then : {ys row'' : List ℕ} {at'' : ℕ} → Appended row' at' ys row'' at'' → Appended row at (xs ++ ys) row'' at''
  appended_then {ys} {row''} {at''} g = record {
    stored = g.stored ∙ go (dec_lt (length row) (at + length xs));
    place =
        let n = appended-length in let a = length-append xs ys in let p = f.place in
        g.place ∙ after (length row') (length row) at at' (length xs) (length ys) (length (xs ++ ys)) n p a;
  }
    where
      go : Dec (length row < at + length xs) → sets row' at' ys ≡ sets row at (xs ++ ys)
      go (yes l) =
          let n = appended-length in let p = f.place in
          let past : length row' ≤ at' = omega arith in
          let past' : length (sets row at xs) ≤ at + length xs = let m = length-sets row at xs in omega arith in
          sets-out row' at' ys past ∙ f.stored ∙ sym (sets-append row at xs ys ∙ sets-out (sets row at xs) (at + length xs) ys past')
      go (no l) =
          let p = f.place in
          let same : at' ≡ at + length xs = omega arith in
          ap₂ (λ (r : List ℕ) (k : ℕ). sets r k ys) f.stored same ∙ sym (sets-append row at xs ys)

      after : (l' l a a' n m k : ℕ) → l' ≡ l → a' ≡ place_after l a n → k ≡ n + m → place_after l' a' m ≡ place_after l a k
      after l' l a a' n m k e p q = omega arith

  pub appended-fits : at + length xs ≤ length row → (at' ≡ at + length xs) × (row' ≡ take at row ++ xs ++ drop (at + length xs) row)
  appended-fits l = (let p = f.place in omega arith, f.stored ∙ sets-eq xs row at l)

-- ---- a text byte by byte
module _ (bytes : List ℕ) (i : ℕ) {row : List ℕ} {at : ℕ} {row' : List ℕ} {at' : ℕ} (f : Appended row at (take i bytes) row' at') where
  pub appended-next : i < length bytes → {row'' : List ℕ} {at'' : ℕ} → Appended row' at' (get_or bytes i 0 ∷ []) row'' at''
      → Appended row at (take (i + 1) bytes) row'' at''
  appended-next l g = rw (add-one, take-suc bytes i 0 l) (appended_then f g)

  pub appended-all : length bytes ≤ i → Appended row at bytes row' at'
  appended-all l = rw (take_all i bytes l) at f
