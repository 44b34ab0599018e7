-- What is read of a text is the text cut, but for the last byte of one that is too long. Assumes nothing.
use Rattle.std.specs.Prelude.{◌≡◌, ℕ, List, [], ◌∷◌, ◌++◌, take, drop, set, length, ◌≤◌, ◌<◌, ◌+◌, Some, None, IfSome}
use Rattle.std.specs.Option.{option_map}
use Rattle.std.specs.Prelude.{Option}
use Rattle.std.proofs.Common.{sym, ◌∙◌, ap, arith, take_all, length-set, length-take}
use Rattle.std.proofs.lemmas.Bool.{lt-leb, le-leb}
use Rattle.std.proofs.lemmas.List.{take_more_set, take-append-le, take-append-drop}
use Rattle.listing.specs.Cut.{cut}

module _ (room : ℕ) (bytes : List ℕ) where
  pub whole : length (take (room + 1) bytes) ≤ room → take (room + 1) bytes ≡ cut room bytes
  whole l =
      let n = length-take (room + 1) bytes in
      let short : length bytes ≤ room = omega arith in
      rw (le-leb (length bytes) room short) (take_all (room + 1) bytes (omega arith))

  pub cut_off : room < length (take (room + 1) bytes) → set (take (room + 1) bytes) room 0 ≡ cut room bytes
  cut_off l =
      let read : List ℕ = take (room + 1) bytes in
      let n = length-take (room + 1) bytes in
      let m = length-set read room 0 in
      rw (lt-leb (length bytes) room (omega arith))
      (sym (take_all (room + 1) (set read room 0) (omega arith))
      ∙ take_more_set read room 0 l
      ∙ ap (λ (xs : List ℕ). xs ++ (0 ∷ []))
      (sym (take-append-le room read (drop (room + 1) bytes) (omega arith)) ∙ ap (take room) (take-append-drop (room + 1) bytes)))

-- where the reader's bytes are known
pub known_cut : (room : ℕ) {read text : List ℕ} (known : Option (List ℕ)) → IfSome (option_map (take (room + 1)) known) (λ xs. read ≡ xs)
    → ((bytes : List ℕ) → read ≡ take (room + 1) bytes → text ≡ cut room bytes) → IfSome known (λ bytes. text ≡ cut room bytes)
known_cut room None is cuts = tt
known_cut room (Some bytes) is cuts = cuts bytes is
