-- What a `fill` of a part of the row leaves, and of two parts. Assumes nothing.
use Prim.Native.Nat.{ℕ, ◌+◌, ◌-◌, ◌<◌, ◌≤◌}
use Rattle.std.proofs.Common.{zero-le}
use native.Mathlib.Omega.{arith}
use mathlib.Core.Path.{◌≡◌, ◌∙◌, ap}
use mathlib.Core.Bool.{Bool, true, false, cond, ◌&&◌, ◌||◌}
use mathlib.Core.List.{List, ◌++◌}
use lib.Dec.{leb, ltb}
use lib.ListN.{length, get_or, take, drop, replicate}
use Rattle.std.proofs.lemmas.List.{length-take-le, length-replicate, length-drop, length-append, get_or-replicate, get_or_append_left, get_or-append-add, get_or-take, get_or-drop}
use borrow.Rule.Slice.PartMut.{put_mid}
use Rattle.sums.proofs.BitLaws.{Tells, lt?, le?}
use Rattle.dcel.specs.Rows.{row_of}
use Rattle.ring.specs.Buckets.{within}
use Rattle.ring_rows.specs.Rows.{Updated}

-- v stands from `from` up to `to`, and elsewhere what stood there
pub record FilledRun (old new : List ℕ) (from to v : ℕ) : Type 0 where
  pub inside : (i : ℕ) → from ≤ i → i < to → row_of new i ≡ v
  pub before : (i : ℕ) → i < from → row_of new i ≡ row_of old i
  pub past : (i : ℕ) → to ≤ i → row_of new i ≡ row_of old i

further : (xs ys : List ℕ) (n i : ℕ) → length xs ≡ n → n ≤ i → get_or (xs ++ ys) i 0 ≡ get_or ys (i - n) 0
further xs ys n i e l = ap (λ (k : ℕ). get_or (xs ++ ys) k 0) (at (length xs) e) ∙ get_or-append-add xs ys (i - n) 0
  where
    at : (m : ℕ) → m ≡ n → i ≡ m + (i - n)
    at m e = omega arith

there : (i n : ℕ) → n ≤ i → n + (i - n) ≡ i
there i n l = omega arith

-- what a `fill` of the first places leaves, or of those from `from` on
pub filled-front : (old part : List ℕ) (to v : ℕ) → to ≤ length old → part ≡ replicate (length (take to old)) v
    → FilledRun old (part ++ drop to old) 0 to v
unfolding row_of
filled-front old part to v room e =
    let some : length (take to old) ≡ to = length-take-le to old room in
    let size : length part ≡ to = ap length e ∙ length-replicate (length (take to old)) v ∙ some in
    record {
      inside = λ i a b. get_or_append_left part (drop to old) 0 i (omega arith)
          ∙ ap (λ (l : List ℕ). get_or l i 0) e ∙ get_or-replicate (length (take to old)) i v 0 (omega arith);
      before = λ i a. absurd (omega arith);
      past = λ i a. further part (drop to old) to i size a ∙ get_or-drop to old (i - to) 0 ∙ ap (λ (k : ℕ). get_or old k 0) (there i to a);
    }

pub filled : (old part : List ℕ) (from to v : ℕ) → from ≤ to → to ≤ length old
    → part ≡ replicate (length (take (to - from) (drop from old))) v → FilledRun old (put_mid from (to - from) old part) from to v
unfolding row_of
filled old part from to v h room e =
    let start : length (take from old) ≡ from = length-take-le from old (omega arith) in
    let left = length-drop from old in
    let F = filled-front (drop from old) part (to - from) v (omega arith) e in
    let rest = drop (to - from) (drop from old) in
    record {
      inside = λ i a b. further (take from old) (part ++ rest) from i start a ∙ F.inside (i - from) zero-le (omega arith);
      before = λ i a. get_or_append_left (take from old) (part ++ rest) 0 i (omega arith) ∙ get_or-take from old i 0 a;
      past = λ i a. further (take from old) (part ++ rest) from i start (omega arith) ∙ F.past (i - from) (omega arith)
          ∙ get_or-drop from old (i - from) 0 ∙ ap (λ (k : ℕ). get_or old k 0) (there i from (omega arith));
    }

pub length-filled : (old part : List ℕ) (from to v : ℕ) → from ≤ to → to ≤ length old
    → part ≡ replicate (length (take (to - from) (drop from old))) v → length (put_mid from (to - from) old part) ≡ length old
length-filled old part from to v h room e =
    let rest = drop (to - from) (drop from old) in
    let start : length (take from old) ≡ from = length-take-le from old (omega arith) in
    let left = length-drop from old in
    let some : length (take (to - from) (drop from old)) ≡ to - from = length-take-le (to - from) (drop from old) (omega arith) in
    let size : length part ≡ to - from = ap length e ∙ length-replicate (length (take (to - from) (drop from old))) v ∙ some in
    let all = length-append (take from old) (part ++ rest) in
    let end = length-append part rest in
    let last = length-drop (to - from) (drop from old) in omega arith

-- one range, or two
pub updated-one : {old new : List ℕ} {count from to v : ℕ} → from ≤ to → to ≤ count → FilledRun old new from to v → Updated old new count from to v
unfolding within
updated-one {old} {new} {count} {from} {to} {v} h k R = record { each = λ i l. go i (leb from to) (leb from i) (ltb i to) (le? from to) (le? from i) (lt? i to); past = λ i l. R.past i (omega arith) }
  where
    go : (i : ℕ) (u c e : Bool) → Tells u (from ≤ to) (to < from) → Tells c (from ≤ i) (i < from) → Tells e (i < to) (to ≤ i) → row_of new i ≡ cond (cond u (c && e) (c || e)) v (row_of old i)
    go i false c e A C E = absurd (let z = A.1 tt in omega arith)
    go i true true true A C E = R.inside i (C.0 tt) (E.0 tt)
    go i true true false A C E = R.past i (E.1 tt)
    go i true false e A C E = R.before i (C.1 tt)

pub updated-two : {old mid new : List ℕ} {count from to v : ℕ} → to < from → from ≤ count → FilledRun old mid from count v → FilledRun mid new 0 to v → Updated old new count from to v
unfolding within
updated-two {old} {mid} {new} {count} {from} {to} {v} h k P Q = record { each = λ i l. go i l (leb from to) (leb from i) (ltb i to) (le? from to) (le? from i) (lt? i to); past = λ i l. Q.past i (omega arith) ∙ P.past i l }
  where
    go : (i : ℕ) → i < count → (u c e : Bool) → Tells u (from ≤ to) (to < from) → Tells c (from ≤ i) (i < from) → Tells e (i < to) (to ≤ i) → row_of new i ≡ cond (cond u (c && e) (c || e)) v (row_of old i)
    go i l true c e A C E = absurd (let z = A.0 tt in omega arith)
    go i l false true true A C E = Q.inside i (omega arith) (E.0 tt)
    go i l false true false A C E = Q.past i (E.1 tt) ∙ P.inside i (C.0 tt) l
    go i l false false true A C E = Q.inside i (omega arith) (E.0 tt)
    go i l false false false A C E = Q.past i (E.1 tt) ∙ P.before i (C.1 tt)
