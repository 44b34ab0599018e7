-- 01's words about a ring, on the list of the boundary's angles with equal neighbours merged, say the same as counts
-- over the boundary's edges (`sound→`, `sound←`, `sound-round`, `round-sound`): an edge whose ends have equal angles
-- passes none of the tests, and "all differ" follows from "exactly one is followed by a smaller one". The merged angles
-- are those of the nodes (`nodes-merged`). Assumes nothing.
use Rattle.std.specs.Prelude.{◌≡◌, ◌≢◌, ◌⊎◌, T, leb}
use Rattle.std.proofs.Math.Path.{refl, sym, ap, ap₂}
use Rattle.std.proofs.Common.{◌∙◌, subst, inl, inr, leb→le, le→leb, eqb→eq}
use mathlib.Core.Bool.{Bool, true, false, not, cond, ◌&&◌}
use mathlib.Core.List.{List, [], ◌∷◌, map}
use Prim.Native.Nat.{ℕ, zero, suc, ◌+◌, ◌<◌, ◌≤◌}
use native.Mathlib.Omega.{arith}
use Rattle.std.proofs.Math.Dec.{eqb, not_T}
use Rattle.std.proofs.Math.ListN.{length}
use Rattle.segment.specs.Arc.{holds, wide}
use Rattle.sums.specs.Bit.{bit}
use Rattle.sums.proofs.BitLaws.{Tells, bit-yes, eq?, eq_test, and_left, and_right, and_both, or_cases}
use Rattle.sums.proofs.BoundedLaws.{count-not}
use Rattle.sums.specs.Iterate.{iter}
use Rattle.sums.specs.Tally.{tally, walk}
use Rattle.sums.proofs.TallyLaws.{tally-count}
use Rattle.ring.specs.Ring.{proper, wraps, head_or, count_before, count_around, merged_before, or_one, merged, member, all_differ, is_sound}
use Rattle.ring.specs.Ring.{is_strict, at_ends, filter}
use Rattle.ring.proofs.SegmentsLaws.{held, holds-first, null-wraps, null-wide}
use Rattle.ring.specs.Sound.{Sound, SoundCounts}

-- ---- a list, with z after its last
module _ (z : ℕ) where
  merged-head : (l : List ℕ) → head_or (merged_before l z) z ≡ head_or l z
  unfolding merged_before
  merged-head [] = refl
  merged-head (a ∷ l) = go (eqb a (head_or l z)) (eq? a (head_or l z)) (merged-head l)
    where
      go : (t : Bool) → Tells t (a ≡ head_or l z) (a ≢ head_or l z) → head_or (merged_before l z) z ≡ head_or l z
          → head_or (cond t (merged_before l z) (a ∷ merged_before l z)) z ≡ a
      go true A i = i ∙ sym (A.0 tt)
      go false A i = refl

  -- a test that no two equal angles pass is passed as often after merging
  merged-count : (φ : ℕ → ℕ → Bool) → ((a : ℕ) → bit (φ a a) ≡ 0) → (l : List ℕ) → count_before φ (merged_before l z) z ≡ count_before φ l z
  unfolding merged_before count_before
  merged-count φ null [] = refl
  merged-count φ null (a ∷ l) = go (eqb a (head_or l z)) (eq? a (head_or l z)) (merged-head l) (merged-count φ null l)
    where
      go : (t : Bool) → Tells t (a ≡ head_or l z) (a ≢ head_or l z) → head_or (merged_before l z) z ≡ head_or l z
          → count_before φ (merged_before l z) z ≡ count_before φ l z
          → count_before φ (cond t (merged_before l z) (a ∷ merged_before l z)) z ≡ bit (φ a (head_or l z)) + count_before φ l z
      go true A b i = let n = ap (λ (x : ℕ). bit (φ a x)) (sym (A.0 tt)) ∙ null a in omega arith
      go false A b i = ap₂ (λ (x y : ℕ). bit (φ a x) + y) b i

  -- what is merged away differs from nothing
  pub merged-tally : (b : ℕ → Bool) (l : List ℕ) → tally b (merged_before l z) ≡ count_before (λ a c. proper a c && b a) l z
  unfolding merged_before count_before tally proper
  merged-tally b [] = refl
  merged-tally b (a ∷ l) = go (eqb a (head_or l z)) (merged-tally b l)
    where
      go : (t : Bool) → tally b (merged_before l z) ≡ count_before (λ a c. proper a c && b a) l z
          → tally b (cond t (merged_before l z) (a ∷ merged_before l z)) ≡ bit (not t && b a) + count_before (λ a c. proper a c && b a) l z
      go true i = omega arith
      go false i = ap (λ (n : ℕ). bit (b a) + n) i

  merged-length : (l : List ℕ) → length (merged_before l z) ≡ count_before proper l z
  unfolding merged_before count_before proper
  merged-length [] = refl
  merged-length (a ∷ l) = go (eqb a (head_or l z)) (merged-length l)
    where
      go : (t : Bool) → length (merged_before l z) ≡ count_before proper l z
          → length (cond t (merged_before l z) (a ∷ merged_before l z)) ≡ bit (not t) + count_before proper l z
      go true i = omega arith
      go false i = omega arith

  merged-same : (l : List ℕ) → count_before eqb l z ≡ 0 → merged_before l z ≡ l
  unfolding merged_before count_before
  merged-same [] h = refl
  merged-same (a ∷ l) h = go (eqb a (head_or l z)) (merged-same l) h
    where
      go : (t : Bool) → (count_before eqb l z ≡ 0 → merged_before l z ≡ l) → bit t + count_before eqb l z ≡ 0
          → cond t (merged_before l z) (a ∷ merged_before l z) ≡ a ∷ l
      go true i h = absurd (omega arith)
      go false i h = ap (λ (m : List ℕ). a ∷ m) (i (omega arith))

  -- as many hold x as wrap, and 1 more or less by where the list begins and what follows it
  pub held-list : (x : ℕ) (l : List ℕ) → count_before (holds x) l z + bit (leb z x) ≡ count_before wraps l z + bit (leb (head_or l z) x)
  unfolding count_before
  held-list x [] = refl
  held-list x (a ∷ l) = let i = held-list x l in let h = held x a (head_or l z) in omega arith

-- ---- around the cycle
pub merged-around : (φ : ℕ → ℕ → Bool) → ((a : ℕ) → bit (φ a a) ≡ 0) → (l : List ℕ) → count_around φ (merged l) ≡ count_around φ l
unfolding count_around count_before merged
merged-around φ null [] = refl
merged-around φ null (a ∷ l) = go (merged_before (a ∷ l) a) (merged-head a (a ∷ l)) (merged-count a φ null (a ∷ l))
  where
    go : (m : List ℕ) → head_or m a ≡ a → count_before φ m a ≡ count_before φ (a ∷ l) a → count_around φ (or_one a m) ≡ count_around φ (a ∷ l)
    go [] b i = let n = null a in omega arith
    go (c ∷ m) b i = ap (count_before φ (c ∷ m)) b ∙ i

-- where two neighbours differ, merging takes nothing else
pub merged-before : (l : List ℕ) → 0 < count_around proper l → merged l ≡ merged_before l (head_or l 0)
unfolding count_around count_before merged
merged-before [] h = absurd (omega arith)
merged-before (a ∷ l) h = go (merged_before (a ∷ l) a) (merged-length a (a ∷ l))
  where
    go : (m : List ℕ) → length m ≡ count_before proper (a ∷ l) a → or_one a m ≡ m
    go [] i = absurd (omega arith)
    go (c ∷ m) i = refl

-- how many remain
pub merged-size : (l : List ℕ) → 0 < count_around proper l → length (merged l) ≡ count_around proper l
unfolding count_around
merged-size l h = ap (λ (m : List ℕ). length m) (merged-before l h) ∙ merged-length (head_or l 0) l

merged-few : (l : List ℕ) → 3 ≤ length (merged l) → 0 < count_around proper l
unfolding count_around count_before merged
merged-few [] h = absurd (omega arith)
merged-few (a ∷ l) h = go (merged_before (a ∷ l) a) (merged-length a (a ∷ l)) h
  where
    go : (m : List ℕ) → length m ≡ count_before proper (a ∷ l) a → 3 ≤ length (or_one a m) → 0 < count_before proper (a ∷ l) a
    go [] i h = absurd (omega arith)
    go (c ∷ m) i h = omega arith

-- ---- "all differ"
-- how often x stands in a list
copies : ℕ → List ℕ → ℕ
copies x l = tally (λ a. eqb a x) l

member-copies : (x : ℕ) (l : List ℕ) → T (member x l) → 0 < copies x l
unfolding member copies tally
member-copies x [] h = absurd h
member-copies x (a ∷ l) h = go (or_cases (eqb a x) (member x l) h) (member-copies x l)
  where
    go : T (eqb a x) ⊎ T (member x l) → (T (member x l) → 0 < copies x l) → 0 < bit (eqb a x) + copies x l
    go (inl t) i = let b = bit-yes (eqb a x) t in omega arith
    go (inr t) i = let k = i t in omega arith

copies-differ : (l : List ℕ) → ((x : ℕ) → copies x l ≤ 1) → T (all_differ l)
unfolding all_differ copies tally
copies-differ [] h = tt
copies-differ (a ∷ l) h = and_both (not (member a l)) (all_differ l)
    (not_T (member a l) (λ t. let i = member-copies a l t in let k = h a in let b = bit-yes (eqb a a) (eq_test {a = a} refl) in omega arith))
    (copies-differ l (λ x. let k = h x in omega arith))

-- an angle that is followed by another holds itself
copies-held : (x z : ℕ) (l : List ℕ) → count_before (λ a c. proper a c && eqb a x) l z ≤ count_before (holds x) l z
unfolding count_before proper
copies-held x z [] = omega arith
copies-held x z (a ∷ l) = go (eqb a (head_or l z)) (eqb a x) (eq? a (head_or l z)) (eq? a x) (copies-held x z l)
  where
    go : (t u : Bool) → Tells t (a ≡ head_or l z) (a ≢ head_or l z) → Tells u (a ≡ x) (a ≢ x)
        → count_before (λ a c. proper a c && eqb a x) l z ≤ count_before (holds x) l z
        → bit (not t && u) + count_before (λ a c. proper a c && eqb a x) l z ≤ bit (holds x a (head_or l z)) + count_before (holds x) l z
    go true u A B i = omega arith
    go false false A B i = omega arith
    go false true A B i =
        let b =
        bit-yes (holds x a (head_or l z)) (subst (λ (y : ℕ). T (holds y a (head_or l z))) (B.0 tt) (holds-first a (head_or l z) (A.1 tt))) in
        omega arith

-- ---- the words and the counts
-- as many hold x as wrap
pub held-around : (x : ℕ) (l : List ℕ) → count_around (holds x) l ≡ count_around wraps l
unfolding count_around
held-around x l = let h = held-list (head_or l 0) x l in let e = ap (λ (y : ℕ). bit (leb y x)) (same l) in omega arith
  where
    same : (l : List ℕ) → head_or l (head_or l 0) ≡ head_or l 0
    same [] = refl
    same (a ∷ l) = refl

pub sound→ : (N : ℕ) (l : List ℕ) → T (is_sound N l) → SoundCounts N (λ φ. count_around φ l)
unfolding is_sound
sound→ N l h =
    let m = merged l in
    let a = leb 3 (length m) in let b = all_differ m in let c = eqb (count_around wraps m) 1 in let d = eqb (count_around (wide N) m) 0 in
    let n = leb→le 3 (length m) (and_left a b (and_left (a && b) c (and_left (a && b && c) d h))) in
    let f = merged-few l n in
    record {
      three = let z = merged-size l f in omega arith;
      once = sym (merged-around wraps null-wraps l) ∙ eqb→eq (count_around wraps m) 1 (and_right (a && b) c (and_left (a && b && c) d h));
      gaps = sym (merged-around (wide N) (null-wide N) l) ∙ eqb→eq (count_around (wide N) m) 0 (and_right (a && b && c) d h);
    }

pub sound← : (N : ℕ) (l : List ℕ) → SoundCounts N (λ φ. count_around φ l) → T (is_sound N l)
unfolding is_sound copies count_around
sound← N l S =
    let m = merged l in
    let a = leb 3 (length m) in let b = all_differ m in let c = eqb (count_around wraps m) 1 in let d = eqb (count_around (wide N) m) 0 in
    let f : 0 < count_around proper l = (let t = S.three in omega arith) in
    and_both (a && b && c) d (and_both (a && b) c (and_both a b
    (le→leb 3 (length m) (let z = merged-size l f in let t = S.three in omega arith))
    (copies-differ m (λ x. differ x f)))
    (eq_test (merged-around wraps null-wraps l ∙ S.once)))
    (eq_test (merged-around (wide N) (null-wide N) l ∙ S.gaps))
  where
    differ : (x : ℕ) → 0 < count_around proper l → copies x (merged l) ≤ 1
    differ x f =
        let e = ap (tally (λ a. eqb a x)) (merged-before l f) ∙ merged-tally (head_or l 0) (λ a. eqb a x) l in
        let k = copies-held x (head_or l 0) l in
        let h = held-around x l in
        let o = S.once in
        omega arith

-- ---- the angles of a walk
module _ (next α : ℕ → ℕ) where
  pub angles-head : (h e : ℕ) → head_or (map α (walk h next e)) (α (iter h next e)) ≡ α e
  unfolding walk
  angles-head zero e = refl
  angles-head (suc h) e = refl

  pub angles-count : (φ : ℕ → ℕ → Bool) (h e : ℕ)
      → count_before φ (map α (walk h next e)) (α (iter h next e)) ≡ tally (at_ends φ next α) (walk h next e)
  unfolding walk tally count_before
  angles-count φ zero e = refl
  angles-count φ (suc h) e = ap₂ (λ (x y : ℕ). bit (φ (α e) x) + y) (angles-head h (next e)) (angles-count φ h (next e))

  -- the one that follows the last of a round
  angles-first : (h e : ℕ) → iter h next e ≡ e → (φ : ℕ → ℕ → Bool)
      → count_around φ (map α (walk h next e)) ≡ count_before φ (map α (walk h next e)) (α (iter h next e))
  unfolding walk count_around count_before
  angles-first zero e c φ = refl
  angles-first (suc h) e c φ = ap (λ (x : ℕ). count_before φ (α e ∷ map α (walk h next (next e))) (α x)) (sym c)

  pub angles-around : (h e : ℕ) → iter h next e ≡ e → (φ : ℕ → ℕ → Bool)
      → count_around φ (map α (walk h next e)) ≡ tally (at_ends φ next α) (walk h next e)
  angles-around h e c φ = angles-first h e c φ ∙ angles-count φ h e

  -- the angles of the edges that differ from the next are the merged ones
  pub nodes-before : (h e : ℕ)
      → map α (filter (at_ends proper next α) (walk h next e))
      ≡ merged_before (map α (walk h next e)) (α (iter h next e))
  unfolding walk filter merged_before proper
  nodes-before zero e = refl
  nodes-before (suc h) e =
      go (eqb (α e) (α (next e))) (eqb (α e) (head_or (map α (walk h next (next e))) (α (iter h next (next e)))))
      (ap (eqb (α e)) (sym (angles-head h (next e)))) (nodes-before h (next e))
    where
      z : ℕ
      z = α (iter h next (next e))

      go : (t u : Bool) → t ≡ u
          → map α (filter (at_ends proper next α) (walk h next (next e)))
          ≡ merged_before (map α (walk h next (next e))) (α (iter h next (next e)))
          → map α (cond (not t) (e ∷ filter (at_ends proper next α) (walk h next (next e)))
          (filter (at_ends proper next α) (walk h next (next e))))
          ≡ cond u (merged_before (map α (walk h next (next e))) (α (iter h next (next e))))
          (α e ∷ merged_before (map α (walk h next (next e))) (α (iter h next (next e))))
      go true true q i = i
      go true false q i = absurd (mathlib.Core.Bool.false≢true (sym q))
      go false true q i = absurd (mathlib.Core.Bool.false≢true q)
      go false false q i = ap (λ (m : List ℕ). α e ∷ m) i

  pub nodes-merged : (h e : ℕ) → iter h next e ≡ e → 0 < tally (at_ends proper next α) (walk h next e)
      → map α (filter (at_ends proper next α) (walk h next e)) ≡ merged (map α (walk h next e))
  unfolding walk merged_before
  nodes-merged h e c p =
      nodes-before h e ∙ back h c ∙ sym (merged-before (map α (walk h next e)) (let a = angles-around h e c proper in omega arith))
    where
      back : (h : ℕ) → iter h next e ≡ e
          → merged_before (map α (walk h next e)) (α (iter h next e))
          ≡ merged_before (map α (walk h next e)) (head_or (map α (walk h next e)) 0)
      back zero c = refl
      back (suc h) c = ap (λ (x : ℕ). merged_before (α e ∷ map α (walk h next (next e))) (α x)) c

  -- a test of the angles that remain, over the edges
  pub angles-tally : (b : ℕ → Bool) (h e : ℕ) → iter h next e ≡ e → 0 < tally (at_ends proper next α) (walk h next e)
      → tally b (merged (map α (walk h next e))) ≡ tally (at_ends (λ a c. proper a c && b a) next α) (walk h next e)
  unfolding count_around
  angles-tally b h e c p =
      let l = map α (walk h next e) in
      ap (tally b) (merged-before l (let a = angles-around h e c proper in omega arith)) ∙ merged-tally (head_or l 0) b l
      ∙ angles-around h e c (λ a c. proper a c && b a)

  pub angles-size : (h e : ℕ) → iter h next e ≡ e → 0 < tally (at_ends proper next α) (walk h next e)
      → length (merged (map α (walk h next e))) ≡ tally (at_ends proper next α) (walk h next e)
  angles-size h e c p = let a = angles-around h e c proper in merged-size (map α (walk h next e)) (omega arith) ∙ a

-- ---- THE WORDS ARE THE COUNTS, over the edges of a round
pub sound-round : (N : ℕ) (next α : ℕ → ℕ) (e h : ℕ) → iter h next e ≡ e → T (is_sound N (map α (walk h next e))) → Sound N next α e h
sound-round N next α e h c t =
    let S = sound→ N (map α (walk h next e)) t in
    record {
      closed = c;
      three = let a = angles-around next α h e c proper in let b = S.three in omega arith;
      once = sym (angles-around next α h e c wraps) ∙ S.once;
      gaps = sym (angles-around next α h e c (wide N)) ∙ S.gaps;
    }

pub round-sound : {N : ℕ} {next α : ℕ → ℕ} {e h : ℕ} → Sound N next α e h → T (is_sound N (map α (walk h next e)))
round-sound {N} {next} {α} {e} {h} S = sound← N (map α (walk h next e)) (record {
  three = let a = angles-around next α h e S.closed proper in let b = S.three in omega arith;
  once = angles-around next α h e S.closed wraps ∙ S.once;
  gaps = angles-around next α h e S.closed (wide N) ∙ S.gaps;
})

-- ---- strict
pub strict-sound : (N : ℕ) (l : List ℕ) → T (is_strict N l) → T (is_sound N l)
unfolding is_strict
strict-sound N l h = and_left (is_sound N l) (eqb (count_around eqb l) 0) h

-- in a strict ring nothing is merged
pub strict-merged : (N : ℕ) (l : List ℕ) → T (is_strict N l) → merged l ≡ l
unfolding is_strict count_around
strict-merged N l h =
    merged-before l (let t = (sound→ N l (strict-sound N l h)).three in omega arith)
    ∙ merged-same (head_or l 0) l (eqb→eq (count_around eqb l) 0 (and_right (is_sound N l) (eqb (count_around eqb l) 0) h))

-- and each edge has a node
pub strict-all : (N : ℕ) (next α : ℕ → ℕ) (e h : ℕ) → iter h next e ≡ e → T (is_strict N (map α (walk h next e)))
    → tally (at_ends proper next α) (walk h next e) ≡ h
unfolding is_strict proper
strict-all N next α e h c t =
    let l = map α (walk h next e) in
    let z = eqb→eq (count_around eqb l) 0 (and_right (is_sound N l) (eqb (count_around eqb l) 0) t) in
    let a = angles-around next α h e c eqb in
    let b = tally-count (at_ends eqb next α) next h e in
    let d = tally-count (at_ends proper next α) next h e in
    let n = count-not h (λ k. at_ends eqb next α (iter k next e)) in
    omega arith
