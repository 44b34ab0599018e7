-- Laws of specs/Splice.antt.
use Rattle.std.specs.Prelude.{◌≡◌, refl, ◌≢◌, Bool, [], ℕ, zero, suc, ◌+◌, ◌<◌, ◌≤◌, T, leb}
use Rattle.std.proofs.Common.{sym, ◌∙◌}
use Rattle.std.proofs.Math.Path.{ap, ap₂}
use Rattle.std.proofs.Math.Decide.{dec_lt}
use native.Mathlib.Omega.{arith}
use Rattle.segment.specs.Arc.{holds, wide}
use Rattle.ring.specs.Ring.{at_ends, proper, wraps}
use Rattle.ring.proofs.SegmentsLaws.{holds-first, proper→, proper←, wraps-le, le-proper}
use Rattle.ring.specs.Sound.{Sound, SoundCounts}
use Rattle.ring.proofs.SoundLaws.{held-along, tile-count}
use Rattle.sums.specs.Bit.{bit}
use Rattle.sums.proofs.BitLaws.{bit-1, bit_le, bit-yes}
use Rattle.sums.specs.Iterate.{iter}
use Rattle.sums.proofs.IterateLaws.{iter-ext, iter-last}
use Rattle.sums.specs.Tally.{tally, walk}
use Rattle.sums.proofs.TallyLaws.{counts, first, tally-add, tally-ext, walk-ext}
use Rattle.ring.specs.Splice.{Spliced, Fit, Replaced, FitSplice}

module _ {f α f' α' : ℕ → ℕ} {s m n l p q r : ℕ} (P : Spliced f α f' α' s m n l p q r) where
  at-r : α' r ≡ α r
  at-r = P.at_rest zero P.more

  -- the rest's edges keep both their angles
  pub ends : (k : ℕ) → k < n → α' (f' (iter k f r)) ≡ α (f (iter k f r))
  ends k h = go (dec_lt (suc k) n)
    where
      go : Dec (suc k < n) → α' (f' (iter k f r)) ≡ α (f (iter k f r))
      go (yes u) = ap α' (P.rest k u ∙ sym (iter-last k f r)) ∙ P.at_rest (suc k) u ∙ ap α (iter-last k f r)
      go (no u) =
          let e : suc k ≡ n = omega arith in
          ap α' (P.last k e) ∙ P.at-l ∙ ap α (sym P.round ∙ ap (λ (i : ℕ). iter i f r) (sym e) ∙ iter-last k f r)

  pub rest-arcs : (φ : ℕ → ℕ → Bool) → tally (at_ends φ f' α') (walk n f' r) ≡ tally (at_ends φ f α) (walk n f r)
  rest-arcs φ =
      ap (tally (at_ends φ f' α')) (walk-ext f f' n r P.rest)
      ∙ tally-ext (at_ends φ f α) (at_ends φ f' α') f n r (λ k h. ap₂ φ (P.at_rest k h) (ends k h))

  -- the new round is one
  pub round-new : iter (suc (suc n)) f' l ≡ l
  round-new = ap (λ (t : ℕ). iter n f' (f' t)) P.l-p ∙ ap (iter n f') P.p-r ∙ go n refl
    where
      go : (k : ℕ) → k ≡ n → iter k f' r ≡ l
      go zero e = absurd (let h = P.more in omega arith)
      go (suc k) e = iter-last k f' r ∙ ap f' (iter-ext f f' k r (λ j h. P.rest j (omega arith))) ∙ P.last k e

  -- new + chain = old + the two
  pub local : (φ : ℕ → ℕ → Bool)
      → tally (at_ends φ f' α') (walk (suc (suc n)) f' l) + tally (at_ends φ f α) (walk m f s)
      ≡ tally (at_ends φ f α) (walk (m + n) f s) + bit (φ (α s) q) + bit (φ q (α r))
  unfolding walk tally
  local φ =
      let two : tally (at_ends φ f' α') (walk n f' (f' (f' l))) ≡ tally (at_ends φ f α) (walk n f r) = ap
      (λ (t : ℕ). tally (at_ends φ f' α') (walk n f' t)) (ap f' P.l-p ∙ P.p-r) ∙ rest-arcs φ in
      let a : bit (at_ends φ f' α' l) ≡ bit (φ (α s) q) = ap₂ (λ (x y : ℕ). bit (φ x y)) P.at-l (ap α' P.l-p ∙ P.at_p) in
      let b : bit (at_ends φ f' α' (f' l)) ≡ bit (φ q (α r)) = ap (λ (t : ℕ). bit (φ (α' t) (α' (f' t)))) P.l-p
      ∙ ap₂ (λ (x y : ℕ). bit (φ x y)) P.at_p (ap α' P.p-r ∙ at-r) in
      let c : tally (at_ends φ f α) (walk (m + n) f s) ≡ tally (at_ends φ f α) (walk m f s) + tally (at_ends φ f α) (walk n f r) =
      tally-add (at_ends φ f α) f m n s ∙ ap (λ (t : ℕ). tally (at_ends φ f α) (walk m f s) + tally (at_ends φ f α) (walk n f t)) P.right in
      omega arith

-- The old round is sound, and an edge of the chain, k steps from s, holds q
module _ {N : ℕ} {new : (ℕ → ℕ → Bool) → ℕ} {f α : ℕ → ℕ} {s m n q r : ℕ} (S : Sound N f α s (m + n))
    (P : Replaced new f α s m n q r) (k : ℕ) (k-in : k < m) (k-holds : T (at_ends (holds q) f α (iter k f s))) where
  in-chain : tally (at_ends (holds q) f α) (walk m f s) ≡ 1
  in-chain =
      let a = tally-add (at_ends (holds q) f α) f m n s in
      let b = tile-count S q in let c = counts (at_ends (holds q) f α) f m s k k-in k-holds in omega arith

  -- how often the chain wraps
  pub chain-wraps : tally (at_ends wraps f α) (walk m f s) + bit (leb (α s) q) ≡ 1 + bit (leb (α r) q)
  chain-wraps = let a = held-along f α q m s in let b = in-chain in let c = ap (λ (e : ℕ). bit (leb (α e) q)) P.right in omega arith

  -- the new round wraps once, but where q is the right angle
  pub new-wraps : new wraps ≡ bit (proper q (α r))
  new-wraps =
      let a = P.local wraps in
      let b = S.once in let c = chain-wraps in let d = wraps-le (α s) q in let e = le-proper q (α r) in omega arith

  chain-gaps : tally (at_ends (wide N) f α) (walk m f s) ≡ 0
  chain-gaps = let a = tally-add (at_ends (wide N) f α) f m n s in let b = S.gaps in omega arith

  pub fit-counts : Fit N f α s m n q r → SoundCounts N new
  fit-counts F = record {
    three = let a = P.local proper in let b = F.size in let c = bit-yes (proper q (α r)) (proper← q (α r) F.off-right) in omega arith;
    once = new-wraps ∙ bit-yes (proper q (α r)) (proper← q (α r) F.off-right);
    gaps = let a = P.local (wide N) in let b = S.gaps in let c = chain-gaps in let d = F.left-gap in let e = F.right-gap in omega arith;
  }

  pub counts-fit : SoundCounts N new → Fit N f α s m n q r
  counts-fit Z = record { off-right = λ e. off e; left-gap = wides.0; right-gap = wides.1; size = enough }
    where
      off : q ≢ α r
      off = let a = new-wraps in let b = Z.once in proper→ q (α r) (bit-1 (proper q (α r)) (omega arith))

      wides : (bit (wide N (α s) q) ≡ 0) × (bit (wide N q (α r)) ≡ 0)
      wides = let a = P.local (wide N) in let b = S.gaps in let c = chain-gaps in let d = Z.gaps in (omega arith, omega arith)

      enough : 3 + tally (at_ends proper f α) (walk m f s) ≤ tally (at_ends proper f α) (walk (m + n) f s) + bit (proper (α s) q) + 1
      enough = let a = P.local proper in let b = Z.three in let c = bit_le (proper q (α r)) in omega arith

-- the same of the links after
pub spliced-counts : {f α f' α' : ℕ → ℕ} {s m n l p q r : ℕ} → Spliced f α f' α' s m n l p q r
    → Replaced (λ φ. tally (at_ends φ f' α') (walk (suc (suc n)) f' l)) f α s m n q r
spliced-counts P = record { right = P.right; round = P.round; local = local P }

pub sound-counts : {N : ℕ} {f α : ℕ → ℕ} {s n : ℕ} → Sound N f α s n → SoundCounts N (λ φ. tally (at_ends φ f α) (walk n f s))
sound-counts S = record { three = S.three; once = S.once; gaps = S.gaps }

module _ {N : ℕ} {f α f' α' : ℕ → ℕ} {s m n l p q r : ℕ} (S : Sound N f α s (m + n))
    (P : Spliced f α f' α' s m n l p q r) (k : ℕ) (k-in : k < m)
    (k-holds : T (at_ends (holds q) f α (iter k f s))) where
  pub fit-sound : Fit N f α s m n q r → Sound N f' α' l (suc (suc n))
  fit-sound F =
      let Z = fit-counts S (spliced-counts P) k k-in k-holds F in
      record { closed = round-new P; three = Z.three; once = Z.once; gaps = Z.gaps }

  pub sound-fit : Sound N f' α' l (suc (suc n)) → Fit N f α s m n q r
  sound-fit Z = counts-fit S (spliced-counts P) k k-in k-holds (sound-counts Z)

pub splice-sound : {N : ℕ} {f α f' α' : ℕ → ℕ} {s m n l p q r : ℕ} → Sound N f α s (m + n)
    → FitSplice N f α f' α' s m n l p q r → Sound N f' α' l (suc (suc n))
splice-sound S P = fit-sound S P.spliced P.place P.place_in P.place-holds P.fit
