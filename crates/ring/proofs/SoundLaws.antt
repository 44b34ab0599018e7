-- Laws of specs/Sound.antt.
use Rattle.std.specs.Prelude.{◌≡◌, refl, Bool, [], ℕ, zero, suc, ◌+◌, ◌<◌, ◌≤◌, T, leb}
use Rattle.std.proofs.Common.{◌∙◌, ap, arith}
use Rattle.segment.specs.Arc.{holds, wide}
use Rattle.ring.specs.Ring.{at_ends, proper, wraps}
use Rattle.ring.proofs.SegmentsLaws.{held}
use Rattle.sums.specs.Bit.{bit}
use Rattle.sums.specs.Iterate.{iter}
use Rattle.sums.proofs.IterateLaws.{iter-last}
use Rattle.sums.specs.Tally.{First, tally, walk}
use Rattle.sums.proofs.TallyLaws.{first, sole, tally-turn}
use Rattle.ring.specs.Sound.{Sound}

-- ---- the count of edges that hold x, along a walk: those that wrap, and 1 more or less by where the walk begins and ends
pub held-along : (f α : ℕ → ℕ) (x n s : ℕ)
    → tally (at_ends (holds x) f α) (walk n f s) + bit (leb (α (iter n f s)) x)
    ≡ tally (at_ends wraps f α) (walk n f s) + bit (leb (α s) x)
unfolding tally walk
held-along f α x zero s = refl
held-along f α x (suc n) s = let i = held-along f α x n (f s) in let j = held x (α s) (α (f s)) in omega arith

-- it is sound from any of its edges
pub sound-turn : {N : ℕ} {f α : ℕ → ℕ} {s n : ℕ} → Sound N f α s n → Sound N f α (f s) n
sound-turn {N} {f} {α} {s} {n} S = record {
  closed = iter-last n f s ∙ ap f S.closed;
  three = let e = tally-turn (at_ends proper f α) f n s S.closed in let h = S.three in omega arith;
  once = tally-turn (at_ends wraps f α) f n s S.closed ∙ S.once;
  gaps = tally-turn (at_ends (wide N) f α) f n s S.closed ∙ S.gaps;
}

pub sound-at : {N : ℕ} {f α : ℕ → ℕ} {s n : ℕ} → Sound N f α s n → (k : ℕ) → Sound N f α (iter k f s) n
sound-at S zero = S
sound-at S (suc k) = sound-at (sound-turn S) k

module _ {N : ℕ} {f α : ℕ → ℕ} {s n : ℕ} (S : Sound N f α s n) where
  pub tile-count : (x : ℕ) → tally (at_ends (holds x) f α) (walk n f s) ≡ 1
  tile-count x = let t = held-along f α x n s in let c = ap (λ (e : ℕ). bit (leb (α e) x)) S.closed in let o = S.once in omega arith

  -- TILE: the walk meets an edge that holds x within n moves, and in the whole round there is no other
  pub tile : (x : ℕ) → (k : ℕ) × First (at_ends (holds x) f α) f n s k
  tile x = first (at_ends (holds x) f α) f n s (let t = tile-count x in omega arith)

  pub tile-sole : (x j k : ℕ) → j < n → k < n → T (at_ends (holds x) f α (iter j f s)) → T (at_ends (holds x) f α (iter k f s)) → j ≡ k
  tile-sole x j k = sole (at_ends (holds x) f α) f n s j k (let t = tile-count x in omega arith)
