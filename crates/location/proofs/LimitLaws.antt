-- The limit of 2E turns cuts off nothing: the walk's state is one half-edge, so one that has made 2E turns without an
-- end has met a half-edge twice, and never ends. Assumes nothing.
use Rattle.std.specs.Prelude.{◌≡◌}
use Rattle.std.proofs.Math.Path.{refl, ap, subst}
use Rattle.std.proofs.Common.{sym, ◌∙◌, arith}
use Rattle.std.proofs.Math.Bool.{false}
use Rattle.std.proofs.lemmas.Bool.{false≢true}
use Prim.Native.Nat.{ℕ, zero, suc, ◌*◌, ◌<◌}
use Rattle.sums.specs.Iterate.{iter}
use Rattle.sums.proofs.IterateLaws.{iter-keeps}
use Rattle.sums.specs.Until.{until}
use Rattle.sums.proofs.UntilLaws.{until-done, until-next}
use Rattle.math.specs.declared.Point.{Point}
use Rattle.mesh.specs.declared.Counts.{Counts}
use Rattle.mesh.specs.Mesh.{Links, In}
use Rattle.mesh.specs.Wf.{Wf}
use Rattle.location.specs.declared.SearchState.{SearchState}
use Rattle.location.specs.declared.SearchState.TheVariants.{Found, Onward}
use Rattle.location.proofs.PlaceFacts.{Sound}
use Rattle.location.specs.Search.{search_turn, ended, advance, search_from}
use Rattle.location.proofs.SearchLaws.{turn-sound}
use Rattle.sums.proofs.Round.{for-ever}

-- ---- the walk's half-edges
stay : ℕ → SearchState → ℕ
stay e (Found x) = e
stay e (Onward d) = d

module _ (L : Links) (p : ℕ → Point) (q : Point) where
  follow : ℕ → ℕ
  follow e = stay e (search_turn L p q e)

  Goes : ℕ → Type 0
  Goes e = ended (search_turn L p q e) ≡ false

  walk : ℕ → SearchState → SearchState
  walk n s = until ended (advance L p q) n s

  -- n turns without an end, turn by turn
  went : (n e : ℕ) → ended (walk n (Onward e)) ≡ false → (k : ℕ) → k < n → Goes (iter k follow e)
  unfolding walk Goes follow stay ended advance
  went zero e h k l = absurd (omega arith)
  went (suc n) e h k l = go (search_turn L p q e) refl (subst (λ (s : SearchState). ended s ≡ false) (until-next ended (advance L p q) n (Onward e) refl) h) (went n) k l
    where
      go : (s : SearchState) → search_turn L p q e ≡ s → ended (until ended (advance L p q) n s) ≡ false
          → ((d : ℕ) → ended (until ended (advance L p q) n (Onward d)) ≡ false → (k : ℕ) → k < n
          → ended (search_turn L p q (iter k (λ e. stay e (search_turn L p q e)) d)) ≡ false)
          → (k : ℕ) → k < suc n → ended (search_turn L p q (iter k (λ e. stay e (search_turn L p q e)) e)) ≡ false
      go (Found x) r m ih k l = absurd (false≢true (sym m ∙ ap ended (until-done ended (advance L p q) n (Found x) refl)))
      go (Onward d) r m ih zero l = ap ended r
      go (Onward d) r m ih (suc k) l = subst (λ (x : ℕ). ended (search_turn L p q (iter k (λ e. stay e (search_turn L p q e)) x)) ≡ false) (sym (ap (stay e) r)) (ih d m k (omega arith))

  goes_on : (n e : ℕ) → ((k : ℕ) → k < n → Goes (iter k follow e)) → ended (walk n (Onward e)) ≡ false
  unfolding walk Goes follow stay ended advance until
  goes_on zero e h = refl
  goes_on (suc n) e h = subst (λ (s : SearchState). ended s ≡ false) (sym (until-next ended (advance L p q) n (Onward e) refl)) (go (search_turn L p q e) refl (h zero (omega arith)) (goes_on n))
    where
      go : (s : SearchState) → search_turn L p q e ≡ s → ended (search_turn L p q e) ≡ false
          → ((d : ℕ) → ((k : ℕ) → k < n → ended (search_turn L p q (iter k (λ e. stay e (search_turn L p q e)) d)) ≡ false)
          → ended (until ended (advance L p q) n (Onward d)) ≡ false)
          → ended (until ended (advance L p q) n s) ≡ false
      go (Found x) r m ih = absurd (false≢true (sym m ∙ ap ended r))
      go (Onward d) r m ih = ih d (λ k l. subst (λ (x : ℕ). ended (search_turn L p q (iter k (λ e. stay e (search_turn L p q e)) x)) ≡ false) (ap (stay e) r) (h (suc k) (omega arith)))

module _ {C : Counts} {L : Links} (W : Wf C L) (p : ℕ → Point) (q : Point) where
  follow-in : (e : ℕ) → In C e → In C (follow L p q e)
  unfolding follow stay
  follow-in e l = go (search_turn L p q e) (turn-sound W p q l)
    where
      go : (s : SearchState) → Sound C L p q s → In C (stay e s)
      go (Found x) h = l
      go (Onward d) h = h

  -- THE LIMIT: a walk that has not ended in 2E turns ends in no number of turns
  pub search-limit : {e : ℕ} → In C e → ended (search_from C L p q e) ≡ false → (n : ℕ)
      → ended (until ended (advance L p q) n (Onward e)) ≡ false
  unfolding search_from walk
  search-limit {e} l h n = goes_on L p q n e (λ k m. for-ever (2 * C.edges) (follow L p q) e (Goes L p q)
      (λ k m. iter-keeps {f = follow L p q} (In C) follow-in k l) (went L p q (2 * C.edges) e h) k)
