-- A row that is filled with one value from the front, as `clear` does with zeros: what holds on the way, and at the
-- end. For rows of anything. Assumes nothing.
use Rattle.std.specs.Prelude.{ℕ, ◌+◌, ◌<◌, ◌≤◌, ◌≡◌, refl, List, length, get_or, set, replicate}
use Rattle.std.proofs.Math.Decide.{ℕ_discrete}
use Rattle.std.proofs.Common.{arith, sym, ◌∙◌, ap, length-set, get_or-set_same, get_or-set_other, ext_get_or}
use Rattle.std.proofs.lemmas.List.{length-replicate, get_or-replicate}

-- the first i entries are v; d is what stands past a row's end
pub record Clearing {A : Type 0} (old new : List A) (d v : A) (i : ℕ) : Type 0 where
  pub done : (j : ℕ) → j < i → get_or new j d ≡ v
  pub high : i ≤ length old
  pub same : length new ≡ length old

pub clearing-start : {A : Type 0} (old : List A) (d v : A) → Clearing old old d v 0
clearing-start old d v = record { done = λ j u. absurd (omega arith); high = omega arith; same = refl }

module _ {A : Type 0} {old new : List A} {d v : A} {i : ℕ} (K : Clearing old new d v i) where
  pub cleared_more : i < length new → Clearing old (set new i v) d v (i + 1)
  cleared_more l = record { done = λ j u. at j u (ℕ_discrete j i); high = let e = K.same in omega arith; same = length-set new i v ∙ K.same }
    where
      at : (j : ℕ) → j < i + 1 → Dec (j ≡ i) → get_or (set new i v) j d ≡ v
      at j u (yes z) = ap (λ (k : ℕ). get_or (set new i v) k d) z ∙ get_or-set_same new i v d l
      at j u (no z) = get_or-set_other new i j v d z ∙ K.done j (omega arith)

  pub cleared-end : length new ≤ i → new ≡ replicate (length old) v
  cleared-end l =
      ext_get_or d new (replicate (length old) v) (K.same ∙ sym (length-replicate (length old) v))
      (λ j u. K.done j (omega arith) ∙ sym (get_or-replicate (length old) j v d (let e = K.same in omega arith)))
