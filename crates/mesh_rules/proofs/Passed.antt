-- A loop that tests number by number: what it has passed, where it stops, and what it says at its end. And what a sweep over the half-edges leaves behind.
-- Assumes nothing.
use mathlib.Core.Path.{◌≡◌, sym, subst}
use mathlib.Core.Bool.{Bool, false}
use mathlib.Core.List.{List, []}
use Prim.Native.Nat.{ℕ, suc, ◌+◌, ◌*◌, ◌<◌}
use native.Mathlib.Numerals.{add-one}
use lib.Dec.{T, ltb→lt, eqb→eq}
use Rattle.dcel.specs.Rows.{halves_of, links_of}
use Rattle.mesh.specs.declared.Counts.{Counts}
use Rattle.mesh_rules.specs.Holds.{half_edge_holds, HalvesHold}
use Rattle.mesh_rules.specs.HoldsRules.{Half, half_of}
use Rattle.sums.proofs.BitLaws.{is_false}
use Rattle.sums.specs.Bounded.{all_below}
use Rattle.sums.proofs.BoundedLaws.{all-below→, all-below←, up_to}
use Rattle.sums.specs.Half.{rev}
use Rattle.sums.proofs.HalfLaws.{rev-inverse}
use Rattle.sums.specs.Iterate.{Inverse}
use Rattle.sums.proofs.IterateLaws.{inverse-sym, inverse-then}

-- ---- all below n, number by number
pub passed_none : (p : ℕ → Bool) → T (all_below 0 p)
unfolding all_below
passed_none p = tt

pub passed-more : (n : ℕ) (p : ℕ → Bool) → T (all_below n p) → T (p n) → T (all_below (n + 1) p)
passed-more n p h t = rw add-one (all-below← (suc n) p (up_to {P = λ i. T (p i)} n (all-below→ n p h) t))

pub stopped : (k n : ℕ) (p : ℕ → Bool) → k < n → false ≡ p k → false ≡ all_below n p
stopped k n p l e = sym (is_false (all_below n p) (λ t. subst T (sym e) (all-below→ n p t k l)))

-- ---- after the sweep over the half-edges
module _ {C : Counts} {h : List ℕ} (S : HalvesHold C h) where
  half : (e : ℕ) → e < 2 * C.edges → Half C (links_of [] h []) e
  half e l = half_of C (links_of [] h []) e (all-below→ (2 * C.edges) (half_edge_holds C (links_of [] h [])) (S.holds [] []) e l)

  pub swept-next : {e : ℕ} → e < 2 * C.edges → (halves_of h).next e < 2 * C.edges
  unfolding links_of
  swept-next {e} l = ltb→lt ((halves_of h).next e) (2 * C.edges) (half e l).uses.0

  pub swept-prev : {e : ℕ} → e < 2 * C.edges → (halves_of h).prev e < 2 * C.edges
  unfolding links_of
  swept-prev {e} l = ltb→lt ((halves_of h).prev e) (2 * C.edges) (half e l).uses.1.0

  -- next and prev undo each other, and so turning about a vertex can be undone
  pub next-permutes : Inverse (2 * C.edges) (halves_of h).next (halves_of h).prev
  unfolding links_of
  next-permutes = record {
    there = λ e l. swept-next l;
    here = λ e l. swept-prev l;
    gf = λ e l. eqb→eq ((halves_of h).prev ((halves_of h).next e)) e (half e l).link.0;
    fg = λ e l. eqb→eq ((halves_of h).next ((halves_of h).prev e)) e (half e l).link.1.0;
  }

  pub turn-permutes : Inverse (2 * C.edges) (λ e. rev ((halves_of h).prev e)) (λ e. (halves_of h).next (rev e))
  turn-permutes = inverse-then (inverse-sym next-permutes) (rev-inverse C.edges)
