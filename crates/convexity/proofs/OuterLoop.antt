-- The invariant of the outer loop of `fix_convexity`: to go on from here is to go on from the start. Assumes nothing.
use mathlib.Core.Bool.{Bool, true, false, not, ◌||◌}
use mathlib.Core.List.{List}
use mathlib.Core.Path.{◌≡◌, refl, sym, ◌∙◌, ap, subst, subst⁻¹}
use Prim.Native.Nat.{ℕ, ◌+◌, ◌-◌, ◌*◌, ◌^◌, ◌<◌, ◌≤◌}
use native.Mathlib.Nat.{le_refl}
use native.Mathlib.Omega.{arith}
use lib.Dec.{eqb}
use lib.IntN.{ℤ}
use lib.ListN.{length}
use Rattle.corner.specs.declared.Extension.{Extension}
use Rattle.corner.specs.CornerRows.{extended_of, Ready}
use Rattle.corner.specs.RowsLaws.{SameLengths, same_refl, same-trans, ready-again}
use Rattle.circle_test.specs.GoodRows.{held}
use Rattle.dcel.specs.Rows.{halves_of, row_of, links_of, position_of, There}
use Rattle.dcel.specs.MeshHeld.{there}
use Rattle.mesh.specs.Area.{boundary_length}
use Rattle.mesh.proofs.CountsLaws.{count-edges, count-faces, faces-fit}
use Rattle.mesh.specs.Good.{Good}
use Rattle.sums.proofs.UntilLaws.{Going, going_start, going-turn, going_end}
use Rattle.convexity.specs.Convexity.{fix_convexity}
use Rattle.convexity.specs.Walk.{Walk, close_all_behind, onward, walk_turn_of, walk_ends_of, walk_start_of, walk_pass}
use Rattle.convexity.specs.WalkLaws.{Walking}
use Rattle.convexity.proofs.WalkLawsFacts.{onward-keeps, left_over, turned, walk-falls, walk-starts}
use Rattle.convexity.proofs.StackLawsFacts.{fix-walks}
use Rattle.convexity.specs.ConvexityRows.{walk_of, OnBoundary, WalkReady, StartReady}
use Rattle.convexity.proofs.Rows.{holds_not, fails-not}

-- ---- the outer loop
pub record PassAt (q : List ℤ) (o₀ h₀ a₀ row₀ : List ℕ) (g₀ : Extension) (o h a row : List ℕ) (g : Extension) (c d n : ℕ) : Type 0 where
  pub ready : Ready q o h a row g
  pub lengths : SameLengths o₀ h₀ a₀ row₀ o h a row
  pub going : Going walk_ends_of (walk_turn_of (length row₀) (position_of q)) (Walking (position_of q)) (λ w. w.left) ((walk_start_of (extended_of o₀ h₀ a₀ g₀)).left + 1)
      (walk_start_of (extended_of o₀ h₀ a₀ g₀)) (walk_of o h a g c d n)

pub pass-at : {q : List ℤ} {o₀ h₀ a₀ row₀ : List ℕ} {g₀ : Extension} {o h a row : List ℕ} {g : Extension} {c d n m : ℕ} → n ≡ m
    → PassAt q o₀ h₀ a₀ row₀ g₀ o h a row g c d n → PassAt q o₀ h₀ a₀ row₀ g₀ o h a row g c d m
pass-at {q} {o₀} {h₀} {a₀} {row₀} {g₀} {o} {h} {a} {row} {g} {c} {d} e I = subst (PassAt q o₀ h₀ a₀ row₀ g₀ o h a row g c d) e I

module _ {q : List ℤ} {o h a row : List ℕ} {g : Extension} (R : StartReady q o h a row g) where
  -- the turns, by the counts
  pub turns_fit : (3 * g.counts.vertices < 2 ^ 32) × (2 ≤ 3 * g.counts.vertices) × (g.counts.edges ≤ 3 * g.counts.vertices - 2)
  turns_fit = let e = count-edges R.ready.rows.good.wf in let s = R.ready.sized.small in (omega arith, omega arith, omega arith)

  turns-are : 3 * g.counts.vertices - 2 - g.counts.edges ≡ boundary_length g.counts (links_of o h a) + 1
  turns-are = let e = count-edges R.ready.rows.good.wf in omega arith

  pub outer-there : 0 < length a
  outer-there = let f = faces-fit R.ready.rows.good.wf (le_refl _) in let s = R.ready.sized.faces in omega arith

  start-good : Good (extended_of o h a g).counts (extended_of o h a g).links (position_of q)
  unfolding extended_of
  start-good = R.ready.rows.good

  start-full : (extended_of o h a g).full ≡ false
  unfolding extended_of
  start-full = R.full

  starts-at : {c : ℕ} → c ≡ row_of a 0 → walk_of o h a g c 0 (3 * g.counts.vertices - 2 - g.counts.edges) ≡ walk_start_of (extended_of o h a g)
  unfolding walk_start_of extended_of links_of
  starts-at e = rw (e, turns-are) refl

  pub pass-starts : {c : ℕ} → c ≡ row_of a 0 → PassAt q o h a row g o h a row g c 0 (3 * g.counts.vertices - 2 - g.counts.edges)
  unfolding extended_of
  pass-starts e = record {
    ready = R.ready;
    lengths = same_refl;
    going = subst⁻¹ (Going walk_ends_of (walk_turn_of (length row) (position_of q)) (Walking (position_of q)) (λ w. w.left) _ (walk_start_of (extended_of o h a g))) (starts-at e)
        (going_start walk_ends_of (walk_turn_of (length row) (position_of q)) (walk-falls (length row) (position_of q)) _ (walk_start_of (extended_of o h a g))
        (walk-starts (length row) (position_of q) (extended_of o h a g) R.ready.rows.good) (omega arith));
  }

module _ {q : List ℤ} {o₀ h₀ a₀ row₀ : List ℕ} {g₀ : Extension} {o h a row : List ℕ} {g : Extension} {c d n : ℕ} (I : PassAt q o₀ h₀ a₀ row₀ g₀ o h a row g c d n) where
  abbrev now : Walk
  now = walk_of o h a g c d n

  here : OnBoundary g.counts (links_of o h a) c
  unfolding extended_of
  here = record { edge = I.going.claim.current.0; outer = I.going.claim.current.1 }

  count : d + n ≡ boundary_length g.counts (links_of o h a) + 1
  unfolding extended_of
  count = I.going.claim.count

  pub next-there : There h c
  next-there = there (held I.ready.rows) here.edge

  pub depth-fits : d + 1 < 2 ^ 32
  depth-fits = let k = count in let f = count-faces I.ready.rows.good.wf in let s = I.ready.sized.small in omega arith

  module _ {r : Bool} (t : r ≡ (g.full || eqb n 0)) where
    test-same : walk_ends_of now ≡ r
    unfolding extended_of
    test-same = sym t

    module _ (e : not r ≡ true) where
      not_yet : walk_ends_of now ≡ false
      not_yet = test-same ∙ holds_not r e

      pub turn-left : 1 ≤ n
      turn-left = (left_over now not_yet).1

      pub walk-ready : {c' : ℕ} → c' ≡ (halves_of h).next c → WalkReady q o h a row g c' (d + 1)
      unfolding onward extended_of links_of
      walk-ready x =
          let i = onward-keeps now I.going.claim turn-left in
          record { ready = I.ready; current = rw x (record { edge = i.current.0; outer = i.current.1 }); depth = (let k = count in let l = turn-left in omega arith) }

      module _ {c' : ℕ} (x : c' ≡ (halves_of h).next c) (o' h' a' : List ℕ) (g' : Extension) (d' : ℕ)
          (y : (n : ℕ) → d + 1 + n ≡ boundary_length g.counts (links_of o h a) + 1 → walk_of o' h' a' g' c' d' n ≡ close_all_behind (length row) (position_of q) (walk_of o h a g c' (d + 1) n)) where
        turned-to : walk_of o' h' a' g' c' d' (n - 1) ≡ walk_turn_of (length row) (position_of q) now
        unfolding walk_turn_of onward extended_of links_of
        turned-to = y (n - 1) (let k = count in let l = turn-left in omega arith) ∙ ap (λ (c : ℕ). close_all_behind (length row) (position_of q) (walk_of o h a g c (d + 1) (n - 1))) x

        pub pass_on : {row' : List ℕ} → SameLengths o h a row o' h' a' row' → PassAt q o₀ h₀ a₀ row₀ g₀ o' h' a' row' g' c' d' (n - 1)
        pass_on l = record {
          ready = ready-again I.ready (turned (length row) (position_of q) now I.going.claim not_yet).closings (ap (λ (w : Walk). w.mesh) turned-to) l;
          lengths = same-trans I.lengths l;
          going = subst⁻¹ (Going walk_ends_of (walk_turn_of (length row₀) (position_of q)) (Walking (position_of q)) (λ w. w.left) _ _)
              (turned-to ∙ ap (λ (k : ℕ). walk_turn_of k (position_of q) now) I.lengths.pending) (going-turn _ _ (walk-falls (length row₀) (position_of q)) I.going not_yet);
        }

    pub pass-end : not r ≡ false → StartReady q o₀ h₀ a₀ row₀ g₀ → extended_of o h a g ≡ fix_convexity (length row₀) (position_of q) (extended_of o₀ h₀ a₀ g₀)
    unfolding walk_pass
    pass-end e R =
        ap (λ (w : Walk). w.mesh) (going_end _ _ (walk-falls (length row₀) (position_of q)) I.going (test-same ∙ fails-not r e))
        ∙ sym (fix-walks (length row₀) (position_of q) (extended_of o₀ h₀ a₀ g₀) (start-good R) (start-full R))
