-- The invariants of the two loops, and what each step of a loop needs: over plain rows, so that the needs of the code are single applications. Assumes nothing.
use mathlib.Core.Bool.{Bool, true, false}
use mathlib.Core.Logic.{◌≢◌}
use borrow.Author.Tests.{eq-eqb, ne_eqb}
use mathlib.Core.List.{List}
use mathlib.Core.Path.{◌≡◌, refl, sym, ◌∙◌, ap, ap₂, subst⁻¹}
use Prim.Native.Nat.{ℕ, ◌+◌, ◌<◌, ◌≤◌, ◌^◌}
use native.Mathlib.Numerals.{add-one}
use native.Mathlib.Omega.{arith}
use lib.Dec.{eqb}
use lib.IntN.{ℤ, nat_abs}
use lib.ListN.{length}
use Rattle.circle_scan.specs.Scan.{ScanReady, Unbroken}
use Rattle.circle_scan.specs.ScanLaws.{scan-ready}
use Rattle.circle_test.specs.GoodRows.{GoodRows, CircleReady, held, circle-ready, good-again}
use Rattle.conflicts.specs.FlipsWithin.{FlipsWithin}
use Rattle.conflicts.proofs.FlipsWithinLaws.{within_none, within-run, within-room}
use Rattle.dcel.specs.Rows.{links_of, position_of}
use Rattle.dcel_operations.specs.Flip.{FlipReady}
use Rattle.dcel_operations.specs.Ready.{flip-ready}
use Rattle.math.specs.declared.Point.{Point}
use Rattle.mesh.specs.declared.Counts.{Counts}
use Rattle.mesh.specs.Mesh.{Links}
use Rattle.mesh.specs.Area.{height_sum}
use Rattle.mesh.specs.Operations.{flip_cw}
use Rattle.mesh.specs.Circle.{breaks_circle}
use Rattle.mesh.proofs.FlipRunLaws.{run-good}
use Rattle.sums.proofs.UntilLaws.{Going, going_start, going-turn, going_less, going_end}
use Rattle.closing.specs.Closing.{Closing, close_edge, close_below, Turned, close_turn, unturned, closing_pass}
use Rattle.closing.specs.ClosingLaws.{edge-flips, edge_stays, Flipping, flipping-edge, flipping-below, below-over, Turning, height_left, turns-fall, begins, enough}
use Rattle.closing.specs.ClosingRows.{closing_of, Closable}

-- the rows keep their lengths
pub record SameLengths (o h a o' h' a' : List ℕ) : Type 0 where
  pub outs : length o' ≡ length o
  pub halves : length h' ≡ length h
  pub faces : length a' ≡ length a

same_refl : {o h a : List ℕ} → SameLengths o h a o h a
same_refl = record { outs = refl; halves = refl; faces = refl }

same-trans : {o h a o' h' a' o'' h'' a'' : List ℕ} → SameLengths o h a o' h' a' → SameLengths o' h' a' o'' h'' a'' → SameLengths o h a o'' h'' a''
same-trans x y = record { outs = y.outs ∙ x.outs; halves = y.halves ∙ x.halves; faces = y.faces ∙ x.faces }

-- counted flips keep what a turn needs
closable-on : {C : Counts} {q : List ℤ} {o h a o' h' a' : List ℕ} {c c' : ℕ} {s : Closing} → Closable C q o h a c → Flipping C (position_of q) (closing_of o h a c) s
    → closing_of o' h' a' c' ≡ s → SameLengths o h a o' h' a' → Closable C q o' h' a' c'
unfolding closing_of
closable-on {C} {q} {o} {h} {a} {o'} {h'} {a'} {c} {c'} {s} K F e l =
    let G = K.rows.good in
    let links = ap (λ (t : Closing). t.links) e in
    let count = ap (λ (t : Closing). t.flips) e ∙ F.count in
    record {
      rows = good-again K.rows o' h' a' l.outs l.halves l.faces links (run-good G F.run);
      few = K.few;
      bound = subst⁻¹ (λ (L : Links). FlipsWithin C L (position_of q) c') links
          (subst⁻¹ (FlipsWithin C s.links (position_of q)) count (within-run G K.bound F.run));
    }

-- ---- one edge, by whether it breaks the rule
module _ (P : ℕ → Point) (u : ℕ) (o h a : List ℕ) (c : ℕ) {r : Bool} (tests : (o a : List ℕ) → r ≡ breaks_circle (links_of o h a) P u) where
  pub edge-flipped : (o' h' a' : List ℕ) (c' : ℕ) → r ≡ true → links_of o' h' a' ≡ flip_cw (links_of o h a) u → c' ≡ c + 1
      → closing_of o' h' a' c' ≡ close_edge P u (closing_of o h a c)
  unfolding closing_of
  edge-flipped o' h' a' c' t links count =
      ap₂ (λ (L : Links) (n : ℕ). record { links = L; flips = n }) links (count ∙ add-one c)
      ∙ sym (edge-flips P u (closing_of o h a c) (sym (tests o a) ∙ t))

  pub edge_kept : r ≡ false → closing_of o h a c ≡ close_edge P u (closing_of o h a c)
  unfolding closing_of
  edge_kept t = sym (edge_stays P u (closing_of o h a c) (sym (tests o a) ∙ t))

-- ---- a turn: the edges below u are done
pub record TurnAt (C : Counts) (q : List ℤ) (o₀ h₀ a₀ : List ℕ) (c₀ : ℕ) (o h a : List ℕ) (c : ℕ) (u : ℕ) : Type 0 where
  pub at : u ≤ C.edges
  pub ready : Closable C q o h a c
  pub same : closing_of o h a c ≡ close_below (position_of q) u (closing_of o₀ h₀ a₀ c₀)
  pub lengths : SameLengths o₀ h₀ a₀ o h a

pub turn-starts : {C : Counts} {q : List ℤ} {o h a : List ℕ} {c : ℕ} → Closable C q o h a c → TurnAt C q o h a c o h a c 0
unfolding close_below
turn-starts K = record { at = omega arith; ready = K; same = refl; lengths = same_refl }

module _ {C : Counts} {q : List ℤ} {o₀ h₀ a₀ : List ℕ} {c₀ : ℕ} {o h a : List ℕ} {c : ℕ} {u : ℕ} (I : TurnAt C q o₀ h₀ a₀ c₀ o h a c u) where
  pub scannable : ScanReady q h C.edges × (u ≤ C.edges)
  scannable = (scan-ready I.ready.rows, I.at)

  pub edge-ready : u < C.edges → CircleReady q h u × FlipReady o h a u × (c + 1 < 2 ^ 64)
  edge-ready l = let K = I.ready in (circle-ready K.rows l, flip-ready (held K.rows) l, within-room K.bound K.rows.good.wf K.few)

  pub turn_on : {o' h' a' : List ℕ} {c' : ℕ} → u < C.edges → closing_of o' h' a' c' ≡ close_edge (position_of q) u (closing_of o h a c) → SameLengths o h a o' h' a'
      → TurnAt C q o₀ h₀ a₀ c₀ o' h' a' c' (u + 1)
  unfolding close_below
  turn_on l e s = record {
    at = omega arith;
    ready = closable-on I.ready (flipping-edge C (position_of q) u l (closing_of o h a c)) e s;
    same = e ∙ ap (close_edge (position_of q) u) I.same ∙ ap (λ (n : ℕ). close_below (position_of q) n (closing_of o₀ h₀ a₀ c₀)) (sym (add-one u));
    lengths = same-trans I.lengths s;
  }

  -- edges that do not break the rule are passed over
  pub turn-over : (v : ℕ) → Unbroken q h u C.edges v → TurnAt C q o₀ h₀ a₀ c₀ o h a c v
  unfolding closing_of
  turn-over v U = record {
    at = U.high;
    ready = I.ready;
    same = I.same ∙ sym (below-over (position_of q) (closing_of o₀ h₀ a₀ c₀) u v U.low
        (λ k l m. ap (λ (s : Closing). breaks_circle s.links (position_of q) k) (sym I.same) ∙ U.keeps l m o a));
    lengths = I.lengths;
  }

  pub turn-ends : C.edges ≤ u → closing_of o h a c ≡ close_below (position_of q) C.edges (closing_of o₀ h₀ a₀ c₀)
  turn-ends l = let k = I.at in I.same ∙ ap (λ (n : ℕ). close_below (position_of q) n (closing_of o₀ h₀ a₀ c₀)) (omega arith)

-- ---- the pass: to go on from here is to go on from the start
abbrev pub passed : List ℕ → List ℕ → List ℕ → ℕ → Bool → Turned
passed o h a c s = record { state = closing_of o h a c; still = s }

pub record PassAt (C : Counts) (q : List ℤ) (o₀ h₀ a₀ o h a : List ℕ) (c : ℕ) : Type 0 where
  pub ready : Closable C q o h a c
  pub going : Going (λ t. t.still) (close_turn C (position_of q)) (Turning C (position_of q)) (height_left C (position_of q)) (nat_abs (height_sum C (links_of o₀ h₀ a₀) (position_of q)) + 2)
      (unturned (links_of o₀ h₀ a₀)) (passed o h a c false)
  pub lengths : SameLengths o₀ h₀ a₀ o h a

pub pass-starts : {C : Counts} {q : List ℤ} {o h a : List ℕ} → GoodRows C q o h a → C.faces ≤ 2 ^ 25 → PassAt C q o h a o h a 0
unfolding closing_of
pass-starts {C} {q} {o} {h} {a} R l = record {
  ready = record { rows = R; few = l; bound = within_none };
  going = going_start (λ t. t.still) (close_turn C (position_of q)) (turns-fall C (position_of q)) _ (unturned (links_of o h a))
      (begins R.good) (enough R.good);
  lengths = same_refl;
}

module _ {C : Counts} {q : List ℤ} {o₀ h₀ a₀ o h a : List ℕ} {c : ℕ} (I : PassAt C q o₀ h₀ a₀ o h a c) where
  module _ (o' h' a' : List ℕ) (c' : ℕ) (e : closing_of o' h' a' c' ≡ close_below (position_of q) C.edges (closing_of o h a c)) where
    next : (s : Bool) → eqb c' c ≡ s → passed o' h' a' c' s ≡ close_turn C (position_of q) (passed o h a c false)
    unfolding close_turn closing_of
    next s b =
        ap (λ (x : Bool). record { state = closing_of o' h' a' c'; still = x }) (sym b)
        ∙ ap (λ (t : Closing). record { state = t; still = eqb t.flips c }) e

    -- the turn has flipped an edge: on to another
    module _ (n : c' ≢ c) where
      moved : passed o' h' a' c' false ≡ close_turn C (position_of q) (passed o h a c false)
      moved = next false (ne_eqb c' c n)

      pub pass_on : SameLengths o h a o' h' a' → PassAt C q o₀ h₀ a₀ o' h' a' c'
      pass_on k = record {
        ready = closable-on I.ready (flipping-below C (position_of q) C.edges (omega arith) (closing_of o h a c)) e k;
        going = subst⁻¹ (Going _ _ _ _ _ _) moved (going-turn _ _ (turns-fall C (position_of q)) I.going refl);
        lengths = same-trans I.lengths k;
      }

      pub pass-less : height_left C (position_of q) (passed o' h' a' c' false) < height_left C (position_of q) (passed o h a c false)
      pass-less = subst⁻¹ (λ (t : Turned). height_left C (position_of q) t < height_left C (position_of q) (passed o h a c false)) moved (going_less _ _ (turns-fall C (position_of q)) I.going refl)

    -- the turn has flipped nothing
    pub pass-ends : c' ≡ c → closing_of o' h' a' c' ≡ closing_pass C (position_of q) (links_of o₀ h₀ a₀)
    unfolding closing_pass
    pass-ends k = ap (λ (t : Turned). t.state) (going_end _ _ (turns-fall C (position_of q))
        (subst⁻¹ (Going _ _ _ _ _ _) (next true (eq-eqb c' c k)) (going-turn _ _ (turns-fall C (position_of q)) I.going refl)) refl)
