-- The closing pass of a good mesh: it ends, it is a sequence of exactly as many flips as it counts, each at an edge
-- that breaks the circle rule at that moment, and it leaves a settled mesh. With `FlipRun` of mesh: what it leaves is
-- good, with the same boundary and the same area, and the height sum is lowered by the determinants of the flips.
-- Assumes nothing.
use Rattle.std.specs.Prelude.{Bool, true, false, ◌≡◌, refl, ◌≢◌, eqb, pos, ◌+ℤ◌, ◌≤ℤ◌}
use Rattle.std.proofs.lemmas.Bool.{false≢true, eqb-false}
use Rattle.std.proofs.Math.Bool.{cond}
use Rattle.std.proofs.Common.{sym, ◌∙◌, eqb-true}
use Rattle.std.proofs.Math.Path.{ap, subst}
use Prim.Native.Nat.{ℕ, zero, suc, ◌+◌, ◌<◌, ◌≤◌}
use Rattle.std.proofs.Math.Decide.{dec_le}
use native.Mathlib.Omega.{arith}
use Rattle.std.proofs.Math.IntN.{nat_abs}
use Rattle.math.specs.declared.Point.{Point}
use Rattle.mesh.specs.declared.Counts.{Counts}
use Rattle.mesh.specs.Mesh.{Links, In}
use Rattle.mesh.specs.Operations.{flip_cw}
use Rattle.mesh.specs.Frame.{SameBoundary}
use Rattle.mesh.specs.Circle.{breaks_circle, Settled}
use Rattle.mesh.specs.Area.{height_sum, area_total, boundary_length, circle_at}
use Rattle.mesh.proofs.CircleLawsFacts.{settled-half}
use Rattle.mesh.specs.FlipRun.{FlipRun, none, then, determinants}
use Rattle.mesh.proofs.FlipRunLaws.{run_join, run-good, run-boundary, run_length, run-area, run-heights, run-falls}
use Rattle.mesh.specs.Good.{Good}
use Rattle.sums.specs.Half.{rev}
use Rattle.sums.proofs.BoundedLaws.{up_to}
use Rattle.sums.specs.Until.{until}
use Rattle.sums.proofs.UntilLaws.{until-ends, until-fuel, until-ind, Falls}
use Rattle.closing.specs.Closing.{Closing, close_edge, close_below, Turned, close_turn, unturned, closing_pass}

-- ---- one edge
module _ (p : ℕ → Point) (u : ℕ) (s : Closing) where
  pub edge-flips : breaks_circle s.links p u ≡ true → close_edge p u s ≡ record { links = flip_cw s.links u; flips = suc s.flips }
  unfolding close_edge
  edge-flips e = ap (λ (t : Bool). cond t (record { links = flip_cw s.links u; flips = suc s.flips }) s) e

  pub edge_stays : breaks_circle s.links p u ≡ false → close_edge p u s ≡ s
  unfolding close_edge
  edge_stays e = ap (λ (t : Bool). cond t (record { links = flip_cw s.links u; flips = suc s.flips }) s) e

-- edges from u up to v that do not break the rule change nothing
pub below-over : (p : ℕ → Point) (s : Closing) (u v : ℕ) → u ≤ v
    → ((k : ℕ) → u ≤ k → k < v → breaks_circle (close_below p u s).links p k ≡ false) → close_below p v s ≡ close_below p u s
unfolding close_below
below-over p s u zero l keeps = let e : zero ≡ u = omega arith in ap (λ (n : ℕ). close_below p n s) e
below-over p s u (suc v) l keeps = go (dec_le u v) (λ k. below-over p s u v k (λ i a b. keeps i a (omega arith)))
  where
    go : Dec (u ≤ v) → (u ≤ v → close_below p v s ≡ close_below p u s) → close_below p (suc v) s ≡ close_below p u s
    go (yes k) e = ap (close_edge p v) (e k) ∙ edge_stays p v (close_below p u s) (keeps v k (omega arith))
    go (no k) e = let d : suc v ≡ u = omega arith in ap (λ (n : ℕ). close_below p n s) d

-- ---- from one state to another by flips that are counted
pub record Flipping (C : Counts) (p : ℕ → Point) (s t : Closing) : Type 0 where
  pub made : ℕ
  pub run : FlipRun C p s.links t.links made
  pub count : t.flips ≡ s.flips + made

pub flipping-none : {C : Counts} {p : ℕ → Point} {s : Closing} → Flipping C p s s
flipping-none = record { made = 0; run = none; count = omega arith }

pub flipping-join : {C : Counts} {p : ℕ → Point} {r s t : Closing} → Flipping C p r s → Flipping C p s t → Flipping C p r t
flipping-join a b = record { made = a.made + b.made; run = run_join a.run b.run; count = let q = a.count in let r = b.count in omega arith }

module _ (C : Counts) (p : ℕ → Point) where
  pub flipping-edge : (u : ℕ) → u < C.edges → (s : Closing) → Flipping C p s (close_edge p u s)
  flipping-edge u l s = go (breaks_circle s.links p u) refl
    where
      go : (b : Bool) → breaks_circle s.links p u ≡ b → Flipping C p s (close_edge p u s)
      go true e = rw (edge-flips p u s e) (record { made = 1; run = then none u l e; count = omega arith })
      go false e = rw (edge_stays p u s e) flipping-none

  pub flipping-below : (n : ℕ) → n ≤ C.edges → (s : Closing) → Flipping C p s (close_below p n s)
  unfolding close_below
  flipping-below zero l s = flipping-none
  flipping-below (suc n) l s = flipping-join (flipping-below n (omega arith) s) (flipping-edge n (omega arith) (close_below p n s))

  pub flipping-turn : (t : Turned) → Flipping C p t.state (close_turn C p t).state
  unfolding close_turn
  flipping-turn t = flipping-below C.edges (omega arith) t.state

-- ---- a turn that flips nothing: it has tested every edge, and none broke the rule
pub record Still (p : ℕ → Point) (n : ℕ) (s : Closing) : Type 0 where
  pub same : close_below p n s ≡ s
  pub keeps : (u : ℕ) → u < n → breaks_circle s.links p u ≡ false

flips-grow : (p : ℕ → Point) (n : ℕ) (s : Closing) → s.flips ≤ (close_below p n s).flips
unfolding close_below
flips-grow p zero s = omega arith
flips-grow p (suc n) s = go (close_below p n s) (flips-grow p n s) (breaks_circle (close_below p n s).links p n) refl
  where
    go : (t : Closing) → s.flips ≤ t.flips → (b : Bool) → breaks_circle t.links p n ≡ b → s.flips ≤ (close_edge p n t).flips
    go t l true e = rw (edge-flips p n t e) (omega arith)
    go t l false e = rw (edge_stays p n t e) l

pub still-below : (p : ℕ → Point) (n : ℕ) (s : Closing) → (close_below p n s).flips ≡ s.flips → Still p n s
unfolding close_below
still-below p zero s e = record { same = refl; keeps = λ u l. absurd (omega arith) }
still-below p (suc n) s e = go (flips-grow p n s) (breaks_circle (close_below p n s).links p n) refl (still-below p n s)
  where
    go : s.flips ≤ (close_below p n s).flips → (b : Bool) → breaks_circle (close_below p n s).links p n ≡ b
        → ((close_below p n s).flips ≡ s.flips → Still p n s) → Still p (suc n) s
    go l true q rest = absurd (let k = ap (λ (x : Closing). x.flips) (edge-flips p n (close_below p n s) q) in omega arith)
    go l false q rest =
        let k = edge_stays p n (close_below p n s) q in
        let S = rest (ap (λ (x : Closing). x.flips) (sym k) ∙ e) in
        record { same = k ∙ S.same; keeps = up_to n S.keeps (ap (λ (x : Closing). breaks_circle x.links p n) (sym S.same) ∙ q) }

-- nothing is flipped in a settled mesh
pub settled-below : {C : Counts} {p : ℕ → Point} {s : Closing} → Settled C s.links p → (n : ℕ) → n ≤ C.edges → close_below p n s ≡ s
unfolding close_below
settled-below S zero l = refl
settled-below {p = p} {s} S (suc n) l = ap (close_edge p n) (settled-below S n (omega arith)) ∙ edge_stays p n s (S.edge (omega arith))

-- ---- turn after turn
pub record Turning (C : Counts) (p : ℕ → Point) (t : Turned) : Type 0 where
  pub good : Good C t.state.links p
  pub settled : t.still ≡ true → Settled C t.state.links p

-- what falls: the height sum, and one for the turn that finds nothing
unfoldable pub height_left : Counts → (ℕ → Point) → Turned → ℕ
height_left C p t = cond t.still 0 (nat_abs (height_sum C t.state.links p) + 1)

module _ (C : Counts) (p : ℕ → Point) where
  turn-keeps : (t : Turned) → Turning C p t → Turning C p (close_turn C p t)
  unfolding close_turn
  turn-keeps t i = record {
    good = run-good i.good (flipping-turn C p t).run;
    settled = λ e.
        let S = still-below p C.edges t.state (eqb-true _ _ e) in
        subst (λ (s : Closing). Settled C s.links p) (sym S.same) (record { edge = λ {u} l. S.keeps u l });
  }

  turn-falls : (t : Turned) → Turning C p t → t.still ≡ false → height_left C p (close_turn C p t) < height_left C p t
  unfolding height_left close_turn
  turn-falls t i e = rw e (go (eqb (close_below p C.edges t.state).flips t.state.flips) refl)
    where
      F : Flipping C p t.state (close_below p C.edges t.state)
      F = flipping-below C p C.edges (omega arith) t.state

      H : ℕ
      H = nat_abs (height_sum C t.state.links p)

      H' : ℕ
      H' = nat_abs (height_sum C (close_below p C.edges t.state).links p)

      go : (b : Bool) → eqb (close_below p C.edges t.state).flips t.state.flips ≡ b → cond b 0 (H' + 1) < H + 1
      go true q = omega arith
      go false q =
          let n : (close_below p C.edges t.state).flips ≢ t.state.flips = eqb-false _ _ q in
          let k = F.count in
          let l = run-falls i.good F.run in
          let m : 0 < F.made = omega arith in
          omega arith

  pub turns-fall : Falls (λ t. t.still) (close_turn C p) (Turning C p) (height_left C p)
  turns-fall = record { keeps = λ t i e. turn-keeps t i; less = turn-falls }

-- ---- the pass
-- as many flips as it counts, each at an edge that broke the circle rule at that moment, and then no edge breaks it
pub record Closed (C : Counts) (p : ℕ → Point) (L : Links) (s : Closing) : Type 0 where
  pub run : FlipRun C p L s.links s.flips
  pub settled : Settled C s.links p

module _ {C : Counts} {p : ℕ → Point} {L : Links} (G : Good C L p) where
  pub begins : Turning C p (unturned L)
  begins = record { good = G; settled = λ e. absurd (false≢true e) }

  pub enough : height_left C p (unturned L) < nat_abs (height_sum C L p) + 2
  unfolding height_left
  enough = omega arith

  -- the fuel suffices: with more of it the pass ends the same
  pub closing-fuel : (n : ℕ) → nat_abs (height_sum C L p) + 1 < n
      → (until (λ t. t.still) (close_turn C p) n (unturned L)).state ≡ closing_pass C p L
  unfolding closing_pass height_left
  closing-fuel n l = ap (λ (t : Turned). t.state) (until-fuel (λ t. t.still) (close_turn C p) (turns-fall C p) n (nat_abs (height_sum C L p) + 2) (unturned L) begins l enough)

  pub closing-closes : Closed C p L (closing_pass C p L)
  unfolding closing_pass
  closing-closes =
      let n = nat_abs (height_sum C L p) + 2 in
      let r = until (λ t. t.still) (close_turn C p) n (unturned L) in
      let q = until-ind (λ t. t.still) (close_turn C p) (turns-fall C p) (λ t r. Turning C p r × Flipping C p t.state r.state)
      (λ t i e. (i, flipping-none)) (λ t r i e q. (q.0, flipping-join (flipping-turn C p t) q.1)) n (unturned L) begins enough in
      record {
        run = subst (FlipRun C p L r.state.links) (let k = q.1.count in omega arith) q.1.run;
        settled = q.0.settled (until-ends (λ t. t.still) (close_turn C p) (turns-fall C p) n (unturned L) begins enough);
      }

  -- one more turn changes nothing
  pub closing-again : close_below p C.edges (closing_pass C p L) ≡ closing_pass C p L
  closing-again = settled-below closing-closes.settled C.edges (omega arith)

  pub closing-good : Good C (closing_pass C p L).links p
  closing-good = run-good G closing-closes.run

  -- no triangle's circle strictly contains a neighbour's far vertex, seen from any half-edge
  pub closing-settled : {e : ℕ} → In C e → 0 < (closing_pass C p L).links.face e
      → 0 < (closing_pass C p L).links.face (rev e) → circle_at (closing_pass C p L).links p e ≤ℤ pos 0
  closing-settled = settled-half closing-closes.settled

  pub closing-boundary : SameBoundary C L (closing_pass C p L).links
  closing-boundary = run-boundary G closing-closes.run

  pub closing-length : boundary_length C (closing_pass C p L).links ≡ boundary_length C L
  closing-length = run_length G closing-closes.run

  pub closing-area : area_total C (closing_pass C p L).links p ≡ area_total C L p
  closing-area = run-area G closing-closes.run

  -- the height sum falls by the sum of the determinants, so by at least the count
  pub closing-heights : height_sum C L p ≡ height_sum C (closing_pass C p L).links p +ℤ determinants closing-closes.run
  closing-heights = run-heights G closing-closes.run

  pub closing-falls : (closing_pass C p L).flips + nat_abs (height_sum C (closing_pass C p L).links p) ≤ nat_abs (height_sum C L p)
  closing-falls = run-falls G closing-closes.run
