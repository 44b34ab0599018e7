-- Legalizing a good mesh ends, and is a run of exactly as many flips as it counts, each at an edge that broke the
-- circle rule at that moment. So the mesh stays good, with its boundary and its area, and the height sum falls by at
-- least the flips. It ends with an empty pending list, or before a flip whose pushes would overfill it. Assumes
-- nothing.
use Rattle.std.specs.Prelude.{true, false, List, [], ◌≡◌, ℕ, suc, ◌+◌, ◌≤◌, ◌<◌, nat_abs, length}
use Rattle.std.proofs.lemmas.Bool.{false≢true}
use Rattle.std.proofs.Common.{◌∙◌, ap, subst, add-one}
use native.Mathlib.Omega.{arith}
use Rattle.math.specs.declared.Point.{Point}
use Rattle.conflicts.specs.FlipsWithin.{FlipsWithin}
use Rattle.conflicts.proofs.FlipsWithinLaws.{within-run}
use Rattle.mesh.specs.declared.Counts.{Counts}
use Rattle.mesh.specs.Mesh.{Links}
use Rattle.mesh.specs.Frame.{SameBoundary}
use Rattle.mesh.specs.Area.{area_total, height_sum}
use Rattle.mesh.specs.Circle.{breaks_circle}
use Rattle.mesh.proofs.CircleLawsFacts.{breaks, breaks-good, breaks-falls}
use Rattle.mesh.specs.FlipRun.{FlipRun, none}
use Rattle.mesh.proofs.FlipRunLaws.{run-one, run_join, run-good, run-boundary, run-area, run-falls}
use Rattle.mesh.specs.Good.{Good}
use Rattle.sums.specs.Until.{until}
use Rattle.sums.proofs.UntilLaws.{Falls, until-ends, until-keeps, until-ind, until-fuel}
use Rattle.legalize.specs.declared.Entry.{Entry}
use Rattle.legalize.specs.Legalize.{Legalizing, entry_edge, pushed, legalize_turn, is_done, measure, legalize}
use Rattle.legalize.specs.Turns.{turn-cases, going_on, ended, EntriesIn, pushed-in, pushed-few}

-- the flip that was not made: an edge that breaks the rule, whose pushes do not fit the pending list
pub record Refused (room : ℕ) (k : Entry) (p : ℕ → Point) (s : Legalizing) : Type 0 where
  pub entry : ℕ
  pub breaks : breaks_circle s.links p (entry_edge k entry) ≡ true
  pub over : room < length (pushed k s.links entry s.pending)

-- what each turn keeps
pub record Ongoing (room : ℕ) (k : Entry) (C : Counts) (p : ℕ → Point) (s : Legalizing) : Type 0 where
  pub good : Good C s.links p
  pub entries : EntriesIn C k s.pending
  pub refused : s.full ≡ true → Refused room k p s

-- from s the loop comes to r
pub record Outcome (room : ℕ) (k : Entry) (C : Counts) (p : ℕ → Point) (s r : Legalizing) : Type 0 where
  pub made : ℕ
  pub run : FlipRun C p s.links r.links made
  pub flips : r.flips ≡ s.flips + made
  pub refused : r.full ≡ true → Refused room k p r
  pub finished : r.full ≡ false → r.pending ≡ []

-- a number of flips lead from s to r, all of them counted
record Ran (C : Counts) (p : ℕ → Point) (s r : Legalizing) : Type 0 where
  made : ℕ
  run : FlipRun C p s.links r.links made
  flips : r.flips ≡ s.flips + made

module _ (room : ℕ) (k : Entry) (C : Counts) (p : ℕ → Point) where
  keeps : (s : Legalizing) → Ongoing room k C p s → is_done s ≡ false → Ongoing room k C p (legalize_turn room k p s)
  keeps s O e = going_on s e (λ x l q f.
      let h = subst (EntriesIn C k) q O.entries in
      turn-cases room k p s q (Ongoing room k C p)
      (λ b. record { good = O.good; entries = h.1; refused = λ t. absurd (false≢true t) })
      (λ b. record {
        good = breaks-good O.good h.0 (breaks s.links p (entry_edge k x) b);
        entries = pushed-in O.good.wf k x l h.0 h.1;
        refused = λ t. absurd (false≢true t);
      })
      (λ b m. record { good = O.good; entries = h.1; refused = λ _. record { entry = x; breaks = b; over = m } }))

  less : (s : Legalizing) → Ongoing room k C p s → is_done s ≡ false → measure C p (legalize_turn room k p s) < measure C p s
  less s O e = going_on s e (λ x l q f.
      let h = subst (EntriesIn C k) q O.entries in
      let n : length s.pending ≡ suc (length l) = ap length q in
      turn-cases room k p s q (λ t. measure C p t < measure C p s)
      (λ b. omega arith)
      (λ b.
      let d = breaks-falls O.good h.0 (breaks s.links p (entry_edge k x) b) in
      let m = pushed-few k s.links x l in
      omega arith)
      (λ b m. omega arith))

  pub falls : Falls is_done (legalize_turn room k p) (Ongoing room k C p) (measure C p)
  falls = record { keeps = keeps; less = less }

  -- flips made and vertices inside circles stay within their bound
  pub turn-bound : (s : Legalizing) → Ongoing room k C p s → is_done s ≡ false → FlipsWithin C s.links p s.flips
      → FlipsWithin C (legalize_turn room k p s).links p (legalize_turn room k p s).flips
  turn-bound s O e B = going_on s e (λ x l q f.
      let h = subst (EntriesIn C k) q O.entries in
      turn-cases room k p s q (λ t. FlipsWithin C t.links p t.flips)
      (λ b. B)
      (λ b. rw (← add-one s.flips) (within-run O.good B (run-one h.0 b)))
      (λ b m. B))

  -- a turn put before what follows
  back : (s r : Legalizing) → Ongoing room k C p s → is_done s ≡ false → Ran C p (legalize_turn room k p s) r → Ran C p s r
  back s r O e = going_on s e (λ x l q f.
      let h = subst (EntriesIn C k) q O.entries in
      turn-cases room k p s q (λ t. Ran C p t r → Ran C p s r)
      (λ b R. record { made = R.made; run = R.run; flips = R.flips })
      (λ b R. record { made = 1 + R.made; run = run_join (run-one h.0 b) R.run; flips = R.flips ∙ omega arith })
      (λ b m R. record { made = R.made; run = R.run; flips = R.flips }))

  module _ (s : Legalizing) (O : Ongoing room k C p s) where
    -- it ends, with an empty list or a refusal
    pub legalize-ends : is_done (legalize room k C p s) ≡ true
    unfolding legalize
    legalize-ends = until-ends is_done (legalize_turn room k p) falls (measure C p s + 1) s O (omega arith)

    pub legalize-keeps : Ongoing room k C p (legalize room k C p s)
    unfolding legalize
    legalize-keeps = until-keeps is_done (legalize_turn room k p) falls (measure C p s + 1) s O

    -- any fuel above the measure gives the same, so one more turn changes nothing
    pub legalize-fuel : (n : ℕ) → measure C p s < n → until is_done (legalize_turn room k p) n s ≡ legalize room k C p s
    unfolding legalize
    legalize-fuel n l = until-fuel is_done (legalize_turn room k p) falls n (measure C p s + 1) s O l (omega arith)

    ran : Ran C p s (legalize room k C p s)
    unfolding legalize
    ran = until-ind is_done (legalize_turn room k p) falls (Ran C p) (λ s O e. record { made = 0; run = none; flips = omega arith }) back (measure C p s + 1) s O (omega arith)

    pub legalize-outcome : Outcome room k C p s (legalize room k C p s)
    legalize-outcome = record {
      made = ran.made;
      run = ran.run;
      flips = ran.flips;
      refused = legalize-keeps.refused;
      finished = ended (legalize room k C p s) legalize-ends;
    }

-- where a call begins
pub legalize-start : {room : ℕ} {k : Entry} {C : Counts} {p : ℕ → Point} {L : Links} {l : List ℕ} {n : ℕ} → Good C L p → EntriesIn C k l
    → Ongoing room k C p (record { links = L; pending = l; flips = n; full = false })
legalize-start G a = record { good = G; entries = a; refused = λ t. absurd (false≢true t) }

-- ---- what that means for a good mesh
module _ {room : ℕ} {k : Entry} {C : Counts} {p : ℕ → Point} {s r : Legalizing} (G : Good C s.links p) (o : Outcome room k C p s r) where
  pub outcome-good : Good C r.links p
  outcome-good = run-good G o.run

  pub outcome-boundary : SameBoundary C s.links r.links
  outcome-boundary = run-boundary G o.run

  pub outcome-area : area_total C r.links p ≡ area_total C s.links p
  outcome-area = run-area G o.run

  -- the height sum falls by at least the flips
  pub outcome-falls : o.made + nat_abs (height_sum C r.links p) ≤ nat_abs (height_sum C s.links p)
  outcome-falls = run-falls G o.run

  -- and the count stays within its bound
  pub outcome-bound : FlipsWithin C s.links p s.flips → FlipsWithin C r.links p r.flips
  outcome-bound B = rw o.flips (within-run G B o.run)
