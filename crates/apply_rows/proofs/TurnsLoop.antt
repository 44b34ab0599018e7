-- The loop of so many turns: to go on from here is to go on from the start. Assumes nothing.
use mathlib.Core.Bool.{true, false}
use mathlib.Core.List.{List}
use mathlib.Core.Path.{◌≡◌, refl, sym, ◌∙◌, ap, subst⁻¹}
use Prim.Native.Nat.{ℕ, zero, suc, ◌-◌, ◌<◌}
use native.Mathlib.Omega.{arith}
use lib.IntN.{ℤ}
use lib.ListN.{length}
use Rattle.corner.specs.CornerLaws.{none, then}
use Rattle.corner.specs.CornerRows.{extended_of}
use Rattle.corner.specs.RowsLaws.{SameLengths, same_refl, same-trans, ready-again}
use Rattle.dcel.specs.Rows.{position_of}
use Rattle.math.specs.declared.Point.{Point}
use Rattle.mesh.specs.Mesh.{In}
use Rattle.ring.proofs.CoveredLaws.{p-in}
use Rattle.ring.specs.declared.Side.{Side}
use Rattle.ring.specs.declared.Side.TheVariants.{Left, Right}
use Rattle.apply.specs.declared.Walked.{Walked}
use Rattle.apply.specs.Apply.{Walking, walk_turn_of, walk_turns}
use Rattle.apply.specs.ApplyRows.{walking_of, TurnReady, TurnsReady}
use Rattle.apply.specs.Turns.{AlongOn, chain_on, turn_on, turn-closes}
use Rattle.apply.proofs.TurnsLaws.{turns-full}

-- one turn of several
turns_next : (side : Side) (room : ℕ) (p : ℕ → Point) (n : ℕ) (s : Walking) → 0 < n → s.mesh.full ≡ false → walk_turns side room p n s ≡ walk_turns side room p (n - 1) (walk_turn_of side room p s)
unfolding walk_turns
turns_next side room p zero s l f = absurd (omega arith)
turns_next side room p (suc n) s l f = let e : suc n - 1 ≡ n = omega arith in rw (f, e) refl

turns-none : (side : Side) (room : ℕ) (p : ℕ → Point) (n : ℕ) (s : Walking) → n ≡ 0 → walk_turns side room p n s ≡ s
unfolding walk_turns
turns-none side room p n s e = rw e refl

pub record TurningAt (side : Side) (q : List ℤ) (o₀ h₀ a₀ row₀ : List ℕ) (w₀ : Walked) (count : ℕ) (o h a row : List ℕ) (w : Walked) (left : ℕ) : Type 0 where
  pub ready : TurnsReady side q o h a row w left
  pub lengths : SameLengths o₀ h₀ a₀ row₀ o h a row
  pub same : walk_turns side (length row₀) (position_of q) left (walking_of o h a w) ≡ walk_turns side (length row₀) (position_of q) count (walking_of o₀ h₀ a₀ w₀)

pub turning-starts : {side : Side} {q : List ℤ} {o h a row : List ℕ} {w : Walked} {count : ℕ} → TurnsReady side q o h a row w count → TurningAt side q o h a row w count o h a row w count
turning-starts R = record { ready = R; lengths = same_refl; same = refl }

-- the current edge is in use
current-in : {side : Side} {q : List ℤ} {o h a row : List ℕ} {w : Walked} {left : ℕ} → TurnsReady side q o h a row w left → In w.added.counts w.edge
unfolding extended_of
current-in {side} {q} {o} {h} {a} {row} {w} R = go side R.on
  where
    go : (side : Side) → AlongOn R.before side R.others R.other R.made (walking_of o h a w) → In w.added.counts w.edge
    go Left A = A.along.covered.in_use
    go Right A = p-in A.along.good.wf A.along.covered

module _ {side : Side} {q : List ℤ} {o₀ h₀ a₀ row₀ : List ℕ} {w₀ : Walked} {count : ℕ} {o h a row : List ℕ} {w : Walked} {left : ℕ} (I : TurningAt side q o₀ h₀ a₀ row₀ w₀ count o h a row w left) where
  module _ (f : w.added.full ≡ false) (turning-some : 0 < left) where
    more : I.ready.made < chain_on I.ready.before side
    more = let l = I.ready.left in let s = turning-some in omega arith

    pub turning-ready : TurnReady side q o h a row w
    unfolding extended_of
    turning-ready = record { ready = I.ready.ready; current = current-in I.ready; closes = turn-closes I.ready.before (length row) side I.ready.on more }

    pub turning-on : {o' h' a' row' : List ℕ} {w' : Walked} → walking_of o' h' a' w' ≡ walk_turn_of side (length row) (position_of q) (walking_of o h a w)
        → SameLengths o h a row o' h' a' row' → TurningAt side q o₀ h₀ a₀ row₀ w₀ count o' h' a' row' w' (left - 1)
    unfolding extended_of
    turning-on {o'} {h'} {a'} {row'} {w'} x l =
        let R = I.ready in
        record {
          ready = record {
            ready = ready-again R.ready (then none _ (turn-closes R.before (length row) side R.on more)) (ap (λ (s : Walking). s.mesh) x) l;
            counts = R.counts;
            links = R.links;
            places = R.places;
            angles = R.angles;
            angles-now = R.angles-now;
            point = R.point;
            angle = R.angle;
            edge = R.edge;
            before = R.before;
            others = R.others;
            other = R.other;
            made = suc R.made;
            on = subst⁻¹ (AlongOn R.before side R.others R.other (suc R.made)) x (turn_on R.before (length row) side R.on more);
            left = let k = R.left in let s = turning-some in omega arith;
          };
          lengths = same-trans I.lengths l;
          same =
              ap (walk_turns side (length row₀) (position_of q) (left - 1)) (x ∙ ap (λ (n : ℕ). walk_turn_of side n (position_of q) (walking_of o h a w)) I.lengths.pending)
              ∙ sym (turns_next side (length row₀) (position_of q) left (walking_of o h a w) turning-some f) ∙ I.same;
        }

  -- a flip was refused, or no turn is left
  pub turning-full : w.added.full ≡ true → walking_of o h a w ≡ walk_turns side (length row₀) (position_of q) count (walking_of o₀ h₀ a₀ w₀)
  unfolding extended_of
  turning-full f = sym (turns-full side (length row₀) (position_of q) left (walking_of o h a w) f) ∙ I.same

  pub turning-end : left ≡ 0 → walking_of o h a w ≡ walk_turns side (length row₀) (position_of q) count (walking_of o₀ h₀ a₀ w₀)
  turning-end e = sym (turns-none side (length row₀) (position_of q) left (walking_of o h a w) e) ∙ I.same
