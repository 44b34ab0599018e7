-- The loops of a step, turn by turn: a loop makes exactly as many turns as the chain has edges on its side, unless a
-- flip is refused, and closes a corner at each. Assumes nothing.
use Rattle.std.specs.Prelude.{Bool, not, ◌||◌, ◌≡◌}
use Rattle.std.proofs.Math.Bool.{true, false, cond}
use Rattle.std.proofs.lemmas.Bool.{false≢true}
use Rattle.std.proofs.Math.Path.{refl, ap, subst}
use Rattle.std.proofs.Common.{sym, ◌∙◌, add-suc, T_not}
use Prim.Native.Nat.{ℕ, zero, suc, ◌+◌, ◌*◌, ◌<◌, ◌≤◌}
use Rattle.std.proofs.Math.Decide.{dec_lt}
use native.Mathlib.Omega.{arith}
use Rattle.std.proofs.Math.Dec.{T}
use Rattle.corner.specs.Corner.{Extended, close_corner}
use Rattle.corner.specs.CornerLaws.{CornerClosed, closed-length, Closings, none, then, closings-join}
use Rattle.math.specs.declared.Point.{Point}
use Rattle.mesh.specs.declared.Counts.{Counts}
use Rattle.mesh.specs.Mesh.{Links}
use Rattle.mesh.specs.Area.{boundary_length}
use Rattle.mesh.proofs.CountsLaws.{count-halves}
use Rattle.mesh.specs.Good.{Good}
use Rattle.ring.specs.Chain.{covers_left, covers_right, left_chain, right_chain}
use Rattle.ring.proofs.ChainMesh.{left-covered, right-covered, left-stops, right-stops, left-sees, right-sees, chain-short}
use Rattle.ring.proofs.CoveredLaws.{p-in, p-outer}
use Rattle.sums.proofs.BitLaws.{from-true, is_true, or_left, or_right}
use Rattle.sums.specs.Iterate.{iter}
use Rattle.sums.specs.Until.{until}
use Rattle.sums.proofs.UntilLaws.{until-done, until-next}
use Rattle.ring.specs.declared.Side.{Side}
use Rattle.ring.specs.declared.Side.TheVariants.{Left, Right}
use Rattle.ring.specs.Chain.{beside, covers}
use Rattle.apply.specs.Apply.{Walking, face_edge, walk_ends_of, walk_turn_of, walk, walk_turns}
use Rattle.apply.specs.Walks.{Before, Along, along-left, along-right, closes-left, closes-right, test-left, test-right}

module _ {C : Counts} {L : Links} {p₀ : ℕ → Point} {α₀ : ℕ → ℕ} {p : ℕ → Point} {α : ℕ → ℕ} {v : Point} {q e : ℕ}
    (B : Before C L p₀ α₀ p α v q e) where
  -- how many edges of the chain are on a side, and on the other
  abbrev pub chain_on : Side → ℕ
  chain_on Left = left_chain C L p₀ α₀ v q e
  chain_on Right = right_chain C L p₀ α₀ v q e

  abbrev pub chain_off : Side → ℕ
  chain_off Left = right_chain C L p₀ α₀ v q e
  chain_off Right = left_chain C L p₀ α₀ v q e

  abbrev AlongBy : Side → ℕ → ℕ → ℕ → Walking → Type 0
  AlongBy Left i o n s = Along C L α₀ p α q e n i s.mesh s.current o
  AlongBy Right i o n s = Along C L α₀ p α q e i n s.mesh o s.current

  -- the loop of a side has made n turns; the other loop i turns, to the edge o
  pub record AlongOn (side : Side) (i o n : ℕ) (s : Walking) : Type 0 where
    pub along : AlongBy side i o n s
    pub most : n ≤ chain_on side
    pub other : i ≤ chain_off side

  short : left_chain C L p₀ α₀ v q e + 1 + right_chain C L p₀ α₀ v q e < boundary_length C L
  short = chain-short B.good.wf p₀ α₀ v q B.edge B.outer B.good.turning B.seen

  -- two edges are left before a turn
  left-more : (a b : ℕ) {n : ℕ} → a + 1 + b + n ≡ boundary_length C L → suc (a + 1 + b) < boundary_length C L
      → (k : ℕ) × (n ≡ suc k) × (0 < k)
  left-more a b {n = zero} w h = absurd (omega arith)
  left-more a b {n = suc k} w h = (k, refl, omega arith)

  -- ---- the test
  covered-on : (side : Side) {i o n : ℕ} {s : Walking} → AlongOn side i o n s → n < chain_on side
      → T (covers side s.mesh.links p α v q (beside side s.mesh.links s.current))
  unfolding covers_left covers_right
  covered-on Left {n = n} A h = subst T (sym (test-left B A.along)) (left-covered B.good.wf p₀ α₀ v q B.edge B.outer n h)
  covered-on Right {n = n} A h = subst T (sym (test-right B A.along)) (right-covered B.good.wf p₀ α₀ v q B.edge B.outer n h)

  stops-on : (side : Side) {i o n : ℕ} {s : Walking} → AlongOn side i o n s → n ≡ chain_on side
      → T (not (covers side s.mesh.links p α v q (beside side s.mesh.links s.current)))
  unfolding covers_left covers_right
  stops-on Left A h =
      subst (λ (t : Bool). T (not t)) (sym (test-left B A.along ∙ ap (λ (k : ℕ). covers_left L p₀ α₀ v q (iter (suc k) L.prev e)) h))
      (left-stops B.good.wf p₀ α₀ v q B.edge B.outer (let x = short in omega arith))
  stops-on Right A h =
      subst (λ (t : Bool). T (not t)) (sym (test-right B A.along ∙ ap (λ (k : ℕ). covers_right L p₀ α₀ v q (iter (suc k) L.next e)) h))
      (right-stops B.good.wf p₀ α₀ v q B.edge B.outer (let x = short in omega arith))

  -- ---- a turn
  module _ (room : ℕ) where
    pub turn_on : (side : Side) {i o n : ℕ} {s : Walking} → AlongOn side i o n s → n < chain_on side
        → AlongOn side i o (suc n) (walk_turn_of side room p s)
    unfolding covers_left covers_right face_edge walk_turn_of
    turn_on Left {i} {o} {n} {s} A h =
        let x = short in let y = A.other in let r = left-more n i A.along.whole (omega arith) in
        record {
          along = along-left B room A.along r.1 r.2
              (left-sees A.along.good.wf p α v q A.along.covered.in_use A.along.covered.outer (s.mesh.links.prev s.current) (covered-on Left A h));
          most = h;
          other = y;
        }
    turn_on Right {i} {o} {n} {s} A h =
        let x = short in let y = A.other in let r = left-more i n A.along.whole (omega arith) in
        record {
          along = along-right B room A.along r.1 r.2
              (right-sees A.along.good.wf p α v q A.along.covered.in_use A.along.covered.outer (s.mesh.links.next s.current) (covered-on Right A h));
          most = h;
          other = y;
        }

    -- it closes a corner
    pub turn-closes : (side : Side) {i o n : ℕ} {s : Walking} → AlongOn side i o n s → n < chain_on side
        → CornerClosed p s.mesh (walk_turn_of side room p s).mesh (face_edge side s.current (beside side s.mesh.links s.current))
    unfolding covers_left covers_right face_edge walk_turn_of
    turn-closes Left {i} {o} {n} {s} A h =
        let x = short in let y = A.other in let r = left-more n i A.along.whole (omega arith) in
        closes-left B room A.along r.1 r.2
        (left-sees A.along.good.wf p α v q A.along.covered.in_use A.along.covered.outer (s.mesh.links.prev s.current) (covered-on Left A h))
    turn-closes Right {i} {o} {n} {s} A h =
        let x = short in let y = A.other in let r = left-more i n A.along.whole (omega arith) in
        closes-right B room A.along r.1 r.2
        (right-sees A.along.good.wf p α v q A.along.covered.in_use A.along.covered.outer (s.mesh.links.next s.current) (covered-on Right A h))

    along-good : (side : Side) {i o n : ℕ} {s : Walking} → AlongOn side i o n s → Good s.mesh.counts s.mesh.links p
    along-good Left A = A.along.good
    along-good Right A = A.along.good

    -- ---- as many turns as are left of the chain are the loop, whatever fuel it has above the boundary's length
    ends-here : (side : Side) {i o n : ℕ} {s : Walking} → AlongOn side i o n s → n ≡ chain_on side → walk_ends_of side p α v q s ≡ true
    unfolding walk_ends_of
    ends-here side {s = s} A h = is_true _ (or_right s.mesh.full _ (stops-on side A h))

    ends-full : (side : Side) (s : Walking) → s.mesh.full ≡ true → walk_ends_of side p α v q s ≡ true
    unfolding walk_ends_of
    ends-full side s f = is_true _ (or_left s.mesh.full _ (from-true f))

    goes_on : (side : Side) {i o n : ℕ} {s : Walking} → AlongOn side i o n s → n < chain_on side
        → s.mesh.full ≡ false → walk_ends_of side p α v q s ≡ false
    unfolding walk_ends_of
    goes_on side {s = s} A h f =
        let z : covers side s.mesh.links p α v q (beside side s.mesh.links s.current) ≡ true = is_true _ (covered-on side A h) in
        rw (f, z) refl

    pub turns-until : (side : Side) (k : ℕ) {i o n : ℕ} {s : Walking} → AlongOn side i o n s → n + k ≡ chain_on side
        → (fuel : ℕ) → boundary_length s.mesh.counts s.mesh.links < fuel
        → until (walk_ends_of side p α v q) (walk_turn_of side room p) fuel s ≡ walk_turns side room p k s
    unfolding walk_turns
    turns-until side zero {s = s} A h fuel l = until-done (walk_ends_of side p α v q) (walk_turn_of side room p) fuel s (ends-here side A (omega arith))
    turns-until side (suc k) {i} {o} {n} {s} A h zero l = absurd (omega arith)
    turns-until side (suc k) {i} {o} {n} {s} A h (suc fuel) l = go (turns-until side k {n = suc n} {s = walk_turn_of side room p s}) s.mesh.full refl
      where
        go : (AlongOn side i o (suc n) (walk_turn_of side room p s) → suc n + k ≡ chain_on side → (fuel : ℕ) → boundary_length (walk_turn_of side room p s).mesh.counts (walk_turn_of side room p s).mesh.links < fuel
            → until (walk_ends_of side p α v q) (walk_turn_of side room p) fuel (walk_turn_of side room p s)
            ≡ walk_turns side room p k (walk_turn_of side room p s))
            → (t : Bool) → s.mesh.full ≡ t
            → until (walk_ends_of side p α v q) (walk_turn_of side room p) (suc fuel) s ≡ cond t s (walk_turns side room p k (walk_turn_of side room p s))
        go rest true f = until-done (walk_ends_of side p α v q) (walk_turn_of side room p) (suc fuel) s (ends-full side s f)
        go rest false f =
            let m : n < chain_on side = omega arith in
            let z = closed-length (along-good side A) (turn-closes side A m) in
            until-next (walk_ends_of side p α v q) (walk_turn_of side room p) fuel s (goes_on side A m f) ∙ rest (turn_on side A m) (omega arith) fuel (omega arith)

    -- THE LOOP: it makes as many turns as the chain has edges on its side
    pub walk-turns : (side : Side) {i o : ℕ} {s : Walking} → AlongOn side i o 0 s
        → walk side room p α v q s ≡ walk_turns side room p (chain_on side) s
    unfolding walk
    walk-turns side {s = s} A =
        let z = count-halves (along-good side A).wf in
        turns-until side (chain_on side) A (omega arith) (2 * s.mesh.counts.edges + 1) (omega arith)

    -- what it leaves: so many turns, all of them unless a flip was refused, and a corner closed at each
    pub record Turned (side : Side) (i o : ℕ) (s r : Walking) : Type 0 where
      pub count : ℕ
      pub on : AlongOn side i o count r
      pub all : r.mesh.full ≡ false → count ≡ chain_on side
      pub closings : Closings p s.mesh r.mesh

    pub turns-leave : (side : Side) (k : ℕ) {i o n : ℕ} {s : Walking} → AlongOn side i o n s → n + k ≡ chain_on side
        → Turned side i o s (walk_turns side room p k s)
    unfolding walk_turns
    turns-leave side zero {n = n} A h = record { count = n; on = A; all = λ f. omega arith; closings = none }
    turns-leave side (suc k) {i} {o} {n} {s} A h = go (turns-leave side k {n = suc n} {s = walk_turn_of side room p s}) s.mesh.full refl
      where
        go : (AlongOn side i o (suc n) (walk_turn_of side room p s) → suc n + k ≡ chain_on side → Turned side i o
            (walk_turn_of side room p s) (walk_turns side room p k (walk_turn_of side room p s)))
            → (t : Bool) → s.mesh.full ≡ t → Turned side i o s (cond t s (walk_turns side room p k (walk_turn_of side room p s)))
        go rest true f = record { count = n; on = A; all = λ g. absurd (false≢true (sym g ∙ f)); closings = none }
        go rest false f =
            let m : n < chain_on side = omega arith in
            let R = rest (turn_on side A m) (omega arith) in
            record { count = R.count; on = R.on; all = R.all; closings = closings-join (then none _ (turn-closes side A m)) R.closings }
