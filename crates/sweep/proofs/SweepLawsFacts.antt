-- Laws of specs/SweepLaws.antt.
use Rattle.std.specs.Prelude.{Bool, cond, ◌≡◌, Float, ◌⊎◌, T}
use Rattle.std.proofs.Math.Bool.{true, false}
use Rattle.std.proofs.lemmas.Bool.{false≢true}
use Rattle.std.proofs.Math.Path.{refl, subst⁻¹}
use Rattle.std.proofs.Common.{sym, ◌∙◌, ap, subst, inl, inr}
use Prim.Native.Nat.{ℕ, zero, suc, ◌+◌, ◌<◌, ◌≤◌}
use Rattle.std.proofs.Math.Decide.{ℕ_discrete}
use native.Mathlib.Omega.{arith}
use Rattle.corner.specs.Untouched.{Untouched, Grown, untouched-none, untouched-join}
use Rattle.decide.specs.declared.Fate.{Fate}
use Rattle.decide.specs.declared.Fate.TheVariants.{Added, Dropped}
use Rattle.decide.specs.Decide.{decided, at_end}
use Rattle.math.specs.declared.Point.{Point}
use Rattle.math.specs.Determinant.{InRange, is_position}
use Rattle.mesh.specs.declared.Counts.{Counts}
use Rattle.mesh.specs.Mesh.{Links, In, to}
use Rattle.mesh.specs.Good.{Good}
use Rattle.sweep.specs.Step.{Stepping, is_added, left_alone_of, step_mesh}
use Rattle.sweep.specs.StepMesh.{Swept, StepKeeps}
use Rattle.sweep.proofs.StepMeshLaws.{step_keeps, step-adds, step-alone, added_of}
use Rattle.sums.specs.Bit.{bit}
use Rattle.sums.proofs.BitLaws.{from-true, or_cases}
use Rattle.sums.specs.Bounded.{count}
use Rattle.sums.proofs.BoundedLaws.{count-suc, count-before}
use Rattle.sweep.specs.Run.{Sweeping, step_on, sweep_point, sweep_after, step_at}
use Rattle.sweep.proofs.Fates.{is-dropped}
use Rattle.sweep.proofs.StepCallLawsFacts.{step-fate}
use Rattle.math.proofs.Position.{same-position}
use Rattle.ring.specs.Ring.{located}
use Rattle.ring.proofs.Boundary.{located<}
use Rattle.ring.specs.Center.{turns_about}
use Rattle.angle.specs.Angle.{turns, angle_about}
use Rattle.mesh.specs.Triangle.{rev-in}
use Rattle.sweep.specs.SweepLaws.{SweepKeeps}

-- ---- fates
added-same : {m v : ℕ} → Added m ≡ Added v → m ≡ v
added-same e = cc

is-added-added : (v : ℕ) → is_added (Added v) ≡ true
unfolding is_added
is-added-added v = refl

-- ---- one point
-- how a step that is made changes the state
pub sweep-point : (room : ℕ) (cx cy : Float) (s : Sweeping) (v : Point) → s.full ≡ false
    → (let t = step_on room cx cy s v in
    sweep_point room cx cy s v
    ≡ record { counts = t.mesh.counts; links = t.mesh.links; positions = t.positions; answered = cond t.mesh.full s.answered (suc s.answered); full = t.mesh.full })
unfolding sweep_point
sweep-point room cx cy s v f = rw f refl

pub sweep-stays : (room : ℕ) (cx cy : Float) (s : Sweeping) (v : Point) → s.full ≡ true → sweep_point room cx cy s v ≡ s
unfolding sweep_point
sweep-stays room cx cy s v f = rw f refl

-- the vertices that a step adds: one, or none
pub step_count : {cx cy : Float} {C : Counts} {L : Links} {p : ℕ → Point} → Swept cx cy C L p → {v : Point} → InRange v → (room : ℕ)
    → (step_mesh room cx cy C L p v).mesh.counts.vertices ≡ C.vertices + bit (is_added (step_mesh room cx cy C L p v).fate)
unfolding left_alone_of
step_count {cx} {cy} {C} {L} {p} S {v} i room = go (is_added (decided cx cy C L p v).fate) refl
  where
    go : (b : Bool) → is_added (decided cx cy C L p v).fate ≡ b → (step_mesh room cx cy C L p v).mesh.counts.vertices
        ≡ C.vertices + bit (is_added (step_mesh room cx cy C L p v).fate)
    go true z =
        let n = added_of (decided cx cy C L p v).fate z in
        let A = step-adds S i room n.1 in
        let k = ap (λ (K : Counts). K.vertices) A.counts in
        let b = ap (λ (f : Fate). bit (is_added f)) (A.fate ∙ sym n.1) ∙ ap bit z in
        omega arith
    go false z =
        let b = ap (λ (s : Stepping). bit (is_added s.fate)) (step-alone room cx cy C L p v z) ∙ ap bit z in
        let k = ap (λ (s : Stepping). s.mesh.counts.vertices) (step-alone room cx cy C L p v z) in
        omega arith

-- a point that is left alone is not added
alone-not : (room : ℕ) (cx cy : Float) (C : Counts) (L : Links) (p : ℕ → Point) (v : Point) → is_added (decided cx cy C L p v).fate ≡ false
    → is_added (step_mesh room cx cy C L p v).fate ≡ false
unfolding left_alone_of
alone-not room cx cy C L p v z = ap (λ (s : Stepping). is_added s.fate) (step-alone room cx cy C L p v z) ∙ z

-- fate 2 is that of a point at a vertex in use
dropped-here : {cx cy : Float} {C : Counts} {L : Links} {p : ℕ → Point} → Swept cx cy C L p → (room : ℕ) (v : Point)
    → (step_mesh room cx cy C L p v).fate ≡ Dropped → (u : ℕ) × (u < C.vertices) × (p u ≡ v)
unfolding at_end
dropped-here {cx} {cy} {C} {L} {p} S room v z =
    go (or_cases (is_position v (p (L.origin e))) (is_position v (p (to L e)))
    (is-dropped cx cy C L p v (sym (step-fate room cx cy C L p v) ∙ z)))
  where
    e : ℕ
    e = located C L (turns_about cx cy p) (turns (angle_about v.x v.y cx cy))

    used : In C e
    used = located< S.good.wf (turns_about cx cy p) S.sound (turns (angle_about v.x v.y cx cy))

    go : T (is_position v (p (L.origin e))) ⊎ T (is_position v (p (to L e))) → (u : ℕ) × (u < C.vertices) × (p u ≡ v)
    go (inl t) = (L.origin e, S.good.wf.ranges.origin< used, sym (same-position v (p (L.origin e)) t))
    go (inr t) = (to L e, S.good.wf.ranges.origin< (rev-in C used), sym (same-position v (p (to L e)) t))

module _ (room : ℕ) {cx cy : Float} {C : Counts} {L : Links} {p : ℕ → Point} (S : Swept cx cy C L p) (point : ℕ → Point) where
  abbrev after : ℕ → Sweeping
  after n = sweep_after room cx cy C L p point n

  abbrev steps : ℕ → Stepping
  steps i = step_at room cx cy C L p point i

  abbrev adds : ℕ → Bool
  adds i = is_added (steps i).fate

  -- one more point, where no flip was refused before it
  module _ {n : ℕ} (K : SweepKeeps room cx cy C L p point n (after n)) (f : (after n).full ≡ false) (i : InRange (point n)) where
    abbrev t : Stepping
    t = steps n

    T' : StepKeeps cx cy (after n).counts (after n).links (after n).positions t
    T' = step_keeps (K.swept f) i room

    number' : t.mesh.counts.vertices ≡ C.vertices + count (suc n) adds
    number' = let a = step_count (K.swept f) i room in let b = K.number f in let c = count-suc n adds in omega arith

    -- the step of point n added v
    newest : (v : ℕ) → t.fate ≡ Added v → (v ≡ C.vertices + count n adds) × (t.positions v ≡ point n)
    newest v z = go (is_added (decided cx cy (after n).counts (after n).links (after n).positions (point n)).fate) refl
      where
        go : (b : Bool) → is_added (decided cx cy (after n).counts (after n).links (after n).positions (point n)).fate ≡ b
            → (v ≡ C.vertices + count n adds) × (t.positions v ≡ point n)
        go true k =
            let m = added_of (decided cx cy (after n).counts (after n).links (after n).positions (point n)).fate k in
            let A = step-adds (K.swept f) i room m.1 in
            let w : m.0 ≡ v = added-same (sym A.fate ∙ z) in
            ((let a = A.next in let b = K.number f in omega arith), subst (λ (u : ℕ). t.positions u ≡ point n) w A.place)
        go false k = absurd (false≢true (sym (alone-not room cx cy (after n).counts (after n).links (after n).positions (point n) k) ∙ ap is_added z ∙ is-added-added v))

    added' : (j v : ℕ) → j < suc n → (steps j).fate ≡ Added v → (v ≡ C.vertices + count j adds) × (t.positions v ≡ point j)
    added' j v l z = go (ℕ_discrete j n)
      where
        go : Dec (j ≡ n) → (v ≡ C.vertices + count j adds) × (t.positions v ≡ point j)
        go (yes e) = subst (λ (k : ℕ). (v ≡ C.vertices + count k adds) × (t.positions v
            ≡ point k)) (sym e) (newest v (subst (λ (k : ℕ). (steps k).fate ≡ Added v) e z))
        go (no d) =
            let r = K.added f j v (omega arith) z in
            let c = count-before j n adds (omega arith) (from-true (ap is_added z ∙ is-added-added v)) in
            let b = K.number f in
            (r.0, T'.places v (let a = r.0 in omega arith) ∙ r.1)

    -- a point that was dropped is at a vertex, which stays
    dropped' : (j : ℕ) → j < suc n → (steps j).fate ≡ Dropped → (u : ℕ) × (u < t.mesh.counts.vertices) × (t.positions u ≡ point j)
    dropped' j l z = go (ℕ_discrete j n)
      where
        stays : (u : ℕ) × (u < (after n).counts.vertices) × ((after n).positions u ≡ point j)
            → (u : ℕ) × (u < t.mesh.counts.vertices) × (t.positions u ≡ point j)
        stays (u, a, b) = (u, (let g = T'.grown.vertices in omega arith), T'.places u a ∙ b)

        go : Dec (j ≡ n) → (u : ℕ) × (u < t.mesh.counts.vertices) × (t.positions u ≡ point j)
        go (yes e) =
            stays (subst (λ (k : ℕ). (u : ℕ) × (u < (after n).counts.vertices) × ((after n).positions u ≡ point k)) (sym e)
            (dropped-here (K.swept f) room (point n) (subst (λ (k : ℕ). (steps k).fate ≡ Dropped) e z)))
        go (no d) = stays (K.dropped f j (omega arith) z)

    one_more : SweepKeeps room cx cy C L p point (suc n)
        (record { counts = t.mesh.counts; links = t.mesh.links; positions = t.positions; answered = cond t.mesh.full (after n).answered (suc (after n).answered); full = t.mesh.full })
    one_more = record {
      good = T'.good;
      untouched = untouched-join T'.grown K.untouched T'.untouched;
      grown = (let a = K.grown in let b = T'.grown in record { vertices = (let x = a.vertices in let y = b.vertices in omega arith); edges = (let x = a.edges in let y = b.edges in omega arith); faces = (let x = a.faces in let y = b.faces in omega arith) });
      most = (let a = K.most in let b = T'.one_more in omega arith);
      answered-most = answers t.mesh.full;
      places = λ u l. T'.places u (let a = K.grown.vertices in omega arith) ∙ K.places u l;
      past = λ u l. T'.past u l ∙ K.past u (let a = T'.grown.vertices in omega arith);
      swept = T'.swept;
      answered = λ g. rw g (ap suc (K.answered f));
      number = λ g. number';
      added = λ g. added';
      dropped = λ g. dropped';
    }
      where
        answers : (b : Bool) → cond b (after n).answered (suc (after n).answered) ≤ suc n
        answers true = let a = K.answered-most in omega arith
        answers false = let a = K.answered-most in omega arith

  -- BY INDUCTION OVER THE LIST
  pub sweep-keeps : (n : ℕ) → ((i : ℕ) → i < n → InRange (point i)) → SweepKeeps room cx cy C L p point n (after n)
  unfolding sweep_after count
  sweep-keeps zero range = record {
    good = S.good;
    untouched = untouched-none;
    grown = record { vertices = omega arith; edges = omega arith; faces = omega arith };
    most = omega arith;
    answered-most = omega arith;
    places = λ u l. refl;
    past = λ u l. refl;
    swept = λ g. S;
    answered = λ g. refl;
    number = λ g. start;
    added = λ g i v l. absurd (omega arith);
    dropped = λ g i l. absurd (omega arith);
  }
    where
      start : C.vertices ≡ C.vertices + count 0 adds
      start = omega arith
  sweep-keeps (suc n) range = go (after n).full refl (sweep-keeps n (λ i l. range i (omega arith)))
    where
      go : (b : Bool) → (after n).full ≡ b → SweepKeeps room cx cy C L p point n (after n)
          → SweepKeeps room cx cy C L p point (suc n) (sweep_point room cx cy (after n) (point n))
      go false f K = subst⁻¹ (SweepKeeps room cx cy C L p point (suc n)) (sweep-point room cx cy (after n) (point n) f) (one_more K f (range n (omega arith)))
      go true f K = subst⁻¹ (SweepKeeps room cx cy C L p point (suc n)) (sweep-stays room cx cy (after n) (point n) f) (record {
        good = K.good;
        untouched = K.untouched;
        grown = K.grown;
        most = (let a = K.most in omega arith);
        answered-most = (let a = K.answered-most in omega arith);
        places = K.places;
        past = K.past;
        swept = K.swept;
        answered = λ g. absurd (false≢true (sym g ∙ f));
        number = λ g. absurd (false≢true (sym g ∙ f));
        added = λ g. absurd (false≢true (sym g ∙ f));
        dropped = λ g. absurd (false≢true (sym g ∙ f));
      })
