-- Laws of specs/StepMesh.antt.
use Rattle.std.specs.Prelude.{Bool, true, false, not, ◌||◌, ◌⊎◌, ◌≡◌, ℕ, ◌+◌, ◌<◌, ◌≤◌, Float}
use Rattle.std.proofs.lemmas.Bool.{false≢true}
use Rattle.std.proofs.Common.{inl, inr, sym, ◌∙◌, subst, arith}
use Rattle.std.proofs.Math.Path.{refl, ap, subst⁻¹}
use Rattle.std.proofs.Math.Dec.{T, T_not, not_T}
use Rattle.angle.specs.Angle.{angle_about, at_center, valid_center, turns}
use Rattle.apply.specs.Apply.{Applied, first_face, add_turns}
use Rattle.apply.proofs.ApplyLaws.{add-turns, add-good, add-bound, add-counts, add-untouched, add-sound, add-along, add-closings, add-faces}
use Rattle.apply.proofs.FirstFace.{first_run}
use Rattle.apply.specs.Origins.{OldVertex}
use Rattle.apply.proofs.OriginsLaws.{along-origin}
use Rattle.apply.specs.Walks.{Before}
use Rattle.conflicts.specs.FlipsWithin.{FlipsWithin}
use Rattle.conflicts.proofs.FlipsWithinLaws.{within_none}
use Rattle.corner.specs.CornerLaws.{Closings}
use Rattle.corner.specs.Untouched.{Untouched, Grown, untouched-none}
use Rattle.decide.specs.declared.Fate.{Fate}
use Rattle.decide.specs.declared.Fate.TheVariants.{Added, Dropped, NotLeft, Unsound, AtCenter}
use Rattle.decide.specs.Decide.{decided}
use Rattle.math.specs.declared.Point.{Point}
use Rattle.math.specs.Determinant.{InRange}
use Rattle.mesh.specs.declared.Counts.{Counts}
use Rattle.mesh.specs.Mesh.{Links, In}
use Rattle.mesh.specs.Operations.{create_new_face_adjacent_to_edge, with_vertex}
use Rattle.mesh.specs.Area.{boundary_length, hull_edge}
use Rattle.mesh.proofs.BoundaryLaws.{first<, first-outer, boundary-below, boundary-outer}
use Rattle.mesh.specs.FlipRun.{FlipRun}
use Rattle.mesh.specs.Good.{Good}
use Rattle.mesh.specs.Wf.{Wf}
use Rattle.ring.specs.Ring.{is_sound_ring, located}
use Rattle.ring.proofs.Boundary.{located<, located-outer, outer-on}
use Rattle.ring.specs.Center.{turns_about, refuses_center}
use Rattle.ring.specs.Chain.{sees_edge, left_chain, right_chain}
use Rattle.sums.proofs.BitLaws.{sure, or_cases, or_left, or_right}
use Rattle.sums.specs.Bounded.{any_below}
use Rattle.sums.proofs.BoundedLaws.{any-below→, any-below←}
use Rattle.sums.specs.Put.{put}
use Rattle.sums.proofs.PutLaws.{put_same, put_other}
use Rattle.sweep.specs.Step.{Stepping, is_added, left_alone_of, added_at, applied_by, applied, step_mesh}
use Rattle.sweep.proofs.Fates.{IsAdded, is-added}
use Rattle.sweep.specs.StepMesh.{Swept, StepKeeps, StepAdds}

-- ---- the centre: no boundary vertex is there
module _ (cx cy : Float) {C : Counts} {L : Links} (p : ℕ → Point) (W : Wf C L) where
  -- the origin of a half-edge is at the centre
  abbrev meets : ℕ → Bool
  meets d = at_center (p (L.origin d)).x (p (L.origin d)).y cx cy

  off : Bool
  off = not (valid_center cx cy)

  any : Bool
  any = any_below (boundary_length C L) (λ k. meets (hull_edge L k))

  pub center-apart : T (not (refuses_center C L p cx cy)) → {d : ℕ} → In C d → L.face d ≡ 0 → T (meets d) → ⊥
  unfolding refuses_center off any
  center-apart ok {d} i o t =
      let g = outer-on W (first< W) (first-outer W) i o in
      T_not (off || any) ok (or_right off any (any-below← (boundary_length C L) (λ k. meets (hull_edge L k)) g.0 g.1 (subst (λ (x : ℕ). T (meets x)) (sym g.2) t)))

  pub center-valid : T (not (refuses_center C L p cx cy)) → T (valid_center cx cy)
  unfolding refuses_center off any
  center-valid ok = sure (valid_center cx cy) (λ t. T_not (off || any) ok (or_left off any t))

  pub center-accepts : T (valid_center cx cy) → ((d : ℕ) → In C d → L.face d ≡ 0 → T (meets d) → ⊥) → T (not (refuses_center C L p cx cy))
  unfolding refuses_center off any
  center-accepts ok apart = not_T (off || any) (λ t. go (or_cases off any t))
    where
      go : T off ⊎ T any → ⊥
      go (inl t) = T_not (valid_center cx cy) t ok
      go (inr t) = let r = any-below→ (boundary_length C L) (λ k. meets (hull_edge L k)) t in apart (hull_edge L r.0) (boundary-below W r.0) (boundary-outer W r.0) r.2

-- ---- a point that is added
module _ {cx cy : Float} {C : Counts} {L : Links} {p : ℕ → Point} (S : Swept cx cy C L p) {v : Point} (i : InRange v) where
  abbrev α : ℕ → ℕ
  α = turns_about cx cy p

  abbrev q : ℕ
  q = turns (angle_about v.x v.y cx cy)

  abbrev e : ℕ
  e = located C L α q

  -- the positions with the new vertex's
  abbrev p' : ℕ → Point
  p' = put p C.vertices v

  abbrev α'' : ℕ → ℕ
  α'' = turns_about cx cy p'

  old : (u : ℕ) → u < C.vertices → p' u ≡ p u
  old u l = put_other p C.vertices v u (λ z. omega arith)

  -- before a point goes in that is left of the located edge, whether its fate is 1 or 4
  pub seen-before : T (sees_edge L p v e) → Before C L p α p' α'' v q e
  unfolding turns_about
  seen-before t = record {
    good = S.good;
    edge = located< S.good.wf α S.sound q;
    outer = located-outer S.good.wf α S.sound q;
    seen = t;
    places = old;
    angles = λ u l. ap (λ (w : Point). turns (angle_about w.x w.y cx cy)) (old u l);
    new-place = put_same p C.vertices v;
    new-angle = ap (λ (w : Point). turns (angle_about w.x w.y cx cy)) (put_same p C.vertices v);
    range = i;
  }

  module _ {n : ℕ} (f : (decided cx cy C L p v).fate ≡ Added n) where
    A : IsAdded cx cy C L p v n (decided cx cy C L p v)
    A = is-added cx cy C L p v f

    pub step-before : Before C L p α p' α'' v q e
    step-before = seen-before A.seen

    module _ (room : ℕ) where
      -- the step, by the turns that were decided
      abbrev r : Applied
      r = add_turns room p' C L e (left_chain C L p α v q e) (right_chain C L p α v q e)

      pub step_added : step_mesh room cx cy C L p v ≡ record { fate = Added n; positions = p'; mesh = r.mesh }
      unfolding step_mesh applied applied_by added_at
      step_added = rw (f, A.edge, add-turns step-before room) refl

      -- the ring of the boundary that it leaves
      pub added-swept : r.mesh.full ≡ false → Swept cx cy r.mesh.counts r.mesh.links p'
      added-swept g = record {
        good = add-good step-before room;
        center = center-accepts cx cy p' (add-good step-before room).wf (center-valid cx cy p S.good.wf S.center)
            (λ d l o t. apart (along-origin step-before (add-along step-before room) l o) t);
        sound = subst⁻¹ T (add-sound step-before room g) A.sound;
      }
        where
          apart : {u : ℕ} → (u ≡ C.vertices) ⊎ OldVertex C L u → T (at_center (p' u).x (p' u).y cx cy) → ⊥
          apart (inl z) t =
              T_not (at_center v.x v.y cx cy) A.off-center (subst (λ (w : Point). T (at_center w.x w.y cx cy)) (ap p' z ∙ put_same p C.vertices v) t)
          apart (inr o) t =
              center-apart cx cy p S.good.wf S.center o.in_use o.outer
              (subst (λ (w : Point). T (at_center w.x w.y cx cy)) (ap p' o.is ∙ old (L.origin o.edge) (S.good.wf.ranges.origin< o.in_use)) t)

-- ---- a step of any fate, a refused flip too
-- added, or left alone. 01: "Fates 2 to 5 leave the mesh alone."
pub added_of : (f : Fate) → is_added f ≡ true → (n : ℕ) × (f ≡ Added n)
unfolding is_added
added_of (Added n) e = (n, refl)
added_of Dropped e = absurd (false≢true e)
added_of NotLeft e = absurd (false≢true e)
added_of Unsound e = absurd (false≢true e)
added_of AtCenter e = absurd (false≢true e)

alone_of : (room : ℕ) (cx cy : Float) (C : Counts) (L : Links) (p : ℕ → Point) (v : Point) (e : ℕ) (f : Fate) → is_added f ≡ false
    → applied_by room cx cy C L p v e f ≡ left_alone_of C L p f
unfolding is_added applied_by
alone_of room cx cy C L p v e (Added n) z = absurd (false≢true (sym z))
alone_of room cx cy C L p v e Dropped z = refl
alone_of room cx cy C L p v e NotLeft z = refl
alone_of room cx cy C L p v e Unsound z = refl
alone_of room cx cy C L p v e AtCenter z = refl

pub step-alone : (room : ℕ) (cx cy : Float) (C : Counts) (L : Links) (p : ℕ → Point) (v : Point) → is_added (decided cx cy C L p v).fate
    ≡ false
    → step_mesh room cx cy C L p v ≡ left_alone_of C L p (decided cx cy C L p v).fate
unfolding step_mesh applied
step-alone room cx cy C L p v z = alone_of room cx cy C L p v (decided cx cy C L p v).edge (decided cx cy C L p v).fate z

pub step_keeps : {cx cy : Float} {C : Counts} {L : Links} {p : ℕ → Point} → Swept cx cy C L p → {v : Point} → InRange v → (room : ℕ)
    → StepKeeps cx cy C L p (step_mesh room cx cy C L p v)
unfolding left_alone_of
step_keeps {cx} {cy} {C} {L} {p} S {v} i room = go (is_added (decided cx cy C L p v).fate) refl
  where
    alone : (f : Fate) → StepKeeps cx cy C L p (left_alone_of C L p f)
    alone f = record {
      good = S.good;
      untouched = untouched-none;
      bound = within_none;
      grown = record { vertices = omega arith; edges = omega arith; faces = omega arith };
      one_more = omega arith;
      places = λ u l. refl;
      past = λ u l. refl;
      swept = λ g. S;
    }

    go : (b : Bool) → is_added (decided cx cy C L p v).fate ≡ b → StepKeeps cx cy C L p (step_mesh room cx cy C L p v)
    go false z = subst⁻¹ (StepKeeps cx cy C L p) (step-alone room cx cy C L p v z) (alone (decided cx cy C L p v).fate)
    go true z =
        let f = (added_of (decided cx cy C L p v).fate z).1 in
        let B = step-before S i f in
        let k = ap (λ (K : Counts). K.vertices) (add-counts B room) in
        subst⁻¹ (StepKeeps cx cy C L p) (step_added S i f room) (record {
          good = add-good B room;
          untouched = add-untouched B room;
          bound = add-bound B room;
          grown = (let w = ap (λ (K : Counts). K.edges) (add-counts B room) in let z = ap (λ (K : Counts). K.faces) (add-counts B room) in
              record { vertices = omega arith; edges = omega arith; faces = omega arith });
          one_more = omega arith;
          places = λ u l. put_other p C.vertices v u (λ z. omega arith);
          past = λ u l. put_other p C.vertices v u (λ z. omega arith);
          swept = added-swept S i f room;
        })

pub step-adds : {cx cy : Float} {C : Counts} {L : Links} {p : ℕ → Point} → Swept cx cy C L p → {v : Point} → InRange v → (room : ℕ) {n : ℕ}
    → (decided cx cy C L p v).fate ≡ Added n
    → StepAdds room C L p v (decided cx cy C L p v).edge n (decided cx cy C L p v).left (decided cx cy C L p v).right
    (step_mesh room cx cy C L p v)
step-adds {cx} {cy} {C} {L} {p} S {v} i room {n} f =
    let B = step-before S i f in
    let A = is-added cx cy C L p v f in
    rw (step_added S i f room, A.edge, A.left, A.right) (record {
      fate = refl;
      next = A.next;
      place = ap (put p C.vertices v) A.next ∙ put_same p C.vertices v;
      counts = add-counts B room;
      first = first_run B room;
      closings = add-closings B room;
      faces = add-faces B room;
    })
