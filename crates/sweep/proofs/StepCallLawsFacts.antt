-- Laws of specs/StepCallLaws.antt.
use Rattle.std.specs.Prelude.{Bool, List, ◌⊎◌, ℕ, ◌+◌, ◌≤◌, Float, length, replicate, Ok, Err}
use Rattle.std.proofs.Math.Bool.{true, false}
use Rattle.std.proofs.lemmas.Bool.{false≢true}
use Rattle.std.proofs.Common.{inl, inr, ◌∙◌, arith}
use Rattle.std.proofs.Math.Path.{◌≡◌, refl, sym, ap, subst, subst⁻¹}
use Rattle.angle.specs.declared.Point2.{Point2}
use Rattle.angle.specs.Angle.{angle_about, turns}
use Rattle.apply.specs.Apply.{first_face}
use Rattle.corner.specs.Corner.{Extended}
use Rattle.corner.specs.CornerLaws.{Closings}
use Rattle.dcel.specs.MeshRows.{MeshRows, links_in, places_in, mesh_rows_from}
use Rattle.dcel.specs.Rows.{position_of}
use Rattle.dcel.specs.Views.{mesh-rows-same}
use Rattle.decide.specs.declared.Fate.{Fate}
use Rattle.decide.specs.declared.Fate.TheVariants.{Added, Dropped, NotLeft, Unsound, AtCenter}
use Rattle.decide.specs.Decide.{decided}
use Rattle.finish.specs.CallLeaves.{CallLeaves}
use Rattle.finish.specs.CallLeavesLaws.{links-back, places-back, call-leaves}
use Rattle.math.specs.declared.Point.{Point}
use Rattle.math.specs.Determinant.{InRange}
use Rattle.mesh.specs.declared.Counts.{Counts}
use Rattle.mesh.specs.Mesh.{Links}
use Rattle.mesh.specs.FlipRun.{FlipRun}
use Rattle.mesh.specs.Operations.{create_new_face_adjacent_to_edge, with_vertex}
use Rattle.mesh_check.specs.Checked.{Checked}
use Rattle.mesh_check.specs.declared.Refusal.{Refusal}
use Rattle.mesh_check.specs.Check.{vertex_count, point_count}
use Rattle.mesh_check.specs.CheckLaws.{NumberedTo}
use Rattle.ring.proofs.Boundary.{strict-ring}
use Rattle.ring.specs.Center.{turns_about}
use Rattle.ring.specs.Ring.{located}
use Rattle.ring_rows.specs.RingRows.{RingRows, ring_zeros}
use Rattle.start.specs.StartLaws.{AcceptedSweep, sweep-accepts, sweep-numbered}
use Rattle.sweep.specs.declared.Answer.{Answer}
use Rattle.sweep.specs.Stepped.{Stepped}
use Rattle.start.specs.Start.{point_row}
use Rattle.sweep.specs.StepCall.{StepOutcome, answer_from, step_checked, stepped_with, step_outcome, step_of}
use Rattle.sweep.proofs.Fates.{is-added}
use Rattle.sweep.specs.Step.{Stepping, answer_of, is_added, left_alone_of, added_at, applied_by, applied, step_mesh}
use Rattle.sweep.specs.StepMesh.{Swept, StepKeeps}
use Rattle.sweep.proofs.StepMeshLaws.{step_keeps, step-adds, step-alone, added_of}
use Rattle.sweep.specs.StepCallLaws.{Adds, StepAccepted, Stopped}

-- ---- the step keeps its decided fate, and a refused flip is one of an added point
fate-of : (room : ℕ) (cx cy : Float) (C : Counts) (L : Links) (p : ℕ → Point) (v : Point) (e : ℕ) (f : Fate)
    → (applied_by room cx cy C L p v e f).fate ≡ f
unfolding applied_by added_at left_alone_of
fate-of room cx cy C L p v e (Added n) = refl
fate-of room cx cy C L p v e Dropped = refl
fate-of room cx cy C L p v e NotLeft = refl
fate-of room cx cy C L p v e Unsound = refl
fate-of room cx cy C L p v e AtCenter = refl

module _ (room : ℕ) (cx cy : Float) (C : Counts) (L : Links) (p : ℕ → Point) (v : Point) where
  pub step-fate : (step_mesh room cx cy C L p v).fate ≡ (decided cx cy C L p v).fate
  unfolding step_mesh applied
  step-fate = fate-of room cx cy C L p v (decided cx cy C L p v).edge (decided cx cy C L p v).fate

  pub full-added : (step_mesh room cx cy C L p v).mesh.full ≡ true → is_added (decided cx cy C L p v).fate ≡ true
  unfolding left_alone_of
  full-added e = go (is_added (decided cx cy C L p v).fate) refl
    where
      go : (t : Bool) → is_added (decided cx cy C L p v).fate ≡ t → is_added (decided cx cy C L p v).fate ≡ true
      go true z = z
      go false z = absurd (false≢true (sym (ap (λ (s : Stepping). s.mesh.full) (step-alone room cx cy C L p v z)) ∙ e))

-- ---- the call
module _ (C : Counts) (m : MeshRows) (ring : RingRows) (pending : List ℕ) (center : Point2) (v : Point) where
  abbrev cx : Float
  cx = center.x

  abbrev cy : Float
  cy = center.y

  abbrev L : Links
  L = links_in m

  abbrev p : ℕ → Point
  p = places_in m

  abbrev s : Stepping
  s = step_mesh (length pending) cx cy C L p v

  abbrev checks : Checked
  checks = step_checked C m (length ring.nodes) (length ring.freed) (length ring.buckets) (length pending) center v

  abbrev whole : StepOutcome
  whole = step_of C m ring pending center v

  -- ---- the checks accept
  module _ (e : checks ≡ Ok tt) where
    abbrev R : StepOutcome
    R =
        stepped_with (answer_from 0 s)
        (mesh_rows_from m s.mesh.links s.positions) (ring_zeros ring) (replicate (length pending) 0)

    whole_is : whole ≡ R
    unfolding step_of step_outcome
    whole_is = rw e refl

    accepted : AcceptedSweep (point_row v) false C m
        (length ring.nodes) (length ring.freed) (length ring.buckets) (length pending) center
    unfolding step_checked
    accepted = sweep-accepts e

    range : InRange v
    unfolding point_count position_of
    range = accepted.start.mesh.range {i = 0} (omega arith)

    before : Swept cx cy C L p
    before =
        let G = accepted.start.mesh.good in
        record { good = G; center = accepted.start.center; sound = strict-ring G.wf (turns_about cx cy p) accepted.start.strict }

    -- what a step is given
    pub step_range : InRange v
    step_range = range

    pub step-swept : Swept cx cy C L p
    step-swept = before

    kept : StepKeeps cx cy C L p s
    kept = step_keeps before range (length pending)

    -- the rows hold the step's mesh
    most : s.mesh.counts.vertices ≤ vertex_count C (point_row v)
    unfolding vertex_count point_count
    most = kept.one_more

    links-are : links_in R.mesh ≡ s.mesh.links
    links-are = links-back m accepted.start.mesh.rows most kept.good kept.untouched kept.past

    places-are : places_in R.mesh ≡ s.positions
    places-are = places-back m accepted.start.mesh.rows most kept.good kept.untouched kept.past

    leaves : CallLeaves C m pending R.answer.counts R.mesh R.pending
    unfolding answer_from
    leaves = call-leaves m accepted.start.mesh.rows most kept.good kept.untouched kept.past C kept.places pending

    adds : {n : ℕ} → (decided cx cy C L p v).fate ≡ Added n → Adds C m pending center v R n s.mesh.faces s.mesh.flips
    unfolding answer_from
    adds {n} f =
        let K = step-adds before range (length pending) f in
        record {
          next = K.next;
          place = rw places-are K.place;
          counts = K.counts;
          edge = (decided cx cy C L p v).edge;
          located-edge = (is-added cx cy C L p v f).edge;
          first = rw places-are K.first;
          mesh = s.mesh;
          closings = rw places-are K.closings;
          links = sym links-are;
          faces = refl;
          flips = refl;
        }

    alone : is_added (decided cx cy C L p v).fate ≡ false
        → (R.answer.counts ≡ C) × (R.mesh ≡ m) × (s.mesh.faces ≡ 0) × (s.mesh.flips ≡ 0)
    unfolding answer_from left_alone_of
    alone f =
        let z = step-alone (length pending) cx cy C L p v f in (
          ap (λ (x : Stepping). x.mesh.counts) z,
          ap (λ (x : Stepping). mesh_rows_from m x.mesh.links x.positions) z ∙ mesh-rows-same m,
          ap (λ (x : Stepping). x.mesh.faces) z,
          ap (λ (x : Stepping). x.mesh.flips) z,
        )

    fate-is : s.fate ≡ (decided cx cy C L p v).fate
    fate-is = step-fate (length pending) cx cy C L p v

    done : s.mesh.full ≡ false → StepAccepted C m ring pending center v R (answer_of s)
    unfolding answer_from
    done f =
        record {
          leaves = leaves;
          ring-zero = refl;
          fate = fate-is;
          swept = rw (links-are, places-are) (kept.swept f);
          added = λ n z. adds (sym fate-is ∙ z);
          covered = λ n z. (step-adds before range (length pending) (sym fate-is ∙ z)).faces f;
          alone = λ z. alone (ap is_added (sym fate-is) ∙ z);
        }

    stopped : s.mesh.full ≡ true → Stopped C m ring pending center v R
    stopped f =
        let z = added_of (decided cx cy C L p v).fate (full-added (length pending) cx cy C L p v f) in
        record {
          leaves = leaves;
          ring-zero = refl;
          faces = s.mesh.faces;
          flips = s.mesh.flips;
          added = subst (λ (n : ℕ). Adds C m pending center v R n s.mesh.faces s.mesh.flips) (adds z.1).next (adds z.1);
        }

  -- ---- by what is answered
  -- accepted: the mesh is good, with the point as its next vertex where that was added
  pub step-accepted : (x : Answer) → (step_of C m ring pending center v).answer.stepped ≡ Ok x
      → StepAccepted C m ring pending center v (step_of C m ring pending center v) x
  unfolding answer_from step_of step_outcome
  step-accepted x e = by checks refl
    where
      at : (k : checks ≡ Ok tt) → (b : Bool) → s.mesh.full ≡ b → StepAccepted C m ring pending center v whole x
      at k true f =
          let y : Err (record { number = 9; place = 0 }) ≡ Ok x = sym (rw (whole_is k, f) refl) ∙ e in
          absurd (let z : ◌≡◌ {A = ℕ} 0 1 = cc in omega arith)
      at k false f =
          let y : Ok (answer_of s) ≡ Ok x = sym (rw (whole_is k, f) refl) ∙ e in
          let z : answer_of s ≡ x = cc in
          subst (StepAccepted C m ring pending center v whole) z
          (subst⁻¹ (λ (r : StepOutcome). StepAccepted C m ring pending center v r (answer_of s)) (whole_is k) (done k f))

      by : (c : Checked) → checks ≡ c → StepAccepted C m ring pending center v whole x
      by (Ok tt) k = at k s.mesh.full refl
      by (Err y) k =
          let z : Err y ≡ Ok x = rw k at e in
          absurd (let w : ◌≡◌ {A = ℕ} 0 1 = cc in omega arith)

  numbered : NumberedTo 7 checks
  unfolding step_checked
  numbered = sweep-numbered (point_row v) false C m _ _ _ _ center

  -- refused: by the checks, and 01: "All but 9 change nothing lent"; or before a flip whose pushes would overfill the pending list
  pub step-refused : (x : Refusal) → (step_of C m ring pending center v).answer.stepped ≡ Err x
      → (NumberedTo 7 (Err x) × (step_of C m ring pending center v
      ≡ stepped_with (record { counts = C; stepped = Err x }) m ring pending))
      ⊎ ((x.number ≡ 9) × (x.place ≡ 0) × Stopped C m ring pending center v (step_of C m ring pending center v))
  unfolding answer_from step_of step_outcome
  step-refused x e = by checks refl numbered
    where
      Wanted : Type 0
      Wanted =
          (NumberedTo 7 (Err x) × (whole ≡ stepped_with (record { counts = C; stepped = Err x }) m ring pending))
          ⊎ ((x.number ≡ 9) × (x.place ≡ 0) × Stopped C m ring pending center v whole)

      at : (k : checks ≡ Ok tt) → (b : Bool) → s.mesh.full ≡ b → Wanted
      at k true f =
          let y : Err (record { number = 9; place = 0 }) ≡ Err x = sym (rw (whole_is k, f) refl) ∙ e in
          let z : record { number = 9; place = 0 } ≡ x = cc in
          inr (
            ap (λ (r : Refusal). r.number) (sym z),
            ap (λ (r : Refusal). r.place) (sym z),
            subst⁻¹ (Stopped C m ring pending center v) (whole_is k) (stopped k f),
          )
      at k false f =
          let y : Ok (answer_of s) ≡ Err x = sym (rw (whole_is k, f) refl) ∙ e in
          absurd (let z : ◌≡◌ {A = ℕ} 0 1 = cc in omega arith)

      by : (c : Checked) → checks ≡ c → NumberedTo 7 c → Wanted
      by (Ok tt) k l = at k s.mesh.full refl
      by (Err y) k l =
          let z : Err y ≡ Err x = rw k at e in
          let w : y ≡ x = cc in
          inl (subst (λ (r : Refusal). NumberedTo 7 (Err r)) w l, rw (k, w) refl)
