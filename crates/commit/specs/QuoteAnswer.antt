-- A quote beside the step: its fate and faces are those of the step's answer, for every pending row with which the step is accepted
-- (`quote-answer`), and where it is refused 9 they are what it has decided (`quote-nine`). No check refuses 9. Assumes nothing.
use Rattle.std.specs.Prelude.{Bool, true, false, cond, List, [], ◌∷◌, ◌≢◌, ◌≡◌, ℕ, ◌+◌, ◌<◌, ℤ, length, Ok, Err}
use Rattle.std.proofs.Math.Path.{refl}
use Rattle.std.proofs.Common.{sym, ◌∙◌, ap, subst, arith}
use Rattle.angle.specs.declared.Point2.{Point2}
use Rattle.ask.specs.Ask.{faces_of, quote_from, quote_of, point_checked}
use Rattle.dcel.specs.MeshRows.{links_in, places_in}
use Rattle.decide.specs.declared.Fate.{Fate}
use Rattle.decide.specs.declared.Fate.TheVariants.{Added, Dropped, NotLeft, Unsound, AtCenter}
use Rattle.decide.specs.Decide.{Decided, decided, fate_number, if_added}
use Rattle.heights.specs.Heights.{SurfaceRows, heights_lent, check_ten, any_heights_outside, heights_checked}
use Rattle.locate.proofs.StartLaws.{start-numbered}
use Rattle.math.specs.declared.Point.{Point}
use Rattle.mesh.specs.declared.Counts.{Counts}
use Rattle.mesh_check.specs.Checked.{Checked}
use Rattle.mesh_check.specs.declared.Refusal.{Refusal}
use Rattle.mesh_check.specs.Check.{refused, and_then, range_with}
use Rattle.mesh_check.specs.CheckLaws.{NumberedTo}
use Rattle.mesh_check.proofs.CheckLawsFacts.{numbered-at, range-numbered, then-accepts}
use Rattle.ring_rows.specs.RingRows.{RingRows}
use Rattle.start.specs.Start.{point_row}
use Rattle.surface.specs.Surface.{SurfaceStepped, surface_stepped, surface_step_checked, surface_step, heights_after}
use Rattle.sweep.specs.declared.Answer.{Answer}
use Rattle.sweep.specs.declared.StepAnswer.{StepAnswer}
use Rattle.sweep.specs.Stepped.{Stepped}
use Rattle.sweep.specs.Step.{Stepping, answer_of, is_added, step_mesh}
use Rattle.sweep.specs.StepCall.{StepOutcome, answer_from, step_checked, stepped_with, step_outcome, step_of}
use Rattle.sweep.specs.StepCallLaws.{StepAccepted}
use Rattle.sweep.proofs.StepCallLawsFacts.{step-accepted, full-added}
use Rattle.sweep.proofs.StepMeshLaws.{added_of}
use Rattle.commit.specs.CommitParts.{step-point}

-- ---- no check refuses 9: that comes out of the work alone
abbrev Never : Checked → Type 0
Never c = (r : Refusal) → c ≡ Err r → r.number ≢ 9

then_never : (a : Checked) {b : Checked} → Never a → Never b → Never (and_then a b)
unfolding and_then
then_never (Ok _) f g = g
then_never (Err x) f g = f

numbered-never : {n : ℕ} {c : Checked} → n < 9 → NumberedTo n c → Never c
numbered-never {n} l N r e k = let z = (numbered-at (subst (NumberedTo n) e N)).1 in absurd (omega arith)

refused-never : {number : ℕ} → number ≢ 9 → Never (refused number 0)
refused-never {number} d r e k =
    let z : ◌≡◌ {A = ℕ} number r.number = cc in
    d (z ∙ k)

cond-never : (t : Bool) {a b : Checked} → Never a → Never b → Never (cond t a b)
cond-never true f g = f
cond-never false f g = g

accepted-never : Never (Ok tt)
accepted-never r e k = absurd (let z : ◌≡◌ {A = ℕ} 0 1 = cc in omega arith)

point-never : (short : Bool) (C : Counts) (s : SurfaceRows) (center : Point2) (v : Point) (z : ℤ) → Never (point_checked short C s center v z)
unfolding point_checked heights_checked check_ten range_with
point-never short C s center v z =
    then_never _
    (then_never _ (numbered-never {n = 3} (omega arith) (range-numbered _ _ _))
    (cond-never (any_heights_outside (heights_lent (point_row v) (z ∷ []) short false) C s.heights)
    (refused-never {number = 10} (λ e. omega arith)) accepted-never))
    (numbered-never {n = 7} (omega arith) (start-numbered (point_row v) short C s.mesh center))

-- ---- the step beside which a quote stands
module _ (C : Counts) (s : SurfaceRows) (ring : RingRows) (pending : List ℕ) (center : Point2) (v : Point) (z : ℤ) where
  abbrev pub step_checks : Checked
  step_checks =
      surface_step_checked C s (length ring.nodes) (length ring.freed) (length ring.buckets) (length pending) center v z

  abbrev pub made : Stepping
  made = step_mesh (length pending) center.x center.y C (links_in s.mesh) (places_in s.mesh) v

  abbrev pub told : Decided
  told = decided center.x center.y C (links_in s.mesh) (places_in s.mesh) v

  pub step-never : (r : Refusal) → step_checks ≡ Err r → r.number ≢ 9
  step-never = subst Never (sym (step-point C s _ _ _ _ center v z)) (point-never _ C s center v z)

  pub step-none : {r : Refusal} → step_checks ≡ Err r
      → surface_step C s ring pending center v z
      ≡ surface_stepped (stepped_with (record { counts = C; stepped = Err r }) s.mesh ring pending) s.heights
  unfolding surface_step step_outcome heights_after
  step-none e = rw e refl

  module _ (e : step_checks ≡ Ok tt) where
    pub mesh-accepts : step_checked C s.mesh (length ring.nodes) (length ring.freed) (length ring.buckets) (length pending) center v
        ≡ Ok tt
    unfolding surface_step_checked
    mesh-accepts = (then-accepts _ _ e).1

    call-is : (surface_step C s ring pending center v z).call ≡ step_of C s.mesh ring pending center v
    unfolding surface_step step_of step_outcome
    call-is = rw (e, mesh-accepts) refl

    pub answer-is : (surface_step C s ring pending center v z).call.answer ≡ answer_from 0 made
    unfolding surface_step step_outcome
    answer-is = rw e refl

  -- what is accepted is accepted by the checks, and so is 9
  step-passed : {x : Answer} → (surface_step C s ring pending center v z).call.answer.stepped ≡ Ok x → step_checks ≡ Ok tt
  step-passed {x} e = go step_checks refl
    where
      go : (c : Checked) → step_checks ≡ c → step_checks ≡ Ok tt
      go (Ok tt) k = k
      go (Err r) k =
          let w : Err r ≡ Ok x = ap (λ (y : SurfaceStepped). y.call.answer.stepped) (sym (step-none k)) ∙ e in
          absurd (let n : ◌≡◌ {A = ℕ} 0 1 = cc in omega arith)

  step-nine : {r : Refusal} → (surface_step C s ring pending center v z).call.answer.stepped ≡ Err r → r.number ≡ 9
      → step_checks ≡ Ok tt
  step-nine {r} e n = go step_checks refl
    where
      go : (c : Checked) → step_checks ≡ c → step_checks ≡ Ok tt
      go (Ok tt) k = k
      go (Err x) k =
          let w : Err x ≡ Err r = ap (λ (y : SurfaceStepped). y.call.answer.stepped) (sym (step-none k)) ∙ e in
          let i : ◌≡◌ {A = ℕ} x.number r.number = cc in
          absurd (step-never x k (i ∙ n))

  -- by whether a flip was refused
  pub answered : (b : Bool) → made.mesh.full ≡ b → (answer_from 0 made).stepped
      ≡ cond b (Err (record { number = 9; place = 0 })) (Ok (answer_of made))
  unfolding answer_from
  answered b k = rw k refl

  -- A QUOTE TELLS THE STEP'S ANSWER: its fate and faces, whatever the flips, for every row of pending entries with which it is accepted
  pub quote-answer : (changes : ℕ) (x : Answer) → (surface_step C s ring pending center v z).call.answer.stepped ≡ Ok x
      → ((quote_of changes C s.mesh center v z).fate ≡ fate_number x.fate) × ((quote_of changes C s.mesh center v z).faces ≡ x.faces)
  unfolding quote_of quote_from faces_of if_added is_added
  quote-answer changes x e = (ap fate_number (sym A.fate), go x.fate refl)
    where
      A : StepAccepted C s.mesh ring pending center v (step_of C s.mesh ring pending center v) x
      A =
          step-accepted C s.mesh ring pending center v x
          (ap (λ (y : StepOutcome). y.answer.stepped) (sym (call-is (step-passed e))) ∙ e)

      go : (f : Fate) → x.fate ≡ f → if_added told.fate (told.left + 1 + told.right) ≡ x.faces
      go (Added n) k = rw (sym A.fate ∙ k) (sym (A.covered n k))
      go Dropped k = rw (sym A.fate ∙ k) (sym (A.alone (ap is_added k)).2)
      go NotLeft k = rw (sym A.fate ∙ k) (sym (A.alone (ap is_added k)).2)
      go Unsound k = rw (sym A.fate ∙ k) (sym (A.alone (ap is_added k)).2)
      go AtCenter k = rw (sym A.fate ∙ k) (sym (A.alone (ap is_added k)).2)

  -- and where the step is refused 9, it has the same decision: added, with a face for the located edge and for each edge that its walks cover
  pub quote-nine : (changes : ℕ) (r : Refusal) → (surface_step C s ring pending center v z).call.answer.stepped ≡ Err r
      → r.number ≡ 9
      → ((quote_of changes C s.mesh center v z).fate ≡ 1)
      × ((quote_of changes C s.mesh center v z).faces
      ≡ (let D = decided center.x center.y C (links_in s.mesh) (places_in s.mesh) v in D.left + 1 + D.right))
  unfolding quote_of quote_from faces_of if_added fate_number
  quote-nine changes r e n = go made.mesh.full refl
    where
      k : step_checks ≡ Ok tt
      k = step-nine e n

      go : (b : Bool) → made.mesh.full ≡ b
          → (fate_number told.fate ≡ 1) × (if_added told.fate (told.left + 1 + told.right) ≡ told.left + 1 + told.right)
      go true f =
          let a = added_of told.fate (full-added (length pending) center.x center.y C (links_in s.mesh) (places_in s.mesh) v f) in
          (rw a.1 refl, rw a.1 refl)
      go false f =
          let w : Ok (answer_of made) ≡ Err r = sym (answered false f) ∙ sym (ap (λ (y : StepAnswer). y.stepped) (answer-is k)) ∙ e in
          absurd (let i : ◌≡◌ {A = ℕ} 0 1 = cc in omega arith)
