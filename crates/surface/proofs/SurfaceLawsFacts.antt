-- Laws of specs/SurfaceLaws.antt.
use Rattle.std.specs.Prelude.{Bool, false, ◌≡◌, ℕ, ◌+◌, ◌<◌, ◌≤◌, ltb, Float, ℤ, pos, length, get_or, Ok, Err}
use Rattle.std.proofs.Math.Bool.{cond}
use mathlib.Core.List.{List, [], ◌∷◌}
use Rattle.std.proofs.Math.Path.{refl, sym, ap}
use Rattle.std.proofs.Common.{◌∙◌, lt-ltb, le-ltb}
use Rattle.std.proofs.Math.Decide.{dec_lt}
use native.Mathlib.Omega.{arith}
use Rattle.std.proofs.Math.ListN.{get_or-eq_default}
use Rattle.angle.specs.declared.Point2.{Point2}
use Rattle.dcel.specs.MeshRows.{MeshRows, links_in, places_in}
use Rattle.dcel.specs.Rows.{row_from_of}
use Rattle.dcel.specs.Views.{length_from, get_or-from, from_entries}
use Rattle.decide.specs.declared.Fate.{Fate}
use Rattle.decide.specs.declared.Fate.TheVariants.{Added, Dropped, NotLeft, Unsound, AtCenter}
use Rattle.finish.specs.Finished.{Finished}
use Rattle.finish.specs.Finish.{finished_with, finish_outcome, finish_of, seed_checked}
use Rattle.heights.specs.Heights.{SurfaceRows, surface_rows, height_of, heights_in, HeightsLent, heights_lent, HeightsGiven, heights_checked, heights_tested}
use Rattle.heights.proofs.HeightsLaws.{heights-accept, given-tested, tested-accept, own-table, own-refused}
use Rattle.locate.specs.Located.{Located}
use Rattle.locate.specs.Locate.{ring_short, check_ring, check_start, check_angle, located_with, locate_outcome, locate_of}
use Rattle.math.specs.declared.Point.{Point}
use Rattle.math.specs.Determinant.{InRange}
use Rattle.mesh.specs.declared.Counts.{Counts}
use Rattle.mesh.specs.Mesh.{Links}
use Rattle.mesh_check.specs.Checked.{Checked}
use Rattle.mesh_check.specs.declared.Refusal.{Refusal}
use Rattle.mesh_check.specs.Check.{and_then, check_with, point_count, vertex_count}
use Rattle.mesh_check.proofs.CheckLawsFacts.{then-accepts}
use Rattle.ring_rows.specs.RingRows.{RingRows}
use Rattle.start.specs.Start.{point_row, sweep_rows_short, sweep_checked}
use Rattle.sums.specs.Bit.{bit}
use Rattle.sums.specs.Put.{put}
use Rattle.sums.proofs.PutLaws.{put_same, put_other}
use Rattle.sweep.specs.declared.StepAnswer.{StepAnswer}
use Rattle.sweep.specs.Stepped.{Stepped}
use Rattle.sweep.proofs.Fates.{is-added}
use Rattle.sweep.specs.Step.{Stepping, is_added, step_mesh}
use Rattle.sweep.proofs.StepCallLawsFacts.{step-fate, step_range, step-swept}
use Rattle.sweep.specs.StepMesh.{Swept}
use Rattle.sweep.proofs.SweepLawsFacts.{step_count}
use Rattle.sweep.specs.StepCall.{answer_from, step_checked, stepped_with, step_outcome, step_of}
use Rattle.surface.specs.StoredHeights.{height_stored}
use Rattle.surface.specs.Surface.{height_added, heights_after, SurfaceStepped, surface_stepped}
use Rattle.surface.specs.Surface.{surface_locate, surface_finish, surface_step_checked, surface_step}
use Rattle.surface.specs.SurfaceLaws.{CarriedHeight}

-- ---- a call's own table, which begins with the rows of its mesh
then-alone : (c : Checked) → and_then c (Ok tt) ≡ c
unfolding and_then
then-alone (Ok _) = refl
then-alone (Err r) = refl

then-both : (a b c : Checked) → and_then (and_then a b) c ≡ and_then a (and_then b c)
unfolding and_then
then-both (Ok _) b c = refl
then-both (Err r) b c = refl

-- ---- locate
module _ (C : Counts) (s : SurfaceRows) (ring : RingRows) (center : Point2) (a : Float) where
  abbrev pub locate_lent : HeightsLent
  locate_lent = heights_lent [] [] (ring_short C.vertices ring) false

  abbrev locate_next : Checked
  locate_next = and_then (check_ring C (links_in s.mesh) (places_in s.mesh) center.x center.y) (check_angle a)

  locate-begins : and_then (check_start [] (ring_short C.vertices ring) C s.mesh center) (check_angle a)
      ≡ and_then (check_with [] (ring_short C.vertices ring) C s.mesh) locate_next
  unfolding check_start
  locate-begins = then-both (check_with [] (ring_short C.vertices ring) C s.mesh) _ (check_angle a)

  pub locate-own : heights_tested locate_lent C s ≡ Ok tt → surface_locate C s ring center a ≡ locate_of C s.mesh ring center a
  unfolding surface_locate locate_of
  locate-own e = rw (own-table locate_lent C s locate_next locate-begins e) refl

  pub locate-refused : {r : Refusal} → heights_tested locate_lent C s ≡ Err r
      → surface_locate C s ring center a ≡ located_with (Err r) ring
  unfolding surface_locate locate_outcome
  locate-refused e = rw (own-refused locate_lent C s locate_next locate-begins e) refl

-- ---- finish
module _ (C : Counts) (s : SurfaceRows) (pending : List ℕ) where
  abbrev pub finish_lent : HeightsLent
  finish_lent = heights_lent [] [] (ltb (length pending) 8) false

  finish-begins : seed_checked C s.mesh pending ≡ and_then (check_with [] (ltb (length pending) 8) C s.mesh) (Ok tt)
  unfolding seed_checked
  finish-begins = sym (then-alone _)

  pub finish-own : heights_tested finish_lent C s ≡ Ok tt → surface_finish C s pending ≡ finish_of C s.mesh pending
  unfolding surface_finish finish_of
  finish-own e = rw (own-table finish_lent C s (Ok tt) finish-begins e) refl

  pub finish-refused : {r : Refusal} → heights_tested finish_lent C s ≡ Err r
      → surface_finish C s pending ≡ finished_with (record { counts = C; finished = Err r }) s.mesh pending
  unfolding surface_finish finish_outcome
  finish-refused e = rw (own-refused finish_lent C s (Ok tt) finish-begins e) refl

added-bit : (n : ℕ) → bit (is_added (Added n)) ≡ 1
unfolding is_added
added-bit n = refl

-- ---- a row of heights, from its function
heights-from : (row row' : List ℤ) {h : ℕ → ℤ} → length row' ≡ length row → height_of row' ≡ h → row' ≡ row_from_of (length row) h
unfolding height_of
heights-from row row' {h} l e =
    from_entries row' h (pos 0) (λ i. ap (λ (f : ℕ → ℤ). f i) e) ∙ ap (λ (n : ℕ). row_from_of n h) l

heights-same : (row row' : List ℤ) → length row' ≡ length row → height_of row' ≡ height_of row → row' ≡ row
heights-same row row' l e = heights-from row row' l e ∙ sym (heights-from row row refl refl)

-- what a row is that holds h where the checks accept, and is as it was where not
pub heights-after : (c : Checked) (row row' : List ℤ) {h : ℕ → ℤ} → length row' ≡ length row
    → ((r : Refusal) → c ≡ Err r → height_of row' ≡ height_of row) → (c ≡ Ok tt → height_of row' ≡ h)
    → row' ≡ heights_after c row h
unfolding heights_after
heights-after (Err r) row row' l a b = heights-same row row' l (a r refl)
heights-after (Ok _) row row' l a b = heights-from row row' l (b refl)

-- ---- step
-- a step adds a vertex exactly where its fate says so, the next one
module _ {cx cy : Float} {C : Counts} {L : Links} {p : ℕ → Point} (S : Swept cx cy C L p) {v : Point} (i : InRange v) (room : ℕ) where
  abbrev t : Stepping
  t = step_mesh room cx cy C L p v

  pub height-step : (h : ℕ → ℤ) (z : ℤ) → height_stored h C.vertices t.mesh.counts.vertices z ≡ height_added t.fate z h
  unfolding height_stored height_added is_added
  height-step h z = go t.fate refl (step_count S i room)
    where
      go : (f : Fate) → t.fate ≡ f → t.mesh.counts.vertices ≡ C.vertices + bit (is_added f)
          → cond (ltb C.vertices t.mesh.counts.vertices) (put h C.vertices z) h ≡ height_added f z h
      go (Added n) e k =
          let next : n ≡ C.vertices = (is-added cx cy C L p v (sym (step-fate room cx cy C L p v) ∙ e)).next in
          rw (lt-ltb C.vertices t.mesh.counts.vertices (omega arith), next) refl
      go Dropped e k = rw (le-ltb C.vertices t.mesh.counts.vertices (omega arith)) refl
      go NotLeft e k = rw (le-ltb C.vertices t.mesh.counts.vertices (omega arith)) refl
      go Unsound e k = rw (le-ltb C.vertices t.mesh.counts.vertices (omega arith)) refl
      go AtCenter e k = rw (le-ltb C.vertices t.mesh.counts.vertices (omega arith)) refl

-- there is room for the point's height
pub step_room : (v : Point) (z : ℤ) (short : Bool) (C : Counts) (s : SurfaceRows)
    → heights_tested (heights_lent (point_row v) (z ∷ []) short false) C s ≡ Ok tt → C.vertices < length s.heights
unfolding vertex_count point_count
step_room v z short C s e = let A = (tested-accept (heights_lent (point_row v) (z ∷ []) short false) C s e).vertices in omega arith

module _ (C : Counts) (s : SurfaceRows) (ring : RingRows) (pending : List ℕ) (center : Point2) (v : Point) (z : ℤ) where
  abbrev nodes : ℕ
  nodes = length ring.nodes

  abbrev freed : ℕ
  freed = length ring.freed

  abbrev buckets : ℕ
  buckets = length ring.buckets

  abbrev pub step_lent : HeightsLent
  step_lent = heights_lent (point_row v) (z ∷ []) (sweep_rows_short false (vertex_count C (point_row v)) nodes freed buckets (length pending)) false

  abbrev own : Checked
  own = step_checked C s.mesh nodes freed buckets (length pending) center v

  abbrev step_next : Checked
  step_next = check_ring C (links_in s.mesh) (places_in s.mesh) center.x center.y

  step-begins : own ≡ and_then (check_with (point_row v) step_lent.short C s.mesh) step_next
  unfolding step_checked sweep_checked check_start
  step-begins = refl

  abbrev made : Stepping
  made = step_mesh (length pending) center.x center.y C (links_in s.mesh) (places_in s.mesh) v

  step-table : heights_tested step_lent C s ≡ Ok tt → surface_step_checked C s nodes freed buckets (length pending) center v z ≡ own
  unfolding surface_step_checked
  step-table e = own-table step_lent C s step_next step-begins e

  pub step-refused : {r : Refusal} → heights_tested step_lent C s ≡ Err r
      → surface_step C s ring pending center v z
      ≡ surface_stepped (stepped_with (record { counts = C; stepped = Err r }) s.mesh ring pending) s.heights
  unfolding surface_step surface_step_checked step_outcome heights_after
  step-refused e = rw (own-refused step_lent C s step_next step-begins e) refl

  -- the call on the mesh alone, and its vertex's height
  pub step-own : heights_tested step_lent C s ≡ Ok tt
      → (surface_step C s ring pending center v z).call ≡ step_of C s.mesh ring pending center v
  unfolding surface_step step_of
  step-own e = rw (step-table e) refl

  pub step-heights : heights_tested step_lent C s ≡ Ok tt → (y : StepAnswer) → (step_of C s.mesh ring pending center v).answer ≡ y
      → (row : List ℤ) → length row ≡ length s.heights → height_of row ≡ height_stored (heights_in s) C.vertices y.counts.vertices z
      → (surface_step C s ring pending center v z).heights ≡ row
  unfolding surface_step step_of step_outcome height_stored answer_from
  step-heights e y q row l h = rw (step-table e) (sym (heights-after own s.heights row l refused accepted))
    where
      refused : (r : Refusal) → own ≡ Err r → height_of row ≡ heights_in s
      refused r k =
          let a : y.counts.vertices ≡ C.vertices = ap (λ (w : StepAnswer). w.counts.vertices) (sym q) ∙ rw k refl in
          h ∙ rw (le-ltb C.vertices y.counts.vertices (omega arith)) refl

      accepted : own ≡ Ok tt → height_of row ≡ height_added made.fate z (heights_in s)
      accepted k =
          let a : y.counts.vertices ≡ made.mesh.counts.vertices = ap (λ (w : StepAnswer). w.counts.vertices) (sym q) ∙ rw k refl in
          h ∙ rw a (height-step (step-swept C s.mesh ring pending center v k) (step_range C s.mesh ring pending center v k)
          (length pending) (heights_in s) z)

-- ---- links and fates ignore heights: two inputs that differ in heights alone
module _ (C : Counts) (m : MeshRows) (heights heights' : List ℤ) where
  abbrev s₁ : SurfaceRows
  s₁ = surface_rows m heights

  abbrev s₂ : SurfaceRows
  s₂ = surface_rows m heights'

  pub locate-ignores : (ring : RingRows) (center : Point2) (a : Float)
      → HeightsGiven (locate_lent C s₁ ring center a) C s₁ → HeightsGiven (locate_lent C s₂ ring center a) C s₂
      → surface_locate C s₁ ring center a ≡ surface_locate C s₂ ring center a
  locate-ignores ring center a G G' =
      locate-own C s₁ ring center a (given-tested _ C s₁ G) ∙ sym (locate-own C s₂ ring center a (given-tested _ C s₂ G'))

  pub finish-ignores : (pending : List ℕ) → HeightsGiven (finish_lent C s₁ pending) C s₁ → HeightsGiven (finish_lent C s₂ pending) C s₂
      → surface_finish C s₁ pending ≡ surface_finish C s₂ pending
  finish-ignores pending G G' =
      finish-own C s₁ pending (given-tested _ C s₁ G) ∙ sym (finish-own C s₂ pending (given-tested _ C s₂ G'))

  pub step-ignores : (ring : RingRows) (pending : List ℕ) (center : Point2) (v : Point) (z z' : ℤ)
      → HeightsGiven (step_lent C s₁ ring pending center v z) C s₁ → HeightsGiven (step_lent C s₂ ring pending center v z') C s₂
      → (surface_step C s₁ ring pending center v z).call ≡ (surface_step C s₂ ring pending center v z').call
  step-ignores ring pending center v z z' G G' =
      step-own C s₁ ring pending center v z (given-tested _ C s₁ G) ∙ sym (step-own C s₂ ring pending center v z' (given-tested _ C s₂ G'))

pub row-height : (row : List ℤ) (f : ℕ → ℤ) (u : ℕ) → f u ≡ height_of row u → height_of (row_from_of (length row) f) u ≡ height_of row u
unfolding height_of
row-height row f u same = go (dec_lt u (length row))
  where
    go : Dec (u < length row) → get_or (row_from_of (length row) f) u (pos 0) ≡ get_or row u (pos 0)
    go (yes a) = get_or-from (length row) f (pos 0) u a ∙ same
    go (no a) =
        let n = length_from (length row) f in
        get_or-eq_default (row_from_of (length row) f) (pos 0) (omega arith) ∙ sym (get_or-eq_default row (pos 0) (omega arith))

pub row-entry : (n : ℕ) (f : ℕ → ℤ) (u : ℕ) → u < n → height_of (row_from_of n f) u ≡ f u
unfolding height_of
row-entry n f u a = get_or-from n f (pos 0) u a

module _ (C : Counts) (s : SurfaceRows) (ring : RingRows) (pending : List ℕ) (center : Point2) (v : Point) (z : ℤ)
    (e : surface_step_checked C s (length ring.nodes) (length ring.freed) (length ring.buckets) (length pending) center v z ≡ Ok tt) where
  abbrev w : SurfaceStepped
  w = surface_step C s ring pending center v z

  abbrev q : Stepping
  q = step_mesh (length pending) center.x center.y C (links_in s.mesh) (places_in s.mesh) v

  parts : (heights_checked (step_lent C s ring pending center v z) C s ≡ Ok tt)
      × (step_checked C s.mesh (length ring.nodes) (length ring.freed) (length ring.buckets) (length pending) center v ≡ Ok tt)
  unfolding surface_step_checked
  parts = then-accepts _ _ e

  room : C.vertices < length s.heights
  unfolding vertex_count point_count
  room = let A = (heights-accept (step_lent C s ring pending center v z) C s parts.0).vertices in omega arith

  heights-are : w.heights ≡ row_from_of (length s.heights) (height_stored (heights_in s) C.vertices q.mesh.counts.vertices z)
  unfolding surface_step heights_after
  heights-are =
      rw (
        e,
        height-step (step-swept C s.mesh ring pending center v parts.1) (step_range C s.mesh ring pending center v parts.1)
            (length pending) (heights_in s) z,
      ) refl

  counts-are : w.call.answer.counts ≡ q.mesh.counts
  unfolding surface_step step_outcome answer_from
  counts-are = rw e refl

  one_more : q.mesh.counts.vertices ≡ C.vertices + bit (is_added q.fate)
  one_more =
      step_count (step-swept C s.mesh ring pending center v parts.1) (step_range C s.mesh ring pending center v parts.1) (length pending)

  -- a vertex that is not the new one
  other : (u : ℕ) → (C.vertices < q.mesh.counts.vertices → u ≡ C.vertices → ⊥)
      → height_stored (heights_in s) C.vertices q.mesh.counts.vertices z u ≡ heights_in s u
  unfolding height_stored
  other u d = go (dec_lt C.vertices q.mesh.counts.vertices)
    where
      go : Dec (C.vertices < q.mesh.counts.vertices)
          → cond (ltb C.vertices q.mesh.counts.vertices) (put (heights_in s) C.vertices z) (heights_in s) u ≡ heights_in s u
      go (yes k) = rw (lt-ltb C.vertices q.mesh.counts.vertices k) (put_other (heights_in s) C.vertices z u (d k))
      go (no k) = rw (le-ltb C.vertices q.mesh.counts.vertices (omega arith)) refl

  pub carried-height : CarriedHeight C s v z q.fate w
  unfolding height_stored
  carried-height = record {
    kept = λ u l. rw heights-are (row-height s.heights _ u (other u (λ k p. omega arith)));
    added = λ n f.
        let next : n ≡ C.vertices = (is-added center.x center.y C (links_in s.mesh) (places_in s.mesh) v
        (sym (step-fate (length pending) center.x center.y C (links_in s.mesh) (places_in s.mesh) v) ∙ f)).next in
        let b = ap (λ (x : Fate). bit (is_added x)) f ∙ added-bit n in
        let m = one_more in
        rw (heights-are, next) (row-entry (length s.heights) _ C.vertices room
        ∙ rw (lt-ltb C.vertices q.mesh.counts.vertices (omega arith)) (put_same (heights_in s) C.vertices z));
    past = λ u l.
        let c = ap (λ (K : Counts). K.vertices) counts-are in
        rw heights-are (row-height s.heights _ u (other u (λ k p. omega arith)));
    length-same = rw heights-are (length_from (length s.heights) _);
  }
