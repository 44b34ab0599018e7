-- What asking comes to: the table as its parts meet it, what is accepted, and that the mesh is left alone. That a quote's fate and faces are
-- those of the step is `CommitLaws` of the crate `commit`. Assumes nothing.
use Rattle.std.specs.Prelude.{Bool, false, [], ◌∷◌, ℕ, ◌+◌, ℤ, length, Ok, Err}
use Rattle.std.proofs.Math.Path.{◌≡◌, refl, sym}
use Rattle.std.proofs.Common.{◌∙◌, arith}
use Rattle.angle.specs.declared.Point2.{Point2}
use Rattle.dcel.specs.MeshRows.{links_in, places_in}
use Rattle.decide.specs.declared.Fate.{Fate}
use Rattle.decide.specs.declared.Fate.TheVariants.{Added, Dropped, NotLeft, Unsound, AtCenter}
use Rattle.decide.specs.Decide.{fate_number, if_added}
use Rattle.heights.specs.Heights.{SurfaceRows, heights_lent, heights_checked, heights_tested}
use Rattle.heights.proofs.HeightsLaws.{heights-numbered, own-table, own-refused}
use Rattle.locate.specs.Locate.{ring_rows_short, check_ring, check_start}
use Rattle.locate.specs.Start.{AcceptedStart}
use Rattle.locate.proofs.StartLaws.{start-accepts, start-numbered}
use Rattle.math.specs.declared.Point.{Point}
use Rattle.mesh.specs.declared.Counts.{Counts}
use Rattle.mesh_check.specs.Checked.{Checked}
use Rattle.mesh_check.specs.declared.Refusal.{Refusal}
use Rattle.mesh_check.specs.Check.{point_count, vertex_count}
use Rattle.mesh_check.specs.CheckLaws.{NumberedTo}
use Rattle.mesh_check.proofs.CheckLawsFacts.{numbered_more, then_next, then-refused, then-accepts, then-numbered}
use Rattle.quote.specs.declared.Quote.{Quote}
use Rattle.quote.specs.Quote.{check_changes, last_change}
use Rattle.quote.specs.QuoteLaws.{changes-at-end}
use Rattle.ring_rows.specs.RingRows.{RingRows, ring_zeros}
use Rattle.start.specs.Start.{point_row}
use Rattle.ask.specs.Asked.{Asked}
use Rattle.ask.specs.Ask.{quote_of, point_checked, ask_checked, asked_by, asked_with, ask_outcome, ask_of}

-- ---- a number for an added point alone
pub added-number : (f : Fate) (n : ℕ) → fate_number f ≡ 1 → if_added f n ≡ n
unfolding fate_number if_added
added-number (Added v) n e = refl
added-number Dropped n e = absurd (omega arith)
added-number NotLeft n e = absurd (omega arith)
added-number Unsound n e = absurd (omega arith)
added-number AtCenter n e = absurd (omega arith)

pub other-number : (f : Fate) (n : ℕ) → (fate_number f ≡ 1 → ⊥) → if_added f n ≡ 0
unfolding fate_number if_added
other-number (Added v) n d = absurd (d refl)
other-number Dropped n d = refl
other-number NotLeft n d = refl
other-number Unsound n d = refl
other-number AtCenter n d = refl

-- ---- a step's checks
module _ (short : Bool) (C : Counts) (s : SurfaceRows) (center : Point2) (v : Point) (z : ℤ) where
  abbrev ring : Checked
  ring = check_ring C (links_in s.mesh) (places_in s.mesh) center.x center.y

  pub point-refused : {r : Refusal} → heights_tested (heights_lent (point_row v) (z ∷ []) short false) C s ≡ Err r
      → point_checked short C s center v z ≡ Err r
  unfolding point_checked check_start
  point-refused e = own-refused (heights_lent (point_row v) (z ∷ []) short false) C s ring refl e

  pub point-start : heights_tested (heights_lent (point_row v) (z ∷ []) short false) C s ≡ Ok tt
      → point_checked short C s center v z ≡ check_start (point_row v) short C s.mesh center
  unfolding point_checked check_start
  point-start e = own-table (heights_lent (point_row v) (z ∷ []) short false) C s ring refl e

  -- what is accepted has its heights, a good mesh and a strict ring about the centre
  pub point-accepts : point_checked short C s center v z ≡ Ok tt
      → (heights_checked (heights_lent (point_row v) (z ∷ []) short false) C s ≡ Ok tt) × AcceptedStart (point_row v) C s.mesh center
  unfolding point_checked
  point-accepts e =
      let t = then-accepts (heights_checked (heights_lent (point_row v) (z ∷ []) short false) C s)
      (check_start (point_row v) short C s.mesh center) e in
      (t.0, (start-accepts (point_row v) short C s.mesh center t.1).0)

  -- a refusal has one of the numbers 1 to 7 and 10
  pub point-numbered : NumberedTo 10 (point_checked short C s center v z)
  unfolding point_checked
  point-numbered =
      then-numbered (heights-numbered _ C s) (numbered_more (omega arith) (start-numbered (point_row v) short C s.mesh center))

-- ---- the call's checks
module _ (changes : ℕ) (C : Counts) (s : SurfaceRows) (nodes freed buckets : ℕ) (center : Point2) (v : Point) (z : ℤ) where
  -- with the lengths for one vertex more
  pub ask-refused : {short : Bool} {r : Refusal} → short ≡ ring_rows_short (C.vertices + 1) nodes freed buckets
      → point_checked short C s center v z ≡ Err r → ask_checked changes C s nodes freed buckets center v z ≡ Err r
  unfolding ask_checked vertex_count point_count
  ask-refused e k = then-refused (check_changes changes) (rw e at k)

  pub ask-changes : {short : Bool} → short ≡ ring_rows_short (C.vertices + 1) nodes freed buckets
      → point_checked short C s center v z ≡ Ok tt → ask_checked changes C s nodes freed buckets center v z ≡ check_changes changes
  unfolding ask_checked vertex_count point_count
  ask-changes e k = then_next (check_changes changes) (rw e at k)

  pub ask-start : ask_checked changes C s nodes freed buckets center v z ≡ Ok tt → AcceptedStart (point_row v) C s.mesh center
  unfolding ask_checked
  ask-start e = (point-accepts _ C s center v z (then-accepts _ (check_changes changes) e).0).1

-- ---- the answer
pub asked-refused : {c : Checked} {r : Refusal} (q : Quote) → c ≡ Err r → Err r ≡ asked_by c q
unfolding asked_by
asked-refused q e = rw e refl

pub asked-quoted : {c : Checked} {q q' : Quote} → c ≡ Ok tt → q ≡ q' → Ok q ≡ asked_by c q'
unfolding asked_by
asked-quoted e k = rw (e, k) refl

-- ---- the call
-- 02: it "leaves the mesh alone", and the heights, accepted or refused
pub ask-alone : (changes : ℕ) (C : Counts) (s : SurfaceRows) (ring : RingRows) (center : Point2) (v : Point) (z : ℤ)
    → (ask_of changes C s ring center v z).surface ≡ s
unfolding ask_of ask_outcome
ask-alone changes C s ring center v z = go (ask_checked changes C s _ _ _ center v z) (quote_of changes C s.mesh center v z)
  where
    go : (c : Checked) (q : Quote) → (ask_outcome c q s ring).surface ≡ s
    go (Ok tt) q = refl
    go (Err r) q = refl

-- by what its parts answer
module _ (changes : ℕ) (C : Counts) (s : SurfaceRows) (ring : RingRows) (center : Point2) (v : Point) (z : ℤ) {y : Asked}
    (is : y ≡ asked_by (ask_checked changes C s (length ring.nodes) (length ring.freed) (length ring.buckets) center v z)
    (quote_of changes C s.mesh center v z)) where
  abbrev checks : Checked
  checks = ask_checked changes C s (length ring.nodes) (length ring.freed) (length ring.buckets) center v z

  pub ask-none : {r : Refusal} → y ≡ Err r → asked_with (Err r) s ring ≡ ask_of changes C s ring center v z
  unfolding ask_of ask_outcome asked_by
  ask-none {r} e = go checks refl
    where
      go : (c : Checked) → checks ≡ c → asked_with (Err r) s ring ≡ ask_of changes C s ring center v z
      go (Ok tt) k =
          let w : Err r ≡ Ok (quote_of changes C s.mesh center v z) = sym e ∙ is ∙ rw k refl in
          absurd (let n : ◌≡◌ {A = ℕ} 0 1 = cc in omega arith)
      go (Err x) k =
          let w : Err r ≡ Err x = sym e ∙ is ∙ rw k refl in
          rw (k, w) refl

  pub ask-made : {q : Quote} → y ≡ Ok q → {ring' : RingRows} → ring' ≡ ring_zeros ring
      → asked_with y s ring' ≡ ask_of changes C s ring center v z
  unfolding ask_of ask_outcome asked_by
  ask-made {q} e {ring'} zeros = go checks refl
    where
      go : (c : Checked) → checks ≡ c → asked_with y s ring' ≡ ask_of changes C s ring center v z
      go (Ok tt) k = rw (is, k, zeros) refl
      go (Err x) k =
          let w : Err x ≡ Ok q = sym (is ∙ rw k refl) ∙ e in
          absurd (let n : ◌≡◌ {A = ℕ} 0 1 = cc in omega arith)

-- ---- the quote that is given
module _ (changes : ℕ) (C : Counts) (s : SurfaceRows) (ring : RingRows) (center : Point2) (v : Point) (z : ℤ) where
  -- it is the one of the mesh, and the count is not at its end
  pub ask-quoted : (q : Quote) → (ask_of changes C s ring center v z).answer ≡ Ok q
      → (check_changes changes ≡ Ok tt) × (q ≡ quote_of changes C s.mesh center v z)
  unfolding ask_of ask_outcome ask_checked
  ask-quoted q e = go (ask_checked changes C s (length ring.nodes) (length ring.freed) (length ring.buckets) center v z) refl e
    where
      go : (c : Checked) → ask_checked changes C s (length ring.nodes) (length ring.freed) (length ring.buckets) center v z ≡ c
          → (ask_outcome c (quote_of changes C s.mesh center v z) s ring).answer ≡ Ok q
          → (check_changes changes ≡ Ok tt) × (q ≡ quote_of changes C s.mesh center v z)
      go (Ok tt) k w = ((then-accepts _ (check_changes changes) k).1, cc)
      go (Err x) k w = absurd (let n : ◌≡◌ {A = ℕ} 0 1 = cc in omega arith)

  -- 02: "no quote is given there"
  pub ask-end : changes ≡ last_change
      → point_checked (ring_rows_short (C.vertices + 1) (length ring.nodes) (length ring.freed) (length ring.buckets)) C s center v z
      ≡ Ok tt
      → ask_of changes C s ring center v z ≡ asked_with (Err (record { number = 12; place = 0 })) s ring
  unfolding ask_of ask_outcome ask_checked vertex_count point_count
  ask-end e k = rw (then_next (check_changes changes) k, changes-at-end e) refl
