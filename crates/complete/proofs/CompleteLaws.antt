-- What the calls leave one after another, as the definition of a run's finish has it. Assumes nothing.
use Rattle.std.specs.Prelude.{Bool, true, false, List, ◌≡◌, ℕ, ◌*◌, ◌≤◌, ℤ, length}
use Rattle.std.proofs.Math.Path.{refl, ap, subst⁻¹}
use Rattle.std.proofs.Common.{sym, ◌∙◌}
use native.Mathlib.Omega.{arith}
use Rattle.answers.specs.AnswerRows.{skipped_in, SkippedZeroed}
use Rattle.convexity.specs.Convexity.{convexity}
use Rattle.convexity.proofs.ConvexityLawsFacts.{convexity-good, convexity-counts}
use Rattle.convexity.specs.ConvexityRows.{MeshReady}
use Rattle.corner.specs.declared.Extension.{Extension}
use Rattle.corner.specs.Corner.{Extended}
use Rattle.corner.specs.CornerRows.{extended_of}
use Rattle.dcel.specs.Rows.{links_of, position_of, row_of}
use Rattle.finish.specs.FinishRows.{finishing_of}
use Rattle.mesh.specs.declared.Counts.{Counts}
use Rattle.mesh.proofs.CountsLaws.{count-edges, count-faces}
use Rattle.mesh.specs.Good.{Good}
use Rattle.skipped.specs.Fill.{Filling, fill_after, Completing, complete_mesh}
use Rattle.skipped.proofs.FillLawsFacts.{fill-answered}
use Rattle.sweep.specs.Run.{complete_after, completed_answers}
use Rattle.complete.specs.declared.FillEnd.{FillEnd}
use Rattle.complete.specs.declared.Completed.{Completed}
use Rattle.complete.specs.CompleteRows.{filling_of, fill_word, FillReady, FillLeaves, stopped_at, close_fill, swept_to, CompleteLeaves}
use Rattle.complete.proofs.OneStage.{passes-refused, passes-made}
use Rattle.complete.proofs.AnswersLaws.{none_in, some_in}

-- ---- a flip was refused in a step
pub refused-before : (C : Counts) (answered : ℕ) {full : Bool} (q : List ℤ) (o h a : List ℕ) (room : ℕ) (w : List ℕ) (points : List ℤ) (n : ℕ)
    → full ≡ true → {w' : List ℕ} → SkippedZeroed w w' 0 n → {r : Completed} → r ≡ stopped_at C 0 0 answered
    → CompleteLeaves C answered full q o h a room w points n q o h a w' r
unfolding complete_after finishing_of
refused-before C answered q o h a room w points n f Z e = record {
  mesh = rw (f, e) refl;
  positions = rw f refl;
  place = rw (f, e) refl;
  answers-are = λ x. rw f (Z.each x ∙ none_in _ (row_of w) n x);
}

-- ---- the first convexity passes
pub passes-ready : {C : Counts} {q : List ℤ} {o h a row w : List ℕ} {points : List ℤ} {n : ℕ} → FillReady C q o h a row w points n
    → MeshReady q o h a row C
passes-ready R =
    let m = R.most in let s = R.sized in
    let i = s.halves in let j = s.faces in let k = s.small in
    record { rows = R.rows; sized = record { halves = omega arith; faces = omega arith; pending = s.pending; small = omega arith } }

module _ (C : Counts) (answered : ℕ) {full : Bool} {q : List ℤ} {o h a row w : List ℕ} {points : List ℤ} {n : ℕ}
    (R : FillReady C q o h a row w points n) (f : full ≡ false) (o₁ h₁ a₁ : List ℕ) (g : Extension)
    (e : extended_of o₁ h₁ a₁ g ≡ convexity (length row) C (position_of q) (links_of o h a)) where
  abbrev room : ℕ
  room = length row

  abbrev sk : ℕ → Bool
  sk = skipped_in (row_of w)

  abbrev v : Extended
  v = convexity room C (position_of q) (links_of o h a)

  abbrev whole : Completing
  whole = complete_mesh room C (links_of o h a) (position_of q) sk (position_of points) n

  after_is : complete_after room (swept_to C answered full q o h a) sk (position_of points) n ≡ whole
  unfolding complete_after
  after_is = rw f refl

  counts-are : v.counts ≡ g.counts
  unfolding extended_of
  counts-are = ap (λ (x : Extended). x.counts) (sym e)

  links-are : v.links ≡ links_of o₁ h₁ a₁
  unfolding extended_of
  links-are = ap (λ (x : Extended). x.links) (sym e)

  faces-are : v.faces ≡ g.faces
  unfolding extended_of
  faces-are = ap (λ (x : Extended). x.faces) (sym e)

  flips-are : v.flips ≡ g.flips
  unfolding extended_of
  flips-are = ap (λ (x : Extended). x.flips) (sym e)

  full_is : v.full ≡ g.full
  unfolding extended_of
  full_is = ap (λ (x : Extended). x.full) (sym e)

  abbrev words : ℕ → ℕ → ℕ
  words = fill_word room v.counts v.links (position_of q) sk (position_of points)

  -- what is left, by what the definition comes to
  from-whole : {K : Completing} → whole ≡ K → (q' : List ℤ) (o' h' a' w' : List ℕ) (r : Completed)
      → finishing_of o' h' a' r.ended ≡ K.mesh → position_of q' ≡ K.positions → r.place ≡ K.place
      → ((x : ℕ) → row_of w' x ≡ completed_answers words sk K.inserted n (row_of w) x)
      → CompleteLeaves C answered full q o h a room w points n q' o' h' a' w' r
  from-whole {K} k q' o' h' a' w' r x y z u = record {
    mesh = x ∙ ap (λ (c : Completing). c.mesh) (sym (after_is ∙ k));
    positions = y ∙ ap (λ (c : Completing). c.positions) (sym (after_is ∙ k));
    place = z ∙ ap (λ (c : Completing). c.place) (sym (after_is ∙ k));
    answers-are = λ i. u i ∙ ap (λ (c : Completing). completed_answers words sk c.inserted n (row_of w) i) (sym (after_is ∙ k));
  }

  -- a flip was refused in them
  pub refused-in : g.full ≡ true → {w' : List ℕ} → SkippedZeroed w w' 0 n → {r : Completed}
      → r ≡ stopped_at g.counts g.faces g.flips n
      → CompleteLeaves C answered full q o h a room w points n q o₁ h₁ a₁ w' r
  unfolding finishing_of
  refused-in z {w'} Z {r} d =
      from-whole (passes-refused room R.rows.good sk (position_of points) n R.range (full_is ∙ z)) q o₁ h₁ a₁ w' r
      (rw (d, counts-are, links-are, faces-are, flips-are) refl) refl (rw d refl) (λ x. Z.each x ∙ none_in words (row_of w) n x)

  -- the rows are ready for the skipped points
  pub fill-ready : length o₁ ≡ length o → length h₁ ≡ length h → length a₁ ≡ length a → {row' : List ℕ} → length row' ≡ length row
      → FillReady g.counts q o₁ h₁ a₁ row' w points n
  unfolding extended_of
  fill-ready lo lh la lr =
      let G : Good g.counts (links_of o₁ h₁ a₁) (position_of q) =
      subst⁻¹ (λ (x : Extended). Good x.counts x.links (position_of q)) e (convexity-good room C (position_of q) (links_of o h a) R.rows.good) in
      let c = ap (λ (K : Counts). K.vertices) (sym counts-are) ∙ ap (λ (K : Counts). K.vertices) (convexity-counts room C (position_of q) (links_of o h a) R.rows.good) in
      let m = R.most in let x = R.positions in let b = R.outs in let s = R.sized in
      let u = count-edges G.wf in let y = count-faces G.wf in
      let i = s.halves in let j = s.faces in let k = s.small in let p = s.pending in
      record {
        rows = record {
          room = record { outs = omega arith; halves = omega arith; faces = omega arith; small = omega arith };
          positions = omega arith;
          good = G;
        };
        vertices = R.vertices;
        most = omega arith;
        positions = R.positions;
        outs = omega arith;
        sized = record { halves = omega arith; faces = omega arith; pending = omega arith; small = k };
        range = R.range;
        pairs = R.pairs;
        answers-room = R.answers-room;
        small = R.small;
      }

  -- the list, the zeros and the closing pass
  module _ (z : g.full ≡ false) {m : ℕ} (lr : m ≡ length row) {q₂ : List ℤ} {o₂ h₂ a₂ w₂ : List ℕ} {t : FillEnd}
      (X : FillLeaves g.counts q o₁ h₁ a₁ m w points n q₂ o₂ h₂ a₂ w₂ t) where
    list-is : filling_of q₂ o₂ h₂ a₂ t ≡ fill_after room v.counts v.links (position_of q) sk (position_of points) n
    list-is = X.is ∙ rw (lr, counts-are, links-are) refl

    answered-most : t.answered ≤ n
    answered-most = at t.full refl
      where
        A : Filling
        A = fill_after room v.counts v.links (position_of q) sk (position_of points) n

        at : (b : Bool) → t.full ≡ b → t.answered ≤ n
        at true d =
            let k = (fill-answered room v.counts v.links (position_of q) sk (position_of points) n).short (ap (λ (s : Filling). s.full) (sym list-is) ∙ d) in
            let m = ap (λ (s : Filling). s.answered) list-is in omega arith
        at false d =
            let k = (fill-answered room v.counts v.links (position_of q) sk (position_of points) n).all (ap (λ (s : Filling). s.full) (sym list-is) ∙ d) in
            let m = ap (λ (s : Filling). s.answered) list-is in omega arith

    pub zeros-ready : {k : ℕ} → 4 * n ≤ k → (t.answered ≤ n) × (4 * n ≤ k)
    zeros-ready l = (answered-most, l)

    pub closed_after : {w₃ : List ℕ} → SkippedZeroed w₂ w₃ t.answered n → (o₃ h₃ a₃ : List ℕ) {r : Completed}
        → (finishing_of o₃ h₃ a₃ r.ended ≡ close_fill g.faces g.flips (filling_of q₂ o₂ h₂ a₂ t)) × (r.place ≡ t.answered)
        → CompleteLeaves C answered full q o h a room w points n q₂ o₃ h₃ a₃ w₃ r
    closed_after {w₃} Z o₃ h₃ a₃ {r} (d, k) =
        from-whole (passes-made room R.rows.good sk (position_of points) n R.range (full_is ∙ z) list-is) q₂ o₃ h₃ a₃ w₃ r
        (d ∙ rw (faces-are, flips-are) refl) refl k
        (λ x. Z.each x ∙ some_in words (row_of w) n t.answered answered-most (row_of w₂)
        (λ y. X.answers-are y ∙ rw (lr, counts-are, links-are) refl) x)
