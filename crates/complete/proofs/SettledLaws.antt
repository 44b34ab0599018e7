-- A settled mesh stays one while points go in, as far as that is tested, and the closing pass of a settled mesh flips nothing. Assumes nothing.
use Rattle.std.specs.Prelude.{Bool, true, false, List, ◌⊎◌, ◌≡◌, ℕ, suc, ◌+◌, ◌*◌, ◌/◌, ◌%◌, ◌<◌, ◌≤◌, T, eqb, ℤ, nat_abs, length}
use Rattle.std.proofs.Common.{inl, inr, sym, ◌∙◌, ap, subst, arith, eq-eqb}
use Rattle.std.proofs.Math.Logic.{⊎_elim}
use Rattle.std.proofs.Math.Path.{refl, subst⁻¹}
use Rattle.answers.specs.AnswerRows.{with_words, skipped_in}
use Rattle.closing.specs.Closing.{Closing, Turned, close_turn, unturned, closing_pass}
use Rattle.closing.specs.ClosingLaws.{settled-below}
use Rattle.closing.specs.ClosingRows.{closing_of}
use Rattle.dcel.specs.Rows.{links_of, position_of, row_of}
use Rattle.location.proofs.LocateLaws.{locate-good}
use Rattle.location.proofs.PlaceFacts.{Certified}
use Rattle.location.specs.declared.PositionInTriangulation.{PositionInTriangulation}
use Rattle.location.specs.declared.PositionInTriangulation.TheVariants.{OnVertex, OnFace, OnEdge, OutsideOfConvexHull}
use Rattle.math.specs.declared.Point.{Point}
use Rattle.math.specs.Determinant.{InRange}
use Rattle.mesh.specs.declared.Counts.{Counts}
use Rattle.mesh.specs.Area.{height_sum}
use Rattle.mesh.specs.Circle.{Settled}
use Rattle.mesh.specs.Good.{Good}
use Rattle.mesh.specs.Mesh.{Links}
use Rattle.settled_test.specs.Star.{UnbrokenAt}
use Rattle.skipped.specs.Fill.{Filling, fill_point, insert_on, insert_word}
use Rattle.skipped.specs.Insert.{Inserting, insert_point, insert_at, is_new, position_fate}
use Rattle.skipped.proofs.InsertLawsFacts.{insert-certified}
use Rattle.skipped_settled.proofs.InsertSettled.{insert-settled, vertex-settled}
use Rattle.skipped_settled.specs.SettledBut.{is_inside}
use Rattle.sums.specs.Bit.{bit}
use Rattle.sums.specs.Until.{until}
use Rattle.sums.proofs.UntilLaws.{until-next, until-done}
use Rattle.sweep.specs.Run.{answer_words}
use Rattle.complete.specs.declared.FillEnd.{FillEnd}
use Rattle.complete.specs.CompleteRows.{filling_at, PointLeaves, with_inserted, inside_number, StillSettled}
use Rattle.complete.specs.FillLoop.{FillingOn}
use Rattle.complete.proofs.FillLoopLaws.{filling-rows}

-- ---- the closing pass of a settled mesh
turn-still : {C : Counts} {p : ℕ → Point} {L : Links} → Settled C L p
    → close_turn C p (unturned L) ≡ record { state = record { links = L; flips = 0 }; still = true }
unfolding close_turn
turn-still {C} {p} {L} S = ap (λ (s : Closing). record { state = s; still = eqb s.flips 0 }) (settled-below S C.edges (omega arith))

pub settled-closing : {C : Counts} {p : ℕ → Point} {L : Links} → Settled C L p → closing_pass C p L ≡ record { links = L; flips = 0 }
unfolding closing_pass
settled-closing {C} {p} {L} S =
    let n = nat_abs (height_sum C L p) in
    let done : Turned → Bool = λ t. t.still in
    let two : n + 2 ≡ suc (suc n) = omega arith in
    ap (λ (t : Turned). t.state)
    (ap (λ (k : ℕ). until done (close_turn C p) k (unturned L)) two
    ∙ until-next done (close_turn C p) (suc n) (unturned L) refl
    ∙ ap (until done (close_turn C p) (suc n)) (turn-still S)
    ∙ until-done done (close_turn C p) (suc n) (record { state = record { links = L; flips = 0 }; still = true }) refl)

pub closing-left-out : {C : Counts} (q : List ℤ) (o h a : List ℕ) → Settled C (links_of o h a) (position_of q)
    → closing_of o h a 0 ≡ closing_pass C (position_of q) (links_of o h a)
unfolding closing_of
closing-left-out q o h a S = sym (settled-closing S)

-- ---- one point
module _ (room : ℕ) {C : Counts} {L : Links} {p : ℕ → Point} (G : Good C L p) (v : Point) (range : InRange v) (S : Settled C L p) where
  -- what is tested of it, by its place
  abbrev Tested : Inserting → Type 0
  Tested t =
      (t.mesh.counts.vertices ≤ C.vertices)
      ⊎ (T (inside_number (position_fate t.place)) × UnbrokenAt t.mesh.counts t.mesh.links t.positions C.vertices)

  -- a new vertex is one more
  more : (x : PositionInTriangulation) → Certified C L p v x
      → (insert_at room C L p v x).mesh.counts.vertices ≡ C.vertices + bit (is_new x)
  more x I = ap (λ (D : Counts). D.vertices) (insert-certified room G v range x I).counts

  at_place : (x : PositionInTriangulation) → Certified C L p v x → (insert_at room C L p v x).mesh.full ≡ false → Tested (insert_at room C L p v x)
      → let t = insert_at room C L p v x in Settled t.mesh.counts t.mesh.links t.positions
  unfolding is_inside is_new position_fate inside_number
  at_place (OnVertex w) I f t = vertex-settled room G v range S w
  at_place (OnFace f) I q t =
      ⊎_elim (λ l. absurd (let k = more (OnFace f) I in omega arith))
      (λ u. insert-settled room G v range S (OnFace f) I refl q (λ e h o. u.1.edge h o)) t
  at_place (OnEdge e) I q t =
      ⊎_elim (λ l. absurd (let k = more (OnEdge e) I in omega arith))
      (λ u. insert-settled room G v range S (OnEdge e) I refl q (λ e h o. u.1.edge h o)) t
  at_place (OutsideOfConvexHull e) I q t =
      ⊎_elim (λ l. absurd (let k = more (OutsideOfConvexHull e) I in omega arith)) (λ u. absurd u.0) t

  pub point-settled : (insert_point room C L p v).mesh.full ≡ false → Tested (insert_point room C L p v)
      → let t = insert_point room C L p v in Settled t.mesh.counts t.mesh.links t.positions
  unfolding insert_point
  point-settled = at_place _ (locate-good G v)

-- ---- in the rows
-- the first word of point i, of those that are stored
words-first : (row : ℕ → ℕ) (i : ℕ) (word : ℕ → ℕ) → with_words row i word (answer_words * i) ≡ word 0
unfolding with_words
words-first row i word =
    let d : answer_words * i / answer_words ≡ i = omega arith in
    let m : answer_words * i % answer_words ≡ 0 = omega arith in
    rw (eq-eqb _ i d, m) refl

module _ {C : Counts} {q : List ℤ} {o h a : List ℕ} {room : ℕ} {w : List ℕ} {points : List ℤ} {i : ℕ}
    {q' : List ℤ} {o' h' a' w' : List ℕ} {r : FillEnd} (X : PointLeaves C q o h a room w points i q' o' h' a' w' r)
    (G : Good C (links_of o h a) (position_of q)) (range : InRange (position_of points i)) (f : r.full ≡ false) where
  abbrev SettledAt : Filling → Type 0
  SettledAt s = Settled s.counts s.links s.positions

  pub rows_settled : Settled C (links_of o h a) (position_of q) → StillSettled C r.counts q' o' h' a' w' i
      → Settled r.counts (links_of o' h' a') (position_of q')
  unfolding fill_point with_inserted insert_word StillSettled
  rows_settled S t = subst⁻¹ SettledAt X.is (go (skipped_in (row_of w) i) refl)
    where
      v : Point
      v = position_of points i

      s : Filling
      s = filling_at C q o h a i

      go : (b : Bool) → skipped_in (row_of w) i ≡ b → SettledAt (fill_point room s (skipped_in (row_of w) i) v)
      go false e = rw e S
      go true e = rw e (point-settled room G v range S full tested)
        where
          is : fill_point room s true v ≡ fill_point room s (skipped_in (row_of w) i) v
          is = ap (λ (b : Bool). fill_point room s b v) (sym e)

          full : (insert_on room s v).mesh.full ≡ false
          full = ap (λ (z : Filling). z.full) (is ∙ sym X.is) ∙ f

          fate : row_of w' (answer_words * i) ≡ position_fate (insert_on room s v).place
          fate = ap (λ (g : ℕ → ℕ). g (answer_words * i)) X.answers-are ∙ rw (e, f) (words-first (row_of w) i (insert_word C (insert_on room s v)))

          tested : Tested room G v range S (insert_on room s v)
          tested = ⊎_elim
              (λ l. inl (subst (λ (z : Filling). z.counts.vertices ≤ C.vertices) (X.is ∙ sym is) l))
              (λ u. inr (
                subst (λ (n : ℕ). T (inside_number n)) fate u.0,
                subst (λ (z : Filling). UnbrokenAt z.counts z.links z.positions C.vertices) (X.is ∙ sym is) u.1,
              )) t

-- ---- the list
pub filling-settled : {C₀ : Counts} {q₀ : List ℤ} {o₀ h₀ a₀ row₀ w₀ : List ℕ} {points : List ℤ} {n : ℕ}
    {C : Counts} {q : List ℤ} {o h a row w : List ℕ} {i : ℕ} → FillingOn C₀ q₀ o₀ h₀ a₀ row₀ w₀ points n C q o h a row w i → i < n
    → {q' : List ℤ} {o' h' a' w' : List ℕ} {r : FillEnd} → PointLeaves C q o h a (length row) w points i q' o' h' a' w' r → r.full ≡ false
    → (b b' : Bool) → (T b → Settled C (links_of o h a) (position_of q)) → (T b' → T b × StillSettled C r.counts q' o' h' a' w' i)
    → T b' → Settled r.counts (links_of o' h' a') (position_of q')
filling-settled {i = i} I l X f b b' S t k = let u = t k in rows_settled X (filling-rows I).good (I.ready.range i l) f (S u.0) u.1
