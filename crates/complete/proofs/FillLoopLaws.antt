-- Laws of specs/FillLoop.antt.
use Rattle.std.specs.Prelude.{Bool, ◌&&◌, List, ◌≡◌, T, ℤ, length}
use Rattle.std.proofs.Math.Bool.{true, false, cond, not}
use Rattle.std.proofs.Math.Path.{refl, sym, ap, subst⁻¹}
use Rattle.std.proofs.Common.{◌∙◌, ap₂, subst, add-suc, add-zero, le_refl, add-one}
use Prim.Native.Nat.{ℕ, zero, suc, ◌+◌, ◌-◌, ◌*◌, ◌^◌, ◌<◌, ◌≤◌}
use native.Mathlib.Omega.{arith}
use Rattle.answers.specs.AnswerRows.{skipped_number, skipped_in, with_words}
use Rattle.circle_test.specs.GoodRows.{GoodRows}
use Rattle.dcel.specs.Rows.{links_of, position_of, row_of}
use Rattle.math.specs.declared.Point.{Point}
use Rattle.mesh.specs.declared.Counts.{Counts}
use Rattle.mesh.specs.Mesh.{Links}
use Rattle.mesh.proofs.CountsLaws.{count-edges, count-faces}
use Rattle.mesh.specs.Good.{Good}
use Rattle.skipped.specs.Insert.{is_new}
use Rattle.skipped.specs.Fill.{Filling, fill_point, fill_after, filled_by, passed_by, insert_on, inserted_at, insert_word, enters}
use Rattle.skipped.proofs.FillLawsFacts.{fill-good, fill-vertices}
use Rattle.sums.proofs.BitLaws.{and_left, and_right}
use Rattle.sums.specs.Bounded.{count}
use Rattle.sums.proofs.BoundedLaws.{count-imp, count-before, count-mono}
use Rattle.sweep.specs.Run.{answer_words}
use Rattle.complete.specs.declared.FillEnd.{FillEnd}
use Rattle.complete.specs.CompleteRows.{filling_of, filling_at, PointRows, PointLeaves, with_inserted, FillReady, FillLeaves, filled_answers, fill_word}
use Rattle.complete.proofs.AnswersLaws.{filled_none, filled-skipped, filled_more, words_are}
use Rattle.complete.specs.FillLoop.{SameRows, FillingOn}

-- ---- one point of the definition
pub point-answered : (room : ℕ) (s : Filling) (b : Bool) (v : Point) → s.full ≡ false
    → (fill_point room s b v).answered ≡ cond (fill_point room s b v).full s.answered (suc s.answered)
unfolding fill_point
point-answered room s b v f = rw f (go b)
  where
    go : (b : Bool)
        → let r : Filling = cond b (filled_by s (insert_on room s v)) (passed_by s) in
        r.answered ≡ cond r.full s.answered (suc s.answered)
    go true = refl
    go false = refl

point-stays : (room : ℕ) (s : Filling) (b : Bool) (v : Point) → s.full ≡ true → fill_point room s b v ≡ s
unfolding fill_point
point-stays room s b v f = rw f refl

module _ (room : ℕ) (C : Counts) (L : Links) (p : ℕ → Point) (skipped : ℕ → Bool) (point : ℕ → Point) where
  abbrev after : ℕ → Filling
  after n = fill_after room C L p skipped point n

  after_next : (n : ℕ) → after (suc n) ≡ fill_point room (after n) (skipped n) (point n)
  unfolding fill_after
  after_next n = refl

  -- after a refused flip nothing follows
  frozen : (n k : ℕ) → (after n).full ≡ true → after (n + k) ≡ after n
  frozen n zero f = ap after (add-zero n)
  frozen n (suc k) f =
      let r = frozen n k f in
      ap after (add-suc n k) ∙ after_next (n + k) ∙ point-stays room (after (n + k)) (skipped (n + k)) (point (n + k)) (ap (λ (s : Filling). s.full) r ∙ f) ∙ r

  -- as many vertices as points that were skipped, at most
  few : (n : ℕ) → count n (enters room C L p skipped point) ≤ count n skipped
  unfolding enters
  few n = count-imp n _ skipped (λ i l t.
      and_left (skipped i) (is_new (inserted_at room C L p skipped point i).place)
      (and_right (not (after i).full) (skipped i && is_new (inserted_at room C L p skipped point i).place) t))

pub filling-starts : {C : Counts} {q : List ℤ} {o h a row w : List ℕ} {points : List ℤ} {n : ℕ} → FillReady C q o h a row w points n
    → FillingOn C q o h a row w points n C q o h a row w 0
unfolding fill_after
filling-starts {w = w} R = record {
  ready = R;
  lengths = record { positions = refl; outs = refl; halves = refl; faces = refl; pending = refl; answers = refl };
  at = refl;
  answers-are = λ x. sym (filled_none _ (row_of w) x);
  most = omega arith;
}

module _ {C₀ : Counts} {q₀ : List ℤ} {o₀ h₀ a₀ row₀ w₀ : List ℕ} {points : List ℤ} {n : ℕ}
    {C : Counts} {q : List ℤ} {o h a row w : List ℕ} {i : ℕ} (I : FillingOn C₀ q₀ o₀ h₀ a₀ row₀ w₀ points n C q o h a row w i) where
  abbrev L₀ : Links
  L₀ = links_of o₀ h₀ a₀

  abbrev p₀ : ℕ → Point
  p₀ = position_of q₀

  abbrev point : ℕ → Point
  point = position_of points

  abbrev sk : ℕ → Bool
  sk = skipped_in (row_of w₀)

  abbrev list : ℕ → Filling
  list k = fill_after (length row₀) C₀ L₀ p₀ sk point k

  -- the mesh is good, and the rows hold it
  good : Good C (links_of o h a) (position_of q)
  good = subst (λ (s : Filling). Good s.counts s.links s.positions) I.at
      (fill-good (length row₀) I.ready.rows.good sk point I.ready.range i I.most)

  vertices-are : C.vertices ≡ C₀.vertices + count i (enters (length row₀) C₀ L₀ p₀ sk point)
  vertices-are =
      ap (λ (s : Filling). s.counts.vertices) (sym I.at)
      ∙ fill-vertices (length row₀) I.ready.rows.good sk point I.ready.range i I.most

  good-rows : C.vertices ≤ I.ready.vertices → GoodRows C q o h a
  good-rows l =
      let R = I.ready in let K = I.lengths in
      let u = count-edges good.wf in let f = count-faces good.wf in
      let x = R.positions in let y = K.positions in let a = R.outs in let b = K.outs in
      let s = R.sized in let c = K.halves in let d = K.faces in
      let e = s.halves in let g = s.faces in let m = s.small in
      record {
        room = record { outs = omega arith; halves = omega arith; faces = omega arith; small = omega arith };
        positions = omega arith;
        good = good;
      }

  skipped-is : skipped_in (row_of w) i ≡ sk i
  skipped-is = ap skipped_number (I.answers-are (answer_words * i)) ∙ filled-skipped _ (row_of w₀) i i (omega arith)

  most-now : C.vertices ≤ I.ready.vertices
  most-now =
      let v = vertices-are in let k = few (length row₀) C₀ L₀ p₀ sk point i in
      let m = I.ready.most in let c = count-mono i n sk I.most in
      omega arith

  pub filling-rows : GoodRows C q o h a
  filling-rows = good-rows most-now

  module _ (l : i < n) where
    pub filling-point : PointRows C q o h a row w points i
    filling-point = record {
      ready = λ t.
          let v = vertices-are in let k = few (length row₀) C₀ L₀ p₀ sk point i in
          let m = I.ready.most in let c = count-before i n sk l (subst T skipped-is t) in
          let R = I.ready in let K = I.lengths in
          let x = R.positions in let y = K.positions in let a = R.outs in let b = K.outs in
          let s = R.sized in let c₁ = K.halves in let d = K.faces in let z = K.pending in
          let e = s.halves in let g = s.faces in let r = s.pending in let j = s.small in
          record {
            rows = good-rows (omega arith);
            range = R.range i l;
            outs = omega arith;
            positions = omega arith;
            sized = record { halves = omega arith; faces = omega arith; pending = omega arith; small = omega arith };
          };
      pair = let k = I.ready.pairs in omega arith;
      answers-room = let k = I.ready.answers-room in let j = I.lengths.answers in omega arith;
      small = let k = I.ready.small in omega arith;
    }

    module _ {q' : List ℤ} {o' h' a' w' : List ℕ} {r : FillEnd} (X : PointLeaves C q o h a (length row) w points i q' o' h' a' w' r) where
      next-is : list (suc i) ≡ filling_of q' o' h' a' r
      next-is =
          after_next (length row₀) C₀ L₀ p₀ sk point i
          ∙ ap (λ (s : Filling). fill_point (length row₀) s (sk i) (point i)) I.at
          ∙ ap₂ (λ (m : ℕ) (b : Bool). fill_point m (filling_at C q o h a i) b (point i)) (sym I.lengths.pending) (sym skipped-is)
          ∙ sym X.is

      answered-is : r.answered ≡ cond r.full i (suc i)
      answered-is =
          ap (λ (s : Filling). s.answered) X.is
          ∙ point-answered (length row) (filling_at C q o h a i) (skipped_in (row_of w) i) (point i) refl
          ∙ ap (λ (s : Filling). cond s.full i (suc i)) (sym X.is)

      word-is : (k : ℕ)
          → insert_word C (insert_on (length row) (filling_at C q o h a i) (point i)) k ≡ fill_word (length row₀) C₀ L₀ p₀ sk point i k
      word-is k =
          ap (λ (m : ℕ). insert_word C (insert_on m (filling_at C q o h a i) (point i)) k) I.lengths.pending
          ∙ ap (λ (s : Filling). insert_word s.counts (insert_on (length row₀) s (point i)) k) (sym I.at)

      -- a flip was refused
      pub filling-full : r.full ≡ true → FillLeaves C₀ q₀ o₀ h₀ a₀ (length row₀) w₀ points n q' o' h' a' w' r
      unfolding with_inserted
      filling-full f =
          let k : suc i + (n - suc i) ≡ n = omega arith in
          let e : i ≡ r.answered = sym (answered-is ∙ rw f refl) in
          record {
            is = sym (ap list (sym k) ∙ frozen (length row₀) C₀ L₀ p₀ sk point (suc i) (n - suc i) (ap (λ (s : Filling). s.full) next-is ∙ f) ∙ next-is);
            answers-are = λ x.
                ap (λ (g : ℕ → ℕ). g x) X.answers-are ∙ same (skipped_in (row_of w) i) x ∙ I.answers-are x
                ∙ ap (λ (m : ℕ). filled_answers (fill_word (length row₀) C₀ L₀ p₀ sk point) sk m (row_of w₀) x) e;
          }
        where
          same : (b : Bool) (x : ℕ)
              → cond (b && not r.full) (with_words (row_of w) i (insert_word C (insert_on (length row) (filling_at C q o h a i) (point i)))) (row_of w) x ≡ row_of w x
          same true x = rw f refl
          same false x = refl

      -- the loop goes on
      pub filling-on : r.full ≡ false → {row' : List ℕ} → SameRows q o h a row w q' o' h' a' row' w'
          → FillingOn C₀ q₀ o₀ h₀ a₀ row₀ w₀ points n r.counts q' o' h' a' row' w' (i + 1)
      filling-on f S =
          let K = I.lengths in
          record {
            ready = I.ready;
            lengths = record {
              positions = S.positions ∙ K.positions;
              outs = S.outs ∙ K.outs;
              halves = S.halves ∙ K.halves;
              faces = S.faces ∙ K.faces;
              pending = S.pending ∙ K.pending;
              answers = S.answers ∙ K.answers;
            };
            at = ap list (add-one i) ∙ next-is ∙ rw (answered-is, f, add-one i) refl;
            answers-are = filled_more (fill_word (length row₀) C₀ L₀ p₀ sk point) (row_of w₀) i (row_of w) I.answers-are (row_of w')
                (X.answers-are ∙ rw f (words_are (row_of w) i false _ _ word-is));
            most = omega arith;
          }

  pub filling-end : n ≤ i
      → FillLeaves C₀ q₀ o₀ h₀ a₀ (length row₀) w₀ points n q o h a w (record { counts = C; answered = n; full = false })
  filling-end l =
      let z : i ≡ n = (let m = I.most in omega arith) in
      record {
        is = sym (ap list (sym z) ∙ I.at ∙ ap (filling_at C q o h a) z);
        answers-are = λ x.
            I.answers-are x ∙ ap (λ (m : ℕ). filled_answers (fill_word (length row₀) C₀ L₀ p₀ sk point) sk m (row_of w₀) x) z;
      }

-- what a list leaves is a good mesh in the rows
module _ {C : Counts} {q : List ℤ} {o h a row w : List ℕ} {points : List ℤ} {n : ℕ} (R : FillReady C q o h a row w points n)
    {q' : List ℤ} {o' h' a' w' : List ℕ} {r : FillEnd} (X : FillLeaves C q o h a (length row) w points n q' o' h' a' w' r) where
  abbrev sk' : ℕ → Bool
  sk' = skipped_in (row_of w)

  pub filled-rows : length q' ≡ length q → length o' ≡ length o → length h' ≡ length h → length a' ≡ length a
      → GoodRows r.counts q' o' h' a' × (r.counts.faces ≤ 2 ^ 25)
  filled-rows lq lo lh la =
      let G : Good r.counts (links_of o' h' a') (position_of q') =
      subst⁻¹ (λ (s : Filling). Good s.counts s.links s.positions) X.is
      (fill-good (length row) R.rows.good sk' (position_of points) R.range n (le_refl n)) in
      let v = ap (λ (s : Filling). s.counts.vertices) X.is
      ∙ fill-vertices (length row) R.rows.good sk' (position_of points) R.range n (le_refl n) in
      let k = few (length row) C (links_of o h a) (position_of q) sk' (position_of points) n in
      let m = R.most in
      let u = count-edges G.wf in let f = count-faces G.wf in
      let x = R.positions in let b = R.outs in let s = R.sized in
      let e = s.halves in let g = s.faces in let j = s.small in (
        record {
          room = record { outs = omega arith; halves = omega arith; faces = omega arith; small = omega arith };
          positions = omega arith;
          good = G;
        },
        omega arith,
      )
