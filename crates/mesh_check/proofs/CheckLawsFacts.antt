-- Laws of specs/CheckLaws.antt.
use Rattle.std.proofs.Math.Path.{◌≡◌, refl, sym, ap}
use Rattle.std.proofs.Common.{◌∙◌, subst, ltb→lt, lt→ltb, Ok, Err}
use Rattle.std.specs.Prelude.{Bool, ◌&&◌, ◌||◌, cond, ℕ, ◌*◌, ◌<◌, ◌≤◌, T}
use Rattle.std.proofs.Math.Bool.{true, false, not}
use native.Mathlib.Omega.{arith}
use borrow.Author.Tests.{lt-ltb, le-ltb, ltb-false, not-false}
use Rattle.std.proofs.Math.Dec.{ltb, T_not}
use Rattle.std.specs.Int.Signed.{lt_z_yes}
use Rattle.math.specs.declared.Point.{Point}
use Rattle.math.specs.Determinant.{InRange, is_valid_vertex}
use Rattle.math.proofs.Range.{in-range, valid-vertex}
use Rattle.mesh.specs.declared.Counts.{Counts}
use Rattle.mesh.specs.Mesh.{Links}
use Rattle.mesh.specs.Area.{LeftTurning}
use Rattle.mesh.specs.Good.{Good}
use Rattle.mesh.specs.Rules.{rules}
use Rattle.mesh.proofs.RulesWf.{rules-wf, wf-rules}
use Rattle.mesh.specs.Wf.{Wf}
use Rattle.mesh_check.specs.declared.Refusal.{Refusal}
use Rattle.mesh_check.specs.Checked.{Checked}
use Rattle.mesh_check.specs.Check.{refused, count_refused, is_outside, first_outside, turns_left, first_not_left}
use Rattle.mesh_check.specs.Check.{and_then, check_range, check_faces, check_mesh}
use Rattle.sums.proofs.BitLaws.{is_true, is_false, from-true, from_false, sure, and_left, and_right, and_both, or_left, or_right}
use Rattle.sums.specs.Bounded.{first_below}
use Rattle.sums.proofs.BoundedLaws.{first-below-is, first-below-le, first-below-passes, first-below-before, first-below-none, first-below-any}
use Rattle.mesh_check.specs.CheckLaws.{NumberedTo, accepts, refuses, Passes, InLimits}

-- ---- one row after the other
pub then_next : {first : Checked} (next : Checked) → first ≡ Ok tt → and_then first next ≡ next
unfolding and_then
then_next next e = ap (λ (c : Checked). and_then c next) e

pub then-refused : {first : Checked} {r : Refusal} (next : Checked) → first ≡ Err r → and_then first next ≡ Err r
unfolding and_then
then-refused next e = ap (λ (c : Checked). and_then c next) e

-- both let pass
pub then-accepts : (first next : Checked) → and_then first next ≡ Ok tt → (first ≡ Ok tt) × (next ≡ Ok tt)
unfolding and_then
then-accepts (Ok _) next e = (refl, e)
then-accepts (Err r) next e = absurd (let z : ◌≡◌ {A = ℕ} 0 1 = cc in omega arith)

-- ---- the table, row by row
module _ (n : ℕ) (short : Bool) (p : ℕ → Point) where
  pub range-count : count_refused n ≡ true → refused 1 0 ≡ check_range n short p
  unfolding check_range
  range-count e = rw e

  module _ (a : count_refused n ≡ false) where
    pub range-short : short ≡ true → refused 2 0 ≡ check_range n short p
    unfolding check_range
    range-short e = rw (a, e)

    module _ (b : short ≡ false) {i : ℕ} (q : i ≡ first_outside n p) where
      pub range-outside : i < n → refused 3 i ≡ check_range n short p
      unfolding check_range
      range-outside l = rw (a, b, ← q, lt-ltb i n l)

      pub range-accepted : n ≤ i → (Ok tt) ≡ check_range n short p
      unfolding check_range
      range-accepted l = rw (a, b, ← q, le-ltb i n l)

module _ (C : Counts) (L : Links) (p : ℕ → Point) where
  pub faces-rules : rules C L ≡ false → refused 4 0 ≡ check_faces C L p
  unfolding check_faces
  faces-rules e = rw e

  module _ (d : rules C L ≡ true) {f : ℕ} (r : f ≡ first_not_left C L p) where
    pub faces-turn : f < C.faces → refused 5 f ≡ check_faces C L p
    unfolding check_faces
    faces-turn l = rw (d, ← r, lt-ltb f C.faces l)

    pub faces-accepted : C.faces ≤ f → (Ok tt) ≡ check_faces C L p
    unfolding check_faces
    faces-accepted l = rw (d, ← r, le-ltb f C.faces l)

pub numbered-at : {n : ℕ} {r : Refusal} → NumberedTo n (Err r) → (1 ≤ r.number) × (r.number ≤ n)
numbered-at (refuses k l) = (k, l)

pub numbered_more : {m n : ℕ} {c : Checked} → m ≤ n → NumberedTo m c → NumberedTo n c
numbered_more l accepts = accepts
numbered_more l (refuses {r = r} j k) = refuses {r = r} j (omega arith)

pub numbered-cond : {n : ℕ} (t : Bool) (k i : ℕ) {c : Checked} → 1 ≤ k → k ≤ n → NumberedTo n c → NumberedTo n (cond t (refused k i) c)
numbered-cond true k i j l f = refuses j l
numbered-cond false k i j l f = f

pub then-numbered : {n : ℕ} {first next : Checked} → NumberedTo n first → NumberedTo n next → NumberedTo n (and_then first next)
unfolding and_then
then-numbered accepts g = g
then-numbered (refuses k l) g = refuses k l

pub range-numbered : (n : ℕ) (short : Bool) (p : ℕ → Point) → NumberedTo 3 (check_range n short p)
unfolding check_range
range-numbered n short p =
    numbered-cond (count_refused n) 1 0 (omega arith) (omega arith)
    (numbered-cond short 2 0 (omega arith) (omega arith)
    (numbered-cond (ltb (first_outside n p) n) 3 (first_outside n p) (omega arith) (omega arith) accepts))

pub check-numbered : (n : ℕ) (short : Bool) (C : Counts) (L : Links) (p : ℕ → Point) → NumberedTo 5 (check_mesh n short C L p)
unfolding check_mesh check_faces
check-numbered n short C L p =
    then-numbered (numbered_more (omega arith) (range-numbered n short p))
    (numbered-cond (not (rules C L)) 4 0 (omega arith) (omega arith)
    (numbered-cond (ltb (first_not_left C L p) C.faces) 5 (first_not_left C L p) (omega arith) (omega arith) accepts))

-- ---- only what is below the counts matters
first-below-ext : (n : ℕ) (s t : ℕ → Bool) → ((i : ℕ) → i < n → s i ≡ t i) → first_below n s ≡ first_below n t
first-below-ext n s t h = first-below-is n s (first-below-le n t) (λ l. subst T (sym (h (first_below n t) l)) (first-below-passes n t l))
    (λ j l u. first-below-before n t j l (subst T (h j (let k = first-below-le n t in omega arith)) u))

module _ {n : ℕ} {p q : ℕ → Point} (same : (v : ℕ) → v < n → p v ≡ q v) where
  pub outside-agree : first_outside n p ≡ first_outside n q
  unfolding first_outside
  outside-agree = first-below-ext n (λ v. is_outside (p v)) (λ v. is_outside (q v)) (λ v l. ap is_outside (same v l))

  pub not-left-agree : {C : Counts} {L : Links} → Wf C L → C.vertices ≤ n → first_not_left C L p ≡ first_not_left C L q
  unfolding first_not_left turns_left
  not-left-agree {C} {L} W k = first-below-ext C.faces (λ f. ltb 0 f && not (turns_left L p (L.adjacent f))) (λ f. ltb 0 f && not (turns_left L q (L.adjacent f))) (λ f l.
      let a< = W.ranges.adjacent< l in
      let b< = W.ranges.next< a< in
      rw (at a<, at b<, at (W.ranges.next< b<)))
    where
      at : {e : ℕ} → e < 2 * C.edges → p (L.origin e) ≡ q (L.origin e)
      at {e} l = same (L.origin e) (let o = W.ranges.origin< l in omega arith)

  pub faces-agree : (C : Counts) (L : Links) → C.vertices ≤ n → check_faces C L p ≡ check_faces C L q
  unfolding check_faces
  faces-agree C L k = go (rules C L) refl
    where
      go : (t : Bool) → rules C L ≡ t →
          ◌≡◌ {A = Checked} (cond (not (rules C L)) (refused 4 0)
          (cond (ltb (first_not_left C L p) C.faces) (refused 5 (first_not_left C L p)) (Ok tt)))
          (cond (not (rules C L)) (refused 4 0)
          (cond (ltb (first_not_left C L q) C.faces) (refused 5 (first_not_left C L q)) (Ok tt)))
      go true e = rw (not-left-agree (rules-wf C L (from-true e)) k)
      go false e = rw e

  pub check-agree : (short : Bool) (C : Counts) (L : Links) → C.vertices ≤ n → check_mesh n short C L p ≡ check_mesh n short C L q
  unfolding check_mesh check_range
  check-agree short C L k = rw (outside-agree, faces-agree C L k)

pub passes-good : {n : ℕ} {short : Bool} {C : Counts} {L : Links} {p : ℕ → Point} → C.vertices ≤ n → Passes n short C L p → Good C L p
passes-good k P = record { wf = P.wf; turning = P.turning; range = λ l. P.range (omega arith) }

-- none is outside: all are in range, and the other way round
pub inside-range : (n : ℕ) (p : ℕ → Point) → n ≤ first_outside n p → {v : ℕ} → v < n → InRange (p v)
unfolding first_outside
inside-range n p l {v} k = in-range (is_true (is_valid_vertex (p v)) (sure (is_valid_vertex (p v)) (λ t.
    first-below-any n (λ v. is_outside (p v)) (let m = first-below-le n (λ v. is_outside (p v)) in omega arith) v k t)))

pub range_inside : (n : ℕ) (p : ℕ → Point) → ((v : ℕ) → v < n → InRange (p v)) → n ≤ first_outside n p
unfolding first_outside
range_inside n p R = let e = first-below-none n (λ v. is_outside (p v)) (λ v l t. T_not (is_valid_vertex (p v)) t (from-true (valid-vertex (R v l)))) in omega arith

module _ (C : Counts) (L : Links) (p : ℕ → Point) where
  fails : ℕ → Bool
  fails f = ltb 0 f && not (turns_left L p (L.adjacent f))

  all_left : C.faces ≤ first_not_left C L p → LeftTurning C L p
  unfolding first_not_left turns_left fails
  all_left l = record {
    left = λ {f} u v. lt_z_yes (sure (turns_left L p (L.adjacent f)) (λ t.
        first-below-any C.faces fails (let m = first-below-le C.faces fails in omega arith) f v
        (and_both (ltb 0 f) (not (turns_left L p (L.adjacent f))) (lt→ltb 0 f u) t)));
  }

  left-all : LeftTurning C L p → C.faces ≤ first_not_left C L p
  unfolding first_not_left turns_left fails
  left-all H =
      let e = first-below-none C.faces fails (λ f l t.
      T_not (turns_left L p (L.adjacent f)) (and_right (ltb 0 f) (not (turns_left L p (L.adjacent f))) t)
      (H.left (ltb→lt 0 f (and_left (ltb 0 f) (not (turns_left L p (L.adjacent f))) t)) l).lt) in
      omega arith

pub count-within : (n : ℕ) → count_refused n ≡ false → (3 ≤ n) × (n ≤ 1000000)
unfolding count_refused
count-within n e =
    (ltb-false n 3 (is_false (ltb n 3) (λ t. no (or_left (ltb n 3) (ltb 1000000 n) t))), ltb-false 1000000 n (is_false (ltb 1000000 n) (λ t. no (or_right (ltb n 3) (ltb 1000000 n) t))))
  where
    no : T (ltb n 3 || ltb 1000000 n) → ⊥
    no t = T_not (ltb n 3 || ltb 1000000 n) (from_false e) t

pub within_count : {n : ℕ} → 3 ≤ n → n ≤ 1000000 → count_refused n ≡ false
unfolding count_refused
within_count {n} l m = rw (le-ltb n 3 l, le-ltb 1000000 n m)

-- a test that would have refused did not
pub not-refused : (t : Bool) (r : Refusal) (x : Checked) → cond t (Err r) x ≡ Ok tt → (t ≡ false) × (x ≡ Ok tt)
not-refused true r x e = absurd (let z : ◌≡◌ {A = ℕ} 0 1 = cc in omega arith)
not-refused false r x e = (refl, e)

module _ {n : ℕ} {short : Bool} {p : ℕ → Point} where
  pub accepted-limits : check_range n short p ≡ Ok tt → InLimits n short p
  unfolding check_range
  accepted-limits e =
      let a = not-refused (count_refused n) _ _ e in
      let b = not-refused short _ _ a.1 in
      let c = not-refused (ltb (first_outside n p) n) _ _ b.1 in
      record {
        least = (count-within n a.0).0;
        most = (count-within n a.0).1;
        long = b.0;
        range = inside-range n p (ltb-false (first_outside n p) n c.0);
      }

module _ {n : ℕ} {short : Bool} {C : Counts} {L : Links} {p : ℕ → Point} where
  pub accepted-passes : check_mesh n short C L p ≡ Ok tt → Passes n short C L p
  unfolding check_mesh check_faces
  accepted-passes e =
      let t = then-accepts (check_range n short p) (check_faces C L p) e in
      let A = accepted-limits t.0 in
      let d = not-refused (not (rules C L)) _ _ t.1 in
      let f = not-refused (ltb (first_not_left C L p) C.faces) _ _ d.1 in
      record {
        least = A.least;
        most = A.most;
        long = A.long;
        range = A.range;
        wf = rules-wf C L (from-true (not-false (rules C L) d.0));
        turning = all_left C L p (ltb-false (first_not_left C L p) C.faces f.0);
      }

  pub passes-accepted : Passes n short C L p → check_mesh n short C L p ≡ Ok tt
  unfolding check_mesh
  passes-accepted P =
      then_next (check_faces C L p)
      (sym (range-accepted n short p (within_count P.least P.most) P.long refl (range_inside n p (λ v l. P.range l))))
      ∙ sym (faces-accepted C L p (is_true (rules C L) (wf-rules C L P.wf)) refl (left-all C L p P.turning))
