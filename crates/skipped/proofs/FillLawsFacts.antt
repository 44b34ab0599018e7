-- Laws of specs/FillLaws.antt.
use Rattle.std.specs.Prelude.{Bool, not, ◌&&◌, ◌≡◌, T}
use Rattle.std.proofs.Math.Bool.{true, false, cond}
use Rattle.std.proofs.lemmas.Bool.{false≢true}
use Rattle.std.proofs.Math.Path.{refl, ap₂}
use Rattle.std.proofs.Common.{sym, ◌∙◌, ap, subst}
use Prim.Native.Nat.{ℕ, zero, suc, ◌+◌, ◌<◌, ◌≤◌}
use Rattle.std.proofs.Math.Decide.{ℕ_discrete}
use native.Mathlib.Omega.{arith}
use Rattle.corner.specs.Untouched.{Untouched, Grown, untouched-none, untouched-join}
use Rattle.location.specs.declared.PositionInTriangulation.{PositionInTriangulation}
use Rattle.location.specs.declared.PositionInTriangulation.TheVariants.{OnVertex, OnFace, OnEdge, OutsideOfConvexHull}
use Rattle.math.specs.declared.Point.{Point}
use Rattle.math.specs.Determinant.{InRange}
use Rattle.mesh.specs.declared.Counts.{Counts}
use Rattle.mesh.specs.Mesh.{Links}
use Rattle.mesh.specs.Good.{Good}
use Rattle.sums.specs.Bit.{bit}
use Rattle.sums.specs.Bounded.{count}
use Rattle.skipped.specs.Insert.{Inserting, position_vertex, is_new}
use Rattle.skipped.specs.InsertLaws.{PointIn}
use Rattle.skipped.proofs.InsertLawsFacts.{insert-point}
use Rattle.skipped.specs.Fill.{Filling, insert_on, filled_by, passed_by, fill_point, fill_after, inserted_at, inserted_vertex, enters}
use Rattle.skipped.specs.FillLaws.{Filled}

next-number : (C : Counts) (x : PositionInTriangulation) → T (is_new x) → position_vertex C x ≡ C.vertices
unfolding is_new position_vertex
next-number C (OnFace f) t = refl
next-number C (OnEdge e) t = refl
next-number C (OutsideOfConvexHull e) t = refl
next-number C (OnVertex w) t = absurd t

pub fill-point : (room : ℕ) (s : Filling) → Good s.counts s.links s.positions → (b : Bool) (v : Point) → InRange v
    → Filled room s b v (fill_point room s b v)
unfolding fill_point
fill-point room s G b v range = go s.full refl b
  where
    N : PointIn s.counts s.links s.positions v (insert_on room s v)
    N = insert-point room G v range

    go : (f : Bool) → s.full ≡ f → (b : Bool) → Filled room s b v (cond f s (cond b (filled_by s (insert_on room s v)) (passed_by s)))
    go true q b = record {
      good = G;
      kept = λ u l. refl;
      past = λ u l. refl;
      vertices = rw q (omega arith);
      grown = record { vertices = omega arith; edges = omega arith; faces = omega arith };
      untouched = untouched-none;
      used = λ z. absurd (false≢true (sym z ∙ q));
      here = λ z. absurd (false≢true (sym z ∙ q));
    }
    go false q true = record {
      good = N.good;
      kept = N.kept;
      past = N.past;
      vertices = rw q (ap (λ (C : Counts). C.vertices) N.counts);
      grown =
          let k = ap (λ (C : Counts). C.vertices) N.counts in
          let e = ap (λ (C : Counts). C.edges) N.counts in
          let f = ap (λ (C : Counts). C.faces) N.counts in
          record { vertices = omega arith; edges = omega arith; faces = omega arith };
      untouched = N.untouched;
      used = λ _ _. N.used;
      here = λ _ _. N.here;
    }
    go false q false = record {
      good = G;
      kept = λ u l. refl;
      past = λ u l. refl;
      vertices = rw q (omega arith);
      grown = record { vertices = omega arith; edges = omega arith; faces = omega arith };
      untouched = untouched-none;
      used = λ _ t. absurd t;
      here = λ _ t. absurd t;
    }

-- ---- n points have been looked at, and none was skipped
abbrev pub looked : Counts → Links → (ℕ → Point) → ℕ → Filling
looked C L p n = record { counts = C; links = L; positions = p; answered = n; full = false }

looked-on : (room : ℕ) (C : Counts) (L : Links) (p : ℕ → Point) (n : ℕ) (v : Point)
    → fill_point room (looked C L p n) false v ≡ looked C L p (suc n)
unfolding fill_point
looked-on room C L p n v = refl

-- ---- which points have been looked at, for any list on any mesh
module _ (room : ℕ) (C : Counts) (L : Links) (p : ℕ → Point) (skipped : ℕ → Bool) (point : ℕ → Point) where
  abbrev after : ℕ → Filling
  after n = fill_after room C L p skipped point n

  abbrev inserted : ℕ → Inserting
  inserted i = inserted_at room C L p skipped point i

  -- s after n points. With no refusal all of them have been looked at; else the number is that of a skipped point, the
  -- first whose insertion was refused a flip
  pub record Answers (n : ℕ) (s : Filling) : Type 0 where
    pub all : s.full ≡ false → s.answered ≡ n
    pub short : s.full ≡ true → s.answered < n
    pub at : s.full ≡ true → T (skipped s.answered)
    pub before : s.full ≡ true → (after s.answered).full ≡ false
    pub here : s.full ≡ true → (inserted s.answered).mesh.full ≡ true

  -- all of them
  answers-all : {n : ℕ} {s : Filling} → s.full ≡ false → s.answered ≡ n → Answers n s
  answers-all q a = record {
    all = λ _. a;
    short = λ z. absurd (false≢true (sym q ∙ z));
    at = λ z. absurd (false≢true (sym q ∙ z));
    before = λ z. absurd (false≢true (sym q ∙ z));
    here = λ z. absurd (false≢true (sym q ∙ z));
  }

  answers-on : (n : ℕ) → Answers n (after n) → Answers (suc n) (after (suc n))
  unfolding fill_after fill_point
  answers-on n A = go (after n).full refl (skipped n) refl (inserted n).mesh.full refl
    where
      go : (f : Bool) → (after n).full ≡ f → (b : Bool) → skipped n ≡ b → (g : Bool) → (inserted n).mesh.full ≡ g
          → Answers (suc n)
          (cond f (after n)
          (cond b
          (record {
            counts = (inserted n).mesh.counts;
            links = (inserted n).mesh.links;
            positions = (inserted n).positions;
            answered = cond g (after n).answered (suc (after n).answered);
            full = g;
          }) (passed_by (after n))))
      go true q b k g m = record {
        all = λ z. absurd (false≢true (sym z ∙ q));
        short = λ z. let l = A.short z in omega arith;
        at = A.at;
        before = A.before;
        here = A.here;
      }
      go false q true k true m = let e = A.all q in record {
        all = λ z. absurd (false≢true (sym z));
        short = λ _. omega arith;
        at = λ _. rw (e, k) tt;
        before = λ _. rw e q;
        here = λ _. rw e m;
      }
      go false q true k false m = answers-all refl (ap suc (A.all q))
      go false q false k g m = answers-all refl (ap suc (A.all q))

  pub fill-answered : (n : ℕ) → Answers n (after n)
  unfolding fill_after
  fill-answered zero = answers-all refl refl
  fill-answered (suc n) = answers-on n (fill-answered n)

  -- ---- where none of the first n was refused a flip, all of them were reached
  step-whole : (n : ℕ) → (after (suc n)).full ≡ false → (after n).full ≡ false
  unfolding fill_after fill_point
  step-whole n = go (after n).full refl
    where
      go : (f : Bool) → (after n).full ≡ f
          → (cond f (after n) (cond (skipped n) (filled_by (after n) (inserted n)) (passed_by (after n)))).full ≡ false
          → (after n).full ≡ false
      go true q z = z
      go false q z = q

  pub fill-whole : (n i : ℕ) → i ≤ n → (after n).full ≡ false → (after i).full ≡ false
  fill-whole zero i l f = let q : i ≡ 0 = omega arith in rw q f
  fill-whole (suc n) i l f = go (λ k. fill-whole n i k (step-whole n f)) (ℕ_discrete i (suc n))
    where
      go : (i ≤ n → (after i).full ≡ false) → Dec (i ≡ suc n) → (after i).full ≡ false
      go rest (yes q) = rw q f
      go rest (no q) = rest (omega arith)

  -- points that were not skipped change nothing
  pub fill_none : (n : ℕ) → ((i : ℕ) → i < n → skipped i ≡ false) → after n ≡ looked C L p n
  unfolding fill_after
  fill_none zero h = refl
  fill_none (suc n) h =
      ap₂ (λ (s : Filling) (b : Bool). fill_point room s b (point n)) (fill_none n (λ i l. h i (omega arith))) (h n (omega arith)) ∙ looked-on room C L p n (point n)

-- ---- THE LAW OF THE LIST: N points, each in range, on a good mesh
module _ (room : ℕ) {C : Counts} {L : Links} {p : ℕ → Point} (G : Good C L p) (skipped : ℕ → Bool) (point : ℕ → Point)
    {N : ℕ} (range : (i : ℕ) → i < N → InRange (point i)) where
  abbrev at : ℕ → Filling
  at n = fill_after room C L p skipped point n

  pub fill-good : (n : ℕ) → n ≤ N → Good (at n).counts (at n).links (at n).positions
  unfolding fill_after
  fill-good zero l = G
  fill-good (suc n) l = (fill-point room (at n) (fill-good n (omega arith)) (skipped n) (point n) (range n (omega arith))).good

  fill_step : (n : ℕ) → n < N → Filled room (at n) (skipped n) (point n) (at (suc n))
  unfolding fill_after
  fill_step n l = fill-point room (at n) (fill-good n (omega arith)) (skipped n) (point n) (range n l)

  -- the vertices are those that were there and one for each point that becomes one
  pub fill-vertices : (n : ℕ) → n ≤ N → (at n).counts.vertices ≡ C.vertices + count n (enters room C L p skipped point)
  unfolding fill_after count enters
  fill-vertices zero l = omega arith
  fill-vertices (suc n) l = let a = fill-vertices n (omega arith) in let b = (fill_step n l).vertices in omega arith

  pub fill-grown : (n : ℕ) → n ≤ N → Grown C (at n).counts
  unfolding fill_after
  fill-grown zero l = record { vertices = omega arith; edges = omega arith; faces = omega arith }
  fill-grown (suc n) l =
      let a = fill-grown n (omega arith) in let b = (fill_step n l).grown in
      record { vertices = omega arith; edges = omega arith; faces = omega arith }

  pub fill-untouched : (n : ℕ) → n ≤ N → Untouched (at n).counts L (at n).links
  unfolding fill_after
  fill-untouched zero l = untouched-none
  fill-untouched (suc n) l = untouched-join (fill_step n l).grown (fill-untouched n (omega arith)) (fill_step n l).untouched

  -- positions past the vertices in use are untouched too
  pub fill-past : (n : ℕ) → n ≤ N → (u : ℕ) → (at n).counts.vertices ≤ u → (at n).positions u ≡ p u
  unfolding fill_after
  fill-past zero l u k = refl
  fill-past (suc n) l u k = (fill_step n l).past u k ∙ fill-past n (omega arith) u (let b = (fill_step n l).grown in omega arith)

  -- what is a vertex after n points stays one, where it is, to the point m
  record Kept (n m : ℕ) : Type 0 where
    more : (at n).counts.vertices ≤ (at m).counts.vertices
    same : (u : ℕ) → u < (at n).counts.vertices → (at m).positions u ≡ (at n).positions u

  kept_here : {n m : ℕ} → n ≡ m → Kept n m
  kept_here {n} q = subst (Kept n) q (record { more = omega arith; same = λ u l. refl })

  kept_on : {n m : ℕ} → m < N → Kept n m → Kept n (suc m)
  kept_on {n} {m} k K = record {
    more = let a = K.more in let b = (fill_step m k).vertices in omega arith;
    same = λ u l. (fill_step m k).kept u (let a = K.more in omega arith) ∙ K.same u l;
  }

  kept-to : (m n : ℕ) → m ≤ N → n ≤ m → Kept n m
  kept-to zero n k l = kept_here (omega arith)
  kept-to (suc m) n k l = go (λ j. kept-to m n (omega arith) j) (ℕ_discrete n (suc m))
    where
      go : (n ≤ m → Kept n m) → Dec (n ≡ suc m) → Kept n (suc m)
      go rest (yes q) = kept_here q
      go rest (no q) = kept_on k (rest (omega arith))

  -- the vertices that were there keep their positions
  pub fill-old : (n : ℕ) → n ≤ N → (u : ℕ) → u < C.vertices → (at n).positions u ≡ p u
  unfolding fill_after
  fill-old n k u l = (kept-to n 0 k (omega arith)).same u l

  -- the vertex of a skipped point that was reached is in use and at the point, also after all that follow
  module _ {i n : ℕ} (l : i < n) (k : n ≤ N) (t : T (skipped i)) (f : (at i).full ≡ false) where
    pub fill-used : inserted_vertex room C L p skipped point i < (at n).counts.vertices
    fill-used = let a = (fill_step i (omega arith)).used f t in let b = (kept-to n (suc i) k l).more in omega arith

    pub fill_here : (at n).positions (inserted_vertex room C L p skipped point i) ≡ point i
    fill_here = (kept-to n (suc i) k l).same _ ((fill_step i (omega arith)).used f t) ∙ (fill_step i (omega arith)).here f t

    -- a new one has the next number: after those that were there, and those of the points before it
    pub fill-number : T (is_new (inserted_at room C L p skipped point i).place)
        → inserted_vertex room C L p skipped point i ≡ C.vertices + count i (enters room C L p skipped point)
    fill-number e = next-number (at i).counts (inserted_at room C L p skipped point i).place e ∙ fill-vertices i (omega arith)
