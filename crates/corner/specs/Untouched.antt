-- 01: "mesh and answer entries past the counts in use are untouched": of flips, of corners closed, and of the rows that
-- are made of the links again.
-- Assumes nothing.
use Rattle.std.specs.Prelude.{List, ◌≡◌, refl, ℕ, suc, ◌+◌, ◌*◌, ◌/◌, ◌%◌, ◌<◌, ◌≤◌, ℤ, pos, length, get_or}
use Rattle.std.proofs.Common.{sym, ◌∙◌, ap, ap₂, add-zero, mul-suc, mod-eq_of_lt, arith}
use Rattle.std.proofs.Math.Path.{fun_ext}
use Rattle.std.proofs.Math.Decide.{dec_lt}
use Rattle.std.proofs.Math.Nat.{mul-add-div, div-eq_of_lt, mul-add-mod_self_left, lt_of_mul-lt-mul_left}
use Rattle.std.proofs.Math.ListN.{get_or-eq_default}
use Rattle.corner.specs.Corner.{Extended}
use Rattle.corner.specs.CornerLaws.{Closings, none, then, CornerClosed, closings-good}
use Rattle.dcel.specs.Rows.{halves_of, row_of, position_of, links_of, row_from_of, field, halves_in, halves_from, coordinate, positions_from}
use Rattle.dcel.specs.Views.{length_from, get_or-from}
use Rattle.math.specs.declared.Point.{Point}
use Rattle.mesh.specs.declared.Counts.{Counts}
use Rattle.mesh.specs.Mesh.{Links, In}
use Rattle.mesh.specs.Operations.{flip_between, flip_cw, face_between, create_single_face_between_edge_and_next, with_face, face_adjacent, create_new_face_adjacent_to_edge, with_vertex}
use Rattle.mesh.specs.FlipRun as runs
use Rattle.mesh.specs.FlipRun.{FlipRun}
use Rattle.mesh.proofs.FlipRunLaws.{run-good}
use Rattle.mesh.specs.Good.{Good}
use Rattle.mesh.proofs.GoodLaws.{single-face-good}
use Rattle.mesh.specs.Wf.{Ranges}
use Rattle.sums.specs.Put.{put}
use Rattle.sums.proofs.PutLaws.{put_other}

pub record Untouched (C : Counts) (L L' : Links) : Type 0 where
  pub next : (e : ℕ) → 2 * C.edges ≤ e → L'.next e ≡ L.next e
  pub prev : (e : ℕ) → 2 * C.edges ≤ e → L'.prev e ≡ L.prev e
  pub face : (e : ℕ) → 2 * C.edges ≤ e → L'.face e ≡ L.face e
  pub origin : (e : ℕ) → 2 * C.edges ≤ e → L'.origin e ≡ L.origin e
  pub out : (v : ℕ) → C.vertices ≤ v → L'.out v ≡ L.out v
  pub adjacent : (f : ℕ) → C.faces ≤ f → L'.adjacent f ≡ L.adjacent f

-- nothing was changed, or one change after another with counts that do not shrink
pub untouched-none : {C : Counts} {L : Links} → Untouched C L L
untouched-none = record { next = λ e _. refl; prev = λ e _. refl; face = λ e _. refl; origin = λ e _. refl; out = λ v _. refl; adjacent = λ f _. refl }

-- counts that have not shrunk
pub record Grown (C C' : Counts) : Type 0 where
  pub vertices : C.vertices ≤ C'.vertices
  pub edges : C.edges ≤ C'.edges
  pub faces : C.faces ≤ C'.faces

pub untouched-join : {C C' : Counts} {L L' L'' : Links} → Grown C C' → Untouched C L L' → Untouched C' L' L'' → Untouched C' L L''
untouched-join g a b = record {
  next = λ e l. b.next e l ∙ a.next e (omega arith);
  prev = λ e l. b.prev e l ∙ a.prev e (omega arith);
  face = λ e l. b.face e l ∙ a.face e (omega arith);
  origin = λ e l. b.origin e l ∙ a.origin e (omega arith);
  out = λ v l. b.out v l ∙ a.out v (omega arith);
  adjacent = λ f l. b.adjacent f l ∙ a.adjacent f (omega arith);
}

-- ---- the three operations, by the ranges alone: a line, which breaks other rules, keeps them too
-- a store below n is not seen from n on
pub past : {A : Type 0} (f : ℕ → A) (a : ℕ) (v : A) {n x : ℕ} → n ≤ x → a < n → put f a v x ≡ f x
past {A} f a v {n} {x} l m = put_other f a v x (λ q. omega arith)

pub flip-untouched : {C : Counts} {L : Links} → Ranges C L → {u : ℕ} → u < C.edges → Untouched C L (flip_cw L u)
unfolding flip_cw flip_between
flip-untouched {C} {L} R {u} l =
    let e : In C (2 * u) = omega arith in
    let t : In C (2 * u + 1) = omega arith in
    let en = R.next< e in let ep = R.prev< e in
    let tn = R.next< t in let tp = R.prev< t in
    record {
      next = λ x k. past _ _ _ k tn ∙ past _ _ _ k ep ∙ past _ _ _ k t ∙ past _ _ _ k en ∙ past _ _ _ k tp ∙ past _ _ _ k e;
      prev = λ x k. past _ _ _ k t ∙ past _ _ _ k tn ∙ past _ _ _ k ep ∙ past _ _ _ k e ∙ past _ _ _ k en ∙ past _ _ _ k tp;
      face = λ x k. past _ _ _ k ep ∙ past _ _ _ k tp;
      origin = λ x k. past _ _ _ k t ∙ past _ _ _ k e;
      out = λ v k. past _ _ _ k (R.origin< t) ∙ past _ _ _ k (R.origin< e);
      adjacent = λ f k. past _ _ _ k (R.face< t) ∙ past _ _ _ k (R.face< e);
    }

pub single-face-untouched : {C : Counts} {L : Links} → Ranges C L → {e : ℕ} → In C e
    → Untouched (with_face C) L (create_single_face_between_edge_and_next L C e)
unfolding create_single_face_between_edge_and_next face_between
single-face-untouched {C} {L} R {e} l =
    let p = R.prev< l in let n = R.next< l in let q = R.next< n in
    let e' : In (with_face C) e = omega arith in
    let p' : In (with_face C) (L.prev e) = omega arith in
    let n' : In (with_face C) (L.next e) = omega arith in
    let q' : In (with_face C) (L.next (L.next e)) = omega arith in
    let i : In (with_face C) (2 * C.edges) = omega arith in
    let o : In (with_face C) (2 * C.edges + 1) = omega arith in
    record {
      next = λ x k. past _ _ _ k p' ∙ past _ _ _ k o ∙ past _ _ _ k n' ∙ past _ _ _ k i;
      prev = λ x k. past _ _ _ k o ∙ past _ _ _ k q' ∙ past _ _ _ k i ∙ past _ _ _ k e';
      face = λ x k. past _ _ _ k n' ∙ past _ _ _ k e' ∙ past _ _ _ k o ∙ past _ _ _ k i;
      origin = λ x k. past _ _ _ k o ∙ past _ _ _ k i;
      out = λ v k. refl;
      adjacent = λ f k. past _ _ _ k (let g : C.faces < C.faces + 1 = omega arith in g) ∙ past _ _ _ k (let g : 0 < C.faces + 1 = omega arith in g);
    }

-- the new vertex and its first face
pub new-face-untouched : {C : Counts} {L : Links} → Ranges C L → {e : ℕ} → In C e
    → Untouched (with_vertex C) L (create_new_face_adjacent_to_edge L C e)
unfolding create_new_face_adjacent_to_edge face_adjacent
new-face-untouched {C} {L} R {e} l =
    let p = R.prev< l in let n = R.next< l in
    let e' : In (with_vertex C) e = omega arith in
    let p' : In (with_vertex C) (L.prev e) = omega arith in
    let n' : In (with_vertex C) (L.next e) = omega arith in
    let a : In (with_vertex C) (2 * C.edges) = omega arith in
    let a' : In (with_vertex C) (2 * C.edges + 1) = omega arith in
    let b : In (with_vertex C) (2 * C.edges + 2) = omega arith in
    let b' : In (with_vertex C) (2 * C.edges + 2 + 1) = omega arith in
    record {
      next = λ x k. past _ _ _ k p' ∙ past _ _ _ k e' ∙ past _ _ _ k b' ∙ past _ _ _ k b ∙ past _ _ _ k a' ∙ past _ _ _ k a;
      prev = λ x k. past _ _ _ k n' ∙ past _ _ _ k e' ∙ past _ _ _ k b' ∙ past _ _ _ k b ∙ past _ _ _ k a' ∙ past _ _ _ k a;
      face = λ x k. past _ _ _ k e' ∙ past _ _ _ k b' ∙ past _ _ _ k b ∙ past _ _ _ k a' ∙ past _ _ _ k a;
      origin = λ x k. past _ _ _ k b' ∙ past _ _ _ k b ∙ past _ _ _ k a' ∙ past _ _ _ k a;
      out = λ v k. past _ _ _ k (let g : C.vertices < C.vertices + 1 = omega arith in g);
      adjacent = λ f k. past _ _ _ k (let g = R.face< l in let h : L.face e < C.faces + 1 = omega arith in h) ∙ past _ _ _ k (let g : C.faces < C.faces + 1 = omega arith in g);
    }

-- ---- sequences of them
grown-same : {C : Counts} → Grown C C
grown-same = record { vertices = omega arith; edges = omega arith; faces = omega arith }

pub run-untouched : {C : Counts} {p : ℕ → Point} {L M : Links} {n : ℕ} → Good C L p → FlipRun C p L M n → Untouched C L M
run-untouched G runs.none = untouched-none
run-untouched G (runs.then r u l b) = untouched-join grown-same (run-untouched G r) (flip-untouched (run-good G r).wf.ranges l)

corner-untouched : {p : ℕ → Point} {m m' : Extended} {e : ℕ} → Good m.counts m.links p → CornerClosed p m m' e
    → Untouched m'.counts m.links m'.links
corner-untouched {p} {m} {m'} G S =
    rw S.counts (untouched-join grown-same (single-face-untouched G.wf.ranges S.edge) (run-untouched (single-face-good G S.edge S.outer S.left) S.run))

pub closings-untouched : {p : ℕ → Point} {m n : Extended} → Good m.counts m.links p → Closings p m n
    → Untouched n.counts m.links n.links
closings-untouched G none = untouched-none
closings-untouched {n = n} G (then {k = k} a e S) =
    let v = ap (λ (C : Counts). C.vertices) S.counts in
    let u = ap (λ (C : Counts). C.edges) S.counts in
    let w = ap (λ (C : Counts). C.faces) S.counts in
    untouched-join (record { vertices = omega arith; edges = omega arith; faces = omega arith }) (closings-untouched G a) (corner-untouched (closings-good G a) S)

-- flips after them
pub untouched-flips : {C : Counts} {L L' L'' : Links} → Untouched C L L' → Untouched C L' L'' → Untouched C L L''
untouched-flips a b = untouched-join grown-same a b

-- ---- the rows that are made of such links hold them
-- rows with room for the counts
pub record Holding (C : Counts) (o h a : List ℕ) : Type 0 where
  pub outs : C.vertices ≤ length o
  pub halves : 8 * C.edges ≤ length h
  pub faces : C.faces ≤ length a

-- a row that is made of f has what f has also past its end, where f has nothing
row_back : {A : Type 0} (l : List A) (d : A) (f : ℕ → A) (i : ℕ) → (length l ≤ i → f i ≡ d) → get_or (row_from_of (length l) f) i d ≡ f i
row_back {A} l d f i absent = go (dec_lt i (length l))
  where
    go : Dec (i < length l) → get_or (row_from_of (length l) f) i d ≡ f i
    go (yes b) = get_or-from (length l) f d i b
    go (no b) = let s = length_from (length l) f in get_or-eq_default (row_from_of (length l) f) d (omega arith) ∙ sym (absent (omega arith))

-- s entries to each number x: entry s * x + k is g x k. From the number n on they are those of the row before
strided-back : {A : Type 0} (s : ℕ) (l : List A) (d : A) (g : ℕ → ℕ → A) (n k : ℕ) → k < s → s * n ≤ length l
    → ((x : ℕ) → n ≤ x → g x k ≡ get_or l (s * x + k) d)
    → (x : ℕ) → get_or (row_from_of (length l) (λ i. g (i / s) (i % s))) (s * x + k) d ≡ g x k
strided-back {A} s l d g n k b m u x = row_back l d (λ i. g (i / s) (i % s)) (s * x + k) (λ w. at_place ∙ u x (past-n w) ∙ get_or-eq_default l d w) ∙ at_place
  where
    at_place : g ((s * x + k) / s) ((s * x + k) % s) ≡ g x k
    at_place = ap₂ g (mul-add-div (omega arith) x k ∙ ap (λ (y : ℕ). x + y) (div-eq_of_lt b) ∙ add-zero x) (mul-add-mod_self_left s x k ∙ mod-eq_of_lt b)

    past-n : length l ≤ s * x + k → n ≤ x
    past-n w = let e = mul-suc s x in let y : n < suc x = lt_of_mul-lt-mul_left s (omega arith) in omega arith

-- field k of half-edge x
half_back : (h : List ℕ) (L : Links) (n k : ℕ) → k < 4 → 8 * n ≤ length h
    → ((x : ℕ) → 2 * n ≤ x → field (halves_in L) x k ≡ get_or h (4 * x + k) 0)
    → (x : ℕ) → get_or (halves_from (length h) L) (4 * x + k) 0 ≡ field (halves_in L) x k
unfolding halves_from
half_back h L n k l m = strided-back 4 h 0 (field (halves_in L)) (2 * n) k l (omega arith)

-- nothing more stands between a number and its first entry
zero_more : (s x : ℕ) → s * x ≡ s * x + 0
zero_more s x = omega arith

-- the row that is made of positions holds them, where it held those of the vertices from n on
pub positions-back : (q : List ℤ) (P : ℕ → Point) (n : ℕ) → 2 * n ≤ length q
    → ((v : ℕ) → n ≤ v → P v ≡ position_of q v) → position_of (positions_from (length q) P) ≡ P
unfolding position_of positions_from coordinate
positions-back q P n m u = fun_ext (λ v. ap₂ point-of (first v) (second v))
  where
    point-of : ℤ → ℤ → Point
    point-of x y = record { x = x; y = y }

    row : List ℤ
    row = row_from_of (length q) (λ i. coordinate (P (i / 2)) (i % 2))

    first : (v : ℕ) → get_or row (2 * v) (pos 0) ≡ (P v).x
    first v =
        ap (λ (j : ℕ). get_or row j (pos 0)) (zero_more 2 v)
        ∙ strided-back 2 q (pos 0) (λ v k. coordinate (P v) k) n 0 (omega arith) m (λ v l. ap (λ (w : Point). w.x) (u v l) ∙ ap (λ (j : ℕ). get_or q j (pos 0)) (zero_more 2 v)) v

    second : (v : ℕ) → get_or row (2 * v + 1) (pos 0) ≡ (P v).y
    second v = strided-back 2 q (pos 0) (λ v k. coordinate (P v) k) n 1 (omega arith) m (λ v l. ap (λ (w : Point). w.y) (u v l)) v

links-of : (ℕ → ℕ) → (ℕ → ℕ) → (ℕ → ℕ) → (ℕ → ℕ) → (ℕ → ℕ) → (ℕ → ℕ) → Links
links-of n p f o u a = record { next = n; prev = p; face = f; origin = o; out = u; adjacent = a }

pub rows_back : {C : Counts} {o h a : List ℕ} {L : Links} → Holding C o h a → Untouched C (links_of o h a) L
    → links_of (row_from_of (length o) L.out) (halves_from (length h) L) (row_from_of (length a) L.adjacent) ≡ L
unfolding links_of halves_of row_of field halves_in links-of
rows_back {C} {o} {h} {a} {L} R U =
    let n = fun_ext (λ x. ap (λ (j : ℕ). get_or (halves_from (length h) L) j 0) (zero_more 4 x) ∙ half_back h L C.edges 0 (omega arith) R.halves (λ x l. U.next x l ∙ ap (λ (j : ℕ). get_or h j 0) (zero_more 4 x)) x) in
    let p = fun_ext (half_back h L C.edges 1 (omega arith) R.halves U.prev) in
    let f = fun_ext (half_back h L C.edges 2 (omega arith) R.halves U.face) in
    let g = fun_ext (half_back h L C.edges 3 (omega arith) R.halves U.origin) in
    let u = fun_ext (λ i. row_back o 0 L.out i (λ w. U.out i (let k = R.outs in omega arith) ∙ get_or-eq_default o 0 w)) in
    let v = fun_ext (λ i. row_back a 0 L.adjacent i (λ w. U.adjacent i (let k = R.faces in omega arith) ∙ get_or-eq_default a 0 w)) in
    rw (n, p, f, g, u, v) refl
