-- Laws of the rows seen as functions, for the callers: the links of the three rows are those of each row, a row's
-- functions and its length fix the row over its whole length, and the far vertex by cases. Assumes nothing.
use Prim.Native.Nat.{ℕ, zero, suc, ◌+◌, ◌*◌, ◌/◌, ◌%◌, ◌<◌}
use native.Mathlib.Omega.{arith}
use Rattle.std.specs.Prelude.{◌≡◌, ◌≢◌, List, ℤ, pos, length}
use Rattle.std.proofs.Math.Path.{refl, ap}
use Rattle.std.proofs.Common.{sym, ◌∙◌, ext_get_or}
use Rattle.std.proofs.Math.ListN.{get_or}
use Rattle.math.specs.declared.Point.{Point}
use Rattle.mesh.specs.Mesh.{Links}
use Rattle.dcel.specs.declared.handles.Far.{Far}
use Rattle.dcel.specs.Rows.{halves_of, row_of, position_of, links_of, row_from_of, field, halves_in, halves_from, coordinate, positions_from}
use Rattle.dcel.specs.Far.{far_in, far_of}
use Rattle.dcel.specs.MeshRows.{MeshRows, mesh_rows, links_in, places_in, mesh_rows_from, SameLengths}

-- what an accessor ensures, `r ≡ (halves_of h).next e`, as a fact of the links: `c.next.ensures ∙ next_of _ _ _ _`
module _ (o h a : List ℕ) (x : ℕ) where
  pub next_of : (halves_of h).next x ≡ (links_of o h a).next x
  unfolding links_of
  next_of = refl

  pub prev-of : (halves_of h).prev x ≡ (links_of o h a).prev x
  unfolding links_of
  prev-of = refl

  pub face-of : (halves_of h).face x ≡ (links_of o h a).face x
  unfolding links_of
  face-of = refl

  pub origin-of : (halves_of h).origin x ≡ (links_of o h a).origin x
  unfolding links_of
  origin-of = refl

  pub out_of : row_of o x ≡ (links_of o h a).out x
  unfolding links_of
  out_of = refl

  pub adjacent-of : row_of a x ≡ (links_of o h a).adjacent x
  unfolding links_of
  adjacent-of = refl

  pub far-of : far_in ((halves_of h).face x) ((halves_of h).origin ((halves_of h).prev x)) ≡ far_of (links_of o h a) x
  unfolding links_of far_of
  far-of = refl

pub far-outer : (f v : ℕ) → f ≡ 0 → far_in f v ≡ Far.Outer
unfolding far_in
far-outer zero v e = refl
far-outer (suc f) v e = absurd (omega arith)

pub far-inner : (f v : ℕ) → f ≢ 0 → far_in f v ≡ Far.Vertex v
unfolding far_in
far-inner zero v n = absurd (n refl)
far-inner (suc f) v n = refl

module _ {A : Type 0} where
  pub length_from : (n : ℕ) (f : ℕ → A) → length (row_from_of n f) ≡ n
  unfolding row_from_of
  length_from zero f = refl
  length_from (suc n) f = ap suc (length_from n (λ i. f (suc i)))

  pub get_or-from : (n : ℕ) (f : ℕ → A) (d : A) (i : ℕ) → i < n → get_or (row_from_of n f) i d ≡ f i
  unfolding row_from_of
  get_or-from zero f d i l = absurd (omega arith)
  get_or-from (suc n) f d zero l = refl
  get_or-from (suc n) f d (suc i) l = get_or-from n (λ i. f (suc i)) d i (omega arith)

  -- a row is made of its own entries
  pub from_entries : (l : List A) (f : ℕ → A) (d : A) → ((i : ℕ) → get_or l i d ≡ f i) → l ≡ row_from_of (length l) f
  from_entries l f d e =
      ext_get_or d l (row_from_of (length l) f) (sym (length_from (length l) f)) (λ i k. e i ∙ sym (get_or-from (length l) f d i k))

field_is : (h : List ℕ) (x k : ℕ) → k < 4 → get_or h (4 * x + k) 0 ≡ field (halves_of h) x k
unfolding field halves_of
field_is h x zero l = ap (λ (j : ℕ). get_or h j 0) (omega arith)
field_is h x (suc zero) l = refl
field_is h x (suc (suc zero)) l = refl
field_is h x (suc (suc (suc zero))) l = refl
field_is h x (suc (suc (suc (suc k)))) l = absurd (omega arith)

-- each row at the end of a call, over its whole length, from the links that the call's contract gives and the length that every call keeps
module _ (o h a : List ℕ) (L : Links) (e : links_of o h a ≡ L) where
  pub outs-from : (n : ℕ) → length o ≡ n → o ≡ row_from_of n L.out
  unfolding links_of row_of
  outs-from n k = rw (← k) (from_entries o L.out 0 (λ i. ap (λ (M : Links). M.out i) e))

  pub faces-from : (n : ℕ) → length a ≡ n → a ≡ row_from_of n L.adjacent
  unfolding links_of row_of
  faces-from n k = rw (← k) (from_entries a L.adjacent 0 (λ i. ap (λ (M : Links). M.adjacent i) e))

  entry : (i : ℕ) → get_or h i 0 ≡ field (halves_in L) (i / 4) (i % 4)
  unfolding links_of halves_in
  entry i =
      let k : i ≡ 4 * (i / 4) + i % 4 = omega arith in
      ap (λ (j : ℕ). get_or h j 0) k ∙ field_is h (i / 4) (i % 4) (omega arith) ∙ ap (λ (M : Links). field (halves_in M) (i / 4) (i % 4)) e

  pub halves-from : (n : ℕ) → length h ≡ n → h ≡ halves_from n L
  unfolding halves_from
  halves-from n k = rw (← k) (from_entries h (λ i. field (halves_in L) (i / 4) (i % 4)) 0 entry)

coordinate-is : (p : List ℤ) (v k : ℕ) → k < 2 → get_or p (2 * v + k) (pos 0) ≡ coordinate (position_of p v) k
unfolding coordinate position_of
coordinate-is p v zero l = ap (λ (j : ℕ). get_or p j (pos 0)) (omega arith)
coordinate-is p v (suc zero) l = refl
coordinate-is p v (suc (suc k)) l = absurd (omega arith)

pub positions-from : (p : List ℤ) (P : ℕ → Point) → position_of p ≡ P → (n : ℕ) → length p ≡ n → p ≡ positions_from n P
unfolding positions_from
positions-from p P e n k = rw (← k) (from_entries p (λ i. coordinate (P (i / 2)) (i % 2)) (pos 0) entry_at)
  where
    entry_at : (i : ℕ) → get_or p i (pos 0) ≡ coordinate (P (i / 2)) (i % 2)
    entry_at i =
        let k : i ≡ 2 * (i / 2) + i % 2 = omega arith in
        ap (λ (j : ℕ). get_or p j (pos 0)) k ∙ coordinate-is p (i / 2) (i % 2) (omega arith) ∙ ap (λ (Q : ℕ → Point). coordinate (Q (i / 2)) (i % 2)) e

-- ---- the four rows together, at the end of a call
mesh-rows-are : {q q' : List ℤ} {o o' h h' a a' : List ℕ} → q ≡ q' → o ≡ o' → h ≡ h' → a ≡ a' → mesh_rows q o h a ≡ mesh_rows q' o' h' a'
mesh-rows-are i j k l = rw (i, j, k, l) refl

pub mesh-rows-from : {m m' : MeshRows} {L : Links} {p : ℕ → Point} → SameLengths m m' → links_in m' ≡ L → places_in m' ≡ p
    → m' ≡ mesh_rows_from m L p
unfolding mesh_rows_from
mesh-rows-from {m} {m'} {L} {p} S e d =
    mesh-rows-are
    (positions-from m'.positions p d (length m.positions) S.positions)
    (outs-from m'.outs m'.halves m'.faces L e (length m.outs) S.outs)
    (halves-from m'.outs m'.halves m'.faces L e (length m.halves) S.halves)
    (faces-from m'.outs m'.halves m'.faces L e (length m.faces) S.faces)

-- rows that are made of the mesh that they hold are the same
pub mesh-rows-same : (m : MeshRows) → mesh_rows_from m (links_in m) (places_in m) ≡ m
mesh-rows-same m = sym (mesh-rows-from (record { positions = refl; outs = refl; halves = refl; faces = refl }) refl refl)

pub lengths-from : (m : MeshRows) (L : Links) (p : ℕ → Point) → SameLengths m (mesh_rows_from m L p)
unfolding mesh_rows_from halves_from positions_from
lengths-from m L p = record {
  positions = length_from (length m.positions) _;
  outs = length_from (length m.outs) L.out;
  halves = length_from (length m.halves) _;
  faces = length_from (length m.faces) L.adjacent;
}
