-- The neighbours of a point on the line, and the whole of the search, from what their parts answer. Assumes nothing.
use Rattle.std.specs.Prelude.{Bool, true, false, cond, List, Option, Some, None, ◌≢◌, ◌≡◌, ℕ, ◌+◌, ◌*◌, ◌<◌, ◌≤◌, ltb, ℤ, pos, length}
use Rattle.std.proofs.Math.Path.{refl, ap₂}
use Rattle.std.proofs.Common.{sym, ◌∙◌, ap, subst, arith, lt-ltb, le-ltb}
use Rattle.std.proofs.Math.Decide.{dec_le}
use borrow.Author.Tests.{eq-eqb, ne_eqb}
use Rattle.std.specs.Int.Signed.{lt_z}
use Rattle.dcel.specs.Rows.{halves_of, row_of, links_of, position_of, There, Placed}
use Rattle.line.specs.declared.PositionWhenAllVerticesOnLine.{PositionWhenAllVerticesOnLine}
use Rattle.line.specs.declared.PositionWhenAllVerticesOnLine.TheVariants.{OnEdge, OnVertex, NotOnLine, ExtendingLine}
use Rattle.line.proofs.GrowLawsFacts.{line-distinct}
use Rattle.line.specs.Locate.{vertex_on, last_before, first_after, edge_from_neighbors, locate_on_line, locate_when_all_vertices_on_line}
use Rattle.line.proofs.ChainRules.{chain-rules}
use Rattle.math.specs.declared.Point.{Point}
use Rattle.math.specs.Determinant.{InRange, orient2d}
use Rattle.math.proofs.Side.{by_left, by_right, by-line}
use Rattle.mesh.specs.declared.Counts.{Counts}
use Rattle.mesh.specs.Mesh.{Links, In}
use Rattle.sums.proofs.BoundedLaws.{first-below-le}
use Rattle.sums.specs.Half.{rev}
use Rattle.sums.proofs.HalfLaws.{rev-below}
use Rattle.line_search.specs.declared.Neighbors.{Neighbors}
use Rattle.line_search.specs.declared.Neighbors.TheVariants.{Vertex, Between}
use Rattle.line_search.specs.LineRows.{LineReady, VerticesReady, OutReady, FoundIs, NeighborsReady, FoundReady, neighbor, number_of, neighbors_of, at_neighbors}

-- ---- the edge between two neighbours
module _ (o h : List ℕ) (v u : ℕ) {e w : ℕ} (x : e ≡ row_of o v) (y : w ≡ (halves_of h).origin (rev e)) where
  leads : w ≡ (halves_of h).origin (rev (row_of o v))
  leads = y ∙ ap (λ (e : ℕ). (halves_of h).origin (rev e)) x

  pub out-edge : w ≡ u → (a : List ℕ) → e ≡ edge_from_neighbors (links_of o h a) v u
  unfolding edge_from_neighbors links_of
  out-edge z a = rw (x, eq-eqb ((halves_of h).origin (rev (row_of o v))) u (sym leads ∙ z)) refl

  pub other_edge : w ≢ u → {d r : ℕ} → d ≡ (halves_of h).prev e → r ≡ rev d → (a : List ℕ) → r ≡ edge_from_neighbors (links_of o h a) v u
  unfolding edge_from_neighbors links_of
  other_edge z i j a = rw (j, i, x, ne_eqb ((halves_of h).origin (rev (row_of o v))) u (λ k. z (leads ∙ k))) refl

module _ {o h : List ℕ} {v e : ℕ} (R : OutReady o h v) (x : e ≡ row_of o v) where
  pub out-here : There h e
  out-here = rw x R.here

  pub out-back : There h (rev e)
  out-back = rw x R.back

-- ---- by the two neighbours
module _ (C : Counts) (o h : List ℕ) (b c : ℕ) where
  pub no-before : b ≡ C.vertices → (a : List ℕ) → ExtendingLine c ≡ at_neighbors C (links_of o h a) b c
  unfolding at_neighbors
  no-before x a = rw (eq-eqb b C.vertices x) refl

  module _ (x : b ≢ C.vertices) where
    pub no-after : c ≡ C.vertices → (a : List ℕ) → ExtendingLine b ≡ at_neighbors C (links_of o h a) b c
    unfolding at_neighbors
    no-after y a = rw (ne_eqb b C.vertices x, eq-eqb c C.vertices y) refl

    pub both-there : c ≢ C.vertices → {e : ℕ} → ((a : List ℕ) → e ≡ edge_from_neighbors (links_of o h a) c b) → (a : List ℕ)
        → OnEdge e ≡ at_neighbors C (links_of o h a) b c
    unfolding at_neighbors
    both-there y z a = rw (ne_eqb b C.vertices x, ne_eqb c C.vertices y) (ap OnEdge (z a))

pub after-out : {C : Counts} {o h : List ℕ} {c : ℕ} → NeighborsReady C o h c → c ≢ C.vertices → OutReady o h c
after-out N x = N.out (let k = N.most in omega arith)

-- the same of the two as the pass answers them
module _ {C : Counts} {o h : List ℕ} {b c : Option ℕ} (N : FoundReady C o h b c) where
  pub none-before : b ≡ None → {v : ℕ} → c ≡ Some v → (a : List ℕ)
      → ExtendingLine v ≡ at_neighbors C (links_of o h a) (number_of C b) (number_of C c)
  none-before x {v} y a = rw (x, y) (no-before C o h C.vertices v refl a)

  module _ {u : ℕ} (x : b ≡ Some u) where
    before-used : u ≢ C.vertices
    before-used e = let l = N.found.low x in omega arith

    pub none-after : c ≡ None → (a : List ℕ) → ExtendingLine u ≡ at_neighbors C (links_of o h a) (number_of C b) (number_of C c)
    none-after y a = rw (x, y) (no-after C o h u C.vertices before-used refl a)

    module _ {v : ℕ} (y : c ≡ Some v) where
      after-used : v ≢ C.vertices
      after-used e = let l = N.found.high y in omega arith

      pub found-out : OutReady o h v
      found-out = after-out (subst (λ (x : Option ℕ). NeighborsReady C o h (number_of C x)) y N.ready) after-used

      pub both-found : {e : ℕ} → ((a : List ℕ) → e ≡ edge_from_neighbors (links_of o h a) v u) → (a : List ℕ)
          → OnEdge e ≡ at_neighbors C (links_of o h a) (number_of C b) (number_of C c)
      both-found z a = rw (x, y) (both-there C o h u v before-used after-used z a)

-- ---- a point on the line: `locate_on_line` goes by what the pass answers
abbrev place_of : Counts → Links → Neighbors → PositionWhenAllVerticesOnLine
place_of C L (Vertex v) = OnVertex v
place_of C L (Between b c) = at_neighbors C L (number_of C b) (number_of C c)

number-is : (C : Counts) (v : ℕ) → v ≤ C.vertices → number_of C (neighbor C v) ≡ v
number-is C v l = go (dec_le C.vertices v)
  where
    go : Dec (C.vertices ≤ v) → number_of C (neighbor C v) ≡ v
    go (yes m) = rw (le-ltb v C.vertices m) (omega arith)
    go (no m) = rw (lt-ltb v C.vertices (omega arith)) refl

place_is : (C : Counts) (L : Links) (p : ℕ → Point) (q : Point) → locate_on_line C L p q ≡ place_of C L (neighbors_of C p q)
unfolding locate_on_line neighbors_of at_neighbors last_before first_after
place_is C L p q = go (ltb (vertex_on C p q) C.vertices)
  where
    v : ℕ
    v = vertex_on C p q

    go : (t : Bool) → cond t (OnVertex v) (at_neighbors C L (last_before C p q) (first_after C p q))
        ≡ place_of C L (cond t (Vertex v) (Between (neighbor C (last_before C p q)) (neighbor C (first_after C p q))))
    go true = refl
    go false =
        ap₂ (at_neighbors C L) (sym (number-is C (last_before C p q) (first-below-le C.vertices _)))
        (sym (number-is C (first_after C p q) (first-below-le C.vertices _)))

after-most : (C : Counts) (p : ℕ → Point) (q : Point) {b c : Option ℕ} → Between b c ≡ neighbors_of C p q → number_of C c ≤ C.vertices
unfolding neighbors_of first_after
after-most C p q {b} {c} e = go (ltb (vertex_on C p q) C.vertices) (ap second e)
  where
    second : Neighbors → ℕ
    second (Vertex v) = 0
    second (Between b c) = number_of C c

    go : (t : Bool) → number_of C c
        ≡ second (cond t (Vertex (vertex_on C p q)) (Between (neighbor C (last_before C p q)) (neighbor C (first_after C p q)))) → number_of C c ≤ C.vertices
    go true i = omega arith
    go false i =
        let m : first_after C p q ≤ C.vertices = first-below-le C.vertices _ in
        let k = number-is C (first_after C p q) m in
        rw (i, k) m

module _ {C : Counts} {q : List ℤ} {o h : List ℕ} {point : Point} (R : LineReady C q o h point) where
  there : {e : ℕ} → In C e → There h e
  there l = let k = R.halves in omega arith

  origin-in : {e : ℕ} → In C e → (halves_of h).origin e < C.vertices
  unfolding links_of
  origin-in l = (chain-rules R.line.chain).ranges.origin< l

  placed : {v : ℕ} → v < C.vertices → Placed q v
  placed l = record { there = let k = R.positions in omega arith; range = R.line.range l }

  pub vertices-ready : VerticesReady C q point
  vertices-ready = record { there = R.positions; range = R.line.range; distinct = line-distinct R.line; point-range = R.range }

  pub vertices-some : 0 < C.vertices
  vertices-some = let s = R.line.chain.some in let k = origin-in {e = 0} (omega arith) in omega arith

  out-ready : {v : ℕ} → v < C.vertices → OutReady o h v
  unfolding links_of
  out-ready {v} l = let i : In C (row_of o v) = R.line.chain.out< l in
      record { out = let k = R.outs in omega arith; here = there i; back = there (rev-below C.edges i) }

  module _ {s : Neighbors} (x : s ≡ neighbors_of C (position_of q) point) where
    pub place-vertex : {v : ℕ} → s ≡ Vertex v → (a : List ℕ) → OnVertex v ≡ locate_on_line C (links_of o h a) (position_of q) point
    place-vertex i a = sym (place_is C (links_of o h a) (position_of q) point ∙ ap (place_of C (links_of o h a)) (sym x ∙ i))

    module _ {b c : Option ℕ} (i : s ≡ Between b c) where
      pub neighbors-ready : NeighborsReady C o h (number_of C c)
      neighbors-ready = record { most = after-most C (position_of q) point (sym i ∙ x); out = out-ready }

      pub found-ready : FoundIs C s → FoundReady C o h b c
      found-ready g = record { found = subst (FoundIs C) i g; ready = neighbors-ready }

      pub place-between : {r : PositionWhenAllVerticesOnLine} → ((a : List ℕ) → r ≡ at_neighbors C (links_of o h a) (number_of C b) (number_of C c)) → (a : List ℕ)
          → r ≡ locate_on_line C (links_of o h a) (position_of q) point
      place-between y a = y a ∙ sym (place_is C (links_of o h a) (position_of q) point ∙ ap (place_of C (links_of o h a)) (sym x ∙ i))

  -- ---- the side of half-edge 0, which goes from u at f to w at t
  first-in : In C 0
  first-in = let s = R.line.chain.some in omega arith

  pub first-there : There h 0
  first-there = there first-in

  pub first_back : There h (rev 0)
  first_back = there (rev-below C.edges first-in)

  module _ {u : ℕ} (x : u ≡ (halves_of h).origin 0) where
    from-placed : Placed q u
    from-placed = rw x (placed (origin-in first-in))

    pub from-there : 2 * u + 1 < length q
    from-there = from-placed.there

    module _ {f : Point} (y : f ≡ position_of q u) {w : ℕ} (z : w ≡ (halves_of h).origin (rev 0)) where
      to-placed : Placed q w
      to-placed = rw z (placed (origin-in (rev-below C.edges first-in)))

      pub to-there : 2 * w + 1 < length q
      to-there = to-placed.there

      module _ {t : Point} (k : t ≡ position_of q w) where
        pub first_range : InRange f × InRange t × InRange point
        first_range = (rw y from-placed.range, rw k to-placed.range, R.range)

        module _ {s : ℤ} (m : s ≡ orient2d f t point) where
          side-is : orient2d (position_of q ((halves_of h).origin 0)) (position_of q ((halves_of h).origin (rev 0))) point ≡ s
          side-is = sym (m ∙ rw (y, x, k, z) refl)

          pub off-left : lt_z (pos 0) s ≡ true → (a : List ℕ)
              → NotOnLine 0 ≡ locate_when_all_vertices_on_line C (links_of o h a) (position_of q) point
          unfolding locate_when_all_vertices_on_line links_of
          off-left i a = rw side-is (sym (by_left s _ _ _ i))

          module _ (i : lt_z (pos 0) s ≡ false) where
            pub off-right : lt_z s (pos 0) ≡ true → (a : List ℕ)
                → NotOnLine 1 ≡ locate_when_all_vertices_on_line C (links_of o h a) (position_of q) point
            unfolding locate_when_all_vertices_on_line links_of rev
            off-right j a = rw side-is (sym (by_right s _ _ _ i j))

            pub on_line : lt_z s (pos 0) ≡ false → {r : PositionWhenAllVerticesOnLine}
                → ((a : List ℕ) → r ≡ locate_on_line C (links_of o h a) (position_of q) point) → (a : List ℕ)
                → r ≡ locate_when_all_vertices_on_line C (links_of o h a) (position_of q) point
            unfolding locate_when_all_vertices_on_line links_of
            on_line j g a = g a ∙ rw side-is (sym (by-line s _ _ _ i j))
