-- What each operation on a line stores in the row of half-edges, what it touches, and what it ensures. The links that
-- they make are those of `Operations` in line.
use Rattle.std.specs.Prelude.{Bool, true, false, ℕ, ◌+◌, ◌*◌, ◌<◌, ◌^◌, ◌≡◌, List, eqb, length}
use Rattle.mesh.specs.declared.Counts.{Counts}
use Rattle.sums.specs.Half.{rev}
use Rattle.line.specs.Operations.{extend_line, split_edge_when_all_vertices_on_line, with_line_vertex}
use Rattle.dcel.specs.Rows.{Halves, halves_of, row_of, links_of, There, set_next, set_prev, set_origin, set_half_edge}

-- the halves of a new edge, both in the face f: n from v, with the next a and the prev p, and n + 1 from w, with b and q
unfoldable pub set_edge : Halves → ℕ → ℕ → ℕ → ℕ → ℕ → ℕ → ℕ → ℕ → Halves
set_edge H n f v a p w b q =
    let H₁ = set_half_edge H n (record { next = a; prev = p; face = f; origin = v }) in
    set_half_edge H₁ (n + 1) (record { next = b; prev = q; face = f; origin = w })

-- all that `setup_initial_two_vertices` touches is in the rows
pub record InitialReady (o h a : List ℕ) (first second : ℕ) : Type 0 where
  pub added : There h 1
  pub from : first < length o
  pub to : second < length o
  pub stored : 0 < length a

-- all that `extend_line` touches is in the rows, and the new numbers fit
pub record ExtendReady (o h : List ℕ) (C : Counts) (end : ℕ) : Type 0 where
  pub edges : 2 * C.edges + 1 < 2 ^ 32
  pub vertices : C.vertices + 1 < 2 ^ 32
  pub added : There h (2 * C.edges + 1)
  pub based : C.vertices < length o
  pub here : end < length o
  pub out : There h (row_of o end)
  pub back : There h (rev (row_of o end))

-- what it leaves: the links, whatever the faces' stored edges, which it does not touch; the counts with one vertex and
-- one edge more
pub record LineExtended (o h o' h' : List ℕ) (C : Counts) (end : ℕ) (r : Counts) : Type 0 where
  pub links : (a : List ℕ) → links_of o' h' a ≡ extend_line (links_of o h a) C end
  pub result : r ≡ with_line_vertex C

-- `split_edge_when_all_vertices_on_line`: the new edge from v to where e led; en is the next of e, t the reverse of e and tp the
-- prev of t. Isolated: e led to an end of the line
unfoldable pub new_edge : Bool → Halves → ℕ → ℕ → ℕ → ℕ → ℕ → ℕ → ℕ → ℕ → Halves
new_edge true H n f v to e t en tp = set_edge H n f v (n + 1) e to t n
new_edge false H n f v to e t en tp = set_edge (set_next (set_prev H en n) tp (n + 1)) n f v en e to t tp

-- e leads to v, where t starts; then the new edge
unfoldable pub split_halves : Halves → ℕ → ℕ → ℕ → Halves
split_halves H n v e =
    let t = rev e in
    let H₁ = set_origin (set_prev (set_next H e n) t (n + 1)) t v in
    new_edge (eqb (H.next e) t) H₁ n (H.face e) v (H.origin t) e t (H.next e) (H.prev t)

-- the new half-edges n and n + 1, e, its reverse and what they name are in the row of half-edges
pub record HalvesReady (h : List ℕ) (n e : ℕ) : Type 0 where
  pub edges : n + 1 < 2 ^ 32
  pub added : There h (n + 1)
  pub here : There h e
  pub back : There h (rev e)
  pub next : There h ((halves_of h).next e)
  pub prev : There h ((halves_of h).prev (rev e))

pub record HalvesSplit (h h' : List ℕ) (n v e r : ℕ) : Type 0 where
  pub links : halves_of h' ≡ split_halves (halves_of h) n v e
  pub to : r ≡ (halves_of h).origin (rev e)

-- all that `split_edge_when_all_vertices_on_line` touches is in the rows, and the new numbers fit
pub record SplitReady (o h : List ℕ) (C : Counts) (e : ℕ) : Type 0 where
  pub halves : HalvesReady h (2 * C.edges) e
  pub vertices : C.vertices + 1 < 2 ^ 32
  pub based : C.vertices < length o
  pub end : (halves_of h).origin (rev e) < length o

-- what it leaves, as `LineExtended`
pub record LineSplit (o h o' h' : List ℕ) (C : Counts) (e : ℕ) (r : Counts) : Type 0 where
  pub links : (a : List ℕ) → links_of o' h' a ≡ split_edge_when_all_vertices_on_line (links_of o h a) C e
  pub result : r ≡ with_line_vertex C
