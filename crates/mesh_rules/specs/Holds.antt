-- What the sweeps of this crate answer, in the order in which they look: each is a test that needs no memory of what
-- was met, and together they are `rules` (`SweepRules`). Definitions only.
use Rattle.std.specs.Prelude.{◌≡◌, Bool, not, ◌&&◌, ◌||◌, List, [], ◌∷◌, ℕ, ◌+◌, ◌*◌, ◌<◌, ◌≤◌, ◌^◌, T, ltb, leb, eqb, length}
use Rattle.dcel.specs.declared.handles.HalfEdgeEntry.{HalfEdgeEntry}
use Rattle.dcel.specs.Rows.{links_of}
use Rattle.mesh.specs.declared.Counts.{Counts}
use Rattle.mesh.specs.Mesh.{Links, turn}
use Rattle.mesh.specs.Rules.{half_edge_in_use, half_edge_linked}
use Rattle.sums.specs.Bit.{implies}
use Rattle.sums.specs.Bounded.{all_below}
use Rattle.sums.specs.Half.{rev}
use Rattle.sums.specs.Iterate.{period_below}
use Rattle.sums.specs.Orbits.{orbit_total}

-- the links w of a half-edge name what is in use
abbrev pub use_tests : Counts → HalfEdgeEntry → List Bool
use_tests C w = ltb w.next (2 * C.edges) ∷ ltb w.prev (2 * C.edges) ∷ ltb w.face C.faces ∷ ltb w.origin C.vertices ∷ []

-- half-edge e has the links w, the next one those of `after`, the next one of the previous one is `back`, the reverse
-- of e has those of `other`
abbrev pub link_tests : ℕ → HalfEdgeEntry → HalfEdgeEntry → ℕ → HalfEdgeEntry → List Bool
link_tests e w after back other = eqb after.prev e ∷ eqb back e ∷ eqb after.face w.face ∷ eqb after.origin other.origin ∷ []

-- one of two faces is an inner one
abbrev pub has_side : ℕ → ℕ → Bool
has_side f g = ltb 0 f || ltb 0 g

-- half-edge e: its links, and an inner face on a side
unfoldable pub half_edge_holds : Counts → Links → ℕ → Bool
half_edge_holds C L e = half_edge_in_use C L e && (half_edge_linked L e && has_side (L.face e) (L.face (rev e)))

-- vertex v: its out edge
unfoldable pub vertex_holds : Counts → Links → ℕ → Bool
vertex_holds C L v = ltb (L.out v) (2 * C.edges) && eqb (L.origin (L.out v)) v

-- face f as an inner face: the cycle of three through its stored edge
unfoldable pub face_holds : Counts → Links → ℕ → Bool
face_holds C L f =
    let a = L.adjacent f in
    ltb a (2 * C.edges) && (eqb (L.face a) f && (not (eqb (L.next a) a) && eqb (L.next (L.next (L.next a))) a))

-- face 0: its stored edge, and no cycle of one or two
unfoldable pub outer_holds : Counts → Links → Bool
outer_holds C L =
    let a = L.adjacent 0 in
    ltb a (2 * C.edges) && (eqb (L.face a) 0 && (not (eqb (L.next a) a) && not (eqb (L.next (L.next a)) a)))

-- no half-edge is left over: the faces' cycles, and the vertices' orbits, have as many as there are
unfoldable pub faces_whole : Counts → Links → Bool
faces_whole C L = eqb (period_below (2 * C.edges) L.next (L.adjacent 0) + 3 * C.faces) (2 * C.edges + 3)

unfoldable pub vertices_whole : Counts → Links → Bool
vertices_whole C L = eqb (orbit_total (2 * C.edges) (turn L) L.out C.vertices) (2 * C.edges)

-- all vertices
unfoldable pub vertices_hold : Counts → Links → Bool
vertices_hold C L = all_below C.vertices (vertex_holds C L) && vertices_whole C L

-- every face but the outer one is an inner one
unfoldable pub inner_face_holds : Counts → Links → ℕ → Bool
inner_face_holds C L f = implies (ltb 0 f) (face_holds C L f)

-- the counts: there is an outer face, Euler's count, and no more half-edges and faces than 01's rows hold, 6N and 2N
unfoldable pub counts_hold : Counts → Bool
counts_hold C =
    ltb 0 C.faces && (eqb (C.vertices + C.faces) (C.edges + 2)
    && (leb C.edges (3 * C.vertices) && leb C.faces (2 * C.vertices)))

-- all tests, in the order in which they are made
unfoldable pub all_hold : Counts → Links → Bool
all_hold C L =
    counts_hold C && (all_below (2 * C.edges) (half_edge_holds C L) &&
    (outer_holds C L && (faces_whole C L && (all_below C.faces (inner_face_holds C L) && vertices_hold C L))))

-- ---- what the sweeps ask of the rows
-- the row of half-edges holds what the counts say, and the numbers of the half-edges fit
pub record HalvesThere (C : Counts) (h : List ℕ) : Type 0 where
  pub long : 8 * C.edges ≤ length h
  pub small : C.edges < 2 ^ 31

-- every half-edge passed its test, whatever the other rows hold
pub record HalvesHold (C : Counts) (h : List ℕ) : Type 0 where
  pub there : HalvesThere C h
  pub holds : (o a : List ℕ) → T (all_below (2 * C.edges) (half_edge_holds C (links_of o h a)))

-- the rows have 01's sizes for the counted vertices
pub record RowsThere (C : Counts) (o h a : List ℕ) : Type 0 where
  pub outs : C.vertices ≤ length o
  pub halves : 24 * C.vertices ≤ length h
  pub faces : 2 * C.vertices ≤ length a
  pub small : C.vertices ≤ 1000000

-- what a step from a number below n leads to is f of it: `post` says what the step may answer
abbrev pub Computes : (ℕ → ℕ → Type 0) → ℕ → (ℕ → ℕ) → Type 0
Computes post n f = (e r : ℕ) → e < n → post e r → r ≡ f e
