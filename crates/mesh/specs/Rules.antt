-- The mesh rules of 01, sentence by sentence, as tests that compute on a given mesh. Definitions only.
-- `Wf` states the same as facts; `RulesWf` proves that the two agree.
use Rattle.std.specs.Prelude.{Bool, true, not, ◌&&◌, ◌||◌, List, [], ◌∷◌, ℕ, ◌+◌, ◌*◌, ltb, eqb}
use Rattle.mesh.specs.declared.Counts.{Counts}
use Rattle.mesh.specs.Mesh.{Links, turn}
use Rattle.sums.specs.Bit.{implies}
use Rattle.sums.specs.Bounded.{all_below}
use Rattle.sums.specs.Half.{rev}
use Rattle.sums.specs.Iterate.{reaches}

-- each test of a list passes
abbrev pub every : List Bool → Bool
every [] = true
every (a ∷ l) = a && every l

-- the links of half-edge e name what is in use
unfoldable pub half_edge_in_use : Counts → Links → ℕ → Bool
half_edge_in_use C L e = every (
    ltb (L.next e) (2 * C.edges) ∷
    ltb (L.prev e) (2 * C.edges) ∷
    ltb (L.face e) C.faces ∷
    ltb (L.origin e) C.vertices ∷ [])

unfoldable pub links_in_use : Counts → Links → Bool
links_in_use C L = every (
    all_below (2 * C.edges) (half_edge_in_use C L) ∷
    all_below C.faces (λ f. ltb (L.adjacent f) (2 * C.edges)) ∷
    all_below C.vertices (λ v. ltb (L.out v) (2 * C.edges)) ∷ [])

-- "next and prev undo each other, and next keeps the face."
-- "The origin of next(e) is the origin of e's reverse."
unfoldable pub half_edge_linked : Links → ℕ → Bool
half_edge_linked L e = every (
    eqb (L.prev (L.next e)) e ∷
    eqb (L.next (L.prev e)) e ∷
    eqb (L.face (L.next e)) (L.face e) ∷
    eqb (L.origin (L.next e)) (L.origin (rev e)) ∷ [])

-- "An inner face is a cycle of three through its stored edge."
unfoldable pub inner_face_rule : Counts → Links → ℕ → Bool
inner_face_rule C L f =
    let a = L.adjacent f in
    let b = L.next a in
    let c = L.next b in
    every (
    eqb (L.face a) f ∷
    not (eqb b a) ∷
    eqb (L.next c) a ∷
    all_below (2 * C.edges) (λ e. implies (eqb (L.face e) f) (eqb e a || (eqb e b || eqb e c))) ∷ [])

-- "Face 0 is one cycle of at least three."
unfoldable pub outer_face_rule : Counts → Links → Bool
outer_face_rule C L =
    let a = L.adjacent 0 in
    let b = L.next a in
    let c = L.next b in
    every (
    eqb (L.face a) 0 ∷
    not (eqb b a) ∷
    not (eqb c a) ∷
    all_below (2 * C.edges) (λ e. implies (eqb (L.face e) 0) (reaches (2 * C.edges) L.next a e)) ∷ [])

-- "Every edge has an inner face on a side."
unfoldable pub side_rule : Links → ℕ → Bool
side_rule L u = ltb 0 (L.face (2 * u)) || ltb 0 (L.face (2 * u + 1))

-- "Every vertex has an out edge, and turning about the vertex from it meets every half-edge that starts there."
unfoldable pub vertex_rule : Counts → Links → ℕ → Bool
vertex_rule C L v = every (
    eqb (L.origin (L.out v)) v ∷
    all_below (2 * C.edges) (λ e. implies (eqb (L.origin e) v) (reaches (2 * C.edges) (turn L) (L.out v) e)) ∷ [])

-- "vertices - edges + faces = 2, the outer face counted."
unfoldable pub euler_rule : Counts → Bool
euler_rule C = eqb (C.vertices + C.faces) (C.edges + 2)

-- each of them, in this order, after the test that there is an outer face
abbrev pub rule_tests : Counts → Links → List Bool
rule_tests C L =
    ltb 0 C.faces
    ∷ euler_rule C
    ∷ links_in_use C L
    ∷ all_below (2 * C.edges) (half_edge_linked L)
    ∷ all_below C.edges (side_rule L)
    ∷ outer_face_rule C L
    ∷ all_below C.faces (λ f. implies (ltb 0 f) (inner_face_rule C L f))
    ∷ all_below C.vertices (vertex_rule C L)
    ∷ []

-- all of them
unfoldable pub rules : Counts → Links → Bool
rules C L = every (rule_tests C L)
