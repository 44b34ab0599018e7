-- A seed of one triangle as rows hold it: what a listing is run from, and the marked examples. docs/DECISIONS.md, "How is the seed triangle
-- linked?" Definitions only.
use Rattle.std.specs.Prelude.{List, [], ◌∷◌, ℕ}
use Rattle.mesh.specs.declared.Counts.{Counts}

abbrev pub seed_counts : Counts
seed_counts = record { vertices = 3; edges = 3; faces = 2 }

-- "out edges 0, 2, 4"
unfoldable pub seed_outs_of : List ℕ
seed_outs_of = 0 ∷ 2 ∷ 4 ∷ []

-- next, prev, face, origin of each. "Half-edges 0, 2, 4 are v0→v1, v1→v2, v2→v0 in face 1, the odd ones their reverses in face 0"
unfoldable pub seed_halves_of : List ℕ
seed_halves_of =
    2 ∷ 4 ∷ 1 ∷ 0
    ∷ 5 ∷ 3 ∷ 0 ∷ 1
    ∷ 4 ∷ 0 ∷ 1 ∷ 1
    ∷ 1 ∷ 5 ∷ 0 ∷ 2
    ∷ 0 ∷ 2 ∷ 1 ∷ 2
    ∷ 3 ∷ 1 ∷ 0 ∷ 0
    ∷ []

-- "stored edges: face 0: 1, face 1: 0"
unfoldable pub seed_faces_of : List ℕ
seed_faces_of = 1 ∷ 0 ∷ []
