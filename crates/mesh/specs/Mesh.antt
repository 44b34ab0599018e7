-- A half-edge mesh as functions on numbers. Vertices, edges and faces are numbered from 0; how many there are is in `Counts`.
-- 01: "Half-edges 2u and 2u+1 are each other's reverse. Each has next, prev, face, origin. Face 0 is the outer one."
-- Definitions only.
use Rattle.std.specs.Prelude.{ℕ, ◌*◌, ◌<◌}
use Rattle.mesh.specs.declared.Counts.{Counts}
use Rattle.sums.specs.Half.{rev}

-- of a half-edge: next, prev, face, origin; of a vertex: its out edge; of a face: its stored (adjacent) edge
pub record Links : Type 0 where
  pub next : ℕ → ℕ
  pub prev : ℕ → ℕ
  pub face : ℕ → ℕ
  pub origin : ℕ → ℕ
  pub out : ℕ → ℕ
  pub adjacent : ℕ → ℕ

-- e is a half-edge in use
abbrev pub In : Counts → ℕ → Type 0
In C e = e < 2 * C.edges

-- where a half-edge leads to
abbrev pub to : Links → ℕ → ℕ
to L e = L.origin (rev e)

-- 01: "`out_edges` starts at the stored out edge; each further one is the reverse of prev."
abbrev pub turn : Links → ℕ → ℕ
turn L e = rev (L.prev e)
