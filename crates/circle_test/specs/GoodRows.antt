-- Rows that hold a good mesh, and what the circle test asks of them. Assumes nothing.
use Rattle.std.specs.Prelude.{ℕ, ◌+◌, ◌*◌, ◌<◌, ◌≤◌, ◌^◌, ◌≡◌, List, ℤ, length}
use Rattle.std.proofs.Common.{arith}
use Rattle.std.proofs.Math.Path.{subst⁻¹}
use Rattle.mesh.specs.declared.Counts.{Counts}
use Rattle.mesh.specs.Mesh.{Links, In}
use Rattle.mesh.specs.Good.{Good}
use Rattle.dcel.specs.Rows.{halves_of, links_of, position_of, There, Placed}
use Rattle.dcel.specs.MeshHeld.{Room, MeshHeld, there, prev-in, origin-in}

-- positions, out edges, half-edges and faces hold a good mesh of these counts
pub record GoodRows (C : Counts) (q : List ℤ) (o h a : List ℕ) : Type 0 where
  pub room : Room C o h a
  pub positions : 2 * C.vertices ≤ length q
  pub good : Good C (links_of o h a) (position_of q)

-- half-edge e and its prev are in the row, and both start at vertices with positions
pub record Corner (q : List ℤ) (h : List ℕ) (e : ℕ) : Type 0 where
  pub here : There h e
  pub prev : There h ((halves_of h).prev e)
  pub origin : Placed q ((halves_of h).origin e)
  pub far : Placed q ((halves_of h).origin ((halves_of h).prev e))

-- all that the circle test of edge u reads is in the rows
pub record CircleReady (q : List ℤ) (h : List ℕ) (u : ℕ) : Type 0 where
  pub small : 2 * u + 1 < 2 ^ 32
  pub e : Corner q h (2 * u)
  pub t : Corner q h (2 * u + 1)

module _ {C : Counts} {q : List ℤ} {o h a : List ℕ} (R : GoodRows C q o h a) where
  pub held : MeshHeld C o h a
  held = record { room = R.room; rules = R.good.wf }

  placed : {v : ℕ} → v < C.vertices → Placed q v
  placed l = record { there = let k = R.positions in omega arith; range = R.good.range l }

  pub corner : {e : ℕ} → In C e → Corner q h e
  corner l = record {
    here = there held l;
    prev = there held (prev-in held l);
    origin = placed (origin-in held l);
    far = placed (origin-in held (prev-in held l));
  }

  pub circle-ready : {u : ℕ} → u < C.edges → CircleReady q h u
  circle-ready {u} l = record { small = let s = R.room.small in omega arith; e = corner (omega arith); t = corner (omega arith) }

-- after an operation: rows of the same lengths whose links are a good mesh
pub good-again : {C : Counts} {q : List ℤ} {o h a : List ℕ} → GoodRows C q o h a → (o' h' a' : List ℕ)
    → length o' ≡ length o → length h' ≡ length h → length a' ≡ length a
    → {L : Links} → links_of o' h' a' ≡ L → Good C L (position_of q) → GoodRows C q o' h' a'
good-again {C} {q} R o' h' a' x y z e G =
    let r = R.room in
    record {
      room = record { outs = omega arith; halves = omega arith; faces = omega arith; small = r.small };
      positions = R.positions;
      good = subst⁻¹ (λ (L : Links). Good C L (position_of q)) e G;
    }
