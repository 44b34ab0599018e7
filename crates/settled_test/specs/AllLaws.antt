-- Laws of the test of all edges: block follows block, and where the last edge is reached the mesh is settled. Assumes nothing.
use Rattle.std.specs.Prelude.{false, List, ◌≡◌, ℕ, ◌<◌, ◌≤◌, ℤ}
use Rattle.std.proofs.Math.Decide.{dec_lt}
use Rattle.std.proofs.Common.{arith}
use Rattle.circle_scan.specs.Scan.{Unbroken}
use Rattle.dcel.specs.Rows.{links_of, position_of}
use Rattle.mesh.specs.declared.Counts.{Counts}
use Rattle.mesh.specs.Circle.{breaks_circle, Settled}

pub unbroken-none : {q : List ℤ} {h : List ℕ} {n : ℕ} → Unbroken q h 0 n 0
unbroken-none = record { low = omega arith; high = omega arith; keeps = λ l m. absurd (omega arith) }

-- one part after another
pub unbroken-join : {q : List ℤ} {h : List ℕ} {n u v : ℕ} → Unbroken q h 0 n u → Unbroken q h u n v → Unbroken q h 0 n v
unbroken-join {q} {h} {n} {u} {v} A B = record {
  low = omega arith;
  high = B.high;
  keeps = λ {v = k} l m o a. at o a m (dec_lt k u);
}
  where
    at : {k : ℕ} (o a : List ℕ) → k < v → Dec (k < u) → breaks_circle (links_of o h a) (position_of q) k ≡ false
    at o a m (yes z) = A.keeps (omega arith) z o a
    at o a m (no z) = B.keeps (omega arith) m o a

pub unbroken-settled : {C : Counts} {q : List ℤ} (o : List ℕ) {h : List ℕ} (a : List ℕ) {u : ℕ} → Unbroken q h 0 C.edges u → C.edges ≤ u
    → Settled C (links_of o h a) (position_of q)
unbroken-settled o a U l = record { edge = λ m. U.keeps (omega arith) (omega arith) o a }
