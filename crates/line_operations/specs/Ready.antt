-- Rows that hold a line of points meet what each operation requires, where there is room for what it adds. Assumes
-- nothing.
use Rattle.std.specs.Prelude.{ℕ, ◌<◌, List}
use Rattle.std.proofs.Common.{arith}
use Rattle.math.specs.declared.Point.{Point}
use Rattle.mesh.specs.declared.Counts.{Counts}
use Rattle.mesh.specs.Mesh.{In}
use Rattle.mesh.specs.Wf.{Ranges}
use Rattle.sums.proofs.HalfLaws.{rev-below}
use Rattle.line.specs.Line.{Line}
use Rattle.line.proofs.ChainRules.{chain-rules}
use Rattle.line.specs.Operations.{with_line_vertex, two_vertices}
use Rattle.dcel.specs.Rows.{links_of}
use Rattle.dcel.specs.MeshHeld.{Room}
use Rattle.line_operations.specs.OnLine.{InitialReady, ExtendReady, SplitReady}

-- the first two vertices are 0 and 1
pub initial-ready : {o h a : List ℕ} → Room two_vertices o h a → InitialReady o h a 0 1
initial-ready r = record { added = omega arith; from = omega arith; to = omega arith; stored = omega arith }

module _ {C : Counts} {o h a : List ℕ} {p : ℕ → Point} (M : Line C (links_of o h a) p) (R : Room (with_line_vertex C) o h a) where
  ranges : Ranges C (links_of o h a)
  ranges = (chain-rules M.chain).ranges

  pub extend-ready : {v : ℕ} → v < C.vertices → ExtendReady o h C v
  unfolding links_of
  extend-ready l =
      let k = M.chain.vertices in
      let e = ranges.out< l in
      let t = rev-below C.edges e in
      record {
        edges = omega arith;
        vertices = omega arith;
        added = omega arith;
        based = omega arith;
        here = omega arith;
        out = omega arith;
        back = omega arith;
      }

  pub split-ready : {e : ℕ} → In C e → SplitReady o h C e
  unfolding links_of
  split-ready l =
      let k = M.chain.vertices in
      let t = rev-below C.edges l in
      let n = ranges.next< l in
      let q = ranges.prev< t in
      let v = ranges.origin< t in
      record {
        halves = record {
          edges = omega arith;
          added = omega arith;
          here = omega arith;
          back = omega arith;
          next = omega arith;
          prev = omega arith;
        };
        vertices = omega arith;
        based = omega arith;
        end = omega arith;
      }
