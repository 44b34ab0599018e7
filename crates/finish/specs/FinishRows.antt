-- The lent rows and what a finish answers, as the definitions have them, and what the checks give the passes. Assumes nothing.
use Rattle.std.specs.Prelude.{List, ◌≡◌, ℕ, ◌≤◌, length, Ok}
use Rattle.std.proofs.Common.{sym, arith, ltb-false, le-ltb}
use Rattle.convexity.specs.ConvexityRows.{MeshReady}
use Rattle.dcel.specs.MeshRows.{MeshRows}
use Rattle.dcel.specs.Rows.{links_of}
use Rattle.mesh.specs.declared.Counts.{Counts}
use Rattle.mesh.proofs.CountsLaws.{count-edges, count-faces}
use Rattle.mesh_check.specs.Checked.{Checked}
use Rattle.mesh_check.specs.Accepted.{MeshSizes}
use Rattle.mesh_check.proofs.AcceptedLaws.{with-accepts, with_none}
use Rattle.mesh_check.specs.Check.{check_of, vertex_count, point_count}
use Rattle.finish.specs.declared.Ended.{Ended}
use Rattle.finish.specs.Finish.{Finishing, seed_checked}

-- the links that the rows hold, with what was done
unfoldable pub finishing_of : List ℕ → List ℕ → List ℕ → Ended → Finishing
finishing_of o h a r = record {
  counts = r.counts;
  links = links_of o h a;
  faces = r.totals.faces;
  convexflips = r.totals.convexflips;
  closingflips = r.totals.closingflips;
  full = r.full;
}

-- rows that the checks accept hold a good mesh that passes can be made on
pub accepted-ready : (C : Counts) (m : MeshRows) (row : List ℕ) → (Ok tt) ≡ seed_checked C m row
    → MeshReady m.positions m.outs m.halves m.faces row C
unfolding seed_checked vertex_count point_count
accepted-ready C m row e =
    let A = with-accepts (sym e) in
    let s = ltb-false (length row) 8 A.1 in
    let n = A.0.rows in
    let k = A.0.most in
    let u = count-edges A.0.good.wf in
    let w = count-faces A.0.good.wf in
    record {
      rows = record { room = record { outs = omega arith; halves = omega arith; faces = omega arith; small = omega arith }; positions = omega arith; good = A.0.good };
      sized = record { halves = omega arith; faces = omega arith; pending = s; small = omega arith };
    }

pub accepted-sizes : (C : Counts) (m : MeshRows) (row : List ℕ) → (Ok tt) ≡ seed_checked C m row → MeshSizes C.vertices m
unfolding seed_checked vertex_count point_count
accepted-sizes C m row e =
    let n = (with-accepts (sym e)).0.rows in
    record { positions = omega arith; outs = omega arith; halves = omega arith; faces = omega arith }

-- with enough pending entries a seed is refused exactly as `check` refuses it
pub seed-check : (C : Counts) (m : MeshRows) (row : List ℕ) → 8 ≤ length row → seed_checked C m row ≡ check_of C m
unfolding seed_checked
seed-check C m row l = rw (le-ltb (length row) 8 l) (with_none C m)
