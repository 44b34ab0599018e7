-- `start::check_sweep` meets its contract. Assumes nothing.
use borrow.Author.Rules.{rules}
use mathlib.Core.Path.{◌≡◌}
use mathlib.Core.Bool.{Bool}
use mathlib.Core.List.{List}
use Prim.Native.Nat.{ℕ}
use lib.IntN.{ℤ}
use Rattle.angle.specs.declared.Point2.{Point2}
use Rattle.dcel.specs.MeshRows.{MeshRows}
use Rattle.locate.specs.Locate.{check_start}
use Rattle.mesh.specs.declared.Counts.{Counts}
use Rattle.mesh_check.specs.Checked.{Checked}
use Rattle.mesh_check.specs.Check.{vertex_count}
use Rattle.start.specs.Start.{sweep_rows_short, sweep_checked}
use Rattle.start.proofs.check_sweep.Goals as goal

module _ (points : List ℤ) (short : Bool) (C : Counts) (m : MeshRows) (nodes freed buckets pending : ℕ) (center : Point2) where
  checked : {n : ℕ} {few : Bool} {r : Checked} → n ≡ vertex_count C points → few ≡ sweep_rows_short short n nodes freed buckets pending
      → r ≡ check_start points few C m center → r ≡ sweep_checked points short C m nodes freed buckets pending center
  unfolding sweep_checked
  checked e f g = rw (g, f, e)

pub returns : goal.returns
returns c = checked _ _ _ _ _ _ _ _ _ c.vertex_count-n.ensures c.sweep_rows_short-few.ensures c.check_start.ensures
