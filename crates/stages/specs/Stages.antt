-- The two meshes that the Rust is compared by, for whatever is lent: after the last step of a run, and after one pass of `fix_convexity`.
-- Definitions only.
use Rattle.std.specs.Prelude.{List, ℕ, length, Ok, Err}
use Rattle.convexity.specs.Convexity.{fix_convexity, unpassed}
use Rattle.corner.specs.Corner.{Extended}
use Rattle.dcel.specs.MeshRows.{MeshRows, links_in, places_in}
use Rattle.finish.specs.Finish.{seed_checked}
use Rattle.math.specs.declared.Point.{Point}
use Rattle.mesh.specs.declared.Counts.{Counts}
use Rattle.mesh.specs.Mesh.{Links}
use Rattle.mesh_check.specs.Checked.{Checked}
use Rattle.mesh_check.specs.Check.{point_count}
use Rattle.sweep.specs.Run.{Sweeping, RunLent, run_checked, sweep_of}

-- how many points are stepped over: all of them, or none where the run is refused
unfoldable pub step_count_of : Checked → ℕ → ℕ
step_count_of (Ok _) n = n
step_count_of (Err x) n = 0

unfoldable pub stepped_of : RunLent → Sweeping
stepped_of l = sweep_of l (step_count_of (run_checked l) (point_count l.points))

-- a pass, or none where the mesh is refused
unfoldable pub pass_checked : Checked → ℕ → Counts → (ℕ → Point) → Links → Extended
pass_checked (Ok _) room C p L = fix_convexity room p (unpassed C L).mesh
pass_checked (Err x) room C p L = (unpassed C L).mesh

unfoldable pub passed_of : Counts → MeshRows → List ℕ → Extended
passed_of C m pending = pass_checked (seed_checked C m pending) (length pending) C (places_in m) (links_in m)
