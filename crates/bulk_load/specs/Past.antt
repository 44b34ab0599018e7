-- 01: "mesh .. entries past the counts in use are untouched": of the seed that has grown. Assumes nothing.
use Rattle.std.specs.Prelude.{Bool, cond, ◌||◌, ◌≡◌, length}
use Rattle.std.proofs.Math.Bool.{true, false}
use Rattle.std.proofs.lemmas.Bool.{false≢true}
use Rattle.std.proofs.Math.Path.{refl, ap}
use Rattle.std.proofs.Common.{sym, ◌∙◌, arith}
use Prim.Native.Nat.{ℕ, zero, suc, ◌<◌, ◌≤◌}
use Rattle.corner.specs.Untouched.{Untouched, untouched-none, untouched-join}
use Rattle.dcel.specs.MeshRows.{links_in, places_in}
use Rattle.dcel.specs.Rows.{position_of}
use Rattle.line.specs.GrowUntouched.{Fits}
use Rattle.line.proofs.GrowUntouchedLaws.{nothing-fits, grow-untouched, grow-past, grow-grown, grow-fits}
use Rattle.math.specs.declared.Point.{Point}
use Rattle.math.specs.Determinant.{InRange}
use Rattle.mesh.specs.declared.Counts.{Counts}
use Rattle.mesh.specs.Mesh.{Links}
use Rattle.mesh_check.specs.Checked.{Checked}
use Rattle.bulk_load.specs.OneVertex.{OneZero}
use Rattle.bulk_load.specs.Seed.{Seeding, seed_start, seeded_by, seed_point, seed_after, grow_at}
use Rattle.bulk_load.specs.BulkLoad.{BulkLoadLent, bulk_load_checked, count}
use Rattle.bulk_load.specs.Rest.{SeedRows}

pub record SeedPast (L : Links) (p : ℕ → Point) (s : Seeding) : Type 0 where
  pub links-past : Untouched s.growing.mesh.counts L s.growing.mesh.links
  pub places-past : (u : ℕ) → s.growing.mesh.counts.vertices ≤ u → s.growing.positions u ≡ p u
  pub fits : s.growing.mesh.full ≡ false → Fits s.growing.mesh.counts
  pub one-zero : OneZero s.growing
