-- The call `area_total`: the doubled areas of a mesh's triangles in total. Definitions only; laws in `AreaTotalLaws`.
use Rattle.std.specs.Prelude.{false, Ok, Err}
use Rattle.dcel.specs.MeshRows.{links_in, places_in}
use Rattle.heights.specs.Heights.{SurfaceRows, surface_checked}
use Rattle.int128.specs.declared.Int128.{Int128}
use Rattle.int128.specs.Int128.{in_halves}
use Rattle.mesh.specs.declared.Counts.{Counts}
use Rattle.mesh.specs.Area.{area_total}
use Rattle.mesh_check.specs.Checked.{Checked}
use Rattle.area.specs.Totalled.{Totalled}

unfoldable pub totalled_of : Checked → Int128 → Totalled
totalled_of (Err r) n = Err r
totalled_of (Ok _) n = Ok n

-- refusals 1, 2, 3, 10, 4 and 5, as the call `check` gives them. Change 1: "A number past 64 bits, here and later, is two's complement in
-- a high and a low 64-bit half."
unfoldable pub area_total_of : Counts → SurfaceRows → Totalled
area_total_of C s =
    totalled_of (surface_checked false C s) (in_halves (area_total C (links_in s.mesh) (places_in s.mesh)))
