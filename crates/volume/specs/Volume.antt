-- Six times the signed volume between a mesh with heights and a level, and the call `volume`. Definitions only; the laws
-- are in `VolumeLaws`.
use Rattle.std.specs.Prelude.{not, ℕ, suc, ◌-◌, ℤ, pos, ◌+ℤ◌, ◌-ℤ◌, ◌*ℤ◌, Ok, Err}
use Rattle.dcel.specs.MeshRows.{links_in, places_in}
use Rattle.heights.specs.Heights.{SurfaceRows, heights_in, is_valid_height, surface_checked}
use Rattle.int128.specs.CubicMetres.{cubic_metres_of}
use Rattle.int128.specs.Int128.{in_halves}
use Rattle.math.specs.declared.Point.{Point}
use Rattle.math.specs.Determinant.{orient2d}
use Rattle.mesh.specs.declared.Counts.{Counts}
use Rattle.mesh.specs.Mesh.{Links}
use Rattle.mesh.specs.Area.{at_corners}
use Rattle.mesh_check.specs.Checked.{Checked}
use Rattle.sums.specs.Sum.{sum}
use Rattle.volume.specs.Measured.{Measured}
use Rattle.volume.specs.declared.Volumes.{Volumes}

-- ---- of a mesh
-- "the three heights minus 3L", at the corners that follow one another along next, from the origin of e
unfoldable pub above_level : Links → (ℕ → ℤ) → ℤ → ℕ → ℤ
above_level L h level e =
    h (L.origin e) +ℤ h (L.origin (L.next e)) +ℤ h (L.origin (L.next (L.next e))) -ℤ pos 3 *ℤ level

-- 02, Change 1: "six times the signed volume between the mesh and a level L, exactly: over all triangles, doubled area
-- times (the three heights minus 3L)". 01: "Triangles are the inner faces", here each from its stored edge
unfoldable pub six_volumes_of : Counts → Links → (ℕ → Point) → (ℕ → ℤ) → ℤ → ℤ
six_volumes_of C L p h level = sum (C.faces - 1) (λ f.
    let e = L.adjacent (suc f) in
    at_corners orient2d L p e *ℤ above_level L h level e)

-- ---- of the lent rows
-- "A number past 64 bits .. is two's complement in a high and a low 64-bit half." "A second number is that volume in cubic
-- metres"
unfoldable pub volumes_of : ℤ → Volumes
volumes_of six = record { six_volumes = in_halves six; cubic_metres = cubic_metres_of six }

unfoldable pub measured_of : Checked → Volumes → Measured
measured_of (Err r) v = Err r
measured_of (Ok _) v = Ok v

-- the call `volume`: refusals 1, 2, 3, 10, 4 and 5, and 10 is given for "a height or level outside"
unfoldable pub volume_of : Counts → SurfaceRows → ℤ → Measured
volume_of C s level =
    measured_of (surface_checked (not (is_valid_height level)) C s)
    (volumes_of (six_volumes_of C (links_in s.mesh) (places_in s.mesh) (heights_in s) level))
