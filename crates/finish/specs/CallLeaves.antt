-- What a finish, a step and a run leave in the mesh's rows and the pending list, after 9 and after every accepted call: one record for the
-- three. Stated of the rows alone, as a caller finds them. Definitions only; `CallLeavesLaws` says how it comes about.
use Rattle.std.specs.Prelude.{List, ◌≡◌, ℕ, ◌<◌, ◌≤◌, length, replicate}
use Rattle.corner.specs.Untouched.{Untouched}
use Rattle.dcel.specs.MeshRows.{MeshRows, links_in, places_in, SameLengths}
use Rattle.mesh.specs.declared.Counts.{Counts}
use Rattle.mesh.specs.Area.{area_total, boundary_area}
use Rattle.mesh.specs.Good.{Good}

-- counts, rows and list as they were lent, and as they are left
pub record CallLeaves (C : Counts) (m : MeshRows) (pending : List ℕ) (C' : Counts) (m' : MeshRows) (pending' : List ℕ) : Type 0 where
  -- of 9: "the mesh stays as it was before that flip: linked, left-turning,
  pub good : Good C' (links_in m') (places_in m')
  -- its areas adding up."
  pub area : area_total C' (links_in m') (places_in m') ≡ boundary_area C' (links_in m') (places_in m')
  -- no vertex has moved
  pub seed : (u : ℕ) → u < C.vertices → places_in m' u ≡ places_in m u
  -- "After 9 and after every accepted call the .. pending rows hold zeros,
  pub pending-zero : pending' ≡ replicate (length pending) 0
  -- and mesh .. entries past the counts in use are untouched"
  pub links-past : Untouched C' (links_in m) (links_in m')
  pub places-past : (u : ℕ) → C'.vertices ≤ u → places_in m' u ≡ places_in m u
  -- every row is as long as it was
  pub lengths : SameLengths m m'
