-- The call `finish`: convexity passes, then the closing pass, on a mesh that the checks accept. Definitions only; the
-- laws are in `MeshLaws` and `FinishLaws`.
-- 01: "Finish makes the first pass of `fix_convexity`, then repeats passes until one adds no face. Last comes the
-- closing pass (added), fed the mesh alone."
use Rattle.std.specs.Prelude.{Bool, cond, List, [], ℕ, ltb, length, replicate, Ok, Err}
use Rattle.corner.specs.Corner.{Extended}
use Rattle.closing.specs.Closing.{Closing, closing_pass}
use Rattle.convexity.specs.Convexity.{convexity}
use Rattle.dcel.specs.MeshRows.{MeshRows, links_in, places_in, mesh_rows_from}
use Rattle.math.specs.declared.Point.{Point}
use Rattle.mesh.specs.declared.Counts.{Counts}
use Rattle.mesh.specs.Mesh.{Links}
use Rattle.mesh_check.specs.Checked.{Checked}
use Rattle.mesh_check.specs.Check.{check_with}
use Rattle.finish.specs.declared.FinishAnswer.{FinishAnswer}
use Rattle.finish.specs.Finished.{Finished}
use Rattle.finish.specs.declared.Totals.{Totals}

-- ---- of a mesh
-- the mesh as it is left, the faces added, the flips, and whether a flip's pushes would have overfilled the pending list: refusal 9
pub record Finishing : Type 0 where
  pub counts : Counts
  pub links : Links
  pub faces : ℕ
  pub convexflips : ℕ
  pub closingflips : ℕ
  pub full : Bool

-- the closing pass after the convexity passes, unless they were refused a flip
unfoldable pub close_after : (ℕ → Point) → Extended → Closing
close_after p v = cond v.full (record { links = v.links; flips = 0 }) (closing_pass v.counts p v.links)

-- with `room` pending entries
unfoldable pub finish_mesh : ℕ → Counts → (ℕ → Point) → Links → Finishing
finish_mesh room C p L =
    let v = convexity room C p L in
    let c = close_after p v in
    record { counts = v.counts; links = c.links; faces = v.faces; convexflips = v.flips; closingflips = c.flips; full = v.full }

-- what is reported of it
unfoldable pub totals_from : Finishing → Totals
totals_from f = record { faces = f.faces; convexflips = f.convexflips; closingflips = f.closingflips }

-- 01, refusal 9: it answers "the point count in a finish within a run, 0 in a finish alone": the place
unfoldable pub finished_from : ℕ → Finishing → Finished
finished_from place f =
    cond f.full (Err (record { number = 9; place = place })) (Ok (totals_from f))

-- ---- of the lent rows
-- what a call comes to: its answer, and what the rows hold afterwards
pub record FinishOutcome : Type 0 where
  pub answer : FinishAnswer
  pub mesh : MeshRows
  pub pending : List ℕ

abbrev pub finished_with : FinishAnswer → MeshRows → List ℕ → FinishOutcome
finished_with r m pending = record { answer = r; mesh = m; pending = pending }

-- 01: "All but 9 change nothing lent and answer the number and a place (0 where none is named)." "After 9 and after
-- every accepted call the ring, freed, bucket and pending rows hold zeros, and mesh and answer entries past the counts
-- in use are untouched": the links' functions have every entry of their rows
unfoldable pub finish_outcome : Counts → MeshRows → List ℕ → Checked → Finishing → FinishOutcome
finish_outcome C m pending (Err r) f = finished_with (record { counts = C; finished = Err r }) m pending
finish_outcome C m pending (Ok _) f =
    finished_with (record { counts = f.counts; finished = finished_from 0 f })
    (mesh_rows_from m f.links (places_in m)) (replicate (length pending) 0)

-- 01, refusal 2: "at least 8 pending entries"
unfoldable pub seed_checked : Counts → MeshRows → List ℕ → Checked
seed_checked C m pending = check_with [] (ltb (length pending) 8) C m

-- the rows as they are lent
unfoldable pub finish_of : Counts → MeshRows → List ℕ → FinishOutcome
finish_of C m pending =
    finish_outcome C m pending (seed_checked C m pending) (finish_mesh (length pending) C (places_in m) (links_in m))
