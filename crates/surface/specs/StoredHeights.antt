-- The heights after a step and after a run, as the code has them: from the counts and the answers that the call on the mesh alone gives.
-- Definitions only. `SurfaceLaws` (`height-step`) and `RunHeights` (`run-stored`) say that they are those of `Surface`.
use Rattle.std.specs.Prelude.{Bool, true, cond, ◌&&◌, List, ℕ, ◌-◌, ltb, leb, eqb, ℤ, Ok, Err}
use Rattle.finish.specs.declared.FinishAnswer.{FinishAnswer}
use Rattle.finish.specs.Finished.{Finished}
use Rattle.sums.specs.Put.{put}
use Rattle.sweep.specs.Run.{answer_in}
use Rattle.surface.specs.PutEach.{put_each}

-- ---- after a step: from the numbers of vertices before and after it, which adds one at most
unfoldable pub height_stored : (ℕ → ℤ) → ℕ → ℕ → ℤ → ℕ → ℤ
height_stored h before after z = cond (ltb before after) (put h before z) h

-- ---- after a run
-- the number of the fate in the answer of point i, and the vertex
abbrev pub fate_word : List ℕ → ℕ → ℕ
fate_word answers i = answer_in answers i 0

abbrev pub vertex_word : List ℕ → ℕ → ℕ
vertex_word answers i = answer_in answers i 1

-- a fate from `low` to `high`
unfoldable pub is_from : ℕ → ℕ → ℕ → Bool
is_from low high fate = leb low fate && leb fate high

-- a skipped point that was put in, as a new vertex or on one that was there: 02's fates 6 to 9
abbrev pub is_inserted : ℕ → Bool
is_inserted = is_from 6 9

-- the first n points of the list, in order: each whose fate is from `low` to `high` gives its height z to the vertex in its answer
abbrev pub stored_from : ℕ → ℕ → List ℕ → (ℕ → ℤ) → (ℕ → ℤ) → ℕ → ℕ → ℤ
stored_from low high answers z h n = put_each (λ i. is_from low high (fate_word answers i)) (vertex_word answers) z h n

-- those that a step added, then those that were put in
unfoldable pub answered_heights : List ℕ → (ℕ → ℤ) → (ℕ → ℤ) → ℕ → ℕ → ℤ
answered_heights answers z h n = stored_from 6 9 answers z (stored_from 1 1 answers z h n) n

-- the steps of a run were made: it is accepted, or refused 9
unfoldable pub is_made : Finished → Bool
is_made (Ok t) = true
is_made (Err x) = eqb x.number 9

-- the point at which a run of n points was refused a flip, or n
unfoldable pub place_of : ℕ → Finished → ℕ
place_of n (Ok t) = n
place_of n (Err x) = x.place

-- the heights after a run of n points, from its answer and the answers row: the point that was refused a flip has its vertex in the mesh,
-- the last one, and no answer
unfoldable pub finished_heights : FinishAnswer → List ℕ → (ℕ → ℤ) → (ℕ → ℤ) → ℕ → ℕ → ℤ
finished_heights r answers z h n =
    let g = answered_heights answers z h n in
    let place = place_of n r.finished in
    cond (is_made r.finished) (cond (ltb place n) (put g (r.counts.vertices - 1) (z place)) g) h
