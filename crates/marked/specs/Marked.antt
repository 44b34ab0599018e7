-- The marked examples of 01, M1 to M10, each as a statement about the definitions that the calls' contracts cite, and all of them in one
-- list, `Marked`. `Established` has the theorem. Statements only: what is imported is what they say.
use Rattle.std.specs.Prelude.{true, false, List, [], ◌∷◌, ◌++◌, ◌≡◌, ℕ, ◌+◌, ◌*◌, ◌^◌, ℤ, pos, negsuc, Float, replicate, take, Ok, Err}
use Rattle.std.specs.Float.{nan, fin}
use Rattle.angle.specs.declared.Point2.{Point2}
use Rattle.angle.specs.Angle.{angle_about, zero64, quarter, one64}
use Rattle.dcel.specs.MeshRows.{mesh_rows, links_in, places_in}
use Rattle.finish.specs.Finished.{Finished}
use Rattle.finish.specs.Finish.{finished_with, finish_of}
use Rattle.locate.specs.Located.{Located}
use Rattle.locate.specs.Locate.{locate_of}
use Rattle.mesh.specs.Mesh.{Links}
use Rattle.mesh.specs.Area.{area_total, height_sum, circle_at}
use Rattle.mesh.specs.Operations.{with_vertex, create_new_face_adjacent_to_edge}
use Rattle.mesh_check.specs.Checked.{Checked}
use Rattle.ring.specs.Center.{turns_about}
use Rattle.ring.specs.Ring.{boundary_angles}
use Rattle.ring_rows.specs.declared.Node.{Node}
use Rattle.ring_rows.specs.RingRows.{ring_rows}
use Rattle.sweep.specs.SeedTriangle.{seed_outs_of, seed_halves_of, seed_faces_of}
use Rattle.sweep.specs.Run.{RunLent, RunOutcome, run_lent, answer_words, steps_of, run_checked, run_of}

-- ---- what is lent
abbrev sevens : Node
sevens = record { angle = fin false 7 (pos 0); edge = 7; left = 7; right = 7 }

-- a seed of so many vertices in rows for n points, with zeros past it; the other rows are lent full of sevens
abbrev seeded : ℕ → ℕ → List ℤ → Point2 → List ℤ → RunLent
seeded vertices n seed center points =
    run_lent (record { vertices = vertices; edges = 3; faces = 2 })
    (mesh_rows (seed ++ replicate (2 * n) (pos 0)) (seed_outs_of ++ replicate n 0)
    (seed_halves_of ++ replicate (48 + 24 * n) 0) (seed_faces_of ++ replicate (4 + 2 * n) 0))
    (ring_rows (replicate (n + 4) sevens) (replicate (n + 4) 7) (replicate 16 7)) (replicate 8 7) (replicate (answer_words * n) 7)
    center points

abbrev at : Float → Float → Point2
at x y = record { x = x; y = y }

-- `S 0 0 4 0 0 4`
abbrev seed : List ℤ
seed = pos 0 ∷ pos 0 ∷ pos 4 ∷ pos 0 ∷ pos 0 ∷ pos 4 ∷ []

-- `C 1 1`, and so many points
abbrev about : ℕ → List ℤ → RunLent
about n points = seeded 3 n seed (at one64 one64) points

abbrev height_after : RunOutcome → ℤ
height_after r = height_sum r.answer.counts (links_in r.mesh) (places_in r.mesh)

abbrev area_after : RunOutcome → ℤ
area_after r = area_total r.answer.counts (links_in r.mesh) (places_in r.mesh)

-- ---- the list
-- "M1 centre (0,0): (-4,0) is 1.0; (0,4) 0.25; (4,0) 0.5; (0,-4) 0.75; (4,4) 0.375; (-4,-4) 0.875."
abbrev pub M1 : Type 0
M1 =
    (angle_about (negsuc 3) (pos 0) zero64 zero64 ≡ one64)
    × (angle_about (pos 0) (pos 4) zero64 zero64 ≡ quarter)
    × (angle_about (pos 4) (pos 0) zero64 zero64 ≡ fin false 1 (negsuc 0))
    × (angle_about (pos 0) (negsuc 3) zero64 zero64 ≡ fin false 3 (negsuc 1))
    × (angle_about (pos 4) (pos 4) zero64 zero64 ≡ fin false 3 (negsuc 2))
    × (angle_about (negsuc 3) (negsuc 3) zero64 zero64 ≡ fin false 7 (negsuc 2))

-- "M2 centre (0, -2^-40), vertex (-16777216, 0): 0.0."
abbrev pub M2 : Type 0
M2 = angle_about (negsuc 16777215) (pos 0) zero64 (fin true 1 (negsuc 39)) ≡ zero64

-- "M3 the seed above has boundary angles 0.5625, 0.875, 0.1875": about its centre, in the order of the boundary, as whole numbers of 2^-53
abbrev pub M3 : Type 0
M3 =
    let l = about 0 [] in
    boundary_angles l.counts (links_in l.mesh) (turns_about l.center.x l.center.y (places_in l.mesh))
    ≡ 9 * 2 ^ 49 ∷ 7 * 2 ^ 50 ∷ 3 * 2 ^ 49 ∷ []

-- 01's input: `P 4 4`, `P 2 2`, `P 4 4`, `P 1 1`
abbrev sample : RunLent
sample = about 4 (pos 4 ∷ pos 4 ∷ pos 2 ∷ pos 2 ∷ pos 4 ∷ pos 4 ∷ pos 1 ∷ pos 1 ∷ [])

-- 02, Change 2: "M4 is then shown with height sum 1248, and its listing has `p 1 7 4 2 0`, `p 3 7 5 2 0` and `t 6 11 6 32 0 0 0` in place of
-- the old lines."
abbrev pub M4 : Type 0
M4 =
    (height_after (run_of sample) ≡ pos 1248)
    × (take (4 * answer_words) (run_of sample).answers
    ≡ 1 ∷ 3 ∷ 1 ∷ 0 ∷ 7 ∷ 4 ∷ 2 ∷ 0 ∷ 2 ∷ 0 ∷ 0 ∷ 0 ∷ 7 ∷ 5 ∷ 2 ∷ 0 ∷ [])
    × ((run_of sample).answer.counts ≡ record { vertices = 6; edges = 11; faces = 7 })
    × (area_after (run_of sample) ≡ pos 32)
    × ((run_of sample).answer.finished ≡ Ok (record { faces = 0; convexflips = 0; closingflips = 0 }))

-- "M5 seed (0,0) (4,0) (2,1), centre (2, 0.5), point (2,-1):
abbrev kite : RunLent
kite =
    seeded 3 1 (pos 0 ∷ pos 0 ∷ pos 4 ∷ pos 0 ∷ pos 2 ∷ pos 1 ∷ []) (at (fin false 1 (pos 1)) (fin false 1 (negsuc 0)))
    (pos 2 ∷ negsuc 0 ∷ [])

-- the mesh with the point's face, before `legalize_edge` of the located edge 1
abbrev unflipped : Links
unflipped = create_new_face_adjacent_to_edge (links_in kite.mesh) kite.counts 1

abbrev pub M5 : Type 0
M5 =
    -- circle determinant 24, one flip,
    (circle_at unflipped (steps_of kite 0).positions 1 ≡ pos 24)
    × (take answer_words (run_of kite).answers ≡ 1 ∷ 3 ∷ 1 ∷ 1 ∷ [])
    -- height sum 168 before it and 144 after."
    × (height_sum (with_vertex kite.counts) unflipped (steps_of kite 0).positions ≡ pos 168)
    × (height_after (run_of kite) ≡ pos 144)

-- "M6 coordinate 16777216 accepted, 16777217 refused 3."
abbrev pub M6 : Type 0
M6 =
    (run_checked (about 1 (pos 16777216 ∷ negsuc 16777215 ∷ [])) ≡ Ok tt)
    × ((run_of (about 1 (pos 16777217 ∷ pos 0 ∷ []))).answer.finished ≡ Err (record { number = 3; place = 3 }))

-- "M7 two vertices: 1."
abbrev pub M7 : Type 0
M7 = (run_of (seeded 2 0 seed (at one64 one64) [])).answer.finished ≡ Err (record { number = 1; place = 0 })

-- "M8 angle 1.0 accepted, NaN refused 8."
abbrev locate_at : Float → Located
locate_at a =
    let l = about 0 [] in
    (locate_of l.counts l.mesh l.ring l.center a).answer

abbrev pub M8 : Type 0
M8 =
    (locate_at one64 ≡ Ok (record { edge = 5; passed = 0 }))
    × (locate_at nan ≡ Err (record { number = 8; place = 0 }))

-- "M9 that seed with centre (9,9): 7."
abbrev pub M9 : Type 0
M9 =
    (run_of (seeded 3 0 seed (at (fin false 9 (pos 0)) (fin false 9 (pos 0))) [])).answer.finished
    ≡ Err (record { number = 7; place = 0 })

-- "M10 no points: an accepted run is the finish of the seed.": its answer, the mesh's rows and the pending list are those of `finish`,
-- called with the seed
abbrev pub FinishOfSeed : RunLent → RunOutcome → Type 0
FinishOfSeed l r = finished_with r.answer r.mesh r.pending ≡ finish_of l.counts l.mesh l.pending

abbrev pub M10 : Type 0
M10 = (l : RunLent) → l.points ≡ [] → run_checked l ≡ Ok tt → FinishOfSeed l (run_of l)

-- 01: "M1 to M10 are gathered in a list"
abbrev pub Marked : Type 0
Marked = M1 × M2 × M3 × M4 × M5 × M6 × M7 × M8 × M9 × M10
