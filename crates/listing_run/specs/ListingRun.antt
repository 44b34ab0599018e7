-- The listing of a text: 01, "Runs to reproduce", from bytes to bytes. Definitions only.
-- `listing_of text` is what the listing program prints for any bytes whatever; what a text says is `read_of` of
-- listing_text, what a run comes to is `run_of` of sweep.
use Rattle.std.specs.Prelude.{List, [], ◌∷◌, ◌++◌, ℕ, zero, suc, ◌+◌, ◌-◌, ℤ, pos, get_or, take, drop, replicate, Ok, Err}
use Rattle.std.specs.Float.Ieee.{of_int}
use Rattle.std.specs.Float.{binary64}
use Rattle.std.proofs.lemmas.List.Edits.{sets}
use Rattle.ring_rows.specs.Rows.{zero_node}
use Rattle.ring_rows.specs.RingRows.{ring_rows}
use Rattle.dcel.specs.MeshRows.{MeshRows, mesh_rows, links_in, places_in}
use Rattle.finish.specs.Finished.{Finished}
use Rattle.finish.specs.declared.Totals.{Totals}
use Rattle.listing_text.specs.declared.writing.PointLine.{PointLine}
use Rattle.listing_text.specs.declared.writing.TotalsLine.{TotalsLine}
use Rattle.listing_text.specs.Listing.{point_line, totals_line, refusal_line}
use Rattle.listing_text.specs.Reading.{Reading, malformed, numbers, read_of}
use Rattle.mesh.specs.declared.Counts.{Counts}
use Rattle.mesh.specs.Area.{area_total}
use Rattle.mesh_check.specs.Check.{point_count}
use Rattle.sweep.specs.SeedTriangle.{seed_counts, seed_outs_of, seed_halves_of, seed_faces_of}
use Rattle.sweep.specs.Run.{RunLent, RunOutcome, run_lent, answer_in, run_of}

-- ---- what is lent for the numbers of a text: x0 y0 x1 y1 x2 y2, the centre's x y, and each point's
-- the seed over the first entries of the mesh's rows, and a row of nodes for 400 vertices
abbrev pub lent_in : List ℤ → MeshRows → List ℕ → List ℕ → List ℕ → List ℕ → RunLent
lent_in zs m freed buckets pending answers =
    run_lent seed_counts
    (mesh_rows (sets m.positions 0 (take 6 zs)) (sets m.outs 0 seed_outs_of) (sets m.halves 0 seed_halves_of) (sets m.faces 0 seed_faces_of))
    (ring_rows (replicate 401 zero_node) freed buckets) pending answers
    (record { x = of_int binary64 (get_or zs 6 (pos 0)); y = of_int binary64 (get_or zs 7 (pos 0)) }) (drop 8 zs)

-- 01: "at most 400 vertices with the seed's; it lends 4,096 pending entries": every row has its size for 400 vertices,
-- and holds zeros but for the seed
unfoldable pub lent_of : List ℤ → RunLent
lent_of zs =
    lent_in zs (mesh_rows (replicate 800 (pos 0)) (replicate 400 0) (replicate 9600 0) (replicate 800 0))
    (replicate 401 0) (replicate 400 0) (replicate 4096 0) (replicate 1588 0)

-- ---- what is printed
-- 01: "one answer (fate, vertex, faces, flips) per point"
unfoldable pub answer_line : List ℕ → ℕ → PointLine
answer_line answers i = record {
  index = i;
  fate = answer_in answers i 0;
  vertex = answer_in answers i 1;
  faces = answer_in answers i 2;
  flips = answer_in answers i 3;
}

-- 01: "It prints `p index fate vertex faces flips` per point": of the first n
unfoldable pub point_lines : List ℕ → ℕ → List ℕ
point_lines answers zero = []
point_lines answers (suc n) = point_lines answers n ++ point_line (answer_line answers n)

-- 01: "then `t vertices edges innerfaces doubledarea finishfaces convexflips closingflips`". Face 0 is the outer one
unfoldable pub totals_of : Counts → ℤ → Totals → TotalsLine
totals_of C area t = record {
  vertices = C.vertices;
  edges = C.edges;
  inner_faces = C.faces - 1;
  doubled_area = area;
  finish_faces = t.faces;
  convex_flips = t.convexflips;
  closing_flips = t.closingflips;
}

-- the doubled area is the inner faces', in total; by demand 3 it is the boundary's too
unfoldable pub finished_listing : ℕ → RunOutcome → Finished → List ℕ
-- 01: "A refusal prints `r number place` alone"
finished_listing count r (Err x) = refusal_line x.number x.place
finished_listing count r (Ok t) =
    point_lines r.answers count
    ++ totals_line (totals_of r.answer.counts
    (area_total r.answer.counts (links_in r.mesh) (places_in r.mesh)) t)

-- of a run with so many points
abbrev pub outcome_listing : ℕ → RunOutcome → List ℕ
outcome_listing count r = finished_listing count r r.answer.finished

abbrev pub lent_listing : RunLent → List ℕ
lent_listing l = outcome_listing (point_count l.points) (run_of l)

abbrev pub numbers_listing : List ℤ → List ℕ
numbers_listing zs = lent_listing (lent_of zs)

-- 01: "a line that is malformed, missing, out of order or past the 400 prints `r 0 line` alone, lines from 1"
unfoldable pub reading_listing : Reading → List ℕ
reading_listing (malformed line) = refusal_line 0 line
reading_listing (numbers zs) = numbers_listing zs

-- THE LISTING, for any bytes
unfoldable pub listing_of : List ℕ → List ℕ
listing_of text = reading_listing (read_of text)
