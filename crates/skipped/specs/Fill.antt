-- The skipped points of a list go in, in list order, and the finish with them. Definitions only, and each computes;
-- `FillLaws` and `CompleteLaws` have the laws.
-- 02, Change 2: "After convexity and before the closing pass, points of fates 3, 4 and 5 are inserted in list order"
-- `point` gives each point of the list its position, by its index, and `skipped` says whether its step gave 3, 4 or 5.
use Rattle.std.specs.Prelude.{Bool, true, false, cond, not, ◌&&◌, ℕ, zero, suc, ◌+◌}
use Rattle.convexity.specs.Convexity.{convexity}
use Rattle.corner.specs.Corner.{Extended}
use Rattle.finish.specs.Finish.{Finishing, close_after}
use Rattle.math.specs.declared.Point.{Point}
use Rattle.mesh.specs.declared.Counts.{Counts}
use Rattle.mesh.specs.Mesh.{Links}
use Rattle.skipped.specs.Insert.{Inserting, insert_point, position_fate, position_vertex, is_new}

-- ---- the mesh under way, how many points of the list have been looked at, and whether a flip was refused
pub record Filling : Type 0 where
  pub counts : Counts
  pub links : Links
  pub positions : ℕ → Point
  pub answered : ℕ
  pub full : Bool

abbrev pub fill_start : Counts → Links → (ℕ → Point) → Filling
fill_start C L p = record { counts = C; links = L; positions = p; answered = 0; full = false }

-- a point on the mesh as it stands
abbrev pub insert_on : ℕ → Filling → Point → Inserting
insert_on room s v = insert_point room s.counts s.links s.positions v

-- after an insertion
abbrev pub filled_by : Filling → Inserting → Filling
filled_by s t = record {
  counts = t.mesh.counts;
  links = t.mesh.links;
  positions = t.positions;
  answered = cond t.mesh.full s.answered (suc s.answered);
  full = t.mesh.full;
}

-- past a point that was not skipped
abbrev pub passed_by : Filling → Filling
passed_by s = record { counts = s.counts; links = s.links; positions = s.positions; answered = suc s.answered; full = false }

-- 02: "A 9 met here names that point's index": as many as have been looked at. After it no point follows
unfoldable pub fill_point : ℕ → Filling → Bool → Point → Filling
fill_point room s b v = let r = cond b (filled_by s (insert_on room s v)) (passed_by s) in cond s.full s r

-- the mesh after the first n points of the list
unfoldable pub fill_after : ℕ → Counts → Links → (ℕ → Point) → (ℕ → Bool) → (ℕ → Point) → ℕ → Filling
fill_after room C L p skipped point zero = fill_start C L p
fill_after room C L p skipped point (suc n) = fill_point room (fill_after room C L p skipped point n) (skipped n) (point n)

-- the insertion of point i
abbrev pub inserted_at : ℕ → Counts → Links → (ℕ → Point) → (ℕ → Bool) → (ℕ → Point) → ℕ → Inserting
inserted_at room C L p skipped point i = insert_on room (fill_after room C L p skipped point i) (point i)

-- the vertex of point i
abbrev pub inserted_vertex : ℕ → Counts → Links → (ℕ → Point) → (ℕ → Bool) → (ℕ → Point) → ℕ → ℕ
inserted_vertex room C L p skipped point i =
    position_vertex (fill_after room C L p skipped point i).counts (inserted_at room C L p skipped point i).place

-- whether point i becomes a new vertex: fates 6, 7 and 8, and the point that is refused 9
unfoldable pub enters : ℕ → Counts → Links → (ℕ → Point) → (ℕ → Bool) → (ℕ → Point) → ℕ → Bool
enters room C L p skipped point i =
    not (fill_after room C L p skipped point i).full && (skipped i && is_new (inserted_at room C L p skipped point i).place)

-- ---- the answer of an inserted point, four words: 02: "Fates 6 to 9 give their vertex, with the inner faces that the
-- insertion adds and its flips"
unfoldable pub insert_word : Counts → Inserting → ℕ → ℕ
insert_word C t zero = position_fate t.place
insert_word C t (suc zero) = position_vertex C t.place
insert_word C t (suc (suc zero)) = t.mesh.faces
insert_word C t (suc (suc (suc k))) = t.mesh.flips

-- ---- the finish: convexity passes, the skipped points among the first n, convexity passes, the closing pass; after a
-- refused flip nothing follows 02: "Convexity passes then repeat until one adds no face."
unfoldable pub fill_from : ℕ → (ℕ → Point) → (ℕ → Bool) → (ℕ → Point) → ℕ → Extended → Filling
fill_from room p skipped point n v =
    let s = fill_after room v.counts v.links p skipped point n in
    cond v.full (record { counts = v.counts; links = v.links; positions = p; answered = n; full = true }) s

unfoldable pub convex_after : ℕ → Filling → Extended
convex_after room s =
    let w = convexity room s.counts s.positions s.links in
    cond s.full (record { counts = s.counts; links = s.links; faces = 0; flips = 0; full = true }) w

-- the mesh as it is left, with the faces and flips of both convexity stages; the positions; what a refusal 9 names; and
-- the number below which skipped points are in
-- 02: "after any 9 a skipped point not yet in answers 0"
pub record Completing : Type 0 where
  pub mesh : Finishing
  pub positions : ℕ → Point
  pub place : ℕ
  pub inserted : ℕ

-- THE FINISH WITH SKIPPED POINTS
unfoldable pub complete_mesh : ℕ → Counts → Links → (ℕ → Point) → (ℕ → Bool) → (ℕ → Point) → ℕ → Completing
complete_mesh room C L p skipped point n =
    let v = convexity room C p L in
    let s = fill_from room p skipped point n v in
    let w = convex_after room s in
    let c = close_after s.positions w in
    record {
      mesh = record {
        counts = w.counts;
        links = c.links;
        faces = v.faces + w.faces;
        convexflips = v.flips + w.flips;
        closingflips = c.flips;
        full = w.full;
      };
      positions = s.positions;
      place = cond s.full s.answered n;
      inserted = cond v.full 0 s.answered;
    }
