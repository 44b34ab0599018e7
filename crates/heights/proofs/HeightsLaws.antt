-- What the checks with heights come to: where no row of heights is too short and no height outside, heights refuse nothing, and a call's
-- own table decides (`tested-then`, `own-table`); otherwise the answer is one of 1, 2, 3 and 10 (`heights-numbered`). What is accepted has its
-- heights, all of them in range (`heights-accept`). Assumes nothing.
use Rattle.std.specs.Prelude.{Bool, not, ◌||◌, ℕ, ◌<◌, ◌≤◌, ℤ, nat_abs, length, Ok, Err}
use Rattle.std.proofs.Math.Bool.{true, false, cond}
use mathlib.Core.List.{List, []}
use Rattle.std.proofs.Math.Path.{◌≡◌, refl, sym, ap}
use Rattle.std.proofs.Common.{◌∙◌, arith}
use borrow.Author.Tests.{ltb-false, leb-true}
use Rattle.dcel.specs.MeshRows.{MeshRows}
use Rattle.mesh.specs.declared.Counts.{Counts}
use Rattle.mesh_check.specs.Checked.{Checked}
use Rattle.mesh_check.specs.declared.Refusal.{Refusal}
use Rattle.mesh_check.specs.Accepted.{AcceptedMesh}
use Rattle.mesh_check.proofs.AcceptedLaws.{or-false, check-accepts, range-long, short-refused, with-refused, with_none}
use Rattle.mesh_check.specs.Check.{refused, and_then, point_count, vertex_count, range_with, check_with, check_of}
use Rattle.mesh_check.specs.CheckLaws.{NumberedTo, accepts}
use Rattle.mesh_check.proofs.CheckLawsFacts.{numbered_more, numbered-cond, range-numbered, check-numbered}
use Rattle.mesh_check.proofs.CheckLawsFacts.{then_next, then-refused, then-accepts, then-numbered}
use Rattle.sums.proofs.BitLaws.{from_false, is_true, sure}
use Rattle.sums.proofs.BoundedLaws.{none-below→}
use Rattle.heights.specs.Heights.{SurfaceRows, height_of, is_valid_height, heights_outside, heights_short, HeightsLent}
use Rattle.heights.specs.Heights.{HeightsGiven, check_ten, any_heights_short, any_heights_outside, heights_checked, heights_tested, mesh_lent, surface_checked}

-- ---- one height
pub valid-within : (z : ℤ) → is_valid_height z ≡ true → nat_abs z ≤ 1048576
unfolding is_valid_height
valid-within z e = leb-true (nat_abs z) 1048576 e

pub none-outside : (n : ℕ) (row : List ℤ) → heights_outside n row ≡ false → {v : ℕ} → v < n → nat_abs (height_of row v) ≤ 1048576
unfolding heights_outside
none-outside n row e {v} l =
    valid-within (height_of row v) (is_true (is_valid_height (height_of row v)) (sure (is_valid_height (height_of row v)) (λ t.
    none-below→ n (λ v. not (is_valid_height (height_of row v))) (from_false e) v l t)))

-- the heights of the seed are there where those of all vertices are
pub seed-there : (C : Counts) (points : List ℤ) {n : ℕ} → vertex_count C points ≤ n → C.vertices ≤ n
unfolding vertex_count
seed-there C points l = omega arith

-- ---- the checks
or-none : (b : Bool) → (b || false) ≡ b
or-none true = refl
or-none false = refl

pub or-all : (b : Bool) → (b || true) ≡ true
or-all true = refl
or-all false = refl

-- 1, 2, 3, and then 10
module _ (points : List ℤ) (short : Bool) (C : Counts) (m : MeshRows) where
  pub ten-refused : (outside : Bool) {r : Refusal} → range_with points short C m ≡ Err r
      → Err r ≡ check_ten points short outside C m
  unfolding check_ten
  ten-refused outside e = sym (then-refused _ e)

  module _ (e : range_with points short C m ≡ Ok tt) {outside : Bool} where
    pub ten-outside : outside ≡ true → refused 10 0 ≡ check_ten points short outside C m
    unfolding check_ten
    ten-outside o = sym (then_next _ e ∙ ap (λ (b : Bool). cond b (refused 10 0) (Ok tt)) o)

    pub ten-accepted : outside ≡ false → (Ok tt) ≡ check_ten points short outside C m
    unfolding check_ten
    ten-accepted o = sym (then_next _ e ∙ ap (λ (b : Bool). cond b (refused 10 0) (Ok tt)) o)

module _ (g : HeightsLent) (C : Counts) (s : SurfaceRows) where
  -- what is accepted: a height for each vertex and point, those of the vertices in use and of the points inside, and a level too
  pub record HeightsAccepted : Type 0 where
    pub vertices : vertex_count C g.points ≤ length s.heights
    pub points : point_count g.points ≤ length g.point_heights_of
    pub height : {v : ℕ} → v < C.vertices → nat_abs (height_of s.heights v) ≤ 1048576
    pub point-height : {i : ℕ} → i < point_count g.points → nat_abs (height_of g.point_heights_of i) ≤ 1048576
    pub inside : g.outside ≡ false

  pub long-enough : any_heights_short g C s.heights ≡ false
      → (vertex_count C g.points ≤ length s.heights) × (point_count g.points ≤ length g.point_heights_of)
  unfolding any_heights_short
  long-enough e =
      let a = or-false (heights_short (vertex_count C g.points) s.heights) (heights_short (point_count g.points) g.point_heights_of) e in
      (ltb-false (length s.heights) (vertex_count C g.points) a.0, ltb-false (length g.point_heights_of) (point_count g.points) a.1)

  all-inside : any_heights_short g C s.heights ≡ false → any_heights_outside g C s.heights ≡ false → HeightsAccepted
  unfolding any_heights_outside
  all-inside e f =
      let l = long-enough e in
      let first = heights_outside C.vertices s.heights in
      let second = heights_outside (point_count g.points) g.point_heights_of in
      let a = or-false g.outside (first || second) f in
      let b = or-false first second a.1 in
      record {
        vertices = l.0;
        points = l.1;
        height = none-outside C.vertices s.heights b.0;
        point-height = none-outside (point_count g.points) g.point_heights_of b.1;
        inside = a.0;
      }

  pub heights-accept : heights_checked g C s ≡ Ok tt → HeightsAccepted
  unfolding heights_checked check_ten
  heights-accept e =
      let t = then-accepts (range_with g.points (g.short || any_heights_short g C s.heights) C s.mesh)
      (cond (any_heights_outside g C s.heights) (refused 10 0) (Ok tt)) e in
      let l = range-long g.points (g.short || any_heights_short g C s.heights) C s.mesh t.0 in
      all-inside (or-false g.short (any_heights_short g C s.heights) l).1 (not-ten (any_heights_outside g C s.heights) t.1)
    where
      not-ten : (b : Bool) → cond b (refused 10 0) (Ok tt) ≡ Ok tt → b ≡ false
      not-ten true e = absurd (let z : ◌≡◌ {A = ℕ} 0 1 = cc in omega arith)
      not-ten false e = refl

  -- where no height refuses, rows 1 to 3 are those of a call's own table: `short` is all of its other rows
  fine-then : any_heights_short g C s.heights ≡ false → any_heights_outside g C s.heights ≡ false → (next : Checked)
      → and_then (heights_checked g C s) (and_then (check_with g.points g.short C s.mesh) next)
      ≡ and_then (check_with g.points g.short C s.mesh) next
  unfolding heights_checked check_ten
  fine-then e f next = rw (e, f, or-none g.short) (go (range_with g.points g.short C s.mesh) refl)
    where
      after : Checked
      after = and_then (check_with g.points g.short C s.mesh) next

      go : (c : Checked) → range_with g.points g.short C s.mesh ≡ c
          → and_then (and_then (range_with g.points g.short C s.mesh) (Ok tt)) (and_then (check_with g.points g.short C s.mesh) next)
          ≡ and_then (check_with g.points g.short C s.mesh) next
      go (Ok tt) k = then_next _ (then_next (Ok tt) k)
      go (Err r) k =
          then-refused _ (then-refused (Ok tt) k)
          ∙ sym (then-refused next (sym (with-refused g.points g.short C s.mesh k)))

  -- ---- as the code asks: first whether a height refuses at all
  -- a row of heights is too short: 1 or 2, whatever the heights are
  pub short-tested : any_heights_short g C s.heights ≡ true
      → (outside : Bool) → check_ten g.points true outside C s.mesh ≡ heights_tested g C s
  unfolding heights_tested heights_checked check_ten and_then
  short-tested e outside =
      let r = short-refused g.points C s.mesh in
      rw (e, or-all g.short, r.1) refl

  pub outside-tested : any_heights_short g C s.heights ≡ false → any_heights_outside g C s.heights ≡ true
      → check_ten g.points g.short true C s.mesh ≡ heights_tested g C s
  unfolding heights_tested heights_checked
  outside-tested e f = rw (e, f, or-none g.short) refl

  pub fine-tested : any_heights_short g C s.heights ≡ false → any_heights_outside g C s.heights ≡ false → (Ok tt) ≡ heights_tested g C s
  unfolding heights_tested
  fine-tested e f = rw (e, f) refl

  pub given-tested : HeightsGiven g C s → heights_tested g C s ≡ Ok tt
  given-tested G = sym (fine-tested G.long G.inside)

  pub tested-refused : {r : Refusal} → heights_tested g C s ≡ Err r → heights_checked g C s ≡ Err r
  unfolding heights_tested
  tested-refused {r} e = go (any_heights_short g C s.heights || any_heights_outside g C s.heights) e
    where
      go : (b : Bool) → cond b (heights_checked g C s) (Ok tt) ≡ Err r → heights_checked g C s ≡ Err r
      go true k = k
      go false k = absurd (let z : ◌≡◌ {A = ℕ} 0 1 = cc in omega arith)

  pub tested-accept : heights_tested g C s ≡ Ok tt → HeightsAccepted
  unfolding heights_tested
  tested-accept e = go (any_heights_short g C s.heights || any_heights_outside g C s.heights) refl e
    where
      go : (b : Bool) → (any_heights_short g C s.heights || any_heights_outside g C s.heights) ≡ b
          → cond b (heights_checked g C s) (Ok tt) ≡ Ok tt → HeightsAccepted
      go true p k = heights-accept k
      go false p k = let u = or-false (any_heights_short g C s.heights) (any_heights_outside g C s.heights) p in all-inside u.0 u.1

  pub tested-then : heights_tested g C s ≡ Ok tt → (next : Checked)
      → and_then (heights_checked g C s) (and_then (check_with g.points g.short C s.mesh) next)
      ≡ and_then (check_with g.points g.short C s.mesh) next
  unfolding heights_tested
  tested-then e next = go (any_heights_short g C s.heights || any_heights_outside g C s.heights) refl e
    where
      go : (b : Bool) → (any_heights_short g C s.heights || any_heights_outside g C s.heights) ≡ b
          → cond b (heights_checked g C s) (Ok tt) ≡ Ok tt
          → and_then (heights_checked g C s) (and_then (check_with g.points g.short C s.mesh) next)
          ≡ and_then (check_with g.points g.short C s.mesh) next
      go true p k = then_next _ k
      go false p k = let u = or-false (any_heights_short g C s.heights) (any_heights_outside g C s.heights) p in fine-then u.0 u.1 next

  -- what the rows up to 10 accept, the quick test accepts
  pub checked-tested : heights_checked g C s ≡ Ok tt → heights_tested g C s ≡ Ok tt
  unfolding heights_tested
  checked-tested e = go (any_heights_short g C s.heights || any_heights_outside g C s.heights)
    where
      go : (b : Bool) → cond b (heights_checked g C s) (Ok tt) ≡ Ok tt
      go true = e
      go false = refl

-- ---- a call's own table, which begins with the rows of its mesh
module _ (g : HeightsLent) (C : Counts) (s : SurfaceRows) {own : Checked} (next : Checked)
    (begins : own ≡ and_then (check_with g.points g.short C s.mesh) next) where
  pub own-table : heights_tested g C s ≡ Ok tt → and_then (heights_checked g C s) own ≡ own
  own-table e = rw begins (tested-then g C s e next)

  pub own-refused : {r : Refusal} → heights_tested g C s ≡ Err r → and_then (heights_checked g C s) own ≡ Err r
  own-refused e = then-refused own (tested-refused g C s e)

-- ---- a refusal has one of the numbers 1, 2, 3 and 10, and in `check` and `volume` 4 and 5 too
pub heights-numbered : (g : HeightsLent) (C : Counts) (s : SurfaceRows) → NumberedTo 10 (heights_checked g C s)
unfolding heights_checked check_ten range_with
heights-numbered g C s =
    then-numbered (numbered_more (omega arith) (range-numbered _ _ _))
    (numbered-cond (any_heights_outside g C s.heights) 10 0 (omega arith) (omega arith) accepts)

pub surface-numbered : (outside : Bool) (C : Counts) (s : SurfaceRows) → NumberedTo 10 (surface_checked outside C s)
unfolding surface_checked check_of
surface-numbered outside C s =
    then-numbered (heights-numbered (mesh_lent outside) C s) (numbered_more (omega arith) (check-numbered _ _ _ _ _))

-- ---- the call `check`, and the checks of `volume`
module _ (outside : Bool) (C : Counts) (s : SurfaceRows) where
  pub surface-refused : {r : Refusal} → heights_tested (mesh_lent outside) C s ≡ Err r → Err r ≡ surface_checked outside C s
  unfolding surface_checked
  surface-refused e = sym (then-refused (check_of C s.mesh) (tested-refused (mesh_lent outside) C s e))

  pub surface-next : heights_tested (mesh_lent outside) C s ≡ Ok tt → check_of C s.mesh ≡ surface_checked outside C s
  unfolding surface_checked and_then
  surface-next e =
      let same = with_none C s.mesh in
      sym (rw (alone (check_with [] false C s.mesh), same) at (tested-then (mesh_lent outside) C s e (Ok tt)))
    where
      alone : (c : Checked) → and_then c (Ok tt) ≡ c
      alone (Ok tt) = refl
      alone (Err r) = refl

  -- the mesh is good, every vertex in use has a height in range, and a level is
  pub surface-accepts : surface_checked outside C s ≡ Ok tt → AcceptedMesh C s.mesh × HeightsAccepted (mesh_lent outside) C s
  unfolding surface_checked
  surface-accepts e =
      let t = then-accepts (heights_checked (mesh_lent outside) C s) (check_of C s.mesh) e in
      (check-accepts t.1, heights-accept (mesh_lent outside) C s t.0)
