-- The rows of an accepted mesh can be measured, and the sums over its faces make up six times its volume. Assumes nothing.
use Rattle.std.specs.Prelude.{not, List, [], ◌≡◌, ℤ, pos, nat_abs, length, ◌≤ℤ◌, Ok}
use Rattle.std.proofs.Common.{◌∙◌, le_refl, lt_of_lt_of_le}
use Rattle.std.proofs.Math.Path.{ap, ap₂}
use Prim.Native.Nat.{ℕ, suc, ◌+◌, ◌-◌, ◌*◌, ◌<◌, ◌≤◌}
use native.Mathlib.Omega.{arith}
use Rattle.std.proofs.lemmas.Bool.{not-false}
use Rattle.algebra.proofs.Order.{lt-le}
use Rattle.dcel.specs.MeshRows.{MeshRows, places_in}
use Rattle.dcel.specs.Rows.{There, Placed, row_of, links_of, position_of}
use Rattle.heights.specs.Heights.{surface_rows, height_of, is_valid_height, mesh_lent, surface_checked}
use Rattle.heights.proofs.HeightsLaws.{HeightsAccepted, surface-accepts, seed-there, valid-within}
use Rattle.math.specs.declared.Point.{Point}
use Rattle.math.proofs.AreaBound.{area-bound}
use Rattle.math.specs.Determinant.{orient2d}
use Rattle.mesh.specs.declared.Counts.{Counts}
use Rattle.mesh.specs.Area.{at_corners}
use Rattle.mesh.proofs.CountsLaws.{halves-fit, faces-fit}
use Rattle.mesh.specs.Mesh.{Links}
use Rattle.mesh_check.specs.Checked.{Checked}
use Rattle.mesh_check.specs.Accepted.{AcceptedMesh}
use Rattle.volume.specs.declared.DigitSums.{DigitSums}
use Rattle.volume.specs.DigitSums.{plus_triangle, whole_of, SmallSums}
use Rattle.volume.proofs.DigitSumsLaws.{none_yet, one_more, whole_is, sums-small}
use Rattle.volume.specs.Measurable.{Measurable, Triangle, face_sums}
use Rattle.volume.specs.Volume.{above_level, six_volumes_of}
use Rattle.volume.proofs.VolumeLaws.{above_most, six-less}

-- ---- the sums over the faces
module _ (L : Links) (p : ℕ → Point) (h : ℕ → ℤ) (level : ℤ) where
  pub no-face : record { low = pos 0; middle = pos 0; high = pos 0 } ≡ face_sums 0 L p h level
  unfolding face_sums
  no-face = none_yet _ _

  -- face f after the faces before it
  pub next-face : (f : ℕ) {s r : DigitSums} {e : ℕ} → 0 < f → s ≡ face_sums (f - 1) L p h level → e ≡ L.adjacent f
      → r ≡ plus_triangle s (at_corners orient2d L p e) (above_level L h level e) → r ≡ face_sums (f + 1 - 1) L p h level
  unfolding face_sums
  next-face f l q k m =
      let n : f ≡ suc (f - 1) = omega arith in
      let next : suc (f - 1) ≡ f + 1 - 1 = omega arith in
      m ∙ ap₂ (λ (s : DigitSums) (e : ℕ). plus_triangle s (at_corners orient2d L p e) (above_level L h level e))
      q (k ∙ ap L.adjacent n)
      ∙ one_more (f - 1) _ _ ∙ ap (λ (k : ℕ). face_sums k L p h level) next

module _ {C : Counts} {p z : List ℤ} {h a : List ℕ} {level : ℤ} (M : Measurable C p z h a level) (o : List ℕ) where
  abbrev L : Links
  L = links_of o h a

  pub triangle-of : {f e : ℕ} → 0 < f → f < C.faces → e ≡ row_of a f → Triangle p z h level e
  triangle-of l k q = rw q (M.triangles _ l k)

  pub faces-small : (n : ℕ) → n ≤ C.faces - 1 → SmallSums (face_sums n L (position_of p) (height_of z) level)
  unfolding face_sums links_of
  faces-small n l =
      let m = M.few in
      sums-small n _ _ (λ i k. (M.triangles (suc i) (omega arith) (omega arith)).small o a) (omega arith)

  pub faces-whole : whole_of (face_sums (C.faces - 1) L (position_of p) (height_of z) level)
      ≡ six_volumes_of C L (position_of p) (height_of z) level
  unfolding face_sums six_volumes_of links_of
  faces-whole = whole_is (C.faces - 1) _ _ (λ i k. (M.triangles (suc i) (omega arith) (omega arith)).small o a)

-- ---- an accepted mesh
module _ {C : Counts} {m : MeshRows} (A : AcceptedMesh C m) (z : List ℤ) (level : ℤ) (long : C.vertices ≤ length z)
    (heights : (v : ℕ) → v < C.vertices → nat_abs (height_of z v) ≤ 1048576) (low : nat_abs level ≤ 1048576) where
  half-there : {e : ℕ} → e < 2 * C.edges → There m.halves e
  half-there l =
      let u = halves-fit A.good.wf (le_refl C.vertices) in
      let r = A.rows.halves in
      omega arith

  -- the vertex v is in the rows of positions and of heights
  placed : {v : ℕ} → v < C.vertices → Placed m.positions v
  placed l = record { there = let r = A.rows.positions in omega arith; range = A.good.range l }

  tall : {v : ℕ} → v < C.vertices → v < length z
  tall l = lt_of_lt_of_le l long

  triangle : {e : ℕ} → e < 2 * C.edges → ((o s : List ℕ) → pos 0 ≤ℤ at_corners orient2d (links_of o m.halves s) (places_in m) e)
      → Triangle m.positions z m.halves level e
  unfolding links_of
  triangle {e} a< positive =
      let R = A.good.wf.ranges in
      let b< = R.next< a< in
      let c< = R.next< b< in
      let a = R.origin< a< in
      let b = R.origin< b< in
      let c = R.origin< c< in
      record {
        corners = record {
          first = half-there a<;
          second = half-there b<;
          third = half-there c<;
          one = placed a;
          two = placed b;
          three = placed c;
        };
        heights = record {
          first = half-there a<;
          second = half-there b<;
          third = half-there c<;
          one = tall a;
          two = tall b;
          three = tall c;
        };
        small = λ o s. record {
          positive = positive o s;
          area = area-bound (A.good.range a) (A.good.range b) (A.good.range c);
          above = above_most (links_of o m.halves s) (height_of z) level e (heights _ a) (heights _ b) (heights _ c) low;
        };
      }

  pub accepted-measurable : Measurable C m.positions z m.halves m.faces level
  unfolding links_of six_volumes_of above_level
  accepted-measurable =
      let u = faces-fit A.good.wf (le_refl C.vertices) in
      record {
        faces = let r = A.rows.faces in omega arith;
        few = let r = A.most in omega arith;
        some = A.good.wf.some;
        less = λ o. six-less A.good A.most (height_of z) level heights low;
        triangles = λ f l k. triangle (A.good.wf.ranges.adjacent< k) (λ o s. lt-le (A.good.turning.left l k));
      }

-- where the checks refuse nothing
module _ (C : Counts) (m : MeshRows) (z : List ℤ) (level : ℤ)
    (e : surface_checked (not (is_valid_height level)) C (surface_rows m z) ≡ Ok tt) where
  accepted : AcceptedMesh C m × HeightsAccepted (mesh_lent (not (is_valid_height level))) C (surface_rows m z)
  accepted = surface-accepts (not (is_valid_height level)) C (surface_rows m z) e

  level-low : nat_abs level ≤ 1048576
  level-low = valid-within level (not-false (is_valid_height level) accepted.1.inside)

  pub checked-measurable : Measurable C m.positions z m.halves m.faces level
  checked-measurable =
      accepted-measurable accepted.0 z level (seed-there C [] accepted.1.vertices) (λ v l. accepted.1.height l) level-low
