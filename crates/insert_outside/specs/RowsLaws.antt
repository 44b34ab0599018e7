-- For the callers: how they come to what `insert_outside` asks, and that after it the rows hold a good mesh, with room
-- for what can be added to it. Assumes nothing.
use Rattle.std.specs.Prelude.{List, ◌≡◌, ℕ, ◌+◌, ◌*◌, ◌≤◌, ℤ, length}
use Rattle.std.proofs.Common.{◌∙◌, ap, arith}
use Rattle.std.proofs.Math.Path.{subst⁻¹}
use Rattle.apply.specs.Apply.{first_face}
use Rattle.circle_test.specs.GoodRows.{GoodRows}
use Rattle.conflicts.proofs.FlipsWithinLaws.{within_none}
use Rattle.corner.specs.declared.Extension.{Extension}
use Rattle.corner.specs.Corner.{Extended}
use Rattle.corner.specs.CornerLaws.{Closings}
use Rattle.corner.specs.CornerRows.{extended_of, MeshRoom, Ready}
use Rattle.corner.specs.RowsLaws.{SameLengths, kept}
use Rattle.dcel.specs.Rows.{links_of, position_of}
use Rattle.location.specs.Place.{Beyond}
use Rattle.math.specs.declared.Point.{Point}
use Rattle.math.specs.Determinant.{InRange}
use Rattle.mesh.specs.declared.Counts.{Counts}
use Rattle.mesh.specs.Mesh.{Links}
use Rattle.skipped.specs.Insert.{insert_outside}
use Rattle.skipped.proofs.LegalizeVertexLaws.{legalized-good, legalized-bound}
use Rattle.skipped.proofs.OutsideLaws.{new-good, first-legalized, outside-covers}
use Rattle.sums.specs.Put.{put}
use Rattle.sums.proofs.PutLaws.{put_same, put_other}
use Rattle.insert_outside.specs.OutsideRows.{OutsideReady}

-- ---- before: the point's position is stored after those of a good mesh
pub outside-ready : {C : Counts} {q₀ : List ℤ} {o h a : List ℕ} → GoodRows C q₀ o h a → {v : Point} → InRange v
    → {e : ℕ} → Beyond C (links_of o h a) (position_of q₀) v e
    → {q : List ℤ} → position_of q ≡ put (position_of q₀) C.vertices v → 2 * (C.vertices + 1) ≤ length q
    → C.vertices + 1 ≤ length o → {row : List ℕ} → MeshRoom (C.vertices + 1) h a row → OutsideReady C q o h a row v e
outside-ready {C} {q₀} R {v} i b x l k s = record {
  places = position_of q₀;
  good = R.good;
  same = λ u m. ap (λ (f : ℕ → Point). f u) x ∙ put_other (position_of q₀) C.vertices v u (λ z. omega arith);
  here = ap (λ (f : ℕ → Point). f C.vertices) x ∙ put_same (position_of q₀) C.vertices v;
  range = i;
  beyond = b;
  outs = k;
  positions = l;
  sized = s;
}

-- ---- after
module _ {C : Counts} {q : List ℤ} {o h a row : List ℕ} {v : Point} {e : ℕ} (R : OutsideReady C q o h a row v e) where
  abbrev L : Links
  L = links_of o h a

  abbrev p : ℕ → Point
  p = position_of q

  abbrev m₁ : Extended
  m₁ = first_face (length row) p C L e

  -- the first face, and corners closed after it
  pub ready-after : {m : Extended} → Closings p m₁ m → {o' h' a' row' : List ℕ} {g : Extension} → extended_of o' h' a' g ≡ m
      → SameLengths o h a row o' h' a' row' → Ready q o' h' a' row' g
  unfolding first_face
  ready-after c x l =
      let B = R.beyond in
      let G = new-good (length row) R.good B.used B.outer B.left R.same R.here R.range in
      let A = first-legalized (length row) R.good B.used B.outer B.left R.same R.here R.range in
      kept m₁ (legalized-good G A) (legalized-bound G A within_none) (omega arith) R.outs R.positions R.sized
      (subst⁻¹ (Closings p m₁) x c) l

  -- all of it: a caller can go on
  pub outside-rows : {o' h' a' row' : List ℕ} {g : Extension} → extended_of o' h' a' g ≡ insert_outside (length row) p C L v e
      → SameLengths o h a row o' h' a' row' → Ready q o' h' a' row' g
  outside-rows =
      let B = R.beyond in
      ready-after (outside-covers (length row) R.good B.used B.outer B.left R.same R.here R.range)
