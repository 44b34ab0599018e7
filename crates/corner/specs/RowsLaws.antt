-- Rows in which corners were closed: they hold a good mesh still, with room for what can be added, and so a caller can
-- go on with them. Assumes nothing.
use Rattle.std.specs.Prelude.{Bool, true, false, ◌||◌, List, ◌≡◌, refl, ℕ, ◌*◌, ◌≤◌, ℤ, length}
use Rattle.std.proofs.Common.{◌∙◌, le_refl, arith}
use Rattle.std.proofs.Math.Path.{subst⁻¹}
use Rattle.conflicts.specs.FlipsWithin.{FlipsWithin}
use Rattle.dcel.specs.Rows.{position_of}
use Rattle.dcel.specs.MeshHeld.{Room}
use Rattle.math.specs.declared.Point.{Point}
use Rattle.mesh.specs.declared.Counts.{Counts}
use Rattle.mesh.specs.Mesh.{Links}
use Rattle.mesh.proofs.CountsLaws.{halves-fit, faces-fit}
use Rattle.mesh.specs.Good.{Good}
use Rattle.corner.specs.declared.Extension.{Extension}
use Rattle.corner.specs.Corner.{Extended}
use Rattle.corner.specs.CornerLaws.{Closings, closings-good, closings-bound, closings-count}
use Rattle.corner.specs.CornerRows.{extended_of, MeshRoom, Ready}

-- the rows keep their lengths
pub record SameLengths (o h a r o' h' a' r' : List ℕ) : Type 0 where
  pub outs : length o' ≡ length o
  pub halves : length h' ≡ length h
  pub faces : length a' ≡ length a
  pub pending : length r' ≡ length r

pub same_refl : {o h a r : List ℕ} → SameLengths o h a r o h a r
same_refl = record { outs = refl; halves = refl; faces = refl; pending = refl }

pub same-trans : {o h a r o' h' a' r' o'' h'' a'' r'' : List ℕ} → SameLengths o h a r o' h' a' r'
    → SameLengths o' h' a' r' o'' h'' a'' r'' → SameLengths o h a r o'' h'' a'' r''
same-trans x y = record { outs = y.outs ∙ x.outs; halves = y.halves ∙ x.halves; faces = y.faces ∙ x.faces; pending = y.pending ∙ x.pending }

-- ---- rows that are sized for the vertices have room for every mesh of them
pub sized-room : {n : ℕ} {C : Counts} {p : ℕ → Point} {L : Links} {h a row : List ℕ} (o o' h' a' : List ℕ)
    → n ≤ length o → MeshRoom n h a row → C.vertices ≡ n → Good C L p
    → length o' ≡ length o → length h' ≡ length h → length a' ≡ length a → Room C o' h' a'
sized-room o o' h' a' k s v G x y z =
    let e = halves-fit G.wf (le_refl _) in let f = faces-fit G.wf (le_refl _) in
    record { outs = omega arith; halves = omega arith; faces = omega arith; small = omega arith }

-- corners closed one after another leave what a function needs
module _ {q : List ℤ} {o h a row : List ℕ} where
  pub kept : (m : Extended) → Good m.counts m.links (position_of q)
      → FlipsWithin m.counts m.links (position_of q) m.flips → m.faces ≤ m.counts.faces
      → m.counts.vertices ≤ length o → 2 * m.counts.vertices ≤ length q → MeshRoom m.counts.vertices h a row
      → {o' h' a' row' : List ℕ} {g : Extension} → Closings (position_of q) m (extended_of o' h' a' g)
      → SameLengths o h a row o' h' a' row' → Ready q o' h' a' row' g
  unfolding extended_of
  kept m G B f u v s {o'} {h'} {a'} c l =
      let n = closings-count c in
      let G' = closings-good G c in
      record {
        rows = record {
          room = sized-room o o' h' a' u s n.vertices G' l.outs l.halves l.faces;
          positions = (let k = n.vertices in omega arith);
          good = G';
        };
        sized = rw n.vertices (record { halves = omega arith; faces = omega arith; pending = omega arith; small = s.small });
        flips = closings-bound G c B;
        faces = (let k = n.faces in let i = n.more in omega arith);
      }

  pub ready-again : {g : Extension} {m : Extended} → Ready q o h a row g → Closings (position_of q) (extended_of o h a g) m
      → {o' h' a' row' : List ℕ} {g' : Extension} → extended_of o' h' a' g' ≡ m → SameLengths o h a row o' h' a' row' → Ready q o' h' a' row' g'
  unfolding extended_of
  ready-again {g} R c {o'} {h'} {a'} {row'} {g'} e l =
      kept (extended_of o h a g) R.rows.good R.flips R.faces R.rows.room.outs R.rows.positions R.sized
      (subst⁻¹ (Closings (position_of q) (extended_of o h a g)) e c) l

-- ---- a test that one of two things holds, as a loop that may be refused a flip ends
pub either_first : (a b : Bool) → a ≡ true → true ≡ (a || b)
either_first a b e = rw e refl

pub either_second : (a b : Bool) → a ≡ false → b ≡ (a || b)
either_second a b e = rw e refl
