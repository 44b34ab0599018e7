-- What the new vertex and its first face need of the rows, and what they leave. Assumes nothing.
use mathlib.Core.List.{List}
use mathlib.Core.Path.{◌≡◌, refl, ◌∙◌}
use Prim.Native.Nat.{ℕ}
use native.Mathlib.Nat.{le_refl}
use native.Mathlib.Omega.{arith}
use lib.IntN.{ℤ}
use lib.ListN.{length}
use Rattle.conflicts.proofs.FlipsWithinLaws.{within_none}
use Rattle.corner.specs.Corner.{Extended}
use Rattle.corner.specs.CornerRows.{extended_of}
use Rattle.corner.specs.RowsLaws.{sized-room}
use Rattle.dcel.specs.Rows.{links_of, position_of}
use Rattle.dcel.specs.MeshHeld.{Room}
use Rattle.dcel_operations.specs.Face.{NewReady, NewFace}
use Rattle.dcel_operations.specs.Ready.{new-face-ready}
use Rattle.legalize.specs.declared.Legalized.{Legalized}
use Rattle.legalize.specs.Legalize.{legalize_edge}
use Rattle.legalize.specs.LegalizeRows.{LegalizeReady, Leaves}
use Rattle.mesh.specs.declared.Counts.{Counts}
use Rattle.mesh.specs.Mesh.{In}
use Rattle.mesh.specs.Operations.{with_vertex}
use Rattle.mesh.proofs.CountsLaws.{faces-fit}
use Rattle.apply.specs.Apply.{first_face}
use Rattle.apply.specs.ApplyRows.{FirstReady}

module _ {C : Counts} {q : List ℤ} {o h a row : List ℕ} {e : ℕ} (R : FirstReady C q o h a row e) where
  room : Room (with_vertex C) o h a
  room = sized-room o o h a R.outs R.sized refl R.good refl refl refl

  pub new-ready : NewReady o h a C e
  new-ready =
      let k = room in
      new-face-ready (record { room = record { outs = omega arith; halves = omega arith; faces = omega arith; small = omega arith }; rules = R.rules }) room R.edge

  module _ {o' h' a' : List ℕ} {r : Counts} (N : NewFace o h a o' h' a' C e r) where
    pub legalize-first : length o' ≡ length o → length h' ≡ length h → length a' ≡ length a → LegalizeReady r q o' h' a' row 0 × In r e
    legalize-first x y w = rw N.result (
      record {
        rows = record { room = sized-room o o' h' a' R.outs R.sized refl R.good x y w; positions = R.positions; good = rw N.links R.good };
        few = (let f = faces-fit R.good.wf (le_refl _) in let s = R.sized.small in omega arith);
        bound = within_none;
        room = R.sized.pending;
      },
      (let l = R.edge in omega arith),
    )

    pub first-row : (k : ℕ) (o'' h'' a'' : List ℕ) (done : Legalized) → Leaves o'' h'' a'' done (legalize_edge k r (position_of q) (links_of o' h' a') 0 e)
        → extended_of o'' h'' a'' (record { counts = r; faces = 1; flips = done.flips; full = done.full }) ≡ first_face k (position_of q) C (links_of o h a) e
    unfolding extended_of first_face
    first-row k o'' h'' a'' done v =
        let s = legalize_edge k r (position_of q) (links_of o' h' a') 0 e in
        let leaves : ◌≡◌ {A = Extended} (record { counts = r; links = links_of o'' h'' a''; faces = 1; flips = done.flips; full = done.full })
        (record { counts = r; links = s.links; faces = 1; flips = s.flips; full = s.full }) = rw (v.links, v.flips, v.full) refl in
        leaves ∙ rw (N.result, N.links) refl
