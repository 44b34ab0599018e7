-- What the face over an edge needs of the rows, and what it leaves. Over plain rows, so that the needs of the code are
-- single applications. Assumes nothing.
use mathlib.Core.List.{List}
use mathlib.Core.Path.{◌≡◌, refl, ◌∙◌, ap}
use Prim.Native.Nat.{ℕ, suc, ◌+◌, ◌^◌, ◌<◌}
use native.Mathlib.Numerals.{add-one}
use native.Mathlib.Nat.{le_refl}
use native.Mathlib.Omega.{arith}
use lib.IntN.{ℤ}
use lib.ListN.{length}
use Rattle.circle_test.specs.GoodRows.{held}
use Rattle.corner.specs.declared.Extension.{Extension}
use Rattle.corner.specs.Corner.{Extended}
use Rattle.corner.specs.CornerLaws.{face-bound}
use Rattle.corner.specs.CornerRows.{extended_of}
use Rattle.corner.specs.RowsLaws.{sized-room}
use Rattle.dcel.specs.Rows.{links_of, position_of}
use Rattle.dcel_operations.specs.declared.NewEdge.{NewEdge}
use Rattle.dcel_operations.specs.Face.{SingleReady, SingleFace}
use Rattle.dcel_operations.specs.Ready.{single-face-ready}
use Rattle.legalize.specs.declared.Legalized.{Legalized}
use Rattle.legalize.specs.Legalize.{legalize_edge}
use Rattle.legalize.specs.LegalizeRows.{LegalizeReady, Leaves}
use Rattle.mesh.specs.Mesh.{Links, In}
use Rattle.mesh.specs.Operations.{create_single_face_between_edge_and_next, with_face}
use Rattle.mesh.proofs.CountsLaws.{faces-fit}
use Rattle.mesh.specs.Good.{Good}
use Rattle.mesh.proofs.GoodLaws.{single-face-good}
use Rattle.skipped.specs.Insert.{legalize_one, cover_edge}
use Rattle.insert_outside.specs.OutsideRows.{CoverReady}

module _ {q : List ℤ} {o h a row : List ℕ} {g : Extension} {e d : ℕ} (R : CoverReady q o h a row g e d) where
  abbrev L : Links
  L = links_of o h a

  G : Good g.counts L (position_of q)
  G = R.ready.rows.good

  new-good : Good (with_face g.counts) (create_single_face_between_edge_and_next L g.counts e) (position_of q)
  new-good = single-face-good G R.edge R.outer R.left

  pub single-ready : SingleReady h a g.counts e
  single-ready = single-face-ready (held R.ready.rows)
      (sized-room o o h a R.ready.rows.room.outs R.ready.sized refl new-good refl refl refl) R.edge

  pub faces-fit-32 : g.faces + 1 < 2 ^ 32
  faces-fit-32 = let f = faces-fit G.wf (le_refl _) in let s = R.ready.sized.small in let k = R.ready.faces in omega arith

  module _ {h' a' : List ℕ} {r : NewEdge} (S : SingleFace h a h' a' g.counts e r) where
    counts-are : r.counts ≡ with_face g.counts
    counts-are = ap (λ (r : NewEdge). r.counts) S.result

    pub legalize-ready : length h' ≡ length h → length a' ≡ length a
        → LegalizeReady r.counts q o h' a' row g.flips × In r.counts d
    legalize-ready u v = rw counts-are (
      record {
        rows = record {
          room = sized-room o o h' a' R.ready.rows.room.outs R.ready.sized refl new-good refl u v;
          positions = R.ready.rows.positions;
          good = rw (S.links o) new-good;
        };
        bound = rw (S.links o) (face-bound G R.edge R.outer R.left R.ready.flips);
        few = (let f = faces-fit new-good.wf (le_refl _) in let s = R.ready.sized.small in omega arith);
        room = R.ready.sized.pending;
      },
      (let i = R.used in omega arith),
    )

    pub covered-row : (n : ℕ) (o'' h'' a'' : List ℕ) (done : Legalized)
        → Leaves o'' h'' a'' done (legalize_edge n r.counts (position_of q) (links_of o h' a') g.flips d)
        → extended_of o'' h'' a'' (record { counts = r.counts; faces = g.faces + 1; flips = done.flips; full = done.full })
        ≡ cover_edge n (position_of q) (extended_of o h a g) e d
    unfolding extended_of cover_edge legalize_one
    covered-row n o'' h'' a'' done v =
        let s = legalize_edge n r.counts (position_of q) (links_of o h' a') g.flips d in
        let leaves : ◌≡◌ {A = Extended}
        (record { counts = r.counts; links = links_of o'' h'' a''; faces = g.faces + 1; flips = done.flips; full = done.full })
        (record { counts = r.counts; links = s.links; faces = suc g.faces; flips = s.flips; full = s.full }) =
        rw (v.links, v.flips, v.full, add-one) refl in
        leaves ∙ rw (counts-are, S.links o) refl
