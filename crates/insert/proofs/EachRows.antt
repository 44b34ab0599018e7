-- Rows in which half-edges are legalized, one after another: they hold a good mesh still, with room for what can be added,
-- so that the next can follow. Over plain rows, so that the needs of the code are single applications. Assumes nothing.
use mathlib.Core.Bool.{true, false}
use mathlib.Core.List.{List, [], ◌∷◌, ◌++◌}
use mathlib.Core.Path.{◌≡◌, sym, ◌∙◌, ap, ap₂, subst⁻¹}
use Prim.Native.Nat.{ℕ}
use native.Mathlib.Nat.{le_refl}
use native.Mathlib.Omega.{arith}
use lib.IntN.{ℤ}
use lib.ListN.{length}
use Rattle.corner.specs.declared.Extension.{Extension}
use Rattle.corner.specs.Corner.{Extended}
use Rattle.corner.specs.CornerRows.{extended_of, Ready}
use Rattle.corner.specs.RowsLaws.{SameLengths, sized-room}
use Rattle.dcel.specs.Rows.{links_of, position_of}
use Rattle.legalize.specs.declared.Legalized.{Legalized}
use Rattle.legalize.specs.Legalize.{legalize_edge}
use Rattle.legalize.specs.LegalizeRows.{LegalizeReady, Leaves}
use Rattle.mesh.specs.declared.Counts.{Counts}
use Rattle.mesh.specs.Mesh.{In}
use Rattle.mesh.proofs.CountsLaws.{faces-fit}
use Rattle.mesh.specs.Good.{Good}
use Rattle.skipped.specs.Insert.{legalize_one, legalize_each}
use Rattle.skipped.proofs.LegalizeVertexLaws as vertex
use Rattle.skipped.specs.LegalizeVertex as vertex_defs
use Rattle.sums.proofs.Cases.{All}
use Rattle.insert.specs.Each.{each-full, each-one, each_append}
use Rattle.insert.specs.InsertRows.{OneReady, TwoReady}

-- ---- one half-edge
module _ {q : List ℤ} {o h a row : List ℕ} {g : Extension} {e : ℕ} (R : OneReady q o h a row g e) where
  -- after a refused flip it is left alone
  pub one-full : g.full ≡ true → extended_of o h a g ≡ legalize_each (length row) (position_of q) (extended_of o h a g) (e ∷ [])
  unfolding extended_of
  one-full z = sym (each-full (length row) (position_of q) (extended_of o h a g) (e ∷ []) z)

  pub one-edge : LegalizeReady g.counts q o h a row g.flips × In g.counts e
  one-edge = (
    record {
      rows = R.ready.rows;
      few = (let f = faces-fit R.ready.rows.good.wf (le_refl _) in let s = R.ready.sized.small in omega arith);
      bound = R.ready.flips;
      room = R.ready.sized.pending;
    },
    R.edge,
  )

  pub one-row : g.full ≡ false → (n : ℕ) (o' h' a' : List ℕ) (done : Legalized)
      → Leaves o' h' a' done (legalize_edge n g.counts (position_of q) (links_of o h a) g.flips e)
      → extended_of o' h' a' (record { counts = g.counts; faces = g.faces; flips = done.flips; full = done.full })
      ≡ legalize_each n (position_of q) (extended_of o h a g) (e ∷ [])
  unfolding extended_of legalize_one
  one-row z n o' h' a' done v = rw (v.links, v.flips, v.full) (sym (each-one n (position_of q) (extended_of o h a g) e z))

-- ---- a list of them
module _ {q : List ℤ} {o h a row : List ℕ} {g : Extension} (R : Ready q o h a row g) (l : List ℕ) (A : All (In g.counts) l)
    {o' h' a' row' : List ℕ} (s : SameLengths o h a row o' h' a' row') (g' : Extension)
    (x : extended_of o' h' a' g' ≡ legalize_each (length row) (position_of q) (extended_of o h a g) l) where
  flipped : vertex_defs.Legalized (position_of q) (extended_of o h a g) (extended_of o' h' a' g')
  unfolding extended_of
  flipped =
      subst⁻¹ (vertex_defs.Legalized (position_of q) (extended_of o h a g)) x
      (vertex.legalize-each (length row) (position_of q) l (extended_of o h a g) R.rows.good A)

  pub each_counts : g'.counts ≡ g.counts
  unfolding extended_of
  each_counts = flipped.counts

  pub each-ready : Ready q o' h' a' row' g'
  unfolding extended_of
  each-ready =
      let G : Good g'.counts (links_of o' h' a') (position_of q) = vertex.legalized-good R.rows.good flipped in
      let v = ap (λ (K : Counts). K.vertices) each_counts in
      let f = ap (λ (K : Counts). K.faces) each_counts in
      let n = flipped.faces in
      let z = R.sized in
      record {
        rows = record {
          room = sized-room o o' h' a' R.rows.room.outs z v G s.outs s.halves s.faces;
          positions = (let k = R.rows.positions in omega arith);
          good = G;
        };
        sized = record { halves = omega arith; faces = omega arith; pending = omega arith; small = omega arith };
        flips = vertex.legalized-bound R.rows.good flipped R.flips;
        faces = let k = R.faces in omega arith;
      }

  -- and then another list
  pub each_more : (k : List ℕ) {m : Extended} → m ≡ legalize_each (length row') (position_of q) (extended_of o' h' a' g') k
      → m ≡ legalize_each (length row) (position_of q) (extended_of o h a g) (l ++ k)
  each_more k y =
      y ∙ ap₂ (λ (n : ℕ) (m : Extended). legalize_each n (position_of q) m k) s.pending x
      ∙ each_append (length row) (position_of q) l k (extended_of o h a g)

-- ---- two of them
module _ {q : List ℤ} {o h a row : List ℕ} {g : Extension} {first second : ℕ} (R : TwoReady q o h a row g first second)
    {o' h' a' row' : List ℕ} (s : SameLengths o h a row o' h' a' row') (g' : Extension)
    (x : extended_of o' h' a' g' ≡ legalize_each (length row) (position_of q) (extended_of o h a g) (first ∷ [])) where
  pub second-ready : OneReady q o' h' a' row' g' second
  second-ready = record {
    ready = each-ready R.ready (first ∷ []) (R.first-in, tt) s g' x;
    edge = subst⁻¹ (λ (C : Counts). In C second) (each_counts R.ready (first ∷ []) (R.first-in, tt) s g' x) R.second-in;
  }

  pub two-row : (o'' h'' a'' : List ℕ) (g'' : Extension)
      → extended_of o'' h'' a'' g'' ≡ legalize_each (length row') (position_of q) (extended_of o' h' a' g') (second ∷ [])
      → extended_of o'' h'' a'' g'' ≡ legalize_each (length row) (position_of q) (extended_of o h a g) (first ∷ second ∷ [])
  two-row o'' h'' a'' g'' y = each_more R.ready (first ∷ []) (R.first-in, tt) s g' x (second ∷ []) y
