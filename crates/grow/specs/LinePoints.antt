-- A point where the vertices are on one line: its place, what the operation there asks, and what is left. Assumes nothing.
use Rattle.std.specs.Prelude.{List, ◌≡◌, ℕ, suc, ◌<◌, ℤ, length}
use Rattle.std.proofs.Common.{⊎_elim, sym, ◌∙◌, subst, le_refl, arith}
use Rattle.std.proofs.Math.Path.{refl, ap}
use Rattle.corner.specs.declared.Extension.{Extension}
use Rattle.corner.specs.CornerRows.{extended_of}
use Rattle.dcel.specs.MeshHeld.{Room}
use Rattle.dcel.specs.Rows.{links_of, position_of}
use Rattle.line.specs.declared.PositionWhenAllVerticesOnLine.{PositionWhenAllVerticesOnLine}
use Rattle.line.specs.declared.PositionWhenAllVerticesOnLine.TheVariants.{OnEdge, OnVertex, NotOnLine, ExtendingLine}
use Rattle.line.specs.Grow.{insert_at_line_place, insert_when_all_vertices_on_line}
use Rattle.line.specs.Locate.{locate_when_all_vertices_on_line}
use Rattle.line.proofs.LocateFacts.{InEdge, LineCertified}
use Rattle.line.proofs.LocateLaws.{locate-certified}
use Rattle.line.specs.Operations.{with_line_vertex}
use Rattle.line_fan.specs.FanRows.{OffLineReady}
use Rattle.line_fan.specs.RowsLaws.{off-line-ready}
use Rattle.line_operations.specs.OnLine.{ExtendReady, LineExtended, SplitReady, LineSplit}
use Rattle.line_operations.specs.Ready.{extend-ready, split-ready}
use Rattle.line_search.specs.LineRows.{LineReady}
use Rattle.math.specs.declared.Point.{Point}
use Rattle.mesh.specs.declared.Counts.{Counts}
use Rattle.mesh.specs.Mesh.{Links}
use Rattle.skipped.specs.Insert.{insert_outside}
use Rattle.sums.proofs.HalfLaws.{rev-below}
use Rattle.sums.specs.Put.{put}
use Rattle.grow.specs.declared.Grown.{Grown}
use Rattle.grow.specs.GrowRows.{growing_of, grown_by, unflipped_by, OnLineReady, PlaceReady}

-- ---- the place
module _ {C : Counts} {q : List ℤ} {o h a : List ℕ} {v : Point} (R : OnLineReady C q o h a v) where
  pub line-ready : LineReady C q o h v
  line-ready =
      let n = R.line.chain.vertices in let k = R.room.outs in let s = R.room.sized in
      record { faces = a; line = R.line; positions = omega arith; outs = omega arith; halves = omega arith; range = R.range }

  line-room : Room (with_line_vertex C) o h a
  line-room =
      let n = R.line.chain.vertices in let f = R.line.chain.faces in let s = R.room.sized in
      record { outs = R.room.outs; halves = omega arith; faces = omega arith; small = omega arith }

  module _ {x : PositionWhenAllVerticesOnLine}
      (e : (a : List ℕ) → x ≡ locate_when_all_vertices_on_line C (links_of o h a) (position_of q) v) where
    pub place-ready : PlaceReady C q o h a v x
    place-ready = record {
      ready = R;
      certified = subst (LineCertified R.line v) (sym (e a)) (locate-certified R.line v R.range);
    }

    pub line-grown : (q' : List ℤ) (o' h' a' : List ℕ) (r : Grown)
        → ((room : ℕ) → growing_of q' o' h' a' r ≡ insert_at_line_place room C (links_of o h a) (position_of q) v x)
        → (room : ℕ) → growing_of q' o' h' a' r ≡ insert_when_all_vertices_on_line room C (links_of o h a) (position_of q) v
    unfolding insert_when_all_vertices_on_line
    line-grown q' o' h' a' r y room = y room ∙ ap (insert_at_line_place room C (links_of o h a) (position_of q) v) (e a)

-- ---- by the place: q' are the positions with the point's stored behind them
module _ {C : Counts} {q : List ℤ} {o h a : List ℕ} {v : Point} {x : PositionWhenAllVerticesOnLine}
    (R : PlaceReady C q o h a v x) where
  abbrev L : Links
  L = links_of o h a

  abbrev p : ℕ → Point
  p = position_of q

  certified-at : {y : PositionWhenAllVerticesOnLine} → x ≡ y → LineCertified R.ready.line v y
  certified-at z = subst (LineCertified R.ready.line v) z R.certified

  -- on a vertex: nothing changes
  pub vertex-grown : {w : ℕ} → x ≡ OnVertex w → {r : Grown} → r ≡ unflipped_by 9 w C
      → (room : ℕ) → growing_of q o h a r ≡ insert_at_line_place room C L p v x
  unfolding insert_at_line_place extended_of
  vertex-grown z e room = rw (z, e) refl

  -- on an edge
  module _ {e : ℕ} (z : x ≡ OnEdge e) where
    pub at_edge : SplitReady o h C e
    at_edge =
        let X = R.ready.line in
        let I : InEdge X v e = certified-at z in
        let l = I.below in
        let i = X.chain.used {i = suc I.place} (omega arith) (omega arith) in
        split-ready X (line-room R.ready) (rw I.edge (rev-below C.edges i))

    pub edge-grown : (q' : List ℤ) → position_of q' ≡ put p C.vertices v
        → {o' h' : List ℕ} {K : Counts} → LineSplit o h o' h' C e K → {r : Grown} → r ≡ unflipped_by 1 C.vertices K
        → (room : ℕ) → growing_of q' o' h' a r ≡ insert_at_line_place room C L p v x
    unfolding insert_at_line_place extended_of
    edge-grown q' s S y room = rw (z, y, s, S.links a, S.result) refl

  -- beyond the vertex at an end
  module _ {w : ℕ} (z : x ≡ ExtendingLine w) where
    end-used : w < C.vertices
    end-used =
        let K = R.ready.line.chain in
        ⊎_elim (λ i. rw i.0 (K.placed (omega arith))) (λ i. rw i.0 (K.placed (le_refl _))) (certified-at z).end

    pub at-end : ExtendReady o h C w
    at-end = extend-ready R.ready.line (line-room R.ready) end-used

    pub end-grown : (q' : List ℤ) → position_of q' ≡ put p C.vertices v
        → {o' h' : List ℕ} {K : Counts} → LineExtended o h o' h' C w K → {r : Grown} → r ≡ unflipped_by 1 C.vertices K
        → (room : ℕ) → growing_of q' o' h' a r ≡ insert_at_line_place room C L p v x
    unfolding insert_at_line_place extended_of
    end-grown q' s S y room = rw (z, y, s, S.links a, S.result) refl

  -- off the line
  module _ {e : ℕ} (z : x ≡ NotOnLine e) (q' : List ℤ) (s : position_of q' ≡ put p C.vertices v) where
    pub at_off : length q' ≡ length q → OffLineReady C q' o h a v e
    at_off n =
        let m = R.ready.room.sized in
        off-line-ready q R.ready.line R.ready.range (certified-at z) s R.ready.room.outs
        (record { positions = omega arith; halves = m.halves; faces = m.faces; small = m.small })

    pub off-grown : (o' h' a' : List ℕ) (g : Extension)
        → ((room : ℕ) → extended_of o' h' a' g ≡ insert_outside room (position_of q') C L v e)
        → {r : Grown} → r ≡ grown_by 1 C.vertices g → (room : ℕ) → growing_of q' o' h' a' r ≡ insert_at_line_place room C L p v x
    unfolding insert_at_line_place
    off-grown o' h' a' g y k room = rw (z, k, y room, s) refl
