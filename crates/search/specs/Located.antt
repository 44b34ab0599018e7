-- The scan and the whole of point location, from what their parts answer. Assumes nothing.
use Rattle.std.specs.Prelude.{List, Option, Some, None, ◌≡◌, ℤ, length}
use Rattle.std.proofs.Math.Path.{sym, ap}
use Rattle.std.proofs.Common.{◌∙◌, subst, arith, lt-ltb, le-ltb}
use Prim.Native.Nat.{ℕ, suc, ◌-◌, ◌<◌, ◌^◌}
use Rattle.std.proofs.Math.Numerals.{add-one}
use Rattle.dcel.specs.Rows.{row_of, links_of, position_of}
use Rattle.dcel.specs.MeshHeld.{there_out, out-in}
use Rattle.location.specs.declared.PositionInTriangulation.{PositionInTriangulation}
use Rattle.location.specs.declared.PositionInTriangulation.TheVariants.{OutsideOfConvexHull}
use Rattle.location.proofs.NearestLaws.{locate-search}
use Rattle.location.specs.declared.SearchState.{SearchState}
use Rattle.location.specs.declared.SearchState.TheVariants.{Found, Onward}
use Rattle.location.specs.Scan.{place_at_of, first_holding, first_left, scan, answer, locate_point}
use Rattle.location.specs.Search.{nearest, search_from}
use Rattle.location.proofs.SearchLaws.{nearest-used}
use Rattle.math.specs.declared.Point.{Point}
use Rattle.mesh.specs.declared.Counts.{Counts}
use Rattle.mesh.specs.Area.{hull_edge}
use Rattle.search.specs.SearchRows.{SearchReady, NearReady, TurnReady, TriangleReady, ScanReady, HoldingIs, LeftReady, ready_held}
use Rattle.search.specs.Scanning.{face-there, face-ready}

-- ---- the scan
module _ {C : Counts} {q : List ℤ} {h a : List ℕ} {point : Point} (R : ScanReady C q h a point) {r : Option ℕ}
    (x : (o : List ℕ) → HoldingIs C (links_of o h a) (position_of q) point r) where
  module _ {f : ℕ} (i : r ≡ Some f) where
    holding : (o : List ℕ) → HoldingIs C (links_of o h a) (position_of q) point (Some f)
    holding o = subst (HoldingIs C (links_of o h a) (position_of q) point) i (x o)

    pub holding-there : f < length a
    holding-there = face-there R (holding R.outs).1

    module _ {e : ℕ} (y : e ≡ row_of a f) where
      pub holding-ready : TriangleReady q h point e
      holding-ready = face-ready R (holding R.outs).1 (let z = (holding R.outs).0 in omega arith) y

      pub scan-inner : {r : PositionInTriangulation} → ((o s : List ℕ) → r ≡ place_at_of (links_of o h s) (position_of q) point e) → (o : List ℕ)
          → r ≡ scan C (links_of o h a) (position_of q) point
      unfolding scan links_of
      scan-inner z o =
          let k = (holding o).0 in
          let l = (holding o).1 in
          let n : f ≡ suc (first_holding C (links_of o h a) (position_of q) point) = k ∙ add-one _ in
          z o a ∙ rw (lt-ltb (first_holding C (links_of o h a) (position_of q) point) (C.faces - 1) (omega arith))
          (ap (place_at_of (links_of o h a) (position_of q) point) (y ∙ ap (row_of a) n))

  module _ (i : r ≡ None) where
    holding_none : (o : List ℕ) → HoldingIs C (links_of o h a) (position_of q) point None
    holding_none o = subst (HoldingIs C (links_of o h a) (position_of q) point) i (x o)

    pub left-ready : LeftReady C q h a point
    left-ready = record { scan = R; none = λ m. let z = holding_none R.outs in omega arith }

    pub scan-outer : {e : ℕ} → ((o : List ℕ) → e ≡ hull_edge (links_of o h a) (first_left C (links_of o h a) (position_of q) point)) → (o : List ℕ)
        → OutsideOfConvexHull e ≡ scan C (links_of o h a) (position_of q) point
    unfolding scan
    scan-outer y o =
        let k = holding_none o in
        rw (le-ltb (first_holding C (links_of o h a) (position_of q) point) (C.faces - 1) (omega arith)) (ap OutsideOfConvexHull (y o))

-- ---- point location
module _ {C : Counts} {q : List ℤ} {o h a : List ℕ} {point : Point} (R : SearchReady C q o h a point) where
  pub near-ready : NearReady C q o h point
  near-ready = record { faces = a; ready = R }

  pub scan-ready : ScanReady C q h a point
  scan-ready = record { outs = o; ready = R }

  module _ {v : ℕ} (x : (s : List ℕ) → v ≡ nearest C (links_of o h s) (position_of q) point) where
    used : v < C.vertices
    used = rw (x a) (nearest-used R.rows.good.wf (position_of q) point)

    pub nearest-there : v < length o
    nearest-there = there_out (ready_held R) used

    module _ {e : ℕ} (y : e ≡ row_of o v) where
      pub from-ready : TurnReady q h point e × (C.edges < 2 ^ 31)
      from-ready = (rw y (record { counts = C; outs = o; faces = a; ready = R; used = out-in (ready_held R) used }), R.rows.room.small)

      module _ {s : SearchState} (t : (i j : List ℕ) → s ≡ search_from C (links_of i h j) (position_of q) point e) where
        located : locate_point C (links_of o h a) (position_of q) point ≡ answer (scan C (links_of o h a) (position_of q) point) s
        unfolding links_of
        located =
            locate-search R.rows.good.wf (position_of q) point
            ∙ ap (answer (scan C (links_of o h a) (position_of q) point)) (sym (t o a ∙ ap (search_from C (links_of o h a) (position_of q) point) (y ∙ ap (row_of o) (x a))))

        pub located-found : {p : PositionInTriangulation} → s ≡ Found p → p ≡ locate_point C (links_of o h a) (position_of q) point
        unfolding answer
        located-found i = sym (located ∙ ap (answer (scan C (links_of o h a) (position_of q) point)) i)

        pub located-scanned : {d : ℕ} → s ≡ Onward d → {p : PositionInTriangulation}
            → ((i : List ℕ) → p ≡ scan C (links_of i h a) (position_of q) point) → p ≡ locate_point C (links_of o h a) (position_of q) point
        unfolding answer
        located-scanned i z = z o ∙ sym (located ∙ ap (answer (scan C (links_of o h a) (position_of q) point)) i)
