-- An insertion that is refused no flip leaves a mesh to walk on one. So one test before the first skipped point is
-- enough, and each may be searched for from any half-edge in use. Assumes nothing.
use Rattle.std.specs.Prelude.{Bool, ◌≡◌, T}
use Rattle.std.proofs.Math.Bool.{true, false, cond}
use Rattle.std.proofs.Math.Path.{refl}
use Rattle.std.proofs.Common.{sym, subst, arith}
use Prim.Native.Nat.{ℕ, zero, suc, ◌<◌, ◌≤◌}
use Rattle.corner.specs.Corner.{Extended}
use Rattle.insertion.specs.Operations.{insert_into_triangle, with_inner_vertex}
use Rattle.insertion.specs.Plane.{Between}
use Rattle.location.proofs.LocateLaws.{locate-good}
use Rattle.location.proofs.PlaceFacts.{Certified}
use Rattle.location.specs.declared.PositionInTriangulation.{PositionInTriangulation}
use Rattle.location.specs.declared.PositionInTriangulation.TheVariants.{OnVertex, OnFace, OnEdge, OutsideOfConvexHull}
use Rattle.location.specs.Scan.{locate_point}
use Rattle.math.specs.declared.Point.{Point}
use Rattle.math.specs.Determinant.{InRange}
use Rattle.mesh.specs.declared.Counts.{Counts}
use Rattle.mesh.specs.Mesh.{Links}
use Rattle.mesh.specs.Good.{Good}
use Rattle.nearby.specs.Test.{is_walkable}
use Rattle.nearby.proofs.TestLaws.{tested-walkable}
use Rattle.nearby.proofs.KeptLaws.{flips-walkable, insert-into-triangle-walkable, on-edge-walkable}
use Rattle.skipped.specs.Fill.{Filling, insert_on, filled_by, passed_by, fill_point, fill_after}
use Rattle.skipped.proofs.FillLawsFacts.{fill-good}
use Rattle.skipped.specs.Insert.{unflipped, insert_into_face, is_new, places_at, mesh_at, insert_point}
use Rattle.skipped.proofs.InsertLawsFacts.{face-inserted, edge-between, edge-inserted, edge-legalized}
use Rattle.skipped.specs.LegalizeVertex.{Legalized}
use Rattle.skipped.proofs.LegalizeVertexLaws.{legalize-vertex}
use Rattle.sums.specs.Half.{rev}
use Rattle.sums.specs.Put.{put}
use Rattle.sums.proofs.PutLaws.{put_same, put_other}
use Rattle.walkable.specs.Walkable.{Walkable}
use Rattle.skipped_nearby.proofs.OutsideLaws.{outside-walkable}

-- ---- flips after an operation
legalized-walkable : {p : ℕ → Point} {m r : Extended} → Good m.counts m.links p → Legalized p m r → Walkable m.counts m.links p
    → Walkable r.counts r.links p
legalized-walkable {p} {m} {r} G A K = subst (λ (D : Counts). Walkable D r.links p) (sym A.counts) (flips-walkable G A.run K)

-- ---- one point
module _ (room : ℕ) {C : Counts} {L : Links} {p : ℕ → Point} (G : Good C L p) (v : Point) (range : InRange v) (K : Walkable C L p) where
  abbrev p' : ℕ → Point
  p' = put p C.vertices v

  old : (u : ℕ) → u < C.vertices → p' u ≡ p u
  old u l = put_other p C.vertices v u (λ z. omega arith)

  -- wherever it goes in
  pub insert-walkable-at : (x : PositionInTriangulation) → Certified C L p v x → (mesh_at room C L p v x).full ≡ false
      → Walkable (mesh_at room C L p v x).counts (mesh_at room C L p v x).links (places_at C p v x)
  unfolding places_at mesh_at is_new insert_into_face
  insert-walkable-at (OnVertex w) I q = K
  insert-walkable-at (OnFace f) I q =
      let M = face-inserted room G v range I in
      legalized-walkable M.good (legalize-vertex room p' (unflipped (with_inner_vertex C) (insert_into_triangle L C f) 2) M.good (omega arith))
      (insert-into-triangle-walkable G old K I.inner I.below)
  insert-walkable-at (OnEdge e) I q =
      legalized-walkable (edge-inserted room G v range I).good (edge-legalized room G v range I)
      (on-edge-walkable G old K I.used I.inner
      (subst (λ (z : Point). Between (p (L.origin e)) (p (L.origin (rev e))) z) (sym (put_same p C.vertices v)) (edge-between room G v range I)))
  insert-walkable-at (OutsideOfConvexHull e) I q = outside-walkable room G I.used I.outer I.left old (put_same p C.vertices v) range K q

  -- A MESH TO WALK ON STAYS ONE
  pub insert-walkable : let t = insert_point room C L p v in t.mesh.full ≡ false
      → Walkable t.mesh.counts t.mesh.links t.positions
  unfolding insert_point
  insert-walkable = insert-walkable-at (locate_point C L p v) (locate-good G v)

-- ---- the list
module _ (room : ℕ) {C : Counts} {L : Links} {p : ℕ → Point} (G : Good C L p) (skipped : ℕ → Bool) (point : ℕ → Point)
    {N : ℕ} (range : (i : ℕ) → i < N → InRange (point i)) where
  abbrev at : ℕ → Filling
  at n = fill_after room C L p skipped point n

  abbrev Kept : Filling → Type 0
  Kept s = Walkable s.counts s.links s.positions

  on : (n : ℕ) → n < N → ((at n).full ≡ false → Kept (at n)) → (at (suc n)).full ≡ false → Kept (at (suc n))
  unfolding fill_after fill_point
  on n l K = go (at n).full refl (skipped n)
    where
      go : (f : Bool) → (at n).full ≡ f → (b : Bool)
          → let s = cond f (at n) (cond b (filled_by (at n) (insert_on room (at n) (point n))) (passed_by (at n))) in s.full ≡ false → Kept s
      go true q b z = K z
      go false q true z = insert-walkable room (fill-good room G skipped point range n (omega arith)) (point n) (range n l) (K q) z
      go false q false z = K q

  pub fill-walkable : Walkable C L p → (n : ℕ) → n ≤ N → (at n).full ≡ false → Kept (at n)
  unfolding fill_after
  fill-walkable K zero l q = K
  fill-walkable K (suc n) l q = on n l (fill-walkable K n (omega arith)) q

  -- the test before the first point is enough
  pub known-walkable : (n : ℕ) → n ≤ N → (at n).full ≡ false → T (is_walkable C L p) → Kept (at n)
  known-walkable n l q t = fill-walkable (tested-walkable G.wf p t) n l q
