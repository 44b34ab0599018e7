-- Laws of specs/InsertLaws.antt.
use Rattle.std.specs.Prelude.{Bool, true, false, cond, ◌≡◌, ℕ, ◌+◌, ◌-◌, ◌<◌, ◌≤◌, eqb}
use Rattle.std.proofs.Math.Path.{refl, ap}
use Rattle.std.proofs.Common.{sym, ◌∙◌, subst, arith}
use Rattle.corner.specs.Corner.{Extended}
use Rattle.corner.specs.CornerLaws.{closings-count, closings-bound}
use Rattle.corner.specs.Untouched.{Untouched, untouched-none, untouched-flips, untouched-join, new-face-untouched, closings-untouched}
use Rattle.insertion_laws.specs.OnEdge.{Inserted, inserted-into-triangle, inserted-on-edge}
use Rattle.insertion.specs.Operations.{insert_into_triangle, insert_on_edge, with_inner_vertex, with_edge_vertex}
use Rattle.insertion.specs.Plane.{Inside, Between}
use Rattle.location.proofs.LocateLaws.{locate-good}
use Rattle.location.specs.declared.PositionInTriangulation.{PositionInTriangulation}
use Rattle.location.specs.declared.PositionInTriangulation.TheVariants.{OnVertex, OnFace, OnEdge, OutsideOfConvexHull}
use Rattle.location.specs.Place.{InFace, InEdge, Beyond}
use Rattle.location.proofs.PlaceFacts.{Certified}
use Rattle.location.proofs.PlaceLaws.{in-face-at, in-edge-at}
use Rattle.location.specs.Scan.{locate_point}
use Rattle.math.specs.declared.Point.{Point}
use Rattle.math.specs.Determinant.{InRange}
use Rattle.mesh.specs.declared.Counts.{Counts}
use Rattle.mesh.specs.Mesh.{Links, to}
use Rattle.mesh.specs.Operations.{with_vertex, create_new_face_adjacent_to_edge}
use Rattle.mesh.specs.Area.{area_total, boundary_area}
use Rattle.mesh.proofs.AreaLaws.{area-theorem}
use Rattle.mesh.specs.Good.{Good}
use Rattle.conflicts.specs.FlipsWithin.{FlipsWithin}
use Rattle.conflicts.proofs.FlipsWithinLaws.{within_none}
use Rattle.mesh.specs.Triangle.{triangle}
use Rattle.sums.specs.Bit.{bit}
use Rattle.sums.specs.Half.{rev}
use Rattle.sums.specs.Put.{put}
use Rattle.sums.proofs.PutLaws.{put_same, put_other}
use Rattle.skipped.specs.Insert.{unflipped, insert_into_face, insert_in_edge, insert_outside, position_vertex, is_new, places_at, mesh_at, Inserting, insert_at, insert_point}
use Rattle.skipped.proofs.InsertUntouched.{insert-into-triangle-untouched, on-edge-untouched}
use Rattle.skipped.specs.LegalizeVertex.{Legalized}
use Rattle.skipped.proofs.LegalizeVertexLaws.{legalize-vertex, legalized-good, legalized-area, legalized-bound, legalized-untouched}
use Rattle.skipped.proofs.OutsideLaws.{new-good, first-legalized, first_good, outside-covers, outside-good}
use Rattle.skipped.specs.InsertLaws.{grown_by, MeshIn, PointIn}

counts-are : {K : Counts} {a b d : ℕ} → K.vertices ≡ a → K.edges ≡ b → K.faces ≡ d → K ≡ record { vertices = a; edges = b; faces = d }
counts-are x y z = rw (← x, ← y, ← z) refl

-- by an operation that adds a vertex and so many faces, and the flips after it
by-flips : {C K : Counts} {L N : Links} {p : ℕ → Point} {n : ℕ} → Good K N p → K ≡ grown_by C 1 n → Untouched K L N → {m : Extended}
    → Legalized p (unflipped K N n) m → MeshIn C L p 1 m
by-flips {C} {L = L} {N = N} G k U A = record {
  good = legalized-good G A;
  counts = A.counts ∙ k ∙ ap (grown_by C 1) (sym A.faces);
  bound = legalized-bound G A within_none;
  untouched = untouched-flips (subst (λ (D : Counts). Untouched D L N) (sym A.counts) U) (legalized-untouched G A);
}

-- ---- the counts after `insert_on_edge`
pub edge-counts : (L : Links) (C : Counts) (e : ℕ) → with_edge_vertex L C e ≡ grown_by C 1 ((with_edge_vertex L C e).faces - C.faces)
unfolding with_edge_vertex
edge-counts L C e = go (eqb (L.face e) 0) (eqb (L.face (rev e)) 0)
  where
    go : (a b : Bool)
        → let K = cond a (with_vertex C) (cond b (with_vertex C) (with_inner_vertex C)) in K ≡ grown_by C 1 (K.faces - C.faces)
    go true b = counts-are refl (omega arith) (omega arith)
    go false true = counts-are refl (omega arith) (omega arith)
    go false false = counts-are refl (omega arith) (omega arith)

-- ---- certificates by the corners
inside_of : {a b b' c c' v v' : Point} → b ≡ b' → c ≡ c' → v' ≡ v → Inside a b c v → Inside a b' c' v'
inside_of q s h I = rw (← q, ← s, h) I

-- ---- one point v
module _ (room : ℕ) {C : Counts} {L : Links} {p : ℕ → Point} (G : Good C L p) (v : Point) (range : InRange v) where
  abbrev p' : ℕ → Point
  p' = put p C.vertices v

  old : (u : ℕ) → u < C.vertices → p' u ≡ p u
  old u l = put_other p C.vertices v u (λ z. omega arith)

  here : p' C.vertices ≡ v
  here = put_same p C.vertices v

  new-range : InRange (p' C.vertices)
  new-range = rw here range

  -- ---- fate 6
  module _ {f : ℕ} (I : InFace C L p v f) where
    pub face-inserted : Inserted C (with_inner_vertex C) L (insert_into_triangle L C f) p p'
    face-inserted =
        let W = G.wf in
        let a = W.ranges.adjacent< I.below in
        let s = W.faces.stored I.below in
        let T = triangle W a (rw s I.inner) in
        inserted-into-triangle G old new-range I.inner I.below
        (inside_of (ap p T.to-a) (ap (λ (x : ℕ). p (L.origin x)) (sym T.next-b)) here (in-face-at W p v I a s))

    pub face-mesh : MeshIn C L p' 1 (insert_into_face room p' C L f)
    unfolding insert_into_face
    face-mesh = by-flips face-inserted.good (counts-are refl (omega arith) refl) (insert-into-triangle-untouched G.wf I.inner I.below) (legalize-vertex room p' _ face-inserted.good (omega arith))

    pub face-area : area_total (insert_into_face room p' C L f).counts (insert_into_face room p' C L f).links p' ≡ area_total C L p
    unfolding insert_into_face
    face-area =
        legalized-area face-inserted.good (legalize-vertex room p' (unflipped (with_inner_vertex C) (insert_into_triangle L C f) 2) face-inserted.good (omega arith))
        ∙ face-inserted.area

  -- ---- fate 7
  module _ {e : ℕ} (I : InEdge C L p v e) where
    abbrev K : Counts
    K = with_edge_vertex L C e

    abbrev m₀ : Extended
    m₀ = unflipped K (insert_on_edge L C e) (K.faces - C.faces)

    -- the point is strictly between the edge's ends
    pub edge-between : Between (p (L.origin e)) (p (to L e)) v
    edge-between = in-edge-at G.wf p v G.turning I

    pub edge-inserted : Inserted C K L (insert_on_edge L C e) p p'
    edge-inserted = inserted-on-edge G old new-range I.used (rw here edge-between)

    pub edge-legalized : Legalized p' m₀ (insert_in_edge room p' C L e)
    unfolding insert_in_edge
    edge-legalized = legalize-vertex room p' m₀ edge-inserted.good (let k = ap (λ (D : Counts). D.vertices) (edge-counts L C e) in omega arith)

    pub edge-mesh : MeshIn C L p' 1 (insert_in_edge room p' C L e)
    edge-mesh = by-flips edge-inserted.good (edge-counts L C e) (on-edge-untouched G I.used) edge-legalized

    pub edge-area : area_total (insert_in_edge room p' C L e).counts (insert_in_edge room p' C L e).links p' ≡ area_total C L p
    edge-area = legalized-area edge-inserted.good edge-legalized ∙ edge-inserted.area

  -- ---- fate 8
  module _ {e : ℕ} (I : Beyond C L p v e) where
    pub outside-mesh : MeshIn C L p' 1 (insert_outside room p' C L v e)
    outside-mesh =
        let N = new-good room G I.used I.outer I.left old here range in
        let A = first-legalized room G I.used I.outer I.left old here range in
        let X = outside-covers room G I.used I.outer I.left old here range in
        let c = closings-count X in
        let a = A.counts in let f = A.faces in
        let av = ap (λ (D : Counts). D.vertices) a in
        let ae = ap (λ (D : Counts). D.edges) a in
        let af = ap (λ (D : Counts). D.faces) a in
        record {
          good = outside-good room G I.used I.outer I.left old here range;
          counts = counts-are (let x = c.vertices in omega arith) (let x = c.edges in omega arith) (let x = c.faces in omega arith);
          bound = closings-bound (first_good room G I.used I.outer I.left old here range) X (legalized-bound N A within_none);
          untouched =
              untouched-join (record { vertices = (let x = c.vertices in omega arith); edges = (let x = c.edges in let y = c.more in omega arith); faces = (let x = c.faces in let y = c.more in omega arith) })
              (untouched-flips (subst (λ (D : Counts). Untouched D L (create_new_face_adjacent_to_edge L C e)) (sym a) (new-face-untouched G.wf.ranges I.used)) (legalized-untouched N A))
              (closings-untouched (first_good room G I.used I.outer I.left old here range) X);
        }

module _ (room : ℕ) {C : Counts} {L : Links} {p : ℕ → Point} (G : Good C L p) (v : Point) (range : InRange v) where
  -- a new vertex
  fresh : (x : PositionInTriangulation) {m : Extended} → position_vertex C x ≡ C.vertices → bit (is_new x) ≡ 1
      → MeshIn C L (put p C.vertices v) 1 m
      → PointIn C L p v (record { place = x; positions = put p C.vertices v; mesh = m })
  fresh x a b M = record {
    good = M.good;
    kept = old room G v range;
    past = λ u l. put_other p C.vertices v u (λ z. let k = ap (λ (D : Counts). D.vertices) M.counts in omega arith);
    used = let k = ap (λ (D : Counts). D.vertices) M.counts in omega arith;
    here = rw a (here room G v range);
    counts = rw b M.counts;
    bound = M.bound;
    untouched = M.untouched;
    area = area-theorem M.good.wf (put p C.vertices v);
  }

  pub insert-certified : (x : PositionInTriangulation) → Certified C L p v x → PointIn C L p v (insert_at room C L p v x)
  unfolding places_at mesh_at is_new position_vertex
  insert-certified (OnFace f) I = fresh (OnFace f) refl refl (face-mesh room G v range I)
  insert-certified (OnEdge e) I = fresh (OnEdge e) refl refl (edge-mesh room G v range I)
  insert-certified (OutsideOfConvexHull e) I = fresh (OutsideOfConvexHull e) refl refl (outside-mesh room G v range I)
  insert-certified (OnVertex w) I = record {
    good = G;
    kept = λ u l. refl;
    past = λ u l. refl;
    used = I.used;
    here = I.here;
    counts = counts-are (omega arith) (omega arith) (omega arith);
    bound = within_none;
    untouched = untouched-none;
    area = area-theorem G.wf p;
  }

  -- THE LAW OF ONE POINT
  pub insert-point : PointIn C L p v (insert_point room C L p v)
  unfolding insert_point
  insert-point = insert-certified (locate_point C L p v) (locate-good G v)
