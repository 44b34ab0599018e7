-- A point that goes in outside leaves a mesh to walk on one, where no flip is refused. Assumes nothing.
use Rattle.std.specs.Prelude.{false, ◌≢◌, ◌⊎◌, ◌≡◌, refl, ℕ, ◌+◌, ◌*◌, ◌<◌, ℤ, ◌<ℤ◌, ◌≤ℤ◌}
use Rattle.std.proofs.Common.{inl, inr, ◌∙◌, subst, arith}
use Rattle.std.proofs.Math.Path.{sym, ap, ap₂, subst₂}
use Rattle.std.proofs.Math.Decide.{ℕ_discrete}
use Rattle.std.proofs.Math.IntN.{pos}
use Rattle.std.specs.Int.Signed.{≤ℤ_refl, clash_ℤ}
use Rattle.algebra.proofs.Order.{lt-le}
use Rattle.ring.specs.declared.Side.TheVariants.{Left, Right}
use Rattle.apply.specs.Apply.{Walking, first_face, face_edge}
use Rattle.convexity.specs.Convexity.{NoLeftCorner}
use Rattle.math.specs.declared.Point.{Point}
use Rattle.math.specs.declared.Vector.{Vector}
use Rattle.math.specs.Determinant.{InRange, orient2d}
use Rattle.math.proofs.Plane.{orient2d-next}
use Rattle.math.specs.Vector.{difference, cross_of, dot_of}
use Rattle.mesh.specs.declared.Counts.{Counts}
use Rattle.mesh.specs.Mesh.{Links, In, to}
use Rattle.mesh.specs.Operations.{create_new_face_adjacent_to_edge, with_vertex}
use Rattle.mesh.specs.Area.{boundary_length}
use Rattle.mesh.specs.Good.{Good}
use Rattle.mesh.specs.NewFace.{NewFaceFrame}
use Rattle.mesh.proofs.NewFaceLaws.{new-face-frame}
use Rattle.mesh.specs.Triangle.{Outer, rev-in}
use Rattle.mesh.proofs.TriangleLaws.{outer, p-e, p-n, e-n}
use Rattle.mesh.specs.Wf.{Wf}
use Rattle.outline.specs.Outline.{direction}
use Rattle.outline.specs.HalfPlane.{left}
use Rattle.outline.proofs.HalfPlaneLaws.{RightTurn, right-turn-not-0}
use Rattle.outline.proofs.VectorLaws.{three-signs}
use Rattle.outline.proofs.Edges.{edge-not-0}
use Rattle.nearby.specs.Test.{RightTurns}
use Rattle.nearby.proofs.TestLaws.{corner-cross, walkable-turns, turns-walkable}
use Rattle.nearby.proofs.KeptLaws.{placed-walkable, leaves-same}
use Rattle.nearby.specs.Leaves.{leaves_along}
use Rattle.nearby.proofs.LeavesLaws.{leaves-circles, new-face-leaves}
use Rattle.skipped.specs.Insert.{outside_ends, outside_turn, outside_walk, insert_outside}
use Rattle.skipped.proofs.LegalizeVertexLaws.{legalized-boundary, legalized-good}
use Rattle.skipped.specs.Outside.{Tip}
use Rattle.skipped.proofs.OutsideLaws.{Standing, going, outside-falls, new-good, first-legalized, left-start, right-start}
use Rattle.skipped.proofs.OutsideCorners.{outside-corners}
use Rattle.sums.proofs.UntilLaws.{Falls, until-keeps}
use Rattle.walkable.specs.Walkable.{Walkable}
use Rattle.walkable.proofs.WalkableLaws.{walkable-convex}
use Rattle.skipped_nearby.specs.Away.{away, Behind, Facing}
use Rattle.skipped_nearby.proofs.AwayLaws.{seen-away, level-away, away-to, away-from, ahead-first, ahead-second}
use Rattle.skipped_nearby.proofs.FacingLaws.{fails, facing-same, left-facing, left-leaves, right-facing, right-leaves}

-- ---- the loops
module _ (room : ℕ) (p : ℕ → Point) {w : ℕ} {v : Point} (here : p w ≡ v) (a b : Point) where
  abbrev Once : Walking → Type 0
  Once s = leaves_along (left (away a b v)) s.mesh.counts s.mesh.links p ≡ 1

  record FaceLeft (r : ℕ) (s : Walking) : Type 0 where
    stand : Standing room p here Left r s
    facing : Facing p v a b s.mesh.counts s.mesh.links s.current r
    once : Once s

  left-falls : (r : ℕ)
      → Falls (outside_ends Left p v) (outside_turn Left room p) (FaceLeft r) (λ s. boundary_length s.mesh.counts s.mesh.links)
  unfolding outside_turn face_edge
  left-falls r = record {
    keeps = λ s I e. record {
      stand = (outside-falls room p here Left r).keeps s I.stand e;
      facing = left-facing room p here s.mesh I.stand.good I.stand.tip I.facing (going room p here Left s e);
      once = left-leaves room p here s.mesh I.stand.good I.stand.tip I.facing (going room p here Left s e) ∙ I.once;
    };
    less = λ s I e. (outside-falls room p here Left r).less s I.stand e;
  }

  left-done : (r : ℕ) (s : Walking) → FaceLeft r s → FaceLeft r (outside_walk Left room p v s)
  unfolding outside_walk
  left-done r s I = until-keeps (outside_ends Left p v) (outside_turn Left room p) (left-falls r) (2 * s.mesh.counts.edges + 1) s I

  record FaceRight (l : ℕ) (s : Walking) : Type 0 where
    stand : Standing room p here Right l s
    facing : Facing p v a b s.mesh.counts s.mesh.links l s.current
    once : Once s

  right-falls : (l : ℕ)
      → Falls (outside_ends Right p v) (outside_turn Right room p) (FaceRight l) (λ s. boundary_length s.mesh.counts s.mesh.links)
  unfolding outside_turn face_edge
  right-falls l = record {
    keeps = λ s I e. record {
      stand = (outside-falls room p here Right l).keeps s I.stand e;
      facing = right-facing room p here s.mesh I.stand.good I.stand.tip I.facing (going room p here Right s e);
      once = right-leaves room p here s.mesh I.stand.good I.stand.tip I.facing (going room p here Right s e) ∙ I.once;
    };
    less = λ s I e. (outside-falls room p here Right l).less s I.stand e;
  }

  right-done : (l : ℕ) (s : Walking) → FaceRight l s → FaceRight l (outside_walk Right room p v s)
  unfolding outside_walk
  right-done l s I = until-keeps (outside_ends Right p v) (outside_turn Right room p) (right-falls l) (2 * s.mesh.counts.edges + 1) s I

-- ---- both loops have ended
not-left-turn : (u w : Vector) → cross_of u w ≤ℤ pos 0 → (cross_of u w ≡ pos 0 → pos 0 <ℤ dot_of u w) → RightTurn u w
not-left-turn u w h k = go (three-signs (cross_of u w))
  where
    go : (cross_of u w <ℤ pos 0) ⊎ ((cross_of u w ≡ pos 0) ⊎ (pos 0 <ℤ cross_of u w)) → RightTurn u w
    go (inl q) = inl q
    go (inr (inl q)) = inr (record { parallel = q; ahead = k q })
    go (inr (inr q)) = clash_ℤ q h

at_least : {z : ℤ} → z ≡ pos 0 → pos 0 ≤ℤ z
at_least q = subst (λ (y : ℤ). pos 0 ≤ℤ y) (sym q) (≤ℤ_refl (pos 0))

module _ {p : ℕ → Point} {w : ℕ} {v : Point} (here : p w ≡ v) {C : Counts} {L : Links} (G : Good C L p) {l r : ℕ} (X : Tip w C L l r)
    {a b : Point} (Y : Facing p v a b C L l r) (N : NoLeftCorner C L p) where
  W : Wf C L
  W = G.wf

  abbrev A : Vector
  A = away a b v

  abbrev at : ℕ → Vector
  at x = direction L p x

  O : Outer C L l r (L.next r) (L.next (L.next r))
  O = subst (λ (x : ℕ). Outer C L x r (L.next r) (L.next (L.next r))) X.prev-r (outer W X.in-r X.outer-r)

  P : Outer C L (L.prev l) l r (L.next r)
  P = subst (λ (x : ℕ). Outer C L (L.prev l) l x (L.next x)) X.next-l (outer W X.in-l X.outer-l)

  at-w : p (L.origin r) ≡ v
  at-w = ap p X.origin-r ∙ here

  not-0 : {x : ℕ} → In C x → L.face x ≡ 0 → pos 0 <ℤ dot_of (at x) (at x)
  unfolding direction
  not-0 i o = edge-not-0 W G.turning i o

  weak : {x : ℕ} → In C x → L.face x ≡ 0 → cross_of (at x) (at (L.next x)) ≤ℤ pos 0
  weak i o = subst (λ (z : ℤ). z ≤ℤ pos 0) (sym (corner-cross W p i)) (N.corner i o)

  -- at the left end
  level-g : cross_of (at (L.prev l)) (at l) ≡ pos 0 → cross_of A (at (L.prev l)) ≤ℤ pos 0
  unfolding direction
  level-g q =
      let g = L.prev l in
      let B = Y.beyond P.in_p P.face-p (p-e W P) (p-n W P) in
      level-away (p (L.origin g)) (p (to L g)) v a b B.first B.second (at_least
      (ap₂ (λ (x : ℕ) (z : Point). orient2d (p (L.origin g)) (p x) z) (sym (W.links.origin-next P.in_p))
      (sym (ap (λ (x : ℕ). p (L.origin (L.next x))) P.next-p ∙ ap (λ (x : ℕ). p (L.origin x)) X.next-l ∙ at-w))
      ∙ sym (corner-cross W p P.in_p) ∙ ap (λ (x : ℕ). cross_of (at g) (at x)) P.next-p ∙ q))

  -- at the right end
  level-n : cross_of (at r) (at (L.next r)) ≡ pos 0 → cross_of A (at (L.next r)) ≤ℤ pos 0
  unfolding direction
  level-n q =
      let n = L.next r in
      let B = Y.beyond O.in-n O.face-n (λ k. p-n W O (sym k)) (λ k. e-n W O (sym k)) in
      level-away (p (L.origin n)) (p (to L n)) v a b B.first B.second (at_least
      (sym (orient2d-next v (p (L.origin n)) (p (to L n)))
      ∙ ap₂ (λ (z : Point) (x : ℕ). orient2d z (p (L.origin n)) (p x)) (sym at-w) (sym (W.links.origin-next O.in-n))
      ∙ sym (corner-cross W p X.in-r) ∙ q))

  turns-ended : RightTurns C L p
  turns-ended = record { turns = λ {e = x} i o. go i o (ℕ_discrete x (L.prev l)) (ℕ_discrete x l) (ℕ_discrete x r) }
    where
      at_left : RightTurn (at (L.prev l)) (at l)
      at_left = not-left-turn (at (L.prev l)) (at l) (subst (λ (x : ℕ). cross_of (at (L.prev l)) (at x) ≤ℤ pos 0) P.next-p (weak P.in_p P.face-p))
          (λ q. ahead-first A (at (L.prev l)) (at l) q (level-g q) Y.at-l (not-0 P.in_p P.face-p))

      at-tip : RightTurn (at l) (at r)
      at-tip = not-left-turn (at l) (at r) (subst (λ (x : ℕ). cross_of (at l) (at x) ≤ℤ pos 0) X.next-l (weak X.in-l X.outer-l))
          (λ q. ahead-first A (at l) (at r) q (lt-le Y.at-l) Y.at-r (not-0 X.in-l X.outer-l))

      at_right : RightTurn (at r) (at (L.next r))
      at_right = not-left-turn (at r) (at (L.next r)) (weak X.in-r X.outer-r)
          (λ q. ahead-second A (at r) (at (L.next r)) q Y.at-r (level-n q) (not-0 O.in-n O.face-n))

      go : {x : ℕ} → In C x → L.face x ≡ 0 → Dec (x ≡ L.prev l) → Dec (x ≡ l) → Dec (x ≡ r) → RightTurn (at x) (at (L.next x))
      go i o (yes c) d e = subst (λ (y : ℕ). RightTurn (at y) (at (L.next y))) (sym c) (subst (λ (y : ℕ). RightTurn (at (L.prev l)) (at y)) (sym P.next-p) at_left)
      go i o (no c) (yes d) e = subst (λ (y : ℕ). RightTurn (at y) (at (L.next y))) (sym d) (subst (λ (y : ℕ). RightTurn (at l) (at y)) (sym X.next-l) at-tip)
      go i o (no c) (no d) (yes e) = subst (λ (y : ℕ). RightTurn (at y) (at (L.next y))) (sym e) at_right
      go i o (no c) (no d) (no e) = Y.rest i o c d e

  pub ended-walkable : leaves_along (left (away a b v)) C L p ≡ 1 → Walkable C L p
  ended-walkable once = turns-walkable W p turns-ended
      (sym (leaves-circles W p turns-ended A (right-turn-not-0 A (at l) (inl Y.at-l))) ∙ once)

-- ---- all of it
module _ (room : ℕ) {C : Counts} {L : Links} {p₀ p : ℕ → Point} {v : Point} {e : ℕ} (G : Good C L p₀) (i : In C e) (o : L.face e ≡ 0)
    (seen₀ : pos 0 <ℤ orient2d (p₀ (L.origin e)) (p₀ (to L e)) v)
    (same : (u : ℕ) → u < C.vertices → p u ≡ p₀ u) (here : p C.vertices ≡ v) (range : InRange v) (K₀ : Walkable C L p₀) where
  W₀ : Wf C L
  W₀ = G.wf

  abbrev a : Point
  a = p (L.origin e)

  abbrev b : Point
  b = p (to L e)

  abbrev D : Vector
  D = away a b v

  abbrev K : Links
  K = create_new_face_adjacent_to_edge L C e

  abbrev l₀ : ℕ
  l₀ = 2 * C.edges + 2 + 1

  abbrev r₀ : ℕ
  r₀ = 2 * C.edges + 1

  seen : pos 0 <ℤ orient2d (p (L.origin e)) (p (to L e)) v
  seen = rw (same _ (W₀.ranges.origin< i), same _ (W₀.ranges.origin< (rev-in C i))) seen₀

  F : NewFaceFrame C (with_vertex C) L K (L.prev e) e (L.next e) (2 * C.edges) r₀ (2 * C.edges + 2) l₀
  F = new-face-frame W₀ i o

  -- the boundary is a hull
  hull : {x d : ℕ} → In C x → L.face x ≡ 0 → In C d → L.face d ≡ 0 → orient2d (p (L.origin x)) (p (to L x)) (p (L.origin d)) ≤ℤ pos 0
  hull j z h k =
      rw (same _ (W₀.ranges.origin< j), same _ (W₀.ranges.origin< (rev-in C j)), same _ (W₀.ranges.origin< h))
      (((walkable-convex G K₀).hull j z).right h k)

  behind : {x : ℕ} → In C x → L.face x ≡ 0 → Behind p a b L x
  behind {x} j z = record {
    first = hull j z i o;
    second = subst (λ (u : ℕ). orient2d (p (L.origin x)) (p (to L x)) (p u) ≤ℤ pos 0) (W₀.links.origin-next i) (hull j z (W₀.ranges.next< i) (W₀.links.face-next i ∙ o));
  }

  R : RightTurns C L p
  R = walkable-turns W₀ p (placed-walkable W₀ same K₀)

  kept : {x : ℕ} → In C x → direction K p x ≡ direction L p x
  unfolding direction
  kept j = let k = F.ends j in ap₂ (λ (s t : ℕ). difference (p s) (p t)) k.1 k.0

  right-e : cross_of D (direction L p e) <ℤ pos 0
  unfolding direction
  right-e = let B = behind i o in seen-away a b v a b B.first B.second seen

  right-l : cross_of D (direction K p l₀) <ℤ pos 0
  unfolding direction
  right-l = subst₂ (λ (s : Point) (t : ℕ). cross_of D (difference s (p t)) <ℤ pos 0) (sym (ap p F.end-b' ∙ here)) (sym F.origin-b') (away-to a b v seen)

  right-r : cross_of D (direction K p r₀) <ℤ pos 0
  unfolding direction
  right-r = subst₂ (λ (s : ℕ) (t : Point). cross_of D (difference (p s) t) <ℤ pos 0) (sym F.end-a') (sym (ap p F.origin-a' ∙ here)) (away-from a b v seen)

  first-new : Facing p v a b (with_vertex C) K l₀ r₀
  first-new = record {
    rest = λ {x} h z c d f. rest c d f (F.was h z);
    beyond = λ {x} h z d f. beyond d f (F.was h z);
    at-l = right-l;
    at-r = right-r;
  }
    where
      rest : {x : ℕ} → x ≢ K.prev l₀ → x ≢ l₀ → x ≢ r₀ → (x ≡ l₀) ⊎ (x ≡ r₀) ⊎ (In C x × (L.face x ≡ 0) × (x ≢ e))
          → RightTurn (direction K p x) (direction K p (K.next x))
      rest c d f (inl q) = absurd (d q)
      rest c d f (inr (inl q)) = absurd (f q)
      rest c d f (inr (inr (h, z, k))) =
          subst₂ (λ (u w : Vector). RightTurn u w) (sym (kept h))
          (sym (ap (direction K p) (F.next-rest h (λ q. c (q ∙ sym F.prev-b')) k) ∙ kept (W₀.ranges.next< h))) (R.turns h z)

      beyond : {x : ℕ} → x ≢ l₀ → x ≢ r₀ → (x ≡ l₀) ⊎ (x ≡ r₀) ⊎ (In C x × (L.face x ≡ 0) × (x ≢ e)) → Behind p a b K x
      beyond d f (inl q) = absurd (d q)
      beyond d f (inr (inl q)) = absurd (f q)
      beyond d f (inr (inr (h, z, k))) = let y = F.ends h in let B = behind h z in record {
        first = subst₂ (λ (s t : ℕ). orient2d (p s) (p t) a ≤ℤ pos 0) (sym y.0) (sym y.1) B.first;
        second = subst₂ (λ (s t : ℕ). orient2d (p s) (p t) b ≤ℤ pos 0) (sym y.0) (sym y.1) B.second;
      }

  abbrev s₀ : Walking
  s₀ = record { mesh = first_face room p C L e; current = l₀ }

  abbrev s₁ : Walking
  s₁ = outside_walk Left room p v s₀

  abbrev s₂ : Walking
  s₂ = record { mesh = s₁.mesh; current = r₀ }

  began : FaceLeft room p here a b r₀ s₀
  began =
      let Q = first-legalized room G i o seen₀ same here range in
      let M = new-good room G i o seen₀ same here range in
      let Z : Wf (with_vertex C) (first_face room p C L e).links = subst (λ (E : Counts). Wf E (first_face room p C L e).links) Q.counts (legalized-good M Q).wf in
      record {
        stand = left-start room G i o seen₀ same here range;
        facing = subst (λ (E : Counts). Facing p v a b E (first_face room p C L e).links l₀ r₀) (sym Q.counts)
            (facing-same p M.wf Z (legalized-boundary M Q) (omega arith) F.outer-b' (omega arith) F.outer-a' first-new);
        once =
            ap (λ (E : Counts). leaves_along (left D) E (first_face room p C L e).links p) Q.counts
            ∙ leaves-same M.wf Z (legalized-boundary M Q) (λ x i z. i) {p = p} {p' = p} (λ u h. refl) (left D)
            ∙ new-face-leaves W₀ p (left D) i o (fails D (direction L p e) right-e) (fails D (direction K p l₀) right-l) (fails D (direction K p r₀) right-r)
            ∙ leaves-circles W₀ p R D (right-turn-not-0 D (direction L p e) (inl right-e)) ∙ (placed-walkable W₀ same K₀).once;
      }

  left_ended : FaceLeft room p here a b r₀ s₁
  left_ended = left-done room p here a b r₀ s₀ began

  right-ended : FaceRight room p here a b s₁.current (outside_walk Right room p v s₂)
  right-ended = right-done room p here a b s₁.current s₂ (record {
    stand = right-start room G i o seen₀ same here range;
    facing = left_ended.facing;
    once = left_ended.once;
  })

  -- A MESH TO WALK ON STAYS ONE
  pub outside-walkable : (insert_outside room p C L v e).full ≡ false
      → Walkable (insert_outside room p C L v e).counts (insert_outside room p C L v e).links p
  unfolding insert_outside
  outside-walkable f =
      ended-walkable here right-ended.stand.good right-ended.stand.tip right-ended.facing
      (outside-corners room G i o seen₀ same here range K₀.corners f) right-ended.once
