-- THE CERTIFICATE of the search: from any half-edge in use, each answer is true of the mesh, by the tests just made.
-- Only the mesh rules are used. Assumes nothing.
use Rattle.std.specs.Prelude.{◌≡◌, ◌⊎◌, Bool, cond, ℕ, ◌*◌, ◌<◌, eqb, ℤ, pos, neg_ℤ, ◌<ℤ◌}
use Rattle.std.proofs.Math.Path.{refl, subst}
use Rattle.std.proofs.Common.{sym, ◌∙◌, ap, inl, inr, arith}
use Rattle.std.proofs.Math.Bool.{true, false}
use Rattle.std.proofs.Math.Dec.{eqb→eq}
use Rattle.std.specs.Int.Signed.{lt_z_yes}
use Rattle.algebra.proofs.Order.{neg-0<}
use Rattle.sums.proofs.BitLaws.{from-true, from_false, eq?}
use Rattle.sums.specs.Half.{rev}
use Rattle.sums.proofs.HalfLaws.{rev-rev}
use Rattle.sums.proofs.IterateLaws.{iter-keeps}
use Rattle.sums.proofs.UntilLaws.{until-holds}
use Rattle.math.specs.declared.Point.{Point}
use Rattle.math.specs.Determinant.{orient2d, is_position}
use Rattle.math.proofs.Plane.{orient2d-swap}
use Rattle.math.proofs.Side.{by-sign}
use Rattle.mesh.specs.declared.Counts.{Counts}
use Rattle.mesh.specs.Mesh.{Links, In, to, turn}
use Rattle.mesh.specs.Wf.{Wf}
use Rattle.mesh.specs.Triangle.{Triangle, triangle, same-face, rev-in}
use Rattle.mesh.proofs.TriangleLaws.{next-triangle}
use Rattle.mesh.proofs.BoundaryLaws.{first<}
use Rattle.math.proofs.Position.{same-position}
use Rattle.location.specs.declared.PositionInTriangulation.{PositionInTriangulation}
use Rattle.location.specs.declared.PositionInTriangulation.TheVariants.{OnVertex, OutsideOfConvexHull}
use Rattle.location.specs.declared.SearchState.{SearchState}
use Rattle.location.specs.declared.SearchState.TheVariants.{Found, Onward}
use Rattle.location.specs.Place.{area_at, is_left, is_right_of, LeftOf, InFace, InEdge}
use Rattle.location.proofs.PlaceFacts.{Certified, Sound}
use Rattle.location.specs.Search.{is_outer, first_closer, is_nearest, nearer, nearest, beyond, across_edge, rotate_ccw, rotate_cw, on_line_of, by_side, search_turn, ended, advance, search_from}

-- ---- tests
pub not-outer : (n : ℕ) → eqb n 0 ≡ false → 0 < n
not-outer n e = let d = (eq? n 0).1 (from_false e) in omega arith

module _ (L : Links) (p : ℕ → Point) (q : Point) where
  pub area-rev : (d : ℕ) → area_at L p q (rev d) ≡ neg_ℤ (area_at L p q d)
  area-rev d = ap (λ (x : ℕ). orient2d (p (to L d)) (p (L.origin x)) q) (rev-rev d) ∙ orient2d-swap (p (L.origin d)) (p (to L d)) q

  -- strictly right of the reverse is strictly left
  pub left_back : (d : ℕ) → area_at L p q (rev d) <ℤ pos 0 → LeftOf L p q d
  left_back d h =
      let k : area_at L p q (rev (rev d)) ≡ neg_ℤ (area_at L p q (rev d)) = area-rev (rev d) in
      subst (λ (x : ℕ). LeftOf L p q x) (rev-rev d) (subst (λ (z : ℤ). pos 0 <ℤ z) (sym k) (neg-0< h))

  pub left-rev : (d : ℕ) → area_at L p q d <ℤ pos 0 → LeftOf L p q (rev d)
  left-rev d h = subst (λ (z : ℤ). pos 0 <ℤ z) (sym (area-rev d)) (neg-0< h)

module _ {C : Counts} {L : Links} (W : Wf C L) (p : ℕ → Point) (q : Point) where
  -- the three half-edges of a face are all
  pub in-face : {a b c : ℕ} → Triangle C L a b c → 0 < L.face a → LeftOf L p q a → LeftOf L p q b → LeftOf L p q c
      → InFace C L p q (L.face a)
  in-face {a} {b} {c} t i la lb lc = record {
    inner = i;
    below = W.ranges.face< t.in-a;
    left = λ {e} h k. go e (same-face W t.in-a h i (sym k));
  }
    where
      go : (e : ℕ) → (e ≡ a) ⊎ (e ≡ L.next a) ⊎ (e ≡ L.prev a) → LeftOf L p q e
      go e (inl x) = subst (λ (d : ℕ). LeftOf L p q d) (sym x) la
      go e (inr (inl x)) = subst (λ (d : ℕ). LeftOf L p q d) (sym (x ∙ t.next-a)) lb
      go e (inr (inr x)) = subst (λ (d : ℕ). LeftOf L p q d) (sym (x ∙ t.prev-a)) lc

  pub in-edge : {a b c : ℕ} → Triangle C L a b c → 0 < L.face a → LeftOf L p q a → area_at L p q b ≡ pos 0
      → LeftOf L p q c → InEdge C L p q b
  in-edge {a} {b} {c} t i la z lc = record {
    used = t.in_b;
    inner = subst (λ (f : ℕ). 0 < f) (sym t.face-b) i;
    on = z;
    left-next = subst (λ (d : ℕ). LeftOf L p q d) (sym t.next-b) lc;
    left-prev = subst (λ (d : ℕ). LeftOf L p q d) (sym t.prev-b) la;
  }

  across-sound : {a b c : ℕ} → Triangle C L a b c → 0 < L.face a → LeftOf L p q a → LeftOf L p q c → {e1 : ℕ} → L.face e1 ≡ L.face a
      → Sound C L p q (across_edge L e1 b (area_at L p q b))
  unfolding across_edge beyond
  across-sound {b = b} t i la lc m =
      by-sign (Sound C L p q) (area_at L p q b)
      (λ lb. subst (InFace C L p q) (sym m) (in-face t i la lb lc))
      (λ r. go (is_outer L (rev b)))
      (λ z. in-edge t i la z lc)
    where
      go : (o : Bool) → In C (cond o (rev b) (L.prev (rev b)))
      go true = rev-in C t.in_b
      go false = W.ranges.prev< (rev-in C t.in_b)

  ccw-sound : {e : ℕ} → In C e → LeftOf L p q e → Sound C L p q (rotate_ccw L p q e)
  unfolding rotate_ccw
  ccw-sound {e} h l = go (is_outer L e) (is_right_of L p q (rev (L.prev e))) refl refl
    where
      go : (o r : Bool) → is_outer L e ≡ o → is_right_of L p q (rev (L.prev e)) ≡ r
          → Sound C L p q (cond o (Found (OutsideOfConvexHull e))
          (cond r (across_edge L e (L.next e) (area_at L p q (L.next e))) (Onward (rev (L.prev e)))))
      go true r x y = record { used = h; outer = eqb→eq (L.face e) 0 (from-true x); left = l }
      go false true x y =
          let i = not-outer (L.face e) x in
          across-sound (triangle W h i) i l (left_back L p q (L.prev e) (lt_z_yes (from-true y))) refl
      go false false x y = rev-in C (W.ranges.prev< h)

  cw-sound : {e : ℕ} → In C e → LeftOf L p q (rev e) → Sound C L p q (rotate_cw L p q e)
  unfolding rotate_cw
  cw-sound {e} h l = go (is_outer L (rev e)) (is_left L p q (L.next (rev e))) refl refl
    where
      go : (o r : Bool) → is_outer L (rev e) ≡ o → is_left L p q (L.next (rev e)) ≡ r
          → Sound C L p q (cond o (Found (OutsideOfConvexHull (rev e)))
          (cond r (across_edge L (rev e) (L.prev (rev e)) (area_at L p q (L.prev (rev e)))) (Onward (L.next (rev e)))))
      go true r x y = record { used = rev-in C h; outer = eqb→eq (L.face (rev e)) 0 (from-true x); left = l }
      go false true x y =
          let i = not-outer (L.face (rev e)) x in
          let t = triangle W (rev-in C h) i in
          across-sound (next-triangle t) (subst (λ (f : ℕ). 0 < f) (sym t.face-b) i) (lt_z_yes (from-true y)) l (sym t.face-b)
      go false false x y = W.ranges.next< (rev-in C h)

  side-sound : {e : ℕ} → In C e → Sound C L p q (by_side L p q e)
  unfolding by_side on_line_of
  side-sound {e} h =
      by-sign (Sound C L p q) (area_at L p q e)
      (λ l. ccw-sound h l)
      (λ r. cw-sound h (left-rev L p q e r))
      (λ z. W.ranges.prev< (go (is_outer L e)))
    where
      go : (o : Bool) → In C (cond o (rev e) e)
      go true = rev-in C h
      go false = h

  -- ONE TURN
  pub turn-sound : {e : ℕ} → In C e → Sound C L p q (search_turn L p q e)
  unfolding search_turn
  turn-sound {e} h = go (is_position (p (L.origin e)) q) (is_position (p (to L e)) q) refl refl
    where
      go : (a b : Bool) → is_position (p (L.origin e)) q ≡ a → is_position (p (to L e)) q ≡ b
          → Sound C L p q (cond a (Found (OnVertex (L.origin e))) (cond b (Found (OnVertex (to L e))) (by_side L p q e)))
      go true b x y = record { used = W.ranges.origin< h; here = same-position (p (L.origin e)) q (from-true x) }
      go false true x y = record { used = W.ranges.origin< (rev-in C h); here = same-position (p (to L e)) q (from-true y) }
      go false false x y = side-sound h

  -- THE WALK, from any half-edge in use, whatever it did
  pub search-sound : {e : ℕ} → In C e → Sound C L p q (search_from C L p q e)
  unfolding search_from advance
  search-sound {e} h = until-holds (Sound C L p q) ended (advance L p q) step (2 * C.edges) (Onward e) h
    where
      step : (s : SearchState) → Sound C L p q s → Sound C L p q (advance L p q s)
      step (Found x) k = k
      step (Onward d) k = turn-sound k

  pub search-certified : {e : ℕ} → In C e → {x : PositionInTriangulation} → search_from C L p q e ≡ Found x → Certified C L p q x
  search-certified {e} h k = subst (Sound C L p q) k (search-sound h)

  -- where the walk to a nearest vertex stops is in use
  pub nearest-used : nearest C L p q < C.vertices
  unfolding nearest nearer
  nearest-used = until-holds (λ v. v < C.vertices) (is_nearest C L p q) (nearer C L p q)
      (λ v l. W.ranges.origin< (rev-in C (iter-keeps {f = turn L} (In C) (λ x k. rev-in C (W.ranges.prev< k)) (first_closer C L p q v) (W.ranges.out< l))))
      (2 * C.edges) 0 (let k = W.ranges.origin< (first< W) in omega arith)
