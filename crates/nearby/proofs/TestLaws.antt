-- The test of a mesh to walk on passes just on those. Assumes nothing.
use Rattle.std.specs.Prelude.{◌⊎◌, ◌≡◌, ◌&&◌, ℕ, T, eqb, ℤ, pos, neg_ℤ, ◌<ℤ◌, ◌≤ℤ◌}
use Rattle.std.proofs.Common.{inl, inr, sym, ◌∙◌, ap, subst, eqb→eq}
use Rattle.std.proofs.Math.Path.{ap₂}
use Rattle.std.proofs.Math.Bool.{Bool}
use Rattle.std.specs.Int.Signed.{lt_z, le_z, lt_z_yes, le_z_yes, ≤ℤ_refl, clash_ℤ}
use Rattle.algebra.proofs.Order.{lt-le, neg-0<, neg-<0}
use Rattle.sums.proofs.BitLaws.{eq_test, and_left, and_right, and_both, or_cases, or_left, or_right}
use Rattle.sums.specs.Bounded.{all_below}
use Rattle.sums.proofs.BoundedLaws.{all-below→, all-below←}
use Rattle.math.specs.declared.Point.{Point}
use Rattle.math.specs.declared.Vector.{Vector}
use Rattle.math.specs.Determinant.{orient2d}
use Rattle.math.specs.Vector.{difference, cross_of, dot_of}
use Rattle.mesh.specs.declared.Counts.{Counts}
use Rattle.mesh.specs.Mesh.{Links, In}
use Rattle.mesh.specs.Wf.{Wf}
use Rattle.mesh.specs.Area.{at_corners, boundary_length, hull_edge}
use Rattle.mesh.proofs.BoundaryLaws.{boundary-below, boundary-outer, boundary-all}
use Rattle.convexity.specs.Convexity.{NoLeftCorner}
use Rattle.outline.specs.Outline.{direction, full_circles, NoneStraightBack}
use Rattle.outline.proofs.VectorLaws.{cross-along, three-signs}
use Rattle.outline.proofs.HalfPlaneLaws.{RightTurn}
use Rattle.walkable.proofs.Surround.{cross-back}
use Rattle.walkable.specs.Walkable.{Walkable}
use Rattle.nearby.specs.Test.{is_right_turn, turns_right, is_walkable, RightTurns}

-- ---- one corner's test
is-right-turn→ : (u v : Vector) → T (is_right_turn u v) → RightTurn u v
unfolding is_right_turn
is-right-turn→ u v t = go (three-signs z) (or_cases (lt_z (pos 0) z) (le_z (pos 0) z && lt_z (pos 0) d) t)
  where
    z : ℤ
    z = cross_of v u

    d : ℤ
    d = dot_of u v

    go : (z <ℤ pos 0) ⊎ ((z ≡ pos 0) ⊎ (pos 0 <ℤ z)) → T (lt_z (pos 0) z) ⊎ T (le_z (pos 0) z && lt_z (pos 0) d) → RightTurn u v
    go (inr (inr h)) b = inl (subst (λ (y : ℤ). y <ℤ pos 0) (sym (cross-back u v)) (neg-<0 h))
    go (inr (inl h)) (inr b) = inr (record {
      parallel = cross-back u v ∙ ap neg_ℤ h;
      ahead = lt_z_yes (and_right (le_z (pos 0) z) (lt_z (pos 0) d) b);
    })
    go (inr (inl h)) (inl b) = clash_ℤ (lt_z_yes b) (subst (λ (y : ℤ). y ≤ℤ pos 0) (sym h) (≤ℤ_refl (pos 0)))
    go (inl h) (inl b) = clash_ℤ h (lt-le (lt_z_yes b))
    go (inl h) (inr b) = clash_ℤ h (le_z_yes (and_left (le_z (pos 0) z) (lt_z (pos 0) d) b))

is-right-turn← : (u v : Vector) → RightTurn u v → T (is_right_turn u v)
unfolding is_right_turn
is-right-turn← u v r = go r
  where
    z : ℤ
    z = cross_of v u

    go : RightTurn u v → T (is_right_turn u v)
    go (inl h) = or_left (lt_z (pos 0) z) (le_z (pos 0) z && lt_z (pos 0) (dot_of u v))
        (subst (λ (y : ℤ). pos 0 <ℤ y) (sym (cross-back v u)) (neg-0< h)).lt
    go (inr s) = or_right (lt_z (pos 0) z) (le_z (pos 0) z && lt_z (pos 0) (dot_of u v))
        (and_both (le_z (pos 0) z) (lt_z (pos 0) (dot_of u v))
        (subst (λ (y : ℤ). pos 0 ≤ℤ y) (sym (cross-back v u ∙ ap neg_ℤ s.parallel)) (≤ℤ_refl (pos 0))).le s.ahead.lt)

module _ {C : Counts} {L : Links} (W : Wf C L) (p : ℕ → Point) where
  -- a corner of the boundary by the directions of its two half-edges
  pub corner-cross : {e : ℕ} → In C e → cross_of (direction L p e) (direction L p (L.next e)) ≡ at_corners orient2d L p e
  unfolding direction
  corner-cross {e} l =
      ap₂ (λ (u v : ℕ). cross_of (difference (p u) (p (L.origin e))) (difference (p v) (p (L.origin (L.next e)))))
      (sym (W.links.origin-next l)) (sym (W.links.origin-next (W.ranges.next< l)))
      ∙ cross-along (p (L.origin e)) (p (L.origin (L.next e))) (p (L.origin (L.next (L.next e))))

  -- no left corner, and none straight back
  pub right-turns : NoLeftCorner C L p → NoneStraightBack C L p → RightTurns C L p
  right-turns N B = record { turns = λ {e} l o. go l o (three-signs (at_corners orient2d L p e)) }
    where
      go : {e : ℕ} → In C e → L.face e ≡ 0
          → (at_corners orient2d L p e <ℤ pos 0) ⊎ ((at_corners orient2d L p e ≡ pos 0) ⊎ (pos 0 <ℤ at_corners orient2d L p e))
          → RightTurn (direction L p e) (direction L p (L.next e))
      go l o (inl h) = inl (subst (λ (z : ℤ). z <ℤ pos 0) (sym (corner-cross l)) h)
      go l o (inr (inl h)) = inr (record { parallel = corner-cross l ∙ h; ahead = B.ahead l o h })
      go l o (inr (inr h)) = clash_ℤ h (N.corner l o)

  pub walkable-turns : Walkable C L p → RightTurns C L p
  walkable-turns K = right-turns K.corners K.ahead

  pub turns-walkable : RightTurns C L p → full_circles C L p ≡ 1 → Walkable C L p
  turns-walkable R once = record {
    corners = record { corner = λ {e} l o. corner l (R.turns l o) };
    ahead = record { ahead = λ {e} l o z. ahead l z (R.turns l o) };
    once = once;
  }
    where
      corner : {e : ℕ} → In C e → RightTurn (direction L p e) (direction L p (L.next e)) → at_corners orient2d L p e ≤ℤ pos 0
      corner l (inl h) = lt-le (subst (λ (z : ℤ). z <ℤ pos 0) (corner-cross l) h)
      corner l (inr s) = subst (λ (z : ℤ). z ≤ℤ pos 0) (sym s.parallel ∙ corner-cross l) (≤ℤ_refl (pos 0))

      ahead : {e : ℕ} → In C e → at_corners orient2d L p e ≡ pos 0 → RightTurn (direction L p e) (direction L p (L.next e))
          → pos 0 <ℤ dot_of (direction L p e) (direction L p (L.next e))
      ahead l z (inl h) = clash_ℤ h (subst (λ (y : ℤ). pos 0 ≤ℤ y) (sym (corner-cross l ∙ z)) (≤ℤ_refl (pos 0)))
      ahead l z (inr s) = s.ahead

  -- ---- THE TEST, both ways
  pub tested-walkable : T (is_walkable C L p) → Walkable C L p
  unfolding is_walkable
  tested-walkable t = turns-walkable (record { turns = turns }) (eqb→eq (full_circles C L p) 1 (and_right all (eqb (full_circles C L p) 1) t))
    where
      all : Bool
      all = all_below (boundary_length C L) (λ k. turns_right L p (hull_edge L k))

      turns : {e : ℕ} → In C e → L.face e ≡ 0 → RightTurn (direction L p e) (direction L p (L.next e))
      turns {e} l o =
          let k = boundary-all W l o in
          is-right-turn→ (direction L p e) (direction L p (L.next e)) (subst (λ (x : ℕ). T (turns_right L p x)) k.2
          (all-below→ (boundary_length C L) (λ k. turns_right L p (hull_edge L k)) (and_left all (eqb (full_circles C L p) 1) t) k.0 k.1))

  pub walkable-tested : Walkable C L p → T (is_walkable C L p)
  unfolding is_walkable
  walkable-tested K = and_both (all_below (boundary_length C L) (λ k. turns_right L p (hull_edge L k))) (eqb (full_circles C L p) 1)
      (all-below← (boundary_length C L) (λ k. turns_right L p (hull_edge L k))
      (λ k l. is-right-turn← _ _ ((walkable-turns K).turns (boundary-below W k) (boundary-outer W k))))
      (eq_test K.once)
