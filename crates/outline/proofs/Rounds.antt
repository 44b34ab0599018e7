-- A closed sequence of vectors of which each turns right to the next, by less than half a circle: it leaves every
-- half-plane as often as the upper one, which is how often it goes round.
-- So where it goes round once, the vectors of any half-plane are one run of the sequence. Assumes nothing.
use Rattle.std.specs.Prelude.{◌≡◌, refl, ◌⊎◌, List, [], ◌∷◌, Bool, true, false, not, ◌&&◌, ℕ, suc, ◌+◌, ◌≤◌, ℤ, pos, ◌-ℤ◌, ◌*ℤ◌, ◌<ℤ◌, ◌≤ℤ◌}
use Rattle.std.proofs.Common.{sym, ◌∙◌, ap, inl, inr}
use Rattle.algebra.specs.Ring.{◌⊕◌, ◌⊖◌, ◌⊗◌, ⊝◌}
use Rattle.algebra.proofs.RingLaws.{#◌, v0, v1, v2, v3}
use Rattle.algebra.proofs.Sign.{Pos, ◌*⁺◌, ◌*°◌, ◌+⁺◌, pos-in, nn-in, lt_in, le_in, lt_by, refute, eq-in, zero°, ◌*⁰◌}
use Rattle.math.specs.declared.Vector.{Vector}
use Rattle.math.proofs.Plane.{A, B, C, D}
use Rattle.math.specs.Vector.{cross_of, dot_of}
use Rattle.sums.specs.Bit.{bit, test-ext}
use Rattle.sums.proofs.BitLaws.{Tells}
use Rattle.sums.specs.Bounded.{count}
use Rattle.outline.specs.Outline.{upper}
use Rattle.outline.proofs.OutlineLaws.{falls}
use Rattle.outline.proofs.Falls.{falls-same}
use Rattle.outline.proofs.VectorLaws.{Cross, vectors, three-signs}
use Rattle.outline.specs.HalfPlane.{SameWay, HalfPlane, left, east}
use Rattle.outline.proofs.HalfPlaneLaws.{same-way-sym, RightTurn, left-half, upper-half}

-- what a half-plane's test tells of the cross product z
abbrev Side : Bool → ℤ → Type 0
Side t z = Tells t (pos 0 ≤ℤ z) (z ≤ℤ pos 0)

-- One step from v to v', seen from two directions a and b: s, s' and t, t' are the cross products with them. The step
-- leaves the two half-planes alike, but for a stay between them
step : (s t s' t' : ℤ) → pos 0 <ℤ (s *ℤ t' -ℤ t *ℤ s') → (f g f' g' : Bool) → Side f s → Side g t → Side f' s' → Side g' t'
    → bit (f && not f') + bit (not f && g) ≡ bit (g && not g') + bit (not f' && g')
step s t s' t' h f g f' g' F G F' G' = go f g f' g' F G F' G'
  where
    ρ : List ℤ
    ρ = s ∷ t ∷ s' ∷ t' ∷ []

    H : Pos ρ (v0 ⊗ v3 ⊖ v1 ⊗ v2)
    H = pos-in ρ (v0 ⊗ v3 ⊖ v1 ⊗ v2) h

    go : (f g f' g' : Bool) → Side f s → Side g t → Side f' s' → Side g' t'
        → bit (f && not f') + bit (not f && g) ≡ bit (g && not g') + bit (not f' && g')
    go true true true true F G F' G' = refl
    go true true true false F G F' G' = absurd (refute (H +⁺ nn-in ρ v0 (F.0 tt) *° le_in ρ v3 (# 0) (G'.1 tt) +⁺ nn-in ρ v1 (G.0 tt) *° nn-in ρ v2 (F'.0 tt)) tt)
    go true true false true F G F' G' = refl
    go true true false false F G F' G' = refl
    go true false true true F G F' G' = refl
    go true false true false F G F' G' = refl
    go true false false true F G F' G' = refl
    go true false false false F G F' G' = absurd (refute (H +⁺ nn-in ρ v0 (F.0 tt) *° le_in ρ v3 (# 0) (G'.1 tt) +⁺ le_in ρ v1 (# 0) (G.1 tt) *° le_in ρ v2 (# 0) (F'.1 tt)) tt)
    go false true true true F G F' G' = absurd (refute (H +⁺ le_in ρ v0 (# 0) (F.1 tt) *° nn-in ρ v3 (G'.0 tt) +⁺ nn-in ρ v1 (G.0 tt) *° nn-in ρ v2 (F'.0 tt)) tt)
    go false true true false F G F' G' = refl
    go false true false true F G F' G' = refl
    go false true false false F G F' G' = refl
    go false false true true F G F' G' = refl
    go false false true false F G F' G' = refl
    go false false false true F G F' G' = absurd (refute (H +⁺ le_in ρ v0 (# 0) (F.1 tt) *° nn-in ρ v3 (G'.0 tt) +⁺ le_in ρ v1 (# 0) (G.1 tt) *° le_in ρ v2 (# 0) (F'.1 tt)) tt)
    go false false false false F G F' G' = refl

-- a step that leads nowhere
stay : (f g f' g' : Bool) → f ≡ f' → g ≡ g' → bit (f && not f') + bit (not f && g) ≡ bit (g && not g') + bit (not f' && g')
stay f g f' g' p q = rw (← p, ← q) (go f g)
  where
    go : (f g : Bool) → bit (f && not f) + bit (not f && g) ≡ bit (g && not g) + bit (not f && g)
    go true true = refl
    go true false = refl
    go false true = refl
    go false false = refl

-- (a × v)(b × v') - (b × v)(a × v') = (a × b)(v × v')
both_right : (a b v v' : Vector) → cross_of a b <ℤ pos 0 → cross_of v v' <ℤ pos 0
    → pos 0 <ℤ (cross_of a v *ℤ cross_of b v' -ℤ cross_of b v *ℤ cross_of a v')
unfolding cross_of
both_right a b v v' h k = let ρ = vectors a b v v' in
    lt_by (lt_in ρ (Cross A B) (# 0) h *⁺ lt_in ρ (Cross C D) (# 0) k) (# 0) (Cross A C ⊗ Cross B D ⊖ Cross B C ⊗ Cross A D) refl

swapped : (a b : Vector) → pos 0 <ℤ cross_of a b → cross_of b a <ℤ pos 0
unfolding cross_of
swapped a b h = let ρ = vectors a b a b in lt_by (pos-in ρ (Cross A B) h) (Cross B A) (# 0) refl

north : Vector
north = record { x = pos 0; y = pos 1 }

east-north : pos 0 <ℤ cross_of east north
unfolding cross_of east north
east-north = record { lt = tt }

-- a vector that is level and upright is 0
none : (a : Vector) → pos 0 <ℤ dot_of a a → cross_of east a ≡ pos 0 → cross_of north a ≡ pos 0 → ⊥
unfolding cross_of dot_of east north
none a h k i = let ρ = a.x ∷ a.y ∷ [] in
    refute (pos-in ρ (v0 ⊗ v0 ⊕ v1 ⊗ v1) h +⁺ zero° ((⊝ v1) *⁰ eq-in ρ (# 1 ⊗ v1 ⊖ # 0 ⊗ v0) (# 0) k) +⁺ zero° (v0 *⁰ eq-in ρ (# 0 ⊗ v1 ⊖ # 1 ⊗ v0) (# 0) i)) tt

module _ (n : ℕ) (w : ℕ → Vector) (back : w n ≡ w 0) (turn : (k : ℕ) → RightTurn (w k) (w (suc k))) where
  -- how often the sequence leaves a half-plane
  abbrev leaves : (Vector → Bool) → ℕ
  leaves h = count n (falls (λ k. h (w k)))

  leaves-right : {a b : Vector} {f g : Vector → Bool} → HalfPlane a f → HalfPlane b g → cross_of a b <ℤ pos 0 → leaves f ≡ leaves g
  leaves-right {a} {b} {f} {g} F G h = falls-same n (λ k. f (w k)) (λ k. g (w k)) (λ k. each k (turn k)) (ap f back) (ap g back)
    where
      same : {c : Vector} {i : Vector → Bool} → HalfPlane c i → (k : ℕ) → SameWay (w k) (w (suc k)) → i (w k) ≡ i (w (suc k))
      same {c} {i} I k s = test-ext (i (w k)) (i (w (suc k))) (I.ray (w k) (w (suc k)) s) (I.ray (w (suc k)) (w k) (same-way-sym s))

      each : (k : ℕ) → RightTurn (w k) (w (suc k))
          → bit (f (w k) && not (f (w (suc k)))) + bit (not (f (w k)) && g (w k))
          ≡ bit (g (w k) && not (g (w (suc k)))) + bit (not (f (w (suc k))) && g (w (suc k)))
      each k (inl q) = let v = w k in let v' = w (suc k) in
          step (cross_of a v) (cross_of b v) (cross_of a v') (cross_of b v') (both_right a b v v' h q) (f v) (g v) (f v') (g v')
          (F.inside v, F.outside v) (G.inside v, G.outside v) (F.inside v', F.outside v') (G.inside v', G.outside v')
      each k (inr s) = stay (f (w k)) (g (w k)) (f (w (suc k))) (g (w (suc k))) (same F k s) (same G k s)

  leaves-across : {a b : Vector} {f g : Vector → Bool} → HalfPlane a f → HalfPlane b g
      → (cross_of a b <ℤ pos 0) ⊎ (pos 0 <ℤ cross_of a b) → leaves f ≡ leaves g
  leaves-across F G (inl h) = leaves-right F G h
  leaves-across {a} {b} F G (inr h) = sym (leaves-right G F (swapped a b h))

  -- every half-plane is left as often as the upper one
  pub leaves-left : (a : Vector) → pos 0 <ℤ dot_of a a → leaves (left a) ≡ leaves upper
  leaves-left a h = go (three-signs (cross_of east a))
    where
      go : (cross_of east a <ℤ pos 0) ⊎ ((cross_of east a ≡ pos 0) ⊎ (pos 0 <ℤ cross_of east a)) → leaves (left a) ≡ leaves upper
      go (inl k) = sym (leaves-across upper-half (left-half a) (inl k))
      go (inr (inr k)) = sym (leaves-across upper-half (left-half a) (inr k))
      go (inr (inl k)) = sym (leaves-across upper-half (left-half north) (inr east-north) ∙ leaves-across (left-half north) (left-half a) (level (three-signs (cross_of north a))))
        where
          level : (cross_of north a <ℤ pos 0) ⊎ ((cross_of north a ≡ pos 0) ⊎ (pos 0 <ℤ cross_of north a))
              → (cross_of north a <ℤ pos 0) ⊎ (pos 0 <ℤ cross_of north a)
          level (inl i) = inl i
          level (inr (inr i)) = inr i
          level (inr (inl i)) = absurd (none a h k i)
