-- Laws of specs/Frame.antt.
use Rattle.std.specs.Prelude.{ℕ, ◌<◌, ◌≡◌, refl, ◌⊎◌}
use Rattle.std.proofs.Common.{sym, ◌∙◌, ⊎_elim, inl, inr}
use Rattle.mesh.specs.declared.Counts.{Counts}
use Rattle.mesh.specs.Mesh.{Links, In, to, turn}
use Rattle.mesh.specs.LinkRules.{LinkRules}
use Rattle.mesh.specs.LinkRulesWf.{link-rules}
use Rattle.mesh.specs.Wf.{Wf}
use Rattle.mesh.specs.Triangle.{Triangle, link-triangle, triangle, rev-in}
use Rattle.sums.proofs.IterateLaws.{Reach, reach-by}
use Rattle.mesh.specs.Frame.{Keeps, SameFace, SameBoundary, Corners, link-still-round}

pub keeps-refl : {L : Links} {x : ℕ} → Keeps L L x
keeps-refl = record { next = refl; prev = refl; face = refl; origin = refl; end = refl }

pub keeps-trans : {L L' L'' : Links} {x : ℕ} → Keeps L L' x → Keeps L' L'' x → Keeps L L'' x
keeps-trans a b = record {
  next = b.next ∙ a.next;
  prev = b.prev ∙ a.prev;
  face = b.face ∙ a.face;
  origin = b.origin ∙ a.origin;
  end = b.end ∙ a.end;
}

pub boundary-refl : {C : Counts} {L : Links} → SameBoundary C L L
boundary-refl = record { keeps = λ _ _. keeps-refl; was = λ _ z. z; adjacent = refl }

pub boundary-trans : {C : Counts} {L L' L'' : Links} → SameBoundary C L L' → SameBoundary C L' L'' → SameBoundary C L L''
boundary-trans a b = record {
  keeps = λ h z. keeps-trans (a.keeps h z) (b.keeps h ((a.keeps h z).face ∙ z));
  was = λ h z. a.was h (b.was h z);
  adjacent = b.adjacent ∙ a.adjacent;
}

-- a face that keeps its half-edges keeps its corners
pub same-corners : {L L' : Links} {f a b c : ℕ} → SameFace L L' f → Corners L f a b c → Corners L' f a b c
same-corners s k = let u = s.first in let v = s.second in let w = s.third in record { first = cc; second = cc; third = cc }

module _ {C : Counts} {L : Links} (W : Wf C L) where
  -- what is the same for the three corners of a face from whichever of them on is found at any of its half-edges
  pub by-corners : {X : Type 0} (A : ℕ → ℕ → ℕ → X) → ((a b c : ℕ) → A a b c ≡ A b c a) → {e : ℕ} → In C e
      → 0 < L.face e → {a b c : ℕ} → Corners L (L.face e) a b c
      → A (L.origin e) (L.origin (L.next e)) (L.origin (L.prev e)) ≡ A a b c
  by-corners {X} A r {e} h f {a} {b} {c} k = go (triangle W (W.ranges.adjacent< l) (rw (W.faces.stored l) f)) (W.faces.inner h f)
    where
      l : L.face e < C.faces
      l = W.ranges.face< h

      s : ℕ
      s = L.adjacent (L.face e)

      go : Triangle C L s (L.next s) (L.prev s) → (e ≡ s) ⊎ (e ≡ L.next s) ⊎ (e ≡ L.prev s)
          → A (L.origin e) (L.origin (L.next e)) (L.origin (L.prev e)) ≡ A a b c
      go T (inl p) = cc (k.first, k.second, k.third)
      go T (inr (inl p)) = cc (k.first, k.second, k.third, r a b c)
      go T (inr (inr p)) = cc (k.first, k.second, k.third, r c a b)

  pub still-round : (L' : Links) → ((x : ℕ) → In C x → Reach (turn L') x (turn L x)) → {x y : ℕ} → In C x → In C y
      → L.origin x ≡ L.origin y → Reach (turn L') x y
  still-round = link-still-round (link-rules W)
