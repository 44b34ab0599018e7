-- The boundary of a mesh that keeps the rules: one cycle of `boundary_length` half-edges, at least three, that holds
-- every half-edge of face 0.
-- A sum over all half-edges goes along the boundary and then face by face. Assumes nothing.
use Rattle.std.specs.Prelude.{◌≡◌, refl, ◌⊎◌, ℕ, zero, suc, ◌-◌, ◌*◌, ◌<◌, ◌≤◌, eqb, ℤ, pos, ◌+ℤ◌}
use Rattle.std.proofs.Common.{sym, ◌∙◌, inl, inr, arith}
use Rattle.std.proofs.Math.Path.{ap}
use Rattle.std.proofs.Math.Decide.{ℕ_discrete}
use Rattle.std.proofs.Math.IntN.{+ℤ_idl}
use Rattle.sums.specs.Iterate.{iter, Inverse, Period}
use Rattle.sums.proofs.IterateLaws.{iter-keeps, iter-back, Reach, reach-back, reach-on, inverse-sym, period-is, period-le, period-listed, period-three, period-reach}
use Rattle.sums.proofs.ListedLaws.{On}
use Rattle.sums.specs.Sum.{sum}
use Rattle.sums.proofs.SumLaws.{sum-ext, sum_first, sum-along, sum-classes, only, only_yes, only_no}
use Rattle.mesh.specs.declared.Counts.{Counts}
use Rattle.mesh.specs.Mesh.{Links, In}
use Rattle.mesh.specs.Wf.{Wf}
use Rattle.mesh.specs.Area.{boundary_length}

-- a round walked back is as long
pub period-back : {n : ℕ} {f g : ℕ → ℕ} → Inverse n f g → {a h : ℕ} → a < n → Period f a h → Period g a h
period-back {n} {f} {g} inv {a} {h} l P = record {
  positive = P.positive;
  back = sym (ap (iter h g) P.back) ∙ iter-back inv h l;
  least = λ k u v e. P.least k u v (sym (ap (iter k f) e) ∙ iter-back (inverse-sym inv) k l);
}

module _ {C : Counts} {L : Links} (W : Wf C L) where
  pub next-inverse : Inverse (2 * C.edges) L.next L.prev
  next-inverse = record {
    there = λ a l. W.ranges.next< l;
    here = λ a l. W.ranges.prev< l;
    gf = λ a l. W.links.prev-next l;
    fg = λ a l. W.links.next-prev l;
  }

  pub first< : In C (L.adjacent 0)
  first< = W.ranges.adjacent< W.some

  pub first-outer : L.face (L.adjacent 0) ≡ 0
  first-outer = W.faces.stored W.some

  -- ---- the boundary's length
  pub boundary-period : Period L.next (L.adjacent 0) (boundary_length C L)
  unfolding boundary_length
  boundary-period = period-is next-inverse first<

  pub boundary-most : boundary_length C L ≤ 2 * C.edges
  boundary-most = period-le next-inverse first< boundary-period

  pub boundary-least : 3 ≤ boundary_length C L
  boundary-least = go (boundary_length C L) boundary-period
    where
      go : (h : ℕ) → Period L.next (L.adjacent 0) h → 3 ≤ h
      go zero P = absurd (let l = P.positive in omega arith)
      go (suc zero) P = absurd (W.faces.apart first< P.back)
      go (suc (suc zero)) P = absurd (W.faces.wide first< first-outer P.back)
      go (suc (suc (suc h))) P = omega arith

  -- ---- what is on it: the half-edges of face 0
  pub boundary-below : (k : ℕ) → In C (iter k L.next (L.adjacent 0))
  boundary-below k = iter-keeps (In C) (λ e l. W.ranges.next< l) k first<

  face-along : (k : ℕ) {e : ℕ} → In C e → L.face (iter k L.next e) ≡ L.face e
  face-along zero l = refl
  face-along (suc k) l = face-along k (W.ranges.next< l) ∙ W.links.face-next l

  pub boundary-outer : (k : ℕ) → L.face (iter k L.next (L.adjacent 0)) ≡ 0
  boundary-outer k = face-along k first< ∙ first-outer

  pub boundary-all : {e : ℕ} → In C e → L.face e ≡ 0 → On (boundary_length C L) (λ k. iter k L.next (L.adjacent 0)) e
  boundary-all l o = reach-on next-inverse first< boundary-period (W.faces.outer first< l first-outer o)

  -- the same length from each of them
  pub outer-period : {e : ℕ} → In C e → L.face e ≡ 0 → Period L.next e (boundary_length C L)
  outer-period l o = period-reach next-inverse first< (W.faces.outer first< l first-outer o) boundary-period

  -- ---- inner faces
  pub three_back : {e : ℕ} → In C e → 0 < L.face e → L.next (L.next (L.next e)) ≡ e
  three_back l i = ap L.next (W.faces.three l i) ∙ W.links.next-prev l

  pub inner-period : {e : ℕ} → In C e → 0 < L.face e → Period L.next e 3
  inner-period l i = period-three (three_back l i) (W.faces.apart l)

  pub inner-stored : {f : ℕ} → 0 < f → f < C.faces → 0 < L.face (L.adjacent f)
  inner-stored u l = let q = W.faces.stored l in omega arith

  -- each half-edge of a face is met from the stored one
  pub face-reach : {e : ℕ} → In C e → Reach L.next (L.adjacent (L.face e)) e
  face-reach {e} l = at (L.face e) refl
    where
      one : (a : ℕ) → L.next (L.next a) ≡ L.prev a → (e ≡ a) ⊎ (e ≡ L.next a) ⊎ (e ≡ L.prev a) → Reach L.next a e
      one a t (inl q) = (0, sym q)
      one a t (inr (inl q)) = (1, sym q)
      one a t (inr (inr q)) = (2, t ∙ sym q)

      at : (f : ℕ) → L.face e ≡ f → Reach L.next (L.adjacent (L.face e)) e
      at zero q = rw q (W.faces.outer first< l first-outer q)
      at (suc f) q =
          let u : 0 < L.face e = omega arith in
          let m = W.ranges.face< l in
          one (L.adjacent (L.face e)) (W.faces.three (W.ranges.adjacent< m) (inner-stored u m)) (W.faces.inner l u)

  -- ---- a sum over the half-edges
  -- how many a face has
  abbrev size : ℕ → ℕ
  size zero = boundary_length C L
  size (suc f) = 3

  face-period : (f : ℕ) → f < C.faces → Period L.next (L.adjacent f) (size f)
  face-period zero l = boundary-period
  face-period (suc f) l = inner-period (W.ranges.adjacent< l) (inner-stored (omega arith) l)

  pub by-face : (c : ℕ → ℤ) → sum (2 * C.edges) c
      ≡ sum (boundary_length C L) (λ k. c (iter k L.next (L.adjacent 0)))
      +ℤ sum (C.faces - 1) (λ f. let e = L.adjacent (suc f) in c e +ℤ c (L.next e) +ℤ c (L.next (L.next e)))
  unfolding sum
  by-face c =
      sum-classes (2 * C.edges) C.faces L.face size (λ f k. iter k L.next (L.adjacent f)) (λ e l. W.ranges.face< l)
      (λ f l. period-listed next-inverse (W.ranges.adjacent< l) (face-period f l))
      (λ f k l q. face-along k (W.ranges.adjacent< l) ∙ W.faces.stored l)
      (λ e l. reach-on next-inverse (W.ranges.adjacent< (W.ranges.face< l)) (face-period (L.face e) (W.ranges.face< l)) (face-reach l)) c
      ∙ sum_first C.faces (λ f. sum (size f) (λ k. c (iter k L.next (L.adjacent f)))) W.some
      ∙ ap (λ (z : ℤ). sum (boundary_length C L) (λ k. c (iter k L.next (L.adjacent 0))) +ℤ z)
      (sum-ext (C.faces - 1) (λ f l. let e = L.adjacent (suc f) in ap (λ (z : ℤ). z +ℤ c (L.next e) +ℤ c (L.next (L.next e))) (+ℤ_idl (c e))))

  -- ---- a sum over the half-edges of face 0, along next or prev and from any of them
  outer-along : {f g : ℕ → ℕ} → Inverse (2 * C.edges) f g → ((e : ℕ) → In C e → L.face (f e) ≡ L.face e)
      → {a h : ℕ} → In C a → L.face a ≡ 0
      → ((e : ℕ) → In C e → L.face e ≡ 0 → Reach f a e) → Period f a h
      → (c : ℕ → ℤ) → sum (2 * C.edges) (λ e. only (eqb (L.face e) 0) (c e)) ≡ sum h (λ k. c (iter k f a))
  outer-along {f} inv same {a} {h} l o reach P c =
      sum-along (period-listed inv l P) (λ e. only (eqb (L.face e) 0) (c e)) (λ e m. at e m (ℕ_discrete (L.face e) 0))
      ∙ sum-ext h (λ k m. only_yes (L.face (iter k f a)) 0 (c (iter k f a)) (iter-keeps (λ e. In C e × (L.face e ≡ 0)) stay k (l, o)).1)
    where
      stay : (e : ℕ) → In C e × (L.face e ≡ 0) → In C (f e) × (L.face (f e) ≡ 0)
      stay e (m, q) = (inv.there e m, same e m ∙ q)

      at : (e : ℕ) → In C e → Dec (L.face e ≡ 0) → (only (eqb (L.face e) 0) (c e) ≡ pos zero) ⊎ On h (λ k. iter k f a) e
      at e m (yes q) = inr (reach-on inv l P (reach e m q))
      at e m (no n) = inl (only_no (L.face e) 0 (c e) n)

  pub along-next : {a h : ℕ} → In C a → L.face a ≡ 0 → Period L.next a h → (c : ℕ → ℤ)
      → sum (2 * C.edges) (λ e. only (eqb (L.face e) 0) (c e)) ≡ sum h (λ k. c (iter k L.next a))
  along-next l o P = outer-along next-inverse (λ e m. W.links.face-next m) l o (λ e m q. W.faces.outer l m o q) P

  pub along-prev : {a h : ℕ} → In C a → L.face a ≡ 0 → Period L.next a h → (c : ℕ → ℤ)
      → sum (2 * C.edges) (λ e. only (eqb (L.face e) 0) (c e)) ≡ sum h (λ k. c (iter k L.prev a))
  along-prev l o P = outer-along (inverse-sym next-inverse) (λ e m. face-prev m) l o
      (λ e m q. reach-back next-inverse m (W.faces.outer m l q o)) (period-back next-inverse l P)
    where
      face-prev : {e : ℕ} → In C e → L.face (L.prev e) ≡ L.face e
      face-prev {e} m = sym (W.links.face-next (W.ranges.prev< m)) ∙ ap L.face (W.links.next-prev m)
