-- A boundary of one peak goes round no point twice. Assumes nothing.
use Rattle.std.specs.Prelude.{◌≡◌, refl, ◌≢◌, ◌⊎◌, Bool, true, false, not, ◌&&◌, ℕ, zero, suc, ◌+◌, ◌-◌, ◌<◌, ◌≤◌, ℤ, pos, negsuc, neg_ℤ, ◌<ℤ◌, ◌≤ℤ◌}
use Rattle.std.proofs.Common.{sym, ◌∙◌, ap, subst, inl, inr, true≢false, arith}
use Rattle.std.proofs.Math.Logic.{⊎_elim}
use mathlib.Core.List.{[], ◌∷◌}
use Rattle.std.proofs.Math.Decide.{ℕ_discrete, dec_lt}
use Rattle.std.proofs.Math.Dec.{T, T_not, not_T}
use Rattle.std.specs.Int.Signed.{lt_z, lt_z_yes, le_z_yes, ≤ℤ_refl}
use Rattle.algebra.specs.Ring.{num, ◌⊕◌, ◌⊖◌, ◌⊗◌}
use Rattle.algebra.proofs.RingLaws.{#◌, v0, v1, v2, v3}
use Rattle.algebra.proofs.Sign.{◌*°◌, ◌+⁺◌, ◌+°◌, weak, pos-in, nn-in, lt_in, le_in, cases, lt_by, le-by, refute, eq-in, zero°}
use Rattle.sums.specs.Bit.{bit}
use Rattle.sums.proofs.BitLaws.{is_true, is_false, test, or_left, and_left, and_right, and_both, or_cases}
use Rattle.sums.specs.Bounded.{any_below}
use Rattle.sums.proofs.BoundedLaws.{any-below→, none-below→, count-sole}
use Rattle.sums.proofs.ListedLaws.{On}
use Rattle.sums.specs.Put.{put}
use Rattle.sums.proofs.PutLaws.{put_same, put_other}
use Rattle.sums.specs.Sum.{sum}
use Rattle.sums.proofs.SumLaws.{sum-put, sum_nonneg}
use Rattle.sums.specs.Iterate.{iter}
use Rattle.sums.proofs.IterateLaws.{iter-last, iter-add}
use Rattle.math.specs.declared.Point.{Point}
use Rattle.math.specs.Determinant.{orient2d}
use Rattle.mesh.specs.declared.Counts.{Counts}
use Rattle.mesh.specs.Mesh.{Links, to}
use Rattle.mesh.specs.Wf.{Wf}
use Rattle.mesh.specs.Area.{boundary_length, hull_edge}
use Rattle.mesh.proofs.BoundaryLaws.{boundary-below, boundary-outer, boundary-all, boundary-period, outer-period}
use Rattle.mesh.specs.Cochain.{boundary_circulation}
use Rattle.covering.specs.Crossing.{under, crossing}
use Rattle.covering.specs.CrossingLaws.{crossing-level, crossing-up, crossing-down}
use Rattle.covering.specs.CrossingLaws.{under-yes, under-no}
use Rattle.covering.specs.Crossing.{edge_crossing}
use Rattle.walkable.specs.Covering.{boundary_crossings}
use Rattle.walkable.specs.Scaled.{scale, WindsOnce}
use Rattle.walkable.specs.Winding.{upward, upward_at, Peak, OnePeak, peak, peaks}

-- ---- a sum of numbers of at least -1, of which at most one is below 0
pub sum-least : (n : ℕ) (f : ℕ → ℤ) (t : ℕ → Bool) → ((i : ℕ) → i < n → negsuc 0 ≤ℤ f i) → ((i : ℕ) → i < n → T (not (t i)) → pos 0 ≤ℤ f i)
    → ((i j : ℕ) → i < n → j < n → T (t i) → T (t j) → i ≡ j) → negsuc 0 ≤ℤ sum n f
sum-least n f t least low sole = go (test (any_below n t))
  where
    go : T (any_below n t) ⊎ T (not (any_below n t)) → negsuc 0 ≤ℤ sum n f
    go (inr w) = let ρ = sum n f ∷ [] in
        le-by (nn-in ρ v0 (sum_nonneg n f (λ i l. low i l (not_T (t i) (none-below→ n t w i l)))) +° nn-in ρ (# 1) (le_z_yes tt)) (num (negsuc 0)) v0 refl
    go (inl y) =
        let r = any-below→ n t y in let i = r.0 in
        let ρ = sum n f ∷ f i ∷ sum n (put f i (pos 0)) ∷ [] in
        le-by (le_in ρ (num (negsuc 0)) v1 (least i r.1) +° nn-in ρ v2 (sum_nonneg n (put f i (pos 0)) (λ k l. at i r.1 r.2 k l (ℕ_discrete k i)))
        +° zero° (eq-in ρ (v0 ⊖ v1 ⊕ # 0) v2 (sym (sum-put f (pos 0) r.1)))) (num (negsuc 0)) v0 refl
      where
        at : (i : ℕ) → i < n → T (t i) → (k : ℕ) → k < n → Dec (k ≡ i) → pos 0 ≤ℤ put f i (pos 0) k
        at i u y k l (yes e) = rw (e, put_same f i (pos 0)) (≤ℤ_refl (pos 0))
        at i u y k l (no d) = rw (put_other f i (pos 0) k d) (low k l (not_T (t k) (λ w. d (sole k i l u w y))))

-- ---- one edge
-- it goes down past q's height
abbrev drops : Point → Point → Point → Bool
drops q a b = not (under q a) && under q b

crossing-least : (q a b : Point) → negsuc 0 ≤ℤ crossing q a b
crossing-least q a b = go (under q a) (under q b) refl refl
  where
    go : (u v : Bool) → under q a ≡ u → under q b ≡ v → negsuc 0 ≤ℤ crossing q a b
    go true true ua ub = rw (crossing-level q a b (ua ∙ sym ub)) (le_z_yes tt)
    go false false ua ub = rw (crossing-level q a b (ua ∙ sym ub)) (le_z_yes tt)
    go true false ua ub = rw (crossing-up q a b ua ub) (bits (lt_z (pos 0) (orient2d a b q)))
      where
        bits : (x : Bool) → negsuc 0 ≤ℤ pos (bit x)
        bits true = le_z_yes tt
        bits false = le_z_yes tt
    go false true ua ub = rw (crossing-down q a b ua ub) (bits (lt_z (pos 0) (orient2d b a q)))
      where
        bits : (x : Bool) → negsuc 0 ≤ℤ neg_ℤ (pos (bit x))
        bits true = le_z_yes tt
        bits false = le_z_yes tt

crossing-low : (q a b : Point) → T (not (drops q a b)) → pos 0 ≤ℤ crossing q a b
crossing-low q a b h = go (under q a) (under q b) refl refl
  where
    go : (u v : Bool) → under q a ≡ u → under q b ≡ v → pos 0 ≤ℤ crossing q a b
    go true true ua ub = rw (crossing-level q a b (ua ∙ sym ub)) (le_z_yes tt)
    go false false ua ub = rw (crossing-level q a b (ua ∙ sym ub)) (le_z_yes tt)
    go true false ua ub = rw (crossing-up q a b ua ub) (bits (lt_z (pos 0) (orient2d a b q)))
      where
        bits : (x : Bool) → pos 0 ≤ℤ pos (bit x)
        bits true = le_z_yes tt
        bits false = le_z_yes tt
    go false true ua ub = absurd (subst (λ (u : Bool). T (not (not u && true))) ua (subst (λ (v : Bool). T (not (not (under q a) && v))) ub h))

module _ (K : ℤ) (k : pos 0 <ℤ K) (q a b : Point) where
  up_of : under q (scale K a) ≡ true → under q (scale K b) ≡ false → T (upward a b)
  unfolding scale
  up_of ua ub =
      let ρ = K ∷ a.y ∷ b.y ∷ q.y ∷ [] in
      let lo = under-yes q (scale K a) ua in let hi = under-no q (scale K b) ub in
      let h : a.y <ℤ b.y = ⊎_elim (λ g. lt_by g v1 v2 refl)
      (λ n. absurd (refute (lt_in ρ (v0 ⊗ v1) v3 lo +⁺ le_in ρ v3 (v0 ⊗ v2) hi +⁺ weak (pos-in ρ v0 k) *° n) tt)) (cases ρ (v2 ⊖ v1)) in
      or_left (lt_z a.y b.y) (not (lt_z b.y a.y) && lt_z a.x b.x) h.lt

  down-of : under q (scale K a) ≡ false → under q (scale K b) ≡ true → T (not (upward a b))
  unfolding scale
  down-of ua ub =
      let ρ = K ∷ a.y ∷ b.y ∷ q.y ∷ [] in
      let hi = under-no q (scale K a) ua in let lo = under-yes q (scale K b) ub in
      let h : b.y <ℤ a.y = ⊎_elim (λ g. lt_by g v2 v1 refl)
      (λ n. absurd (refute (lt_in ρ (v0 ⊗ v2) v3 lo +⁺ le_in ρ v3 (v0 ⊗ v1) hi +⁺ weak (pos-in ρ v0 k) *° n) tt)) (cases ρ (v1 ⊖ v2)) in
      not_T (upward a b) (λ t. ⊎_elim
      (λ (s : T (lt_z a.y b.y)). let σ = a.y ∷ b.y ∷ [] in refute (lt_in σ v1 v0 h +⁺ weak (lt_in σ v0 v1 (lt_z_yes s))) tt)
      (λ (s : T (not (lt_z b.y a.y) && lt_z a.x b.x)). T_not (lt_z b.y a.y) (and_left (not (lt_z b.y a.y)) (lt_z a.x b.x) s) h.lt)
      (or_cases (lt_z a.y b.y) (not (lt_z b.y a.y) && lt_z a.x b.x) t))

-- ---- along a walk of points
module _ (K : ℤ) (k : pos 0 <ℤ K) (q : Point) (P : ℕ → Point) where
  abbrev low : ℕ → Bool
  low i = under q (scale K (P i))

  abbrev up : ℕ → Bool
  up i = upward (P i) (P (suc i))

  -- from under q's height to above: an edge in the upper half
  rise : (i n : ℕ) → i < n → low i ≡ true → low n ≡ false → (j : ℕ) × (i ≤ j) × (j < n) × T (up j)
  rise i zero l a b = absurd (omega arith)
  rise i (suc n) l a b = go (low n) refl (rise i n)
    where
      go : (t : Bool) → low n ≡ t → (i < n → low i ≡ true → low n ≡ false → (j : ℕ) × (i ≤ j) × (j < n) × T (up j))
          → (j : ℕ) × (i ≤ j) × (j < suc n) × T (up j)
      go true e ih = (n, omega arith, omega arith, up_of K k q (P n) (P (suc n)) e b)
      go false e ih =
          let d : i ≢ n = λ s. true≢false (sym a ∙ ap low s ∙ e) in
          let r = ih (omega arith) a e in (r.0, r.1, (let u = r.2 in omega arith), r.3)

  -- from an edge in the upper half to one that is not: a peak
  top : (i n : ℕ) → i < n → T (up i) → T (not (up n)) → (j : ℕ) × (i ≤ j) × (j < n) × T (up j) × T (not (up (suc j)))
  top i zero l a b = absurd (omega arith)
  top i (suc n) l a b = go (test (up n)) (top i n)
    where
      go : T (up n) ⊎ T (not (up n)) → (i < n → T (up i) → T (not (up n)) → (j : ℕ) × (i ≤ j) × (j < n) × T (up j) × T (not (up (suc j))))
          → (j : ℕ) × (i ≤ j) × (j < suc n) × T (up j) × T (not (up (suc j)))
      go (inl t) ih = (n, omega arith, omega arith, t, b)
      go (inr t) ih =
          let d : i ≢ n = λ s. T_not (up n) t (subst (λ (m : ℕ). T (up m)) s a) in
          let r = ih (omega arith) a t in (r.0, r.1, (let u = r.2 in omega arith), r.3, r.4)

  -- two edges that go down past q's height: a peak between them
  peak-between : (i n : ℕ) → i < n → low (suc i) ≡ true → low n ≡ false → low (suc n) ≡ true
      → (j : ℕ) × (i < j) × (j < n) × T (up j) × T (not (up (suc j)))
  peak-between i n l a b c =
      let d : suc i ≢ n = λ s. true≢false (sym a ∙ ap low s ∙ b) in
      let r = rise (suc i) n (omega arith) a b in
      let s = top r.0 n r.2 r.3 (down-of K k q (P n) (P (suc n)) b c) in
      (s.0, (let u = r.1 in let w = s.1 in omega arith), s.2, s.3, s.4)

module _ {C : Counts} {L : Links} (W : Wf C L) {p : ℕ → Point} (one : OnePeak C L p) (K : ℤ) (k : pos 0 <ℤ K) (q : Point) where
  abbrev at : ℕ → Point
  at i = p (L.origin (hull_edge L i))

  -- the end of a boundary edge is the next one's origin
  end : (i : ℕ) → p (to L (hull_edge L i)) ≡ at (suc i)
  end i = ap p (sym (W.links.origin-next (boundary-below W i)) ∙ ap L.origin (sym (iter-last i L.next (L.adjacent 0))))

  -- the boundary comes round
  round : (i : ℕ) → at (boundary_length C L + i) ≡ at i
  round i = ap (λ (e : ℕ). p (L.origin e)) (iter-add (boundary_length C L) i L.next (L.adjacent 0) ∙ ap (iter i L.next) (boundary-period W).back)

  peak-at : (i : ℕ) → T (upward (at i) (at (suc i))) → T (not (upward (at (suc i)) (at (suc (suc i))))) → Peak L p (hull_edge L i)
  peak-at i u v = record {
    up = subst (λ (b : Point). T (upward (at i) b)) (sym (end i)) u;
    over = subst (λ (e : ℕ). T (not (upward_at L p e))) (iter-last i L.next (L.adjacent 0))
        (subst (λ (b : Point). T (not (upward (at (suc i)) b))) (sym (end (suc i))) v);
  }

  -- two peaks less than a round apart
  not-two : (i j : ℕ) → i < j → j < i + boundary_length C L → Peak L p (hull_edge L i) → Peak L p (hull_edge L j) → ⊥
  not-two i j l m P Q =
      let e = one.sole (boundary-below W i) (boundary-below W j) (boundary-outer W i) (boundary-outer W j) P Q in
      (outer-period W (boundary-below W i) (boundary-outer W i)).least (j - i) (omega arith) (omega arith)
      (sym (iter-add i (j - i) L.next (L.adjacent 0)) ∙ ap (λ (n : ℕ). iter n L.next (L.adjacent 0)) (whole i j l) ∙ sym e)
    where
      whole : (i j : ℕ) → i < j → i + (j - i) ≡ j
      whole i j l = omega arith

  abbrev drops_at : ℕ → Bool
  drops_at i = drops q (scale K (at i)) (scale K (at (suc i)))

  -- so two boundary edges do not both go down past q's height: there would be a peak between them, and one between the
  -- second and the first
  one-drop-after : (i j : ℕ) → i < j → j < boundary_length C L → T (drops_at i) → T (drops_at j) → ⊥
  one-drop-after i j l m s t =
      let h = boundary_length C L in
      let hi : under q (scale K (at i)) ≡ false = is_false (under q (scale K (at i))) (T_not (under q (scale K (at i))) (and_left (not (under q (scale K (at i)))) (under q (scale K (at (suc i)))) s)) in
      let lo : under q (scale K (at (suc i))) ≡ true = is_true (under q (scale K (at (suc i)))) (and_right (not (under q (scale K (at i)))) (under q (scale K (at (suc i)))) s) in
      let hj : under q (scale K (at j)) ≡ false = is_false (under q (scale K (at j))) (T_not (under q (scale K (at j))) (and_left (not (under q (scale K (at j)))) (under q (scale K (at (suc j)))) t)) in
      let lj : under q (scale K (at (suc j))) ≡ true = is_true (under q (scale K (at (suc j)))) (and_right (not (under q (scale K (at j)))) (under q (scale K (at (suc j)))) t) in
      let a = peak-between K k q at i j l lo hj lj in
      let b = peak-between K k q at j (h + i) (omega arith) lj (ap (λ (z : Point). under q (scale K z)) (round i) ∙ hi)
      (ap (λ (z : Point). under q (scale K z)) (ap at (next h i) ∙ round (suc i)) ∙ lo) in
      not-two a.0 b.0 (let u = a.2 in let w = b.1 in omega arith) (let u = a.1 in let w = b.2 in omega arith) (peak-at a.0 a.3 a.4) (peak-at b.0 b.3 b.4)
    where
      next : (h i : ℕ) → suc (h + i) ≡ h + suc i
      next h i = omega arith

  one-drop : (i j : ℕ) → i < boundary_length C L → j < boundary_length C L → T (drops_at i) → T (drops_at j) → i ≡ j
  one-drop i j l m s t = go (dec_lt i j) (dec_lt j i)
    where
      go : Dec (i < j) → Dec (j < i) → i ≡ j
      go (yes u) d = absurd (one-drop-after i j u m s t)
      go (no u) (yes w) = absurd (one-drop-after j i w l t s)
      go (no u) (no w) = omega arith

  boundary-least : negsuc 0 ≤ℤ boundary_crossings C L (λ v. scale K (p v)) q
  unfolding boundary_circulation
  boundary-least = sum-least (boundary_length C L) (λ i. edge_crossing L (λ v. scale K (p v)) q (hull_edge L i)) drops_at
      (λ i l. crossing-least q (scale K (at i)) (scale K (p (to L (hull_edge L i)))))
      (λ i l t. crossing-low q (scale K (at i)) (scale K (p (to L (hull_edge L i))))
      (subst (λ (b : Point). T (not (drops q (scale K (at i)) (scale K b)))) (sym (end i)) t))
      one-drop

-- THE BOUNDARY GOES ROUND ONCE
pub winds-once : {C : Counts} {L : Links} → Wf C L → {p : ℕ → Point} → OnePeak C L p → WindsOnce C L p
winds-once W one = record { once = boundary-least W one }

-- by the count
pub one-peak : {C : Counts} {L : Links} → Wf C L → {p : ℕ → Point} → peaks C L p ≤ 1 → OnePeak C L p
unfolding peaks
one-peak {C} {L} W {p} h = record { sole = λ {d} {e} ld le od oe P Q. go (boundary-all W ld od) (boundary-all W le oe) P Q }
  where
    test_of : {e : ℕ} → Peak L p e → T (peak L p e)
    test_of {e} P = and_both (upward_at L p e) (not (upward_at L p (L.next e))) P.up P.over

    go : {d e : ℕ} → On (boundary_length C L) (hull_edge L) d → On (boundary_length C L) (hull_edge L) e → Peak L p d → Peak L p e → d ≡ e
    go (i, u, a) (j, w, b) P Q =
        let same = count-sole (boundary_length C L) (λ k. peak L p (hull_edge L k)) i j h u w (subst (λ (x : ℕ). T (peak L p x)) (sym a) (test_of P)) (subst (λ (x : ℕ). T (peak L p x)) (sym b) (test_of Q)) in
        sym a ∙ ap (hull_edge L) same ∙ b
