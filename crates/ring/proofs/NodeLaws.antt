-- Laws of specs/Node.antt.
use Rattle.std.specs.Prelude.{◌≡◌, ◌≢◌, Bool, []}
use Rattle.std.proofs.Math.Path.{refl, sym, ap, ap₂, subst}
use Rattle.std.proofs.Common.{◌∙◌, suc-add, zero-add}
use Rattle.std.proofs.Math.Bool.{true, false}
use Prim.Native.Nat.{ℕ, zero, suc, ◌+◌, ◌<◌, ◌≤◌}
use native.Mathlib.Omega.{arith}
use Rattle.std.proofs.Math.Dec.{T}
use Rattle.ring.specs.Ring.{at_ends, proper}
use Rattle.ring.proofs.SegmentsLaws.{proper?}
use Rattle.sums.specs.Bit.{bit}
use Rattle.sums.proofs.BitLaws.{Tells}
use Rattle.sums.specs.Iterate.{iter}
use Rattle.sums.proofs.IterateLaws.{iter-add, iter-ext}
use Rattle.sums.specs.Tally.{tally, walk}
use Rattle.sums.proofs.TallyLaws.{tally-before, tally-ext, walk-ext}
use Rattle.ring.specs.Node.{NodeTable, nodes, Match, Kept}

module _ (next α : ℕ → ℕ) (τ : NodeTable) where
  -- parts
  pub match-split : (h k e s : ℕ) → Match next α τ (h + k) e s
      → Match next α τ h e s
      × Match next α τ k (iter h next e) (iter (nodes next α h e) τ.right s)
  unfolding Match walk tally
  match-split zero k e s M = (tt, subst (λ (i : ℕ). Match next α τ i e s) (zero-add k) M)
  match-split (suc h) k e s M =
      let W = subst (λ (i : ℕ). Match next α τ i e s) (suc-add h k) M in
      let r = match-split h k (next e) (iter (bit (at_ends proper next α e)) τ.right s) W.1 in
      ((W.0, r.0), subst (Match next α τ k (iter h next (next e))) (sym (iter-add (bit (at_ends proper next α e)) (nodes next α h (next e)) τ.right s)) r.1)

  pub match-join : (h k e s : ℕ) → Match next α τ h e s
      → Match next α τ k (iter h next e) (iter (nodes next α h e) τ.right s)
      → Match next α τ (h + k) e s
  unfolding Match walk tally
  match-join zero k e s M R = subst (λ (i : ℕ). Match next α τ i e s) (sym (zero-add k)) R
  match-join (suc h) k e s M R =
      subst (λ (i : ℕ). Match next α τ i e s) (sym (suc-add h k)) (
        M.0,
        match-join h k (next e) (iter (bit (at_ends proper next α e)) τ.right s) M.1
            (subst (Match next α τ k (iter h next (next e))) (iter-add (bit (at_ends proper next α e)) (nodes next α h (next e)) τ.right s) R),
      )

  -- the angle that the edges and the nodes begin with is one, if that is so where they end
  pub begins : (h e s : ℕ) → Match next α τ h e s
      → α (iter h next e) ≡ τ.angle (iter (nodes next α h e) τ.right s) → α e ≡ τ.angle s
  unfolding Match walk tally
  begins zero e s M d = d
  begins (suc h) e s M d =
      go (at_ends proper next α e) (proper? (α e) (α (next e))) M.0
      (begins h (next e) (iter (bit (at_ends proper next α e)) τ.right s) M.1 (d ∙ ap τ.angle (iter-add (bit (at_ends proper next α e)) (nodes next α h (next e)) τ.right s)))
    where
      go : (t : Bool) → Tells t (α e ≢ α (next e)) (α e ≡ α (next e)) → (T t → (τ.edge s ≡ e) × (τ.angle s ≡ α e))
          → α (next e) ≡ τ.angle (iter (bit t) τ.right s) → α e ≡ τ.angle s
      go true A m i = sym (m tt).1
      go false A m i = A.1 tt ∙ i

  -- or if there is a node at all
  pub begins-node : (h e s : ℕ) → Match next α τ h e s → 0 < nodes next α h e → α e ≡ τ.angle s
  unfolding Match walk tally
  begins-node zero e s M d = absurd (omega arith)
  begins-node (suc h) e s M d =
      go (at_ends proper next α e) (proper? (α e) (α (next e))) M.0 (λ (s' : ℕ). begins-node h (next e) s') M.1 d
    where
      go : (t : Bool) → Tells t (α e ≢ α (next e)) (α e ≡ α (next e)) → (T t → (τ.edge s ≡ e) × (τ.angle s ≡ α e))
          → ((s' : ℕ) → Match next α τ h (next e) s' → 0 < nodes next α h (next e) → α (next e) ≡ τ.angle s')
          → Match next α τ h (next e) (iter (bit t) τ.right s) → 0 < bit t + nodes next α h (next e) → α e ≡ τ.angle s
      go true A m i M d = sym (m tt).1
      go false A m i M d = A.1 tt ∙ i s M (omega arith)

  -- COUNTS: a test that no segment from a to a passes is passed by as many nodes as edges
  pub match-tally : (φ : ℕ → ℕ → Bool) → ((a : ℕ) → bit (φ a a) ≡ 0) → (h e s : ℕ)
      → Match next α τ h e s → α (iter h next e) ≡ τ.angle (iter (nodes next α h e) τ.right s)
      → tally (at_ends φ next α) (walk h next e) ≡ tally (at_ends φ τ.right τ.angle) (walk (nodes next α h e) τ.right s)
  unfolding Match walk tally
  match-tally φ null zero e s M d = refl
  match-tally φ null (suc h) e s M d =
      let s' = iter (bit (at_ends proper next α e)) τ.right s in
      let d' : α (iter h next (next e)) ≡ τ.angle (iter (nodes next α h (next e)) τ.right s') = d
      ∙ ap τ.angle (iter-add (bit (at_ends proper next α e)) (nodes next α h (next e)) τ.right s) in
      go (at_ends proper next α e) (proper? (α e) (α (next e))) M.0 (begins h (next e) s' M.1 d')
      (match-tally φ null h (next e) s' M.1 d')
    where
      go : (t : Bool) → Tells t (α e ≢ α (next e)) (α e ≡ α (next e)) → (T t → (τ.edge s ≡ e) × (τ.angle s ≡ α e))
          → α (next e) ≡ τ.angle (iter (bit t) τ.right s)
          → tally (at_ends φ next α) (walk h next (next e))
          ≡ tally (at_ends φ τ.right τ.angle) (walk (nodes next α h (next e)) τ.right (iter (bit t) τ.right s))
          → bit (at_ends φ next α e) + tally (at_ends φ next α) (walk h next (next e))
          ≡ tally (at_ends φ τ.right τ.angle) (walk (bit t + nodes next α h (next e)) τ.right s)
      go true A m b i =
          ap₂ (λ (x y : ℕ). x + y) (ap₂ (λ (x y : ℕ). bit (φ x y)) (sym (m tt).1) b) i
          ∙ ap (λ (k : ℕ). tally (at_ends φ τ.right τ.angle) (walk k τ.right s)) (sym (one (nodes next α h (next e))))
        where
          one : (k : ℕ) → 1 + k ≡ suc k
          one k = omega arith
      go false A m b i =
          ap (λ (x : ℕ). bit (φ (α e) x) + tally (at_ends φ next α) (walk h next (next e))) (sym (A.1 tt))
          ∙ ap₂ (λ (x y : ℕ). x + y) (null (α e)) i
          ∙ nil (tally (at_ends φ τ.right τ.angle) (walk (nodes next α h (next e)) τ.right s))
          ∙ ap (λ (k : ℕ). tally (at_ends φ τ.right τ.angle) (walk k τ.right s)) (sym (nil (nodes next α h (next e))))
        where
          nil : (k : ℕ) → 0 + k ≡ k
          nil k = omega arith

  -- place by place: the proper edge k steps on has the node as many steps on as there are proper edges before it
  unfoldable pub Stands : ℕ → ℕ → ℕ → Type 0
  Stands h e s =
      (k : ℕ) → k < h → T (at_ends proper next α (iter k next e))
      → (let x = iter (nodes next α k e) τ.right s in (τ.edge x ≡ iter k next e) × (τ.angle x ≡ α (iter k next e)))

  pub match-at : (h e s : ℕ) → Match next α τ h e s → Stands h e s
  unfolding Match walk tally Stands
  match-at zero e s M k l t = absurd (omega arith)
  match-at (suc h) e s M zero l t = M.0 t
  match-at (suc h) e s M (suc k) l t =
      let s' = iter (bit (at_ends proper next α e)) τ.right s in
      let r = match-at h (next e) s' M.1 k (omega arith) t in
      let c = iter-add (bit (at_ends proper next α e)) (nodes next α k (next e)) τ.right s in
      (ap τ.edge c ∙ r.0, ap τ.angle c ∙ r.1)

  pub match-of : (h e s : ℕ) → Stands h e s → Match next α τ h e s
  unfolding Match walk tally Stands
  match-of zero e s A = tt
  match-of (suc h) e s A =
      (λ t. A zero (omega arith) t, match-of h (next e) (iter (bit (at_ends proper next α e)) τ.right s) (λ k l t. back k (A (suc k) (omega arith) t)))
    where
      back : (k : ℕ)
          → (τ.edge (iter (bit (at_ends proper next α e) + nodes next α k (next e)) τ.right s) ≡ iter k next (next e))
          ×
          (τ.angle (iter (bit (at_ends proper next α e) + nodes next α k (next e)) τ.right s) ≡ α (iter k next (next e)))
          → (τ.edge (iter (nodes next α k (next e)) τ.right (iter (bit (at_ends proper next α e)) τ.right s)) ≡ iter k next (next e))
          ×
          (τ.angle (iter (nodes next α k (next e)) τ.right (iter (bit (at_ends proper next α e)) τ.right s)) ≡ α (iter k next (next e)))
      back k r =
          let c = iter-add (bit (at_ends proper next α e)) (nodes next α k (next e)) τ.right s in
          (ap τ.edge (sym c) ∙ r.0, ap τ.angle (sym c) ∙ r.1)

module _ {next α next' α' : ℕ → ℕ} {τ τ' : NodeTable} {n r t : ℕ}
    (K : Kept next α τ next' α' τ' n r t) where
  kept-after : (k : ℕ) → k < n → iter k next' r ≡ iter k next r
  kept-after k l = iter-ext next next' k r (λ j m. K.step j (omega arith))

  kept-arc : (φ : ℕ → ℕ → Bool) (k : ℕ) → k < n → at_ends φ next' α' (iter k next r) ≡ at_ends φ next α (iter k next r)
  kept-arc φ k l = ap₂ φ (K.from k l) (K.to k l)

  pub kept-tally : (φ : ℕ → ℕ → Bool) (k : ℕ) → k ≤ n → tally (at_ends φ next' α') (walk k next' r) ≡ tally (at_ends φ next α) (walk k next r)
  kept-tally φ k l =
      ap (tally (at_ends φ next' α')) (walk-ext next next' k r (λ j m. K.step j (omega arith)))
      ∙ tally-ext (at_ends φ next α) (at_ends φ next' α') next k r (λ j m. kept-arc φ j (omega arith))

  pub kept-match : Match next α τ n r t → Match next' α' τ' n r t
  unfolding Stands
  kept-match M = match-of next' α' τ' n r t (λ k l u. there k l (subst (λ (y : ℕ). T (at_ends proper next' α' y)) (kept-after k l) u))
    where
      there : (k : ℕ) → k < n → T (at_ends proper next' α' (iter k next r))
          → (τ'.edge (iter (nodes next' α' k r) τ'.right t) ≡ iter k next' r)
          × (τ'.angle (iter (nodes next' α' k r) τ'.right t) ≡ α' (iter k next' r))
      there k l u =
          let u' : T (at_ends proper next α (iter k next r)) = subst T (kept-arc proper k l) u in
          let b = tally-before (at_ends proper next α) next n r k l u' in
          let c : iter (nodes next' α' k r) τ'.right t ≡ iter (nodes next α k r) τ.right t =
          ap (λ (i : ℕ). iter i τ'.right t) (kept-tally proper k (omega arith))
          ∙ iter-ext τ.right τ'.right (nodes next α k r) t (λ j m. K.right-same j (omega arith)) in
          let w = match-at next α τ n r t M k l u' in (
            ap τ'.edge c ∙ K.edge_same (nodes next α k r) b ∙ w.0 ∙ sym (kept-after k l),
            ap τ'.angle c ∙ K.angle-same (nodes next α k r) b ∙ w.1 ∙ sym (K.from k l) ∙ ap α' (sym (kept-after k l)),
          )
