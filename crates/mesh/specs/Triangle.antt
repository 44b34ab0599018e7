-- The three half-edges of an inner face, and four half-edges of the outer face, each after the one before. The laws whose
-- names begin with `link` need the links' rules alone. Assumes nothing.
use Rattle.std.specs.Prelude.{ℕ, ◌<◌, ◌≡◌, refl, ◌≢◌, ◌⊎◌}
use Rattle.std.proofs.Common.{sym, ◌∙◌, ⊎_elim, inl, inr}
use Rattle.mesh.specs.declared.Counts.{Counts}
use Rattle.mesh.specs.Mesh.{Links, In, to}
use Rattle.mesh.specs.LinkRules.{LinkRules}
use Rattle.mesh.specs.LinkRulesWf.{link-rules}
use Rattle.mesh.specs.Wf.{Wf}
use Rattle.sums.specs.Half.{rev}
use Rattle.sums.proofs.HalfLaws.{rev-rev, rev-ne, rev-below}

pub rev-in : (C : Counts) {e : ℕ} → In C e → In C (rev e)
rev-in C h = rev-below C.edges h

-- a, b and c are the half-edges of one cycle of three, in their order
pub record Triangle (C : Counts) (L : Links) (a b c : ℕ) : Type 0 where
  pub in-a : In C a
  pub in_b : In C b
  pub in_c : In C c
  pub next-a : L.next a ≡ b
  pub next-b : L.next b ≡ c
  pub next-c : L.next c ≡ a
  pub prev-a : L.prev a ≡ c
  pub prev-b : L.prev b ≡ a
  pub prev-c : L.prev c ≡ b
  pub face-b : L.face b ≡ L.face a
  pub face-c : L.face c ≡ L.face a
  pub to-a : to L a ≡ L.origin b
  pub to-b : to L b ≡ L.origin c
  pub to-c : to L c ≡ L.origin a

module _ {C : Counts} {L : Links} (W : LinkRules C L) where
  pub link-triangle : {x : ℕ} → In C x → 0 < L.face x → Triangle C L x (L.next x) (L.prev x)
  link-triangle {x} h f =
      let nx = W.ranges.next< h in
      let px = W.ranges.prev< h in
      let nn = W.faces.three h f in
      let np = W.links.next-prev h in
      let fp = W.links.face-next px in
      let op = W.links.origin-next px in
      record {
        in-a = h;
        in_b = nx;
        in_c = px;
        next-a = refl;
        next-b = nn;
        next-c = np;
        prev-a = refl;
        prev-b = W.links.prev-next h;
        prev-c = cc (W.links.prev-next nx, nn);
        face-b = W.links.face-next h;
        face-c = cc;
        to-a = sym (W.links.origin-next h);
        to-b = cc (W.links.origin-next nx);
        to-c = cc;
      }

module _ {C : Counts} {L : Links} (W : Wf C L) where
  pub triangle : {x : ℕ} → In C x → 0 < L.face x → Triangle C L x (L.next x) (L.prev x)
  triangle = link-triangle (link-rules W)

  -- two half-edges of one inner face
  pub same-face : {x y : ℕ} → In C x → In C y → 0 < L.face x → L.face x ≡ L.face y
      → (y ≡ x) ⊎ (y ≡ L.next x) ⊎ (y ≡ L.prev x)
  same-face {x} {y} h k f p = go T (W.faces.inner h f) (rw (← p) at (W.faces.inner k (rw p at f)))
    where
      a : ℕ
      a = L.adjacent (L.face x)

      T : Triangle C L a (L.next a) (L.prev a)
      T = triangle (W.ranges.adjacent< (W.ranges.face< h)) (rw (W.faces.stored (W.ranges.face< h)) f)

      go : Triangle C L a (L.next a) (L.prev a) → (x ≡ a) ⊎ (x ≡ L.next a) ⊎ (x ≡ L.prev a)
          → (y ≡ a) ⊎ (y ≡ L.next a) ⊎ (y ≡ L.prev a)
          → (y ≡ x) ⊎ (y ≡ L.next x) ⊎ (y ≡ L.prev x)
      go t (inl q) (inl r) = inl (cc)
      go t (inl q) (inr (inl r)) = inr (inl (cc))
      go t (inl q) (inr (inr r)) = inr (inr (cc))
      go t (inr (inl q)) (inl r) = inr (inr (cc))
      go t (inr (inl q)) (inr (inl r)) = inl (cc)
      go t (inr (inl q)) (inr (inr r)) = inr (inl (cc))
      go t (inr (inr q)) (inl r) = inr (inl (cc))
      go t (inr (inr q)) (inr (inl r)) = inr (inr (cc))
      go t (inr (inr q)) (inr (inr r)) = inl (cc)

  -- an inner edge has two faces, if no side of its face joins a vertex to itself
  pub two-faces : {e : ℕ} → In C e → 0 < L.face e → ((x : ℕ) → In C x → L.face x ≡ L.face e → L.origin x ≢ L.origin (L.next x))
      → L.face e ≢ L.face (rev e)
  two-faces {e} h f d p =
      let A = triangle h f in
      let r = rev-rev e in
      ⊎_elim (rev-ne e) (⊎_elim (λ q. d _ A.in_c A.face-c (cc)) (λ q. d _ A.in_b A.face-b (cc)))
      (same-face h (rev-in C h) f p)

-- p, e, n and q are half-edges of the outer face, each the next of the one before
pub record Outer (C : Counts) (L : Links) (p e n q : ℕ) : Type 0 where
  pub in_p : In C p
  pub in_e : In C e
  pub in-n : In C n
  pub in-q : In C q
  pub next-p : L.next p ≡ e
  pub next-e : L.next e ≡ n
  pub next-n : L.next n ≡ q
  pub prev-e : L.prev e ≡ p
  pub prev-n : L.prev n ≡ e
  pub prev-q : L.prev q ≡ n
  pub face-p : L.face p ≡ 0
  pub face-e : L.face e ≡ 0
  pub face-n : L.face n ≡ 0
  pub face-q : L.face q ≡ 0
  pub to-p : to L p ≡ L.origin e
  pub to-e : to L e ≡ L.origin n
  pub to-n : to L n ≡ L.origin q

-- each differs from its next
module _ {C : Counts} {L : Links} {p e n q : ℕ} (W : LinkRules C L) (A : Outer C L p e n q) where
  pub link-p-e : p ≢ e
  link-p-e k = W.faces.apart A.in_p (cc)

  pub link-e-n : e ≢ n
  link-e-n k = W.faces.apart A.in_e (cc)

  pub link-n-q : n ≢ q
  link-n-q k = W.faces.apart A.in-n (cc)
