-- Laws of specs/Fan.antt.
use Rattle.std.specs.Prelude.{◌≡◌, refl, ◌≢◌, ◌⊎◌, ℕ, suc, ◌+◌, ◌*◌, ◌<◌, ◌≤◌, pos, ◌<ℤ◌}
use Rattle.std.proofs.Common.{sym, ◌∙◌, ap, ⊎_elim, inl, inr, arith}
use Rattle.std.proofs.Math.Decide.{ℕ_discrete}
use Rattle.math.specs.declared.Point.{Point}
use Rattle.math.specs.Determinant.{orient2d}
use Rattle.mesh.specs.declared.Counts.{Counts}
use Rattle.mesh.specs.Mesh.{Links, In, to}
use Rattle.mesh.specs.Operations.{create_new_face_adjacent_to_edge, with_vertex}
use Rattle.mesh.specs.LinkRules.{LinkRules}
use Rattle.mesh.specs.Frame.{SameFace, Corners}
use Rattle.mesh.proofs.FrameLaws.{same-corners}
use Rattle.mesh.specs.NewFace.{adjacent-keeps, adjacent-frame}
use Rattle.mesh.proofs.NewFaceLaws.{new-face-is}
use Rattle.mesh.proofs.TriangleLaws.{link-outer}
use Rattle.sums.specs.Half.{rev}
use Rattle.sums.proofs.HalfLaws.{rev-rev}
use Rattle.line.specs.Chain.{Chain}
use Rattle.line.proofs.ChainLaws.{in-r, in-rev, same_ahead, same_back, same-across, prev-r}
use Rattle.line.proofs.ChainRules.{chain-rules}
use Rattle.line.specs.Fan.{Turned, Fan, Seen}

-- an old half-edge is not a new one
pub fresh : {x l n : ℕ} → x < n → n ≤ l → x ≢ l
fresh h k e = omega arith

-- the new face turns left, and the others as they did
pub turned_more : (p : ℕ → Point) (m : ℕ) {L L' : Links} {a b c : ℕ} → ((f : ℕ) → 0 < f → f < m → SameFace L L' f) → Corners L' m a b c
    → pos 0 <ℤ orient2d (p a) (p b) (p c) → ((g : ℕ) → 0 < g → g < m → Turned L p g) → (g : ℕ) → 0 < g → g < m + 1 → Turned L' p g
turned_more p m {L} {L'} {a} {b} {c} S K h T g u l = go (ℕ_discrete g m)
  where
    go : Dec (g ≡ m) → Turned L' p g
    go (yes q) = rw q (a, b, c, K, h)
    go (no n) = let k : g < m = omega arith in let t = T g u k in (t.0, t.1, t.2, same-corners (S g u k) t.3, t.4)

module _ {C₀ : Counts} {L₀ : Links} {at r : ℕ → ℕ} (K : Chain C₀ L₀ at r) where
  -- no half-edge of one direction is one of the other
  pub across : {i j : ℕ} → i < C₀.edges → j < C₀.edges → rev (r (suc i)) ≢ r (suc j)
  across {i} {j} l m e =
      let a = same-across K {i = suc j} {j = i} m (omega arith) (sym e) in
      let b = same-across K {i = suc i} {j = j} l (omega arith) (sym (rev-rev (r (suc i))) ∙ ap rev e) in omega arith

  pub same_from : {i j : ℕ} → i ≤ C₀.edges → j ≤ C₀.edges → r (suc i) ≡ r (suc j) → i ≡ j
  same_from l m e = same_back K l m (ap rev e)

module _ {C₀ : Counts} {L₀ : Links} {at r : ℕ → ℕ} (K : Chain C₀ L₀ at r) {p : ℕ → Point}
    (seen : Seen C₀ at p C₀.vertices) where
  abbrev E : ℕ
  E = C₀.edges

  -- ---- the first face
  module _ {k : ℕ} (l : k < E) where
    abbrev e₁ : ℕ
    e₁ = r (suc k)

    in-e₁ : In C₀ e₁
    in-e₁ = in-r K {i = suc k} (omega arith)

    outer-e₁ : L₀.face e₁ ≡ 0
    outer-e₁ = K.outer in-e₁

    pub fan-first : Fan C₀ L₀ at r p (with_vertex C₀) (create_new_face_adjacent_to_edge L₀ C₀ (r (suc k))) k (suc k)
        (2 * C₀.edges + 2 + 1) (2 * C₀.edges + 1)
    fan-first =
        let W = chain-rules K in
        let A = link-outer W in-e₁ outer-e₁ in
        let N = new-face-is W in-e₁ outer-e₁ in
        let F = adjacent-frame W A N in
        let pe = prev-r K {i = k} (omega arith) in
        let ne = K.next {i = suc k} l in
        let oe = K.from {i = k} (omega arith) in
        let te = K.to {i = suc k} l in
        let b = F.end-b' in let a = F.end-a' in
        record {
          rules = adjacent-keeps W A N;
          some = omega arith;
          most = l;
          vertices = refl;
          edges = omega arith;
          faces = let q = K.faces in omega arith;
          turned = turned_more p C₀.faces (λ f u m. F.others u m) F.corners-new (rw (oe, te) (seen.left l)) (λ g u m. absurd (let q = K.faces in omega arith));
          in-l = omega arith;
          in_f = omega arith;
          new-l = omega arith;
          new-f = omega arith;
          apart = omega arith;
          outer-l = F.outer-b';
          outer-f = F.outer-a';
          next-l = F.next-b';
          prev-f = F.prev-a';
          prev-l = F.prev-b' ∙ pe;
          next-f = F.next-a' ∙ ne;
          origin-l = F.origin-b' ∙ oe;
          to-l = b;
          origin-f = F.origin-a';
          to-f = a ∙ te;
          ends = λ {x} h. (F.ends h).0;
          before = λ {i} m. let h = in-r K {i = suc i} (omega arith) in (
            F.outer-rest h (K.outer h) (λ q. let z = same_from K {i = i} {j = k} (omega arith) (omega arith) q in omega arith),
            F.prev-rest h (λ q. let z = same_from K {i = i} {j = k} (omega arith) (omega arith) q in omega arith)
                (λ q. let z = same_from K {i = i} {j = suc k} (omega arith) l (q ∙ ne) in omega arith) ∙ prev-r K {i = i} (omega arith),
          );
          behind = λ {i} m u. let h = in-r K {i = suc i} (omega arith) in (
            F.outer-rest h (K.outer h) (λ q. let z = same_from K {i = i} {j = k} (omega arith) (omega arith) q in omega arith),
            F.next-rest h (λ q. let z = same_ahead K {i = suc i} {j = k} u (omega arith) (q ∙ pe) in omega arith)
                (λ q. let z = same_from K {i = i} {j = k} (omega arith) (omega arith) q in omega arith) ∙ K.next {i = suc i} u,
          );
          beneath = λ {i} u. let h = in-rev K {i = suc i} (omega arith) in F.outer-rest h (K.outer h) (across K u l);
          covered = λ {i} m u. let q : i ≡ k = omega arith in rw (q, N.face-e) (let z = K.faces in omega arith);
          apex = λ {i} m u. let q : i ≡ k = omega arith in rw (q, N.prev-e) N.origin-b;
          over = λ g u m. (k, omega arith, omega arith, N.face-e ∙ (let z = K.faces in omega arith));
          inner-l = rw (N.rev-b', N.face-b) (let z = K.faces in omega arith);
          inner-f = rw (N.rev-a', N.face-a) (let z = K.faces in omega arith);
          was = λ {x} h z. ⊎_elim (λ q. inl q) (⊎_elim (λ q. inr (inl q)) (λ q. inr (inr q.0))) (F.was h z);
        }

-- the chain's half-edges are in use
pub still : {C₀ C : Counts} {L₀ L : Links} {at r : ℕ → ℕ} {p : ℕ → Point} {lo hi l f : ℕ} (X : Fan C₀ L₀ at r p C L lo hi l f)
    {x : ℕ} → In C₀ x → In C x
still X h = let a = X.edges in let b = X.some in omega arith
