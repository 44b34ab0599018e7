-- One face more of the fan over a line, on its left and on its right. Assumes nothing.
use Rattle.std.specs.Prelude.{◌≡◌, ◌≢◌, ◌⊎◌, ℕ, suc, ◌+◌, ◌*◌, ◌<◌, ◌≤◌, ℤ, pos, ◌<ℤ◌}
use Rattle.std.proofs.Common.{sym, ◌∙◌, ap, subst, ⊎_elim, inl, inr, arith}
use Rattle.std.proofs.Math.Decide.{ℕ_discrete}
use Rattle.math.specs.declared.Point.{Point}
use Rattle.math.proofs.Plane.{orient2d-next}
use Rattle.mesh.specs.declared.Counts.{Counts}
use Rattle.mesh.specs.Mesh.{Links, In, to}
use Rattle.mesh.specs.Operations.{create_single_face_between_edge_and_next, with_face}
use Rattle.mesh.specs.SingleFace.{between-keeps, between-frame}
use Rattle.mesh.proofs.SingleFaceLaws.{single-face-is}
use Rattle.mesh.specs.Triangle.{rev-in}
use Rattle.mesh.proofs.TriangleLaws.{link-outer}
use Rattle.sums.specs.Half.{rev}
use Rattle.line.specs.Chain.{Chain}
use Rattle.line.proofs.ChainLaws.{in-r, in-rev, same_ahead}
use Rattle.line.specs.Fan.{Fan, Seen}
use Rattle.line.proofs.FanLaws.{fresh, turned_more, across, same_from, still}

module _ {C₀ : Counts} {L₀ : Links} {at r : ℕ → ℕ} (K : Chain C₀ L₀ at r) {p : ℕ → Point}
    (seen : Seen C₀ at p C₀.vertices) where
  abbrev E : ℕ
  E = C₀.edges

  abbrev w : ℕ
  w = C₀.vertices

  module _ {C : Counts} {L : Links} {lo hi l f : ℕ} (X : Fan C₀ L₀ at r p C L lo hi l f) where
    in-now : {i : ℕ} → i ≤ suc E → In C (r i)
    in-now m = still X (in-r K m)

    back-now : {i : ℕ} → i ≤ suc E → In C (rev (r i))
    back-now m = still X (in-rev K m)

    not-l : {i : ℕ} → i ≤ suc E → r i ≢ l
    not-l m = fresh (in-r K m) X.new-l

    not_f : {i : ℕ} → i ≤ suc E → r i ≢ f
    not_f m = fresh (in-r K m) X.new-f

    in-rev-l : In C (rev l)
    in-rev-l = rev-in C X.in-l

    in-rev-f : In C (rev f)
    in-rev-f = rev-in C X.in_f

    new-more : 2 * E ≤ 2 * C.edges + 1
    new-more = let a = X.edges in let b = X.some in omega arith

  -- to the left: the face between r lo and l
  module _ {C : Counts} {L : Links} {lo hi l f : ℕ} (X : Fan C₀ L₀ at r p C L (suc lo) hi l f) where
    abbrev e₂ : ℕ
    e₂ = r (suc lo)

    lo< : lo < E
    lo< = let a = X.some in let b = X.most in omega arith

    in-e₂ : In C e₂
    in-e₂ = in-now X {i = suc lo} (let a = lo< in omega arith)

    outer-e₂ : L.face e₂ ≡ 0
    outer-e₂ = (X.before {i = lo} (omega arith)).0

    prev-e₂ : L.prev e₂ ≡ r lo
    prev-e₂ = (X.before {i = lo} (omega arith)).1

    next-e₂ : L.next e₂ ≡ l
    next-e₂ = let a = X.prev-l in let b = X.rules.links.next-prev X.in-l in cc

    pub fan-left : Fan C₀ L₀ at r p (with_face C) (create_single_face_between_edge_and_next L C (r (suc lo))) lo hi (2 * C.edges + 1) f
    fan-left =
        let W = X.rules in
        let pe = prev-e₂ in let ne = next-e₂ in let nl = X.next-l in
        let lE = lo< in
        let a1 : L.prev e₂ ≢ L.next e₂ = (λ q. not-l X {i = lo} (omega arith) (cc)) in
        let a2 : e₂ ≢ L.next (L.next e₂) = (λ q. not_f X {i = suc lo} (omega arith) (cc)) in
        let a3 : L.prev e₂ ≢ L.next (L.next e₂) = (λ q. not_f X {i = lo} (omega arith) (cc)) in
        let A = link-outer W in-e₂ outer-e₂ in
        let N = single-face-is W in-e₂ outer-e₂ a1 a2 a3 in
        let F = between-frame W A N a1 a2 a3 in
        let oe = X.ends (in-r K {i = suc lo} (omega arith)) ∙ K.from {i = lo} (omega arith) in
        let ol = X.origin-l in let tl = X.to-l in
        let ef_e = F.ends X.in_f in
        record {
          rules = between-keeps W A N a1 a2 a3;
          some = let a = X.some in omega arith;
          most = X.most;
          vertices = X.vertices;
          edges = let a = X.edges in omega arith;
          faces = let a = X.faces in omega arith;
          turned = turned_more p C.faces (λ g u m. F.others u m) F.corners-new
              (rw (ne, tl, oe, ol) (subst (λ (z : ℤ). pos 0 <ℤ z) (sym (orient2d-next (p w) (p (at lo)) (p (at (suc lo))))) (seen.left lE))) X.turned;
          in-l = omega arith;
          in_f = let a = X.in_f in omega arith;
          new-l = new-more X;
          new-f = X.new-f;
          apart = let a = X.in_f in omega arith;
          outer-l = F.outer-o;
          outer-f = F.outer-rest X.in_f X.outer-f (λ q. not_f X {i = suc lo} (omega arith) (sym q)) (λ q. X.apart (cc));
          next-l = F.next-o ∙ ap L.next ne ∙ nl;
          prev-f = let a = F.prev-q in cc;
          prev-l = F.prev-o ∙ pe;
          next-f = F.next-rest X.in_f (λ q. not_f X {i = lo} (omega arith) (cc)) (λ q. X.apart (cc)) ∙ X.next-f;
          origin-l = F.origin-o ∙ oe;
          to-l = let a = F.end-o in cc;
          origin-f = ef_e.0 ∙ X.origin-f;
          to-f = ef_e.1 ∙ X.to-f;
          ends = λ {x} h. (F.ends (still X h)).0 ∙ X.ends h;
          before = λ {i} m. let h = in-now X {i = suc i} (omega arith) in let b = X.before {i = i} (omega arith) in (
            F.outer-rest h b.0 (λ q. let z = same_from K {i = i} {j = lo} (omega arith) (omega arith) q in omega arith)
                (λ q. not-l X {i = suc i} (omega arith) (q ∙ ne)),
            F.prev-rest h (λ q. let z = same_from K {i = i} {j = lo} (omega arith) (omega arith) q in omega arith)
                (λ q. not_f X {i = suc i} (omega arith) (cc)) ∙ b.1,
          );
          behind = λ {i} m u. let h = in-now X {i = suc i} (omega arith) in let b = X.behind m u in let s = X.some in (
            F.outer-rest h b.0 (λ q. let z = same_from K {i = i} {j = lo} (omega arith) (omega arith) q in omega arith)
                (λ q. not-l X {i = suc i} (omega arith) (q ∙ ne)),
            F.next-rest h (λ q. let z = same_ahead K {i = suc i} {j = lo} u (omega arith) (q ∙ pe) in omega arith)
                (λ q. not-l X {i = suc i} (omega arith) (q ∙ ne)) ∙ b.1,
          );
          beneath = λ {i} u. F.outer-rest (back-now X {i = suc i} (omega arith)) (X.beneath u) (across K u lE)
              (λ q. fresh (in-rev K {i = suc i} (omega arith)) X.new-l (q ∙ ne));
          covered = λ {i} m u. cover i m u (ℕ_discrete i lo) N.face-e (λ g. (F.inner (r (suc i)) (in-now X {i = suc i} (let b = X.most in omega arith)) g).face);
          apex = λ {i} m u. top i m u (ℕ_discrete i lo) (ap L'.origin N.prev-e ∙ N.origin-i ∙ ap (to L) ne ∙ tl)
              (λ g. ap L'.origin (F.inner (r (suc i)) (in-now X {i = suc i} (let b = X.most in omega arith)) g).prev
              ∙ (F.ends (W.ranges.prev< (in-now X {i = suc i} (let b = X.most in omega arith)))).0);
          over = λ g u m. above g u (ℕ_discrete g C.faces) m N.face-e
              (λ i v c. (F.inner (r (suc i)) (in-now X {i = suc i} (let b = X.most in omega arith)) c).face);
          inner-l = rw (N.o-i, N.face-i) W.some;
          inner-f = rw (F.inner (rev f) (in-rev-f X) X.inner-f).face X.inner-f;
          was = λ {x} h z. ⊎_elim (λ q. inl q) (λ q. old x q ne (X.was q.0 q.1)) (F.was h z);
        }
      where
        L' : Links
        L' = create_single_face_between_edge_and_next L C (r (suc lo))

        cover : (i : ℕ) → lo ≤ i → i < hi → Dec (i ≡ lo) → L'.face (r (suc lo)) ≡ C.faces
            → (0 < L.face (r (suc i)) → L'.face (r (suc i)) ≡ L.face (r (suc i))) → 0 < L'.face (r (suc i))
        cover i m u (yes q) n k = rw (q, n) X.rules.some
        cover i m u (no q) n k = let c = X.covered {i = i} (omega arith) u in rw (k c) c

        top : (i : ℕ) → lo ≤ i → i < hi → Dec (i ≡ lo) → L'.origin (L'.prev (r (suc lo))) ≡ w
            → (0 < L.face (r (suc i)) → L'.origin (L'.prev (r (suc i))) ≡ L.origin (L.prev (r (suc i))))
            → L'.origin (L'.prev (r (suc i))) ≡ w
        top i m u (yes q) n k = rw q n
        top i m u (no q) n k = k (X.covered {i = i} (omega arith) u) ∙ X.apex {i = i} (omega arith) u

        above : (g : ℕ) → 0 < g → Dec (g ≡ C.faces) → g < C.faces + 1 → L'.face (r (suc lo)) ≡ C.faces
            → ((i : ℕ) → i < hi → 0 < L.face (r (suc i)) → L'.face (r (suc i)) ≡ L.face (r (suc i)))
            → (i : ℕ) × (lo ≤ i) × (i < hi) × (L'.face (r (suc i)) ≡ g)
        above g u (yes q) m n k = (lo, omega arith, (let s = X.some in omega arith), n ∙ sym q)
        above g u (no q) m n k = let t = X.over g u (omega arith) in
            (t.0, (let a = t.1 in omega arith), t.2, k t.0 t.2 (X.covered t.1 t.2) ∙ t.3)

        old : (x : ℕ) → In C x × (L.face x ≡ 0) × (x ≢ r (suc lo)) × (x ≢ L.next (r (suc lo))) → L.next (r (suc lo)) ≡ l
            → (x ≡ l) ⊎ (x ≡ f) ⊎ In C₀ x → (x ≡ 2 * C.edges + 1) ⊎ (x ≡ f) ⊎ In C₀ x
        old x q n (inl e) = absurd (q.3 (e ∙ sym n))
        old x q n (inr e) = inr e

  -- to the right: the face between f and r (hi + 1)
  module _ {C : Counts} {L : Links} {lo hi l f : ℕ} (X : Fan C₀ L₀ at r p C L lo hi l f) (hi< : hi < E) where
    pub fan-right : Fan C₀ L₀ at r p (with_face C) (create_single_face_between_edge_and_next L C f) lo (suc hi) l (2 * C.edges + 1)
    fan-right =
        let W = X.rules in
        let pe = X.prev-f in let ne = X.next-f in
        let b = X.behind {i = hi} (omega arith) hi< in
        let nn = b.1 in
        let a1 : L.prev f ≢ L.next f = (λ q. not-l X {i = suc hi} (omega arith) (cc)) in
        let a2 : f ≢ L.next (L.next f) = (λ q. not_f X {i = suc (suc hi)} (omega arith) (cc)) in
        let a3 : L.prev f ≢ L.next (L.next f) = (λ q. not-l X {i = suc (suc hi)} (omega arith) (cc)) in
        let A = link-outer W X.in_f X.outer-f in
        let N = single-face-is W X.in_f X.outer-f a1 a2 a3 in
        let F = between-frame W A N a1 a2 a3 in
        let on = X.ends (in-r K {i = suc hi} (omega arith)) ∙ K.from {i = hi} (omega arith) in
        let tn = X.ends (in-rev K {i = suc hi} (omega arith)) ∙ K.to {i = suc hi} hi< in
        let of = X.origin-f in
        let el_e = F.ends X.in-l in
        let back : L.prev (r (suc hi)) ≡ f = ap L.prev (sym ne) ∙ W.links.prev-next X.in_f in
        record {
          rules = between-keeps W A N a1 a2 a3;
          some = let a = X.some in omega arith;
          most = hi<;
          vertices = X.vertices;
          edges = let a = X.edges in omega arith;
          faces = let a = X.faces in omega arith;
          turned = turned_more p C.faces (λ g u m. F.others u m) F.corners-new
              (rw (ne, tn, on, of) (subst (λ (z : ℤ). pos 0 <ℤ z) (orient2d-next (p (at hi)) (p (at (suc hi))) (p w)) (seen.left hi<))) X.turned;
          in-l = let a = X.in-l in omega arith;
          in_f = omega arith;
          new-l = X.new-l;
          new-f = new-more X;
          apart = let a = X.in-l in omega arith;
          outer-l = F.outer-rest X.in-l X.outer-l X.apart (λ q. not-l X {i = suc hi} (omega arith) (sym (q ∙ ne)));
          outer-f = F.outer-o;
          next-l = let a = F.next-p in cc;
          prev-f = F.prev-o ∙ pe;
          prev-l = F.prev-rest X.in-l X.apart (λ q. not-l X {i = suc (suc hi)} (omega arith) (cc)) ∙ X.prev-l;
          next-f = F.next-o ∙ ap L.next ne ∙ nn;
          origin-l = el_e.0 ∙ X.origin-l;
          to-l = el_e.1 ∙ X.to-l;
          origin-f = F.origin-o ∙ of;
          to-f = let a = F.end-o in cc;
          ends = λ {x} h. (F.ends (still X h)).0 ∙ X.ends h;
          before = λ {i} m. let h = in-now X {i = suc i} (let s = X.some in omega arith) in let b = X.before m in let s = X.some in (
            F.outer-rest h b.0 (not_f X {i = suc i} (omega arith))
                (λ q. let z = same_from K {i = i} {j = hi} (omega arith) (omega arith) (q ∙ ne) in omega arith),
            F.prev-rest h (not_f X {i = suc i} (omega arith))
                (λ q. let z = same_from K {i = i} {j = suc hi} (omega arith) hi< (cc) in omega arith) ∙ b.1,
          );
          behind = λ {i} m u. let h = in-now X {i = suc i} (omega arith) in let b = X.behind {i = i} (omega arith) u in (
            F.outer-rest h b.0 (not_f X {i = suc i} (omega arith))
                (λ q. let z = same_from K {i = i} {j = hi} (omega arith) (omega arith) (q ∙ ne) in omega arith),
            F.next-rest h (λ q. not-l X {i = suc i} (omega arith) (q ∙ pe))
                (λ q. let z = same_from K {i = i} {j = hi} (omega arith) (omega arith) (q ∙ ne) in omega arith) ∙ b.1,
          );
          beneath = λ {i} u. F.outer-rest (back-now X {i = suc i} (omega arith)) (X.beneath u)
              (fresh (in-rev K {i = suc i} (omega arith)) X.new-f) (λ q. across K u hi< (q ∙ ne));
          covered = λ {i} m u. cover i m u (ℕ_discrete i hi) (ap L'.face (sym ne) ∙ N.face-n) (λ g. (F.inner (r (suc i)) (in-now X {i = suc i} (omega arith)) g).face);
          apex = λ {i} m u. top i m u (ℕ_discrete i hi)
              (ap L'.origin (F.prev-rest (in-now X {i = suc hi} (omega arith)) (not_f X {i = suc hi} (omega arith))
              (λ q. let z = same_from K {i = hi} {j = suc hi} (omega arith) hi< (cc) in omega arith) ∙ back) ∙ (F.ends X.in_f).0 ∙ of)
              (λ g. ap L'.origin (F.inner (r (suc i)) (in-now X {i = suc i} (omega arith)) g).prev
              ∙ (F.ends (W.ranges.prev< (in-now X {i = suc i} (omega arith)))).0);
          over = λ g u m. above g u (ℕ_discrete g C.faces) m (ap L'.face (sym ne) ∙ N.face-n)
              (λ i v c. (F.inner (r (suc i)) (in-now X {i = suc i} (omega arith)) c).face);
          inner-l = rw (F.inner (rev l) (in-rev-l X) X.inner-l).face X.inner-l;
          inner-f = rw (N.o-i, N.face-i) W.some;
          was = λ {x} h z. ⊎_elim (λ q. inr (inl q)) (λ q. old x q (X.was q.0 q.1)) (F.was h z);
        }
      where
        L' : Links
        L' = create_single_face_between_edge_and_next L C f

        cover : (i : ℕ) → lo ≤ i → i < suc hi → Dec (i ≡ hi) → L'.face (r (suc hi)) ≡ C.faces
            → (0 < L.face (r (suc i)) → L'.face (r (suc i)) ≡ L.face (r (suc i))) → 0 < L'.face (r (suc i))
        cover i m u (yes q) n k = rw (q, n) X.rules.some
        cover i m u (no q) n k = let c = X.covered {i = i} m (omega arith) in rw (k c) c

        top : (i : ℕ) → lo ≤ i → i < suc hi → Dec (i ≡ hi) → L'.origin (L'.prev (r (suc hi))) ≡ w
            → (0 < L.face (r (suc i)) → L'.origin (L'.prev (r (suc i))) ≡ L.origin (L.prev (r (suc i))))
            → L'.origin (L'.prev (r (suc i))) ≡ w
        top i m u (yes q) n k = rw q n
        top i m u (no q) n k = k (X.covered {i = i} m (omega arith)) ∙ X.apex {i = i} m (omega arith)

        above : (g : ℕ) → 0 < g → Dec (g ≡ C.faces) → g < C.faces + 1 → L'.face (r (suc hi)) ≡ C.faces
            → ((i : ℕ) → i < hi → 0 < L.face (r (suc i)) → L'.face (r (suc i)) ≡ L.face (r (suc i)))
            → (i : ℕ) × (lo ≤ i) × (i < suc hi) × (L'.face (r (suc i)) ≡ g)
        above g u (yes q) m n k = (hi, (let s = X.some in omega arith), omega arith, n ∙ sym q)
        above g u (no q) m n k = let t = X.over g u (omega arith) in
            (t.0, t.1, (let a = t.2 in omega arith), k t.0 t.2 (X.covered t.1 t.2) ∙ t.3)

        old : (x : ℕ) → In C x × (L.face x ≡ 0) × (x ≢ f) × (x ≢ L.next f)
            → (x ≡ l) ⊎ (x ≡ f) ⊎ In C₀ x → (x ≡ l) ⊎ (x ≡ 2 * C.edges + 1) ⊎ In C₀ x
        old x q (inl e) = inl e
        old x q (inr (inl e)) = absurd (q.2 e)
        old x q (inr (inr e)) = inr (inr e)
