-- Laws of specs/WfParts.antt.
use Rattle.std.specs.Prelude.{◌≡◌, refl, ◌≢◌, ◌⊎◌, Bool, true, false, not, ◌&&◌, ◌||◌, List, [], ◌∷◌, ℕ, zero, suc, ◌+◌, ◌*◌, ◌/◌, ◌%◌, ◌<◌, ◌≤◌, T, ltb, eqb}
use Rattle.std.proofs.Common.{sym, ◌∙◌, ap, subst, inl, inr, arith, ltb→lt, lt→ltb, eqb→eq, T_not}
use Rattle.std.proofs.Math.Decide.{ℕ_discrete, dec_lt}
use Rattle.mesh.specs.declared.Counts.{Counts}
use Rattle.mesh.specs.Mesh.{Links, In, turn}
use Rattle.mesh.specs.Rules.{half_edge_in_use, links_in_use, half_edge_linked, inner_face_rule, outer_face_rule, side_rule, vertex_rule, euler_rule, rules, every}
use Rattle.mesh.specs.Wf.{Ranges, Linked, Faces, Vertices, Wf}
use Rattle.sums.specs.Bit.{implies}
use Rattle.sums.proofs.BitLaws.{implies→, implies←, eq_test, ne_test, and_left, and_right, and_both, or_cases, or_left, or_right}
use Rattle.sums.specs.Bounded.{all_below}
use Rattle.sums.proofs.BoundedLaws.{all-below→, all-below←}
use Rattle.sums.specs.Half.{rev}
use Rattle.sums.proofs.HalfLaws.{rev-rev, rev-below, rev-even, rev-odd, rev-inverse}
use Rattle.sums.specs.Iterate.{Inverse, reaches}
use Rattle.sums.proofs.IterateLaws.{Reach, iter-inj, iter-last, reaches-reach, reach-reaches, reach-sym, reach-trans, inverse-then, inverse-sym}
use Rattle.mesh.specs.WfParts.{InnerFace, OuterFace, AboutVertex}

module _ (C : Counts) (L : Links) where
  pub next-inverse : Ranges C L → Linked C L → Inverse (2 * C.edges) L.next L.prev
  next-inverse R K = record { there = λ e l. R.next< l; here = λ e l. R.prev< l; gf = λ e l. K.prev-next l; fg = λ e l. K.next-prev l }

  pub turn-inverse : Ranges C L → Linked C L → Inverse (2 * C.edges) (turn L) (λ e. L.next (rev e))
  turn-inverse R K = inverse-then (inverse-sym (next-inverse R K)) (rev-inverse C.edges)

  module _ (R : Ranges C L) (K : Linked C L) (O : OuterFace C L) (some : 0 < C.faces)
      (I : (f : ℕ) → f < C.faces → 0 < f → InnerFace C L f) where
    cube : (e : ℕ) → In C e → 0 < L.face e → L.next (L.next (L.next e)) ≡ e
    cube e l p = let J = I (L.face e) (R.face< l) p in go J (J.all e l refl)
      where
        go : InnerFace C L (L.face e)
            → (e ≡ L.adjacent (L.face e)) ⊎ (e ≡ L.next (L.adjacent (L.face e))) ⊎
            (e ≡ L.next (L.next (L.adjacent (L.face e)))) → L.next (L.next (L.next e)) ≡ e
        go J (inl q) = let b = J.back in cc
        go J (inr (inl q)) = let b = J.back in cc
        go J (inr (inr q)) = let b = J.back in cc

    abbrev turning : Inverse (2 * C.edges) L.next L.prev
    turning = next-inverse R K

    home : In C (L.adjacent 0)
    home = R.adjacent< some

    -- an outer half-edge is met from the stored one, so what no step does there it does nowhere on the cycle
    shifted : (e : ℕ) → Reach L.next (L.adjacent 0) e → L.next e ≡ e → L.next (L.adjacent 0) ≡ L.adjacent 0
    shifted e (k, q) p = iter-inj turning k (R.next< home) home
        (iter-last k L.next (L.adjacent 0) ∙ ap L.next q ∙ p ∙ sym q)

    shifted-two : (e : ℕ) → Reach L.next (L.adjacent 0) e → L.next (L.next e) ≡ e → L.next (L.next (L.adjacent 0)) ≡ L.adjacent 0
    shifted-two e (k, q) p = iter-inj turning k (R.next< (R.next< home)) home
        (iter-last k L.next (L.next (L.adjacent 0)) ∙ ap L.next (iter-last k L.next (L.adjacent 0) ∙ ap L.next q) ∙ p ∙ sym q)

    inner-apart : (e : ℕ) → In C e → 0 < L.face e → L.next e ≢ e
    inner-apart e l p m = let J = I (L.face e) (R.face< l) p in go J (J.all e l refl)
      where
        go : InnerFace C L (L.face e)
            → (e ≡ L.adjacent (L.face e)) ⊎ (e ≡ L.next (L.adjacent (L.face e))) ⊎
            (e ≡ L.next (L.next (L.adjacent (L.face e)))) → ⊥
        go J (inl q) = let n = J.apart in n (cc)
        go J (inr (inl q)) = let n = J.apart in let b = J.back in n (cc)
        go J (inr (inr q)) = let n = J.apart in let b = J.back in n (cc)

    apart-at : (e : ℕ) → In C e → Dec (0 < L.face e) → L.next e ≢ e
    apart-at e l (yes p) = inner-apart e l p
    apart-at e l (no p) = λ m. O.apart (shifted e (O.all e l (omega arith)) m)

    inner-at : (e : ℕ) → In C e → 0 < L.face e
        → (e ≡ L.adjacent (L.face e)) ⊎ (e ≡ L.next (L.adjacent (L.face e))) ⊎ (e ≡ L.prev (L.adjacent (L.face e)))
    inner-at e l p = let J = I (L.face e) (R.face< l) p in go J (J.all e l refl)
      where
        go : InnerFace C L (L.face e)
            → (e ≡ L.adjacent (L.face e)) ⊎ (e ≡ L.next (L.adjacent (L.face e))) ⊎
            (e ≡ L.next (L.next (L.adjacent (L.face e))))
            → (e ≡ L.adjacent (L.face e)) ⊎ (e ≡ L.next (L.adjacent (L.face e))) ⊎ (e ≡ L.prev (L.adjacent (L.face e)))
        go J (inl q) = inl q
        go J (inr (inl q)) = inr (inl q)
        go J (inr (inr q)) =
            let b = J.back in
            let m = K.prev-next (R.next< (R.next< (R.adjacent< (R.face< l)))) in
            inr (inr (cc))

    stored_at : (f : ℕ) → f < C.faces → Dec (0 < f) → L.face (L.adjacent f) ≡ f
    stored_at f l (yes p) = (I f l p).stored
    stored_at f l (no p) = subst (λ (g : ℕ). L.face (L.adjacent g) ≡ g) (none f p) O.stored
      where
        none : (f : ℕ) → ¬ (0 < f) → 0 ≡ f
        none f p = omega arith

    faces-of : ((e : ℕ) → In C e → L.face e ≡ 0 → 0 < L.face (rev e)) → Faces C L
    faces-of h = record {
      stored = λ {f} l. stored_at f l (dec_lt 0 f);
      three = λ {e} l p. sym (K.prev-next (R.next< (R.next< l))) ∙ ap L.prev (cube e l p);
      apart = λ {e} l. apart-at e l (dec_lt 0 (L.face e));
      inner = λ {e} l p. inner-at e l p;
      outer = λ {d} {e} k l p q. reach-trans (reach-sym turning home (O.all d k p)) (O.all e l q);
      wide = λ {e} l p m. O.wide (shifted-two e (O.all e l p) m);
      side = λ {e} l p. h e l p;
    }

    vertices-of : ((v : ℕ) → v < C.vertices → AboutVertex C L v) → Vertices C L
    vertices-of A = record {
      based = λ {v} l. (A v l).based;
      round = λ {d} {e} k l p. meet d e k l p;
    }
      where
        from : (e : ℕ) → In C e → (v : ℕ) → v < C.vertices → L.origin e ≡ v → Reach (turn L) (L.out v) e
        from e l v m q = (A v m).all e l q

        meet : (d e : ℕ) → In C d → In C e → L.origin d ≡ L.origin e → Reach (turn L) d e
        meet d e k l p =
            let m = R.origin< l in
            reach-trans (reach-sym (turn-inverse R K) (R.out< m) (from d k (L.origin e) m p)) (from e l (L.origin e) m refl)

  -- ---- the mesh rules from those of each face and vertex
  pub wf_of : Ranges C L → Linked C L → OuterFace C L → ((f : ℕ) → f < C.faces → 0 < f → InnerFace C L f)
      → ((e : ℕ) → In C e → L.face e ≡ 0 → 0 < L.face (rev e))
      → ((v : ℕ) → v < C.vertices → AboutVertex C L v) → C.vertices + C.faces ≡ C.edges + 2 → 0 < C.faces → Wf C L
  wf_of R K O I S A euler some =
      record { ranges = R; links = K; faces = faces-of R K O some I S; about = vertices-of R K O some I A; euler = euler; some = some }

  -- ---- and back
  module _ (W : Wf C L) where
    pub inner-is : (f : ℕ) → f < C.faces → 0 < f → InnerFace C L f
    inner-is f l p =
        let a = W.ranges.adjacent< l in
        let s = W.faces.stored l in
        let q : 0 < L.face (L.adjacent f) = omega arith in
        let t = W.faces.three a q in
        record {
          stored = s;
          apart = W.faces.apart a;
          back = ap L.next t ∙ W.links.next-prev a;
          all = λ e m r. go e r t (W.faces.inner m (omega arith));
        }
      where
        go : (e : ℕ) → L.face e ≡ f → L.next (L.next (L.adjacent f)) ≡ L.prev (L.adjacent f)
            → (e ≡ L.adjacent (L.face e)) ⊎ (e ≡ L.next (L.adjacent (L.face e))) ⊎ (e ≡ L.prev (L.adjacent (L.face e)))
            → (e ≡ L.adjacent f) ⊎ (e ≡ L.next (L.adjacent f)) ⊎ (e ≡ L.next (L.next (L.adjacent f)))
        go e r t (inl q) = inl (cc)
        go e r t (inr (inl q)) = inr (inl (cc))
        go e r t (inr (inr q)) = inr (inr (cc))

    pub outer-is : OuterFace C L
    outer-is =
        let a = W.ranges.adjacent< W.some in
        let s = W.faces.stored W.some in
        record {
          stored = s;
          apart = W.faces.apart a;
          wide = W.faces.wide a s;
          all = λ e l p. W.faces.outer a l s p;
        }

    pub about-is : (v : ℕ) → v < C.vertices → AboutVertex C L v
    about-is v l =
        let a = W.ranges.out< l in
        let b = W.about.based l in
        record { based = b; all = λ e m p. W.about.round a m (b ∙ sym p) }
