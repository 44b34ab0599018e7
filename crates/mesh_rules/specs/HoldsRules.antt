-- The sweeps' tests together are the mesh rules (`all-hold-rules`): from them the rules follow (`all-hold-wf`), and where the
-- rules hold each of them passes (`wf-..`).
-- Assumes nothing.
use Rattle.std.specs.Prelude.{◌≡◌, refl, ◌≢◌, ◌⊎◌, Bool, ◌&&◌, ◌||◌, List, [], ◌∷◌, ℕ, zero, suc, ◌+◌, ◌*◌, ◌<◌}
use Rattle.std.proofs.Common.{sym, ◌∙◌, ap, subst, inl, inr, le_refl, lt→ltb, le→leb}
use Rattle.std.proofs.Math.Bool.{not}
use Rattle.std.proofs.Math.Decide.{dec_lt}
use native.Mathlib.Omega.{arith}
use Rattle.std.proofs.Math.Dec.{T, ltb, leb, eqb, ltb→lt, eqb→eq, T_not}
use Rattle.mesh.specs.declared.Counts.{Counts}
use Rattle.mesh.specs.Mesh.{Links, In, turn}
use Rattle.mesh.proofs.CountsLaws.{halves-fit, faces-fit}
use Rattle.mesh.specs.Rules.{every, half_edge_in_use, half_edge_linked, rules}
use Rattle.mesh.proofs.RulesWf.{Each, each_of, every_of, rules-wf, wf-rules}
use Rattle.mesh.specs.Wf.{Ranges, Linked, Wf}
use Rattle.mesh.specs.WfParts.{InnerFace, OuterFace, AboutVertex}
use Rattle.mesh.proofs.WfPartsLaws.{next-inverse, turn-inverse, wf_of, inner-is, outer-is, about-is}
use Rattle.mesh_rules.specs.Holds.{half_edge_holds, vertex_holds, face_holds, inner_face_holds, outer_holds, faces_whole, vertices_whole, vertices_hold, counts_hold, all_hold}
use Rattle.sums.specs.Bit.{test-ext}
use Rattle.sums.proofs.BitLaws.{and_left, and_right, and_both, or_cases, or_left, or_right, implies→, implies←, eq_test, ne_test}
use Rattle.sums.specs.Bounded.{all_below}
use Rattle.sums.proofs.BoundedLaws.{all-below→, all-below←}
use Rattle.sums.specs.Half.{rev}
use Rattle.sums.proofs.ListedLaws.{On}
use Rattle.sums.specs.Iterate.{iter, Period, period_below}
use Rattle.sums.proofs.IterateLaws.{Reach, reach-at, reach-one, reach-two, period-is, period-three, period-unique, reach-on}
use Rattle.sums.specs.Orbits.{orbit_total, Classes}
use Rattle.sums.proofs.OrbitsLaws.{orbit-total-zero, orbit-total-suc, orbits-all, orbits-whole}

module _ (C : Counts) (L : Links) where
  abbrev E : ℕ
  E = 2 * C.edges

  -- ---- half-edges
  abbrev use_tests : ℕ → List Bool
  use_tests e = ltb (L.next e) E ∷ ltb (L.prev e) E ∷ ltb (L.face e) C.faces ∷ ltb (L.origin e) C.vertices ∷ []

  abbrev link_tests : ℕ → List Bool
  link_tests e = eqb (L.prev (L.next e)) e ∷ eqb (L.next (L.prev e)) e ∷ eqb (L.face (L.next e)) (L.face e) ∷ eqb (L.origin (L.next e)) (L.origin (rev e)) ∷ []

  -- what one half-edge's test says
  pub record Half (e : ℕ) : Type 0 where
    pub uses : Each (use_tests e)
    pub link : Each (link_tests e)
    pub side : T (ltb 0 (L.face e)) ⊎ T (ltb 0 (L.face (rev e)))

  pub half_of : (e : ℕ) → T (half_edge_holds C L e) → Half e
  unfolding half_edge_holds half_edge_in_use half_edge_linked
  half_of e h =
      let u = every (use_tests e) in
      let l = every (link_tests e) in
      let s = ltb 0 (L.face e) || ltb 0 (L.face (rev e)) in
      record {
        uses = each_of (use_tests e) (and_left u (l && s) h);
        link = each_of (link_tests e) (and_left l s (and_right u (l && s) h));
        side = or_cases (ltb 0 (L.face e)) (ltb 0 (L.face (rev e))) (and_right l s (and_right u (l && s) h));
      }

  of-half : (e : ℕ) → Half e → T (half_edge_holds C L e)
  unfolding half_edge_holds half_edge_in_use half_edge_linked
  of-half e H =
      let u = every (use_tests e) in
      let l = every (link_tests e) in
      let s = ltb 0 (L.face e) || ltb 0 (L.face (rev e)) in
      and_both u (l && s) (every_of (use_tests e) H.uses) (and_both l s (every_of (link_tests e) H.link) (or H.side))
    where
      or : T (ltb 0 (L.face e)) ⊎ T (ltb 0 (L.face (rev e))) → T (ltb 0 (L.face e) || ltb 0 (L.face (rev e)))
      or (inl t) = or_left (ltb 0 (L.face e)) (ltb 0 (L.face (rev e))) t
      or (inr t) = or_right (ltb 0 (L.face e)) (ltb 0 (L.face (rev e))) t

  linked_of : ((e : ℕ) → In C e → Half e) → Linked C L
  linked_of H = record {
    prev-next = λ {e} l. eqb→eq (L.prev (L.next e)) e (H e l).link.0;
    next-prev = λ {e} l. eqb→eq (L.next (L.prev e)) e (H e l).link.1.0;
    face-next = λ {e} l. eqb→eq (L.face (L.next e)) (L.face e) (H e l).link.1.1.0;
    origin-next = λ {e} l. eqb→eq (L.origin (L.next e)) (L.origin (rev e)) (H e l).link.1.1.1.0;
  }

  -- ---- vertices and faces
  vertex_tests : ℕ → List Bool
  vertex_tests v = ltb (L.out v) E ∷ eqb (L.origin (L.out v)) v ∷ []

  pub record Based (v : ℕ) : Type 0 where
    pub here : In C (L.out v)
    pub based : L.origin (L.out v) ≡ v

  pub based-of : (v : ℕ) → T (vertex_holds C L v) → Based v
  unfolding vertex_holds
  based-of v h =
      let a = ltb (L.out v) E in
      let b = eqb (L.origin (L.out v)) v in
      record { here = ltb→lt (L.out v) E (and_left a b h); based = eqb→eq (L.origin (L.out v)) v (and_right a b h) }

  of-based : (v : ℕ) → Based v → T (vertex_holds C L v)
  unfolding vertex_holds
  of-based v B = and_both (ltb (L.out v) E) (eqb (L.origin (L.out v)) v) (lt→ltb (L.out v) E B.here) (eq_test B.based)

  pub record Three (f : ℕ) : Type 0 where
    pub here : In C (L.adjacent f)
    pub stored : L.face (L.adjacent f) ≡ f
    pub apart : L.next (L.adjacent f) ≢ L.adjacent f
    pub back : L.next (L.next (L.next (L.adjacent f))) ≡ L.adjacent f

  pub three-of : (f : ℕ) → T (face_holds C L f) → Three f
  unfolding face_holds
  three-of f h =
      let a = L.adjacent f in
      let s = ltb a E in
      let t = eqb (L.face a) f in
      let u = not (eqb (L.next a) a) in
      let w = eqb (L.next (L.next (L.next a))) a in
      let h' = and_right s (t && (u && w)) h in
      let h'' = and_right t (u && w) h' in
      record {
        here = ltb→lt a E (and_left s (t && (u && w)) h);
        stored = eqb→eq (L.face a) f (and_left t (u && w) h');
        apart = λ p. T_not (eqb (L.next a) a) (and_left u w h'') (eq_test p);
        back = eqb→eq (L.next (L.next (L.next a))) a (and_right u w h'');
      }

  of_three : (f : ℕ) → Three f → T (face_holds C L f)
  unfolding face_holds
  of_three f H =
      let a = L.adjacent f in
      let s = ltb a E in
      let t = eqb (L.face a) f in
      let u = not (eqb (L.next a) a) in
      let w = eqb (L.next (L.next (L.next a))) a in
      and_both s (t && (u && w)) (lt→ltb a E H.here) (and_both t (u && w) (eq_test H.stored) (and_both u w (ne_test H.apart) (eq_test H.back)))

  pub record Wide : Type 0 where
    pub here : In C (L.adjacent 0)
    pub stored : L.face (L.adjacent 0) ≡ 0
    pub apart : L.next (L.adjacent 0) ≢ L.adjacent 0
    pub wide : L.next (L.next (L.adjacent 0)) ≢ L.adjacent 0

  pub wide_of : T (outer_holds C L) → Wide
  unfolding outer_holds
  wide_of h =
      let a = L.adjacent 0 in
      let s = ltb a E in
      let t = eqb (L.face a) 0 in
      let u = not (eqb (L.next a) a) in
      let w = not (eqb (L.next (L.next a)) a) in
      let h' = and_right s (t && (u && w)) h in
      let h'' = and_right t (u && w) h' in
      record {
        here = ltb→lt a E (and_left s (t && (u && w)) h);
        stored = eqb→eq (L.face a) 0 (and_left t (u && w) h');
        apart = λ p. T_not (eqb (L.next a) a) (and_left u w h'') (eq_test p);
        wide = λ p. T_not (eqb (L.next (L.next a)) a) (and_right u w h'') (eq_test p);
      }

  of-wide : Wide → T (outer_holds C L)
  unfolding outer_holds
  of-wide H =
      let a = L.adjacent 0 in
      let s = ltb a E in
      let t = eqb (L.face a) 0 in
      let u = not (eqb (L.next a) a) in
      let w = not (eqb (L.next (L.next a)) a) in
      and_both s (t && (u && w)) (lt→ltb a E H.here) (and_both t (u && w) (eq_test H.stored) (and_both u w (ne_test H.apart) (ne_test H.wide)))

  -- ---- what the counts of half-edges come to
  module _ (R : Ranges C L) (K : Linked C L) where
    origin-turn : (e : ℕ) → In C e → L.origin (turn L e) ≡ L.origin e
    origin-turn e l = sym (K.origin-next (R.prev< l)) ∙ ap L.origin (K.next-prev l)

    pub vertex-classes : ((v : ℕ) → v < C.vertices → L.origin (L.out v) ≡ v)
        → Classes E C.vertices (turn L) (λ e. L.next (rev e)) L.origin L.out
    vertex-classes B = record { permutes = turn-inverse C L R K; keeps = origin-turn; known = λ e l. R.origin< l; chosen = λ v l. R.out< l; of = B }

    face-classes : ((f : ℕ) → f < C.faces → L.face (L.adjacent f) ≡ f) → Classes E C.faces L.next L.prev L.face L.adjacent
    face-classes S = record { permutes = next-inverse C L R K; keeps = λ e l. K.face-next l; known = λ e l. R.face< l; chosen = λ f l. R.adjacent< l; of = S }

    -- the first face has the boundary's length, each further one three
    face-total : ((f : ℕ) → f < C.faces → 0 < f → Period L.next (L.adjacent f) 3) → (m : ℕ) → m < C.faces
        → orbit_total E L.next L.adjacent (suc m) ≡ period_below E L.next (L.adjacent 0) + 3 * m
    face-total P zero l = let a = orbit-total-suc E L.next L.adjacent 0 in let z = orbit-total-zero E L.next L.adjacent in omega arith
    face-total P (suc m) l =
        let i = face-total P m (omega arith) in
        let a = orbit-total-suc E L.next L.adjacent (suc m) in
        let p = period-unique (period-is (next-inverse C L R K) (R.adjacent< l)) (P (suc m) l (omega arith)) in
        omega arith

    -- the sum that the code compares is the total of the faces' orbits
    pub faces-total : ((f : ℕ) → f < C.faces → 0 < f → Period L.next (L.adjacent f) 3) → 0 < C.faces
        → orbit_total E L.next L.adjacent C.faces + 3 ≡ period_below E L.next (L.adjacent 0) + 3 * C.faces
    faces-total P some = go C.faces refl some
      where
        go : (m : ℕ) → m ≡ C.faces → 0 < m → orbit_total E L.next L.adjacent m + 3 ≡ period_below E L.next (L.adjacent 0) + 3 * m
        go zero q l = absurd (omega arith)
        go (suc m) q l = let t = face-total P m (omega arith) in omega arith

  -- ---- the theorem: from the tests to the rules
  module _ (H : (e : ℕ) → In C e → Half e) (B : (v : ℕ) → v < C.vertices → Based v) (O : Wide)
      (T3 : (f : ℕ) → f < C.faces → 0 < f → Three f) (some : 0 < C.faces) where
    here : (f : ℕ) → f < C.faces → Dec (0 < f) → In C (L.adjacent f)
    here f l (yes p) = (T3 f l p).here
    here f l (no p) = subst (λ (g : ℕ). In C (L.adjacent g)) (none f p) O.here
      where
        none : (f : ℕ) → ¬ (0 < f) → 0 ≡ f
        none f p = omega arith

    stored : (f : ℕ) → f < C.faces → Dec (0 < f) → L.face (L.adjacent f) ≡ f
    stored f l (yes p) = (T3 f l p).stored
    stored f l (no p) = subst (λ (g : ℕ). L.face (L.adjacent g) ≡ g) (none f p) O.stored
      where
        none : (f : ℕ) → ¬ (0 < f) → 0 ≡ f
        none f p = omega arith

    pub swept-ranges : Ranges C L
    swept-ranges = record {
      next< = λ {e} l. ltb→lt (L.next e) E (H e l).uses.0;
      prev< = λ {e} l. ltb→lt (L.prev e) E (H e l).uses.1.0;
      face< = λ {e} l. ltb→lt (L.face e) C.faces (H e l).uses.1.1.0;
      origin< = λ {e} l. ltb→lt (L.origin e) C.vertices (H e l).uses.1.1.1.0;
      adjacent< = λ {f} l. here f l (dec_lt 0 f);
      out< = λ {v} l. (B v l).here;
    }

    pub swept-linked : Linked C L
    swept-linked = linked_of H

    three-period : (f : ℕ) → f < C.faces → 0 < f → Period L.next (L.adjacent f) 3
    three-period f l p = period-three (T3 f l p).back (T3 f l p).apart

    side : (e : ℕ) → In C e → L.face e ≡ 0 → 0 < L.face (rev e)
    side e l p = go (H e l).side
      where
        go : T (ltb 0 (L.face e)) ⊎ T (ltb 0 (L.face (rev e))) → 0 < L.face (rev e)
        go (inl t) = absurd (let q = ltb→lt 0 (L.face e) t in omega arith)
        go (inr t) = ltb→lt 0 (L.face (rev e)) t

    pub all-hold-wf : T (faces_whole C L) → T (vertices_whole C L) → C.vertices + C.faces ≡ C.edges + 2 → Wf C L
    unfolding faces_whole vertices_whole
    all-hold-wf f w euler = wf_of C L R K outer inner side about euler some
      where
        R : Ranges C L
        R = swept-ranges

        K : Linked C L
        K = swept-linked

        -- every half-edge is met from its face's stored one
        met : (e : ℕ) → In C e → Reach L.next (L.adjacent (L.face e)) e
        met =
            let t = faces-total R K three-period some in
            let q = eqb→eq (period_below E L.next (L.adjacent 0) + 3 * C.faces) (E + 3) f in
            orbits-whole (face-classes R K (λ f l. stored f l (dec_lt 0 f))) (omega arith)

        outer : OuterFace C L
        outer = record { stored = O.stored; apart = O.apart; wide = O.wide; all = λ e l p. subst (λ (g : ℕ). Reach L.next (L.adjacent g) e) p (met e l) }

        inner : (f : ℕ) → f < C.faces → 0 < f → InnerFace C L f
        inner f l p = record {
          stored = (T3 f l p).stored;
          apart = (T3 f l p).apart;
          back = (T3 f l p).back;
          all = λ e m q. among e (reach-on (next-inverse C L R K) (T3 f l p).here (three-period f l p) (subst (λ (g : ℕ). Reach L.next (L.adjacent g) e) q (met e m)));
        }
          where
            among : (e : ℕ) → On 3 (λ k. iter k L.next (L.adjacent f)) e
                → (e ≡ L.adjacent f) ⊎ (e ≡ L.next (L.adjacent f)) ⊎ (e ≡ L.next (L.next (L.adjacent f)))
            among e (zero, u, s) = inl (sym s)
            among e (suc zero, u, s) = inr (inl (sym s))
            among e (suc (suc zero), u, s) = inr (inr (sym s))
            among e (suc (suc (suc k)), u, s) = absurd (omega arith)

        about : (v : ℕ) → v < C.vertices → AboutVertex C L v
        about v l = record {
          based = (B v l).based;
          all = λ e m q. subst (λ (w : ℕ). Reach (turn L) (L.out w) e) q
              (orbits-whole (vertex-classes R K (λ v l. (B v l).based)) (eqb→eq (orbit_total E (turn L) L.out C.vertices) E w) e m);
        }

  -- ---- and back: where the rules hold each test passes
  module _ (W : Wf C L) where
    pub wf-half : (e : ℕ) → In C e → T (half_edge_holds C L e)
    wf-half e l = of-half e (record {
      uses = (
        lt→ltb (L.next e) E (W.ranges.next< l),
        (
          lt→ltb (L.prev e) E (W.ranges.prev< l),
          (lt→ltb (L.face e) C.faces (W.ranges.face< l), (lt→ltb (L.origin e) C.vertices (W.ranges.origin< l), tt)),
        ),
      );
      link = (eq_test (W.links.prev-next l), (eq_test (W.links.next-prev l), (eq_test (W.links.face-next l), (eq_test (W.links.origin-next l), tt))));
      side = sides (dec_lt 0 (L.face e));
    })
      where
        sides : Dec (0 < L.face e) → T (ltb 0 (L.face e)) ⊎ T (ltb 0 (L.face (rev e)))
        sides (yes p) = inl (lt→ltb 0 (L.face e) p)
        sides (no p) = inr (lt→ltb 0 (L.face (rev e)) (W.faces.side l (omega arith)))

    pub wf-vertex : (v : ℕ) → v < C.vertices → T (vertex_holds C L v)
    wf-vertex v l = of-based v (record { here = W.ranges.out< l; based = W.about.based l })

    pub wf-face : (f : ℕ) → f < C.faces → 0 < f → T (face_holds C L f)
    wf-face f l p =
        let I = inner-is C L W f l p in
        of_three f (record { here = W.ranges.adjacent< l; stored = I.stored; apart = I.apart; back = I.back })

    pub wf-outer : T (outer_holds C L)
    wf-outer =
        let I = outer-is C L W in
        of-wide (record { here = W.ranges.adjacent< W.some; stored = I.stored; apart = I.apart; wide = I.wide })

    pub wf-faces-whole : T (faces_whole C L)
    unfolding faces_whole
    wf-faces-whole =
        let R = W.ranges in
        let K = W.links in
        let period : (f : ℕ) → f < C.faces → 0 < f → Period L.next (L.adjacent f) 3 =
        λ f l p. period-three (inner-is C L W f l p).back (inner-is C L W f l p).apart in
        let t = faces-total R K period W.some in
        let q = orbits-all (face-classes R K (λ f l. W.faces.stored l)) (λ e l. met e l (dec_lt 0 (L.face e))) in
        eq_test (total (orbit_total E L.next L.adjacent C.faces) (period_below E L.next (L.adjacent 0) + 3 * C.faces) E t q)
      where
        total : (a b n : ℕ) → a + 3 ≡ b → a ≡ n → b ≡ n + 3
        total a b n p q = omega arith

        met : (e : ℕ) → In C e → Dec (0 < L.face e) → Reach L.next (L.adjacent (L.face e)) e
        met e l (yes p) = among (W.faces.inner l p)
          where
            among : (e ≡ L.adjacent (L.face e)) ⊎ (e ≡ L.next (L.adjacent (L.face e))) ⊎
                (e ≡ L.prev (L.adjacent (L.face e))) → Reach L.next (L.adjacent (L.face e)) e
            among (inl q) = reach-at (sym q)
            among (inr (inl q)) = reach-one (sym q)
            among (inr (inr q)) = reach-two (W.faces.three (W.ranges.adjacent< (W.ranges.face< l)) (let s = W.faces.stored (W.ranges.face< l) in omega arith) ∙ sym q)
        met e l (no p) =
            let z : L.face e ≡ 0 = omega arith in
            rw z ((outer-is C L W).all e l z)

    pub wf-vertices-whole : T (vertices_whole C L)
    unfolding vertices_whole
    wf-vertices-whole = eq_test (orbits-all (vertex-classes W.ranges W.links (λ v l. W.about.based l)) (λ e l.
        (about-is C L W (L.origin e) (W.ranges.origin< l)).all e l refl))

  -- ---- the sweeps answer what the rules say
  from-all-hold : T (all_hold C L) → T (rules C L)
  unfolding all_hold counts_hold vertices_hold inner_face_holds
  from-all-hold h =
      let whole = vertices_whole C L in
      let based = all_below C.vertices (vertex_holds C L) in
      let inner = all_below C.faces (inner_face_holds C L) in
      let some = ltb 0 C.faces in
      let euler = eqb (C.vertices + C.faces) (C.edges + 2) in
      let fit = leb C.edges (3 * C.vertices) && leb C.faces (2 * C.vertices) in
      let halves = all_below E (half_edge_holds C L) in
      let r₄ = inner && (based && whole) in
      let r₃ = faces_whole C L && r₄ in
      let r₂ = outer_holds C L && r₃ in
      let hc = and_left (counts_hold C) (halves && r₂) h in
      let h₁ = and_right (counts_hold C) (halves && r₂) h in
      let h₂ = and_right halves r₂ h₁ in
      let h₃ = and_right (outer_holds C L) r₃ h₂ in
      let h₄ = and_right (faces_whole C L) r₄ h₃ in
      let h₅ = and_right inner (based && whole) h₄ in
      wf-rules C L (all-hold-wf
      (λ e l. half_of e (all-below→ E (half_edge_holds C L) (and_left halves r₂ h₁) e l))
      (λ v l. based-of v (all-below→ C.vertices (vertex_holds C L) (and_left based whole h₅) v l))
      (wide_of (and_left (outer_holds C L) r₃ h₂))
      (λ f l p. three-of f (implies→ (ltb 0 f) (face_holds C L f) (all-below→ C.faces (inner_face_holds C L) (and_left inner (based && whole) h₄) f l) (lt→ltb 0 f p)))
      (ltb→lt 0 C.faces (and_left some (euler && fit) hc))
      (and_left (faces_whole C L) r₄ h₃)
      (and_right based whole h₅)
      (eqb→eq (C.vertices + C.faces) (C.edges + 2) (and_left euler fit (and_right some (euler && fit) hc))))

  to-all-hold : T (rules C L) → T (all_hold C L)
  unfolding all_hold counts_hold vertices_hold inner_face_holds
  to-all-hold r =
      let W = rules-wf C L r in
      let whole = vertices_whole C L in
      let based = all_below C.vertices (vertex_holds C L) in
      let inner = all_below C.faces (inner_face_holds C L) in
      let halves = all_below E (half_edge_holds C L) in
      let fh = halves-fit W (le_refl C.vertices) in
      let ff = faces-fit W (le_refl C.vertices) in
      let e₁ = leb C.edges (3 * C.vertices) in
      let e₂ = leb C.faces (2 * C.vertices) in
      let euler = eqb (C.vertices + C.faces) (C.edges + 2) in
      let r₄ = inner && (based && whole) in
      let r₃ = faces_whole C L && r₄ in
      let r₂ = outer_holds C L && r₃ in
      and_both (counts_hold C) (halves && r₂)
      (and_both (ltb 0 C.faces) (euler && (e₁ && e₂)) (lt→ltb 0 C.faces W.some) (and_both euler (e₁ && e₂) (eq_test W.euler)
      (and_both e₁ e₂ (le→leb C.edges (3 * C.vertices) (omega arith)) (le→leb C.faces (2 * C.vertices) (omega arith)))))
      (and_both halves r₂ (all-below← E (half_edge_holds C L) (wf-half W))
      (and_both (outer_holds C L) r₃ (wf-outer W)
      (and_both (faces_whole C L) r₄ (wf-faces-whole W)
      (and_both inner (based && whole) (all-below← C.faces (inner_face_holds C L) (λ f l. implies← (ltb 0 f) (face_holds C L f) (λ t. wf-face W f l (ltb→lt 0 f t))))
      (and_both based whole (all-below← C.vertices (vertex_holds C L) (wf-vertex W)) (wf-vertices-whole W))))))

  pub all-hold-rules : all_hold C L ≡ rules C L
  all-hold-rules = test-ext (all_hold C L) (rules C L) from-all-hold to-all-hold
