-- The mesh rules as tests, `rules` of `Rules`, agree with the mesh rules as facts, `Wf`. Assumes nothing.
use Rattle.std.specs.Prelude.{◌≡◌, refl, ◌≢◌, ◌⊎◌, Bool, true, false, not, ◌&&◌, ◌||◌, List, [], ◌∷◌, ℕ, zero, suc, ◌+◌, ◌*◌, ◌/◌, ◌%◌, ◌<◌, ◌≤◌}
use Rattle.std.proofs.Common.{sym, ◌∙◌, subst, inl, inr}
use Rattle.std.proofs.Math.Path.{ap}
use Rattle.std.proofs.Math.Decide.{ℕ_discrete, dec_lt}
use native.Mathlib.Omega.{arith}
use Rattle.std.proofs.Math.Dec.{T, ltb, eqb, ltb→lt, lt→ltb, eqb→eq, T_not}
use Rattle.mesh.specs.declared.Counts.{Counts}
use Rattle.mesh.specs.Mesh.{Links, In, turn}
use Rattle.mesh.specs.Rules.{half_edge_in_use, links_in_use, half_edge_linked, inner_face_rule, outer_face_rule, side_rule, vertex_rule, euler_rule, rule_tests, rules, every}
use Rattle.mesh.specs.WfParts.{InnerFace, OuterFace, AboutVertex}
use Rattle.mesh.proofs.WfPartsLaws.{next-inverse, turn-inverse, wf_of, inner-is, outer-is, about-is}
use Rattle.mesh.specs.Wf.{Ranges, Linked, Faces, Vertices, Wf}
use Rattle.sums.specs.Bit.{implies}
use Rattle.sums.proofs.BitLaws.{implies→, implies←, eq_test, ne_test, and_left, and_right, and_both, or_cases, or_left, or_right}
use Rattle.sums.specs.Bounded.{all_below}
use Rattle.sums.proofs.BoundedLaws.{all-below→, all-below←}
use Rattle.sums.specs.Half.{rev}
use Rattle.sums.proofs.HalfLaws.{rev-rev, rev-below, rev-even, rev-odd, rev-inverse}
use Rattle.sums.specs.Iterate.{Inverse, reaches}
use Rattle.sums.proofs.IterateLaws.{Reach, iter-inj, iter-last, reaches-reach, reach-reaches, reach-sym, reach-trans, inverse-then, inverse-sym}

-- ---- a list of tests passes just where each does
abbrev pub Each : List Bool → Type 0
Each [] = Unit
Each (a ∷ l) = T a × Each l

pub each_of : (l : List Bool) → T (every l) → Each l
each_of [] h = tt
each_of (a ∷ l) h = (and_left a (every l) h, each_of l (and_right a (every l) h))

pub every_of : (l : List Bool) → Each l → T (every l)
every_of [] h = tt
every_of (a ∷ l) h = and_both a (every l) h.0 (every_of l h.1)

even-or-odd : (e : ℕ) → (e ≡ 2 * (e / 2)) ⊎ (e ≡ 2 * (e / 2) + 1)
even-or-odd e = go (ℕ_discrete (e % 2) 0)
  where
    go : Dec (e % 2 ≡ 0) → (e ≡ 2 * (e / 2)) ⊎ (e ≡ 2 * (e / 2) + 1)
    go (yes p) = inl (omega arith)
    go (no p) = inr (omega arith)

module _ (C : Counts) (L : Links) where
  abbrev E : ℕ
  E = 2 * C.edges

  -- ---- every link names something in use
  half-parts : (e : ℕ) → T (half_edge_in_use C L e)
      → Each
      (ltb (L.next e) E ∷ ltb (L.prev e) E ∷ ltb (L.face e) C.faces ∷ ltb (L.origin e) C.vertices ∷ [])
  unfolding half_edge_in_use
  half-parts e h = each_of (ltb (L.next e) E ∷ ltb (L.prev e) E ∷ ltb (L.face e) C.faces ∷ ltb (L.origin e) C.vertices ∷ []) h

  use-parts : T (links_in_use C L)
      → Each (all_below E (half_edge_in_use C L) ∷ all_below C.faces (λ f. ltb (L.adjacent f) E) ∷ all_below
      C.vertices (λ v. ltb (L.out v) E) ∷ [])
  unfolding links_in_use
  use-parts h = each_of (all_below E (half_edge_in_use C L) ∷ all_below C.faces (λ f. ltb (L.adjacent f) E) ∷ all_below C.vertices (λ v. ltb (L.out v) E) ∷ []) h

  in_use : T (links_in_use C L) → Ranges C L
  in_use h =
      let u = use-parts h in
      let half : (e : ℕ) → e < E → Each (ltb (L.next e) E ∷ ltb (L.prev e) E ∷ ltb (L.face e) C.faces ∷ ltb (L.origin e) C.vertices ∷ []) =
      λ e l. half-parts e (all-below→ E (half_edge_in_use C L) u.0 e l) in
      record {
        next< = λ {e} l. ltb→lt (L.next e) E (half e l).0;
        prev< = λ {e} l. ltb→lt (L.prev e) E (half e l).1.0;
        face< = λ {e} l. ltb→lt (L.face e) C.faces (half e l).1.1.0;
        origin< = λ {e} l. ltb→lt (L.origin e) C.vertices (half e l).1.1.1.0;
        adjacent< = λ {f} l. ltb→lt (L.adjacent f) E (all-below→ C.faces (λ f. ltb (L.adjacent f) E) u.1.0 f l);
        out< = λ {v} l. ltb→lt (L.out v) E (all-below→ C.vertices (λ v. ltb (L.out v) E) u.1.1.0 v l);
      }

  used : Ranges C L → T (links_in_use C L)
  unfolding links_in_use half_edge_in_use
  used R = every_of (all_below E (half_edge_in_use C L) ∷ all_below C.faces (λ f. ltb (L.adjacent f) E) ∷ all_below C.vertices (λ v. ltb (L.out v) E) ∷ []) (
    all-below← E (half_edge_in_use C L) (λ e l. every_of (ltb (L.next e) E ∷ ltb (L.prev e) E ∷ ltb (L.face e) C.faces ∷ ltb (L.origin e) C.vertices ∷ [])
        (lt→ltb (L.next e) E (R.next< l), (lt→ltb (L.prev e) E (R.prev< l), (lt→ltb (L.face e) C.faces (R.face< l), (lt→ltb (L.origin e) C.vertices (R.origin< l), tt))))),
    (
      all-below← C.faces (λ f. ltb (L.adjacent f) E) (λ f l. lt→ltb (L.adjacent f) E (R.adjacent< l)),
      (all-below← C.vertices (λ v. ltb (L.out v) E) (λ v l. lt→ltb (L.out v) E (R.out< l)), tt),
    ),
  )

  -- ---- next and prev

  -- ---- next, prev, face and origin
  abbrev linked_tests : ℕ → List Bool
  linked_tests e = eqb (L.prev (L.next e)) e ∷ eqb (L.next (L.prev e)) e ∷ eqb (L.face (L.next e)) (L.face e) ∷ eqb (L.origin (L.next e)) (L.origin (rev e)) ∷ []

  linked : T (all_below E (half_edge_linked L)) → Linked C L
  unfolding half_edge_linked
  linked h =
      let at : (e : ℕ) → e < E → Each (linked_tests e) = λ e l. each_of (linked_tests e) (all-below→ E (half_edge_linked L) h e l) in
      record {
        prev-next = λ {e} l. eqb→eq (L.prev (L.next e)) e (at e l).0;
        next-prev = λ {e} l. eqb→eq (L.next (L.prev e)) e (at e l).1.0;
        face-next = λ {e} l. eqb→eq (L.face (L.next e)) (L.face e) (at e l).1.1.0;
        origin-next = λ {e} l. eqb→eq (L.origin (L.next e)) (L.origin (rev e)) (at e l).1.1.1.0;
      }

  links : Linked C L → T (all_below E (half_edge_linked L))
  unfolding half_edge_linked
  links K = all-below← E (half_edge_linked L) (λ e l. every_of (linked_tests e)
      (eq_test (K.prev-next l), (eq_test (K.next-prev l), (eq_test (K.face-next l), (eq_test (K.origin-next l), tt)))))

  -- ---- inner faces
  abbrev inner_tests : ℕ → List Bool
  inner_tests f =
      let a = L.adjacent f in
      let b = L.next a in
      let c = L.next b in
      eqb (L.face a) f ∷ not (eqb b a) ∷ eqb (L.next c) a ∷ all_below E (λ e. implies (eqb (L.face e) f) (eqb e a || (eqb e b || eqb e c))) ∷ []

  three-cases : (p q r : Bool) {A B D : Type 0} → (T p → A) → (T q → B) → (T r → D) → T (p || (q || r)) → A ⊎ B ⊎ D
  three-cases true q r u v w t = inl (u tt)
  three-cases false true r u v w t = inr (inl (v tt))
  three-cases false false r u v w t = inr (inr (w t))

  three-test : (p q r : Bool) → T p ⊎ T q ⊎ T r → T (p || (q || r))
  three-test p q r (inl t) = or_left p (q || r) t
  three-test p q r (inr (inl t)) = or_right p (q || r) (or_left q r t)
  three-test p q r (inr (inr t)) = or_right p (q || r) (or_right q r t)

  inner_of : (f : ℕ) → T (inner_face_rule C L f) → InnerFace C L f
  unfolding inner_face_rule
  inner_of f h =
      let a = L.adjacent f in
      let b = L.next a in
      let c = L.next b in
      let t = each_of (inner_tests f) h in
      record {
        stored = eqb→eq (L.face a) f t.0;
        apart = λ p. T_not (eqb b a) t.1.0 (eq_test p);
        back = eqb→eq (L.next c) a t.1.1.0;
        all = λ e l p. three-cases (eqb e a) (eqb e b) (eqb e c) (eqb→eq e a) (eqb→eq e b) (eqb→eq e c)
            (implies→ (eqb (L.face e) f) (eqb e a || (eqb e b || eqb e c))
            (all-below→ E (λ e. implies (eqb (L.face e) f) (eqb e a || (eqb e b || eqb e c))) t.1.1.1.0 e l) (eq_test p));
      }

  of_inner : (f : ℕ) → InnerFace C L f → T (inner_face_rule C L f)
  unfolding inner_face_rule
  of_inner f I =
      let a = L.adjacent f in
      let b = L.next a in
      let c = L.next b in
      every_of (inner_tests f) (
        eq_test I.stored,
        (
          ne_test I.apart,
          (
            eq_test I.back,
            (
              all-below← E (λ e. implies (eqb (L.face e) f) (eqb e a || (eqb e b || eqb e c)))
                  (λ e l. implies← (eqb (L.face e) f) (eqb e a || (eqb e b || eqb e c)) (λ t. as-test e (I.all e l (eqb→eq (L.face e) f t)))),
              tt,
            ),
          ),
        ),
      )
    where
      as-test : (e : ℕ) → (e ≡ L.adjacent f) ⊎ (e ≡ L.next (L.adjacent f)) ⊎ (e ≡ L.next (L.next (L.adjacent f)))
          → T (eqb e (L.adjacent f) || (eqb e (L.next (L.adjacent f)) || eqb e (L.next (L.next (L.adjacent f)))))
      as-test e (inl p) = three-test (eqb e (L.adjacent f)) (eqb e (L.next (L.adjacent f))) (eqb e (L.next (L.next (L.adjacent f)))) (inl (eq_test p))
      as-test e (inr (inl p)) = three-test (eqb e (L.adjacent f)) (eqb e (L.next (L.adjacent f))) (eqb e (L.next (L.next (L.adjacent f)))) (inr (inl (eq_test p)))
      as-test e (inr (inr p)) = three-test (eqb e (L.adjacent f)) (eqb e (L.next (L.adjacent f))) (eqb e (L.next (L.next (L.adjacent f)))) (inr (inr (eq_test p)))

  -- ---- the outer face
  abbrev outer_tests : List Bool
  outer_tests =
      let a = L.adjacent 0 in
      let b = L.next a in
      let c = L.next b in
      eqb (L.face a) 0 ∷ not (eqb b a) ∷ not (eqb c a) ∷ all_below E (λ e. implies (eqb (L.face e) 0) (reaches E L.next a e)) ∷ []

  outer-of : T (outer_face_rule C L) → OuterFace C L
  unfolding outer_face_rule
  outer-of h =
      let a = L.adjacent 0 in
      let b = L.next a in
      let c = L.next b in
      let t = each_of outer_tests h in
      record {
        stored = eqb→eq (L.face a) 0 t.0;
        apart = λ p. T_not (eqb b a) t.1.0 (eq_test p);
        wide = λ p. T_not (eqb c a) t.1.1.0 (eq_test p);
        all = λ e l p. reaches-reach E L.next a e (implies→ (eqb (L.face e) 0) (reaches E L.next a e)
            (all-below→ E (λ e. implies (eqb (L.face e) 0) (reaches E L.next a e)) t.1.1.1.0 e l) (eq_test p));
      }

  of-outer : Ranges C L → Linked C L → 0 < C.faces → OuterFace C L → T (outer_face_rule C L)
  unfolding outer_face_rule
  of-outer R K some O =
      let a = L.adjacent 0 in
      every_of outer_tests (
        eq_test O.stored,
        (
          ne_test O.apart,
          (
            ne_test O.wide,
            (
              all-below← E (λ e. implies (eqb (L.face e) 0) (reaches E L.next a e))
                  (λ e l. implies← (eqb (L.face e) 0) (reaches E L.next a e) (λ t. reach-reaches (next-inverse C L R K) (R.adjacent< some) (O.all e l (eqb→eq (L.face e) 0 t)))),
              tt,
            ),
          ),
        ),
      )

  -- ---- vertices
  abbrev vertex_tests : ℕ → List Bool
  vertex_tests v = eqb (L.origin (L.out v)) v ∷ all_below E (λ e. implies (eqb (L.origin e) v) (reaches E (turn L) (L.out v) e)) ∷ []

  about-of : (v : ℕ) → T (vertex_rule C L v) → AboutVertex C L v
  unfolding vertex_rule
  about-of v h =
      let t = each_of (vertex_tests v) h in
      record {
        based = eqb→eq (L.origin (L.out v)) v t.0;
        all = λ e l p. reaches-reach E (turn L) (L.out v) e (implies→ (eqb (L.origin e) v) (reaches E (turn L) (L.out v) e)
            (all-below→ E (λ e. implies (eqb (L.origin e) v) (reaches E (turn L) (L.out v) e)) t.1.0 e l) (eq_test p));
      }

  of-about : Ranges C L → Linked C L → (v : ℕ) → v < C.vertices → AboutVertex C L v → T (vertex_rule C L v)
  unfolding vertex_rule
  of-about R K v m A = every_of (vertex_tests v) (
    eq_test A.based,
    (
      all-below← E (λ e. implies (eqb (L.origin e) v) (reaches E (turn L) (L.out v) e))
          (λ e l. implies← (eqb (L.origin e) v) (reaches E (turn L) (L.out v) e) (λ t. reach-reaches (turn-inverse C L R K) (R.out< m) (A.all e l (eqb→eq (L.origin e) v t)))),
      tt,
    ),
  )

  side-of : T (all_below C.edges (side_rule L)) → (e : ℕ) → e < E → L.face e ≡ 0 → 0 < L.face (rev e)
  unfolding side_rule
  side-of h e l p = go (e / 2) (even-or-odd e)
      (or_cases (ltb 0 (L.face (2 * (e / 2)))) (ltb 0 (L.face (2 * (e / 2) + 1))) (all-below→ C.edges (side_rule L) h (e / 2) (omega arith)))
    where
      go : (u : ℕ) → (e ≡ 2 * u) ⊎ (e ≡ 2 * u + 1) → T (ltb 0 (L.face (2 * u))) ⊎ T (ltb 0 (L.face (2 * u + 1))) → 0 < L.face (rev e)
      go u (inl q) (inl t) = let m = ltb→lt 0 (L.face (2 * u)) t in let n = ap L.face q in absurd (omega arith)
      go u (inl q) (inr t) = rw (ap rev q ∙ rev-even u) (ltb→lt 0 (L.face (2 * u + 1)) t)
      go u (inr q) (inl t) = rw (ap rev q ∙ rev-odd u) (ltb→lt 0 (L.face (2 * u)) t)
      go u (inr q) (inr t) = let m = ltb→lt 0 (L.face (2 * u + 1)) t in let n = ap L.face q in absurd (omega arith)

  -- ---- the theorem
  euler-of : T (euler_rule C) → C.vertices + C.faces ≡ C.edges + 2
  unfolding euler_rule
  euler-of h = eqb→eq (C.vertices + C.faces) (C.edges + 2) h

  of-euler : C.vertices + C.faces ≡ C.edges + 2 → T (euler_rule C)
  unfolding euler_rule
  of-euler p = eq_test p

  pub rules-wf : T (rules C L) → Wf C L
  unfolding rules
  rules-wf h =
      let t = each_of (rule_tests C L) h in
      let some = ltb→lt 0 C.faces t.0 in
      let R = in_use t.1.1.0 in
      let K = linked t.1.1.1.0 in
      let O = outer-of t.1.1.1.1.1.0 in
      let I : (f : ℕ) → f < C.faces → 0 < f → InnerFace C L f =
      λ f l p. inner_of f (implies→ (ltb 0 f) (inner_face_rule C L f) (all-below→ C.faces (λ f. implies (ltb 0 f) (inner_face_rule C L f)) t.1.1.1.1.1.1.0 f l) (lt→ltb 0 f p)) in
      wf_of C L R K O I (side-of t.1.1.1.1.0) (λ v l. about-of v (all-below→ C.vertices (vertex_rule C L) t.1.1.1.1.1.1.1.0 v l)) (euler-of t.1.0) some

  module _ (W : Wf C L) where
    side-is : (u : ℕ) → u < C.edges → T (side_rule L u)
    unfolding side_rule
    side-is u l = go (dec_lt 0 (L.face (2 * u)))
      where
        go : Dec (0 < L.face (2 * u)) → T (ltb 0 (L.face (2 * u)) || ltb 0 (L.face (2 * u + 1)))
        go (yes p) = or_left (ltb 0 (L.face (2 * u))) (ltb 0 (L.face (2 * u + 1))) (lt→ltb 0 (L.face (2 * u)) p)
        go (no p) =
            let m : 2 * u < E = omega arith in
            let q = W.faces.side m (omega arith) in
            or_right (ltb 0 (L.face (2 * u))) (ltb 0 (L.face (2 * u + 1))) (lt→ltb 0 (L.face (2 * u + 1)) (rw (rev-even u) at q))

    pub wf-rules : T (rules C L)
    unfolding rules
    wf-rules = every_of (rule_tests C L) (
      lt→ltb 0 C.faces W.some,
      (
        of-euler W.euler,
        (
          used W.ranges,
          (
            links W.links,
            (
              all-below← C.edges (side_rule L) side-is,
              (
                of-outer W.ranges W.links W.some (outer-is C L W),
                (
                  all-below← C.faces (λ f. implies (ltb 0 f) (inner_face_rule C L f)) (λ f l. implies← (ltb 0 f) (inner_face_rule C L f) (λ t. of_inner f (inner-is C L W f l (ltb→lt 0 f t)))),
                  (
                    all-below← C.vertices (vertex_rule C L) (λ v l. of-about W.ranges W.links v l (about-is C L W v l)),
                    tt,
                  ),
                ),
              ),
            ),
          ),
        ),
      ),
    )
