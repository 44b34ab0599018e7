-- Laws of specs/Covered.antt.
use Rattle.std.specs.Prelude.{◌≡◌, refl, ◌≢◌, [], ℕ, suc, ◌+◌, ◌-◌, ◌*◌, ◌<◌, ◌≤◌}
use Rattle.std.proofs.Common.{sym, ◌∙◌, ap, subst, arith}
use Rattle.mesh.specs.declared.Counts.{Counts}
use Rattle.mesh.specs.Mesh.{Links, In}
use Rattle.mesh.specs.Wf.{Wf}
use Rattle.mesh.specs.Area.{boundary_length}
use Rattle.mesh.proofs.BoundaryLaws.{boundary-least}
use Rattle.mesh.proofs.CountsLaws.{count-halves, faces-least}
use Rattle.mesh.specs.Frame.{SameBoundary}
use Rattle.mesh.specs.Operations.{create_single_face_between_edge_and_next, with_face, create_new_face_adjacent_to_edge, with_vertex}
use Rattle.mesh.proofs.NewFaceLaws.{new-face-keeps, new-face-frame}
use Rattle.mesh.proofs.SingleFaceLaws.{single-face-keeps, single-face-frame}
use Rattle.sums.specs.Iterate.{iter}
use Rattle.sums.proofs.IterateLaws.{iter-last, iter-ext}
use Rattle.ring.specs.Ring.{edge_angle}
use Rattle.ring.specs.Splice.{Spliced}
use Rattle.ring.proofs.GrowLaws.{grow-right, grow-left}
use Rattle.ring.proofs.Boundary.{outer-round, outer-walk, outer-once, outer-last, length-same}
use Rattle.ring.specs.Covered.{Covered}

-- ---- the walk around from l: l, p, and the edges that were not covered
module _ {f α : ℕ → ℕ} {C : Counts} {L : Links} {α'' : ℕ → ℕ} {s m n l p q r : ℕ} (W : Wf C L) (K : Covered f α C L α'' s m n l p q r) where
  pub covered-rest : (k : ℕ) → k < n → iter (suc (suc k)) L.next l ≡ iter k f r
  covered-rest k h =
      ap (λ (x : ℕ). iter k L.next (L.next x)) K.spliced.l-p ∙ ap (iter k L.next) K.spliced.p-r
      ∙ iter-ext f L.next k r (λ j u. K.spliced.rest j (omega arith))

  pub covered-in : (k : ℕ) → k < n → In C (iter k f r)
  covered-in k h = subst (In C) (covered-rest k h) (outer-walk W K.in_use K.outer (suc (suc k))).0

  pub covered-outer : (k : ℕ) → k < n → L.face (iter k f r) ≡ 0
  covered-outer k h = ap L.face (sym (covered-rest k h)) ∙ (outer-walk W K.in_use K.outer (suc (suc k))).1

  pub p-in : In C p
  p-in = subst (In C) K.spliced.l-p (W.ranges.next< K.in_use)

  pub p-outer : L.face p ≡ 0
  p-outer = ap L.face (sym K.spliced.l-p) ∙ W.links.face-next K.in_use ∙ K.outer

  apart : (j k : ℕ) → j < suc (suc n) → k < suc (suc n) → j ≢ k → iter j L.next l ≢ iter k L.next l
  apart j k u v d z = let h = K.length in d (outer-once W K.in_use K.outer j k (omega arith) (omega arith) z)

  pub rest-apart : (j k : ℕ) → j < n → k < n → j ≢ k → iter j f r ≢ iter k f r
  rest-apart j k u v d z =
      apart (suc (suc j)) (suc (suc k)) (omega arith) (omega arith) (omega arith) (covered-rest j u ∙ z ∙ sym (covered-rest k v))

  pub rest-l : (k : ℕ) → k < n → iter k f r ≢ l
  rest-l k u z = apart (suc (suc k)) 0 (omega arith) (omega arith) (omega arith) (covered-rest k u ∙ z)

  pub rest-p : (k : ℕ) → k < n → iter k f r ≢ p
  rest-p k u z = apart (suc (suc k)) 1 (omega arith) (omega arith) (omega arith) (covered-rest k u ∙ z ∙ sym K.spliced.l-p)

  pub p-l : p ≢ l
  p-l z = apart 1 0 (omega arith) (omega arith) (omega arith) (K.spliced.l-p ∙ z)

-- ---- the first face: the chain is the edge e alone
module _ {C : Counts} {L : Links} (W : Wf C L) {e : ℕ} (l : In C e) (o : L.face e ≡ 0) {α α'' : ℕ → ℕ}
    (same : (u : ℕ) → u < C.vertices → α'' u ≡ α u) where
  pub cover-edge : Covered L.next (edge_angle L α) (with_vertex C) (create_new_face_adjacent_to_edge L C e) α'' e 1
      (boundary_length C L - 1) (2 * C.edges + 2 + 1) (2 * C.edges + 1) (α'' C.vertices) (L.next e)
  cover-edge =
      let F = new-face-frame W l o in
      record {
        spliced = record {
          some = omega arith;
          more = let b = boundary-least W in omega arith;
          right = refl;
          round = ap (λ (k : ℕ). iter k L.next e) (back (boundary_length C L) (boundary-least W)) ∙ outer-round W l o;
          l-p = F.next-b';
          p-r = F.next-a';
          at-l = ap α'' F.origin-b' ∙ same (L.origin e) (W.ranges.origin< l);
          at_p = ap α'' F.origin-a';
          at_rest = λ k u. let i = (outer-walk W l o (suc k)).0 in ap α'' (F.ends i).0
              ∙ same (L.origin (iter (suc k) L.next e)) (W.ranges.origin< i);
          rest = λ k u. F.next-rest (outer-walk W l o (suc k)).0
              (λ z. differ (suc k) (boundary_length C L - 1) (let b = boundary-least W in omega arith) (let b = boundary-least W in omega arith) (let b = boundary-least W in omega arith) (z ∙ sym (outer-last W l o)))
              (λ z. differ (suc k) 0 (let b = boundary-least W in omega arith) (let b = boundary-least W in omega arith) (omega arith) z);
          last = λ k u. ap (create_new_face_adjacent_to_edge L C e).next (ap (λ (j : ℕ). iter j L.next e) u ∙ outer-last W l o) ∙ F.next-p;
        };
        in_use = omega arith;
        outer = F.outer-b';
        length =
            let a = count-halves W in
            let b = count-halves (new-face-keeps W l o) in let c = faces-least W in let d = boundary-least W in omega arith;
      }
    where
      back : (n : ℕ) → 3 ≤ n → suc (n - 1) ≡ n
      back n m = omega arith

      differ : (j k : ℕ) → j < boundary_length C L → k < boundary_length C L → j ≢ k → iter j L.next e ≢ iter k L.next e
      differ j k u v d z = d (outer-once W l o j k u v z)

-- the edge before l is the last that is not covered
pub last-l : {f α : ℕ → ℕ} {C : Counts} {L : Links} {α'' : ℕ → ℕ} {s m n l p q r : ℕ} (W : Wf C L)
    → Covered f α C L α'' s m (suc n) l p q r → L.prev l ≡ iter n f r
last-l {L = L} {n = n} W K = ap L.prev (sym (K.spliced.last n refl)) ∙ W.links.prev-next (covered-in W K n (omega arith))

-- ---- a further face, to the right: between p and the edge after it
module _ {f α : ℕ → ℕ} {C : Counts} {L : Links} {α'' : ℕ → ℕ} {s m n l p q r : ℕ} (W : Wf C L)
    (K : Covered f α C L α'' s m (suc n) l p q r) (more : 0 < n) where
  P : Spliced f α L.next (edge_angle L α'') s m (suc n) l p q r
  P = K.spliced

  prev-p : L.prev p ≡ l
  prev-p = ap L.prev (sym P.l-p) ∙ W.links.prev-next K.in_use

  next-r : L.next r ≡ f r
  next-r = P.rest 0 (omega arith)

  next-next-p : L.next (L.next p) ≡ f r
  next-next-p = ap L.next P.p-r ∙ next-r

  pub right-four : L.prev p ≢ L.next (L.next p)
  right-four z = rest-l W K 1 (omega arith) (sym (sym prev-p ∙ z ∙ next-next-p))

  pub cover-right : Covered f α (with_face C) (create_single_face_between_edge_and_next L C p) α'' s (suc m) n l (2 * C.edges + 1) q (f r)
  cover-right =
      let i = p-in W K in let o = p-outer W K in
      let F = single-face-frame W i o right-four in
      record {
        spliced = grow-right P more (record {
          l-p = ap (create_single_face_between_edge_and_next L C p).next (sym prev-p) ∙ F.next-p;
          p-r = F.next-o ∙ next-next-p;
          at-l = ap α'' (F.ends K.in_use).0;
          at_p = ap α'' F.origin-o ∙ P.at_p;
          at_rest = λ k u. ap α'' (F.ends (covered-in W K (suc k) (omega arith))).0;
          rest = λ k u. F.next-rest (covered-in W K (suc k) (omega arith)) (λ z. rest-l W K (suc k) (omega arith) (z ∙ prev-p))
              (λ z. rest-apart W K (suc k) 0 (omega arith) (omega arith) (omega arith) (z ∙ P.p-r));
        });
        in_use = let a = K.in_use in omega arith;
        outer = F.outer-rest K.in_use K.outer (λ z. p-l W K (sym z)) (λ z. rest-l W K 0 (omega arith) (sym (z ∙ P.p-r)));
        length =
            let a = count-halves W in
            let b = count-halves (single-face-keeps W i o right-four) in let c = faces-least W in let d = K.length in omega arith;
      }

  -- ---- to the left: between the edge before l, the last that is not covered, and l
  pub prev-in : In C (L.prev l)
  prev-in = W.ranges.prev< K.in_use

  next-prev-l : L.next (L.prev l) ≡ l
  next-prev-l = W.links.next-prev K.in_use

  pub prev-outer : L.face (L.prev l) ≡ 0
  prev-outer = sym (W.links.face-next prev-in) ∙ ap L.face next-prev-l ∙ K.outer

  less : (n : ℕ) → 0 < n → suc (n - 1) ≡ n
  less n m = omega arith

  -- the one before that
  prev-prev-l : L.prev (L.prev l) ≡ iter (n - 1) f r
  prev-prev-l =
      ap L.prev
      (last-l W K ∙ ap (λ (k : ℕ). iter k f r) (sym (less n more)) ∙ iter-last (n - 1) f r ∙ sym (P.rest (n - 1) (omega arith)))
      ∙ W.links.prev-next (covered-in W K (n - 1) (omega arith))

  next-next-prev : L.next (L.next (L.prev l)) ≡ p
  next-next-prev = ap L.next next-prev-l ∙ P.l-p

  pub left-four : L.prev (L.prev l) ≢ L.next (L.next (L.prev l))
  left-four z = rest-p W K (n - 1) (omega arith) (sym prev-prev-l ∙ z ∙ next-next-prev)

  pub cover-left : Covered f α (with_face C) (create_single_face_between_edge_and_next L C (L.prev l)) α'' (iter n f r)
      (suc m) n (2 * C.edges + 1) p q r
  cover-left =
      let F = single-face-frame W prev-in prev-outer left-four in
      record {
        spliced = grow-left P more (record {
          l-p = F.next-o ∙ next-next-prev;
          p-r =
              F.next-rest (p-in W K) (λ z. rest-p W K (n - 1) (omega arith) (sym (z ∙ prev-prev-l))) (λ z. p-l W K (z ∙ next-prev-l))
              ∙ P.p-r;
          at-l = ap α'' F.origin-o ∙ ap (edge_angle L α'') (last-l W K);
          at_p = ap α'' (F.ends (p-in W K)).0 ∙ P.at_p;
          at_rest = λ k u. ap α'' (F.ends (covered-in W K k (omega arith))).0;
          rest = λ k u. F.next-rest (covered-in W K k (omega arith))
              (λ z. rest-apart W K k (n - 1) (omega arith) (omega arith) (omega arith) (z ∙ prev-prev-l))
              (λ z. rest-l W K k (omega arith) (z ∙ next-prev-l));
          last = λ k u. ap (create_single_face_between_edge_and_next L C (L.prev l)).next
              (ap (λ (j : ℕ). iter j f r) (pred k n u) ∙ sym prev-prev-l) ∙ F.next-p;
        });
        in_use = omega arith;
        outer = F.outer-o;
        length =
            let a = count-halves W in
            let b = count-halves (single-face-keeps W prev-in prev-outer left-four) in
            let c = faces-least W in let d = K.length in omega arith;
      }
    where
      pred : (k n : ℕ) → suc k ≡ n → k ≡ n - 1
      pred k n u = omega arith

-- ---- what leaves the boundary, as flips do
pub cover-same : {f α : ℕ → ℕ} {C : Counts} {L L' : Links} {α'' : ℕ → ℕ} {s m n l p q r : ℕ} → Wf C L → Wf C L'
    → SameBoundary C L L' → Covered f α C L α'' s m n l p q r → Covered f α C L' α'' s m n l p q r
cover-same {f} {α} {C} {L} {L'} {α''} {s} {m} {n} {l} {p} {q} {r} W W' S K =
    let P = K.spliced in
    let keep-p = S.keeps (p-in W K) (p-outer W K) in
    let keep-l = S.keeps K.in_use K.outer in
    record {
      spliced = record {
        some = P.some;
        more = P.more;
        right = P.right;
        round = P.round;
        l-p = keep-l.next ∙ P.l-p;
        p-r = keep-p.next ∙ P.p-r;
        at-l = ap α'' keep-l.origin ∙ P.at-l;
        at_p = ap α'' keep-p.origin ∙ P.at_p;
        at_rest = λ k u. ap α'' (S.keeps (covered-in W K k u) (covered-outer W K k u)).origin ∙ P.at_rest k u;
        rest = λ k u. (S.keeps (covered-in W K k (omega arith)) (covered-outer W K k (omega arith))).next ∙ P.rest k u;
        last = λ k u. (S.keeps (covered-in W K k (omega arith)) (covered-outer W K k (omega arith))).next ∙ P.last k u;
      };
      in_use = K.in_use;
      outer = keep-l.face ∙ K.outer;
      length = length-same W W' S ∙ K.length;
    }
