-- The two loops of a step on a good mesh. While they go on, the new vertex covers a chain of the boundary as it was
-- before, and what is not covered keeps its ends; so the test of each turn, made on the mesh as it then stands, is that
-- of the chain's definition, made on the mesh before: each loop covers exactly the chain's edges on its side, and ends.
-- Assumes nothing.
use Rattle.std.specs.Prelude.{Bool, true, false, not, ◌||◌, ◌≢◌, ◌≡◌, refl, ℕ, zero, suc, ◌+◌, ◌-◌, ◌*◌, ◌/◌, ◌<◌, ◌≤◌, T, ℤ, pos, ◌<ℤ◌}
use Rattle.std.proofs.lemmas.Bool.{false≢true}
use Rattle.std.proofs.Common.{sym, ◌∙◌, ap, ap₂, subst, arith, T_not}
use Rattle.std.specs.Int.Signed.{lt_z_yes}
use Rattle.corner.specs.Corner.{Extended, close_corner}
use Rattle.corner.specs.CornerLaws.{LeftCorner, CornerClosed, closes-corner, closed-good, closed-boundary, closed-length, Closings, none, then}
use Rattle.math.specs.declared.Point.{Point}
use Rattle.math.specs.Determinant.{InRange, orient2d}
use Rattle.math.proofs.Plane.{orient2d-next}
use Rattle.mesh.specs.declared.Counts.{Counts}
use Rattle.mesh.specs.Mesh.{Links, In, to}
use Rattle.mesh.specs.Operations.{create_single_face_between_edge_and_next, with_face}
use Rattle.mesh.specs.Area.{boundary_length}
use Rattle.mesh.proofs.CountsLaws.{count-halves}
use Rattle.mesh.specs.Frame.{SameBoundary}
use Rattle.mesh.specs.Good.{Good}
use Rattle.mesh.proofs.GoodLaws.{single-face-good}
use Rattle.mesh.proofs.SingleFaceLaws.{single-face-frame}
use Rattle.mesh.specs.Wf.{Wf}
use Rattle.ring.specs.Ring.{edge_angle}
use Rattle.ring.proofs.Boundary.{outer-walk}
use Rattle.ring.specs.Chain.{sees_edge, covers_left, covers_right, left_chain, right_chain, chain_length}
use Rattle.ring.proofs.ChainMesh.{left-covered, right-covered, left-stops, right-stops, left-sees, right-sees, before-walk, chain-short}
use Rattle.ring.specs.Covered.{Covered}
use Rattle.ring.proofs.CoveredLaws.{cover-left, cover-right, cover-same, right-four, left-four, p-in, p-outer, prev-in, prev-outer, covered-in}
use Rattle.ring.specs.CoveredEnds.{RestEnds, SameEnds}
use Rattle.ring.proofs.CoveredEndsLaws.{ends-left, ends-right, ends_same, left-test, right-test, left-next}
use Rattle.sums.proofs.BitLaws.{from-true, is_true, is_false}
use Rattle.sums.specs.Iterate.{iter}
use Rattle.sums.proofs.IterateLaws.{iter-last}
use Rattle.ring.specs.declared.Side.{Side}
use Rattle.ring.specs.declared.Side.TheVariants.{Left, Right}
use Rattle.ring.specs.Chain.{beside, covers}
use Rattle.apply.specs.Apply.{Walking, face_edge, walk_ends_of, walk_turn_of, walk}

-- The mesh before, in which v is strictly left of the boundary edge e; p and α are the positions and the angles with
-- the new vertex's, v and q
pub record Before (C : Counts) (L : Links) (p₀ : ℕ → Point) (α₀ : ℕ → ℕ) (p : ℕ → Point) (α : ℕ → ℕ) (v : Point) (q e : ℕ) : Type 0 where
  pub good : Good C L p₀
  pub edge : In C e
  pub outer : L.face e ≡ 0
  pub seen : T (sees_edge L p₀ v e)
  pub places : (u : ℕ) → u < C.vertices → p u ≡ p₀ u
  pub angles : (u : ℕ) → u < C.vertices → α u ≡ α₀ u
  pub new-place : p C.vertices ≡ v
  pub new-angle : α C.vertices ≡ q
  pub range : InRange v

-- The mesh m after the first face and as many faces to the left and to the right, of which the boundary before has so
-- many edges less `rest`; l and r lead to the new vertex and from it
pub record Along (C : Counts) (L : Links) (α₀ : ℕ → ℕ) (p : ℕ → Point) (α : ℕ → ℕ) (q e left right : ℕ)
    (m : Extended) (l r : ℕ) : Type 0 where
  pub good : Good m.counts m.links p
  pub rest : ℕ
  pub whole : left + 1 + right + rest ≡ boundary_length C L
  pub covered : Covered L.next (edge_angle L α₀) m.counts m.links α (iter left L.prev e)
      (left + 1 + right) rest l r q (iter (suc right) L.next e)
  pub ends : RestEnds L m.links rest (iter (suc right) L.next e)
  pub from : m.links.origin r ≡ C.vertices
  pub faces : m.faces ≡ left + 1 + right

-- the chain's start, its length and its end by other names
covered-by : {f α : ℕ → ℕ} {C : Counts} {L : Links} {α'' : ℕ → ℕ} {s s' m m' n l p q r r' : ℕ} → s ≡ s' → m ≡ m'
    → r ≡ r' → Covered f α C L α'' s m n l p q r → Covered f α C L α'' s' m' n l p q r'
covered-by a b c K = rw (← a, ← b, ← c) K

module _ {C : Counts} {L : Links} {p₀ : ℕ → Point} {α₀ : ℕ → ℕ} {p : ℕ → Point} {α : ℕ → ℕ} {v : Point} {q e : ℕ}
    (B : Before C L p₀ α₀ p α v q e) where
  -- ---- one turn, at a corner of the mesh m that is closed: what is known after the new face is known after the flips
  module _ (room : ℕ) (m : Extended) (G : Good m.counts m.links p) {d : ℕ} (i : In m.counts d)
      (o : m.links.face d ≡ 0) (h : LeftCorner m.links p d)
      {first second : ℕ} (u : first < m.counts.edges) (w : second < m.counts.edges) where
    abbrev K : Links
    K = create_single_face_between_edge_and_next m.links m.counts d

    after-flips : {left right l r n : ℕ} → left + 1 + right + n ≡ boundary_length C L
        → Covered L.next (edge_angle L α₀) (with_face m.counts) K α (iter left L.prev e) (left + 1 + right) n
        l r q (iter (suc right) L.next e)
        → RestEnds L K n (iter (suc right) L.next e) → K.origin r ≡ C.vertices → suc m.faces ≡ left + 1 + right
        → Along C L α₀ p α q e left right (close_corner room p m d first second) l r
    unfolding close_corner
    after-flips {left} {right} {l} {r} {n} k X E f g =
        let S = closes-corner room p m G i o h u w in
        let G₁ = single-face-good G i o h in
        let Z = closed-boundary G S in
        record {
          good = closed-good G S;
          rest = n;
          whole = k;
          covered = cover-same G₁.wf (closed-good G S).wf Z X;
          ends = ends_same G₁.wf Z X E;
          from = (Z.keeps (p-in G₁.wf X) (p-outer G₁.wf X)).origin ∙ f;
          faces = g;
        }

  module _ (room : ℕ) {left right : ℕ} {m : Extended} {l r : ℕ} (A : Along C L α₀ p α q e left right m l r) where
    W : Wf m.counts m.links
    W = A.good.wf

    -- the edges to the new vertex and from it, and the new vertex between them
    l-in : In m.counts l
    l-in = A.covered.in_use

    end-l : p (to m.links l) ≡ v
    end-l = ap p (sym (W.links.origin-next l-in) ∙ ap m.links.origin A.covered.spliced.l-p ∙ A.from) ∙ B.new-place

    module _ {n : ℕ} (k : A.rest ≡ suc n) (more : 0 < n) where
      X : Covered L.next (edge_angle L α₀) m.counts m.links α (iter left L.prev e) (left + 1 + right)
          (suc n) l r q (iter (suc right) L.next e)
      X = subst (λ (i : ℕ). Covered L.next (edge_angle L α₀) m.counts m.links α (iter left L.prev e) (left + 1 + right) i l r q (iter (suc right) L.next e)) k A.covered

      E : RestEnds L m.links (suc n) (iter (suc right) L.next e)
      E = subst (λ (i : ℕ). RestEnds L m.links i (iter (suc right) L.next e)) k A.ends

      -- ---- to the left
      left-corner : T (sees_edge m.links p v (m.links.prev l)) → LeftCorner m.links p (m.links.prev l)
      left-corner t =
          let d = m.links.prev l in
          subst (λ (x : Point). pos 0 <ℤ orient2d (p (m.links.origin d)) (p (to m.links d)) x)
          (sym (ap (λ (x : ℕ). p (to m.links x)) (W.links.next-prev l-in) ∙ end-l)) (lt_z_yes t)

      pub along-left : T (sees_edge m.links p v (m.links.prev l))
          → Along C L α₀ p α q e (suc left) right
          (close_corner room p m (m.links.prev l) (l / 2) (m.links.prev l / 2)) (2 * m.counts.edges + 1) r
      along-left t =
          let i = prev-in W X more in let o = prev-outer W X more in
          let z = left-next B.good.wf W (outer-walk B.good.wf B.edge B.outer (suc right)).0 X in
          after-flips room m A.good i o (left-corner t) (let x = l-in in omega arith) (omega arith)
          (let x = A.whole in omega arith)
          (covered-by (z.1 ∙ sym (iter-last left L.prev e)) (one left) refl (cover-left W X more))
          (ends-left W X E more)
          (((single-face-frame W i o (left-four W X more)).ends (p-in W X)).0 ∙ A.from)
          (ap suc A.faces ∙ one left)
        where
          one : (i : ℕ) → suc (i + 1 + right) ≡ suc i + 1 + right
          one i = omega arith

      -- ---- to the right
      right-corner : T (sees_edge m.links p v (m.links.next r)) → LeftCorner m.links p r
      right-corner t =
          let d = m.links.next r in
          subst (λ (z : ℤ). pos 0 <ℤ z) (sym (orient2d-next v (p (m.links.origin d)) (p (to m.links d))) ∙ ap₂ (λ (x y : Point). orient2d x y (p (to m.links d)))
          (sym (ap p A.from ∙ B.new-place)) (ap p (W.links.origin-next (p-in W X)))) (lt_z_yes t)

      pub along-right : T (sees_edge m.links p v (m.links.next r))
          → Along C L α₀ p α q e left (suc right) (close_corner room p m r (r / 2) (m.links.next r / 2)) l (2 * m.counts.edges + 1)
      along-right t =
          let i = p-in W X in let o = p-outer W X in
          let j = W.ranges.next< i in
          after-flips room m A.good i o (right-corner t) (omega arith) (omega arith)
          (let x = A.whole in omega arith)
          (covered-by refl (one left) (sym (iter-last (suc right) L.next e)) (cover-right W X more))
          (subst (λ (x : ℕ). RestEnds L (create_single_face_between_edge_and_next m.links m.counts r) n x) (sym (iter-last (suc right) L.next e)) (ends-right W X E more))
          ((single-face-frame W i o (right-four W X more)).origin-o ∙ A.from)
          (ap suc A.faces ∙ one left)
        where
          one : (i : ℕ) → suc (i + 1 + right) ≡ i + 1 + suc right
          one i = omega arith

      -- ---- the corner that a turn closes
      pub closes-left : T (sees_edge m.links p v (m.links.prev l))
          → CornerClosed p m (close_corner room p m (m.links.prev l) (l / 2) (m.links.prev l / 2))
          (m.links.prev l)
      closes-left t =
          let i = prev-in W X more in
          closes-corner room p m A.good i (prev-outer W X more) (left-corner t) (let x = l-in in omega arith) (omega arith)

      pub closes-right : T (sees_edge m.links p v (m.links.next r))
          → CornerClosed p m (close_corner room p m r (r / 2) (m.links.next r / 2)) r
      closes-right t =
          let i = p-in W X in let j = W.ranges.next< i in
          closes-corner room p m A.good i (p-outer W X) (right-corner t) (omega arith) (omega arith)

  -- ---- the test of a turn is that of the chain's definition
  module _ {left right : ℕ} {m : Extended} {l r : ℕ} (A : Along C L α₀ p α q e left right m l r) where
    beside-left : m.links.prev l ≡ iter (suc left) L.prev e
    beside-left = go A.rest A.covered.spliced.more A.covered
      where
        go : (n : ℕ) → 0 < n
            → Covered L.next (edge_angle L α₀) m.counts m.links α (iter left L.prev e) (left + 1 + right)
            n l r q (iter (suc right) L.next e)
            → m.links.prev l ≡ iter (suc left) L.prev e
        go zero h K = absurd (omega arith)
        go (suc n) h K = (left-next B.good.wf A.good.wf (outer-walk B.good.wf B.edge B.outer (suc right)).0 K).0 ∙ sym (iter-last left L.prev e)

    pub test-left : covers_left m.links p α v q (m.links.prev l) ≡ covers_left L p₀ α₀ v q (iter (suc left) L.prev e)
    test-left = ap (covers_left m.links p α v q) beside-left ∙ left-test B.good.wf B.places B.angles (before-walk B.good.wf p₀ α₀ v q B.edge B.outer (suc left)).0 same v q
      where
        last : (n : ℕ) → 0 < n
            → Covered L.next (edge_angle L α₀) m.counts m.links α (iter left L.prev e) (left + 1 + right)
            n l r q (iter (suc right) L.next e)
            → RestEnds L m.links n (iter (suc right) L.next e) → SameEnds L m.links (iter (suc left) L.prev e)
        last zero h K E = absurd (omega arith)
        last (suc n) h K E =
            subst (SameEnds L m.links)
            ((left-next B.good.wf A.good.wf (outer-walk B.good.wf B.edge B.outer (suc right)).0 K).1 ∙ sym (iter-last left L.prev e)) (E.at n (omega arith))

        same : SameEnds L m.links (iter (suc left) L.prev e)
        same = last A.rest A.covered.spliced.more A.covered A.ends

    beside-right : m.links.next r ≡ iter (suc right) L.next e
    beside-right = A.covered.spliced.p-r

    pub test-right : covers_right m.links p α v q (m.links.next r) ≡ covers_right L p₀ α₀ v q (iter (suc right) L.next e)
    test-right = ap (covers_right m.links p α v q) beside-right
        ∙ right-test B.good.wf B.places B.angles (outer-walk B.good.wf B.edge B.outer (suc right)).0 (A.ends.at 0 A.covered.spliced.more) v q
