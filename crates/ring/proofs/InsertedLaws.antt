-- Laws of specs/Inserted.antt.
use Rattle.std.specs.Prelude.{◌≡◌, refl, ◌≢◌, Bool, true, false, ℕ, zero, suc, ◌+◌, ◌-◌, ◌*◌, ◌%◌, ◌<◌, ◌≤◌}
use Rattle.std.proofs.Math.Path.{sym, ap}
use Rattle.std.proofs.Common.{◌∙◌, ap₂, subst}
use Rattle.std.proofs.Math.Decide.{ℕ_discrete, dec_lt}
use native.Mathlib.Omega.{arith}
use Rattle.std.proofs.Math.Dec.{T}
use Rattle.segment.specs.Arc.{holds, wide}
use Rattle.ring.specs.Ring.{at_ends, proper}
use Rattle.ring.proofs.SegmentsLaws.{proper→, proper←, holds-proper, null-proper, null-holds}
use Rattle.ring.specs.Splice.{Spliced, FitSplice}
use Rattle.ring.proofs.SpliceLaws.{ends, splice-sound}
use Rattle.ring.specs.Buckets.{ceiling, within, Sized}
use Rattle.ring.proofs.BucketsLaws.{null-within, bucket-range}
use Rattle.ring.specs.Node.{NodeTable, nodes, Match, Kept}
use Rattle.ring.proofs.NodeLaws.{kept-tally, kept-match}
use Rattle.ring.specs.Insert.{Ring, On, Bucketed, Insertion, rest_node}
use Rattle.ring.proofs.InsertLaws.{ring-begins, size-old, rest_some, rest-match, right-angle}
use Rattle.ring.proofs.InsertLaws.{rest-round, chain-node}
use Rattle.sums.specs.Bit.{bit}
use Rattle.sums.proofs.BitLaws.{bit-0, bit-1, bit-yes}
use Rattle.sums.specs.Iterate.{iter}
use Rattle.sums.proofs.IterateLaws.{iter-add, iter-ext, iter-last}
use Rattle.sums.specs.Tally.{tally, walk}
use Rattle.ring.specs.Inserted.{Inserted, Rebucketed}

-- the left edge has a node where its two angles differ
pub left-node : (a q : ℕ) → a ≡ q → bit (proper a q) ≡ 0
left-node a q z = ap (λ (x : ℕ). bit (proper a x)) (sym z) ∙ null-proper a

pub left-node-stays : (a q : ℕ) → a ≢ q → bit (proper a q) ≡ 1
left-node-stays a q z = bit-yes (proper a q) (proper← a q z)

module _ {N : ℕ} {next α next' α' : ℕ → ℕ} {τ τ' : NodeTable} {x : Insertion} {e m n l p q r : ℕ}
    (R : Ring N next α τ e (m + n) x.left) (P : FitSplice N next α next' α' e m n l p q r)
    (right_is : iter (nodes next α m e) τ.right x.left ≡ x.right)
    (I : Inserted τ τ' x (nodes next α n r) l p q (α e)) where
  -- the nodes of the rest, of the new boundary, and of the left edge
  abbrev rest : ℕ
  rest = nodes next α n r

  abbrev all : ℕ
  all = nodes next' α' (suc (suc n)) l

  abbrev one_left : ℕ
  one_left = bit (proper (α e) q)

  -- which node starts a segment from a to b, before and after
  abbrev holder : (ℕ → ℕ → Bool) → ℕ → Bool
  holder φ y = at_ends φ τ.right τ.angle y

  abbrev holder' : (ℕ → ℕ → Bool) → ℕ → Bool
  holder' φ y = at_ends φ τ'.right τ'.angle y

  S : Spliced next α next' α' e m n l p q r
  S = P.spliced

  some : 0 < nodes next α n r
  some = rest_some R P right_is

  -- ---- the two new edges: their angles, and the nodes that they lead to
  at-l : (φ : ℕ → ℕ → Bool) → at_ends φ next' α' l ≡ φ (α e) q
  at-l φ = ap₂ φ S.at-l (ap α' S.l-p ∙ S.at_p)

  at_p : (φ : ℕ → ℕ → Bool) → at_ends φ next' α' (next' l) ≡ φ q (α r)
  at_p φ = rw S.l-p (ap₂ φ S.at_p (ap α' S.p-r ∙ S.at_rest zero S.more))

  l-nodes : bit (at_ends proper next' α' l) ≡ one_left
  l-nodes = ap bit (at-l proper)

  p-nodes : bit (at_ends proper next' α' (next' l)) ≡ 1
  p-nodes = ap bit (at_p proper) ∙ bit-yes (proper q (α r)) (proper← q (α r) P.fit.off-right)

  -- from the start, or at once, comes the new node; then the right one; then the rest
  to-new : iter one_left τ'.right x.start ≡ x.new
  to-new = go (ℕ_discrete (α e) q)
    where
      go : Dec (α e ≡ q) → iter one_left τ'.right x.start ≡ x.new
      go (yes z) = rw (left-node (α e) q z) (I.start-goes z)
      go (no z) = rw (left-node-stays (α e) q z) (I.start_right z)

  to-rest : (d : ℕ) → d < nodes next α n r → iter (one_left + 1 + d) τ'.right x.start ≡ rest_node τ x d
  to-rest d u =
      iter-add (one_left + 1) d τ'.right x.start
      ∙ ap (iter d τ'.right) (iter-add one_left 1 τ'.right x.start ∙ ap τ'.right to-new ∙ I.new-right)
      ∙ iter-ext τ.right τ'.right d x.right (λ i y. I.right-rest i (omega arith))

  -- ---- THE NODES STAND FOR THE NEW BOUNDARY
  kept : Kept next α τ next' α' τ' n r x.right
  kept = record {
    from = S.at_rest;
    to = ends S;
    step = S.rest;
    edge_same = I.edge-rest;
    angle-same = I.angle-rest;
    right-same = I.right-rest;
  }

  match-new : Match next' α' τ' (suc (suc n)) l x.start
  unfolding Match
  match-new = (λ u. left (proper→ (α e) q (subst T (at-l proper) u)), (λ u. new, rest-new))
    where
      left : α e ≢ q → (τ'.edge x.start ≡ l) × (τ'.angle x.start ≡ α' l)
      left d = (I.start-edge d, I.start-angle d ∙ sym S.at-l)

      y : ℕ
      y = iter (bit (at_ends proper next' α' l)) τ'.right x.start

      to-y : y ≡ x.new
      to-y = ap (λ (i : ℕ). iter i τ'.right x.start) l-nodes ∙ to-new

      new : (τ'.edge y ≡ next' l) × (τ'.angle y ≡ α' (next' l))
      new = rw (to-y, S.l-p) (I.new-edge, I.new-angle ∙ sym S.at_p)

      rest-new : Match next' α' τ' n (next' (next' l)) (iter (bit (at_ends proper next' α' (next' l))) τ'.right y)
      rest-new = rw (p-nodes, to-y, I.new-right, S.l-p, S.p-r) (kept-match kept (rest-match R P right_is))

  -- how many nodes the new ring has
  pub size-new : nodes next' α' (suc (suc n)) l ≡ bit (proper (α e) q) + 1 + nodes next α n r
  unfolding walk tally
  size-new =
      let a = l-nodes in let b = p-nodes in
      let c = ap (λ (y : ℕ). nodes next' α' n y) (ap next' S.l-p ∙ S.p-r) ∙ kept-tally kept proper n (omega arith) in
      omega arith

  back-new : iter (nodes next' α' (suc (suc n)) l) τ'.right x.start ≡ x.start
  back-new = go (nodes next α n r) refl
    where
      go : (j : ℕ) → j ≡ rest → iter all τ'.right x.start ≡ x.start
      go zero z = absurd (let a = some in omega arith)
      go (suc j) z =
          let a = size-new in let b : all ≡ suc (one_left + 1 + j) = omega arith in
          ap (λ (i : ℕ). iter i τ'.right x.start) b ∙ iter-last (one_left + 1 + j) τ'.right x.start
          ∙ ap τ'.right (to-rest j (omega arith)) ∙ I.right-last j z

  pub inserted : Ring N next' α' τ' l (suc (suc n)) x.start
  inserted = record { sound = splice-sound R.sound P; match = match-new; back = back-new }

  -- ---- WHICH NODE HOLDS A PLACE y: the new one, the start, or the one that held it before
  start-at : τ'.angle x.start ≡ α e
  start-at = go (ℕ_discrete (α e) q)
    where
      go : Dec (α e ≡ q) → τ'.angle x.start ≡ α e
      go (yes z) = ap τ'.angle (I.start-goes z) ∙ I.new-angle ∙ sym z
      go (no z) = I.start-angle z

  new-holds : (y : ℕ) → T (holds y q (α r)) → T (holder' (holds y) x.new)
  new-holds y h =
      let to : τ'.angle (τ'.right x.new) ≡ α r = ap τ'.angle I.new-right ∙ I.angle-rest zero some ∙ right-angle R P right_is in
      rw (I.new-angle, to) h

  left-holds : (y : ℕ) → T (holds y (α e) q) → T (holder' (holds y) x.start)
  left-holds y h =
      let d = proper→ (α e) q (holds-proper y (α e) q h) in
      rw (start-at, I.start_right d, I.new-angle) h

  -- a node of the rest keeps its segment
  rest-arc : (φ : ℕ → ℕ → Bool) (d : ℕ) → d < nodes next α n r → holder' φ (rest_node τ x d) ≡ holder φ (rest_node τ x d)
  rest-arc φ d u = ap₂ φ (I.angle-rest d u) (go (dec_lt (suc d) rest))
    where
      go : Dec (suc d < rest) → τ'.angle (τ'.right (rest_node τ x d)) ≡ τ.angle (τ.right (rest_node τ x d))
      go (yes w) =
          ap τ'.angle (I.right-rest d w ∙ sym (iter-last d τ.right x.right)) ∙ I.angle-rest (suc d) w
          ∙ ap τ.angle (iter-last d τ.right x.right)
      go (no w) =
          let z : suc d ≡ rest = omega arith in
          let last = ap (rest_node τ x) z ∙ rest-round R P right_is in
          ap τ'.angle (I.right-last d z) ∙ start-at ∙ ring-begins R
          ∙ ap τ.angle (sym last ∙ iter-last d τ.right x.right)

  -- the node that held a place which neither new edge holds is one of the rest
  old-holds : (y z : ℕ) → On τ.right (nodes next α (m + n) e) x.left z → T (holder (holds y) z)
      → bit (holds y (α e) q) ≡ 0 → bit (holds y q (α r)) ≡ 0
      → On τ'.right (nodes next' α' (suc (suc n)) l) x.start z × T (holder' (holds y) z)
  old-holds y z (j, u, is) h z₁ z₂ = go (dec_lt j (nodes next α m e))
    where
      go : Dec (j < nodes next α m e) → On τ'.right all x.start z × T (holder' (holds y) z)
      go (yes w) = absurd (let a = chain-node R P right_is y j w (subst (λ (i : ℕ). T (holder (holds y) i)) (sym is) h) in omega arith)
      go (no w) =
          let c = nodes next α m e in
          let d = j - c in
          let a = size-old R P right_is in let b = size-new in
          let in_rest : d < rest = omega arith in
          let j-is : j ≡ c + d = omega arith in
          let here : z ≡ rest_node τ x d =
          sym is ∙ ap (λ (i : ℕ). iter i τ.right x.left) j-is ∙ iter-add c d τ.right x.left ∙ ap (iter d τ.right) right_is in
          let kept-holds = subst T (sym (rest-arc (holds y) d in_rest)) (subst (λ (i : ℕ). T (holder (holds y) i)) here h) in
          ((one_left + 1 + d, omega arith, to-rest d in_rest ∙ sym here), subst (λ (i : ℕ). T (holder' (holds y) i)) (sym here) kept-holds)

  -- ---- THE BUCKETS, by the code's two loops, the left one first
  pub bucketed-insert : {w B : ℕ} {bucket bucket' : ℕ → ℕ} → Sized N B w → α e ≤ N → q ≤ N → α r ≤ N
      → Bucketed τ.right τ.angle bucket B w x.left (nodes next α (m + n) e)
      → Rebucketed bucket bucket' B (ceiling w (α e) % B) (ceiling w q % B) (ceiling w (α r) % B) x.start x.new
      → Bucketed τ'.right τ'.angle bucket' B w x.start (nodes next' α' (suc (suc n)) l)
  bucketed-insert {w} {B} {bucket} {bucket'} W le lq lr O U i il = which (within i Q' R') refl (within i L' Q') refl
    where
      L' : ℕ
      L' = ceiling w (α e) % B

      Q' : ℕ
      Q' = ceiling w q % B

      R' : ℕ
      R' = ceiling w (α r) % B

      right-range : holds (i * w) q (α r) ≡ within i Q' R'
      right-range =
          bucket-range W (record {
            a_in = lq;
            b-in = lr;
            apart = P.fit.off-right;
            narrow = bit-0 (wide N q (α r)) P.fit.right-gap;
          }) i il

      left-range : bit (holds (i * w) (α e) q) ≡ bit (within i L' Q')
      left-range = go (ℕ_discrete (α e) q)
        where
          go : Dec (α e ≡ q) → bit (holds (i * w) (α e) q) ≡ bit (within i L' Q')
          go (yes z) =
              ap (λ (y : ℕ). bit (holds (i * w) (α e) y)) (sym z) ∙ null-holds (i * w) (α e)
              ∙ sym (null-within i L') ∙ ap (λ (y : ℕ). bit (within i L' (ceiling w y % B))) z
          go (no z) =
              ap bit (bucket-range W (record {
                a_in = le;
                b-in = lq;
                apart = z;
                narrow = bit-0 (wide N (α e) q) P.fit.left-gap;
              }) i il)

      Held : ℕ → Type 0
      Held y = On τ'.right all x.start y × T (holder' (holds (i * w)) y)

      which : (a : Bool) → within i Q' R' ≡ a → (b : Bool) → within i L' Q' ≡ b → Held (bucket' i)
      which true p₁ b p₂ =
          let c = size-new in
          subst Held (sym (U.new i il (subst T (sym p₁) tt)))
          ((one_left, omega arith, to-new), new-holds (i * w) (subst T (sym (right-range ∙ p₁)) tt))
      which false p₁ true p₂ =
          let c = inserted.sound.three in let d = left-range in let f = ap bit p₂ in
          subst Held (sym (U.left i il (ap bit p₁) (subst T (sym p₂) tt)))
          ((0, omega arith, refl), left-holds (i * w) (bit-1 (holds (i * w) (α e) q) (omega arith)))
      which false p₁ false p₂ =
          let o = O i il in
          subst Held (sym (U.old i il (ap bit p₁) (ap bit p₂)))
          (old-holds (i * w) (bucket i) o.0 o.1 (left-range ∙ ap bit p₂) (ap bit (right-range ∙ p₁)))
