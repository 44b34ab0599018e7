-- The edges that `legalize_vertex` collects, by name and in order: after each operation they are those of the triangles
-- that were split, so code needs no list. Assumes nothing.
use Rattle.std.specs.Prelude.{Bool, cond, List, [], ◌∷◌, ◌≡◌, refl, ℕ, ◌<◌}
use Rattle.std.proofs.Common.{sym, ◌∙◌, subst, arith, eq-eqb, ne_eqb}
use Rattle.std.proofs.Math.Path.{ap, ap₂}
use Rattle.insertion_laws.specs.InsertIntoTriangle.{insert-into-triangle-is, insert-into-triangle-keeps}
use Rattle.insertion.specs.Operations.{insert_into_triangle, split_edge, split_half_edge, with_inner_vertex}
use Rattle.insertion_laws.specs.SplitEdge.{Splittable, split-edge-is, split-edge-keeps}
use Rattle.insertion_laws.specs.SplitHalfEdge.{split-half-edge-is, split-half-edge-keeps}
use Rattle.insertion_laws.specs.Star.{StarThree, StarFour, insert-into-triangle-star, split-edge-star, split-half-edge-star}
use Rattle.location.specs.Search.{spokes}
use Rattle.mesh.specs.declared.Counts.{Counts}
use Rattle.mesh.specs.Mesh.{Links, In, turn}
use Rattle.mesh.specs.Operations.{with_vertex}
use Rattle.mesh.specs.Triangle.{rev-in}
use Rattle.mesh.specs.Wf.{Wf}
use Rattle.mesh.proofs.WfPartsLaws.{turn-inverse}
use Rattle.sums.specs.Half.{rev}
use Rattle.sums.specs.Iterate.{Period}
use Rattle.sums.proofs.IterateLaws.{period-unique, period-is}
use Rattle.sums.specs.Tally.{walk}
use Rattle.skipped.specs.Insert.{inner_nexts, star_edges}

-- ---- one half-edge after another
inner-next : (L : Links) (e : ℕ) {n : ℕ} → 0 < L.face e → L.next e ≡ n → (l : List ℕ) {m : List ℕ}
    → inner_nexts L l ≡ m → inner_nexts L (e ∷ l) ≡ n ∷ m
unfolding inner_nexts
inner-next L e i q l h =
    ap (λ (b : Bool). cond b (inner_nexts L l) (L.next e ∷ inner_nexts L l)) (ne_eqb (L.face e) 0 (λ q. omega arith)) ∙ ap₂ (λ (a : ℕ) (m : List ℕ). a ∷ m) q h

outer-next : (L : Links) (e : ℕ) → L.face e ≡ 0 → (l : List ℕ) {m : List ℕ} → inner_nexts L l ≡ m → inner_nexts L (e ∷ l) ≡ m
unfolding inner_nexts
outer-next L e z l h = ap (λ (b : Bool). cond b (inner_nexts L l) (L.next e ∷ inner_nexts L l)) (eq-eqb (L.face e) 0 z) ∙ h

no-next : (L : Links) → inner_nexts L [] ≡ []
unfolding inner_nexts
no-next L = refl

-- the out edges of the vertex v, k of them, from x on
module _ {C : Counts} {L : Links} (W : Wf C L) {v : ℕ} (h : v < C.vertices) where
  walk-out : {x k : ℕ} → L.out v ≡ x → Period (turn L) x k → walk (spokes C L v) (turn L) (L.out v) ≡ walk k (turn L) x
  walk-out {x} {k} q P =
      ap₂ (λ (n a : ℕ). walk n (turn L) a)
      (period-unique (period-is (turn-inverse C L W.ranges W.links) (W.ranges.out< h)) (subst (λ (y : ℕ). Period (turn L) y k) (sym q) P)) q

  list-three : {x y z p q r : ℕ} → StarThree L v x y z p q r → star_edges C L v ≡ inner_nexts L (x ∷ y ∷ z ∷ [])
  unfolding star_edges walk
  list-three {x} S = ap (inner_nexts L) (walk-out S.out S.round ∙ ap₂ (λ (a b : ℕ). x ∷ a ∷ b ∷ []) S.turn-x (ap (turn L) S.turn-x ∙ S.turn-y))

  list-four : {w x y z o p q r : ℕ} → StarFour L v w x y z o p q r → star_edges C L v ≡ inner_nexts L (w ∷ x ∷ y ∷ z ∷ [])
  unfolding star_edges walk
  list-four {w} {x} S =
      let a = S.turn-w in let b = ap (turn L) a ∙ S.turn-x in let c = ap (turn L) b ∙ S.turn-y in
      ap (inner_nexts L)
      (walk-out S.out S.round ∙ ap (λ (a : ℕ). w ∷ a ∷ turn L (turn L w) ∷ turn L (turn L (turn L w)) ∷ []) a
      ∙ ap₂ (λ (b c : ℕ). w ∷ x ∷ b ∷ c ∷ []) b c)

  -- three triangles, or two and the outer face
  pub star-three : {x y z p q r : ℕ} → StarThree L v x y z p q r → 0 < L.face x → 0 < L.face y → 0 < L.face z
      → star_edges C L v ≡ p ∷ q ∷ r ∷ []
  star-three {x} {y} {z} S i j k =
      list-three S
      ∙ inner-next L x i S.next-x (y ∷ z ∷ []) (inner-next L y j S.next-y (z ∷ []) (inner-next L z k S.next-z [] (no-next L)))

  pub star-two : {x y z p q r : ℕ} → StarThree L v x y z p q r → 0 < L.face x → 0 < L.face y → L.face z ≡ 0
      → star_edges C L v ≡ p ∷ q ∷ []
  star-two {x} {y} {z} S i j k =
      list-three S ∙ inner-next L x i S.next-x (y ∷ z ∷ []) (inner-next L y j S.next-y (z ∷ []) (outer-next L z k [] (no-next L)))

  pub star-four : {w x y z o p q r : ℕ} → StarFour L v w x y z o p q r → 0 < L.face w → 0 < L.face x → 0 < L.face y → 0 < L.face z
      → star_edges C L v ≡ o ∷ p ∷ q ∷ r ∷ []
  star-four {w} {x} {y} {z} S h i j k =
      list-four S
      ∙ inner-next L w h S.next-w (x ∷ y ∷ z ∷ []) (inner-next L x i S.next-x (y ∷ z ∷ [])
      (inner-next L y j S.next-y (z ∷ []) (inner-next L z k S.next-z [] (no-next L))))

-- ---- after each operation
module _ {C : Counts} {L : Links} (W : Wf C L) where
  -- e1, e2 and e0 of the face
  pub triangle-star : {f : ℕ} → 0 < f → f < C.faces → (let a = L.adjacent f in
      star_edges (with_inner_vertex C) (insert_into_triangle L C f) C.vertices ≡ L.next a ∷ L.next (L.next a) ∷ a ∷ [])
  triangle-star {f} i l =
      let F = insert-into-triangle-is W i l in let s = W.some in let t = W.faces.stored l in
      star-three (insert-into-triangle-keeps W i l) (omega arith) (insert-into-triangle-star W i l)
      (let q = F.face-vb in omega arith) (let q = F.face-vc in omega arith) (let q = F.face-va in omega arith)

  -- tn, tp, en and ep
  pub edge-star : {e : ℕ} → Splittable C L e
      → star_edges (with_inner_vertex C) (split_edge L C e) C.vertices ≡ L.next (rev e) ∷ L.prev (rev e) ∷ L.next e ∷ L.prev e ∷ []
  edge-star {e} S =
      let F = split-edge-is W S in let s = W.some in let a = S.inner-left in let b = S.inner-right in
      star-four (split-edge-keeps W S) (omega arith) (split-edge-star W S)
      (let q = F.face-t in omega arith) (let q = F.face-t1 in omega arith) (let q = F.face-t2 in omega arith) (let q = F.face-t3 in omega arith)

  -- en and ep
  pub half-edge-star : {e : ℕ} → In C e → 0 < L.face e → L.face (rev e) ≡ 0
      → star_edges (with_vertex C) (split_half_edge L C e) C.vertices ≡ L.next e ∷ L.prev e ∷ []
  half-edge-star {e} l i z =
      let F = split-half-edge-is W l i z in let s = W.some in let j = rev-in C l in
      let n = W.ranges.next< l in
      star-two (split-half-edge-keeps W l i z) (omega arith) (split-half-edge-star W l i z)
      (let q = F.face-e2 in omega arith) (let q = F.face-t1 in omega arith)
      (F.face-rest (λ q. omega arith, (λ q. omega arith, (λ q. omega arith, (λ q. omega arith, (λ q. apart q, tt))))) ∙ z)
    where
      apart : rev e ≡ L.next e → ⊥
      apart q = let f = W.links.face-next l in let g : L.face (L.next e) ≡ 0 = ap L.face (sym q) ∙ z in omega arith
