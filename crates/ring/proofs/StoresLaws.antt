-- Laws of specs/Stores.antt.
use Rattle.std.specs.Prelude.{◌≡◌, refl, ◌≢◌, Bool, cond, ℕ, zero, suc, ◌+◌, ◌-◌, ◌<◌, eqb}
use Rattle.std.proofs.Common.{sym, ◌∙◌, ap, subst, inl, inr, arith, eq-eqb, ne_eqb}
use Rattle.std.proofs.Math.Decide.{ℕ_discrete, dec_lt}
use Rattle.ring.specs.Node.{NodeTable}
use Rattle.ring.specs.Insert.{Insertion, Named, Stay, rest_node}
use Rattle.ring.specs.Inserted.{Inserted}
use Rattle.sums.specs.Iterate.{iter}
use Rattle.sums.proofs.IterateLaws.{iter-add, iter-ext, iter-last}
use Rattle.sums.specs.Put.{put}
use Rattle.sums.proofs.PutLaws.{put_same, put_other}
use Rattle.ring.specs.Stores.{Linked, Before}

-- ---- the nodes of the rest
module _ {τ : NodeTable} {x : Insertion} {c k al q : ℕ} (B : Before τ x c k al q) where
  at : (d : ℕ) → rest_node τ x d ≡ iter (c + d) τ.right x.left
  at d = ap (iter d τ.right) (sym B.right_is) ∙ sym (iter-add c d τ.right x.left)

  rest-apart : (i j : ℕ) → i < k → j < k → rest_node τ x i ≡ rest_node τ x j → i ≡ j
  rest-apart i j l m e = let z = B.apart (c + i) (c + j) (omega arith) (omega arith) (sym (at i) ∙ e ∙ at j) in omega arith

  pub not_left : (d : ℕ) → d < k → rest_node τ x d ≢ x.left
  not_left d l e = let z = B.apart (c + d) 0 (omega arith) (omega arith) (sym (at d) ∙ e) in let h = B.some in omega arith

  rest-link : (d : ℕ) → d < k → τ.left (τ.right (rest_node τ x d)) ≡ rest_node τ x d
  rest-link d l = rw (at d) (B.links (c + d) (omega arith))

  -- the last of them is the node before the left one
  last-right : (d : ℕ) → suc d ≡ k → τ.right (rest_node τ x d) ≡ x.left
  last-right d e = sym (iter-last d τ.right x.right) ∙ ap (rest_node τ x) e ∙ B.round

  last-left : (d : ℕ) → suc d ≡ k → τ.left x.left ≡ rest_node τ x d
  last-left d e = ap τ.left (sym (last-right d e)) ∙ rest-link d (omega arith)

  not-before : (d : ℕ) → suc d < k → rest_node τ x d ≢ x.before
  not-before d l e = go (ℕ_discrete al q)
    where
      go : Dec (al ≡ q) → ⊥
      go (yes z) =
          let w : suc (k - 1) ≡ k = omega arith in
          let i = rest-apart d (k - 1) (omega arith) (omega arith) (e ∙ B.named.before-goes z ∙ last-left (k - 1) w) in
          omega arith
      go (no z) = not_left d (omega arith) (e ∙ B.named.before-stays z)

  -- none is the new node
  rest-fresh : (d : ℕ) → d < k → rest_node τ x d ≢ x.new
  rest-fresh d l = B.fresh (rest_node τ x d) (inr (d, l, refl))

  pub left-fresh : x.left ≢ x.new
  left-fresh = B.fresh x.left (inl refl)

  before-fresh : x.before ≢ x.new
  before-fresh e = go (ℕ_discrete al q)
    where
      go : Dec (al ≡ q) → ⊥
      go (yes z) =
          let m = B.more in let w : suc (k - 1) ≡ k = omega arith in
          rest-fresh (k - 1) (omega arith) (sym (B.named.before-goes z ∙ last-left (k - 1) w) ∙ e)
      go (no z) = left-fresh (sym (B.named.before-stays z) ∙ e)

-- ---- THE STORES: the new node, of the edge p and the angle q, between the one before it and the right one, and the edge
-- l in the start, if that is another node
abbrev pub stored : NodeTable → Insertion → ℕ → ℕ → ℕ → NodeTable
stored τ x l p q =
    let edge = put τ.edge x.new p in
    record {
      left = put (put τ.left x.new x.before) x.right x.new;
      right = put (put τ.right x.new x.right) x.before x.new;
      angle = put τ.angle x.new q;
      edge = cond (eqb x.start x.new) edge (put edge x.start l);
    }

put-neither : (f : ℕ → ℕ) (a b c d y : ℕ) → y ≢ a → y ≢ c → put (put f a b) c d y ≡ f y
put-neither f a b c d y m n = put_other (put f a b) c d y n ∙ put_other f a b y m

module _ {τ : NodeTable} {x : Insertion} {c k al q : ℕ} (B : Before τ x c k al q) (l p : ℕ) where
  abbrev τ' : NodeTable
  τ' = stored τ x l p q

  -- ---- node by node
  right-before : τ'.right x.before ≡ x.new
  right-before = put_same (put τ.right x.new x.right) x.before x.new

  pub right_new : τ'.right x.new ≡ x.right
  right_new =
      put_other (put τ.right x.new x.right) x.before x.new x.new (λ z. before-fresh B (sym z))
      ∙ put_same τ.right x.new x.right

  right-else : (y : ℕ) → y ≢ x.before → y ≢ x.new → τ'.right y ≡ τ.right y
  right-else y m n = put-neither τ.right x.new x.right x.before x.new y n m

  left-new : τ'.left x.new ≡ x.before
  left-new =
      put_other (put τ.left x.new x.before) x.right x.new x.new (λ z. rest-fresh B 0 B.more (sym z))
      ∙ put_same τ.left x.new x.before

  left-right : τ'.left x.right ≡ x.new
  left-right = put_same (put τ.left x.new x.before) x.right x.new

  left-else : (y : ℕ) → y ≢ x.new → y ≢ x.right → τ'.left y ≡ τ.left y
  left-else = put-neither τ.left x.new x.before x.right x.new

  -- the edges, as the left node goes or stays
  abbrev edges : Bool → ℕ → ℕ
  edges b = let edge = put τ.edge x.new p in cond b edge (put edge x.start l)

  edge_goes : al ≡ q → τ'.edge ≡ put τ.edge x.new p
  edge_goes z = ap edges (eq-eqb x.start x.new (B.named.start-goes z))

  edge_stays : al ≢ q → τ'.edge ≡ put (put τ.edge x.new p) x.left l
  edge_stays z =
      ap edges (ne_eqb x.start x.new (λ e. left-fresh B (sym (B.named.start-stays z) ∙ e)))
      ∙ ap (λ (y : ℕ). put (put τ.edge x.new p) y l) (B.named.start-stays z)

  edge-new : τ'.edge x.new ≡ p
  edge-new = go (ℕ_discrete al q)
    where
      go : Dec (al ≡ q) → τ'.edge x.new ≡ p
      go (yes z) = rw (edge_goes z) (put_same τ.edge x.new p)
      go (no z) =
          rw (edge_stays z)
          (put_other (put τ.edge x.new p) x.left l x.new (λ e. left-fresh B (sym e)) ∙ put_same τ.edge x.new p)

  pub edge-else : (y : ℕ) → y ≢ x.left → y ≢ x.new → τ'.edge y ≡ τ.edge y
  edge-else y m n = go (ℕ_discrete al q)
    where
      go : Dec (al ≡ q) → τ'.edge y ≡ τ.edge y
      go (yes z) = rw (edge_goes z) (put_other τ.edge x.new p y n)
      go (no z) = rw (edge_stays z) (put-neither τ.edge x.new p x.left l y n m)

  -- ---- their links to the right after the stores
  right-rest : (d : ℕ) → suc d < k → τ'.right (rest_node τ x d) ≡ τ.right (rest_node τ x d)
  right-rest d l = right-else (rest_node τ x d) (not-before B d l) (rest-fresh B d (omega arith))

  right-last : (d : ℕ) → suc d ≡ k → τ'.right (rest_node τ x d) ≡ x.start
  right-last d e = go (ℕ_discrete al q)
    where
      dk : d < k
      dk = omega arith

      go : Dec (al ≡ q) → τ'.right (rest_node τ x d) ≡ x.start
      go (yes z) =
          ap τ'.right (sym (last-left B d e) ∙ sym (B.named.before-goes z)) ∙ right-before ∙ sym (B.named.start-goes z)
      go (no z) =
          right-else (rest_node τ x d) (λ y. not_left B d dk (y ∙ B.named.before-stays z)) (rest-fresh B d dk)
          ∙ last-right B d e ∙ sym (B.named.start-stays z)

  pub rest-same : (d : ℕ) → d < k → iter d τ'.right x.right ≡ rest_node τ x d
  rest-same d l = iter-ext τ.right τ'.right d x.right (λ j m. right-rest j (omega arith))

  -- where the left node stays, it is the start and leads to the new one
  pub start_right : al ≢ q → τ'.right x.start ≡ x.new
  start_right z = ap τ'.right (B.named.start-stays z ∙ sym (B.named.before-stays z)) ∙ right-before

  -- ---- THE TABLES
  pub stores-inserted : τ.angle x.left ≡ al → Inserted τ (stored τ x l p q) x k l p q al
  stores-inserted left-angle = record {
    edge-rest = λ j h. edge-else (rest_node τ x j) (not_left B j h) (rest-fresh B j h);
    angle-rest = λ j h. put_other τ.angle x.new q (rest_node τ x j) (rest-fresh B j h);
    right-rest = right-rest;
    right-last = right-last;
    new-edge = edge-new;
    new-angle = put_same τ.angle x.new q;
    new-right = right_new;
    start-goes = B.named.start-goes;
    start-edge = λ z. rw (edge_stays z, B.named.start-stays z) (put_same (put τ.edge x.new p) x.left l);
    start-angle = λ z. rw (B.named.start-stays z) (put_other τ.angle x.new q x.left (left-fresh B) ∙ left-angle);
    start_right = start_right;
  }

  -- ---- THE LINKS TO THE LEFT, of the rest, from the right node, from the new one, and from the start
  linked-rest : (d : ℕ) → d < k → τ'.left (τ'.right (rest_node τ x d)) ≡ rest_node τ x d
  linked-rest d l = go (dec_lt (suc d) k)
    where
      next : τ.right (rest_node τ x d) ≡ rest_node τ x (suc d)
      next = sym (iter-last d τ.right x.right)

      start_left : suc d ≡ k → Dec (al ≡ q) → τ'.left x.start ≡ rest_node τ x d
      start_left e (yes z) = ap τ'.left (B.named.start-goes z) ∙ left-new ∙ B.named.before-goes z ∙ last-left B d e
      start_left e (no z) =
          ap τ'.left (B.named.start-stays z)
          ∙ left-else x.left (left-fresh B) (λ y. not_left B 0 B.more (sym y)) ∙ last-left B d e

      go : Dec (suc d < k) → τ'.left (τ'.right (rest_node τ x d)) ≡ rest_node τ x d
      go (yes m) =
          let far : τ.right (rest_node τ x d) ≢ x.right = λ z.
          (let i = rest-apart B (suc d) 0 m (omega arith) (sym next ∙ z) in omega arith) in
          ap τ'.left (right-rest d m)
          ∙ left-else (τ.right (rest_node τ x d)) (λ z. rest-fresh B (suc d) m (sym next ∙ z)) far ∙ rest-link B d l
      go (no m) = let e : suc d ≡ k = omega arith in ap τ'.left (right-last d e) ∙ start_left e (ℕ_discrete al q)

  linked-right : Linked τ' x.right k
  linked-right i l = rw (rest-same i l) (linked-rest i l)

  linked-new : Linked τ' x.new (suc k)
  linked-new zero l = ap τ'.left right_new ∙ left-right
  linked-new (suc i) l = rw right_new (linked-right i (omega arith))

  pub linked-goes : al ≡ q → Linked τ' x.start (suc k)
  linked-goes z = subst (λ (y : ℕ). Linked τ' y (suc k)) (sym (B.named.start-goes z)) linked-new

  pub linked-stays : al ≢ q → Linked τ' x.start (suc (suc k))
  linked-stays z zero l =
      ap τ'.left (start_right z) ∙ left-new ∙ B.named.before-stays z ∙ sym (B.named.start-stays z)
  linked-stays z (suc i) l = rw (start_right z) (linked-new i (omega arith))
