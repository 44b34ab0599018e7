-- FREED NODES: a stack of node numbers that are not in use. An insert pushes the nodes strictly between the left and
-- the right one, takes the top one, or the next number if there is none, for the new node, and pushes the left node if
-- its angle is the new one. So the new node is none of those that stay, and the stack is right for the new ring.
-- Assumes nothing.
use Rattle.std.specs.Prelude.{◌≡◌, refl, ◌≢◌, ◌⊎◌, Bool, ℕ, zero, suc, ◌+◌, ◌-◌, ◌<◌, eqb}
use Rattle.std.proofs.Common.{sym, ◌∙◌, ap, subst, inl, inr, arith, eqb→eq}
use Rattle.std.proofs.Math.Decide.{ℕ_discrete, dec_lt}
use Rattle.ring.specs.Node.{NodeTable}
use Rattle.ring.specs.Insert.{On, Insertion, Stay, rest_node}
use Rattle.ring.specs.Stores.{Before}
use Rattle.sums.proofs.BitLaws.{eq_test, sure}
use Rattle.sums.specs.Bounded.{any_below}
use Rattle.sums.proofs.BoundedLaws.{any-below→, none-below→}
use Rattle.sums.specs.Iterate.{iter}
use Rattle.sums.proofs.IterateLaws.{iter-add}
use Rattle.sums.specs.Listed.{pigeonhole}
use Rattle.sums.proofs.ListedLaws.{listed-join}
use Rattle.sums.specs.Put.{put}
use Rattle.sums.proofs.PutLaws.{put_same, put_other}

-- ---- the stack of freed nodes, against a set of nodes that are in use: freed 0 .. freed (n - 1), of the numbers below len
pub record Free (Live : ℕ → Type 0) (freed : ℕ → ℕ) (n len : ℕ) : Type 0 where
  pub live_below : (x : ℕ) → Live x → x < len
  pub below : (j : ℕ) → j < n → freed j < len
  pub dead : (j : ℕ) → j < n → Live (freed j) → ⊥
  pub once : (i j : ℕ) → i < n → j < n → freed i ≡ freed j → i ≡ j

-- fewer are in use; one more is freed; the top one is taken; none is left, and the next number is taken
pub free-fewer : {Live Live' : ℕ → Type 0} {freed : ℕ → ℕ} {n len : ℕ} → ((x : ℕ) → Live' x → Live x)
    → Free Live freed n len → Free Live' freed n len
free-fewer f A =
    record { live_below = λ x l. A.live_below x (f x l); below = A.below; dead = λ j l t. A.dead j l (f _ t); once = A.once }

pub free-push : {Live : ℕ → Type 0} {freed freed' : ℕ → ℕ} {n len : ℕ} (x : ℕ) → x < len → (Live x → ⊥)
    → ((j : ℕ) → j < n → freed j ≢ x) → ((j : ℕ) → j < n → freed' j ≡ freed j) → freed' n ≡ x
    → Free Live freed n len → Free Live freed' (suc n) len
free-push {Live} {freed} {freed'} {n} {len} x xl off new same top A = record {
  live_below = A.live_below;
  below = λ j l. low j l (ℕ_discrete j n);
  dead = λ j l t. gone j l t (ℕ_discrete j n);
  once = λ i j l m z. only i j l m z (ℕ_discrete i n) (ℕ_discrete j n);
}
  where
    at : (j : ℕ) → j ≡ n → freed' j ≡ x
    at j z = ap freed' z ∙ top

    low : (j : ℕ) → j < suc n → Dec (j ≡ n) → freed' j < len
    low j l (yes z) = subst (λ (y : ℕ). y < len) (sym (at j z)) xl
    low j l (no z) = subst (λ (y : ℕ). y < len) (sym (same j (omega arith))) (A.below j (omega arith))

    gone : (j : ℕ) → j < suc n → Live (freed' j) → Dec (j ≡ n) → ⊥
    gone j l t (yes z) = off (subst Live (at j z) t)
    gone j l t (no z) = A.dead j (omega arith) (subst Live (same j (omega arith)) t)

    only : (i j : ℕ) → i < suc n → j < suc n → freed' i ≡ freed' j → Dec (i ≡ n) → Dec (j ≡ n) → i ≡ j
    only i j l m z (yes a) (yes b) = a ∙ sym b
    only i j l m z (yes a) (no b) = absurd (new j (omega arith) (sym (same j (omega arith)) ∙ sym z ∙ at i a))
    only i j l m z (no a) (yes b) = absurd (new i (omega arith) (sym (same i (omega arith)) ∙ z ∙ at j b))
    only i j l m z (no a) (no b) = A.once i j (omega arith) (omega arith) (sym (same i (omega arith)) ∙ z ∙ same j (omega arith))

pub free-same : {Live : ℕ → Type 0} {freed freed' : ℕ → ℕ} {n len : ℕ} → ((j : ℕ) → j < n → freed' j ≡ freed j)
    → Free Live freed n len → Free Live freed' n len
free-same {Live} {freed} {freed'} {n} {len} same A = record {
  live_below = A.live_below;
  below = λ j l. subst (λ (x : ℕ). x < len) (sym (same j l)) (A.below j l);
  dead = λ j l t. A.dead j l (subst Live (same j l) t);
  once = λ i j l m z. A.once i j l m (sym (same i l) ∙ z ∙ same j m);
}

-- ---- the m nodes of a ring and the freed ones are all numbers below len: one that is not freed is in the ring
pub free-rest : {right freed : ℕ → ℕ} {m s n len : ℕ}
    → ((i j : ℕ) → i < m → j < m → iter i right s ≡ iter j right s → i ≡ j)
    → Free (On right m s) freed n len → m + n ≡ len
    → (x : ℕ) → x < len → ((j : ℕ) → j < n → freed j ≢ x) → On right m s x
free-rest {right} {freed} {m} {s} {n} {len} apart A total x l other =
    let r = any-below→ m here (sure (any_below m here) (λ none. more (λ o. none-below→ m here none o.0 o.1 (eq_test o.2)))) in
    (r.0, r.1, eqb→eq (iter r.0 right s) x r.2)
  where
    here : ℕ → Bool
    here k = eqb (iter k right s) x

    -- else it could be freed too, and there were len + 1 of them
    more : (On right m s x → ⊥) → ⊥
    more off =
        let B = free-push x l off other (λ j u. put_other freed n x j (λ z. omega arith)) (put_same freed n x) A in
        let h = pigeonhole len (m + suc n) _
        (listed-join (record { below = λ k u. A.live_below (iter k right s) (k, u, refl); once = apart })
        (record { below = B.below; once = B.once }) (λ j k u v z. B.dead k v (j, u, z))) in
        omega arith

-- ---- the nodes strictly between s and t are pushed, in order
pub record Pushed (right freed freed' : ℕ → ℕ) (s c n : ℕ) : Type 0 where
  pub old : (j : ℕ) → j < n → freed' j ≡ freed j
  pub new : (i : ℕ) → suc i < c → freed' (n + i) ≡ iter (suc i) right s

module _ (τ : NodeTable) (x : Insertion) {freed freed' : ℕ → ℕ} {c n len : ℕ} (k : ℕ)
    (some : 0 < c) (right_is : iter c τ.right x.left ≡ x.right)
    (apart : (i j : ℕ) → i < c + k → j < c + k → iter i τ.right x.left ≡ iter j τ.right x.left → i ≡ j)
    (A : Free (On τ.right (c + k) x.left) freed n len) (P : Pushed τ.right freed freed' x.left c n) where
  at : (d : ℕ) → rest_node τ x d ≡ iter (c + d) τ.right x.left
  at d = ap (iter d τ.right) (sym right_is) ∙ sym (iter-add c d τ.right x.left)

  stays_on : (y : ℕ) → Stay τ x k y → On τ.right (c + k) x.left y
  stays_on y (inl z) = (0, omega arith, sym z)
  stays_on y (inr (d, l, z)) = (c + d, omega arith, sym (at d) ∙ z)

  between : (i : ℕ) → 0 < i → i < c → Stay τ x k (iter i τ.right x.left) → ⊥
  between i p l (inl z) = let y = apart i 0 (omega arith) (omega arith) z in omega arith
  between i p l (inr (d, m, z)) = let y = apart (c + d) i (omega arith) (omega arith) (sym (at d) ∙ z) in omega arith

  go : (i : ℕ) → i < c → Free (Stay τ x k) freed' (n + i) len
  go zero l = subst (λ (m : ℕ). Free (Stay τ x k) freed' m len) (nil n) (free-same P.old (free-fewer stays_on A))
    where
      nil : (n : ℕ) → n ≡ n + 0
      nil n = omega arith
  go (suc i) l =
      subst (λ (m : ℕ). Free (Stay τ x k) freed' m len) (one n i)
      (free-push y (A.live_below y (suc i, omega arith, refl)) (between (suc i) (omega arith) l) fresh (λ j m. refl)
      (P.new i l) (go i (omega arith)))
    where
      y : ℕ
      y = iter (suc i) τ.right x.left

      one : (n i : ℕ) → suc (n + i) ≡ n + suc i
      one n i = omega arith

      fresh : (j : ℕ) → j < n + i → freed' j ≢ y
      fresh j m z = which (dec_lt j n)
        where
          which : Dec (j < n) → ⊥
          which (yes u) = A.dead j u (suc i, omega arith, sym z ∙ P.old j u)
          which (no u) =
              let d = j - n in
              let e : n + d ≡ j = omega arith in
              let y = apart (suc d) (suc i) (omega arith) (omega arith) (sym (P.new d (omega arith)) ∙ ap freed' e ∙ z) in omega arith

  pub pushed : Free (Stay τ x k) freed' (n + (c - 1)) len
  pushed = go (c - 1) (omega arith)

-- ---- the new node: the top of the stack, or the next number
pub data Taken (freed : ℕ → ℕ) (n len : ℕ) : ℕ → ℕ → ℕ → Type 0 where
  top : {i : ℕ} → n ≡ suc i → Taken freed n len (freed i) i len
  next_one : n ≡ 0 → Taken freed n len len 0 (suc len)
