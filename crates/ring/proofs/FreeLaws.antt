-- Laws of specs/Free.antt.
use Rattle.std.specs.Prelude.{◌≡◌, refl, ◌≢◌, ◌⊎◌, Bool, ℕ, zero, suc, ◌+◌, ◌-◌, ◌<◌, eqb}
use Rattle.std.proofs.Common.{sym, ◌∙◌, ap, subst, inl, inr, arith, eqb→eq}
use Rattle.std.proofs.Math.Decide.{ℕ_discrete, dec_lt}
use Rattle.ring.specs.Node.{NodeTable}
use Rattle.ring.specs.Insert.{On, Insertion, Stay, rest_node}
use Rattle.ring.specs.Stores.{Before}
use Rattle.ring.proofs.StoresLaws.{stored, not_left, left-fresh, rest-same, right_new, start_right}
use Rattle.sums.proofs.BitLaws.{eq_test, sure}
use Rattle.sums.specs.Bounded.{any_below}
use Rattle.sums.proofs.BoundedLaws.{any-below→, none-below→}
use Rattle.sums.specs.Iterate.{iter}
use Rattle.sums.proofs.IterateLaws.{iter-add}
use Rattle.sums.specs.Listed.{pigeonhole}
use Rattle.sums.proofs.ListedLaws.{listed-join}
use Rattle.sums.specs.Put.{put}
use Rattle.sums.proofs.PutLaws.{put_same, put_other}
use Rattle.ring.specs.Free.{Free, free-fewer, free-push, Taken, top, next_one}

pub free-pop : {Live : ℕ → Type 0} {freed : ℕ → ℕ} {n len : ℕ} → Free Live freed (suc n) len
    → Free (λ x. Live x ⊎ (x ≡ freed n)) freed n len
free-pop {Live} {freed} {n} {len} A = record {
  live_below = λ x l. low x l;
  below = λ j l. A.below j (omega arith);
  dead = λ j l t. gone j l t;
  once = λ i j l m z. A.once i j (omega arith) (omega arith) z;
}
  where
    low : (x : ℕ) → Live x ⊎ (x ≡ freed n) → x < len
    low x (inl t) = A.live_below x t
    low x (inr z) = subst (λ (y : ℕ). y < len) (sym z) (A.below n (omega arith))

    gone : (j : ℕ) → j < n → Live (freed j) ⊎ (freed j ≡ freed n) → ⊥
    gone j l (inl t) = A.dead j (omega arith) t
    gone j l (inr z) = let e = A.once j n (omega arith) (omega arith) z in omega arith

pub free-fresh : {Live : ℕ → Type 0} {freed : ℕ → ℕ} {len : ℕ} → Free Live freed 0 len → Free (λ x. Live x ⊎ (x ≡ len)) freed 0 (suc len)
free-fresh {Live} {freed} {len} A =
    record { live_below = λ x l. low x l; below = λ j l. absurd (omega arith); dead = λ j l t. omega arith; once = λ i j l m z. absurd (omega arith) }
  where
    low : (x : ℕ) → Live x ⊎ (x ≡ len) → x < suc len
    low x (inl t) = let a = A.live_below x t in omega arith
    low x (inr z) = omega arith

pub taken-sum : {freed : ℕ → ℕ} {n len v n' len' : ℕ} → Taken freed n len v n' len'
    → ((n ≡ suc n') × (len' ≡ len)) ⊎ ((n ≡ 0) × (n' ≡ 0) × (len' ≡ suc len))
taken-sum (top e) = inl (e, refl)
taken-sum (next_one e) = inr (e, refl, refl)

pub taken-fresh : {Live : ℕ → Type 0} {freed : ℕ → ℕ} {n len v n' len' : ℕ} → Free Live freed n len
    → Taken freed n len v n' len' → Live v → ⊥
taken-fresh A (top {i = i} e) t = A.dead i (omega arith) t
taken-fresh {len = len} A (next_one e) t = let z = A.live_below len t in omega arith

pub taken : {Live : ℕ → Type 0} {freed : ℕ → ℕ} {n len v n' len' : ℕ} → Free Live freed n len
    → Taken freed n len v n' len' → Free (λ x. Live x ⊎ (x ≡ v)) freed n' len'
taken {Live} {freed} {n} {len} A (top {i = i} e) = free-pop (subst (λ (m : ℕ). Free Live freed m len) e A)
taken {Live} {freed} {n} {len} A (next_one e) = free-fresh (subst (λ (m : ℕ). Free Live freed m len) e A)

-- ---- the nodes of the new ring are the new one, the left one if it stays, and the rest
module _ {τ : NodeTable} {x : Insertion} {c k al q : ℕ} (B : Before τ x c k al q) (l p : ℕ) where
  abbrev right' : ℕ → ℕ
  right' = (stored τ x l p q).right

  from-new : (y d : ℕ) → d < k → iter d right' (right' x.new) ≡ y → On τ.right k x.right y
  from-new y d m z = (d, m, sym (rest-same B l p d m) ∙ ap (iter d right') (sym (right_new B l p)) ∙ z)

  live-goes : al ≡ q → (y : ℕ) → On right' (suc k) x.start y → On τ.right k x.right y ⊎ (y ≡ x.new)
  live-goes e y (zero, m, z) = inr (sym z ∙ B.named.start-goes e)
  live-goes e y (suc d, m, z) =
      inl (from-new y d (omega arith) (ap (λ (i : ℕ). iter d right' (right' i)) (sym (B.named.start-goes e)) ∙ z))

  live-stays : al ≢ q → (y : ℕ) → On right' (suc (suc k)) x.start y → Stay τ x k y ⊎ (y ≡ x.new)
  live-stays e y (zero, m, z) = inl (inl (sym z ∙ B.named.start-stays e))
  live-stays e y (suc zero, m, z) = inr (sym z ∙ start_right B l p e)
  live-stays e y (suc (suc d), m, z) =
      inl (inr (from-new y d (omega arith) (ap (λ (i : ℕ). iter d right' (right' i)) (sym (start_right B l p e)) ∙ z)))

  -- the stack after the insert
  pub free_stays : al ≢ q → {freed : ℕ → ℕ} {n len : ℕ} → Free (λ y. Stay τ x k y ⊎ (y ≡ x.new)) freed n len
      → Free (On (stored τ x l p q).right (suc (suc k)) x.start) freed n len
  free_stays e = free-fewer (live-stays e)

  pub free-goes : al ≡ q → {freed freed' : ℕ → ℕ} {n len : ℕ}
      → ((j : ℕ) → j < n → freed' j ≡ freed j) → freed' n ≡ x.left
      → Free (λ y. Stay τ x k y ⊎ (y ≡ x.new)) freed n len
      → Free (On (stored τ x l p q).right (suc k) x.start) freed' (suc n) len
  free-goes e same up A =
      free-push x.left (A.live_below x.left (inl (inl refl))) (λ o. gone (live-goes e x.left o))
      (λ j m z. A.dead j m (inl (inl z))) same up (free-fewer (λ y o. widen y (live-goes e y o)) A)
    where
      gone : On τ.right k x.right x.left ⊎ (x.left ≡ x.new) → ⊥
      gone (inl (d, m, z)) = not_left B d m z
      gone (inr a) = left-fresh B a

      widen : (y : ℕ) → On τ.right k x.right y ⊎ (y ≡ x.new) → Stay τ x k y ⊎ (y ≡ x.new)
      widen y (inl a) = inl (inr a)
      widen y (inr a) = inr a
