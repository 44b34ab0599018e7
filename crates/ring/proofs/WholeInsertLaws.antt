-- Laws of specs/WholeInsert.antt.
use Rattle.std.specs.Prelude.{◌≡◌, refl, ◌≢◌, ◌⊎◌, Bool, true, false, cond, ℕ, suc, ◌+◌, ◌-◌, ◌%◌, ◌<◌, ◌≤◌, T}
use Rattle.std.proofs.Common.{sym, ◌∙◌, ap, subst, inl, inr, arith}
use Rattle.std.proofs.Math.Decide.{ℕ_discrete}
use Rattle.ring.specs.Ring.{proper}
use Rattle.ring.specs.Splice.{FitSplice}
use Rattle.ring.specs.Buckets.{ceiling, within}
use Rattle.ring.specs.Node.{NodeTable, nodes}
use Rattle.ring.specs.Insert.{On, Insertion, Named, Stay}
use Rattle.ring.proofs.InsertLaws.{ring-sole, size-old, left-some}
use Rattle.ring.specs.Inserted.{Rebucketed}
use Rattle.ring.proofs.InsertedLaws.{size-new, left-node, left-node-stays}
use Rattle.ring.specs.Stores.{Before}
use Rattle.ring.proofs.StoresLaws.{stored, edge-else, start_right}
use Rattle.ring.specs.Free.{Free, free-same, Pushed, pushed, Taken}
use Rattle.ring.proofs.FreeLaws.{taken, taken-sum, taken-fresh, free_stays, free-goes}
use Rattle.ring.specs.Hull.{HullFrom}
use Rattle.ring.proofs.HullLaws.{hull-insert, before, tables}
use Rattle.sums.specs.Bit.{bit}
use Rattle.sums.specs.Iterate.{iter}
use Rattle.ring.specs.WholeInsert.{Stack, InsertParts}

-- ---- two loops over buckets, one after the other
pub rebucketed : {bucket bucket₁ bucket' : ℕ → ℕ} {B L Q R a v : ℕ}
    → ((i : ℕ) → i < B → bucket₁ i ≡ cond (within i L Q) a (bucket i))
    → ((i : ℕ) → i < B → bucket' i ≡ cond (within i Q R) v (bucket₁ i))
    → Rebucketed bucket bucket' B L Q R a v
rebucketed {bucket} {bucket₁} {bucket'} {B} {L} {Q} {R} {a} {v} f g = record {
  new = λ i l t. g i l ∙ yes-is (within i Q R) t v (bucket₁ i);
  left = λ i l z t. g i l ∙ no-is (within i Q R) z v (bucket₁ i) ∙ f i l ∙ yes-is (within i L Q) t a (bucket i);
  old = λ i l z y. g i l ∙ no-is (within i Q R) z v (bucket₁ i) ∙ f i l ∙ no-is (within i L Q) y a (bucket i);
}
  where
    yes-is : (t : Bool) → T t → (x y : ℕ) → cond t x y ≡ x
    yes-is true u x y = refl
    yes-is false u x y = absurd u

    no-is : (t : Bool) → bit t ≡ 0 → (x y : ℕ) → cond t x y ≡ y
    no-is true u x y = absurd (omega arith)
    no-is false u x y = refl

-- ---- the new node is none of those that stay
module _ {N : ℕ} {next α next' α' : ℕ → ℕ} {τ : NodeTable} {bucket : ℕ → ℕ} {x : Insertion} {S S' : Stack} {e m n l p q r B w : ℕ}
    (H : HullFrom N next α τ bucket e (m + n) x.left B w) (P : FitSplice N next α next' α' e m n l p q r) (q-low : q ≤ N)
    (I : InsertParts τ x S S' (nodes next α m e) (nodes next α (m + n) e) (α e) q) where
  abbrev chain : ℕ
  chain = nodes next α m e

  abbrev rest : ℕ
  rest = nodes next α n r

  abbrev after : ℕ
  after = nodes next' α' (suc (suc n)) l

  size : nodes next α (m + n) e ≡ nodes next α m e + nodes next α n r
  size = size-old H.ring P I.right_is

  some : 0 < nodes next α m e
  some = left-some H.ring P I.right_is

  free-between : Free (Stay τ x (nodes next α n r)) I.between (S.count + (nodes next α m e - 1)) S.used
  free-between =
      pushed τ x rest some I.right_is
      (λ i j a b z. ring-sole H.ring i j (let g = size in omega arith) (let g = size in omega arith) (ap τ.angle z))
      (subst (λ (i : ℕ). Free (On τ.right i x.left) S.entry S.count S.used) size I.free) I.pushed-between

  fresh : (y : ℕ) → Stay τ x (nodes next α n r) y → y ≢ x.new
  fresh y t z = taken-fresh free-between I.taken-new (subst (Stay τ x rest) z t)

  known : Before τ x (nodes next α m e) (nodes next α n r) (α e) q
  known = before H P q-low I.right_is fresh I.names.named

  count : nodes next' α' (suc (suc n)) l ≡ bit (proper (α e) q) + 1 + nodes next α n r
  count = size-new H.ring P I.right_is (tables H P q-low I.right_is fresh I.names.named)

  -- ---- THE STACK
  pub insert-keeps-freed :
      Free (On (stored τ x l p q).right (nodes next' α' (suc (suc n)) l) x.start) S'.entry S'.count S'.used
  insert-keeps-freed = go (ℕ_discrete (α e) q)
    where
      free-taken : Free (λ y. Stay τ x rest y ⊎ (y ≡ x.new)) I.between I.left_over S'.used
      free-taken = taken free-between I.taken-new

      of : (i : ℕ) → i ≡ after → (k : ℕ) → k ≡ S'.count
          → Free (On (stored τ x l p q).right i x.start) S'.entry k S'.used
          → Free (On (stored τ x l p q).right after x.start) S'.entry S'.count S'.used
      of i u k v F = rw (← u, ← v) F

      go : Dec (α e ≡ q) → Free (On (stored τ x l p q).right after x.start) S'.entry S'.count S'.used
      go (yes z) =
          let b = left-node (α e) q z in let c = count in
          of (suc rest) (omega arith) (suc I.left_over) (sym (I.names.more z).0)
          (free-goes known l p z I.names.stack (I.names.more z).1 free-taken)
      go (no z) =
          let b = left-node-stays (α e) q z in let c = count in
          of (suc (suc rest)) (omega arith) I.left_over (sym (I.names.same z))
          (free-same I.names.stack (free_stays known l p z free-taken))

  -- what is on the stack as before has its edge as before
  new-on : On (stored τ x l p q).right (nodes next' α' (suc (suc n)) l) x.start x.new
  new-on = go (ℕ_discrete (α e) q)
    where
      go : Dec (α e ≡ q) → On (stored τ x l p q).right after x.start x.new
      go (yes z) = (0, (let a = count in omega arith), I.names.named.start-goes z)
      go (no z) = (1, (let a = count in let b = left-node-stays (α e) q z in omega arith), start_right known l p z)

  entry-same : (j : ℕ) → j < S.count - 1 → S'.entry j ≡ S.entry j
  entry-same j u = I.names.stack j (go (taken-sum I.taken-new)) ∙ I.pushed-between.old j (omega arith)
    where
      go : ((S.count + (chain - 1) ≡ suc I.left_over) × (S'.used ≡ S.used)) ⊎
          ((S.count + (chain - 1) ≡ 0) × (I.left_over ≡ 0) × (S'.used ≡ suc S.used)) → j < I.left_over
      go (inl y) = omega arith
      go (inr y) = omega arith

  pub insert-keeps-edge : (j : ℕ) → j < S.count - 1 → j < S'.count
      → (stored τ x l p q).edge (S'.entry j) ≡ τ.edge (S.entry j)
  insert-keeps-edge j u w =
      let y = S'.entry j in
      edge-else known l p y
      (λ z. I.free.dead j (omega arith) (0, (let a = size in let b = some in omega arith), sym z ∙ entry-same j u))
      (λ z. insert-keeps-freed.dead j w (subst (On (stored τ x l p q).right after x.start) (sym z) new-on))
      ∙ ap τ.edge (entry-same j u)

  -- no number is lost
  pub insert-keeps-total : nodes next α (m + n) e + S.count ≡ S.used → nodes next' α' (suc (suc n)) l + S'.count ≡ S'.used
  insert-keeps-total g = go (ℕ_discrete (α e) q) (taken-sum I.taken-new)
    where
      -- the left edge has a node, or one more is freed
      left-sum : Dec (α e ≡ q) → bit (proper (α e) q) + S'.count ≡ suc I.left_over
      left-sum (yes z) = let b = left-node (α e) q z in let i = (I.names.more z).0 in omega arith
      left-sum (no z) = let b = left-node-stays (α e) q z in let i = I.names.same z in omega arith

      go : Dec (α e ≡ q)
          → ((S.count + (chain - 1) ≡ suc I.left_over) × (S'.used ≡ S.used)) ⊎
          ((S.count + (chain - 1) ≡ 0) × (I.left_over ≡ 0) × (S'.used ≡ suc S.used))
          → after + S'.count ≡ S'.used
      go d (inl y) = let a = left-sum d in let b = count in let c = size in let h = some in omega arith
      go d (inr y) = let a = left-sum d in let b = count in let c = size in let h = some in omega arith

  -- the numbers in use pass none that the nodes of the longest ring and one more need
  pub insert-keeps-len : nodes next α (m + n) e + S.count ≡ S.used
      → {top : ℕ} → nodes next α (m + n) e ≤ top → S.used ≤ suc top → S'.used ≤ suc top
  insert-keeps-len g {top} a b = go (taken-sum I.taken-new)
    where
      go : ((S.count + (chain - 1) ≡ suc I.left_over) × (S'.used ≡ S.used)) ⊎
          ((S.count + (chain - 1) ≡ 0) × (I.left_over ≡ 0) × (S'.used ≡ suc S.used)) → S'.used ≤ suc top
      go (inl y) = omega arith
      go (inr y) = omega arith

  -- ---- THE HULL
  pub insert-keeps-hull : {bucket' : ℕ → ℕ}
      → Rebucketed bucket bucket' B (ceiling w (α e) % B) (ceiling w q % B) (ceiling w (α r) % B) x.start x.new
      → HullFrom N next' α' (stored τ x l p q) bucket' l (suc (suc n)) x.start B w
  insert-keeps-hull U = hull-insert H P q-low I.right_is fresh I.names.named U
