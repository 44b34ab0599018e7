-- Stores into a list, one after the other: `store h p v l` has v k at the index p k, for k from 0. With h a numeral and
-- p and v written out it computes to the code's nested `set`.
-- A store is a point update of the list seen as a function; walks over a list of links where a number is put in or
-- taken out. Assumes nothing.
use Rattle.std.specs.Prelude.{◌≡◌, refl, ◌≢◌, List, ℕ, zero, suc, ◌<◌, length, get_or, set}
use Rattle.std.proofs.Common.{sym, ◌∙◌, ap, le_refl, arith, length-set, get_or-set_same, get_or-set_other, lt-length-set}
use Rattle.std.proofs.Math.Path.{fun_ext}
use Rattle.std.proofs.Math.Decide.{ℕ_discrete}
use Rattle.sums.specs.Put.{put}
use Rattle.sums.proofs.PutLaws.{put_same, put_other}
use Rattle.sums.specs.Listed.{Listed}
use Rattle.sums.proofs.ListedLaws.{listed-first, entry}
use Rattle.sums.proofs.IterateLaws.{Reach, reach-insert, reach-bypass}

module _ {A : Type 0} where
  abbrev pub store : ℕ → (ℕ → ℕ) → (ℕ → A) → List A → List A
  store zero p v l = l
  store (suc h) p v l = set (store h p v l) (p h) (v h)

  pub length-store : (h : ℕ) (p : ℕ → ℕ) (v : ℕ → A) (l : List A) → length (store h p v l) ≡ length l
  length-store zero p v l = refl
  length-store (suc h) p v l = length-set (store h p v l) (p h) (v h) ∙ length-store h p v l

  -- an index that is stored to nowhere
  pub store-off : (h : ℕ) (p : ℕ → ℕ) (v : ℕ → A) (l : List A) (d : A) (z : ℕ) → ((k : ℕ) → k < h → z ≢ p k)
      → get_or (store h p v l) z d ≡ get_or l z d
  store-off zero p v l d z o = refl
  store-off (suc h) p v l d z o = get_or-set_other (store h p v l) (p h) z (v h) d (o h (le_refl (suc h))) ∙ store-off h p v l d z (λ k u. o k (omega arith))

  -- an index that is stored to once
  pub store_at : (h : ℕ) (p : ℕ → ℕ) (v : ℕ → A) (l : List A) (d : A) → Listed (length l) h p → (k : ℕ) → k < h
      → get_or (store h p v l) (p k) d ≡ v k
  store_at zero p v l d ls k u = absurd (omega arith)
  store_at (suc h) p v l d ls k u = go (store_at h p v l d (listed-first h (omega arith) ls) k) (ℕ_discrete h k)
    where
      fits : p h < length (store h p v l)
      fits = omega (arith, length-store h p v l, ls.below h (le_refl (suc h)))

      go : (k < h → get_or (store h p v l) (p k) d ≡ v k) → Dec (h ≡ k) → get_or (set (store h p v l) (p h) (v h)) (p k) d ≡ v k
      go ih (yes e) = ap (λ (j : ℕ). get_or (set (store h p v l) (p h) (v h)) (p j) d) (sym e) ∙ get_or-set_same (store h p v l) (p h) (v h) d fits ∙ ap v e
      go ih (no n) = get_or-set_other (store h p v l) (p h) (p k) (v h) d (λ q. n (sym (ls.once k h u (le_refl (suc h)) q))) ∙ ih (omega arith)

  -- a store is a point update of the list, seen as a function
  pub get_or-put : (l : List A) (d : A) (i : ℕ) (v : A) → i < length l → (λ y. get_or (set l i v) y d) ≡ put (λ y. get_or l y d) i v
  get_or-put l d i v u = fun_ext (λ y. go y (ℕ_discrete y i))
    where
      go : (y : ℕ) → Dec (y ≡ i) → get_or (set l i v) y d ≡ put (λ y. get_or l y d) i v y
      go y (yes e) = rw e (get_or-set_same l i v d u ∙ sym (put_same (λ y. get_or l y d) i v))
      go y (no n) = get_or-set_other l i y v d n ∙ sym (put_other (λ y. get_or l y d) i v y n)

-- ---- walks over a list of links: `entry l y` is the number after y
-- x is put in after y₀
pub reach-insert-list : (l : List ℕ) {x y₀ : ℕ} → x < length l → y₀ < length l → y₀ ≢ x
    → ((y : ℕ) → y < length l → entry l y < length l) → ((y : ℕ) → y < length l → y ≢ x → entry l y ≢ x)
    → {a b : ℕ} → a < length l → a ≢ x → Reach (entry l) a b → Reach (entry (set (set l y₀ x) x (entry l y₀))) a b
reach-insert-list l {x} {y₀} lx ly ne below fresh la na = reach-insert (λ y. (y < length l) × (y ≢ x)) x y₀ (λ y d. (below y d.0, fresh y d.0 d.1))
    (get_or-set_other (set l y₀ x) x y₀ (entry l y₀) 0 ne ∙ get_or-set_same l y₀ x 0 ly)
    (get_or-set_same (set l y₀ x) x (entry l y₀) 0 (lt-length-set l y₀ x lx))
    (λ y d o. get_or-set_other (set l y₀ x) x y (entry l y₀) 0 d.1 ∙ get_or-set_other l y₀ y x 0 o) (la, na)

-- x is taken out after y₀, the one number before it
pub reach-bypass-list : (l : List ℕ) {x y₀ : ℕ} → x < length l → y₀ < length l
    → ((y : ℕ) → y < length l → entry l y < length l) → entry l y₀ ≡ x
    → ((y : ℕ) → y < length l → entry l y ≡ x → y ≡ y₀)
    → {a b : ℕ} → a < length l → a ≢ x → b ≢ x → Reach (entry l) a b → Reach (entry (set l y₀ (entry l x))) a b
reach-bypass-list l {x} {y₀} lx ly below before sole = reach-bypass (λ y. y < length l) x below lx
    (λ y d n h. ap (entry (set l y₀ (entry l x))) (sole y d h) ∙ get_or-set_same l y₀ (entry l x) 0 ly)
    (λ y d n h. get_or-set_other l y₀ y (entry l x) 0 (λ e. h (ap (entry l) e ∙ before)))
