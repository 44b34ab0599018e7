-- Laws of specs/Tally.antt.
use Rattle.std.specs.Prelude.{◌≡◌, refl, ◌≢◌, Bool, List, [], ◌∷◌, ◌++◌, ℕ, zero, suc, ◌+◌, ◌<◌, ◌≤◌, T, length, get_or}
use Rattle.std.proofs.Common.{sym, ◌∙◌, ap, suc-add, zero-add, arith}
use Rattle.std.proofs.Math.Decide.{ℕ_discrete}
use Rattle.sums.specs.Bit.{bit}
use Rattle.sums.specs.Put.{put}
use Rattle.sums.proofs.PutLaws.{put_same, put_other}
use Rattle.sums.proofs.Cases.{All, None, Distinct, all_map}
use Rattle.sums.specs.Bounded.{count, Least, first_below}
use Rattle.sums.proofs.BoundedLaws.{count-ext, count-le, count-change, count-some, count-positive, count-before, count-sole, least-unique, first-below-least, first-below-at-most}
use Rattle.sums.specs.Iterate.{iter, Inverse}
use Rattle.sums.proofs.IterateLaws.{iter-below, iter-last, inverse-sym, Reach}
use Rattle.sums.specs.Tally.{walk, tally, First}

pub tally-append : (b : ℕ → Bool) (l m : List ℕ) → tally b (l ++ m) ≡ tally b l + tally b m
unfolding tally
tally-append b [] m = sym (zero-add (tally b m))
tally-append b (x ∷ l) m = let i = tally-append b l m in omega arith

-- ---- walks
pub length-walk : (n : ℕ) (f : ℕ → ℕ) (s : ℕ) → length (walk n f s) ≡ n
unfolding walk
length-walk zero f s = refl
length-walk (suc n) f s = ap suc (length-walk n f (f s))

pub walk_at : (n : ℕ) (f : ℕ → ℕ) (s k d : ℕ) → k < n → get_or (walk n f s) k d ≡ iter k f s
unfolding walk
walk_at zero f s k d l = absurd (omega arith)
walk_at (suc n) f s zero d l = refl
walk_at (suc n) f s (suc k) d l = walk_at n f (f s) k d (omega arith)

pub walk-add : (f : ℕ → ℕ) (j k s : ℕ) → walk (j + k) f s ≡ walk j f s ++ walk k f (iter j f s)
unfolding walk
walk-add f zero k s = ap (λ (m : ℕ). walk m f s) (zero-add k)
walk-add f (suc j) k s = ap (λ (m : ℕ). walk m f s) (suc-add j k) ∙ ap (λ (l : List ℕ). s ∷ l) (walk-add f j k (f s))

-- where two steps agree, so do the walks (the last place's step is not taken)
pub walk-ext : (f f' : ℕ → ℕ) (n s : ℕ) → ((k : ℕ) → suc k < n → f' (iter k f s) ≡ f (iter k f s)) → walk n f' s ≡ walk n f s
unfolding walk
walk-ext f f' zero s h = refl
walk-ext f f' (suc zero) s h = refl
walk-ext f f' (suc (suc n)) s h = ap (λ (t : ℕ). s ∷ walk (suc n) f' t) (h zero (omega arith)) ∙ ap (λ (l : List ℕ). s ∷ l) (walk-ext f f' (suc n) (f s) (λ k l. h (suc k) (omega arith)))

-- ---- tallies of walks
pub tally-add : (b : ℕ → Bool) (f : ℕ → ℕ) (j k s : ℕ) → tally b (walk (j + k) f s) ≡ tally b (walk j f s) + tally b (walk k f (iter j f s))
tally-add b f j k s = ap (tally b) (walk-add f j k s) ∙ tally-append b (walk j f s) (walk k f (iter j f s))

pub tally-first : (b : ℕ → Bool) (f : ℕ → ℕ) (n s : ℕ) → tally b (walk (suc n) f s) ≡ bit (b s) + tally b (walk n f (f s))
unfolding tally walk
tally-first b f n s = refl

pub tally-last : (b : ℕ → Bool) (f : ℕ → ℕ) (n s : ℕ) → tally b (walk (suc n) f s) ≡ tally b (walk n f s) + bit (b (iter n f s))
unfolding tally walk
tally-last b f zero s = omega arith
tally-last b f (suc n) s = let i = tally-last b f n (f s) in omega arith

pub tally-count : (b : ℕ → Bool) (f : ℕ → ℕ) (n s : ℕ) → tally b (walk n f s) ≡ count n (λ k. b (iter k f s))
unfolding tally walk count
tally-count b f zero s = refl
tally-count b f (suc n) s = tally-last b f n s ∙ (let i = tally-count b f n s in omega arith)

-- where two tests agree, so do the tallies
pub tally-ext : (b b' : ℕ → Bool) (f : ℕ → ℕ) (n s : ℕ) → ((k : ℕ) → k < n → b' (iter k f s) ≡ b (iter k f s))
    → tally b' (walk n f s) ≡ tally b (walk n f s)
tally-ext b b' f n s h = tally-count b' f n s ∙ count-ext n (λ k. b' (iter k f s)) (λ k. b (iter k f s)) h ∙ sym (tally-count b f n s)

-- a round's tally is the same from its next place, and from any
pub tally-turn : (b : ℕ → Bool) (f : ℕ → ℕ) (n s : ℕ) → iter n f s ≡ s → tally b (walk n f (f s)) ≡ tally b (walk n f s)
tally-turn b f n s e = let i = tally-last b f n s in let k = tally-first b f n s in let j = ap (λ (x : ℕ). bit (b x)) e in omega arith

pub tally-at : (b : ℕ → Bool) (f : ℕ → ℕ) (n s : ℕ) → iter n f s ≡ s → (k : ℕ) → tally b (walk n f (iter k f s)) ≡ tally b (walk n f s)
tally-at b f n s e zero = refl
tally-at b f n s e (suc k) = tally-at b f n (f s) (iter-last n f s ∙ ap f e) k ∙ tally-turn b f n s e

pub tally-round : (b : ℕ → Bool) (f : ℕ → ℕ) (n s : ℕ) → iter n f s ≡ s → {t : ℕ} → Reach f s t
    → tally b (walk n f t) ≡ tally b (walk n f s)
tally-round b f n s e (k, q) = ap (λ (x : ℕ). tally b (walk n f x)) (sym q) ∙ tally-at b f n s e k

-- along f to a place, or from it back along g
pub tally-back : {m : ℕ} {f g : ℕ → ℕ} → Inverse m f g → (b : ℕ → Bool) (n : ℕ) {s : ℕ} → s < m
    → tally b (walk n f (iter n g s)) ≡ tally b (walk n g (g s))
unfolding tally walk
tally-back i b zero l = refl
tally-back {f = f} {g = g} i b (suc n) {s} l =
    let x = iter (suc n) g s in
    let back : f x ≡ iter n g s = ap f (iter-last n g s) ∙ i.fg (iter n g s) (iter-below (inverse-sym i) n l) in
    let first = tally-first b f n x in let last = tally-last b g n (g s) in
    let rest = ap (λ (y : ℕ). tally b (walk n f y)) back ∙ tally-back i b n l in
    omega arith

pub tally-most : (b : ℕ → Bool) (f : ℕ → ℕ) (n s : ℕ) → tally b (walk n f s) ≤ n
tally-most b f n s = rw (tally-count b f n s) (count-le n (λ k. b (iter k f s)))

module _ (b : ℕ → Bool) (f : ℕ → ℕ) (n s : ℕ) where
  -- it is found by searching
  pub first-least : {k : ℕ} → First b f n s k → Least n (λ k. b (iter k f s)) k
  first-least r = record { at_most = let l = r.below in omega arith; passes = λ l. r.passes; before = r.before }

  pub first-is : {k : ℕ} → First b f n s k → first_below n (λ k. b (iter k f s)) ≡ k
  first-is r = least-unique (first-below-least n (λ k. b (iter k f s))) (first-least r)

  pub first-unique : {j k : ℕ} → First b f n s j → First b f n s k → j ≡ k
  first-unique p q = least-unique (first-least p) (first-least q)

  -- there is one, if some place passes
  pub first_of : (i : ℕ) → i < n → T (b (iter i f s)) → First b f n s (first_below n (λ k. b (iter k f s)))
  first_of i l t =
      let r = first-below-least n (λ k. b (iter k f s)) in
      let m = first-below-at-most n (λ k. b (iter k f s)) i t in
      record { below = omega arith; passes = r.passes (omega arith); before = r.before }

  -- and if the tally is not 0
  pub first : 0 < tally b (walk n f s) → (k : ℕ) × First b f n s k
  first h = let r = count-some n (λ k. b (iter k f s)) (rw tally-count at h) in (first_below n (λ k. b (iter k f s)), first_of r.0 r.1 r.2)

  -- what passes counts, one before another, and two count twice
  pub counts : (k : ℕ) → k < n → T (b (iter k f s)) → 0 < tally b (walk n f s)
  counts k l t = rw (tally-count b f n s) (count-positive n (λ k. b (iter k f s)) k l t)

  pub tally-before : (k : ℕ) → k < n → T (b (iter k f s)) → tally b (walk k f s) < tally b (walk n f s)
  tally-before k l t = rw (tally-count b f n s, tally-count b f k s) (count-before k n (λ k. b (iter k f s)) l t)

  pub sole : (j k : ℕ) → tally b (walk n f s) ≤ 1 → j < n → k < n → T (b (iter j f s)) → T (b (iter k f s)) → j ≡ k
  sole j k h = count-sole n (λ k. b (iter k f s)) j k (rw tally-count at h)

-- ---- how many below n pass, where two tests differ at the numbers of a list only
tally-all : (p q : ℕ → Bool) (l : List ℕ) → All (λ x. p x ≡ q x) l → tally p l ≡ tally q l
unfolding tally
tally-all p q [] h = refl
tally-all p q (x ∷ l) h = let i = tally-all p q l h.1 in let b = ap bit h.0 in omega arith

pub count-change-list : (n : ℕ) (l : List ℕ) → All (λ a. a < n) l → Distinct l → (p q : ℕ → Bool)
    → ((i : ℕ) → i < n → None i l → p i ≡ q i) → count n q + tally p l ≡ count n p + tally q l
unfolding tally
count-change-list n [] low d p q h = let e = count-ext n p q (λ i u. h i u tt) in omega arith
count-change-list n (a ∷ l) low d p q h =
    let r = put p a (q a) in
    let one = count-change n p r a low.0 (λ i u o. sym (put_other p a (q a) i o)) in
    let rest = count-change-list n l low.1 d.1 r q (λ i u o. agree i u o (ℕ_discrete i a)) in
    let off = tally-all r p l (all_map (λ b. a ≢ b) (λ b. r b ≡ p b) (λ b o. put_other p a (q a) b (λ e. o (sym e))) l d.0) in
    let at = ap bit (put_same p a (q a)) in
    omega arith
  where
    agree : (i : ℕ) → i < n → None i l → Dec (i ≡ a) → put p a (q a) i ≡ q i
    agree i u o (yes e) = rw e (put_same p a (q a))
    agree i u o (no m) = put_other p a (q a) i m ∙ h i u (m, o)

-- what each step keeps holds along a walk
pub walk-all : (P : ℕ → Type 0) (f : ℕ → ℕ) → ((x : ℕ) → P x → P (f x)) → (n s : ℕ) → P s → All P (walk n f s)
unfolding walk
walk-all P f k zero s h = tt
walk-all P f k (suc n) s h = (h, walk-all P f k n (f s) (k s h))
