-- Laws of specs/Iterate.antt.
use Rattle.std.specs.Prelude.{◌≡◌, refl, ◌≢◌, ◌⊎◌, false, ◌||◌, [], ◌∷◌, T, ℤ, ◌+ℤ◌}
use Rattle.std.proofs.Common.{sym, ◌∙◌, ap, subst, inl, inr, suc-add, zero-add, arith, eqb→eq}
use Rattle.std.proofs.Math.Bool.{Bool}
use Prim.Native.Nat.{ℕ, zero, suc, ◌+◌, ◌-◌, ◌<◌, ◌≤◌}
use Rattle.std.proofs.Math.Decide.{ℕ_discrete, dec_lt}
use Rattle.std.proofs.Math.Dec.{eqb}
use Rattle.algebra.specs.Ring.{◌⊕◌}
use Rattle.algebra.proofs.RingLaws.{v0, v1, v2}
use Rattle.algebra.proofs.Sign.{eq-in, eq-by}
use Rattle.sums.specs.Bit.{implies}
use Rattle.sums.proofs.BitLaws.{eq_test, or_cases, or_left, or_right, implies→, implies←}
use Rattle.sums.specs.Bounded.{all_below, first_below}
use Rattle.sums.proofs.BoundedLaws.{all-below→, all-below←, first-below-le, first-below-passes, first-below-before}
use Rattle.sums.specs.Listed.{Listed, pigeonhole}
use Rattle.sums.proofs.ListedLaws.{On}
use Rattle.sums.specs.Sum.{sum}
use Rattle.sums.proofs.SumLaws.{sum_first, sum-classes}
use Rattle.sums.specs.Iterate.{iter, reaches, joined, Inverse, Period, period_below}

-- the last step apart
pub iter-last : (k : ℕ) (f : ℕ → ℕ) (a : ℕ) → iter (suc k) f a ≡ f (iter k f a)
iter-last zero f a = refl
iter-last (suc k) f a = iter-last k f (f a)

pub iter-add : (j k : ℕ) (f : ℕ → ℕ) (a : ℕ) → iter (j + k) f a ≡ iter k f (iter j f a)
iter-add zero k f a = ap (λ (m : ℕ). iter m f a) (zero-add k)
iter-add (suc j) k f a = ap (λ (m : ℕ). iter m f a) (suc-add j k) ∙ iter-add j k f (f a)

pub iter-fixed : (k : ℕ) (f : ℕ → ℕ) (a : ℕ) → f a ≡ a → iter k f a ≡ a
iter-fixed zero f a e = refl
iter-fixed (suc k) f a e = ap (iter k f) e ∙ iter-fixed k f a e

-- what each step keeps holds all along
pub iter-keeps : {f : ℕ → ℕ} (P : ℕ → Type 0) → ((x : ℕ) → P x → P (f x)) → (k : ℕ) {a : ℕ} → P a → P (iter k f a)
iter-keeps P keeps zero p = p
iter-keeps P keeps (suc k) {a} p = iter-keeps P keeps k (keeps a p)

-- n steps that lead from a back to a do so from each place on the way
pub iter-round : (n : ℕ) (f : ℕ → ℕ) (a : ℕ) → iter n f a ≡ a → (k : ℕ) → iter n f (iter k f a) ≡ iter k f a
iter-round n f a e zero = e
iter-round n f a e (suc k) = iter-round n f (f a) (iter-last n f a ∙ ap f e) k

-- two functions that agree along the walk; and on a set that f does not leave
pub iter-ext : (f f' : ℕ → ℕ) (n a : ℕ) → ((k : ℕ) → k < n → f' (iter k f a) ≡ f (iter k f a)) → iter n f' a ≡ iter n f a
iter-ext f f' zero a h = refl
iter-ext f f' (suc n) a h = ap (iter n f') (h zero (omega arith)) ∙ iter-ext f f' n (f a) (λ k l. h (suc k) (omega arith))

pub iter-same : {f f' : ℕ → ℕ} (D : ℕ → Type 0) → ((y : ℕ) → D y → D (f y)) → ((y : ℕ) → D y → f' y ≡ f y) → {a : ℕ}
    → D a → (k : ℕ) → iter k f' a ≡ iter k f a
iter-same {f} {f'} D closed same {a} d n = iter-ext f f' n a (λ k l. same (iter k f a) (iter-keeps D closed k d))

-- ---- reachability
abbrev pub Reach : (ℕ → ℕ) → ℕ → ℕ → Type 0
Reach f a b = (k : ℕ) × (iter k f a ≡ b)

module _ {f : ℕ → ℕ} where
  pub reach-refl : {x : ℕ} → Reach f x x
  reach-refl = (0, refl)

  pub reach-at : {x y : ℕ} → x ≡ y → Reach f x y
  reach-at e = (0, e)

  -- one step and two, to what f is said to be there
  pub reach-one : {x y : ℕ} → f x ≡ y → Reach f x y
  reach-one e = (1, e)

  pub reach-two : {x y : ℕ} → f (f x) ≡ y → Reach f x y
  reach-two e = (2, e)

  -- a step before, and a step after
  pub reach_step : {x y : ℕ} → Reach f (f x) y → Reach f x y
  reach_step (k, e) = (suc k, e)

  pub reach-then : {x y : ℕ} → Reach f x y → Reach f x (f y)
  reach-then {x} (k, e) = (suc k, iter-last k f x ∙ ap f e)

  pub reach-trans : {x y z : ℕ} → Reach f x y → Reach f y z → Reach f x z
  reach-trans {x} (j, e) (k, d) = (j + k, iter-add j k f x ∙ ap (iter k f) e ∙ d)

  -- INDUCTION on the walk from x to y: at its end, and a step before
  pub reach-ind : (Q : ℕ → Type 0) {x y : ℕ} → Q y → ((z : ℕ) → Reach f (f z) y → Q (f z) → Q z) → Reach f x y → Q x
  reach-ind Q {x} {y} here step (k, e) = go k x e
    where
      go : (k x : ℕ) → iter k f x ≡ y → Q x
      go zero x e = subst Q (sym e) here
      go (suc k) x e = step x (k, e) (go k (f x) e)

  -- the same from the front: what each step keeps holds at the end
  pub reach-keeps : (P : ℕ → Type 0) → ((z : ℕ) → P z → P (f z)) → {x y : ℕ} → P x → Reach f x y → P y
  reach-keeps P keeps p (k, e) = subst P e (iter-keeps P keeps k p)

-- A walk by f that stays in P is a walk by g over the places s, once each of f's steps from P is one
pub reach-by : {f g : ℕ → ℕ} (P : ℕ → Type 0) (s : ℕ → ℕ) → ((x : ℕ) → P x → P (f x)) → ((x : ℕ) → P x → Reach g (s x) (s (f x)))
    → {x y : ℕ} → P x → Reach f x y → Reach g (s x) (s y)
reach-by {f} {g} P s stays each {x} {y} p (k, e) = subst (λ (z : ℕ). Reach g (s x) (s z)) e (go k x p)
  where
    go : (k x : ℕ) → P x → Reach g (s x) (s (iter k f x))
    go zero x p = (0, refl)
    go (suc k) x p = reach-trans (each x p) (go k (f x) (stays x p))

-- two functions that agree on a set that f does not leave
pub reach-same : {f f' : ℕ → ℕ} (D : ℕ → Type 0) → ((y : ℕ) → D y → D (f y)) → ((y : ℕ) → D y → f' y ≡ f y)
    → {a b : ℕ} → D a → Reach f a b → Reach f' a b
reach-same D closed same d (k, e) = (k, iter-same D closed same d k ∙ e)

-- INSERT: f' walks over x between y₀ and f y₀
pub reach-insert : {f f' : ℕ → ℕ} (D : ℕ → Type 0) (x y₀ : ℕ) → ((y : ℕ) → D y → D (f y)) → f' y₀ ≡ x → f' x ≡ f y₀
    → ((y : ℕ) → D y → y ≢ y₀ → f' y ≡ f y) → {a b : ℕ} → D a → Reach f a b → Reach f' a b
reach-insert {f} {f'} D x y₀ closed e₁ e₂ same d = reach-by D (λ y. y) closed (λ y dy. step y dy (ℕ_discrete y y₀)) d
  where
    step : (y : ℕ) → D y → Dec (y ≡ y₀) → Reach f' y (f y)
    step y dy (yes e) = (2, ap (λ (z : ℕ). f' (f' z)) e ∙ ap f' e₁ ∙ e₂ ∙ ap f (sym e))
    step y dy (no n) = (1, same y dy n)

-- BYPASS: f' goes past x
pub reach-bypass : {f f' : ℕ → ℕ} (D : ℕ → Type 0) (x : ℕ) → ((y : ℕ) → D y → D (f y)) → D x
    → ((y : ℕ) → D y → y ≢ x → f y ≡ x → f' y ≡ f x)
    → ((y : ℕ) → D y → y ≢ x → f y ≢ x → f' y ≡ f y) → {a b : ℕ} → D a → a ≢ x → b ≢ x → Reach f a b → Reach f' a b
reach-bypass {f} {f'} D x closed dx skip same {a} {b} da na nb (k, e) = go k a da na e
  where
    go : (k : ℕ) (a : ℕ) → D a → a ≢ x → iter k f a ≡ b → Reach f' a b
    go zero a d n e = (zero, e)
    go (suc zero) a d n e = one (ℕ_discrete (f a) x)
      where
        one : Dec (f a ≡ x) → Reach f' a b
        one (yes h) = absurd (nb (sym e ∙ h))
        one (no h) = (1, same a d n h ∙ e)
    go (suc (suc k)) a d n e = two (go (suc k) (f a)) (go k (f x)) (ℕ_discrete (f a) x) (ℕ_discrete (f x) x)
      where
        two : (D (f a) → f a ≢ x → iter (suc k) f (f a) ≡ b → Reach f' (f a) b)
            → (D (f x) → f x ≢ x → iter k f (f x) ≡ b → Reach f' (f x) b)
            → Dec (f a ≡ x) → Dec (f x ≡ x) → Reach f' a b
        two r₁ r₂ (no h) s = reach-trans (1, same a d n h) (r₁ (closed a d) h e)
        two r₁ r₂ (yes h) (yes q) = absurd (nb (sym e ∙ ap (iter (suc k) f) h ∙ iter-fixed (suc k) f x q))
        two r₁ r₂ (yes h) (no q) = reach-trans (1, skip a d n h) (r₂ (closed x dx) q (sym (ap (iter (suc k) f) h) ∙ e))

pub reaches→ : (n : ℕ) (f : ℕ → ℕ) (x y : ℕ) → T (reaches n f x y) → (k : ℕ) × (k < n) × (iter k f x ≡ y)
unfolding reaches
reaches→ zero f x y h = absurd h
reaches→ (suc n) f x y h = go (or_cases (eqb x y) (reaches n f (f x) y) h) (reaches→ n f (f x) y)
  where
    go : T (eqb x y) ⊎ T (reaches n f (f x) y)
        → (T (reaches n f (f x) y) → (k : ℕ) × (k < n) × (iter k f (f x) ≡ y))
        → (k : ℕ) × (k < suc n) × (iter k f x ≡ y)
    go (inl t) ih = (0, (omega arith), eqb→eq x y t)
    go (inr t) ih = let r = ih t in (suc r.0, (let l = r.1 in omega arith), r.2)

pub reaches← : (n : ℕ) (f : ℕ → ℕ) (x y k : ℕ) → k < n → iter k f x ≡ y → T (reaches n f x y)
unfolding reaches
reaches← zero f x y k l e = absurd (omega arith)
reaches← (suc n) f x y zero l e = or_left (eqb x y) (reaches n f (f x) y) (eq_test e)
reaches← (suc n) f x y (suc k) l e = or_right (eqb x y) (reaches n f (f x) y) (reaches← n f (f x) y k (omega arith) e)

pub reaches-reach : (n : ℕ) (f : ℕ → ℕ) (x y : ℕ) → T (reaches n f x y) → Reach f x y
reaches-reach n f x y h = let r = reaches→ n f x y h in (r.0, r.2)

pub joined→ : (n : ℕ) (t : ℕ → ℕ → Bool) (f : ℕ → ℕ) → T (joined n t f) → {x y : ℕ} → x < n → y < n → T (t x y) → Reach f x y
unfolding joined
joined→ n t f h {x} {y} l m u = reaches-reach n f x y (implies→ (t x y) (reaches n f x y) (all-below→ n (λ y. implies (t x y) (reaches n f x y))
    (all-below→ n (λ x. all_below n (λ y. implies (t x y) (reaches n f x y))) h x l) y m) u)

pub inverse-sym : {n : ℕ} {f g : ℕ → ℕ} → Inverse n f g → Inverse n g f
inverse-sym i = record { there = i.here; here = i.there; gf = i.fg; fg = i.gf }

-- first f, then f'
pub inverse-then : {n : ℕ} {f g f' g' : ℕ → ℕ} → Inverse n f g → Inverse n f' g' → Inverse n (λ a. f' (f a)) (λ a. g (g' a))
inverse-then {n} {f} {g} {f'} {g'} i j = record {
  there = λ a l. j.there (f a) (i.there a l);
  here = λ a l. i.here (g' a) (j.here a l);
  gf = λ a l. ap g (j.gf (f a) (i.there a l)) ∙ i.gf a l;
  fg = λ a l. ap f' (i.fg (g' a) (j.here a l)) ∙ j.fg a l;
}

pub period-same : {f f' : ℕ → ℕ} (D : ℕ → Type 0) → ((y : ℕ) → D y → D (f y)) → ((y : ℕ) → D y → f' y ≡ f y)
    → {a h : ℕ} → D a → Period f a h → Period f' a h
period-same {f} {f'} D closed same {a} {h} d p = record {
  positive = p.positive;
  back = iter-same D closed same d h ∙ p.back;
  least = λ k u v e. p.least k u v (sym (iter-same D closed same d k) ∙ e);
}

-- there is only one
pub period-unique : {f : ℕ → ℕ} {a h h' : ℕ} → Period f a h → Period f a h' → h ≡ h'
period-unique {f} {a} {h} {h'} p q = go (dec_lt h h') (dec_lt h' h)
  where
    go : Dec (h < h') → Dec (h' < h) → h ≡ h'
    go (yes l) d = absurd (q.least h p.positive l p.back)
    go (no l) (yes m) = absurd (p.least h' q.positive m q.back)
    go (no l) (no m) = omega arith

-- a round of three
pub period-three : {f : ℕ → ℕ} {a : ℕ} → f (f (f a)) ≡ a → f a ≢ a → Period f a 3
period-three {f} {a} e n = record { positive = omega arith; back = e; least = early }
  where
    early : (k : ℕ) → 0 < k → k < 3 → iter k f a ≢ a
    early zero u v q = omega arith
    early (suc zero) u v q = n q
    early (suc (suc zero)) u v q = n (sym (ap f q) ∙ e)
    early (suc (suc (suc k))) u v q = omega arith

module _ {n : ℕ} {f g : ℕ → ℕ} (inv : Inverse n f g) where
  pub iter-below : (k : ℕ) {a : ℕ} → a < n → iter k f a < n
  iter-below zero l = l
  iter-below (suc k) {a} l = iter-below k (inv.there a l)

  pub step-inj : {a b : ℕ} → a < n → b < n → f a ≡ f b → a ≡ b
  step-inj {a} {b} l m e = sym (inv.gf a l) ∙ ap g e ∙ inv.gf b m

  pub iter-inj : (k : ℕ) {a b : ℕ} → a < n → b < n → iter k f a ≡ iter k f b → a ≡ b
  iter-inj zero l m e = e
  iter-inj (suc k) {a} {b} l m e = step-inj l m (iter-inj k (inv.there a l) (inv.there b m) e)

  -- the same number of steps back
  pub iter-back : (k : ℕ) {a : ℕ} → a < n → iter k g (iter k f a) ≡ a
  iter-back zero l = refl
  iter-back (suc k) {a} l = iter-last k g (iter k f (f a)) ∙ ap g (iter-back k (inv.there a l)) ∙ inv.gf a l

  pub reach-back : {a b : ℕ} → a < n → Reach f a b → Reach g b a
  reach-back l (k, e) = (k, ap (iter k g) (sym e) ∙ iter-back k l)

  module _ {a : ℕ} (l : a < n) where
    -- two iterates that are the same: the walk came back in between
    comes_back : (j k : ℕ) → j < k → iter j f a ≡ iter k f a → iter (k - j) f a ≡ a
    comes_back j k m e = sym (iter-inj j l (iter-below (k - j) l) (e ∙ ap (λ (i : ℕ). iter i f a) (parts j k m) ∙ iter-add (k - j) j f a))
      where
        parts : (j k : ℕ) → j < k → k ≡ k - j + j
        parts j k m = omega arith

    -- the iterates before the walk comes back are different
    listed : (h : ℕ) → ((k : ℕ) → zero < k → k < h → iter k f a ≢ a) → Listed n h (λ k. iter k f a)
    listed h least = record { below = λ k m. iter-below k l; once = λ j k u v e. same j k u v e (dec_lt j k) (dec_lt k j) }
      where
        same : (j k : ℕ) → j < h → k < h → iter j f a ≡ iter k f a → Dec (j < k) → Dec (k < j) → j ≡ k
        same j k u v e (yes m) d = absurd (least (k - j) (omega arith) (omega arith) (comes_back j k m e))
        same j k u v e (no m) (yes o) = absurd (least (j - k) (omega arith) (omega arith) (comes_back k j o (sym e)))
        same j k u v e (no m) (no o) = omega arith

    pub period-listed : {h : ℕ} → Period f a h → Listed n h (λ k. iter k f a)
    period-listed {h} p = listed h p.least

    -- it is at most n, by the pigeonhole
    pub period-le : {h : ℕ} → Period f a h → h ≤ n
    period-le {h} p = pigeonhole n h (λ k. iter k f a) (period-listed p)

    -- every walk comes back, within n steps
    pub period-is : Period f a (period_below n f a)
    unfolding period_below
    period-is = record { positive = omega arith; back = home (dec_lt (first_below n t) n); least = early }
      where
        t : ℕ → Bool
        t k = eqb (iter (suc k) f a) a

        early : (k : ℕ) → zero < k → k < suc (first_below n t) → iter k f a ≢ a
        early zero u v e = omega arith
        early (suc k) u v e = first-below-before n t k (omega arith) (eq_test e)

        home : Dec (first_below n t < n) → iter (suc (first_below n t)) f a ≡ a
        home (yes m) = eqb→eq (iter (suc (first_below n t)) f a) a (first-below-passes n t m)
        home (no m) = absurd (let c = pigeonhole n (suc n) (λ k. iter k f a) (listed (suc n) (λ k u v. early k u (let h = first-below-le n t in omega arith))) in omega arith)

    pub period : (h : ℕ) × (h ≤ n) × Period f a h
    period = (period_below n f a, period-le period-is, period-is)

    -- what is reached is reached before the walk comes back
    pub reach-on : {h : ℕ} → Period f a h → {b : ℕ} → Reach f a b → On h (λ k. iter k f a) b
    reach-on {h} p (k, e) = let o = go k in (o.0, o.1, o.2 ∙ e)
      where
        go : (k : ℕ) → On h (λ k. iter k f a) (iter k f a)
        go zero = (zero, p.positive, refl)
        go (suc k) = let o = go k in more o.0 o.1 (iter-last o.0 f a ∙ ap f o.2 ∙ sym (iter-last k f a)) (dec_lt (suc o.0) h)
          where
            more : (j : ℕ) → j < h → iter (suc j) f a ≡ iter (suc k) f a → Dec (suc j < h) → On h (λ k. iter k f a) (iter (suc k) f a)
            more j u e (yes v) = (suc j, v, e)
            more j u e (no v) = (zero, p.positive, sym p.back ∙ ap (λ (i : ℕ). iter i f a) (end j h u v) ∙ e)
              where
                end : (j h : ℕ) → j < h → ¬ (suc j < h) → h ≡ suc j
                end j h u v = omega arith

    -- so the test decides
    pub reach-reaches : {b : ℕ} → Reach f a b → T (reaches n f a b)
    reach-reaches {b} r = let o = reach-on period-is r in reaches← n f a b o.0 (let h = o.1 in let q = period-le period-is in omega arith) o.2

  pub joined← : (t : ℕ → ℕ → Bool) → ((x y : ℕ) → x < n → y < n → T (t x y) → Reach f x y) → T (joined n t f)
  unfolding joined
  joined← t h = all-below← n (λ x. all_below n (λ y. implies (t x y) (reaches n f x y)))
      (λ x l. all-below← n (λ y. implies (t x y) (reaches n f x y)) (λ y m. implies← (t x y) (reaches n f x y) (λ u. reach-reaches l (h x y l m u))))

  -- the same round from any of its numbers
  pub period-next : {a h : ℕ} → a < n → Period f a h → Period f (f a) h
  period-next {a} {h} l p = record {
    positive = p.positive;
    back = iter-last h f a ∙ ap f p.back;
    least = λ k u v e. p.least k u v (step-inj (iter-below k l) l (sym (iter-last k f a) ∙ e));
  }

  pub period-reach : {a b h : ℕ} → a < n → Reach f a b → Period f a h → Period f b h
  period-reach {a} {b} {h} l (k, e) p = subst (λ (c : ℕ). Period f c h) e (go k a l p)
    where
      go : (k a : ℕ) → a < n → Period f a h → Period f (iter k f a) h
      go zero a l p = p
      go (suc k) a l p = go k (f a) (inv.there a l) (period-next l p)

  -- reachability is symmetric: one step can be gone back, since the walk comes back
  pub reach-sym : {a b : ℕ} → a < n → Reach f a b → Reach f b a
  reach-sym {a} {b} l (k, e) = subst (λ (c : ℕ). Reach f c a) e (go k a l)
    where
      undo : (c : ℕ) → c < n → Reach f (f c) c
      undo c m = let p = period m in back p.0 p.2.positive p.2.back
        where
          back : (h : ℕ) → zero < h → iter h f c ≡ c → Reach f (f c) c
          back zero u e = absurd (omega arith)
          back (suc h) u e = (h, e)

      go : (k a : ℕ) → a < n → Reach f (iter k f a) a
      go zero a l = (zero, refl)
      go (suc k) a l = reach-trans (go k (f a) (inv.there a l)) (undo a l)

-- ---- a sum around a round is the same from any of its numbers
sum-next : (h : ℕ) (f : ℕ → ℕ) (a : ℕ) (c : ℕ → ℤ) → iter h f a ≡ a → sum h (λ k. c (iter k f (f a))) ≡ sum h (λ k. c (iter k f a))
unfolding sum
sum-next h f a c back =
    let S = sum h (λ k. c (iter k f a)) in let S' = sum h (λ k. c (iter k f (f a))) in
    let ρ = S ∷ S' ∷ c a ∷ [] in
    let e : S +ℤ c a ≡ c a +ℤ S' = ap (λ (m : ℕ). S +ℤ c m) (sym back) ∙ sum_first (suc h) (λ k. c (iter k f a)) (omega arith)
    ∙ ap (λ (x : ℤ). c a +ℤ x) (ap (λ (m : ℕ). sum m (λ k. c (iter (suc k) f a))) (less h)) in
    sym (eq-by (eq-in ρ (v0 ⊕ v2) (v2 ⊕ v1) e) v0 v1 refl)
  where
    less : (n : ℕ) → suc n - 1 ≡ n
    less n = omega arith

-- what a step around a round of h does not change is the same all along it
pub along : (h : ℕ) {f : ℕ → ℕ} (A : ℕ → ℤ) → ((z : ℕ) → iter h f z ≡ z → A (f z) ≡ A z) → {a b : ℕ}
    → iter h f a ≡ a → Reach f a b → A b ≡ A a
along h {f} A step {a} back (k, e) = ap A (sym e) ∙ go k a back
  where
    go : (k a : ℕ) → iter h f a ≡ a → A (iter k f a) ≡ A a
    go zero a back = refl
    go (suc k) a back = go k (f a) (iter-last h f a ∙ ap f back) ∙ step a back

pub sum-round : (h : ℕ) {f : ℕ → ℕ} (c : ℕ → ℤ) {a b : ℕ} → iter h f a ≡ a → Reach f a b
    → sum h (λ k. c (iter k f b)) ≡ sum h (λ k. c (iter k f a))
sum-round h {f} c = along h (λ z. sum h (λ k. c (iter k f z))) (λ z q. sum-next h f z c q)

-- ---- numbers below n that are the rounds of f from m starts: the sum goes round by round. For a mesh: over all
-- half-edges, face by face, with f the step around a face.
pub sum-rounds : {n : ℕ} {f g : ℕ → ℕ} → Inverse n f g → (m : ℕ) (class start size : ℕ → ℕ)
    → ((i : ℕ) → i < n → class i < m) → ((i : ℕ) → i < n → class (f i) ≡ class i)
    → ((c : ℕ) → c < m → start c < n) → ((c : ℕ) → c < m → class (start c) ≡ c)
    → ((c : ℕ) → c < m → Period f (start c) (size c)) → ((i : ℕ) → i < n → Reach f (start (class i)) i)
    → (t : ℕ → ℤ) → sum n t ≡ sum m (λ c. sum (size c) (λ k. t (iter k f (start c))))
sum-rounds {n} {f} {g} inv m class start size low keeps begin own round whole =
    sum-classes n m class size (λ c k. iter k f (start c)) low (λ c l. period-listed inv (begin c l) (round c l)) same (λ i l. reach-on inv (begin (class i) (low i l)) (round (class i) (low i l)) (whole i l))
  where
    same : (c k : ℕ) → c < m → k < size c → class (iter k f (start c)) ≡ c
    same c k l u = (iter-keeps (λ x. (x < n) × (class x ≡ c)) (λ x d. (inv.there x d.0, keeps x d.0 ∙ d.1)) k (begin c l, own c l)).1
