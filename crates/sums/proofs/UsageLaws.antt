-- Laws of specs/Usage.antt.
use Rattle.std.specs.Prelude.{◌≡◌, refl, ◌≢◌, Bool, true, false, List, [], ◌∷◌, ℕ, suc, ◌+◌, ◌*◌, ◌%◌, ◌^◌, ◌<◌, ◌≤◌, eqb, ltb, leb, ℤ, ◌+ℤ◌, ◌-ℤ◌, length, get_or, set}
use Rattle.std.proofs.Common.{sym, ◌∙◌, ap, ap₂, mod-lt, arith}
use Rattle.std.proofs.lemmas.Bool.{eqb-false}
use Rattle.sums.specs.Bit.{bit}
use Rattle.sums.proofs.BitLaws.{Tells, lt?, le?}
use Rattle.sums.specs.Put.{put}
use Rattle.sums.proofs.PutLaws.{put_other, stores}
use Rattle.sums.proofs.Cases.{None, each}
use Rattle.sums.specs.Bounded.{count}
use Rattle.sums.proofs.ListedLaws.{entry, listed-list}
use Rattle.sums.specs.Sum.{sum}
use Rattle.sums.proofs.SumLaws.{sum-change-two}
use Rattle.sums.specs.Iterate.{iter, Inverse, Period, period_below}
use Rattle.sums.proofs.IterateLaws.{Reach, reach-one, reach-two, reach-trans, reach-by, reach-ind, inverse-sym, inverse-then, period-is}
use Rattle.sums.specs.Half.{rev}
use Rattle.sums.proofs.HalfLaws.{rev-inverse}
use Rattle.sums.proofs.Store.{store_at}
use Rattle.sums.specs.Tally.{walk, tally}
use Rattle.sums.proofs.TallyLaws.{tally-round, count-change-list}
use Rattle.sums.specs.Until.{until}
use Rattle.sums.proofs.UntilLaws.{Falls, Going, until-ends, going_start, going-turn, going_end}
use Rattle.sums.specs.Usage.{Two, done, turn, fuel, gcd}

-- ---- by cases on tests: each test becomes a variable, with what it tells beside it
trichotomy : (a b : ℕ) → bit (ltb a b) + bit (leb b a) ≡ 1
trichotomy a b = go (ltb a b) (leb b a) (lt? a b) (le? b a)
  where
    go : (u v : Bool) → Tells u (a < b) (b ≤ a) → Tells v (b ≤ a) (a < b) → bit u + bit v ≡ 1
    go true true A B = absurd (let p = A.0 tt in let q = B.0 tt in omega arith)
    go true false A B = refl
    go false true A B = refl
    go false false A B = absurd (let p = A.1 tt in let q = B.1 tt in omega arith)

-- ---- point updates: the value at a place, from facts a ≢ b in scope
first-of-two : (f : ℕ → ℕ) (a b u v : ℕ) → a ≢ b → put (put f a u) b v a ≡ u
first-of-two f a b u v d = search stores

-- ---- a statement at two touched places and at the others at once: f and g swap a and b
swapped : (f g : ℕ → ℕ) (a b : ℕ) → f a ≡ b → f b ≡ a → g a ≡ b → g b ≡ a
    → ((x : ℕ) → None x (a ∷ b ∷ []) → f x ≡ x) → ((x : ℕ) → None x (a ∷ b ∷ []) → g x ≡ x)
    → (x : ℕ) → g (f x) ≡ x
swapped f g a b p q r s h k = each {P = λ x. g (f x) ≡ x} (a ∷ b ∷ []) ((cc), ((cc), tt)) (λ x o. ap g (h x o) ∙ k x o)

-- ---- a sum after a change
moved : (n a b : ℕ) (f : ℕ → ℤ) → a < n → b < n → a ≢ b → sum n (put (put f a (f b)) b (f a)) ≡ sum n f +ℤ ((f b -ℤ f a) +ℤ (f a -ℤ f b))
moved n a b f l m d =
    let g = put (put f a (f b)) b (f a) in
    let at_a : g a ≡ f b = search stores in
    let at_b : g b ≡ f a = search stores in
    sum-change-two f g l m d (λ i u x y. put_other (put f a (f b)) b (f a) i y ∙ put_other f a (f b) i x)
    ∙ ap₂ (λ (x y : ℤ). sum n f +ℤ ((x -ℤ f a) +ℤ (y -ℤ f b))) at_a at_b

-- ---- walks: steps chained; a walk renamed, two steps to one; what a step keeps, by induction
three-steps : (f : ℕ → ℕ) (a b c d : ℕ) → f a ≡ b → f b ≡ c → f c ≡ d → Reach f a d
three-steps f a b c d p q r = reach-trans (reach-two (rw p q)) (reach-one r)

renamed : (f g s : ℕ → ℕ) → ((x : ℕ) → g (g (s x)) ≡ s (f x)) → (a b : ℕ) → Reach f a b → Reach g (s a) (s b)
renamed f g s h a b = reach-by (λ _. Unit {0}) s (λ x _. tt) (λ x _. reach-two (h x)) tt

same-origin : (f origin : ℕ → ℕ) → ((x : ℕ) → origin (f x) ≡ origin x) → (a b : ℕ) → Reach f a b → origin a ≡ origin b
same-origin f origin h a b = reach-ind (λ x. origin x ≡ origin b) refl (λ z r e. sym (h z) ∙ e)

-- the turn about a vertex has an inverse, so its walks come back
turn-round : (n : ℕ) (next prev : ℕ → ℕ) → Inverse (2 * n) next prev → (e : ℕ) → e < 2 * n
    → Period (λ x. rev (prev x)) e (period_below (2 * n) (λ x. rev (prev x)) e)
turn-round n next prev i e l = period-is (inverse-then (inverse-sym i) (rev-inverse n)) l

-- ---- three stores into a list, as the code nests them
stored : (l : List ℕ) (a b c u v w : ℕ) → a < length l → b < length l → c < length l → a ≢ b → a ≢ c → b ≢ c
    → get_or (set (set (set l a u) b v) c w) b 0 ≡ v
stored l a b c u v w la lb lc ab ac bc =
    store_at 3 (entry (a ∷ b ∷ c ∷ [])) (entry (u ∷ v ∷ w ∷ [])) l 0 (listed-list (a ∷ b ∷ c ∷ []) (la, (lb, (lc, tt))) ((ab, (ac, tt)), ((bc, tt), (tt, tt)))) 1 (omega arith)

-- ---- tallies: a round's tally from another start
elsewhere : (b : ℕ → Bool) (f : ℕ → ℕ) (n s t : ℕ) → iter n f s ≡ s → Reach f s t → tally b (walk n f s) ≡ 1 → tally b (walk n f t) ≡ 1
elsewhere b f n s t e r h = tally-round b f n s e r ∙ h

-- ---- a count after a change at two places, of which one passed before and none does after
fewer : (n a b : ℕ) (p q : ℕ → Bool) → a < n → b < n → a ≢ b → ((i : ℕ) → i < n → None i (a ∷ b ∷ []) → p i ≡ q i)
    → p a ≡ true → p b ≡ false → q a ≡ false → q b ≡ false
    → suc (count n q) ≡ count n p
unfolding tally
fewer n a b p q la lb ab h e₁ e₂ e₃ e₄ =
    let c = count-change-list n (a ∷ b ∷ []) (la, (lb, tt)) ((ab, tt), (tt, tt)) p q h in
    omega (arith, ap bit e₁, ap bit e₂, ap bit e₃, ap bit e₄)

-- the second number falls
pub falls : Falls done turn (λ _. Unit {0}) (λ s. s.b)
falls = record { keeps = λ s i e. tt; less = λ s i e. mod-lt s.a (let h = eqb-false s.b 0 e in omega arith) }

pub ends : (s : Two) → done (gcd s) ≡ true
unfolding gcd
ends s = until-ends done turn falls (fuel s) s tt (omega arith)

-- the three needs of a loop of code, with this for its invariant: at the start, after a turn, and at the end
abbrev Inv : Two → Two → Type 0
Inv s₀ s = Going done turn (λ _. Unit {0}) (λ s. s.b) (fuel s₀) s₀ s

start : (s₀ : Two) → Inv s₀ s₀
start s₀ = going_start done turn falls (fuel s₀) s₀ tt (omega arith)

again : (s₀ s : Two) → Inv s₀ s → done s ≡ false → Inv s₀ (turn s)
again s₀ s g e = going-turn done turn falls g e

returns : (s₀ s : Two) → Inv s₀ s → done s ≡ true → s ≡ gcd s₀
unfolding gcd
returns s₀ s g e = going_end done turn falls g e
