-- Laws of specs/Segments.antt.
use Rattle.std.specs.Prelude.{◌≡◌, refl, ◌≢◌, Bool, true, false, not, cond, ◌&&◌, ◌||◌, ℕ, ◌+◌, ◌-◌, ◌*◌, ◌<◌, ◌≤◌, T, ltb, leb, eqb}
use Rattle.std.proofs.Math.Decide.{ℕ_discrete}
use Rattle.std.proofs.Common.{arith, ltb→lt, eqb→eq, lt→ltb, le→leb}
use Rattle.ring.specs.Ring.{proper, wraps}
use Rattle.segment.specs.Arc.{holds, gap, wide}
use Rattle.sums.specs.Bit.{bit}
use Rattle.sums.proofs.BitLaws.{Tells, bit-no, eq?, le?, lt?, sure}
use Rattle.ring.specs.Segments.{Holds, plain, late, early}

-- holds = wraps + (a ≤ x) - (b ≤ x)
pub held : (x a b : ℕ) → bit (holds x a b) + bit (leb b x) ≡ bit (wraps a b) + bit (leb a x)
unfolding holds wraps
held x a b = go (ltb a b) (ltb b a) (leb a x) (leb b x) (ltb x b) (lt? a b) (lt? b a) (le? a x) (le? b x) (lt? x b)
  where
    go : (u v c d e : Bool) → Tells u (a < b) (b ≤ a) → Tells v (b < a) (a ≤ b) → Tells c (a ≤ x) (x < a)
        → Tells d (b ≤ x) (x < b) → Tells e (x < b) (b ≤ x)
        → bit (cond u (c && e) (cond v (c || e) false)) + bit d ≡ bit v + bit c
    go u v c true true A B C D E = absurd (let p = D.0 tt in let q = E.0 tt in omega arith)
    go u v c false false A B C D E = absurd (let p = D.1 tt in let q = E.1 tt in omega arith)
    go true true c true false A B C D E = absurd (let p = A.0 tt in let q = B.0 tt in omega arith)
    go true true c false true A B C D E = absurd (let p = A.0 tt in let q = B.0 tt in omega arith)
    go true false true true false A B C D E = refl
    go true false true false true A B C D E = refl
    go true false false true false A B C D E = absurd (let p = A.0 tt in let q = C.1 tt in let r = D.0 tt in omega arith)
    go true false false false true A B C D E = refl
    go false true true true false A B C D E = refl
    go false true true false true A B C D E = absurd (let p = B.0 tt in let q = C.0 tt in let r = D.1 tt in omega arith)
    go false true false true false A B C D E = refl
    go false true false false true A B C D E = refl
    go false false true true false A B C D E = refl
    go false false true false true A B C D E =
        absurd (let p = A.1 tt in let q = B.1 tt in let s = C.0 tt in let r = D.1 tt in omega arith)
    go false false false true false A B C D E =
        absurd (let p = A.1 tt in let q = B.1 tt in let s = C.1 tt in let r = D.0 tt in omega arith)
    go false false false false true A B C D E = refl

pub holds→ : (x a b : ℕ) → T (holds x a b) → Holds x a b
unfolding holds
holds→ x a b h = go (ltb a b) (ltb b a) (leb a x) (ltb x b) (lt? a b) (lt? b a) (le? a x) (lt? x b) h
  where
    go : (u v c e : Bool) → Tells u (a < b) (b ≤ a) → Tells v (b < a) (a ≤ b) → Tells c (a ≤ x) (x < a)
        → Tells e (x < b) (b ≤ x) → T (cond u (c && e) (cond v (c || e) false)) → Holds x a b
    go true v true true A B C E h = plain (A.0 tt) (C.0 tt) (E.0 tt)
    go true v true false A B C E h = absurd h
    go true v false e A B C E h = absurd h
    go false true true e A B C E h = late (B.0 tt) (C.0 tt)
    go false true false true A B C E h = early (B.0 tt) (E.0 tt)
    go false true false false A B C E h = absurd h
    go false false c e A B C E h = absurd h

pub holds← : {x a b : ℕ} → Holds x a b → T (holds x a b)
unfolding holds
holds← {x} {a} {b} (plain p q r) = go (ltb a b) (leb a x) (ltb x b) (lt→ltb a b p) (le→leb a x q) (lt→ltb x b r)
  where
    go : (u c e : Bool) → T u → T c → T e → T (cond u (c && e) (cond (ltb b a) (c || e) false))
    go true true true A C E = tt
    go true true false A C E = E
    go true false e A C E = C
    go false c e A C E = absurd A
holds← {x} {a} {b} (late p q) = go (ltb a b) (ltb b a) (leb a x) (lt? a b) (lt→ltb b a p) (le→leb a x q)
  where
    go : (u v c : Bool) → Tells u (a < b) (b ≤ a) → T v → T c → T (cond u (c && ltb x b) (cond v (c || ltb x b) false))
    go true v c A B C = absurd (let z = A.0 tt in omega arith)
    go false true true A B C = tt
    go false true false A B C = absurd C
    go false false c A B C = B
holds← {x} {a} {b} (early p q) = go (ltb a b) (ltb b a) (leb a x) (ltb x b) (lt? a b) (lt→ltb b a p) (lt→ltb x b q)
  where
    go : (u v c e : Bool) → Tells u (a < b) (b ≤ a) → T v → T e → T (cond u (c && e) (cond v (c || e) false))
    go true v c e A B E = absurd (let z = A.0 tt in omega arith)
    go false true true e A B E = tt
    go false true false e A B E = E
    go false false c e A B E = B

pub proper→ : (a b : ℕ) → T (proper a b) → a ≢ b
unfolding proper
proper→ a b = (eq? a b).1

pub proper← : (a b : ℕ) → a ≢ b → T (proper a b)
unfolding proper
proper← a b n = sure (not (eqb a b)) (λ t. n (eqb→eq a b (back (eqb a b) t)))
  where
    back : (t : Bool) → T (not (not t)) → T t
    back true h = h
    back false h = h

pub proper? : (a b : ℕ) → Tells (proper a b) (a ≢ b) (a ≡ b)
proper? a b = (proper→ a b, λ t. go t (ℕ_discrete a b))
  where
    both : (t : Bool) → T (not t) → T t → ⊥
    both true u v = u
    both false u v = v

    go : T (not (proper a b)) → Dec (a ≡ b) → a ≡ b
    go t (yes e) = e
    go t (no n) = absurd (both (proper a b) t (proper← a b n))

pub wraps→ : (a b : ℕ) → T (wraps a b) → b < a
unfolding wraps
wraps→ a b = ltb→lt b a

pub wraps← : (a b : ℕ) → b < a → T (wraps a b)
unfolding wraps
wraps← a b = lt→ltb b a

-- a segment that holds something is proper, and a proper one holds its first
pub holds-proper : (x a b : ℕ) → T (holds x a b) → T (proper a b)
holds-proper x a b h = proper← a b (go (holds→ x a b h))
  where
    go : Holds x a b → a ≢ b
    go (plain p q r) e = omega arith
    go (late p q) e = omega arith
    go (early p q) e = omega arith

pub holds-first : (a b : ℕ) → a ≢ b → T (holds a a b)
holds-first a b n = go (ltb a b) (lt? a b)
  where
    go : (t : Bool) → Tells t (a < b) (b ≤ a) → T (holds a a b)
    go true A = let p = A.0 tt in holds← (plain p (omega arith) p)
    go false A = let p = A.1 tt in holds← {x = a} {a = a} {b = b} (late (omega arith) (omega arith))

-- two sums of tests of one pair
pub wraps-le : (a q : ℕ) → bit (wraps a q) + bit (leb a q) ≡ 1
unfolding wraps
wraps-le a q = go (ltb q a) (leb a q) (lt? q a) (le? a q)
  where
    go : (u v : Bool) → Tells u (q < a) (a ≤ q) → Tells v (a ≤ q) (q < a) → bit u + bit v ≡ 1
    go true true A B = absurd (let p = A.0 tt in let r = B.0 tt in omega arith)
    go true false A B = refl
    go false true A B = refl
    go false false A B = absurd (let p = A.1 tt in let r = B.1 tt in omega arith)

pub le-proper : (q b : ℕ) → bit (leb b q) + bit (proper q b) ≡ bit (wraps q b) + 1
unfolding wraps proper
le-proper q b = go (leb b q) (eqb q b) (ltb b q) (le? b q) (eq? q b) (lt? b q)
  where
    go : (u v w : Bool) → Tells u (b ≤ q) (q < b) → Tells v (q ≡ b) (q ≢ b) → Tells w (b < q) (q ≤ b) → bit u + bit (not v) ≡ bit w + 1
    go true true true A B C = absurd (let p = B.0 tt in let r = C.0 tt in omega arith)
    go true true false A B C = refl
    go true false true A B C = refl
    go true false false A B C = absurd (B.1 tt (let p = A.0 tt in let r = C.1 tt in omega arith))
    go false true w A B C = absurd (let p = A.1 tt in let r = B.0 tt in omega arith)
    go false false true A B C = absurd (let p = A.1 tt in let r = C.0 tt in omega arith)
    go false false false A B C = refl

-- a segment from a to a passes none of the tests
pub null-holds : (x a : ℕ) → bit (holds x a a) ≡ 0
null-holds x a = bit-no (holds x a a) (λ t. proper→ a a (holds-proper x a a t) refl)

pub null-proper : (a : ℕ) → bit (proper a a) ≡ 0
null-proper a = bit-no (proper a a) (λ t. proper→ a a t refl)

pub null-wraps : (a : ℕ) → bit (wraps a a) ≡ 0
null-wraps a = bit-no (wraps a a) (λ t. let h = wraps→ a a t in omega arith)

pub null-wide : (N a : ℕ) → bit (wide N a a) ≡ 0
unfolding wide gap
null-wide N a =
    bit-no (ltb (3 * N) (4 * cond (ltb a a) (a + N - a) (a - a)))
    (λ t. go (ltb a a) (lt? a a) (ltb→lt (3 * N) (4 * cond (ltb a a) (a + N - a) (a - a)) t))
  where
    go : (u : Bool) → Tells u (a < a) (a ≤ a) → 3 * N < 4 * cond u (a + N - a) (a - a) → ⊥
    go true A h = let z = A.0 tt in omega arith
    go false A h = omega arith

pub wide-wraps : (N a b : ℕ) → b < a → 3 * N < 4 * (b + N - a) → T (wide N a b)
unfolding wide gap
wide-wraps N a b h l = go (ltb b a) (lt? b a)
  where
    go : (t : Bool) → Tells t (b < a) (a ≤ b) → T (ltb (3 * N) (4 * cond t (b + N - a) (b - a)))
    go true A = lt→ltb (3 * N) (4 * (b + N - a)) l
    go false A = absurd (let z = A.1 tt in omega arith)
