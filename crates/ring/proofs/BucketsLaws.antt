-- Laws of specs/Buckets.antt.
use Rattle.std.specs.Prelude.{◌≡◌, refl, ◌≢◌, ◌⊎◌, Bool, true, false, not, cond, ◌&&◌, ◌||◌, ℕ, suc, ◌+◌, ◌-◌, ◌*◌, ◌/◌, ◌%◌, ◌<◌, ◌≤◌, T, ltb, leb}
use Rattle.std.proofs.Common.{◌∙◌, ap, inl, inr, le_refl, le-div_iff_mul-le, div-lt_iff_lt-mul, mul-le-mul_right, mod-eq_of_lt, arith}
use Rattle.std.proofs.Math.Nat.{mod_self}
use Rattle.std.proofs.Math.Decide.{ℕ_discrete, dec_lt}
use Rattle.segment.specs.Arc.{gap, holds, wide}
use Rattle.ring.specs.Segments.{Holds, plain, late, early}
use Rattle.ring.proofs.SegmentsLaws.{holds→, holds←}
use Rattle.sums.specs.Bit.{bit}
use Rattle.sums.proofs.BitLaws.{Tells, bit-no, le?, lt?, sure}
use Rattle.ring.specs.Buckets.{ceiling, within, Range, inside, above, below, Sized, NarrowSegment}

-- ---- the ceiling
pub ceiling-hi : (w x : ℕ) → 0 < w → x ≤ ceiling w x * w
unfolding ceiling
ceiling-hi w x h =
    let a = (div-lt_iff_lt-mul {k = w} {x = x + (w - 1)} {y = suc ((x + (w - 1)) / w)} h).0 (le_refl (suc ((x + (w - 1)) / w))) in
    omega arith

pub ceiling-lo : (w x : ℕ) → 0 < w → ceiling w x * w < x + w
unfolding ceiling
ceiling-lo w x h =
    let a = (le-div_iff_mul-le {k = w} {x = (x + (w - 1)) / w} {y = x + (w - 1)} h).0 (le_refl ((x + (w - 1)) / w)) in omega arith

pub ceiling-le : (w x i : ℕ) → 0 < w → x ≤ i * w → ceiling w x ≤ i
unfolding ceiling
ceiling-le w x i h g = let a = (div-lt_iff_lt-mul {k = w} {x = x + (w - 1)} {y = suc i} h).1 (omega arith) in omega arith

pub ceiling-gt : (w x i : ℕ) → 0 < w → i * w < x → i < ceiling w x
unfolding ceiling
ceiling-gt w x i h g = (le-div_iff_mul-le {k = w} {x = suc i} {y = x + (w - 1)} h).1 (omega arith)

range→ : (i L R : ℕ) → T (within i L R) → Range i L R
unfolding within
range→ i L R h = go (leb L R) (leb L i) (ltb i R) (le? L R) (le? L i) (lt? i R) h
  where
    go : (u c e : Bool) → Tells u (L ≤ R) (R < L) → Tells c (L ≤ i) (i < L) → Tells e (i < R) (R ≤ i)
        → T (cond u (c && e) (c || e)) → Range i L R
    go true true true A C E h = inside (C.0 tt) (E.0 tt)
    go true true false A C E h = absurd h
    go true false e A C E h = absurd h
    go false true e A C E h = above (A.1 tt) (C.0 tt)
    go false false true A C E h = below (A.1 tt) (E.0 tt)
    go false false false A C E h = absurd h

range← : {i L R : ℕ} → Range i L R → T (within i L R)
unfolding within
range← {i} {L} {R} r = go (leb L R) (leb L i) (ltb i R) (le? L R) (le? L i) (lt? i R) r
  where
    go : (u c e : Bool) → Tells u (L ≤ R) (R < L) → Tells c (L ≤ i) (i < L) → Tells e (i < R) (R ≤ i) → Range i L R
        → T (cond u (c && e) (c || e))
    go u true true A C E r = both u
      where
        both : (u : Bool) → T (cond u (true && true) (true || true))
        both true = tt
        both false = tt
    go u true false A C E (inside p q) = absurd (let z = E.1 tt in omega arith)
    go true true false A C E (above p q) = absurd (let z = A.0 tt in omega arith)
    go false true false A C E (above p q) = tt
    go u true false A C E (below p q) = absurd (let z = E.1 tt in omega arith)
    go u false e A C E (inside p q) = absurd (let z = C.1 tt in omega arith)
    go u false e A C E (above p q) = absurd (let z = C.1 tt in omega arith)
    go true false e A C E (below p q) = absurd (let z = A.0 tt in omega arith)
    go false false true A C E (below p q) = tt
    go false false false A C E (below p q) = absurd (let z = E.1 tt in omega arith)

-- a range from L to L is empty
pub null-within : (i L : ℕ) → bit (within i L L) ≡ 0
null-within i L = bit-no (within i L L) (λ t. go (range→ i L L t))
  where
    go : Range i L L → ⊥
    go (inside p q) = omega arith
    go (above p q) = omega arith
    go (below p q) = omega arith

-- ---- a segment that is not wide
pub narrow-plain : (N a b : ℕ) → (T (wide N a b) → ⊥) → a < b → 4 * (b - a) ≤ 3 * N
unfolding wide gap
narrow-plain N a b h l = go (ltb b a) (lt? b a) (λ z. h z)
  where
    go : (t : Bool) → Tells t (b < a) (a ≤ b) → (T (ltb (3 * N) (4 * cond t (b + N - a) (b - a))) → ⊥) → 4 * (b - a) ≤ 3 * N
    go true A h = absurd (let z = A.0 tt in omega arith)
    go false A h = (lt? (3 * N) (4 * (b - a))).1 (sure (not (ltb (3 * N) (4 * (b - a)))) (λ z. h (back (ltb (3 * N) (4 * (b - a))) z)))
      where
        back : (t : Bool) → T (not (not t)) → T t
        back true z = z
        back false z = z

pub narrow-wraps : (N a b : ℕ) → (T (wide N a b) → ⊥) → b < a → 4 * (b + N - a) ≤ 3 * N
unfolding wide gap
narrow-wraps N a b h l = go (ltb b a) (lt? b a) (λ z. h z)
  where
    go : (t : Bool) → Tells t (b < a) (a ≤ b) → (T (ltb (3 * N) (4 * cond t (b + N - a) (b - a))) → ⊥) → 4 * (b + N - a) ≤ 3 * N
    go false A h = absurd (let z = A.1 tt in omega arith)
    go true A h =
        (lt? (3 * N) (4 * (b + N - a))).1 (sure (not (ltb (3 * N) (4 * (b + N - a)))) (λ z. h (back (ltb (3 * N) (4 * (b + N - a))) z)))
      where
        back : (t : Bool) → T (not (not t)) → T t
        back true z = z
        back false z = z

-- ---- A number up to n, taken from n to 0
Turned : ℕ → ℕ → ℕ → Type 0
Turned A n L = ((A < n) × (L ≡ A)) ⊎ ((A ≡ n) × (L ≡ 0))

turned : (A n : ℕ) → A ≤ n → Turned A n (A % n)
unfolding Turned
turned A n h = go (dec_lt A n)
  where
    go : Dec (A < n) → Turned A n (A % n)
    go (yes l) = inl (l, mod-eq_of_lt l)
    go (no l) = let e : A ≡ n = omega arith in inr (e, ap (λ (m : ℕ). m % n) e ∙ mod_self n)

-- where A ≤ B, and not from 0 to n: the range holds i just if A ≤ i < B
rises→ : {A B n i L R : ℕ} → A ≤ B → (A ≡ 0 → B ≡ n → ⊥) → i < n → Turned A n L → Turned B n R → A ≤ i → i < B → Range i L R
unfolding Turned
rises→ le full il (inl (a, la)) (inl (b, rb)) p q = inside (omega arith) (omega arith)
rises→ {A} {B} {n} {i} {L} {R} le full il (inl (a, la)) (inr (b, rb)) p q = go (ℕ_discrete A 0)
  where
    go : Dec (A ≡ 0) → Range i L R
    go (yes z) = absurd (full z b)
    go (no z) = above (omega arith) (omega arith)
rises→ le full il (inr (a, la)) t p q = absurd (omega arith)

rises← : {A B n i L R : ℕ} → A ≤ B → i < n → Turned A n L → Turned B n R → Range i L R → (A ≤ i) × (i < B)
unfolding Turned
rises← le il (inl a) (inl b) (inside p q) = omega arith
rises← le il (inl a) (inr b) (inside p q) = absurd (omega arith)
rises← le il (inr a) (inl b) (inside p q) = absurd (omega arith)
rises← le il (inr a) (inr b) (inside p q) = absurd (omega arith)
rises← le il (inl a) (inl b) (above p q) = absurd (omega arith)
rises← le il (inl a) (inr b) (above p q) = omega arith
rises← le il (inr a) t (above p q) = absurd (omega arith)
rises← le il (inl a) (inl b) (below p q) = absurd (omega arith)
rises← le il (inl a) (inr b) (below p q) = absurd (omega arith)
rises← le il (inr a) t (below p q) = absurd (omega arith)

-- where B < A: just if A ≤ i or i < B
drops→ : {A B n i L R : ℕ} → B < A → A ≤ n → i < n → Turned A n L → Turned B n R → (A ≤ i) ⊎ (i < B) → Range i L R
unfolding Turned
drops→ lt an il t (inr b) w = absurd (omega arith)
drops→ lt an il (inl a) (inl b) (inl p) = above (omega arith) (omega arith)
drops→ lt an il (inl a) (inl b) (inr p) = below (omega arith) (omega arith)
drops→ lt an il (inr a) (inl b) (inl p) = absurd (omega arith)
drops→ lt an il (inr a) (inl b) (inr p) = inside (omega arith) (omega arith)

drops← : {A B n i L R : ℕ} → B < A → A ≤ n → i < n → Turned A n L → Turned B n R → Range i L R → (A ≤ i) ⊎ (i < B)
unfolding Turned
drops← lt an il t (inr b) w = absurd (omega arith)
drops← lt an il (inl a) (inl b) (inside p q) = absurd (omega arith)
drops← lt an il (inl a) (inl b) (above p q) = inl (omega arith)
drops← lt an il (inl a) (inl b) (below p q) = inr (omega arith)
drops← lt an il (inr a) (inl b) (inside p q) = inr (omega arith)
drops← lt an il (inr a) (inl b) (above p q) = absurd (omega arith)
drops← lt an il (inr a) (inl b) (below p q) = absurd (omega arith)

bool_eq : (u v : Bool) → (T u → T v) → (T v → T u) → u ≡ v
bool_eq true true f g = refl
bool_eq true false f g = absurd (f tt)
bool_eq false true f g = absurd (g tt)
bool_eq false false f g = refl

module _ {N n w a b : ℕ} (Z : Sized N n w) (F : NarrowSegment N a b) where
  enough : 8 * w ≤ N
  enough = let h = mul-le-mul_right w Z.eight in let e = Z.all in omega arith

  top : (x : ℕ) → x ≤ N → ceiling w x ≤ n
  top x h = ceiling-le w x n Z.room (let e = Z.all in omega arith)

  order : a < b → ceiling w a ≤ ceiling w b
  order l = ceiling-le w a (ceiling w b) Z.room (let h = ceiling-hi w b Z.room in omega arith)

  not_full : a < b → ceiling w a ≡ 0 → ceiling w b ≡ n → ⊥
  not_full l p q =
      let h = ceiling-hi w a Z.room in let u = ap (λ (x : ℕ). x * w) p in let z : 0 * w ≡ 0 = omega arith in
      let g = ceiling-lo w b Z.room in let v = ap (λ (x : ℕ). x * w) q in
      let e = Z.all in let r = narrow-plain N a b F.narrow l in let s = enough in let t = Z.room in omega arith

  strict : b < a → ceiling w b < ceiling w a
  strict l =
      go (dec_lt (ceiling w b) (ceiling w a))
    where
      go : Dec (ceiling w b < ceiling w a) → ceiling w b < ceiling w a
      go (yes h) = h
      go (no h) =
          let m = mul-le-mul_right w (turn h) in
          let g = ceiling-hi w a Z.room in let k = ceiling-lo w b Z.room in
          let r = narrow-wraps N a b F.narrow l in let s = enough in let t = Z.room in let i = F.a_in in absurd (omega arith)
        where
          turn : ¬ (ceiling w b < ceiling w a) → ceiling w a ≤ ceiling w b
          turn h = omega arith

  pub bucket-range : (i : ℕ) → i < n → holds (i * w) a b ≡ within i (ceiling w a % n) (ceiling w b % n)
  bucket-range i il =
      bool_eq (holds (i * w) a b) (within i (ceiling w a % n) (ceiling w b % n)) (λ t. range← (forth (holds→ (i * w) a b t)))
      (λ t. back (range→ i (ceiling w a % n) (ceiling w b % n) t) (dec_lt a b))
    where
      t_a : Turned (ceiling w a) n (ceiling w a % n)
      t_a = turned (ceiling w a) n (top a F.a_in)

      t_b : Turned (ceiling w b) n (ceiling w b % n)
      t_b = turned (ceiling w b) n (top b F.b-in)

      le : (x : ℕ) → ceiling w x ≤ i → x ≤ i * w
      le x h = let g = ceiling-hi w x Z.room in let m = mul-le-mul_right w h in omega arith

      gt : (x : ℕ) → i < ceiling w x → i * w < x
      gt x h = let g = ceiling-lo w x Z.room in let m = mul-le-mul_right w h in omega arith

      forth : Holds (i * w) a b → Range i (ceiling w a % n) (ceiling w b % n)
      forth (plain l p q) = rises→ (order l) (not_full l) il t_a t_b (ceiling-le w a i Z.room p) (ceiling-gt w b i Z.room q)
      forth (late l p) = drops→ (strict l) (top a F.a_in) il t_a t_b (inl (ceiling-le w a i Z.room p))
      forth (early l p) = drops→ (strict l) (top a F.a_in) il t_a t_b (inr (ceiling-gt w b i Z.room p))

      back : Range i (ceiling w a % n) (ceiling w b % n) → Dec (a < b) → T (holds (i * w) a b)
      back r (yes l) = let h = rises← (order l) il t_a t_b r in holds← (plain l (le a h.0) (gt b h.1))
      back r (no l) = go (drops← (strict (turn l)) (top a F.a_in) il t_a t_b r)
        where
          turn : ¬ (a < b) → b < a
          turn l = let n = F.apart in omega arith

          go : (ceiling w a ≤ i) ⊎ (i < ceiling w b) → T (holds (i * w) a b)
          go (inl h) = holds← {x = i * w} {a = a} {b = b} (late (turn l) (le a h))
          go (inr h) = holds← {x = i * w} {a = a} {b = b} (early (turn l) (gt b h))
