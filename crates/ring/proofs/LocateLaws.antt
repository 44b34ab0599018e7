-- Laws of specs/Locate.antt.
use Rattle.std.specs.Prelude.{◌≡◌, refl, ◌≢◌, Bool, true, false, ◌&&◌, ltb, leb}
use Rattle.std.proofs.Common.{sym, ◌∙◌, subst, div-add-mod', mod-lt, mul-le-mul_right}
use Rattle.std.proofs.Math.Path.{ap}
use Prim.Native.Nat.{ℕ, zero, suc, ◌+◌, ◌-◌, ◌*◌, ◌/◌, ◌<◌, ◌≤◌}
use Rattle.std.proofs.Math.Decide.{ℕ_discrete, dec_lt}
use native.Mathlib.Omega.{arith}
use Rattle.std.proofs.Math.Dec.{T}
use Rattle.segment.specs.Arc.{holds, wide}
use Rattle.ring.specs.Ring.{at_ends, between, proper, wraps}
use Rattle.ring.proofs.SegmentsLaws.{wide-wraps, wraps→, null-proper}
use Rattle.ring.specs.Sound.{Sound}
use Rattle.ring.proofs.SoundLaws.{held-along, tile-count}
use Rattle.ring.specs.Buckets.{Sized}
use Rattle.ring.specs.Node.{NodeTable, nodes}
use Rattle.ring.specs.Insert.{Ring}
use Rattle.ring.proofs.InsertLaws.{ring-tally, ring-proper, all-proper, node-sole}
use Rattle.sums.specs.Bit.{bit}
use Rattle.sums.proofs.BitLaws.{Tells, bit-1, bit_le, bit-no, le?, lt?}
use Rattle.sums.specs.Iterate.{iter}
use Rattle.sums.proofs.IterateLaws.{iter-add, iter-last}
use Rattle.sums.specs.Tally.{First, tally, walk}
use Rattle.sums.proofs.TallyLaws.{counts, first, tally-add, tally-ext}
use Rattle.ring.specs.Locate.{angle_in}

between_is : (y x a : ℕ) → y ≤ x → bit (between y x a) + bit (leb a y) ≡ bit (leb a x)
unfolding between
between_is y x a h = go (ltb y a) (leb a x) (leb a y) (lt? y a) (le? a x) (le? a y)
  where
    go : (u v w : Bool) → Tells u (y < a) (a ≤ y) → Tells v (a ≤ x) (x < a) → Tells w (a ≤ y) (y < a) → bit (u && v) + bit w ≡ bit v
    go true v true A B C = absurd (let p = A.0 tt in let q = C.0 tt in omega arith)
    go true true false A B C = refl
    go true false false A B C = refl
    go false true true A B C = refl
    go false false true A B C = absurd (let p = B.1 tt in let q = C.0 tt in omega arith)
    go false v false A B C = absurd (let p = A.1 tt in let q = C.1 tt in omega arith)

between→ : (y x a : ℕ) → T (between y x a) → (y < a) × (a ≤ x)
unfolding between
between→ y x a t = go (ltb y a) (leb a x) (lt? y a) (le? a x) t
  where
    go : (u v : Bool) → Tells u (y < a) (a ≤ y) → Tells v (a ≤ x) (x < a) → T (u && v) → (y < a) × (a ≤ x)
    go true true A B t = (A.0 tt, B.0 tt)
    go true false A B t = absurd t
    go false v A B t = absurd t

between-no : (y x a : ℕ) → bit (between y x a) ≡ 0 → y < a → x < a
unfolding between
between-no y x a t h = go (ltb y a) (leb a x) (lt? y a) (le? a x) t
  where
    go : (u v : Bool) → Tells u (y < a) (a ≤ y) → Tells v (a ≤ x) (x < a) → bit (u && v) ≡ 0 → x < a
    go true true A B t = absurd (omega arith)
    go true false A B t = B.1 tt
    go false v A B t = absurd (let p = A.1 tt in omega arith)

-- a walk all of which passes, or none
pub tally-none : (b : ℕ → Bool) (f : ℕ → ℕ) (n s : ℕ) → ((j : ℕ) → j < n → bit (b (iter j f s)) ≡ 0) → tally b (walk n f s) ≡ 0
unfolding walk tally
tally-none b f zero s h = refl
tally-none b f (suc n) s h = let i = tally-none b f n (f s) (λ j l. h (suc j) (omega arith)) in let z = h zero (omega arith) in omega arith

pub tally-whole : (b : ℕ → Bool) (f : ℕ → ℕ) (n s : ℕ) → ((j : ℕ) → j < n → bit (b (iter j f s)) ≡ 1) → tally b (walk n f s) ≡ n
unfolding walk tally
tally-whole b f zero s h = refl
tally-whole b f (suc n) s h =
    let i = tally-whole b f n (f s) (λ j l. h (suc j) (omega arith)) in let z = h zero (omega arith) in omega arith

pub tally-part : (b : ℕ → Bool) (f : ℕ → ℕ) (j n s : ℕ) → j ≤ n → tally b (walk j f s) ≤ tally b (walk n f s)
tally-part b f j n s h =
    let a = tally-add b f j (n - j) s in
    let e : j + (n - j) ≡ n = omega arith in let c = ap (λ (i : ℕ). tally b (walk i f s)) e in omega arith

-- The walk starts at s, which holds y; k steps on is the first that holds x
module _ {N : ℕ} {f α : ℕ → ℕ} {s n k x y : ℕ} (S : Sound N f α s n) (here : T (at_ends (holds y) f α s)) (up : y ≤ x)
    (K : First (at_ends (holds x) f α) f n s k) where
  v : ℕ → ℕ
  v j = bit (between y x (α (iter j f s)))

  n-some : 0 < n
  n-some = let h = K.below in omega arith

  -- the two tallies of the first j
  y-one : (j : ℕ) → 0 < j → j ≤ n → tally (at_ends (holds y) f α) (walk j f s) ≡ 1
  y-one j p l =
      let a = counts (at_ends (holds y) f α) f j s 0 p here in
      let b = tally-part (at_ends (holds y) f α) f j n s l in let c = tile-count S y in omega arith

  x-none : (j : ℕ) → j ≤ k → tally (at_ends (holds x) f α) (walk j f s) ≡ 0
  x-none j l =
      tally-none (at_ends (holds x) f α) f j s (λ i m. bit-no (at_ends (holds x) f α (iter i f s)) (λ t. K.before i (omega arith) t))

  x-one : (j : ℕ) → k < j → j ≤ n → tally (at_ends (holds x) f α) (walk j f s) ≡ 1
  x-one j p l =
      let a = counts (at_ends (holds x) f α) f j s k p K.passes in
      let b = tally-part (at_ends (holds x) f α) f j n s l in let c = tile-count S x in omega arith

  v-is : (j : ℕ) → tally (at_ends (holds x) f α) (walk j f s) + v j ≡ tally (at_ends (holds y) f α) (walk j f s) + v 0
  unfolding v
  v-is j =
      let a = held-along f α x j s in
      let b = held-along f α y j s in let c = between_is y x (α s) up in let d = between_is y x (α (iter j f s)) up in omega arith

  v_low : 0 < k → v 0 ≡ 0
  unfolding v
  v_low p =
      let h = K.below in
      let a = v-is 1 in
      let b = x-none 1 p in let c = y-one 1 (omega arith) (omega arith) in let d = bit_le (between y x (α (iter 1 f s))) in omega arith

  v-up : (j : ℕ) → 0 < j → j ≤ k → v j ≡ 1
  v-up j p l =
      let h = K.below in
      let a = v-is j in let b = x-none j l in let c = y-one j p (omega arith) in let d = v_low (omega arith) in omega arith

  v-past : (j : ℕ) → k < j → j ≤ n → v j ≡ v 0
  v-past j p l = let a = v-is j in let b = x-one j p l in let c = y-one j (omega arith) l in omega arith

  -- the count, where not every angle is above y and up to x
  count-if : v 0 ≡ 0 → tally (λ e. between y x (α e)) (walk n f s) ≡ k
  unfolding walk tally v
  count-if z =
      let h = K.below in
      let d = n - suc k in
      let whole = tally-add (λ e. between y x (α e)) f (suc k) d s in
      let e : suc k + d ≡ n = omega arith in
      let w = ap (λ (i : ℕ). tally (λ e. between y x (α e)) (walk i f s)) e in
      let a = tally-whole (λ e. between y x (α e)) f k (f s) (λ j l. v-up (suc j) (omega arith) (omega arith)) in
      let b = tally-none (λ e. between y x (α e)) f d (iter k f (f s))
      (λ j l. ap (λ (i : ℕ). bit (between y x (α i))) (sym (iter-add (suc k) j f s)) ∙ v-past (suc k + j) (omega arith) (omega arith) ∙ z)
      in
      omega arith

  -- if the walk passes none, all angles are above y and up to x, or none is
  level : k ≡ 0 → (j : ℕ) → j ≤ n → v j ≡ v 0
  level z zero l = refl
  level z (suc j) l = v-past (suc j) (omega arith) l

  -- some edge wraps, and the angles of its ends cannot both be close above y
  close : 4 * (x - y) ≤ N → v 0 ≡ 0
  unfolding v
  close c = go (dec_lt 0 k) (ℕ_discrete (v 0) 0)
    where
      go : Dec (0 < k) → Dec (v 0 ≡ 0) → v 0 ≡ 0
      go (yes p) d = v_low p
      go (no p) (yes z) = z
      go (no p) (no z) =
          let w = first (at_ends wraps f α) f n s (let o = S.once in omega arith) in
          let j = w.0 in let l = w.1.below in
          let a = α (iter j f s) in let b = α (f (iter j f s)) in
          let k0 : k ≡ 0 = omega arith in
          let va = level k0 j (omega arith) in let vb = level k0 (suc j) l in
          let A = between→ y x a (bit-1 (between y x a) (omega arith)) in
          let C = between→ y x b
          (subst (λ (i : ℕ). T (between y x (α i))) (iter-last j f s) (bit-1 (between y x (α (iter (suc j) f s))) (omega arith))) in
          let d = wraps→ a b w.1.passes in
          let q = counts (at_ends (wide N) f α) f n s j l (wide-wraps N a b d (far y x a b N c A.0 A.1 C.0 d)) in
          let g = S.gaps in
          absurd (omega arith)
        where
          far : (y x a b N : ℕ) → 4 * (x - y) ≤ N → y < a → a ≤ x → y < b → b < a → 3 * N < 4 * (b + N - a)
          far y x a b N c p q r t = omega arith

  -- LOCATE'S COUNT
  pub locate-count : 4 * (x - y) ≤ N → tally (λ e. between y x (α e)) (walk n f s) ≡ k
  locate-count c = count-if (close c)

-- from the bucket of x, one of B ≥ 8, of w places each
pub bucket-count : {N B w : ℕ} {f α : ℕ → ℕ} {s n k : ℕ} (x : ℕ) → Sized N B w → Sound N f α s n
    → T (at_ends (holds (x / w * w)) f α s) → First (at_ends (holds x) f α) f n s k
    → tally (λ e. between (x / w * w) x (α e)) (walk n f s) ≡ k
bucket-count {N} {B} {w} {f} {α} {s} {n} {k} x W S here K =
    let a = div-add-mod' x w in let b = mod-lt x W.room in let c = mul-le-mul_right w W.eight in let d = W.all in
    locate-count S here (omega arith) K (omega arith)

-- at x = N, from the bucket 0
module _ {N : ℕ} {f α : ℕ → ℕ} {s n k : ℕ} (S : Sound N f α s n) (here : T (at_ends (holds 0) f α s))
    (K : First (at_ends (holds N) f α) f n s k) (low : (j : ℕ) → j < n → α (iter j f s) ≤ N) where
  at_zero : (j : ℕ) → j < n → bit (between 0 N (α (iter j f s))) ≡ 0 → α (iter j f s) ≡ 0
  at_zero j l z = go (dec_lt 0 (α (iter j f s)))
    where
      go : Dec (0 < α (iter j f s)) → α (iter j f s) ≡ 0
      go (yes p) = absurd (let a = between-no 0 N (α (iter j f s)) z p in let b = low j l in omega arith)
      go (no p) = omega arith

  zero-le : 0 ≤ N
  zero-le = omega arith

  pub top-none : ((j : ℕ) → j < n → α (iter j f s) ≢ 0) → k ≡ 0
  unfolding v
  top-none h = go (dec_lt 0 k)
    where
      go : Dec (0 < k) → k ≡ 0
      go (yes p) = absurd (h 0 (let l = K.below in omega arith) (at_zero 0 (let l = K.below in omega arith) (v_low S here zero-le K p)))
      go (no p) = omega arith

  pub top-some : tally (at_ends proper f α) (walk n f s) ≡ n → (j : ℕ) → j < n → α (iter j f s) ≡ 0 → suc k ≡ n
  unfolding v
  top-some A j l z = go (dec_lt 0 k) (dec_lt (suc k) n)
    where
      nil : bit (between 0 N (α (iter j f s))) ≡ 0
      nil = bit-no (between 0 N (α (iter j f s))) (λ t. let b = between→ 0 N (α (iter j f s)) t in omega arith)

      go : Dec (0 < k) → Dec (suc k < n) → suc k ≡ n
      go (no p) d =
          let k0 : k ≡ 0 = omega arith in
          let w = first (at_ends wraps f α) f n s (let o = S.once in omega arith) in
          let i = w.0 in
          let a = at_zero i w.1.below
          (level S here zero-le K k0 i (omega arith) ∙ sym (level S here zero-le K k0 j (omega arith)) ∙ nil) in
          let d = wraps→ (α (iter i f s)) (α (f (iter i f s))) w.1.passes in
          absurd (omega arith)
      go (yes p) (yes u) =
          let a = at_zero 0 (omega arith) (v_low S here zero-le K p) in
          let b = at_zero (suc k) u (v-past S here zero-le K (suc k) (omega arith) (omega arith) ∙ v_low S here zero-le K p) in
          let c = node-sole S A 0 (suc k) (omega arith) u (a ∙ sym b) in
          absurd (omega arith)
      go (yes p) (no u) = let h = K.below in omega arith

pub count-boundary : {N : ℕ} {next α : ℕ → ℕ} {τ : NodeTable} {e h s : ℕ} (R : Ring N next α τ e h s) (y x : ℕ)
    → tally (at_ends (angle_in y x) next α) (walk h next e) ≡ tally (λ i. between y x (τ.angle i)) (walk (nodes next α h e) τ.right s)
unfolding angle_in
count-boundary {N} {next} {α} {τ} {e} {h} {s} R y x =
    ring-tally R (angle_in y x) (λ a. none (proper a a) (null-proper a) (between y x a))
    ∙ tally-ext (λ i. between y x (τ.angle i)) (at_ends (angle_in y x) τ.right τ.angle) τ.right (nodes next α h e) s
    (λ k l. whole (at_ends proper τ.right τ.angle (iter k τ.right s)) (all-proper (at_ends proper τ.right τ.angle) τ.right (nodes next α h e) s (ring-proper R) k l) (between y x (τ.angle (iter k τ.right s))))
  where
    none : (t : Bool) → bit t ≡ 0 → (b : Bool) → bit (t && b) ≡ 0
    none true z b = absurd (omega arith)
    none false z b = refl

    whole : (t : Bool) → T t → (b : Bool) → (t && b) ≡ b
    whole true u b = refl
    whole false u b = absurd u
