-- What a store to a row does to the functions that the row is seen as. Assumes nothing.
use Prim.Native.Nat.{ℕ, ◌+◌, ◌*◌, ◌<◌}
use native.Mathlib.Omega.{arith}
use native.Mathlib.Decide.{ℕ_discrete}
use mathlib.Core.Path.{◌≡◌, ◌∙◌, ap₂, fun_ext}
use mathlib.Core.Logic.{◌≢◌}
use mathlib.Core.List.{List}
use lib.ListN.{length, get_or, set}
use lib.IntN.{ℤ, pos}
use lib.Seq.{get_or-set_same, get_or-set_other, lt-length-set}
use Rattle.math.specs.declared.Point.{Point}
use Rattle.sums.specs.Put.{put}
use Rattle.sums.proofs.PutLaws.{put_same, put_other}
use Rattle.dcel.specs.Rows.{halves_of, row_of, position_of, There, set_next, set_prev, set_face, set_origin}

-- a store at the place i a, of places that differ where their numbers do
stored : (i : ℕ → ℕ) (h : List ℕ) (a v : ℕ) → ((x : ℕ) → x ≢ a → i x ≢ i a) → i a < length h
    → (λ x. get_or (set h (i a) v) (i x) 0) ≡ put (λ x. get_or h (i x) 0) a v
stored i h a v d l = fun_ext (λ x. go x (ℕ_discrete x a))
  where
    go : (x : ℕ) → Dec (x ≡ a) → get_or (set h (i a) v) (i x) 0 ≡ put (λ x. get_or h (i x) 0) a v x
    go x (yes p) = rw (p, get_or-set_same h (i a) v 0 l, put_same)
    go x (no n) = rw (get_or-set_other h (i a) (i x) v 0 (d x n), put_other (λ x. get_or h (i x) 0) a v x n)

-- and at a place that none of them is
missed : (i : ℕ → ℕ) (h : List ℕ) (k v : ℕ) → ((x : ℕ) → i x ≢ k) → ◌≡◌ {A = ℕ → ℕ} (λ x. get_or (set h k v) (i x) 0) (λ x. get_or h (i x) 0)
missed i h k v d = fun_ext (λ x. get_or-set_other h k (i x) v 0 (d x))

pub store-row : (l : List ℕ) (a v : ℕ) → a < length l → row_of (set l a v) ≡ put (row_of l) a v
unfolding row_of
store-row l a v h = stored (λ x. x) l a v (λ x n. n) h

module _ (h : List ℕ) (a v : ℕ) (l : There h a) where
  pub store-next : halves_of (set h (4 * a) v) ≡ set_next (halves_of h) a v
  unfolding halves_of set_next
  store-next = λ i. record {
    next = stored (λ x. 4 * x) h a v (λ x n. omega arith) (omega arith) i;
    prev = missed (λ x. 4 * x + 1) h (4 * a) v (λ x. omega arith) i;
    face = missed (λ x. 4 * x + 2) h (4 * a) v (λ x. omega arith) i;
    origin = missed (λ x. 4 * x + 3) h (4 * a) v (λ x. omega arith) i;
  }

  pub store-prev : halves_of (set h (4 * a + 1) v) ≡ set_prev (halves_of h) a v
  unfolding halves_of set_prev
  store-prev = λ i. record {
    next = missed (λ x. 4 * x) h (4 * a + 1) v (λ x. omega arith) i;
    prev = stored (λ x. 4 * x + 1) h a v (λ x n. omega arith) (omega arith) i;
    face = missed (λ x. 4 * x + 2) h (4 * a + 1) v (λ x. omega arith) i;
    origin = missed (λ x. 4 * x + 3) h (4 * a + 1) v (λ x. omega arith) i;
  }

  pub store-face : halves_of (set h (4 * a + 2) v) ≡ set_face (halves_of h) a v
  unfolding halves_of set_face
  store-face = λ i. record {
    next = missed (λ x. 4 * x) h (4 * a + 2) v (λ x. omega arith) i;
    prev = missed (λ x. 4 * x + 1) h (4 * a + 2) v (λ x. omega arith) i;
    face = stored (λ x. 4 * x + 2) h a v (λ x n. omega arith) (omega arith) i;
    origin = missed (λ x. 4 * x + 3) h (4 * a + 2) v (λ x. omega arith) i;
  }

  pub store-origin : halves_of (set h (4 * a + 3) v) ≡ set_origin (halves_of h) a v
  unfolding halves_of set_origin
  store-origin = λ i. record {
    next = missed (λ x. 4 * x) h (4 * a + 3) v (λ x. omega arith) i;
    prev = missed (λ x. 4 * x + 1) h (4 * a + 3) v (λ x. omega arith) i;
    face = missed (λ x. 4 * x + 2) h (4 * a + 3) v (λ x. omega arith) i;
    origin = stored (λ x. 4 * x + 3) h a v (λ x n. omega arith) (omega arith) i;
  }

-- the two stores of a position
pub store-position : (p : List ℤ) (v : ℕ) (w : Point) (x y : ℤ) → 2 * v + 1 < length p → x ≡ w.x → y ≡ w.y
    → position_of (set (set p (2 * v) x) (2 * v + 1) y) ≡ put (position_of p) v w
unfolding position_of
store-position p v w x y l ex ey = fun_ext (λ u. go u (ℕ_discrete u v))
  where
    go : (u : ℕ) → Dec (u ≡ v) → position_of (set (set p (2 * v) x) (2 * v + 1) y) u ≡ put (position_of p) v w u
    go u (yes e) =
        rw (e, put_same)
        (ap₂ (λ (a b : ℤ). record { x = a; y = b })
        (get_or-set_other (set p (2 * v) x) (2 * v + 1) (2 * v) y (pos 0) (omega arith) ∙ get_or-set_same p (2 * v) x (pos 0) (omega arith) ∙ ex)
        (get_or-set_same (set p (2 * v) x) (2 * v + 1) y (pos 0) (lt-length-set p (2 * v) x l) ∙ ey))
    go u (no n) =
        rw (put_other (position_of p) v w u n)
        (ap₂ (λ (a b : ℤ). record { x = a; y = b })
        (get_or-set_other (set p (2 * v) x) (2 * v + 1) (2 * u) y (pos 0) (omega arith) ∙ get_or-set_other p (2 * v) (2 * u) x (pos 0) (omega arith))
        (get_or-set_other (set p (2 * v) x) (2 * v + 1) (2 * u + 1) y (pos 0) (omega arith) ∙ get_or-set_other p (2 * v) (2 * u + 1) x (pos 0) (omega arith)))
