-- The pass over the vertices: the positions `low` and `high` close in on the point, with no vertex so far between them, and
-- at the end they are those of its neighbours. Assumes nothing.
use Rattle.std.specs.Prelude.{Bool, true, false, not, ◌&&◌, List, Option, Some, None, IsSome, ◌⊎◌, ◌≡◌, ℕ, ◌+◌, ◌*◌, ◌<◌, ◌≤◌, ℤ, length}
use Rattle.std.proofs.Math.Logic.{inl, inr, ⊎_elim}
use Rattle.std.proofs.Math.Path.{refl, subst, subst⁻¹, ap₂}
use Rattle.std.proofs.Common.{sym, ◌∙◌, ap, arith}
use Rattle.std.proofs.Math.Decide.{ℕ_discrete}
use borrow.Author.Tests.{lt-ltb, le-ltb}
use Rattle.std.proofs.Math.Dec.{T}
use Rattle.dcel.specs.Rows.{position_of}
use Rattle.line.specs.Locate.{none_between, vertex_on, last_before, first_after}
use Rattle.line.specs.Order.{comes_before, is_same_of}
use Rattle.line.proofs.OrderLaws.{is_same, three_ways}
use Rattle.math.specs.declared.Point.{Point}
use Rattle.mesh.specs.declared.Counts.{Counts}
use Rattle.sums.proofs.BitLaws.{from-true, from_false, and_left, and_right, and_both}
use Rattle.sums.specs.Bounded.{first_below}
use Rattle.sums.proofs.BoundedLaws.{first-below-is, first-below-none}
use Rattle.line_search.specs.declared.Neighbors.TheVariants.{Vertex, Between}
use Rattle.line_search.specs.Before.{Precedes, precedes-trans, precedes-irrefl, both-pass, one-fails, none-between→, none-between←}
use Rattle.line_search.specs.Before.{lowest, highest, lowest-precedes, precedes-highest}
use Rattle.line_search.specs.LineRows.{VerticesReady, Neighbored, neighbor, number_of, neighbors_of}

-- a neighbour so far is at this position; where there is none it is `end`, which is out of range
abbrev pub StandsAt : List ℤ → ℕ → Point → Option ℕ → Point → Type 0
StandsAt q n end (Some v) at = (v < n) × (at ≡ position_of q v)
StandsAt q n end None at = at ≡ end

-- of the first v vertices none stands between `low` and `high`, and the point does; these are the positions of `before` and
-- `after`, or there is no such vertex
pub record Narrowed (q : List ℤ) (point : Point) (n : ℕ) (before after : Option ℕ) (low high : Point) (v : ℕ) : Type 0 where
  pub most : v ≤ n
  pub free : (j : ℕ) → j < v → Precedes low (position_of q j) → Precedes (position_of q j) high → ⊥
  pub under : Precedes low point
  pub over : Precedes point high
  pub at_low : StandsAt q n lowest before low
  pub at_high : StandsAt q n highest after high

-- ---- the nearest of n vertices on one side of q, in an order, P, or its converse
module _ (P : Point → Point → Type 0) (n : ℕ) (p : ℕ → Point) (q : Point) where
  pub record Nearest (u : ℕ) : Type 0 where
    pub on : P (p u) q
    pub clear : (j : ℕ) → j < n → P (p u) (p j) → P (p j) q → ⊥

  module _ (ways : (u v : ℕ) → u < n → v < n → (u ≡ v) ⊎ P (p u) (p v) ⊎ P (p v) (p u)) where
    only : {u v : ℕ} → u < n → v < n → Nearest u → Nearest v → u ≡ v
    only {u} {v} l m A B = go (ways u v l m)
      where
        go : (u ≡ v) ⊎ P (p u) (p v) ⊎ P (p v) (p u) → u ≡ v
        go (inl e) = e
        go (inr (inl s)) = absurd (A.clear v m s B.on)
        go (inr (inr s)) = absurd (B.clear u l s A.on)

    -- a test that finds it finds the one at the position a, or none where a is the end, which has every vertex on this side
    pub nearest-is : (test : ℕ → Bool) → ((u : ℕ) → Nearest u → T (test u)) → ((u : ℕ) → T (test u) → Nearest u)
        → {best : ℕ} {a end : Point} → ((u : ℕ) → u < n → P end (p u)) → P a q
        → ((j : ℕ) → j < n → P a (p j) → P (p j) q → ⊥) → ((best ≡ n) × (a ≡ end)) ⊎ ((best < n) × (a ≡ p best))
        → first_below n test ≡ best
    nearest-is test passes tells from on free (inl (e, i)) =
        first-below-none n test (λ u l t. free u l (subst (λ (a : Point). P a (p u)) (sym i) (from u l)) (tells u t).on) ∙ sym e
    nearest-is test passes tells {best} from on free (inr (l, i)) =
        first-below-is n test {k = best} (omega arith) (λ _. passes best N)
        (λ j m t. let k : j < n = omega arith in let e = only k l (tells j t) N in omega arith)
      where
        N : Nearest best
        N = record { on = subst (λ (a : Point). P a q) i on; clear = λ j m s t. free j m (subst (λ (a : Point). P a (p j)) (sym i) s) t }

-- ---- the pass
module _ {C : Counts} {q : List ℤ} {point : Point} (R : VerticesReady C q point) where
  abbrev n : ℕ
  n = C.vertices

  abbrev p : ℕ → Point
  p = position_of q

  pub narrow_start : Narrowed q point C.vertices None None lowest highest 0
  narrow_start = record {
    most = omega arith;
    free = λ j l s t. omega arith;
    under = lowest-precedes R.point-range;
    over = precedes-highest R.point-range;
    at_low = refl;
    at_high = refl;
  }

  pub vertex-there : {v : ℕ} → v < C.vertices → 2 * v + 1 < length q
  vertex-there l = let k = R.there in omega arith

  module _ {b a : Option ℕ} {v : ℕ} {low high : Point} (K : Narrowed q point C.vertices b a low high v) where
    -- no vertex so far is at the point
    none-at : (j : ℕ) → j < v → T (is_same_of (p j) point) → ⊥
    none-at j l s = let e = is_same (p j) point s in K.free j l (rw e K.under) (rw e K.over)

    -- vertex v is at r
    module _ (l : v < C.vertices) {r : Point} (x : r ≡ position_of q v) {t : Bool}
        (y : t ≡ (comes_before low r && comes_before r high)) where
      -- what holds of the vertices so far, and of v
      and-here : (c d : Point) → ((j : ℕ) → j < v → Precedes c (p j) → Precedes (p j) d → ⊥) → (Precedes c r → Precedes r d → ⊥)
          → (j : ℕ) → j < v + 1 → Precedes c (p j) → Precedes (p j) d → ⊥
      and-here c d f g j m s u = go (ℕ_discrete j v)
        where
          go : Dec (j ≡ v) → ⊥
          go (yes e) = let i : p j ≡ r = ap p e ∙ sym x in g (rw i at s) (rw i at u)
          go (no e) = f j (omega arith) s u

      pub narrow-past : t ≡ false → Narrowed q point C.vertices b a low high (v + 1)
      narrow-past i = record {
        most = omega arith;
        free = and-here low high K.free (one-fails low r high (from_false (sym y ∙ i)));
        under = K.under;
        over = K.over;
        at_low = K.at_low;
        at_high = K.at_high;
      }

      module _ (i : t ≡ true) {s : Bool} (z : s ≡ comes_before r point) where
        inside : Precedes low r × Precedes r high
        inside = both-pass low r high (from-true (sym y ∙ i))

        pub narrow-low : s ≡ true → Narrowed q point C.vertices (Some v) a r high (v + 1)
        narrow-low j = record {
          most = omega arith;
          free = and-here r high (λ k m c d. K.free k m (precedes-trans inside.0 c) d) (λ c d. precedes-irrefl c);
          under = record { is = from-true (sym z ∙ j) };
          over = K.over;
          at_low = (l, x);
          at_high = K.at_high;
        }

        module _ (j : s ≡ false) {m : Bool} (w : m ≡ comes_before point r) where
          pub narrow_high : m ≡ true → Narrowed q point C.vertices b (Some v) low r (v + 1)
          narrow_high k = record {
            most = omega arith;
            free = and-here low r (λ k m c d. K.free k m c (precedes-trans d inside.1)) (λ c d. precedes-irrefl d);
            under = K.under;
            over = record { is = from-true (sym w ∙ k) };
            at_low = K.at_low;
            at_high = (l, x);
          }

          here : m ≡ false → T (is_same_of (p v) point)
          unfolding is_same_of
          here k = subst (λ (c : Point). T (is_same_of c point)) x
              (and_both (not (comes_before r point)) (not (comes_before point r)) (from_false (sym z ∙ j)) (from_false (sym w ∙ k)))

          pub narrow-hit : m ≡ false → Vertex v ≡ neighbors_of C (position_of q) point
          unfolding neighbors_of vertex_on
          narrow-hit k =
              let e = first-below-is n (λ u. is_same_of (p u) point) {k = v} (omega arith) (λ _. here k) none-at in
              rw (e, lt-ltb v n l) refl

    -- all vertices are passed
    module _ (l : C.vertices ≤ v) where
      free : (j : ℕ) → j < n → Precedes low (p j) → Precedes (p j) high → ⊥
      free j m = K.free j (omega arith)

      ways : (u w : ℕ) → u < n → w < n → (u ≡ w) ⊎ Precedes (p u) (p w) ⊎ Precedes (p w) (p u)
      ways u w k m = go (three_ways (p u) (p w))
        where
          go : T (is_same_of (p u) (p w)) ⊎ T (comes_before (p u) (p w)) ⊎ T (comes_before (p w) (p u))
              → (u ≡ w) ⊎ Precedes (p u) (p w) ⊎ Precedes (p w) (p u)
          go (inl s) = inl (R.distinct k m (is_same (p u) (p w) s))
          go (inr (inl s)) = inr (inl (record { is = s }))
          go (inr (inr s)) = inr (inr (record { is = s }))

      stands : (b : Option ℕ) {end at : Point} → StandsAt q n end b at
          → ((number_of C b ≡ n) × (at ≡ end)) ⊎ ((number_of C b < n) × (at ≡ p (number_of C b)))
      stands (Some v) s = inr s
      stands None s = inl (refl, s)

      neighbor-is : (b : Option ℕ) (end at : Point) → StandsAt q n end b at → neighbor C (number_of C b) ≡ b
      neighbor-is (Some v) end at s = rw (lt-ltb v n s.0) refl
      neighbor-is None end at s = rw (le-ltb n n (omega arith)) refl

      before-is : last_before C p point ≡ number_of C b
      unfolding last_before
      before-is = nearest-is Precedes n p point ways (λ u. comes_before (p u) point && none_between C p (p u) point)
          (λ u N. and_both (comes_before (p u) point) (none_between C p (p u) point) N.on.is (none-between← C p (p u) point N.clear))
          (λ u s. record {
            on = record { is = and_left (comes_before (p u) point) (none_between C p (p u) point) s };
            clear = none-between→ C p (p u) point (and_right (comes_before (p u) point) (none_between C p (p u) point) s);
          })
          (λ u m. lowest-precedes (R.range m)) K.under (λ j m c d. free j m c (precedes-trans d K.over)) (stands b K.at_low)

      after_is : first_after C p point ≡ number_of C a
      unfolding first_after
      after_is = nearest-is (λ c d. Precedes d c) n p point (λ u w k m. ⊎_elim (λ e. inl (sym e)) inr (ways w u m k))
          (λ u. comes_before point (p u) && none_between C p point (p u))
          (λ u N. and_both (comes_before point (p u)) (none_between C p point (p u)) N.on.is
          (none-between← C p point (p u) (λ j m c d. N.clear j m d c)))
          (λ u s. record {
            on = record { is = and_left (comes_before point (p u)) (none_between C p point (p u)) s };
            clear = λ j m d c. none-between→ C p point (p u) (and_right (comes_before point (p u)) (none_between C p point (p u)) s) j m c d;
          })
          (λ u m. precedes-highest (R.range m)) K.over (λ j m d c. free j m (precedes-trans K.under c) d) (stands a K.at_high)

      pub narrow-end : Between b a ≡ neighbors_of C (position_of q) point
      unfolding neighbors_of vertex_on
      narrow-end =
          let e = first-below-none n (λ u. is_same_of (p u) point) (λ j m. none-at j (omega arith)) in
          ap₂ Between (sym (neighbor-is b _ _ K.at_low)) (sym (neighbor-is a _ _ K.at_high))
          ∙ rw (e, le-ltb n n (omega arith), before-is, after_is) refl

      -- with neither every vertex is between two positions out of range
      pub narrow-found : 0 < C.vertices → Neighbored C b a
      narrow-found l = record {
        low = λ e. (subst (λ (x : Option ℕ). StandsAt q n lowest x low) e K.at_low).0;
        high = λ e. (subst (λ (x : Option ℕ). StandsAt q n highest x high) e K.at_high).0;
        some = λ e. one e a refl;
      }
        where
          one : b ≡ None → (x : Option ℕ) → a ≡ x → IsSome x
          one e (Some v) i = refl
          one e None i = absurd (free 0 l
              (subst⁻¹ (λ (x : Point). Precedes x (p 0)) (subst (λ (x : Option ℕ). StandsAt q n lowest x low) e K.at_low) (lowest-precedes (R.range l)))
              (subst⁻¹ (λ (x : Point). Precedes (p 0) x) (subst (λ (x : Option ℕ). StandsAt q n highest x high) i K.at_high) (precedes-highest (R.range l))))
