-- Laws of the test about a vertex: the spokes are passed one after the other, and all of them once the first is met again. Assumes nothing.
use Rattle.std.specs.Prelude.{false, List, ◌≡◌, refl, ℕ, suc, ◌*◌, ◌/◌, ◌<◌, ◌≤◌, ℤ}
use Rattle.std.proofs.Math.Path.{sym, ap}
use Rattle.std.proofs.Common.{◌∙◌, subst, arith}
use Rattle.std.proofs.Math.Decide.{ℕ_discrete, dec_lt}
use Rattle.circle_test.specs.GoodRows.{GoodRows, held}
use Rattle.dcel.specs.Rows.{halves_of, row_of, links_of, position_of, There}
use Rattle.dcel.specs.MeshHeld.{there, out-in}
use Rattle.mesh.specs.declared.Counts.{Counts}
use Rattle.mesh.specs.Circle.{breaks_circle}
use Rattle.mesh.specs.Mesh.{In, turn}
use Rattle.mesh.proofs.WfPartsLaws.{turn-inverse}
use Rattle.sums.specs.Half.{rev}
use Rattle.sums.specs.Iterate.{Inverse, Period, iter}
use Rattle.sums.proofs.IterateLaws.{iter-last, iter-below, period-is, reach-on}
use Rattle.sums.proofs.ListedLaws.{On}
use Rattle.settled_test.specs.Star.{UnbrokenAt}

-- a walk that is back after k + 1 steps has no longer period
period-most : {f : ℕ → ℕ} {a n : ℕ} → Period f a n → (k : ℕ) → iter (suc k) f a ≡ a → n ≤ suc k
period-most {n = n} P k back = at (dec_lt (suc k) n)
  where
    at : Dec (suc k < n) → n ≤ suc k
    at (yes l) = absurd (P.least (suc k) (omega arith) l back)
    at (no l) = omega arith

-- the edge of half-edge e keeps the rule
abbrev pub Keeps : List ℤ → List ℕ → List ℕ → List ℕ → ℕ → Type 0
Keeps q o h a e = breaks_circle (links_of o h a) (position_of q) (e / 2) ≡ false

-- e is the k-th spoke from `start` on, and the edges of those before it keep the rule
pub record Passed (q : List ℤ) (o h a : List ℕ) (start e : ℕ) : Type 0 where
  pub k : ℕ
  pub at : iter k (turn (links_of o h a)) start ≡ e
  pub keeps : (j : ℕ) → j < k → Keeps q o h a (iter j (turn (links_of o h a)) start)

pub passed_none : {q : List ℤ} {o h a : List ℕ} (start : ℕ) → Passed q o h a start start
passed_none start = record { k = 0; at = refl; keeps = λ j m. absurd (omega arith) }

-- the edge of e keeps the rule, and d is the spoke that follows
module _ {q : List ℤ} {o h a : List ℕ} {start e : ℕ} (S : Passed q o h a start e) (t : Keeps q o h a e)
    {p d : ℕ} (x : p ≡ (halves_of h).prev e) (y : d ≡ rev p) where
  at_next : iter (suc S.k) (turn (links_of o h a)) start ≡ d
  unfolding links_of
  at_next = iter-last S.k (turn (links_of o h a)) start ∙ ap (turn (links_of o h a)) S.at ∙ sym (y ∙ ap rev x)

  keeps-next : (j : ℕ) → j < suc S.k → Keeps q o h a (iter j (turn (links_of o h a)) start)
  keeps-next j m = at (ℕ_discrete j S.k)
    where
      at : Dec (j ≡ S.k) → Keeps q o h a (iter j (turn (links_of o h a)) start)
      at (yes z) = rw (z, S.at) t
      at (no z) = S.keeps j (omega arith)

  pub passed_on : Passed q o h a start d
  passed_on = record { k = suc S.k; at = at_next; keeps = keeps-next }

-- from the out edge of v
module _ {C : Counts} {q : List ℤ} {o h a : List ℕ} (R : GoodRows C q o h a) {v : ℕ} (l : v < C.vertices)
    {start : ℕ} (s : start ≡ row_of o v) where
  start-in : In C start
  start-in = rw s (out-in (held R) l)

  inverse : Inverse (2 * C.edges) (turn (links_of o h a)) (λ e. (links_of o h a).next (rev e))
  inverse = turn-inverse C (links_of o h a) R.good.wf.ranges R.good.wf.links

  -- every half-edge that starts at v is met before the walk comes back
  spokes : {n : ℕ} → Period (turn (links_of o h a)) start n → {e : ℕ} → In C e → (links_of o h a).origin e ≡ v
      → On n (λ k. iter k (turn (links_of o h a)) start) e
  unfolding links_of
  spokes P i z =
      let A = R.good.wf.about in
      reach-on inverse start-in P (A.round start-in i (ap (halves_of h).origin s ∙ A.based l ∙ sym z))

  module _ {e : ℕ} (S : Passed q o h a start e) where
    pub spoke-in : In C e
    spoke-in = subst (In C) S.at (iter-below inverse S.k start-in)

    pub spoke-there : There h e
    spoke-there = there (held R) spoke-in

    -- the first is met again, so that all were passed
    pub passed-all : Keeps q o h a e
        → {p d : ℕ} → p ≡ (halves_of h).prev e → d ≡ rev p → d ≡ start → UnbrokenAt C (links_of o h a) (position_of q) v
    passed-all t x y r =
        let P = period-is inverse start-in in
        let m = period-most P S.k (at_next S t x y ∙ r) in
        record {
          edge = λ i z.
              let w = spokes P i z in
              subst (Keeps q o h a) w.2 (keeps-next S t x y w.0 (let u = w.1 in omega arith));
        }
