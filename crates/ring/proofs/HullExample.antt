-- The rules can be met: a sound boundary of four edges on a circle of 16 places, two of whose angles are equal
-- neighbours, its three nodes, and an insert between two of them, at a new angle (11) and at the left node's own (9).
-- The theorems then say what the records hold. Assumes nothing.
use Rattle.std.specs.Prelude.{◌≡◌, refl, List, [], ◌∷◌, ℕ, zero, suc, ◌<◌, ◌≤◌, get_or}
use Rattle.std.proofs.Common.{arith, lit≤}
use Rattle.segment.specs.Arc.{gap, holds, wide}
use Rattle.ring.specs.Ring.{proper, wraps}
use Rattle.ring.specs.Splice.{Spliced, FitSplice}
use Rattle.ring.specs.Node.{NodeTable, Match}
use Rattle.ring.specs.Insert.{Ring, Bucketed, Insertion}
use Rattle.ring.specs.Inserted.{Inserted}
use Rattle.ring.proofs.InsertedLaws.{inserted}
use Rattle.ring.specs.Stores.{Linked}
use Rattle.ring.specs.Hull.{HullFrom}
use Rattle.sums.specs.Iterate.{iter}
use Rattle.sums.specs.Tally.{tally, walk}

abbrev row : List ℕ → ℕ → ℕ
row l i = get_or l i 0

-- the edges 0 to 3, from the angles 3, 9, 9, 14; the edges 4 and 5 are added
abbrev next : ℕ → ℕ
next = row (1 ∷ 2 ∷ 3 ∷ 0 ∷ [])

abbrev α : ℕ → ℕ
α = row (3 ∷ 9 ∷ 9 ∷ 14 ∷ [])

abbrev next' : ℕ → ℕ
next' = row (4 ∷ 2 ∷ 3 ∷ 0 ∷ 5 ∷ 3 ∷ [])

abbrev α' : ℕ → ℕ → ℕ
α' q = row (3 ∷ 9 ∷ 9 ∷ 14 ∷ 9 ∷ q ∷ [])

-- the nodes 0, 1, 2 have the edges 0, 2, 3
abbrev before : NodeTable
before = record {
  left = row (2 ∷ 0 ∷ 1 ∷ []);
  right = row (1 ∷ 2 ∷ 0 ∷ []);
  angle = row (3 ∷ 9 ∷ 14 ∷ []);
  edge = row (0 ∷ 2 ∷ 3 ∷ []);
}

-- sound from edge 1 on, and node 1 is the first of the list from there
old : Ring 16 next α before 1 4 1
unfolding walk tally holds proper wraps gap wide Match
old = record {
  sound = record { closed = refl; three = lit≤ tt; once = refl; gaps = refl };
  match = ((λ t. absurd t), ((λ t. (refl, refl)), ((λ t. (refl, refl)), ((λ t. (refl, refl)), tt))));
  back = refl;
}

-- of two
two : (P : ℕ → Type 0) → P 0 → P 1 → (k : ℕ) → k < 2 → P k
two P a b zero l = a
two P a b (suc zero) l = b
two P a b (suc (suc k)) l = absurd (omega arith)

first : (P : ℕ → Type 0) → P 0 → (k : ℕ) → suc k < 2 → P k
first P a zero l = a
first P a (suc k) l = absurd (omega arith)

second : (P : ℕ → Type 0) → P 1 → (k : ℕ) → suc k ≡ 2 → P k
second P b zero l = absurd (omega arith)
second P b (suc zero) l = b
second P b (suc (suc k)) l = absurd (omega arith)

spliced : (q : ℕ) → Spliced next α next' (α' q) 1 2 2 4 5 q 3
spliced q = record {
  some = lit≤ tt;
  more = lit≤ tt;
  right = refl;
  round = refl;
  l-p = refl;
  p-r = refl;
  at-l = refl;
  at_p = refl;
  at_rest = two (λ k. α' q (iter k next 3) ≡ α (iter k next 3)) refl refl;
  rest = first (λ k. next' (iter k next 3) ≡ next (iter k next 3)) refl;
  last = second (λ k. next' (iter k next 3) ≡ 4) refl;
}

-- at 11: node 1 takes the edge 4, and the new node 3, of the edge 5, comes after it
abbrev at-11 : NodeTable
at-11 = record {
  left = row (2 ∷ 0 ∷ 3 ∷ 1 ∷ []);
  right = row (1 ∷ 3 ∷ 0 ∷ 2 ∷ []);
  angle = row (3 ∷ 9 ∷ 14 ∷ 11 ∷ []);
  edge = row (0 ∷ 4 ∷ 3 ∷ 5 ∷ []);
}

abbrev nodes-11 : Insertion
nodes-11 = record { left = 1; right = 2; new = 3; before = 1; start = 1 }

tables-11 : Inserted before at-11 nodes-11 2 4 5 11 9
tables-11 = record {
  edge-rest = two (λ j. at-11.edge (iter j before.right 2) ≡ before.edge (iter j before.right 2)) refl refl;
  angle-rest = two (λ j. at-11.angle (iter j before.right 2) ≡ before.angle (iter j before.right 2)) refl refl;
  right-rest = first (λ j. at-11.right (iter j before.right 2) ≡ before.right (iter j before.right 2)) refl;
  right-last = second (λ j. at-11.right (iter j before.right 2) ≡ 1) refl;
  new-edge = refl;
  new-angle = refl;
  new-right = refl;
  start-goes = λ e. absurd (omega arith);
  start-edge = λ n. refl;
  start-angle = λ n. refl;
  start_right = λ n. refl;
}

fit-11 : FitSplice 16 next α next' (α' 11) 1 2 2 4 5 11 3
unfolding walk tally holds proper wraps gap wide
fit-11 = record {
  spliced = spliced 11;
  place = 1;
  place_in = lit≤ tt;
  place-holds = tt;
  fit = record { off-right = λ e. omega arith; left-gap = refl; right-gap = refl; size = lit≤ tt };
}

pub ring-11 : Ring 16 next' (α' 11) at-11 4 4 1
unfolding walk tally holds proper wraps gap wide
ring-11 = inserted old fit-11 refl tables-11

-- at 9, the left node's angle: node 1 goes, and the new node 3 takes its place
abbrev at_9 : NodeTable
at_9 = record {
  left = row (3 ∷ 0 ∷ 3 ∷ 0 ∷ []);
  right = row (3 ∷ 2 ∷ 0 ∷ 2 ∷ []);
  angle = row (3 ∷ 9 ∷ 14 ∷ 9 ∷ []);
  edge = row (0 ∷ 2 ∷ 3 ∷ 5 ∷ []);
}

abbrev nodes-9 : Insertion
nodes-9 = record { left = 1; right = 2; new = 3; before = 0; start = 3 }

tables-9 : Inserted before at_9 nodes-9 2 4 5 9 9
tables-9 = record {
  edge-rest = two (λ j. at_9.edge (iter j before.right 2) ≡ before.edge (iter j before.right 2)) refl refl;
  angle-rest = two (λ j. at_9.angle (iter j before.right 2) ≡ before.angle (iter j before.right 2)) refl refl;
  right-rest = first (λ j. at_9.right (iter j before.right 2) ≡ before.right (iter j before.right 2)) refl;
  right-last = second (λ j. at_9.right (iter j before.right 2) ≡ 3) refl;
  new-edge = refl;
  new-angle = refl;
  new-right = refl;
  start-goes = λ e. refl;
  start-edge = λ n. absurd (n refl);
  start-angle = λ n. absurd (n refl);
  start_right = λ n. absurd (n refl);
}

fit-9 : FitSplice 16 next α next' (α' 9) 1 2 2 4 5 9 3
unfolding walk tally holds proper wraps gap wide
fit-9 = record {
  spliced = spliced 9;
  place = 1;
  place_in = lit≤ tt;
  place-holds = tt;
  fit = record { off-right = λ e. omega arith; left-gap = refl; right-gap = refl; size = lit≤ tt };
}

pub ring-9 : Ring 16 next' (α' 9) at_9 4 4 3
unfolding walk tally holds proper wraps gap wide
ring-9 = inserted old fit-9 refl tables-9

-- with 8 buckets of 2 places, the whole hull
abbrev bucket : ℕ → ℕ
bucket = row (2 ∷ 2 ∷ 0 ∷ 0 ∷ 0 ∷ 1 ∷ 1 ∷ 2 ∷ [])

filled : Bucketed before.right before.angle bucket 8 2 1 3
unfolding holds
filled zero l = ((1, lit≤ tt, refl), tt)
filled (suc zero) l = ((1, lit≤ tt, refl), tt)
filled (suc (suc zero)) l = ((2, lit≤ tt, refl), tt)
filled (suc (suc (suc zero))) l = ((2, lit≤ tt, refl), tt)
filled (suc (suc (suc (suc zero)))) l = ((2, lit≤ tt, refl), tt)
filled (suc (suc (suc (suc (suc zero))))) l = ((0, lit≤ tt, refl), tt)
filled (suc (suc (suc (suc (suc (suc zero)))))) l = ((0, lit≤ tt, refl), tt)
filled (suc (suc (suc (suc (suc (suc (suc zero))))))) l = ((1, lit≤ tt, refl), tt)
filled (suc (suc (suc (suc (suc (suc (suc (suc i)))))))) l = absurd (omega arith)

pub hull : HullFrom 16 next α before bucket 1 4 1 8 2
unfolding walk tally proper
hull = record { ring = old; links = linked; low = low; sized = record { eight = lit≤ tt; room = lit≤ tt; all = refl }; buckets = filled }
  where
    linked : Linked before 1 3
    linked zero l = refl
    linked (suc zero) l = refl
    linked (suc (suc zero)) l = refl
    linked (suc (suc (suc i))) l = absurd (omega arith)

    low : (k : ℕ) → k < 4 → α (iter k next 1) ≤ 16
    low zero l = lit≤ tt
    low (suc zero) l = lit≤ tt
    low (suc (suc zero)) l = lit≤ tt
    low (suc (suc (suc zero))) l = lit≤ tt
    low (suc (suc (suc (suc k)))) l = absurd (omega arith)
