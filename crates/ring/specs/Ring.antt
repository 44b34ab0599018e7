-- The ring of boundary angles, defined from the boundary alone: sound, strict, its nodes, the edge at an angle, and the
-- count that locate answers.
-- An angle is a whole number of 2 ^ -53, from 0 to 2 ^ 53 = 1.0; N stands for that 1.0, so that an example may take a
-- smaller circle. `α` gives each vertex its angle; a vertex at the centre has none, and 01's refusal 6 keeps such a
-- vertex off the boundary. Definitions only, and each computes; `Merged`, `Sound` and `Boundary` have their laws.
use Rattle.std.specs.Prelude.{ℕ, ◌+◌, ◌-◌, ◌*◌, ◌/◌, ◌^◌, Bool, true, false, not, cond, ◌&&◌, ◌||◌, List, [], ◌∷◌, map, ltb, leb, eqb, length}
use Rattle.mesh.specs.declared.Counts.{Counts}
use Rattle.mesh.specs.Mesh.{Links}
use Rattle.mesh.specs.Area.{boundary_length, hull_edge}
use Rattle.segment.specs.Arc.{holds, wide}
use Rattle.sums.specs.Bit.{bit}
use Rattle.sums.specs.Bounded.{first_below}
use Rattle.sums.specs.Tally.{walk, tally}

-- 1.0
abbrev pub full_turn : ℕ
full_turn = 2 ^ 53

-- ---- two angles that follow one another
-- they differ
unfoldable pub proper : ℕ → ℕ → Bool
proper a b = not (eqb a b)

-- the first is "followed by a smaller one": the segment between them wraps
unfoldable pub wraps : ℕ → ℕ → Bool
wraps a b = ltb b a

-- ---- a cycle of angles, written as a list from any of them on
-- the first of a list, or z if there is none
abbrev pub head_or : List ℕ → ℕ → ℕ
head_or [] z = z
head_or (a ∷ l) z = a

-- how many of a list pass a test with the one that follows, where z follows the last
unfoldable pub count_before : (ℕ → ℕ → Bool) → List ℕ → ℕ → ℕ
count_before φ [] z = 0
count_before φ (a ∷ l) z = bit (φ a (head_or l z)) + count_before φ l z

-- around the cycle: the first follows the last
unfoldable pub count_around : (ℕ → ℕ → Bool) → List ℕ → ℕ
count_around φ l = count_before φ l (head_or l 0)

-- 01: "Equal neighbouring boundary angles count as one, and the run's last edge stands for it."
-- those of a list that differ from the one that follows, where z follows the last
unfoldable pub merged_before : List ℕ → ℕ → List ℕ
merged_before [] z = []
merged_before (a ∷ l) z = cond (eqb a (head_or l z)) (merged_before l z) (a ∷ merged_before l z)

-- around the cycle; where all are equal, one remains
abbrev pub or_one : ℕ → List ℕ → List ℕ
or_one a [] = a ∷ []
or_one a (b ∷ l) = b ∷ l

unfoldable pub merged : List ℕ → List ℕ
merged [] = []
merged (a ∷ l) = or_one a (merged_before (a ∷ l) a)

unfoldable pub member : ℕ → List ℕ → Bool
member x [] = false
member x (a ∷ l) = eqb a x || member x l

unfoldable pub all_differ : List ℕ → Bool
all_differ [] = true
all_differ (a ∷ l) = not (member a l) && all_differ l

-- 01: "A ring is sound when at least three angles remain, all differ, exactly one is followed by a smaller one, and
-- each gap (second minus first, plus 1 where it wraps) is at most 3/4."
unfoldable pub is_sound : ℕ → List ℕ → Bool
is_sound N l = let m = merged l in leb 3 (length m) && all_differ m && eqb (count_around wraps m) 1 && eqb (count_around (wide N) m) 0

-- 01: "It is strict when in addition no neighbours were equal."
unfoldable pub is_strict : ℕ → List ℕ → Bool
is_strict N l = is_sound N l && eqb (count_around eqb l) 0

-- above y and up to x
unfoldable pub between : ℕ → ℕ → ℕ → Bool
between y x a = ltb y a && leb a x

-- What locate counts, at the angle whose whole number, rounded down, is x.
-- 01: "With n = 8 and i = floor(8a), that count is the number of boundary angles above i/8 and up to a. At a = 1.0 it
-- is ring size minus 1 if some boundary angle is 0.0, otherwise 0."
unfoldable pub passed_count : ℕ → ℕ → List ℕ → ℕ
passed_count N x l = cond (eqb x N) (cond (member 0 l) (length (merged l) - 1) 0)
    (let i = 8 * x / N in tally (between (i * N / 8) x) (merged l))

-- ---- the boundary of a mesh
-- the angle at the origin of a half-edge
abbrev pub edge_angle : Links → (ℕ → ℕ) → ℕ → ℕ
edge_angle L α e = α (L.origin e)

-- a test of the angles at the two ends of e, where `next` leads from e to the half-edge that starts at its end. 01:
-- "The origin of next(e) is the origin of e's reverse."
abbrev pub at_ends : (ℕ → ℕ → Bool) → (ℕ → ℕ) → (ℕ → ℕ) → ℕ → Bool
at_ends φ next α e = φ (α e) (α (next e))

-- the half-edges of face 0, in order
unfoldable pub boundary_edges : Counts → Links → List ℕ
boundary_edges C L = walk (boundary_length C L) L.next (L.adjacent 0)

unfoldable pub boundary_angles : Counts → Links → (ℕ → ℕ) → List ℕ
boundary_angles C L α = map (edge_angle L α) (boundary_edges C L)

unfoldable pub is_sound_ring : Counts → Links → (ℕ → ℕ) → Bool
is_sound_ring C L α = is_sound full_turn (boundary_angles C L α)

unfoldable pub is_strict_ring : Counts → Links → (ℕ → ℕ) → Bool
is_strict_ring C L α = is_strict full_turn (boundary_angles C L α)

-- those of a list that pass a test
unfoldable pub filter : (ℕ → Bool) → List ℕ → List ℕ
filter b [] = []
filter b (e ∷ l) = cond (b e) (e ∷ filter b l) (filter b l)

-- The ring's nodes: the boundary edges whose ends have different angles, each the last of its run. Their angles are the
-- merged ones (`nodes-merged`).
unfoldable pub ring_nodes : Counts → Links → (ℕ → ℕ) → List ℕ
ring_nodes C L α = filter (at_ends proper L.next (edge_angle L α)) (boundary_edges C L)

-- the boundary edge whose segment, "plain or wrapping", holds x: 01: "it holds its first and not its second". A sound
-- ring has exactly one (`located-sole`)
unfoldable pub located : Counts → Links → (ℕ → ℕ) → ℕ → ℕ
located C L α x = hull_edge L (first_below (boundary_length C L) (λ k. at_ends (holds x) L.next (edge_angle L α) (hull_edge L k)))
