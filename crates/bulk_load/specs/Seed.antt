-- The seed grows from the front of a list of bare points, until the sweep may start. Definitions only, and each computes; `SeedLaws` has
-- the laws.
-- 02, Change 6: "The seed grows from the front of the list with `setup_initial_two_vertices`, `extend_line`,
-- `split_edge_when_all_vertices_on_line` and Change 2's insertions, until `try_get_hull_center` and `Hull::from_triangulation` succeed with
-- a strict ring. Nothing is sorted."
-- `point` gives each point of the list its position, by its index; `room` is the number of pending entries. L and p are what the mesh's
-- rows hold before the call.
use Rattle.std.specs.Prelude.{Bool, true, false, not, cond, ◌&&◌, ◌||◌, ℕ, zero, suc}
use Rattle.hull_center.specs.HullCenter.{is_ready}
use Rattle.line.specs.Grow.{Growing, grow_on}
use Rattle.line.proofs.GrowFacts.{nothing}
use Rattle.math.specs.declared.Point.{Point}
use Rattle.mesh.specs.Mesh.{Links}

-- the mesh under way, how many points have been answered, and whether the sweep may start
pub record Seeding : Type 0 where
  pub growing : Growing
  pub answered : ℕ
  pub ready : Bool

abbrev pub seed_start : Links → (ℕ → Point) → Seeding
seed_start L p = record { growing = nothing L p; answered = 0; ready = false }

-- the sweep may start from a mesh in which no flip was refused
abbrev pub may_start : Growing → Bool
may_start g = not g.mesh.full && is_ready g.mesh.counts g.mesh.links g.positions

-- after a point has gone in
abbrev pub seeded_by : Seeding → Growing → Seeding
seeded_by s g = record {
  growing = g;
  answered = cond g.mesh.full s.answered (suc s.answered);
  ready = may_start g;
}

-- once the sweep may start, and after a refused flip, no point follows
unfoldable pub seed_point : ℕ → Seeding → Point → Seeding
seed_point room s q = let r = seeded_by s (grow_on room s.growing q) in cond (s.ready || s.growing.mesh.full) s r

-- after the first n points of the list
unfoldable pub seed_after : ℕ → Links → (ℕ → Point) → (ℕ → Point) → ℕ → Seeding
seed_after room L p point zero = seed_start L p
seed_after room L p point (suc n) = seed_point room (seed_after room L p point n) (point n)

-- point i as it goes in
abbrev pub grow_at : ℕ → Links → (ℕ → Point) → (ℕ → Point) → ℕ → Growing
grow_at room L p point i = grow_on room (seed_after room L p point i).growing (point i)

-- its answer, four words. 02: "A point placed in this phase has fate 1 with its vertex and the counts as in Change 2, one on an existing
-- vertex Change 2's fate 9"
unfoldable pub grow_word : Growing → ℕ → ℕ
grow_word g zero = g.fate
grow_word g (suc zero) = g.vertex
grow_word g (suc (suc zero)) = g.mesh.faces
grow_word g (suc (suc (suc k))) = g.mesh.flips
