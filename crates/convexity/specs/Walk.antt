-- A pass with O(1) state, as the code makes it: the stack `convex_edges` is the chain of half-edges behind the current
-- one, so its depth stands for it, and a pass has a turn for each half-edge of the boundary and one more. Definitions
-- only; `WalkLaws` has that it is the pass of `Convexity`.
use Rattle.std.specs.Prelude.{Bool, not, ◌&&◌, ◌||◌, ℕ, ◌+◌, ◌-◌, ◌/◌, eqb, ltb}
use Rattle.corner.specs.Corner.{Extended, close_corner}
use Rattle.math.specs.declared.Point.{Point}
use Rattle.mesh.specs.Mesh.{Links}
use Rattle.mesh.specs.Area.{boundary_length}
use Rattle.sums.specs.Until.{until}
use Rattle.convexity.specs.Convexity.{turns_left_at}

-- the mesh, `current_fixed`, the length of `convex_edges`, and how many turns are left
pub record Walk : Type 0 where
  pub mesh : Extended
  pub current : ℕ
  pub depth : ℕ
  pub left : ℕ

-- the last entry of `convex_edges` and the one before it
abbrev pub edge2 : Walk → ℕ
edge2 w = w.mesh.links.prev w.current

abbrev pub edge1 : Walk → ℕ
edge1 w = w.mesh.links.prev (edge2 w)

-- they are a corner to be closed: there are two, and they turn left
unfoldable pub left_behind : (ℕ → Point) → Links → ℕ → ℕ → Bool
left_behind p L current depth = ltb 1 depth && turns_left_at L p (L.prev (L.prev current)) (L.prev current)

unfoldable pub stops : (ℕ → Point) → Walk → Bool
stops p w = w.mesh.full || not (left_behind p w.mesh.links w.current w.depth)

abbrev pub closed_behind : ℕ → (ℕ → Point) → Extended → ℕ → Extended
closed_behind room p m current =
    close_corner room p m (m.links.prev (m.links.prev current))
    (m.links.prev (m.links.prev current) / 2) (m.links.prev current / 2)

unfoldable pub close_behind : ℕ → (ℕ → Point) → Walk → Walk
close_behind room p w =
    record { mesh = closed_behind room p w.mesh w.current; current = w.current; depth = w.depth - 1; left = w.left }

-- the inner loop
unfoldable pub close_all_behind : ℕ → (ℕ → Point) → Walk → Walk
close_all_behind room p w = until (stops p) (close_behind room p) (w.depth + 1) w

-- the walk goes on by one half-edge
unfoldable pub onward : Walk → Walk
onward w = record { mesh = w.mesh; current = w.mesh.links.next w.current; depth = w.depth + 1; left = w.left - 1 }

-- a turn of the outer loop
unfoldable pub walk_turn_of : ℕ → (ℕ → Point) → Walk → Walk
walk_turn_of room p w = close_all_behind room p (onward w)

abbrev pub walk_ends_of : Walk → Bool
walk_ends_of w = w.mesh.full || eqb w.left 0

unfoldable pub walk_start_of : Extended → Walk
walk_start_of m = record { mesh = m; current = m.links.adjacent 0; depth = 0; left = boundary_length m.counts m.links + 1 }

-- one pass
unfoldable pub walk_pass : ℕ → (ℕ → Point) → Extended → Extended
walk_pass room p m = (until walk_ends_of (walk_turn_of room p) ((walk_start_of m).left + 1) (walk_start_of m)).mesh
