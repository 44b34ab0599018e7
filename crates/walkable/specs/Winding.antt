-- The peaks of the boundary: a half-edge in the upper half, followed by one that is not. A boundary of one peak is
-- monotone in y: up on one side, down on the other.
-- Definitions only; `WindingLaws` has the laws.
use Rattle.std.specs.Prelude.{◌≡◌, Bool, not, ◌&&◌, ◌||◌, ℕ, T}
use Rattle.std.specs.Int.Signed.{lt_z}
use Rattle.math.specs.declared.Point.{Point}
use Rattle.sums.specs.Bounded.{count}
use Rattle.mesh.specs.declared.Counts.{Counts}
use Rattle.mesh.specs.Mesh.{Links, In, to}
use Rattle.mesh.specs.Area.{boundary_length, hull_edge}

-- the direction from a to b is in the upper half: y > 0, or y = 0 and x > 0
abbrev pub upward : Point → Point → Bool
upward a b = lt_z a.y b.y || (not (lt_z b.y a.y) && lt_z a.x b.x)

-- of a half-edge
abbrev pub upward_at : Links → (ℕ → Point) → ℕ → Bool
upward_at L p e = upward (p (L.origin e)) (p (to L e))

pub record Peak (L : Links) (p : ℕ → Point) (e : ℕ) : Type 0 where
  pub up : T (upward_at L p e)
  pub over : T (not (upward_at L p (L.next e)))

-- the boundary has at most one
pub record OnePeak (C : Counts) (L : Links) (p : ℕ → Point) : Type 0 where
  pub sole : {d e : ℕ} → In C d → In C e → L.face d ≡ 0 → L.face e ≡ 0 → Peak L p d → Peak L p e → d ≡ e

-- how many it has, as a number that computes: the boundary half-edges, along next, with a direction in
-- the upper half followed by one that is not
abbrev pub peak : Links → (ℕ → Point) → ℕ → Bool
peak L p e = upward_at L p e && not (upward_at L p (L.next e))

unfoldable pub peaks : Counts → Links → (ℕ → Point) → ℕ
peaks C L p = count (boundary_length C L) (λ k. peak L p (hull_edge L k))
