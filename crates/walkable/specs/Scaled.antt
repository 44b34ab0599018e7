-- A mesh enlarged by a whole number, and a point of it moved a little: a step that is small beside the enlarged
-- triangles. Definitions only; `ScaledLaws` has the laws.
use Rattle.std.specs.Prelude.{ℕ, ℤ, pos, negsuc, ◌+ℤ◌, ◌-ℤ◌, ◌*ℤ◌, ◌<ℤ◌, ◌≤ℤ◌}
use Rattle.math.specs.declared.Point.{Point}
use Rattle.math.specs.declared.Vector.{Vector}
use Rattle.mesh.specs.declared.Counts.{Counts}
use Rattle.mesh.specs.Mesh.{Links, to}
use Rattle.walkable.specs.Covering.{boundary_crossings}

unfoldable pub scale : ℤ → Point → Point
scale K a = record { x = K *ℤ a.x; y = K *ℤ a.y }

-- the point z of the enlarged plane, moved by δ
unfoldable pub nudge : ℤ → Vector → Point → Point
nudge K δ z = record { x = K *ℤ z.x +ℤ δ.x; y = K *ℤ z.y +ℤ δ.y }

-- from z into the triangle a b c: to a point inside it, four times
unfoldable pub inward : Point → Point → Point → Point → Vector
inward z a b c = record { x = pos 2 *ℤ a.x +ℤ b.x +ℤ c.x -ℤ pos 4 *ℤ z.x; y = pos 2 *ℤ a.y +ℤ b.y +ℤ c.y -ℤ pos 4 *ℤ z.y }

-- from z into the triangle of x
abbrev pub inward_at : Links → (ℕ → Point) → Point → ℕ → Vector
inward_at L p z x = inward z (p (L.origin x)) (p (to L x)) (p (L.origin (L.prev x)))

-- the boundary, however enlarged, goes round no point twice: the ray to the east crosses it from above at most once more than from below
pub record WindsOnce (C : Counts) (L : Links) (p : ℕ → Point) : Type 0 where
  pub once : (K : ℤ) → pos 0 <ℤ K → (q : Point) → negsuc 0 ≤ℤ boundary_crossings C L (λ v. scale K (p v)) q
