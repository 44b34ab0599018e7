-- What the steps of a run make of a good seed with a sound ring, after any number of points, by induction over the list: a good mesh, with
-- the seed's vertices where they were and a vertex for each added point. Assumes nothing.
use Rattle.std.specs.Prelude.{Bool, cond, ◌≡◌, Float, ◌⊎◌, T}
use Rattle.std.proofs.Math.Bool.{true, false}
use Rattle.std.proofs.lemmas.Bool.{false≢true}
use Rattle.std.proofs.Math.Path.{refl, subst⁻¹}
use Rattle.std.proofs.Common.{sym, ◌∙◌, ap, subst, inl, inr}
use Prim.Native.Nat.{ℕ, zero, suc, ◌+◌, ◌<◌, ◌≤◌}
use Rattle.std.proofs.Math.Decide.{ℕ_discrete}
use native.Mathlib.Omega.{arith}
use Rattle.corner.specs.Untouched.{Untouched, Grown, untouched-none, untouched-join}
use Rattle.decide.specs.declared.Fate.{Fate}
use Rattle.decide.specs.declared.Fate.TheVariants.{Added, Dropped}
use Rattle.decide.specs.Decide.{decided, at_end}
use Rattle.math.specs.declared.Point.{Point}
use Rattle.math.specs.Determinant.{InRange, is_position}
use Rattle.mesh.specs.declared.Counts.{Counts}
use Rattle.mesh.specs.Mesh.{Links, In, to}
use Rattle.mesh.specs.Good.{Good}
use Rattle.sweep.specs.Step.{Stepping, is_added, left_alone_of, step_mesh}
use Rattle.sweep.specs.StepMesh.{Swept, StepKeeps}
use Rattle.sums.specs.Bit.{bit}
use Rattle.sums.proofs.BitLaws.{from-true, or_cases}
use Rattle.sums.specs.Bounded.{count}
use Rattle.sums.proofs.BoundedLaws.{count-suc, count-before}
use Rattle.sweep.specs.Run.{Sweeping, step_on, sweep_point, sweep_after, step_at}
use Rattle.math.proofs.Position.{same-position}
use Rattle.ring.specs.Ring.{located}
use Rattle.ring.proofs.Boundary.{located<}
use Rattle.ring.specs.Center.{turns_about}
use Rattle.angle.specs.Angle.{turns, angle_about}
use Rattle.mesh.specs.Triangle.{rev-in}

-- ---- all of them
pub record SweepKeeps (room : ℕ) (cx cy : Float) (C : Counts) (L : Links) (p point : ℕ → Point) (n : ℕ) (s : Sweeping) : Type 0 where
  -- a refused flip too
  pub good : Good s.counts s.links s.positions
  pub untouched : Untouched s.counts L s.links
  pub grown : Grown C s.counts
  pub most : s.counts.vertices ≤ C.vertices + n
  pub answered-most : s.answered ≤ n
  pub places : (u : ℕ) → u < C.vertices → s.positions u ≡ p u
  pub past : (u : ℕ) → s.counts.vertices ≤ u → s.positions u ≡ p u
  -- where no flip was refused
  pub swept : s.full ≡ false → Swept cx cy s.counts s.links s.positions
  pub answered : s.full ≡ false → s.answered ≡ n
  pub number : s.full ≡ false → s.counts.vertices ≡ C.vertices + count n (λ i. is_added (step_at room cx cy C L p point i).fate)
  pub added : s.full ≡ false → (i v : ℕ) → i < n → (step_at room cx cy C L p point i).fate ≡ Added v
      → (v ≡ C.vertices + count i (λ j. is_added (step_at room cx cy C L p point j).fate)) × (s.positions v ≡ point i)
  pub dropped : s.full ≡ false → (i : ℕ) → i < n → (step_at room cx cy C L p point i).fate ≡ Dropped
      → (u : ℕ) × (u < s.counts.vertices) × (s.positions u ≡ point i)
