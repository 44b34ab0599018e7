-- Laws of specs/Turns.antt.
use Rattle.std.specs.Prelude.{Bool, not, ◌||◌, ◌≡◌}
use Rattle.std.proofs.Math.Bool.{true, false, cond}
use Rattle.std.proofs.lemmas.Bool.{false≢true}
use Rattle.std.proofs.Math.Path.{refl, ap, subst}
use Rattle.std.proofs.Common.{sym, ◌∙◌, add-suc, T_not}
use Prim.Native.Nat.{ℕ, zero, suc, ◌+◌, ◌*◌, ◌<◌, ◌≤◌}
use Rattle.std.proofs.Math.Decide.{dec_lt}
use native.Mathlib.Omega.{arith}
use Rattle.std.proofs.Math.Dec.{T}
use Rattle.corner.specs.Corner.{Extended, close_corner}
use Rattle.corner.specs.CornerLaws.{CornerClosed, closed-length, Closings, none, then, closings-join}
use Rattle.math.specs.declared.Point.{Point}
use Rattle.mesh.specs.declared.Counts.{Counts}
use Rattle.mesh.specs.Mesh.{Links}
use Rattle.mesh.specs.Area.{boundary_length}
use Rattle.mesh.proofs.CountsLaws.{count-halves}
use Rattle.mesh.specs.Good.{Good}
use Rattle.ring.specs.Chain.{covers_left, covers_right, left_chain, right_chain}
use Rattle.ring.proofs.ChainMesh.{left-covered, right-covered, left-stops, right-stops, left-sees, right-sees, chain-short}
use Rattle.ring.proofs.CoveredLaws.{p-in, p-outer}
use Rattle.sums.proofs.BitLaws.{from-true, is_true, or_left, or_right}
use Rattle.sums.specs.Iterate.{iter}
use Rattle.sums.specs.Until.{until}
use Rattle.sums.proofs.UntilLaws.{until-done, until-next}
use Rattle.ring.specs.declared.Side.{Side}
use Rattle.ring.specs.declared.Side.TheVariants.{Left, Right}
use Rattle.ring.specs.Chain.{beside, covers}
use Rattle.apply.specs.Apply.{Walking, face_edge, walk_ends_of, walk_turn_of, walk, walk_turns}
use Rattle.apply.specs.Walks.{Before, Along, along-left, along-right, closes-left, closes-right, test-left, test-right}

-- where a flip was refused, no turn is made
pub turns-full : (side : Side) (room : ℕ) (p : ℕ → Point) (k : ℕ) (s : Walking) → s.mesh.full ≡ true → walk_turns side room p k s ≡ s
unfolding walk_turns
turns-full side room p zero s f = refl
turns-full side room p (suc k) s f = rw f refl
