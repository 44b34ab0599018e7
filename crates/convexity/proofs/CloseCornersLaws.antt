-- The inner loop of a pass ends by its own test and never by its fuel, from whatever edges it begins with. Assumes nothing.
use Rattle.std.specs.Prelude.{Bool, not, ◌||◌, ◌≡◌, ℕ, ◌<◌}
use Rattle.std.proofs.Math.Bool.{true, false}
use Rattle.std.proofs.lemmas.Bool.{false≢true}
use mathlib.Core.List.{List, [], ◌∷◌}
use Rattle.std.proofs.Common.{sym}
use native.Mathlib.Omega.{arith}
use Rattle.std.proofs.Math.ListN.{length}
use Rattle.math.specs.declared.Point.{Point}
use Rattle.sums.proofs.UntilLaws.{until-ends}
use Rattle.convexity.specs.Convexity.{Pass, last_turns_left, close_last, close_corners}

module _ (room : ℕ) (p : ℕ → Point) where
  -- a flip was refused, or the last two edges do not turn left
  abbrev pub corners_closed : Pass → Bool
  corners_closed s = s.mesh.full || not (last_turns_left p s.mesh.links s.edges)

  -- a turn leaves `convex_edges` shorter by one
  shorter : (s : Pass) (l : List ℕ) (b : Bool) → (b || not (last_turns_left p s.mesh.links l)) ≡ false
      → length (close_last room p s l).edges < length l
  unfolding last_turns_left close_last
  shorter s l true e = absurd (false≢true (sym e))
  shorter s [] false e = absurd (false≢true (sym e))
  shorter s (a ∷ []) false e = absurd (false≢true (sym e))
  shorter s (a ∷ b ∷ l) false e = omega arith

  pub corners-closed : (s : Pass) → corners_closed (close_corners room p s) ≡ true
  unfolding close_corners
  corners-closed s =
      until-ends corners_closed (λ t. close_last room p t t.edges)
      {I = λ t. Unit {0}} {μ = λ t. length t.edges}
      (record { keeps = λ t i e. tt; less = λ t i e. shorter t t.edges t.mesh.full e })
      _ s tt (omega arith)
