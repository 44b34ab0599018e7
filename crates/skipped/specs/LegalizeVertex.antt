-- `legalize_edge` of one half-edge after another, and `legalize_vertex`: a run of exactly as many flips as are counted,
-- each at an edge that broke the circle rule at that moment. So a good mesh stays good, with its boundary and its area.
-- Nothing about the new vertex or its edges is asked but that they are in use. Assumes nothing.
use Rattle.std.specs.Prelude.{Bool, cond, ◌≡◌, refl, ℕ, ◌+◌, ◌<◌}
use Rattle.std.proofs.Math.Bool.{true, false}
use mathlib.Core.List.{List, [], ◌∷◌}
use Rattle.std.proofs.Common.{sym, ◌∙◌, ap, subst, add-zero, arith}
use Rattle.corner.specs.Corner.{Extended}
use Rattle.corner.specs.Untouched.{Untouched, run-untouched}
use Rattle.legalize.specs.declared.Entry.TheVariants.{HalfEdge}
use Rattle.legalize.specs.Legalize.{entry_edge, legalize_edge}
use Rattle.legalize.specs.LegalizeLaws.{Outcome, legalize-outcome, legalize-start}
use Rattle.location.specs.Search.{is_outer, spokes}
use Rattle.math.specs.declared.Point.{Point}
use Rattle.mesh.specs.declared.Counts.{Counts}
use Rattle.mesh.specs.Mesh.{Links, In, turn}
use Rattle.mesh.specs.Area.{area_total}
use Rattle.mesh.specs.FlipRun.{FlipRun, none}
use Rattle.mesh.proofs.FlipRunLaws.{run_join, run-good, run-boundary, run-area}
use Rattle.mesh.specs.Frame.{SameBoundary}
use Rattle.mesh.specs.Good.{Good}
use Rattle.conflicts.specs.FlipsWithin.{FlipsWithin}
use Rattle.conflicts.proofs.FlipsWithinLaws.{within-run}
use Rattle.mesh.specs.Triangle.{rev-in}
use Rattle.mesh.specs.Wf.{Wf}
use Rattle.sums.proofs.Cases.{All}
use Rattle.sums.specs.Tally.{walk}
use Rattle.sums.proofs.TallyLaws.{walk-all}
use Rattle.skipped.specs.Insert.{legalize_one, legalize_each, inner_nexts, star_edges, legalize_vertex}

-- r is m after flips alone, as many as are counted
pub record Legalized (p : ℕ → Point) (m r : Extended) : Type 0 where
  pub counts : r.counts ≡ m.counts
  pub faces : r.faces ≡ m.faces
  pub made : ℕ
  pub run : FlipRun m.counts p m.links r.links made
  pub flips : r.flips ≡ m.flips + made
