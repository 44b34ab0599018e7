-- What a finish makes of a good mesh. It closes corners of the boundary that turn left, each followed by flips, and
-- then flips until no edge breaks the circle rule.
-- Where no flip is refused, no corner is left that turns left, and the mesh is settled; in any case it stays good, with
-- its vertices. Assumes nothing.
use Rattle.std.specs.Prelude.{Bool, ◌≡◌, ℕ, ◌+◌, ◌-◌, ◌≤◌, ℤ, pos, nat_abs, ◌+ℤ◌, ◌-ℤ◌, ◌≤ℤ◌}
use Rattle.std.proofs.Math.Bool.{true, false, cond}
use Rattle.std.proofs.Common.{sym, ◌∙◌, ap₂, arith, le→leb}
use Rattle.std.proofs.Math.Path.{ap, subst, subst⁻¹}
use Rattle.std.proofs.Math.IntN.{+ℤ-neg_ℤ_cancel}
use Rattle.std.specs.Int.Signed.{le_z_yes}
use Rattle.algebra.proofs.Order.{abs-0≤}
use Rattle.corner.specs.Corner.{Extended}
use Rattle.corner.specs.Untouched.{Untouched, run-untouched, closings-untouched, untouched-flips}
use Rattle.closing.specs.Closing.{Closing, closing_pass}
use Rattle.closing.specs.ClosingLaws.{closing-closes}
use Rattle.convexity.specs.Convexity.{convexity, NoLeftCorner}
use Rattle.convexity.proofs.ConvexityLawsFacts.{convexity-closings, convexity-good, convexity-counts, convexity-convex, run-corners}
use Rattle.math.specs.declared.Point.{Point}
use Rattle.mesh.specs.declared.Counts.{Counts}
use Rattle.mesh.specs.Mesh.{Links}
use Rattle.mesh.specs.Area.{area_total, boundary_area, height_sum}
use Rattle.mesh.proofs.AreaLaws.{area-theorem}
use Rattle.mesh.specs.Circle.{Settled}
use Rattle.mesh.specs.FlipRun.{FlipRun, none, determinants}
use Rattle.mesh.proofs.FlipRunLaws.{run-good, run-falls, run-heights}
use Rattle.mesh.specs.Good.{Good}
use Rattle.mesh.proofs.HeightLawsFacts.{heights-nonneg}
use Rattle.finish.specs.Finish.{Finishing, close_after, finish_mesh}

-- ---- a fall in whole numbers
pub fall-by : (n : ℕ) (a b : ℤ) → pos 0 ≤ℤ a → pos 0 ≤ℤ b → n + nat_abs b ≤ nat_abs a → pos n ≤ℤ (a -ℤ b)
fall-by n a b u v l =
    subst⁻¹ (λ (z : ℤ). pos n ≤ℤ z)
    (ap₂ (λ (x y : ℤ). x -ℤ y) (sym (abs-0≤ u) ∙ ap pos (more (nat_abs a) (nat_abs b) (omega arith))) (sym (abs-0≤ v)) ∙ +ℤ-neg_ℤ_cancel (pos (nat_abs a - nat_abs b)) (pos (nat_abs b)))
    (le_z_yes {a = pos n} {b = pos (nat_abs a - nat_abs b)} (le→leb n (nat_abs a - nat_abs b) (omega arith)))
  where
    more : (x y : ℕ) → y ≤ x → x ≡ x - y + y
    more x y l = omega arith

-- in any case, a refused flip too
module _ (room : ℕ) (C : Counts) (p : ℕ → Point) (L : Links) (G : Good C L p) where
  abbrev v : Extended
  v = convexity room C p L

  abbrev m : Finishing
  m = finish_mesh room C p L

  -- flips alone follow the convexity passes
  pub finish-flips : FlipRun m.counts p v.links m.links m.closingflips
  unfolding finish_mesh close_after
  finish-flips = go v.full
    where
      go : (b : Bool)
          → let c = cond b (record { links = v.links; flips = 0 }) (closing_pass v.counts p v.links) in
          FlipRun v.counts p v.links c.links c.flips
      go true = none
      go false = (closing-closes (convexity-good room C p L G)).run

  pub finish-good : Good m.counts m.links p
  unfolding finish_mesh
  finish-good = run-good (convexity-good room C p L G) finish-flips

  -- the same vertices, and an edge and a face more for each face that is reported
  pub finish-counts : m.counts ≡ record { vertices = C.vertices; edges = C.edges + m.faces; faces = C.faces + m.faces }
  unfolding finish_mesh
  finish-counts = convexity-counts room C p L G

  -- the inner faces' doubled areas total the boundary's
  pub finish-area : area_total m.counts m.links p ≡ boundary_area m.counts m.links p
  finish-area = area-theorem finish-good.wf p

  -- the height sum falls by the circle determinants of the closing flips, so by at least their number
  pub finish-heights : height_sum m.counts v.links p ≡ height_sum m.counts m.links p +ℤ determinants finish-flips
  unfolding finish_mesh
  finish-heights = run-heights (convexity-good room C p L G) finish-flips

  pub finish-fall : pos m.closingflips ≤ℤ (height_sum m.counts v.links p -ℤ height_sum m.counts m.links p)
  unfolding finish_mesh
  finish-fall =
      fall-by _ _ _ (heights-nonneg (convexity-good room C p L G).turning) (heights-nonneg finish-good.turning)
      (run-falls (convexity-good room C p L G) finish-flips)

  pub finish-untouched : Untouched m.counts L m.links
  unfolding finish_mesh
  finish-untouched = untouched-flips (closings-untouched G (convexity-closings room C p L G)) (run-untouched (convexity-good room C p L G) finish-flips)

  -- where no flip is refused
  module _ (f : m.full ≡ false) where
    -- the closing flips are those of the closing pass
    pub finish-closing : ◌≡◌ {A = Closing} (record { links = m.links; flips = m.closingflips }) (closing_pass v.counts p v.links)
    unfolding finish_mesh close_after
    finish-closing = ap (λ (b : Bool). cond b (record { links = v.links; flips = 0 }) (closing_pass v.counts p v.links)) f

    -- no boundary corner turns left
    pub finish-convex : NoLeftCorner m.counts m.links p
    unfolding finish_mesh
    finish-convex = run-corners (convexity-good room C p L G) finish-flips (convexity-convex room C p L G f)

    -- no triangle's circle strictly contains a neighbour's far vertex
    pub finish-settled : Settled m.counts m.links p
    unfolding finish_mesh
    finish-settled = subst (λ (s : Closing). Settled v.counts s.links p) (sym finish-closing) (closing-closes (convexity-good room C p L G)).settled
