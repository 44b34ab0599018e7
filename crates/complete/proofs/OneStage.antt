-- The finish of a run with one convexity stage: the second changes nothing, so the code has none. Assumes nothing.
use Rattle.std.specs.Prelude.{Bool, true, false, cond, ◌≡◌, ℕ, ◌+◌, ◌<◌}
use Rattle.std.proofs.Math.Path.{refl, ap}
use Rattle.std.proofs.Common.{sym, ◌∙◌}
use Rattle.std.proofs.Math.Nat.{add-zero}
use Rattle.convexity.specs.Convexity.{convexity}
use Rattle.corner.specs.Corner.{Extended}
use Rattle.finish.specs.Finish.{close_after}
use Rattle.math.specs.declared.Point.{Point}
use Rattle.math.specs.Determinant.{InRange}
use Rattle.mesh.specs.declared.Counts.{Counts}
use Rattle.mesh.specs.Mesh.{Links}
use Rattle.mesh.specs.Good.{Good}
use Rattle.skipped.specs.Fill.{Filling, fill_after, fill_from, convex_after, Completing, complete_mesh}
use Rattle.skipped.proofs.FillLawsFacts.{fill-answered}
use Rattle.skipped.proofs.InsertCorners.{second-idle}
use Rattle.complete.specs.CompleteRows.{close_fill}

stopped : (room : ℕ) (s : Filling) → s.full ≡ true
    → convex_after room s ≡ record { counts = s.counts; links = s.links; faces = 0; flips = 0; full = true }
unfolding convex_after
stopped room s f = rw f refl

from_list : (room : ℕ) (p : ℕ → Point) (skipped : ℕ → Bool) (point : ℕ → Point) (n : ℕ) (v : Extended) → v.full ≡ false
    → fill_from room p skipped point n v ≡ fill_after room v.counts v.links p skipped point n
unfolding fill_from
from_list room p skipped point n v f = rw f refl

module _ (room : ℕ) {C : Counts} {L : Links} {p : ℕ → Point} (G : Good C L p) (skipped : ℕ → Bool) (point : ℕ → Point)
    (n : ℕ) (range : (i : ℕ) → i < n → InRange (point i)) where
  abbrev v : Extended
  v = convexity room C p L

  abbrev s : Filling
  s = fill_from room p skipped point n v

  -- the second stage leaves the mesh that it gets
  second : convex_after room s ≡ record { counts = s.counts; links = s.links; faces = 0; flips = 0; full = s.full }
  second = go s.full refl
    where
      go : (b : Bool) → s.full ≡ b
          → convex_after room s ≡ record { counts = s.counts; links = s.links; faces = 0; flips = 0; full = b }
      go true q = stopped room s q
      go false q = second-idle room G skipped point n range q

  abbrev with : Extended → Completing
  with w =
      let c = close_after s.positions w in
      record {
        mesh = record {
          counts = w.counts;
          links = c.links;
          faces = v.faces + w.faces;
          convexflips = v.flips + w.flips;
          closingflips = c.flips;
          full = w.full;
        };
        positions = s.positions;
        place = cond s.full s.answered n;
        inserted = cond v.full 0 s.answered;
      }

  -- ONE STAGE
  pub one-stage : complete_mesh room C L p skipped point n
      ≡ record {
        mesh = close_fill v.faces v.flips s;
        positions = s.positions;
        place = cond s.full s.answered n;
        inserted = cond v.full 0 s.answered;
      }
  unfolding complete_mesh close_fill
  one-stage = ap with second ∙ rw (add-zero v.faces, add-zero v.flips) refl

  -- the passes were refused a flip
  pub passes-refused : v.full ≡ true → complete_mesh room C L p skipped point n
      ≡ record {
        mesh = record { counts = v.counts; links = v.links; faces = v.faces; convexflips = v.flips; closingflips = 0; full = true };
        positions = p;
        place = n;
        inserted = 0;
      }
  unfolding close_fill fill_from close_after
  passes-refused f = one-stage ∙ rw f refl

  -- they were not: the list decides
  pub passes-made : v.full ≡ false → {t : Filling} → t ≡ fill_after room v.counts v.links p skipped point n
      → complete_mesh room C L p skipped point n
      ≡ record { mesh = close_fill v.faces v.flips t; positions = t.positions; place = t.answered; inserted = t.answered }
  passes-made f {t} e = one-stage ∙ rw (from_list room p skipped point n v f, f, e, named after.full refl) refl
    where
      after : Filling
      after = fill_after room v.counts v.links p skipped point n

      named : (b : Bool) → after.full ≡ b → cond after.full after.answered n ≡ after.answered
      named true q = rw q refl
      named false q = rw q (sym ((fill-answered room v.counts v.links p skipped point n).all q))
