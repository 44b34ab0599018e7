-- What a turn needs of the rows, and what it leaves. Assumes nothing.
use mathlib.Core.List.{List}
use mathlib.Core.Path.{◌≡◌, refl, ◌∙◌, ap}
use Prim.Native.Nat.{ℕ, ◌+◌, ◌*◌}
use lib.IntN.{ℤ}
use lib.ListN.{length}
use Rattle.apply.specs.declared.Walked.{Walked}
use Rattle.apply.specs.Apply.{Walking, face_edge}
use Rattle.apply.specs.ApplyRows.{walking_of, beside_in}
use Rattle.corner.specs.declared.Extension.{Extension}
use Rattle.corner.specs.CornerRows.{extended_of}
use Rattle.dcel.specs.Rows.{halves_of, links_of, position_of}
use Rattle.ring.specs.declared.Side.{Side}
use Rattle.ring.specs.Chain.{beside}
use Rattle.skipped.specs.Insert.{cover_edge, outside_turn}
use Rattle.insert_outside.specs.OutsideRows.{CoverReady, TurnReady}
use Rattle.insert_outside.specs.TurnLaws.{beside-is}

module _ {side : Side} {q : List ℤ} {o h a row : List ℕ} {w : Walked} (R : TurnReady side q o h a row w)
    {d at : ℕ} (x : d ≡ beside_in side (halves_of h) w.edge) (y : at ≡ face_edge side w.edge d) where
  d-is : d ≡ beside side (links_of o h a) w.edge
  d-is = x ∙ beside-is side o h a w.edge

  at-is : at ≡ face_edge side w.edge (beside side (links_of o h a) w.edge)
  at-is = y ∙ ap (face_edge side w.edge) d-is

  pub cover-ready : CoverReady q o h a row w.added at d
  cover-ready = rw (at-is, d-is) R.cover

  pub turned-row : (o' h' a' : List ℕ) (g : Extension)
      → extended_of o' h' a' g ≡ cover_edge (length row) (position_of q) (extended_of o h a w.added) at d
      → ◌≡◌ {A = Walking} (record { mesh = extended_of o' h' a' g; current = 2 * w.added.counts.edges + 1 })
      (outside_turn side (length row) (position_of q) (walking_of o h a w))
  unfolding outside_turn extended_of
  turned-row o' h' a' g u = rw (u, at-is, d-is) refl
