-- What a turn needs of the rows, and what it leaves. Assumes nothing.
use mathlib.Core.Bool.{false}
use mathlib.Core.List.{List}
use mathlib.Core.Path.{◌≡◌, refl, ◌∙◌, ap}
use Prim.Native.Nat.{ℕ, ◌+◌}
use native.Mathlib.Numerals.{add-one}
use Rattle.apply.specs.declared.Walked.{Walked}
use Rattle.apply.specs.Apply.{Walking, face_edge}
use Rattle.apply.specs.ApplyRows.{walking_of, beside_in}
use Rattle.corner.specs.CornerRows.{extended_of}
use Rattle.dcel.specs.Rows.{halves_of, links_of}
use Rattle.dcel_operations.specs.declared.NewEdge.{NewEdge}
use Rattle.dcel_operations.specs.Face.{SingleReady, SingleFace}
use Rattle.insert_outside.specs.TurnLaws.{beside-is}
use Rattle.line.proofs.Still.{cover-still}
use Rattle.math.specs.declared.Point.{Point}
use Rattle.ring.specs.declared.Side.{Side}
use Rattle.ring.specs.Chain.{beside}
use Rattle.skipped.specs.Insert.{outside_turn}
use Rattle.line_fan.specs.FanRows.{TurnReady}

module _ {side : Side} {h a : List ℕ} {w : Walked} (R : TurnReady side h a w)
    {d at : ℕ} (x : d ≡ beside_in side (halves_of h) w.edge) (y : at ≡ face_edge side w.edge d) where
  at-is : at ≡ face_edge side w.edge (beside_in side (halves_of h) w.edge)
  at-is = y ∙ ap (face_edge side w.edge) x

  pub single-ready : SingleReady h a w.added.counts at
  single-ready = rw at-is R.single

  pub turned-row : {h' a' : List ℕ} {n : NewEdge} → SingleFace h a h' a' w.added.counts at n
      → (room : ℕ) (p : ℕ → Point) (o : List ℕ) → ◌≡◌ {A = Walking}
      (record {
        mesh = extended_of o h' a' (record { counts = n.counts; faces = w.added.faces + 1; flips = w.added.flips; full = false });
        current = n.edge;
      })
      (outside_turn side room p (walking_of o h a w))
  unfolding outside_turn extended_of
  turned-row N room p o =
      let b = beside-is side o h a w.edge in
      let d' = beside side (links_of o h a) w.edge in
      let s = cover-still room p (extended_of o h a w.added) (face_edge side w.edge d') d' (rw (← b) (R.outer o)) in
      rw (s, N.result, N.links o, at-is, b, add-one w.added.faces) refl
