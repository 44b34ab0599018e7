-- `volume::add_faces` meets its contract: the sums are those over the faces before f. Assumes nothing.
use mathlib.Core.List.{[]}
use mathlib.Core.Path.{◌≡◌}
use native.Mathlib.Nat.{lt_of_lt_of_le}
use native.Mathlib.Omega.{arith}
use mir.Facts.{to_z-of_z}
use Rattle.dcel.specs.Rows.{links_of}
use Rattle.volume.proofs.MeasurableLaws.{no-face, next-face, triangle-of, faces-small}
use Rattle.volume.proofs.add_faces.Goals as goal

pub loop-f-init : goal.loop-f-init
loop-f-init c = let m = c.requires.some in (omega arith, λ o. no-face _ _ _ _)

pub adjacent-a-requires : goal.adjacent-a-requires
adjacent-a-requires c = lt_of_lt_of_le c.loop-f-test.true c.requires.faces

pub add_face-sums-requires : goal.add_face-sums-requires
add_face-sums-requires c =
    let i = c.loop-f.invariant in
    rw (i.1 [], to_z-of_z c.ranges.level)
    (faces-small c.requires [] _ (omega arith), triangle-of c.requires [] i.0 c.loop-f-test.true c.adjacent-a.ensures)

pub loop-f-preserved : goal.loop-f-preserved
unfolding links_of
loop-f-preserved c =
    let f = c.loop-f.f in
    let i = c.loop-f.invariant in (
      omega arith,
      λ o. next-face _ _ _ _ f i.0 (i.1 o) c.adjacent-a.ensures (c.add_face-sums.ensures o _),
    )

pub returns : goal.returns
returns c = λ o.
    let e : c.loop-f.f ≡ c.args.counts.faces = omega arith in
    rw (to_z-of_z c.ranges.level, e) at (c.loop-f.invariant.1 o)
