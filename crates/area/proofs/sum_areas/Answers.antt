-- `area::sum_areas` meets its contract: the total is that of the faces before f. Assumes nothing.
use mathlib.Core.List.{[]}
use native.Mathlib.Nat.{lt_of_lt_of_le}
use native.Mathlib.Omega.{arith}
use borrow.Author.Rules.{sfits_of}
use Rattle.mesh_check.proofs.ReadableLaws.{corners-of}
use Rattle.area.proofs.Loop.{no-area, more-fits, next-area, all-areas}
use Rattle.area.proofs.sum_areas.Goals as goal

pub loop-f-init : goal.loop-f-init
loop-f-init c = let m = c.requires.readable.some in (omega arith, λ o. no-area _ o _ _)

pub adjacent-a-requires : goal.adjacent-a-requires
adjacent-a-requires c = lt_of_lt_of_le c.loop-f-test.true c.requires.readable.faces

pub doubled_area_at-area-requires : goal.doubled_area_at-area-requires
doubled_area_at-area-requires c =
    corners-of c.requires.readable c.loop-f-test.true c.adjacent-a.ensures

pub add_area-total-requires : goal.add_area-total-requires
add_area-total-requires c =
    let i = c.loop-f.invariant in
    let r = c.doubled_area_at-area in
    more-fits c.requires [] i.0 c.loop-f-test.true (i.1 [])
    c.adjacent-a.ensures (sfits_of r.type_inv) (r.ensures [] _)

pub loop-f-preserved : goal.loop-f-preserved
loop-f-preserved c =
    let i = c.loop-f.invariant in
    let r = c.doubled_area_at-area in (
      omega arith,
      λ o. next-area c.requires o i.0 c.loop-f-test.true (i.1 o)
          c.adjacent-a.ensures (sfits_of r.type_inv) (r.ensures o _) c.add_area-total.ensures,
    )

pub returns : goal.returns
returns c = λ o. all-areas _ _ o _ _ (omega arith) (c.loop-f.invariant.1 o)
