-- `listing_run::doubled_area` meets its contract: the areas of so few faces add up within 64 bits. Assumes nothing.
use mathlib.Core.List.{[]}
use mathlib.Core.Path.{◌∙◌}
use Prim.Native.Nat.{◌^◌}
use native.Mathlib.Nat.{le_trans, lt_of_le_of_lt, mul-le-mul_right}
use native.Mathlib.Omega.{arith}
use lib.Dec.{lit<}
use mir.Facts.{to_z-of_z}
use borrow.Author.Rules.{sfits_of}
use Rattle.area.proofs.SummableLaws.{total-most, total-meant}
use mir.Syntax.{w64}
use Rattle.listing_run.proofs.doubled_area.Goals as goal

pub sum_areas-requires : goal.sum_areas-requires
sum_areas-requires c = let S = c.requires in record { readable = S.readable; few = omega arith }

pub to_i64-requires : goal.to_i64-requires
to_i64-requires c =
    let S = c.requires in
    rw (total-meant (record { readable = S.readable; few = omega arith }) [] (c.sum_areas.ensures []))
    (lt_of_le_of_lt (le_trans (total-most S.readable []) (mul-le-mul_right {n = 800} (2 ^ 50) (omega arith))) (lit< tt))

pub returns : goal.returns
returns c = λ o.
    let S = c.requires in
    to_z-of_z {w = w64} (sfits_of c.to_i64.type_inv) ∙ c.to_i64.ensures
    ∙ total-meant (record { readable = S.readable; few = omega arith }) o (c.sum_areas.ensures o)
