-- `hull::angle_at` meets its contract. Assumes nothing.
use borrow.Author.Rules.{rules}
use mathlib.Core.Path.{sym, subst}
use mathlib.Core.Bool.{Bool, not}
use lib.Dec.{T}
use Rattle.hull.proofs.Around.{center-at, angle-is}
use Rattle.hull.proofs.angle_at.Goals as goal

pub angle_about-requires : goal.angle_about-requires
angle_about-requires c =
    let P = c.requires in
    (P.valid, subst (λ (t : Bool). T (not t)) (sym (center-at _ _ _ c.origin.ensures c.position-p.ensures (search rules) (search rules) _ _)) P.apart)

pub returns : goal.returns
returns c =
    angle-is _ _ _ c.origin.ensures c.position-p.ensures (search rules) (search rules) c.angle_about.ensures.is c.angle_about.ensures.angle
