-- `decide::decide_at` meets its contract: each answer is the fate that its tests mean. Assumes nothing.
use mathlib.Core.Path.{◌∙◌}
use native.Mathlib.Omega.{arith}
use borrow.Author.Rules.{sfits_of}
use mir.Facts.{to_z-of_z}
use Rattle.decide.proofs.Deciding.{here-about, ends_at, asks-side, at_from, at-to, not_left, passes}
use Rattle.decide.proofs.Deciding.{asks-left, asks-right, asks-fit, unsound, added}
use mir.Syntax.{w64}
use Rattle.decide.proofs.decide_at.Goals as goal
use Rattle.decide.proofs.decide_at.Goals.{then-is_position-via-then-is_position, then-is_position-via-else-is_position+then-is_position-2}

pub origin_position-from-requires : goal.origin_position-from-requires
origin_position-from-requires c = (here-about c.requires.located).from

pub origin_position-to-requires : goal.origin_position-to-requires
origin_position-to-requires c = rw c.rev.ensures (here-about c.requires.located).to

pub returns-then-is_position : goal.returns-then-is_position
returns-then-is_position c C o a K =
    let E = ends_at K c.origin_position-from.ensures c.rev.ensures c.origin_position-to.ensures in
    elim c.then-is_position.branch [
      | then-is_position-via-then-is_position w ↦ at_from K E c.is_position.ensures w.if-is_position.true c.leave.ensures
      | then-is_position-via-else-is_position+then-is_position-2 w ↦
          at-to K E c.is_position.ensures w.if-is_position.false w.is_position-else-is_position.ensures w.if-is_position-2.true c.leave.ensures
    ]

pub side_query-requires : goal.side_query-requires
side_query-requires c =
    let K = c.requires.located in
    asks-side K (ends_at K c.origin_position-from.ensures c.rev.ensures c.origin_position-to.ensures)

pub returns-then-side_query-le0 : goal.returns-then-side_query-le0
returns-then-side_query-le0 c C o a K =
    not_left K (ends_at K c.origin_position-from.ensures c.rev.ensures c.origin_position-to.ensures)
    c.is_position.ensures c.if-is_position.false c.is_position-else-is_position.ensures c.if-is_position-2.false
    (to_z-of_z {w = w64} (sfits_of c.side_query.type_inv) ∙ c.side_query.ensures) c.if-side_query-le0.true c.leave-then-side_query-le0.ensures

pub walk-left-requires : goal.walk-left-requires
walk-left-requires c =
    let P = c.requires in let K = P.located in
    asks-left K (ends_at K c.origin_position-from.ensures c.rev.ensures c.origin_position-to.ensures) P.ends

pub walk-right-requires : goal.walk-right-requires
walk-right-requires c =
    let P = c.requires in let K = P.located in
    asks-right K (ends_at K c.origin_position-from.ensures c.rev.ensures c.origin_position-to.ensures) P.ends

pub overflow_add-nodes : goal.overflow_add-nodes
overflow_add-nodes c =
    let K = c.requires.located in
    let S =
    passes K (ends_at K c.origin_position-from.ensures c.rev.ensures c.origin_position-to.ensures)
    c.is_position.ensures c.if-is_position.false c.is_position-else-is_position.ensures c.if-is_position-2.false
    (to_z-of_z {w = w64} (sfits_of c.side_query.type_inv) ∙ c.side_query.ensures) c.if-side_query-le0.false in
    let m = (asks-fit K S c.walk-left.ensures c.walk-right.ensures).3 in
    record { fits = omega arith }

pub overflow_add-nodes-2 : goal.overflow_add-nodes-2
overflow_add-nodes-2 c =
    let K = c.requires.located in
    let S =
    passes K (ends_at K c.origin_position-from.ensures c.rev.ensures c.origin_position-to.ensures)
    c.is_position.ensures c.if-is_position.false c.is_position-else-is_position.ensures c.if-is_position-2.false
    (to_z-of_z {w = w64} (sfits_of c.side_query.type_inv) ∙ c.side_query.ensures) c.if-side_query-le0.false in
    let m = (asks-fit K S c.walk-left.ensures c.walk-right.ensures).3 in
    record { fits = omega arith }

pub is_fit-requires : goal.is_fit-requires
is_fit-requires c =
    let K = c.requires.located in
    let S =
    passes K (ends_at K c.origin_position-from.ensures c.rev.ensures c.origin_position-to.ensures)
    c.is_position.ensures c.if-is_position.false c.is_position-else-is_position.ensures c.if-is_position-2.false
    (to_z-of_z {w = w64} (sfits_of c.side_query.type_inv) ∙ c.side_query.ensures) c.if-side_query-le0.false in
    asks-fit K S c.walk-left.ensures c.walk-right.ensures

pub returns-then-not-is_fit : goal.returns-then-not-is_fit
returns-then-not-is_fit c C o a K =
    let S =
    passes K (ends_at K c.origin_position-from.ensures c.rev.ensures c.origin_position-to.ensures)
    c.is_position.ensures c.if-is_position.false c.is_position-else-is_position.ensures c.if-is_position-2.false
    (to_z-of_z {w = w64} (sfits_of c.side_query.type_inv) ∙ c.side_query.ensures) c.if-side_query-le0.false in
    unsound K S c.walk-left.ensures c.walk-right.ensures c.is_fit.ensures c.if-not-is_fit.true
    c.leave-then-not-is_fit.ensures

pub returns : goal.returns
returns c C o a K =
    let S =
    passes K (ends_at K c.origin_position-from.ensures c.rev.ensures c.origin_position-to.ensures)
    c.is_position.ensures c.if-is_position.false c.is_position-else-is_position.ensures c.if-is_position-2.false
    (to_z-of_z {w = w64} (sfits_of c.side_query.type_inv) ∙ c.side_query.ensures) c.if-side_query-le0.false in
    added K S c.walk-left.ensures c.walk-right.ensures c.is_fit.ensures c.if-not-is_fit.false
