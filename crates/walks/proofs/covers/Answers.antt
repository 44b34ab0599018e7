-- `walks::covers` meets its contract: the code tests the side first and the angle last. Assumes nothing.
use mathlib.Core.Path.{◌∙◌}
use borrow.Author.Rules.{sfits_of}
use mir.Facts.{to_z-of_z}
use mir.Syntax.{w64}
use Rattle.walks.proofs.Tests.{test-unseen, test-ahead, test-level}
use Rattle.walks.proofs.covers.Goals as goal

pub side_query-requires : goal.side_query-requires
side_query-requires c = let P = c.requires in (P.far-range, P.near-range, P.range)

pub returns-then-side_query-le0 : goal.returns-then-side_query-le0
returns-then-side_query-le0 c =
    test-unseen _ _ _ _ _ (to_z-of_z {w = w64} (sfits_of c.side_query.type_inv) ∙ c.side_query.ensures) c.if-side_query-le0.true

pub is_behind_edge-requires : goal.is_behind_edge-requires
is_behind_edge-requires c = let P = c.requires in (P.far-range, P.near-range, P.range)

pub returns-then-not-is_behind_edge : goal.returns-then-not-is_behind_edge
returns-then-not-is_behind_edge c =
    test-ahead _ _ _ _ _ (to_z-of_z {w = w64} (sfits_of c.side_query.type_inv) ∙ c.side_query.ensures) c.if-side_query-le0.false c.is_behind_edge.ensures
    c.if-not-is_behind_edge.true

pub equal-requires : goal.equal-requires
equal-requires c = let P = c.requires in (P.is-angle, P.near-angle)

pub returns : goal.returns
returns c =
    test-level _ _ _ _ _ (to_z-of_z {w = w64} (sfits_of c.side_query.type_inv) ∙ c.side_query.ensures) c.if-side_query-le0.false c.is_behind_edge.ensures
    c.if-not-is_behind_edge.false c.equal.ensures
