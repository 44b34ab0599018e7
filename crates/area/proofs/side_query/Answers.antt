-- `area::side_query` meets its contract: the points are tested one after the other. Assumes nothing.
use Rattle.std.specs.Prelude.{Ok}
use mathlib.Core.Bool.{false, not}
use mathlib.Core.Path.{◌≡◌, sym, ◌∙◌, ap}
use borrow.Author.Rules.{sfits_of}
use mir.Facts.{to_z-of_z}
use Rattle.mesh_check.specs.Check.{is_outside}
use Rattle.area.specs.Sided.{Sided}
use Rattle.area.proofs.SideQueryLaws.{inside, first-outside, second-outside, third-outside, none-outside}
use mir.Syntax.{w64}
use Rattle.area.proofs.side_query.Goals as goal

pub returns-then-not-validate_vertex : goal.returns-then-not-validate_vertex
returns-then-not-validate_vertex c =
    c.outside.ensures ∙ first-outside _ _ _ (ap not (sym c.validate_vertex.ensures ∙ c.if-not-validate_vertex.true))

pub returns-then-not-validate_vertex-2 : goal.returns-then-not-validate_vertex-2
returns-then-not-validate_vertex-2 c =
    let p1-inside : is_outside c.args.p1 ≡ false = ap not (sym c.validate_vertex.ensures ∙ c.if-not-validate_vertex.false) in
    c.outside-then-not-validate_vertex-2.ensures
    ∙ second-outside _ _ _ (p1-inside) (ap not (sym c.validate_vertex-2.ensures ∙ c.if-not-validate_vertex-2.true))

pub returns-then-not-validate_vertex-3 : goal.returns-then-not-validate_vertex-3
returns-then-not-validate_vertex-3 c =
    let p1-inside : is_outside c.args.p1 ≡ false = ap not (sym c.validate_vertex.ensures ∙ c.if-not-validate_vertex.false) in
    let p2-inside : is_outside c.args.p2 ≡ false = ap not (sym c.validate_vertex-2.ensures ∙ c.if-not-validate_vertex-2.false) in
    c.outside-then-not-validate_vertex-3.ensures
    ∙ third-outside _ _ _ (p1-inside) (p2-inside)
    (ap not (sym c.validate_vertex-3.ensures ∙ c.if-not-validate_vertex-3.true))

pub side_query-requires : goal.side_query-requires
side_query-requires c =
    let p1-inside : is_outside c.args.p1 ≡ false = ap not (sym c.validate_vertex.ensures ∙ c.if-not-validate_vertex.false) in
    let p2-inside : is_outside c.args.p2 ≡ false = ap not (sym c.validate_vertex-2.ensures ∙ c.if-not-validate_vertex-2.false) in
    let q-inside : is_outside c.args.q ≡ false = ap not (sym c.validate_vertex-3.ensures ∙ c.if-not-validate_vertex-3.false) in
    (inside (p1-inside), inside (p2-inside), inside (q-inside))

pub returns : goal.returns
returns c =
    let p1-inside : is_outside c.args.p1 ≡ false = ap not (sym c.validate_vertex.ensures ∙ c.if-not-validate_vertex.false) in
    let p2-inside : is_outside c.args.p2 ≡ false = ap not (sym c.validate_vertex-2.ensures ∙ c.if-not-validate_vertex-2.false) in
    let q-inside : is_outside c.args.q ≡ false = ap not (sym c.validate_vertex-3.ensures ∙ c.if-not-validate_vertex-3.false) in
    ap Ok (to_z-of_z {w = w64} (sfits_of c.side_query.type_inv) ∙ c.side_query.ensures)
    ∙ none-outside _ _ _ (p1-inside) (p2-inside) (q-inside)
