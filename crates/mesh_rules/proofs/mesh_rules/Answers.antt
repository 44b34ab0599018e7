-- `mesh_rules::mesh_rules` meets its contract: the sweeps, one after the other. Assumes nothing.
use mathlib.Core.Path.{◌≡◌, sym, ◌∙◌}
use mathlib.Core.Bool.{true}
use mathlib.Core.List.{List}
use Prim.Native.Nat.{ℕ, ◌*◌}
use borrow.Author.Tests.{not-true, not-false}
use Rattle.dcel.specs.Rows.{links_of}
use Rattle.mesh_rules.specs.Holds.{HalvesHold, half_edge_holds, outer_holds, counts_hold}
use Rattle.sums.proofs.BitLaws.{from-true}
use Rattle.sums.specs.Bounded.{all_below}
use Rattle.mesh_rules.proofs.Tests.{fails-counts, fails-halves, fails-outer, fails-whole, fails-inner, at-vertices, halves-there, faces-there, some-face, face-there, outer-in}
use Rattle.mesh_rules.proofs.mesh_rules.Goals as goal

pub returns-then-not-counts_hold : goal.returns-then-not-counts_hold
returns-then-not-counts_hold c = fails-counts _ _ (sym c.counts_hold.ensures ∙ not-true _ c.if-not-counts_hold.true-raw)

pub half_edges_hold-requires : goal.half_edges_hold-requires
half_edges_hold-requires c =
    let counts : counts_hold c.args.counts ≡ true = sym c.counts_hold.ensures ∙ not-false _ c.if-not-counts_hold.false-raw in
    halves-there c.requires (counts)

pub returns-then-not-half_edges_hold : goal.returns-then-not-half_edges_hold
returns-then-not-half_edges_hold c =
    let counts : counts_hold c.args.counts ≡ true = sym c.counts_hold.ensures ∙ not-false _ c.if-not-counts_hold.false-raw in
    fails-halves _ _ (counts) (sym (c.half_edges_hold.ensures _ _) ∙ not-true _ c.if-not-half_edges_hold.true-raw)

pub outer_holds-requires : goal.outer_holds-requires
outer_holds-requires c =
    let counts : counts_hold c.args.counts ≡ true = sym c.counts_hold.ensures ∙ not-false _ c.if-not-counts_hold.false-raw in
    let halves : (o a : List ℕ) → all_below (2 * c.args.counts.edges) (half_edge_holds c.args.counts (links_of o c.args.halves.now a)) ≡ true = λ o a. sym (c.half_edges_hold.ensures o a) ∙ not-false _ c.if-not-half_edges_hold.false-raw in
    let swept : HalvesHold c.args.counts c.args.halves.now = record { there = halves-there c.requires (counts); holds = λ o a. from-true (halves o a) } in
    (swept, face-there c.requires (counts))

pub returns-then-not-outer_holds : goal.returns-then-not-outer_holds
returns-then-not-outer_holds c =
    let counts : counts_hold c.args.counts ≡ true = sym c.counts_hold.ensures ∙ not-false _ c.if-not-counts_hold.false-raw in
    let halves : (o a : List ℕ) → all_below (2 * c.args.counts.edges) (half_edge_holds c.args.counts (links_of o c.args.halves.now a)) ≡ true = λ o a. sym (c.half_edges_hold.ensures o a) ∙ not-false _ c.if-not-half_edges_hold.false-raw in
    fails-outer _ _ (counts) (halves _ _) (sym (c.outer_holds.ensures _) ∙ not-true _ c.if-not-outer_holds.true-raw)

pub faces_whole-requires : goal.faces_whole-requires
faces_whole-requires c =
    let counts : counts_hold c.args.counts ≡ true = sym c.counts_hold.ensures ∙ not-false _ c.if-not-counts_hold.false-raw in
    let halves : (o a : List ℕ) → all_below (2 * c.args.counts.edges) (half_edge_holds c.args.counts (links_of o c.args.halves.now a)) ≡ true = λ o a. sym (c.half_edges_hold.ensures o a) ∙ not-false _ c.if-not-half_edges_hold.false-raw in
    let swept : HalvesHold c.args.counts c.args.halves.now = record { there = halves-there c.requires (counts); holds = λ o a. from-true (halves o a) } in
    let outer : (o : List ℕ) → outer_holds c.args.counts (links_of o c.args.halves.now c.args.faces.now) ≡ true = λ o. sym (c.outer_holds.ensures o) ∙ not-false _ c.if-not-outer_holds.false-raw in
    (swept, (face-there c.requires (counts), outer-in _ _ _ _ (outer c.args.outs.now)))

pub returns-then-not-faces_whole : goal.returns-then-not-faces_whole
returns-then-not-faces_whole c =
    let counts : counts_hold c.args.counts ≡ true = sym c.counts_hold.ensures ∙ not-false _ c.if-not-counts_hold.false-raw in
    let halves : (o a : List ℕ) → all_below (2 * c.args.counts.edges) (half_edge_holds c.args.counts (links_of o c.args.halves.now a)) ≡ true = λ o a. sym (c.half_edges_hold.ensures o a) ∙ not-false _ c.if-not-half_edges_hold.false-raw in
    let outer : (o : List ℕ) → outer_holds c.args.counts (links_of o c.args.halves.now c.args.faces.now) ≡ true = λ o. sym (c.outer_holds.ensures o) ∙ not-false _ c.if-not-outer_holds.false-raw in
    fails-whole _ _ (counts) (halves _ _) (outer _) (sym (c.faces_whole.ensures _) ∙ not-true _ c.if-not-faces_whole.true-raw)

pub inner_faces_hold-requires : goal.inner_faces_hold-requires
inner_faces_hold-requires c =
    let counts : counts_hold c.args.counts ≡ true = sym c.counts_hold.ensures ∙ not-false _ c.if-not-counts_hold.false-raw in
    let halves : (o a : List ℕ) → all_below (2 * c.args.counts.edges) (half_edge_holds c.args.counts (links_of o c.args.halves.now a)) ≡ true = λ o a. sym (c.half_edges_hold.ensures o a) ∙ not-false _ c.if-not-half_edges_hold.false-raw in
    let swept : HalvesHold c.args.counts c.args.halves.now = record { there = halves-there c.requires (counts); holds = λ o a. from-true (halves o a) } in
    (swept, (some-face c.requires (counts), faces-there c.requires (counts)))

pub returns-then-not-inner_faces_hold : goal.returns-then-not-inner_faces_hold
returns-then-not-inner_faces_hold c =
    let counts : counts_hold c.args.counts ≡ true = sym c.counts_hold.ensures ∙ not-false _ c.if-not-counts_hold.false-raw in
    let halves : (o a : List ℕ) → all_below (2 * c.args.counts.edges) (half_edge_holds c.args.counts (links_of o c.args.halves.now a)) ≡ true = λ o a. sym (c.half_edges_hold.ensures o a) ∙ not-false _ c.if-not-half_edges_hold.false-raw in
    let outer : (o : List ℕ) → outer_holds c.args.counts (links_of o c.args.halves.now c.args.faces.now) ≡ true = λ o. sym (c.outer_holds.ensures o) ∙ not-false _ c.if-not-outer_holds.false-raw in
    fails-inner _ _ (counts) (halves _ _) (outer _) (sym (c.faces_whole.ensures _) ∙ not-false _ c.if-not-faces_whole.false-raw)
    (sym (c.inner_faces_hold.ensures _) ∙ not-true _ c.if-not-inner_faces_hold.true-raw)

pub vertices_hold-requires : goal.vertices_hold-requires
vertices_hold-requires c =
    let counts : counts_hold c.args.counts ≡ true = sym c.counts_hold.ensures ∙ not-false _ c.if-not-counts_hold.false-raw in
    let halves : (o a : List ℕ) → all_below (2 * c.args.counts.edges) (half_edge_holds c.args.counts (links_of o c.args.halves.now a)) ≡ true = λ o a. sym (c.half_edges_hold.ensures o a) ∙ not-false _ c.if-not-half_edges_hold.false-raw in
    let swept : HalvesHold c.args.counts c.args.halves.now = record { there = halves-there c.requires (counts); holds = λ o a. from-true (halves o a) } in
    (swept, c.requires.outs)

pub returns : goal.returns
returns c =
    let counts : counts_hold c.args.counts ≡ true = sym c.counts_hold.ensures ∙ not-false _ c.if-not-counts_hold.false-raw in
    let halves : (o a : List ℕ) → all_below (2 * c.args.counts.edges) (half_edge_holds c.args.counts (links_of o c.args.halves.now a)) ≡ true = λ o a. sym (c.half_edges_hold.ensures o a) ∙ not-false _ c.if-not-half_edges_hold.false-raw in
    let outer : (o : List ℕ) → outer_holds c.args.counts (links_of o c.args.halves.now c.args.faces.now) ≡ true = λ o. sym (c.outer_holds.ensures o) ∙ not-false _ c.if-not-outer_holds.false-raw in
    c.vertices_hold.ensures _
    ∙ at-vertices _ _ (counts) (halves _ _) (outer _) (sym (c.faces_whole.ensures _) ∙ not-false _ c.if-not-faces_whole.false-raw)
    (sym (c.inner_faces_hold.ensures _) ∙ not-false _ c.if-not-inner_faces_hold.false-raw)
