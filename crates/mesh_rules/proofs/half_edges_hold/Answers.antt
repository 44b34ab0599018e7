-- `mesh_rules::half_edges_hold` meets its contract. Assumes nothing.
use Rattle.std.proofs.Common.{refl}
use Rattle.std.proofs.Common.{◌*◌, ◌∙◌, arith, rules, tests}
use Rattle.std.proofs.lemmas.Iterator.{YieldsList-from_range}
use Rattle.std.proofs.lemmas.Iterator.Search.{all_from_yields_List}
use Rattle.dcel.specs.Rows.{links_of}
use Rattle.mesh_rules.specs.Holds.{half_edge_holds}
use Rattle.mesh_rules.proofs.Ranges.{all-in_range}
use Rattle.mesh_rules.proofs.half_edges_hold.Goals as goal

pub returns : goal.returns
returns c = λ o a.
    let C = c.args.counts in let holds = half_edge_holds c.args.counts (links_of o c.args.halves.now a) in
    all_from_yields_List holds _ _ _ c.all.ensures.ran (YieldsList-from_range 0 (2 * C.edges) _ refl refl) (λ x b q k. search (rules, tests))
    ∙ all-in_range holds holds 0 (2 * C.edges) (λ i u. absurd (omega arith)) (λ i l. refl)
