-- `mesh_rules::orbit_length` meets its contract: turning about a vertex can be undone. Assumes nothing.
use Rattle.std.proofs.Common.{rules}
use Rattle.dcel.specs.Rows.{halves_of, links_of}
use Rattle.sums.specs.Half.{rev}
use Rattle.mesh_rules.proofs.Passed.{turn-permutes}
use Rattle.mesh_rules.proofs.orbit_length.Goals as goal

pub walk_length-requires-clause-permutes : goal.walk_length-requires-clause-permutes
unfolding links_of
walk_length-requires-clause-permutes c =
    let H = halves_of c.args.halves.now in
    (λ e. rev (H.prev e), λ e. H.next (rev e), turn-permutes c.requires.0, λ e r l q. search rules)

pub returns : goal.returns
unfolding links_of
returns c = λ o s.
    let H = halves_of c.args.halves.now in
    c.walk_length.ensures (λ e. rev (H.prev e)) (λ e. H.next (rev e)) (turn-permutes c.requires.0) (λ e r l q. search rules)
