-- `mesh_rules::cycle_length` meets its contract: next and prev undo each other. Assumes nothing.
use Rattle.std.proofs.Common.{rules}
use Rattle.dcel.specs.Rows.{halves_of, links_of}
use Rattle.mesh_rules.proofs.Passed.{next-permutes}
use Rattle.mesh_rules.proofs.cycle_length.Goals as goal

pub walk_length-requires-clause-permutes : goal.walk_length-requires-clause-permutes
walk_length-requires-clause-permutes c =
    ((halves_of c.args.halves.now).next, (halves_of c.args.halves.now).prev, next-permutes c.requires.0, λ e r l q. search rules)

pub returns : goal.returns
unfolding links_of
returns c = λ o s. c.walk_length.ensures (halves_of c.args.halves.now).next (halves_of c.args.halves.now).prev (next-permutes c.requires.0) (λ e r l q. search rules)
