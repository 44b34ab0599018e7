-- `mesh_rules::vertices_hold` meets its contract. Assumes nothing.
use Rattle.std.proofs.Common.{[], sym, ◌∙◌, arith}
use Rattle.sums.proofs.BitLaws.{from-true}
use Rattle.sums.proofs.OrbitsLaws.{orbit-total-zero}
use Rattle.mesh_rules.proofs.Passed.{passed_none, passed-more, stopped}
use Rattle.mesh_rules.proofs.Tests.{vertex-in, orbit-more, vertices-fail, vertices-all}
use Rattle.mesh_rules.proofs.vertices_hold.Goals as goal

pub loop-v-init : goal.loop-v-init
loop-v-init c = (omega arith, λ a. (passed_none _, sym (orbit-total-zero _ _ _)))

pub returns-then-not-vertex_holds : goal.returns-then-not-vertex_holds
returns-then-not-vertex_holds c = λ a. vertices-fail _ _ (stopped _ _ _ (omega arith) (sym c.if-not-vertex_holds.true ∙ c.vertex_holds.ensures a))

pub orbit_length-requires : goal.orbit_length-requires
orbit_length-requires c = (c.requires.0, vertex-in _ _ _ _ _ c.out.ensures (from-true (sym (c.vertex_holds.ensures []) ∙ c.if-not-vertex_holds.false)))

pub overflow_add-total : goal.overflow_add-total
overflow_add-total c = let r = c.orbit_length.type_inv in omega arith

pub loop-v-preserved : goal.loop-v-preserved
loop-v-preserved c = (
  (let r = c.orbit_length.type_inv in omega arith),
  λ a. (
    passed-more _ _ (c.loop-v.invariant.1 a).0 (from-true (sym (c.vertex_holds.ensures a) ∙ c.if-not-vertex_holds.false)),
    orbit-more c.args.counts _ _ a _ c.out.ensures (c.loop-v.invariant.1 a).1 (c.orbit_length.ensures _ a),
  ),
)

pub returns : goal.returns
returns c = λ a. vertices-all _ _ (omega arith) (c.loop-v.invariant.1 a).0 (c.loop-v.invariant.1 a).1
