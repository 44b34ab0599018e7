-- `legalize::turn` meets its contract: the edge keeps the rule, its flip is refused, or it is flipped. Assumes nothing.
use Rattle.std.proofs.Common.{refl, sym, ◌∙◌, ltb-true, ltb-false}
use Rattle.legalize.proofs.Popping.{pop-circle, pop-pushes, pop-flipped, pop_kept}
use Rattle.legalize.proofs.Turning.{pop-ready, count_fits, turn-keeps, turn-refuses, turn-flip-ready, turn-flips}
use Rattle.legalize.proofs.turn.Goals as goal

pub pop-entry-requires : goal.pop-entry-requires
pop-entry-requires g c = (pop-ready c.requires.0 c.requires.1).pending

pub should_flip-requires : goal.should_flip-requires
should_flip-requires g c = let R = pop-ready c.requires.0 c.requires.1 in pop-circle R c.pop-entry.ensures c.edge-edge.ensures

pub returns-then-not-should_flip : goal.returns-then-not-should_flip
returns-then-not-should_flip g c =
    let R = pop-ready c.requires.0 c.requires.1 in
    turn-keeps c.requires.0 c.requires.1 (pop_kept R c.pop-entry.ensures c.edge-edge.ensures c.should_flip.ensures c.if-not-should_flip.true) c.pop-entry.auto.pending refl

pub push-pushed-requires : goal.push-pushed-requires
push-pushed-requires g c = let R = pop-ready c.requires.0 c.requires.1 in pop-pushes R c.pop-entry.ensures c.edge-edge.ensures

pub returns-then-is_over : goal.returns-then-is_over
returns-then-is_over g c =
    let R = pop-ready c.requires.0 c.requires.1 in
    turn-refuses c.requires.0 c.requires.1
    (pop-flipped R c.pop-entry.ensures c.edge-edge.ensures c.should_flip.ensures c.if-not-should_flip.false c.push-pushed.ensures)
    (c.push-pushed.auto.pending ∙ c.pop-entry.auto.pending) refl (ltb-true _ _ (sym c.is_over.ensures ∙ c.if-is_over.true))

pub flip_cw-requires : goal.flip_cw-requires
flip_cw-requires g c =
    let R = pop-ready c.requires.0 c.requires.1 in
    turn-flip-ready c.requires.0 c.requires.1
    (pop-flipped R c.pop-entry.ensures c.edge-edge.ensures c.should_flip.ensures c.if-not-should_flip.false c.push-pushed.ensures)
    (c.push-pushed.auto.pending ∙ c.pop-entry.auto.pending) refl

pub overflow_add-result : goal.overflow_add-result
overflow_add-result g c = record { fits = count_fits c.requires.0 c.requires.1 }

pub returns : goal.returns
returns g c =
    let R = pop-ready c.requires.0 c.requires.1 in
    turn-flips c.requires.0 c.requires.1
    (pop-flipped R c.pop-entry.ensures c.edge-edge.ensures c.should_flip.ensures c.if-not-should_flip.false c.push-pushed.ensures)
    (c.push-pushed.auto.pending ∙ c.pop-entry.auto.pending) refl
    (ltb-false _ _ (sym c.is_over.ensures ∙ c.if-is_over.false)) c.flip_cw.ensures
