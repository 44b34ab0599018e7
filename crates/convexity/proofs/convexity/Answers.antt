-- `convexity::convexity` meets its contract. The loop's invariant: to go on from here is to go on from the start. The measure is the boundary's length, and one for
-- the pass that adds no face. Assumes nothing.
use Rattle.std.proofs.Common.{◌≡◌, refl, true, false, ◌||◌, eqb, arith}
use Rattle.std.proofs.lemmas.Grind.{common_steps}
use Rattle.convexity.proofs.PassesLoop.{passes-begin, again-ready, passes_on, passes-less, passes-end}
use Rattle.convexity.proofs.convexity.Goals as goal

pub loop-now-init : goal.loop-now-init
loop-now-init c = passes-begin c.requires

pub fix_convexity-now-requires : goal.fix_convexity-now-requires
fix_convexity-now-requires c = again-ready c.loop-now.invariant refl

pub returns-then-now : goal.returns-then-now
returns-then-now c =
    let k = c.fix_convexity-now.auto in
    let r = c.fix_convexity-now.result in
    let still : true ≡ (r.full || eqb r.faces c.loop-now.now.faces) = grind (arith, common_steps) in
    passes-end (passes_on c.loop-now.invariant refl _ _ _ _ c.fix_convexity-now.ensures still
    (record { outs = k.outs; halves = k.halves; faces = k.faces; pending = k.pending })) refl

pub loop-now-smaller : goal.loop-now-smaller
loop-now-smaller c =
    let r = c.fix_convexity-now.result in
    let on : false ≡ (r.full || eqb r.faces c.loop-now.now.faces) = grind (arith, common_steps) in
    passes-less c.loop-now.invariant refl _ _ _ _ c.fix_convexity-now.ensures on

pub loop-now-preserved : goal.loop-now-preserved
loop-now-preserved c =
    let k = c.fix_convexity-now.auto in
    let r = c.fix_convexity-now.result in
    let on : false ≡ (r.full || eqb r.faces c.loop-now.now.faces) = grind (arith, common_steps) in
    passes_on c.loop-now.invariant refl _ _ _ _ c.fix_convexity-now.ensures on
    (record { outs = k.outs; halves = k.halves; faces = k.faces; pending = k.pending })
