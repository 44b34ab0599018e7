-- `convexity::fix_convexity` meets its contract. The loop's invariant: to go on from here, with the turns that are left, is to go on from the start. Assumes nothing.
use Rattle.std.proofs.Common.{◌≡◌, refl, ◌*◌, ◌-◌, ◌<◌, ℕ, Bool, true, false, ◌||◌, eqb, arith, eq-eqb, ne_eqb}
use Rattle.convexity.proofs.OuterLoop.{pass-at, outer-there, turns_fit, pass-starts, next-there, depth-fits, walk-ready, pass_on, pass-end}
use Rattle.convexity.proofs.fix_convexity.Goals as goal

-- the loop's tests, as one: there are turns left and no flip was refused, or not
goes-on : (b : Bool) (i n : ℕ) → b ≡ false → i < n → false ≡ (b || eqb (n - i) 0)
goes-on b i n e l = rw (e, ne_eqb (n - i) 0 (omega arith))

ends-full : (b : Bool) (n : ℕ) → b ≡ true → true ≡ (b || eqb n 0)
ends-full b n e = rw e

either : (b : Bool) → true ≡ (b || true)
either true = refl
either false = refl

ends-last : (b : Bool) (n : ℕ) → n ≡ 0 → true ≡ (b || eqb n 0)
ends-last b n e = rw (eq-eqb n 0 e) (either b)

pub adjacent-current-requires : goal.adjacent-current-requires
adjacent-current-requires c = outer-there c.requires

pub overflow_mul-turns : goal.overflow_mul-turns
overflow_mul-turns c = record { fits = (turns_fit c.requires).0 }

pub overflow_sub-turns : goal.overflow_sub-turns
overflow_sub-turns c = (turns_fit c.requires).1

pub overflow_sub-turns-2 : goal.overflow_sub-turns-2
overflow_sub-turns-2 c = (turns_fit c.requires).2

pub loop-turn-init : goal.loop-turn-init
loop-turn-init c = pass-at (omega arith) (pass-starts c.requires c.adjacent-current.ensures)

pub returns-then-now : goal.returns-then-now
returns-then-now c = pass-end c.loop-turn.invariant (ends-full _ _ c.if-now.true) refl c.requires

pub next-current-requires : goal.next-current-requires
next-current-requires c = next-there c.loop-turn.invariant

pub overflow_add-depth : goal.overflow_add-depth
overflow_add-depth c = record { fits = depth-fits c.loop-turn.invariant }

pub close_all_behind-walked-requires : goal.close_all_behind-walked-requires
close_all_behind-walked-requires c =
    walk-ready c.loop-turn.invariant (goes-on _ _ _ c.if-now.false (omega arith)) refl c.next-current.ensures

pub loop-turn-preserved : goal.loop-turn-preserved
loop-turn-preserved c =
    let k = c.close_all_behind-walked.auto in
    pass-at (omega arith)
    (pass_on c.loop-turn.invariant (goes-on _ _ _ c.if-now.false (omega arith)) refl c.next-current.ensures _ _ _ _ _ c.close_all_behind-walked.ensures
    (record { outs = k.outs; halves = k.halves; faces = k.faces; pending = k.pending }))

pub shape_of-outs : goal.shape_of-outs
shape_of-outs c = c.loop-turn.invariant.lengths.outs

pub shape_of-halves : goal.shape_of-halves
shape_of-halves c = c.loop-turn.invariant.lengths.halves

pub shape_of-faces : goal.shape_of-faces
shape_of-faces c = c.loop-turn.invariant.lengths.faces

pub shape_of-pending : goal.shape_of-pending
shape_of-pending c = c.loop-turn.invariant.lengths.pending

pub returns : goal.returns
returns c =
    let n = c.args.added.counts in
    let last : 3 * n.vertices - 2 - n.edges - c.loop-turn.turn ≡ 0 = omega arith in
    pass-end c.loop-turn.invariant (ends-last _ _ last) refl c.requires
