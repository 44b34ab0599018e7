-- `legalize::legalize_entries` meets its contract. The loop's invariant: to go on from here is to go on from the start. The measure is
-- 4 · height sum and the entries left. Assumes nothing.
use Rattle.std.proofs.Common.{◌≡◌, ◌<◌, ◌≤◌, ℕ, Bool, false, true, eqb, refl, sym, ◌∙◌, arith, eqb-true}
use Rattle.std.proofs.lemmas.Bool.{eqb-false}
use Rattle.legalize.proofs.Looping as at
use Rattle.legalize.proofs.legalize_entries.Goals as goal

some-left : {n : ℕ} {b : Bool} → b ≡ eqb n 0 → b ≡ false → 0 < n
some-left {n} e f = let d = eqb-false n 0 (sym e ∙ f) in omega arith

none-left : {n : ℕ} {b : Bool} → b ≡ eqb n 0 → b ≡ true → n ≤ 0
none-left {n} e f = let d = eqb-true n 0 (sym e ∙ f) in omega arith

pub returns-in_default : goal.returns-in_default
returns-in_default g c =
    let t = c.turn.auto in
    at.loop-refused c.loop-counts.invariant (some-left c.is_empty.ensures c.loop-counts-test.true) c.in_default.ensures
    (record { outs = t.outs; halves = t.halves; faces = t.faces; pending = t.pending }) refl

pub loop-counts-smaller : goal.loop-counts-smaller
loop-counts-smaller g c =
    let t = c.turn.auto in
    at.loop-less c.loop-counts.invariant (some-left c.is_empty.ensures c.loop-counts-test.true) c.in-Some.ensures
    (record { outs = t.outs; halves = t.halves; faces = t.faces; pending = t.pending }) refl

pub loop-counts-preserved : goal.loop-counts-preserved
loop-counts-preserved g c =
    let t = c.turn.auto in
    at.loop-on c.loop-counts.invariant (some-left c.is_empty.ensures c.loop-counts-test.true) c.in-Some.ensures
    (record { outs = t.outs; halves = t.halves; faces = t.faces; pending = t.pending }) refl

pub returns : goal.returns
returns g c = at.loop-ends c.loop-counts.invariant (none-left c.is_empty.ensures c.loop-counts-test.false)
