-- `int128::whole_metres` meets its contract, by the two cases of the rounding: `six` is an exact half where the half ones are odd and nothing is
-- left over of them. Assumes nothing.
use Rattle.std.proofs.Common.{sym, ◌∙◌, arith}
use Rattle.int128.proofs.CubicMetresLawsFacts.{exact-half, no-half}
use Rattle.int128.proofs.whole_metres.Goals.{else-rest-eq0-via-then-rest-eq0+else-halves-eq1, else-rest-eq0-via-else-rest-eq0}
use Rattle.int128.proofs.whole_metres.Goals as goal

pub returns-then-halves-eq1-clause-value : goal.returns-then-halves-eq1-clause-value
returns-then-halves-eq1-clause-value c =
    let is = c.half_metres-halves.ensures in
    let odd = c.if-halves-eq1.true in
    let none = c.if-rest-eq0.true in
    omega arith ∙ sym (exact-half c.args.six (omega arith))

pub returns-else-rest-eq0-clause-value : goal.returns-else-rest-eq0-clause-value
returns-else-rest-eq0-clause-value c =
    let is = c.half_metres-halves.ensures in
    elim c.else-rest-eq0.branch [
      | else-rest-eq0-via-then-rest-eq0+else-halves-eq1 w ↦
          let even = w.if-halves-eq1.false in
          omega arith ∙ sym (no-half c.args.six (λ e. absurd (omega arith)))
      | else-rest-eq0-via-else-rest-eq0 w ↦
          let left = w.if-rest-eq0.false in
          omega arith ∙ sym (no-half c.args.six (λ e. absurd (omega arith)))
    ]
