-- `int128::Int128::number` meets its contract. Assumes nothing.
use Rattle.std.specs.Prelude.{◌≡◌, ◌+◌, ◌*◌, ◌^◌}
use Rattle.std.specs.Int.{w128}
use Rattle.std.proofs.Common.{sym, ◌∙◌, arith, rules, to_z}
use Rattle.std.proofs.lemmas.Int.{to_z-of_z}
use Rattle.int128.proofs.Int128LawsFacts.{as_read}
use Rattle.int128.proofs.Int128.number.Goals as goal

pub returns : goal.returns
returns c =
    let self = c.args.self in
    let is : c.cast_signed.result ≡ to_z w128 (self.high * 2 ^ 64 + self.low) = search rules in
    to_z-of_z w128 c.cast_signed.result (search rules) ∙ is ∙ sym (as_read self.high self.low (omega arith) (omega arith))
