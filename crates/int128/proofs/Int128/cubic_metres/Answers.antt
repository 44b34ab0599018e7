-- `int128::Int128::cubic_metres` meets its contract. Assumes nothing.
use Rattle.std.specs.Prelude.{◌≡◌, true, false, pos, int_lt, unsigned_abs}
use Rattle.std.proofs.Common.{ap, ◌∙◌, rules}
use Rattle.int128.specs.CubicMetres.{half_to_even, cubic_metres_of}
use Rattle.int128.specs.Int128.{int128_of, with_sign}
use Rattle.int128.proofs.Signs.{read_pos, minus-read, sign_below, sign-not}
use Rattle.int128.proofs.Int128.cubic_metres.Goals as goal

pub returns-then-six-lt0 : goal.returns-then-six-lt0
unfolding cubic_metres_of
returns-then-six-lt0 c =
    let z = int128_of c.args.self in
    let n = c.whole_metres-metres in
    let size : c.unsigned_abs.result ≡ unsigned_abs z = search rules in
    let below : int_lt z (pos 0) ≡ true = search rules in
    minus-read n.result n.ensures.small ∙ sign_below z (pos n.result) below
    ∙ ap (λ m. with_sign z (pos m)) (n.ensures.value ∙ ap half_to_even size)

pub returns-else-six-lt0 : goal.returns-else-six-lt0
unfolding cubic_metres_of
returns-else-six-lt0 c =
    let z = int128_of c.args.self in
    let n = c.whole_metres-metres in
    let size : c.unsigned_abs.result ≡ unsigned_abs z = search rules in
    let not_below : int_lt z (pos 0) ≡ false = search rules in
    read_pos n.result n.ensures.small ∙ sign-not z (pos n.result) not_below
    ∙ ap (λ m. with_sign z (pos m)) (n.ensures.value ∙ ap half_to_even size)
