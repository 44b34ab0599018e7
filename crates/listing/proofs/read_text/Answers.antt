use Rattle.std.proofs.Common.{List, ℕ, length, set, ◌<◌, ◌≤◌, arith, ap, ◌∙◌}
use Rattle.listing.proofs.Cuts.{whole, cut_off, known_cut}
use Rattle.listing.proofs.read_text.Goals.{then-len-gt-ROOM, else-len-gt-ROOM}
use Rattle.listing.proofs.read_text.Goals as goal

pub returns : goal.returns
returns g c =
    let read = c.read_to_end.new.buf in
    let n = read.ok.0 in
    let m = c.len.ensures in
    known_cut 65536 (g.R.Read.remaining c.args.from)
    (rw (c.take.ensures.limit, c.take.ensures.inner, c.new-text.ensures.items) at c.in_ok-read_to_end.ensures.bytes)
    (λ bytes is. elim c.if-len-gt-ROOM.branch [
      | then-len-gt-ROOM w ↦
          let long : 65536 < length read.items = let l = w.if-len-gt-ROOM.true in omega arith in
          ap (λ v. v.items) w.text-is ∙ ap (λ (xs : List ℕ). set xs 65536 0) is ∙ cut_off 65536 bytes (rw is at long)
      | else-len-gt-ROOM w ↦
          let short : length read.items ≤ 65536 = let l = w.if-len-gt-ROOM.false in omega arith in
          ap (λ v. v.items) w.text-is ∙ is ∙ whole 65536 bytes (rw is at short)
    ])
