use Rattle.std.proofs.Common.{subst, arith, OnOk}
use Rattle.std.specs.Io.KnownBytes.{Appends}
use Rattle.listing.proofs.Written.{written}
use Rattle.listing.proofs.write_listing.Goals as goal

pub returns : goal.returns
returns g c =
    let s = c.list-end.ensures.short in
    subst (λ bytes. OnOk c.write_all.result (Appends (g.W.Write.contents c.args.to.now) (g.W.Write.contents c.write_all.new.self) bytes))
    (written c.list-end.ensures.is (omega arith))
    c.write_all.ensures.bytes
