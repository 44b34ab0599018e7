-- `circle_scan::unbroken` meets its contract. Assumes nothing.
use Prim.Native.Nat.{◌-◌}
use native.Mathlib.Omega.{arith}
use Rattle.circle_scan.specs.ScanLaws.{fars-ready, unbroken-none}
use Rattle.circle_scan.proofs.unbroken.Goals as goal

pub returns-then-u-ne0 : goal.returns-then-u-ne0
returns-then-u-ne0 c = unbroken-none c.requires.1

pub read_fars-requires : goal.read_fars-requires
read_fars-requires c =
    let b = c.block_end-end in
    (fars-ready c.requires.0 c.args.u (b.result - c.args.u) (omega (arith, b.ensures.0, b.ensures.1)), omega (arith, b.ensures.2))

pub returns-then-not-are_read : goal.returns-then-not-are_read
returns-then-not-are_read c = unbroken-none c.requires.1
