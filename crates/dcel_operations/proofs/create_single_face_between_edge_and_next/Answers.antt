-- `dcel_operations::create_single_face_between_edge_and_next` meets its contract. Assumes nothing.
use native.Mathlib.Omega.{arith}
use mathlib.Core.Path.{refl}
use Rattle.dcel_operations.proofs.Stored.{after-there, single-face}
use Rattle.dcel_operations.proofs.create_single_face_between_edge_and_next.Goals as goal

pub to-io-requires : goal.to-io-requires
to-io-requires c =
    rw c.half_edge-entry.ensures.next c.requires.back

pub single_links-requires : goal.single_links-requires
single_links-requires c =
    omega (arith, c.single_marks.auto.halves, c.half_edge-entry.ensures, c.requires, after-there c.requires c.half_edge-entry.ensures c.next-q.ensures)

pub store-requires-2 : goal.store-requires-2
store-requires-2 c = omega (arith, c.store.auto.row, c.requires)

pub returns : goal.returns
returns c =
    let e = c.half_edge-entry.ensures in
    record {
      links = λ o. single-face _ _ o _ _ _ _ _ _ e c.next-q.ensures c.to-io.ensures c.single_marks.ensures c.single_links.ensures c.store.ensures c.store-2.ensures;
      result = refl;
    }
