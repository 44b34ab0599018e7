-- `insertion_operations::insert_into_triangle` meets its contract. Assumes nothing.
use native.Mathlib.Omega.{arith}
use mathlib.Core.Path.{refl}
use Rattle.insertion_operations.proofs.Stored.{there-first, there-second, there-third, into-triangle}
use Rattle.insertion_operations.proofs.insert_into_triangle.Goals as goal

pub next-e2-requires : goal.next-e2-requires
next-e2-requires c = there-second c.requires c.adjacent-e0.ensures c.next-e1.ensures

pub origin-v1-requires : goal.origin-v1-requires
origin-v1-requires c = there-second c.requires c.adjacent-e0.ensures c.next-e1.ensures

pub origin-v2-requires : goal.origin-v2-requires
origin-v2-requires c = there-third c.requires c.adjacent-e0.ensures c.next-e1.ensures c.next-e2.ensures

pub triangle_links-requires : goal.triangle_links-requires
triangle_links-requires c =
    let R = c.requires in let p = c.adjacent-e0.ensures in let q = c.next-e1.ensures in
    (R.edges, omega (arith, R.faces), there-first R p, there-second R p q, there-third R p q c.next-e2.ensures)

pub store-requires-2 : goal.store-requires-2
store-requires-2 c = omega (arith, c.requires)

pub returns : goal.returns
returns c =
    record {
      links = into-triangle _ _ _ _ _ _ _ _ _ _ _ _ _ _ _ _ c.adjacent-e0.ensures c.next-e1.ensures c.next-e2.ensures c.origin-v0.ensures c.origin-v1.ensures c.origin-v2.ensures
          c.triangle_links.ensures c.triangle_edges.ensures c.store.ensures c.store-2.ensures c.store-3.ensures;
      result = refl;
    }
