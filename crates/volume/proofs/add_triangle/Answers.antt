-- `volume::add_triangle` meets its contract. Assumes nothing.
use Rattle.volume.proofs.Sums.{area-casts, low-asked, middle-asked, high-asked, one-added}
use Rattle.volume.proofs.add_triangle.Goals as goal

pub overflow_cast-a : goal.overflow_cast-a
overflow_cast-a c = area-casts c.requires.1

pub add_product-requires : goal.add_product-requires
add_product-requires c = let p = c.requires in low-asked p.1 p.0

pub add_product-requires-2 : goal.add_product-requires-2
add_product-requires-2 c = let p = c.requires in middle-asked p.1 p.0

pub add_product-requires-3 : goal.add_product-requires-3
add_product-requires-3 c = let p = c.requires in high-asked p.1 p.0

pub returns : goal.returns
returns c =
    let p = c.requires in
    let x = c.add_product in
    let y = c.add_product-2 in
    let z = c.add_product-3 in
    one-added p.1 p.0 (record { sfits = x.type_inv }) (record { sfits = y.type_inv }) (record { sfits = z.type_inv })
    x.ensures y.ensures z.ensures
