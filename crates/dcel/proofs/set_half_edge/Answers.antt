-- `dcel::set_half_edge` meets its contract. Assumes nothing.
use Rattle.dcel.proofs.set_half_edge.Goals as goal

pub returns : goal.returns
returns c =
    rw (c.set_origin.ensures, c.set_face.ensures, c.set_prev.ensures, c.set_next.ensures)
