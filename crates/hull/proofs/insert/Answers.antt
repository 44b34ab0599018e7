-- `hull::insert` meets its contract. Assumes nothing.
use Rattle.hull.proofs.Entering.{entering-insert, entering-adjust, entering-held}
use Rattle.hull.proofs.insert.Goals as goal

pub insert-entered-requires : goal.insert-entered-requires
insert-entered-requires c = entering-insert c.requires.enters

pub adjust_bucket_size_if_necessary-requires : goal.adjust_bucket_size_if_necessary-requires
adjust_bucket_size_if_necessary-requires c =
    entering-adjust c.requires.enters c.insert-entered.ensures c.insert-entered.auto.nodes c.insert-entered.auto.freed c.insert-entered.auto.buckets

pub returns : goal.returns
returns c C L α C' L' α'' e m n q r N E =
    entering-held E c.insert-entered.ensures c.insert-entered.auto.nodes c.insert-entered.auto.freed c.insert-entered.auto.buckets
    c.adjust_bucket_size_if_necessary.ensures c.adjust_bucket_size_if_necessary.auto.buckets
