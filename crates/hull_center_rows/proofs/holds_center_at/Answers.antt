-- `hull_center_rows::holds_center_at` meets its contract. Assumes nothing.
use mathlib.Core.Bool.{false≢true}
use mathlib.Core.Path.{sym, ◌∙◌}
use Rattle.hull_center_rows.specs.Holding.{corners-in, p-range, q-range, r-range, holds-not-a, holds-not-b, holds-c}
use Rattle.hull_center_rows.proofs.holds_center_at.Goals as goal
use Rattle.hull_center_rows.proofs.holds_center_at.Goals.{then-is_center_left, else-is_center_left}

pub corners_of-k-requires : goal.corners_of-k-requires
corners_of-k-requires c = corners-in c.requires.0

pub is_center_left-requires : goal.is_center_left-requires
is_center_left-requires c =
    (p-range c.requires.0 c.corners_of-k.ensures, q-range c.requires.0 c.corners_of-k.ensures, c.requires.1)

pub is_center_left-requires-then-is_center_left : goal.is_center_left-requires-then-is_center_left
is_center_left-requires-then-is_center_left c =
    (q-range c.requires.0 c.corners_of-k.ensures, r-range c.requires.0 c.corners_of-k.ensures, c.requires.1)

pub is_center_left-requires-then-is_center_left-2 : goal.is_center_left-requires-then-is_center_left-2
is_center_left-requires-then-is_center_left-2 c =
    (r-range c.requires.0 c.corners_of-k.ensures, p-range c.requires.0 c.corners_of-k.ensures, c.requires.1)

-- all three are passed; were the first not, the second would not be asked
pub returns-then-is_center_left-2 : goal.returns-then-is_center_left-2
returns-then-is_center_left-2 c =
    elim c.if-is_center_left.branch [
      | then-is_center_left w ↦
          holds-c c.requires.0 c.corners_of-k.ensures _ c.is_center_left.ensures w.if-is_center_left.true
          w.is_center_left-then-is_center_left.ensures (sym w.value-is ∙ c.if-is_center_left-2.true) c.is_center_left-then-is_center_left-2.ensures
      | else-is_center_left w ↦ absurd (false≢true (sym w.if-is_center_left.false ∙ sym w.value-is ∙ c.if-is_center_left-2.true))
    ]

pub returns-else-is_center_left-2 : goal.returns-else-is_center_left-2
returns-else-is_center_left-2 c o s =
    c.if-is_center_left-2.false
    ∙ elim c.if-is_center_left.branch [
      | then-is_center_left w ↦
          holds-not-b c.requires.0 c.corners_of-k.ensures _ c.is_center_left.ensures w.if-is_center_left.true
          w.is_center_left-then-is_center_left.ensures (sym w.value-is ∙ c.if-is_center_left-2.false) o s
      | else-is_center_left w ↦ holds-not-a c.requires.0 c.corners_of-k.ensures _ c.is_center_left.ensures w.if-is_center_left.false o s
    ]
