-- `apply_rows::face_edge` meets its contract. Assumes nothing.
use Rattle.std.proofs.Common.{refl}
use Rattle.apply_rows.proofs.TurnRows.{face-left, face-right}
use Rattle.apply_rows.proofs.face_edge.Goals as goal

pub returns-in-Left : goal.returns-in-Left
returns-in-Left c = face-left _ c.in-Left.is refl

pub returns-in-Right : goal.returns-in-Right
returns-in-Right c = face-right _ c.in-Right.is refl
