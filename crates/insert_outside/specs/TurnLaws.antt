-- The edge beside the current one, and the edge at which a turn makes its face. Assumes nothing.
use Rattle.std.specs.Prelude.{List, ◌≡◌, refl, ℕ}
use Rattle.apply.specs.Apply.{face_edge}
use Rattle.apply.specs.ApplyRows.{beside_in}
use Rattle.dcel.specs.Rows.{halves_of, links_of}
use Rattle.ring.specs.declared.Side.{Side}
use Rattle.ring.specs.declared.Side.TheVariants.{Left, Right}
use Rattle.ring.specs.Chain.{beside}

-- as the rows have it
pub beside-is : (side : Side) (o h a : List ℕ) (e : ℕ) → beside_in side (halves_of h) e ≡ beside side (links_of o h a) e
unfolding beside_in links_of
beside-is Left o h a e = refl
beside-is Right o h a e = refl

-- the edge that the face is made at, by the case of the match
pub face-left : {side : Side} (e : ℕ) {at d : ℕ} → side ≡ Left → at ≡ d → at ≡ face_edge side e d
unfolding face_edge
face-left e z y = rw z y

pub face-right : {side : Side} (d : ℕ) {at e : ℕ} → side ≡ Right → at ≡ e → at ≡ face_edge side e d
unfolding face_edge
face-right d z y = rw z y
