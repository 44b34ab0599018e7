-- What a segment holds, on floats and on whole numbers of 2 ^ -53. Definitions only.
use Rattle.std.specs.Prelude.{ℕ, Bool, if◌then◌else◌, ◌&&◌, ◌||◌, ltb, leb, Float}
use Rattle.std.specs.Float.Ieee.{lt, le}
use Rattle.angle.specs.Angle.{IsAngle, turns}
use Rattle.segment.specs.declared.Segment.{Segment}
use Rattle.segment.specs.declared.Segment.TheVariants.{Plain, Wrapping}

-- 01: "A segment is either plain or wrapping, and carries its two angles": it wraps where its second is less than its first
abbrev pub segment_of : Float → Float → Segment
segment_of s e = if ltb (turns s) (turns e) then Plain s e else Wrapping s e

-- both are angles
abbrev pub EndsAreAngles : Segment → Type 0
EndsAreAngles (Plain s e) = IsAngle s × IsAngle e
EndsAreAngles (Wrapping s e) = IsAngle s × IsAngle e

-- 01: "it holds its first and not its second"
abbrev pub contains_angle : Segment → Float → Bool
contains_angle (Plain s e) a = le s a && lt a e
contains_angle (Wrapping s e) a = le s a || lt a e

-- the same of a valid angle that is k times 2 ^ -53 rounded down
abbrev pub contains_turns : Segment → ℕ → Bool
contains_turns (Plain s e) k = leb (turns s) k && ltb k (turns e)
contains_turns (Wrapping s e) k = leb (turns s) k || ltb k (turns e)
