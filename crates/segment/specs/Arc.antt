-- Arcs of a circle of N places, from a up to and without b, past N back at 0 where b is less than a: what one holds,
-- and how long it is. Definitions only; N is 2 ^ 53 for angles.
use Rattle.std.specs.Prelude.{ℕ, ◌+◌, ◌-◌, ◌*◌, Bool, false, cond, ◌&&◌, ◌||◌, ltb, leb}

-- the arc from a to b holds x; an arc from a to a holds nothing
unfoldable pub holds : ℕ → ℕ → ℕ → Bool
holds x a b = cond (ltb a b) (leb a x && ltb x b) (cond (ltb b a) (leb a x || ltb x b) false)

-- 01: "each gap (second minus first, plus 1 where it wraps)"
unfoldable pub gap : ℕ → ℕ → ℕ → ℕ
gap N a b = cond (ltb b a) (b + N - a) (b - a)

-- it is not "at most 3/4"
unfoldable pub wide : ℕ → ℕ → ℕ → Bool
wide N a b = ltb (3 * N) (4 * gap N a b)
