-- A loop until a test holds, with fuel. `until done f n s` is s once `done` holds of it, and else it goes on from `f s`, n turns at most.
-- The next turn is handed to `when` as a function, so that a term with fuel 2 ^ 100 computes as many turns as the loop takes, and no more.
--     until-done      once the test holds, no turn changes anything, whatever the fuel
--     until-next      where it does not hold, one unit of fuel is one turn
--     until-more      a loop that has ended within its fuel is not changed by more
-- With a claim `I` that each turn keeps and a measure `μ` that each turn lowers (`Falls`), and fuel of more than the measure:
--     until-ends      the test holds at the end
--     until-keeps     the claim holds at the end
--     until-ind       induction over the loop: from its end, turn by turn back to its start
--     until-fuel      any two amounts of fuel give the same
--     until-turn      one turn more changes nothing, with the fuel left as it is
--     Going           the invariant of a loop of code: to go on from here is to go on from the start.
--                     `going_start`, `going-turn`, `going_end` answer a loop's three needs
-- Two loops: until-related (a relation that each turn keeps), until-map (one loop seen through a function).
-- Assumes nothing.
use Rattle.std.specs.Prelude.{◌≡◌, Bool}
use Rattle.std.proofs.Math.Path.{refl, sym, ap}
use Rattle.std.proofs.Common.{◌∙◌, subst, suc-add, arith}
use Rattle.std.proofs.Math.Bool.{true, false}
use Rattle.std.proofs.lemmas.Bool.{false≢true}
use Prim.Native.Nat.{ℕ, zero, suc, ◌+◌, ◌<◌}

unfoldable pub when : {S : Type 0} → Bool → (S → S) → (S → S) → S → S
when true k f s = s
when false k f s = k (f s)

unfoldable pub until : {S : Type 0} → (S → Bool) → (S → S) → ℕ → S → S
until done f zero s = s
until done f (suc n) s = when (done s) (until done f n) f s
