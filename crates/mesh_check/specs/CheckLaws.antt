-- Each row of the table, as it is met (`range-..`, `faces-..`), one after the other (`then-..`); only the positions of the counted
-- vertices matter (`check-agree`); and a mesh passes exactly when it is good and within the limits (`accepted-passes`,
-- `passes-accepted`); a refusal's number is from 1 to 5 (`check-numbered`). Assumes nothing.
use Rattle.std.proofs.Math.Path.{◌≡◌}
use Rattle.std.proofs.Common.{Ok, Err}
use Rattle.std.specs.Prelude.{Bool, ℕ, ◌<◌, ◌≤◌}
use Rattle.std.proofs.Math.Bool.{false}
use Rattle.math.specs.declared.Point.{Point}
use Rattle.math.specs.Determinant.{InRange}
use Rattle.mesh.specs.declared.Counts.{Counts}
use Rattle.mesh.specs.Mesh.{Links}
use Rattle.mesh.specs.Area.{LeftTurning}
use Rattle.mesh.specs.Wf.{Wf}
use Rattle.mesh_check.specs.declared.Refusal.{Refusal}
use Rattle.mesh_check.specs.Checked.{Checked}

-- ---- the numbers of the table, which count from 1: a refusal has one from 1 to n
pub data NumberedTo (n : ℕ) : Checked → Type 0 where
  accepts : NumberedTo n (Ok tt)
  refuses : {r : Refusal} → 1 ≤ r.number → r.number ≤ n → NumberedTo n (Err r)

-- ---- a mesh passes exactly when it is good and within the limits
pub record Passes (n : ℕ) (short : Bool) (C : Counts) (L : Links) (p : ℕ → Point) : Type 0 where
  pub least : 3 ≤ n
  pub most : n ≤ 1000000
  pub long : short ≡ false
  pub range : {v : ℕ} → v < n → InRange (p v)
  pub wf : Wf C L
  pub turning : LeftTurning C L p

-- the first three rows let pass exactly what is within the limits
pub record InLimits (n : ℕ) (short : Bool) (p : ℕ → Point) : Type 0 where
  pub least : 3 ≤ n
  pub most : n ≤ 1000000
  pub long : short ≡ false
  pub range : {v : ℕ} → v < n → InRange (p v)
