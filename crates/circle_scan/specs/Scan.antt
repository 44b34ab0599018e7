-- What a scan for edges that break the circle rule asks of the rows, and what it answers. Definitions only.
use Rattle.std.specs.Prelude.{false, List, ◌≡◌, ℕ, ◌+◌, ◌*◌, ◌-◌, ◌<◌, ◌≤◌, ◌^◌, ℤ, length}
use Rattle.circle_test.specs.GoodRows.{Corner}
use Rattle.dcel.specs.Rows.{halves_of, row_of, links_of, position_of, There}
use Rattle.mesh.specs.Circle.{breaks_circle}

-- n edges and all that their circle tests read are in the rows
pub record ScanReady (q : List ℤ) (h : List ℕ) (n : ℕ) : Type 0 where
  pub small : 2 * n < 2 ^ 32
  pub corner : {e : ℕ} → e < 2 * n → Corner q h e

-- n half-edges from e on and their prevs are in the row
pub record FarsReady (h : List ℕ) (e n : ℕ) : Type 0 where
  pub small : e + n < 2 ^ 32
  pub here : {k : ℕ} → k < n → There h (e + k)
  pub prev : {k : ℕ} → k < n → There h ((halves_of h).prev (e + k))

-- 01: "A far vertex is the origin of prev": those of n half-edges from e on
pub record FarsRead (h : List ℕ) (e n : ℕ) (fars : List ℕ) : Type 0 where
  pub each : {k : ℕ} → k < n → row_of fars k ≡ (halves_of h).origin ((halves_of h).prev (e + k))

-- the edges from u up to `end` are in the rows, and their far vertices have been read
pub record BlockReady (q : List ℤ) (h fars : List ℕ) (u end : ℕ) : Type 0 where
  pub order : u ≤ end
  pub room : 2 * (end - u) ≤ length fars
  pub ready : ScanReady q h end
  pub read : FarsRead h (2 * u) (2 * (end - u)) fars

-- from u up to r, which is at most n, no edge breaks the rule
pub record Unbroken (q : List ℤ) (h : List ℕ) (u n r : ℕ) : Type 0 where
  pub low : u ≤ r
  pub high : r ≤ n
  pub keeps : {v : ℕ} → u ≤ v → v < r → (o a : List ℕ) → breaks_circle (links_of o h a) (position_of q) v ≡ false
