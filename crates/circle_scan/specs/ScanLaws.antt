-- Laws of the scan: the row of far vertices, and the edges of a block one after the other. Assumes nothing.
use Rattle.std.specs.Prelude.{Bool, false, List, ◌≡◌, refl, ℕ, ◌+◌, ◌*◌, ◌-◌, ◌<◌, ◌≤◌, ℤ, length, get_or, set}
use Rattle.std.proofs.Common.{sym, ◌∙◌, arith, get_or-set_same}
use Rattle.std.proofs.Math.Path.{ap}
use Rattle.std.proofs.Math.Decide.{ℕ_discrete}
use Rattle.std.proofs.Math.ListN.{length-set}
use Rattle.std.proofs.Math.Seq.{get_or-set_other}
use Rattle.circle_test.specs.GoodRows.{GoodRows, CircleReady, corner}
use Rattle.dcel.specs.Rows.{halves_of, row_of, links_of, position_of}
use Rattle.mesh.specs.declared.Counts.{Counts}
use Rattle.mesh.specs.Circle.{breaks_circle}
use Rattle.circle_scan.specs.Scan.{ScanReady, FarsReady, FarsRead, BlockReady, Unbroken}

-- ---- the far vertices
-- the first k of n have been read, into a row that was `fars₀`
pub record Reading (h : List ℕ) (e n : ℕ) (fars₀ fars : List ℕ) (k : ℕ) : Type 0 where
  pub each : {j : ℕ} → j < k → row_of fars j ≡ (halves_of h).origin ((halves_of h).prev (e + j))
  pub within : k ≤ n
  pub room : n ≤ length fars
  pub same : length fars ≡ length fars₀

pub reading-starts : {h : List ℕ} {e n : ℕ} {fars : List ℕ} → n ≤ length fars → Reading h e n fars fars 0
reading-starts l = record { each = λ m. absurd (omega arith); within = omega arith; room = l; same = refl }

module _ {h : List ℕ} {e n : ℕ} {fars₀ fars : List ℕ} {k : ℕ} (R : Reading h e n fars₀ fars k) where
  pub reading-on : {p v : ℕ} → k < n → p ≡ (halves_of h).prev (e + k) → v ≡ (halves_of h).origin p → Reading h e n fars₀ (set fars k v) (k + 1)
  unfolding row_of
  reading-on {p} {v} l a b = record {
    each = λ {j} m. at j m (ℕ_discrete j k);
    within = omega arith;
    room = let r = R.room in let s = length-set fars k v in omega arith;
    same = length-set fars k v ∙ R.same;
  }
    where
      at : (j : ℕ) → j < k + 1 → Dec (j ≡ k) → row_of (set fars k v) j ≡ (halves_of h).origin ((halves_of h).prev (e + j))
      at j m (yes x) = rw x (get_or-set_same fars k v 0 (let r = R.room in omega arith) ∙ b ∙ ap (halves_of h).origin a)
      at j m (no d) = get_or-set_other fars k j v 0 d ∙ R.each (omega arith)

  pub reading-ends : n ≤ k → FarsRead h e n fars
  reading-ends l = record { each = λ m. R.each (omega arith) }

-- those of edge v, in a block that starts with edge u
module _ {q : List ℤ} {h fars : List ℕ} {u end v : ℕ} (B : BlockReady q h fars u end) (l : u ≤ v) (m : v < end) where
  pub far-e : get_or fars (2 * (v - u)) 0 ≡ (halves_of h).origin ((halves_of h).prev (2 * v))
  unfolding row_of
  far-e = B.read.each (omega arith) ∙ ap (λ (x : ℕ). (halves_of h).origin ((halves_of h).prev x)) (omega arith)

  pub far-t : get_or fars (2 * (v - u) + 1) 0 ≡ (halves_of h).origin ((halves_of h).prev (2 * v + 1))
  unfolding row_of
  far-t = B.read.each (omega arith) ∙ ap (λ (x : ℕ). (halves_of h).origin ((halves_of h).prev x)) (omega arith)

-- ---- the edges
pub scan-ready : {C : Counts} {q : List ℤ} {o h a : List ℕ} → GoodRows C q o h a → ScanReady q h C.edges
scan-ready R = record { small = let s = R.room.small in omega arith; corner = corner R }

module _ {q : List ℤ} {h : List ℕ} {n : ℕ} (S : ScanReady q h n) where
  pub circle-of : {u : ℕ} → u < n → CircleReady q h u
  circle-of l = record { small = let s = S.small in omega arith; e = S.corner (omega arith); t = S.corner (omega arith) }

  -- those below n
  pub scan-part : {m : ℕ} → m ≤ n → ScanReady q h m
  scan-part l = record { small = let s = S.small in omega arith; corner = λ k. S.corner (omega arith) }

  pub fars-ready : (u m : ℕ) → u + m ≤ n → FarsReady h (2 * u) (2 * m)
  fars-ready u m k = record {
    small = let s = S.small in omega arith;
    here = λ {k = i} j. (S.corner {e = 2 * u + i} (omega arith)).here;
    prev = λ {k = i} j. (S.corner {e = 2 * u + i} (omega arith)).prev;
  }

pub unbroken-none : {q : List ℤ} {h : List ℕ} {u n : ℕ} → u ≤ n → Unbroken q h u n u
unbroken-none l = record { low = omega arith; high = l; keeps = λ a b. absurd (omega arith) }

pub unbroken-on : {q : List ℤ} {h : List ℕ} {u n v : ℕ} {r : Bool} → Unbroken q h u n v → v < n
    → ((o a : List ℕ) → r ≡ breaks_circle (links_of o h a) (position_of q) v) → r ≡ false → Unbroken q h u n (v + 1)
unbroken-on {q} {h} {u} {n} {v} U l tests f = record {
  low = let k = U.low in omega arith;
  high = omega arith;
  keeps = λ {v = w} a b o z. at w a b o z (ℕ_discrete w v);
}
  where
    at : (w : ℕ) → u ≤ w → w < v + 1 → (o a : List ℕ) → Dec (w ≡ v) → breaks_circle (links_of o h a) (position_of q) w ≡ false
    at w a b o z (yes p) = rw p (sym (tests o z) ∙ f)
    at w a b o z (no d) = U.keeps a (omega arith) o z

-- all of a block are passed
pub unbroken-all : {q : List ℤ} {h : List ℕ} {u n v : ℕ} → u ≤ n → Unbroken q h u n v → n ≤ v → Unbroken q h u n n
unbroken-all o U l = record { low = o; high = omega arith; keeps = λ a b. U.keeps a (omega arith) }

-- of a block that ends at m
pub unbroken-to : {q : List ℤ} {h : List ℕ} {u m n r : ℕ} → Unbroken q h u m r → m ≤ n → Unbroken q h u n r
unbroken-to U l = record { low = U.low; high = let k = U.high in omega arith; keeps = U.keeps }
