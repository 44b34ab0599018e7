-- The list and the finish look at no point past the list: tests that agree on it leave the same. Assumes nothing.
use Rattle.std.specs.Prelude.{Bool, ◌≡◌}
use Rattle.std.proofs.Math.Path.{refl, ap₂}
use Prim.Native.Nat.{ℕ, zero, suc, ◌<◌, ◌≤◌}
use Rattle.std.proofs.Common.{le_refl, arith}
use Rattle.corner.specs.Corner.{Extended}
use Rattle.convexity.specs.Convexity.{convexity}
use Rattle.math.specs.declared.Point.{Point}
use Rattle.mesh.specs.declared.Counts.{Counts}
use Rattle.mesh.specs.Mesh.{Links}
use Rattle.skipped.specs.Fill.{Filling, fill_point, fill_after, fill_from, complete_mesh}
use Rattle.complete.specs.CompleteRows.{fill_word}

module _ (room : ℕ) (C : Counts) (L : Links) (p : ℕ → Point) (f g : ℕ → Bool) (point : ℕ → Point) (n : ℕ)
    (same : (i : ℕ) → i < n → f i ≡ g i) where
  pub fill-same : (m : ℕ) → m ≤ n → fill_after room C L p f point m ≡ fill_after room C L p g point m
  unfolding fill_after
  fill-same zero l = refl
  fill-same (suc m) l =
      ap₂ (λ (s : Filling) (b : Bool). fill_point room s b (point m)) (fill-same m (omega arith)) (same m (omega arith))

  pub word_same : (i k : ℕ) → i < n → fill_word room C L p f point i k ≡ fill_word room C L p g point i k
  word_same i k l = rw (fill-same i (omega arith)) refl

from-same : (room : ℕ) (p : ℕ → Point) (f g : ℕ → Bool) (point : ℕ → Point) (n : ℕ) (v : Extended)
    → ((i : ℕ) → i < n → f i ≡ g i) → fill_from room p f point n v ≡ fill_from room p g point n v
unfolding fill_from
from-same room p f g point n v same = rw (fill-same room v.counts v.links p f g point n same n (le_refl n)) refl

pub complete-same : (room : ℕ) (C : Counts) (L : Links) (p : ℕ → Point) (f g : ℕ → Bool) (point : ℕ → Point) (n : ℕ)
    → ((i : ℕ) → i < n → f i ≡ g i) → complete_mesh room C L p f point n ≡ complete_mesh room C L p g point n
unfolding complete_mesh
complete-same room C L p f g point n same = rw (from-same room p f g point n (convexity room C p L) same) refl
