-- What `finished_heights` comes to for a run that was made: by its answer, and by whether a point was refused a flip. Assumes nothing.
use Rattle.std.specs.Prelude.{Bool, true, false, cond, List, ◌≡◌, ℕ, suc, ◌-◌, ◌<◌, ℤ, Ok, Err}
use Rattle.std.proofs.Math.Path.{refl}
use native.Mathlib.Omega.{arith}
use borrow.Author.Tests.{lt-ltb, le-ltb}
use Rattle.finish.specs.declared.FinishAnswer.{FinishAnswer}
use Rattle.finish.specs.Finished.{Finished}
use Rattle.finish.specs.Finish.{Finishing, totals_from, finished_from}
use Rattle.sums.specs.Put.{put}
use Rattle.surface.specs.StoredHeights.{answered_heights, is_made, place_of, finished_heights}

-- ---- the answer of a run that was made
pub finished-made : (place : ℕ) (f : Finishing) → is_made (finished_from place f) ≡ true
unfolding is_made finished_from
finished-made place f = go f.full
  where
    go : (b : Bool) → is_made (cond b (Err (record { number = 9; place = place })) (Ok (totals_from f))) ≡ true
    go true = refl
    go false = refl

pub finished-place : (n place : ℕ) (f : Finishing) → place_of n (finished_from place f) ≡ cond f.full place n
unfolding place_of finished_from
finished-place n place f = go f.full
  where
    go : (b : Bool)
        → place_of n (cond b (Err (record { number = 9; place = place })) (Ok (totals_from f))) ≡ cond b place n
    go true = refl
    go false = refl

pub either : (b : Bool) (n : ℕ) → cond b n n ≡ n
either true n = refl
either false n = refl

-- what is stored after it: the heights that are answered, and that of the point that was refused a flip, at the last vertex
module _ (r : FinishAnswer) (answers : List ℕ) (z h : ℕ → ℤ) (n : ℕ) (m : is_made r.finished ≡ true) where
  pub heights-end : place_of n r.finished ≡ n → finished_heights r answers z h n ≡ answered_heights answers z h n
  unfolding finished_heights
  heights-end p = rw (m, p, le-ltb n n (omega arith)) refl

  pub heights-at : {a v : ℕ} → place_of n r.finished ≡ a → r.counts.vertices ≡ suc v → a < n
      → finished_heights r answers z h n ≡ put (answered_heights answers z h n) v (z a)
  unfolding finished_heights
  heights-at {a} {v} p q k = let w : r.counts.vertices - 1 ≡ v = omega arith in rw (m, p, lt-ltb a n k, w) refl
