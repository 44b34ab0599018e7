-- One point of a run: what its answer says, and at which vertex its height is stored. f is the fate of its step, and x the place at which
-- it is put in if it was skipped; a and b say whether its step was answered, and whether it is in. Assumes nothing.
use Rattle.std.specs.Prelude.{Bool, true, false, cond, not, ◌&&◌, ◌≡◌, refl, ℕ, T, ℤ}
use Rattle.std.proofs.Common.{◌∙◌, ap}
use Rattle.decide.specs.declared.Fate.{Fate}
use Rattle.decide.specs.declared.Fate.TheVariants.{Added, Dropped, NotLeft, Unsound, AtCenter}
use Rattle.decide.specs.Decide.{fate_number, fate_vertex}
use Rattle.location.specs.declared.PositionInTriangulation.{PositionInTriangulation}
use Rattle.location.specs.declared.PositionInTriangulation.TheVariants.{OnVertex, OnFace, OnEdge, OutsideOfConvexHull}
use Rattle.mesh.specs.declared.Counts.{Counts}
use Rattle.skipped.specs.Insert.{position_fate, position_vertex}
use Rattle.sums.specs.Put.{put}
use Rattle.sweep.specs.Step.{is_added}
use Rattle.sweep.specs.Run.{is_skipped}
use Rattle.surface.specs.StoredHeights.{is_from}
use Rattle.surface.specs.Surface.{height_added, height_inserted}

-- ---- its answer: a word of it, by that of an insertion and that of a step
abbrev pub word_of : Fate → Bool → Bool → ℕ → ℕ → ℕ
word_of f a b inserted stepped = cond (is_skipped f) (cond b inserted 0) (cond a stepped 0)

-- a skipped point's fate is from 6 to 9, and not 1
inserted-fate : (x : PositionInTriangulation) (b : Bool) → is_from 6 9 (cond b (position_fate x) 0) ≡ b
unfolding is_from position_fate
inserted-fate x false = refl
inserted-fate (OnFace f) true = refl
inserted-fate (OnEdge e) true = refl
inserted-fate (OutsideOfConvexHull e) true = refl
inserted-fate (OnVertex v) true = refl

not-added : (x : PositionInTriangulation) (b : Bool) → is_from 1 1 (cond b (position_fate x) 0) ≡ false
unfolding is_from position_fate
not-added x false = refl
not-added (OnFace f) true = refl
not-added (OnEdge e) true = refl
not-added (OutsideOfConvexHull e) true = refl
not-added (OnVertex v) true = refl

-- the word of its fate
pub word-added : (f : Fate) (x : PositionInTriangulation) (a b : Bool)
    → is_from 1 1 (word_of f a b (position_fate x) (fate_number f)) ≡ (is_added f && a)
unfolding is_from is_skipped fate_number is_added
word-added (Added v) x true b = refl
word-added (Added v) x false b = refl
word-added Dropped x true b = refl
word-added Dropped x false b = refl
word-added NotLeft x a b = not-added x b
word-added Unsound x a b = not-added x b
word-added AtCenter x a b = not-added x b

pub word-inserted : (f : Fate) (x : PositionInTriangulation) (a b : Bool)
    → is_from 6 9 (word_of f a b (position_fate x) (fate_number f)) ≡ (is_skipped f && b)
unfolding is_from is_skipped fate_number
word-inserted (Added v) x true b = refl
word-inserted (Added v) x false b = refl
word-inserted Dropped x true b = refl
word-inserted Dropped x false b = refl
word-inserted NotLeft x a b = inserted-fate x b
word-inserted Unsound x a b = inserted-fate x b
word-inserted AtCenter x a b = inserted-fate x b

-- the word of its vertex
pub vertex-added : (f : Fate) (a b : Bool) (x y : ℕ) → T (is_added f && a) → word_of f a b x y ≡ y
unfolding is_added is_skipped
vertex-added (Added v) true b x y t = refl
vertex-added (Added v) false b x y t = absurd t
vertex-added Dropped a b x y t = absurd t
vertex-added NotLeft a b x y t = absurd t
vertex-added Unsound a b x y t = absurd t
vertex-added AtCenter a b x y t = absurd t

pub vertex-inserted : (f : Fate) (a b : Bool) (x y : ℕ) → T (is_skipped f && b) → word_of f a b x y ≡ x
unfolding is_skipped
vertex-inserted (Added v) a b x y t = absurd t
vertex-inserted Dropped a b x y t = absurd t
vertex-inserted NotLeft a true x y t = refl
vertex-inserted NotLeft a false x y t = absurd t
vertex-inserted Unsound a true x y t = refl
vertex-inserted Unsound a false x y t = absurd t
vertex-inserted AtCenter a true x y t = refl
vertex-inserted AtCenter a false x y t = absurd t

-- ---- its height
added-height : (f : Fate) (z : ℤ) (h : ℕ → ℤ) → height_added f z h ≡ cond (is_added f) (put h (fate_vertex f) z) h
unfolding height_added is_added fate_vertex
added-height (Added v) z h = refl
added-height Dropped z h = refl
added-height NotLeft z h = refl
added-height Unsound z h = refl
added-height AtCenter z h = refl

inserted-height : (C : Counts) (x : PositionInTriangulation) (z : ℤ) (h : ℕ → ℤ) → height_inserted C x z h ≡ put h (position_vertex C x) z
unfolding height_inserted position_vertex
inserted-height C (OnFace f) z h = refl
inserted-height C (OnEdge e) z h = refl
inserted-height C (OutsideOfConvexHull e) z h = refl
inserted-height C (OnVertex v) z h = refl

-- stored if no flip had been refused before it
two-tests : (x c : Bool) (a b : ℕ → ℤ) → cond x b (cond c a b) ≡ cond (not x && c) a b
two-tests true c a b = refl
two-tests false c a b = refl

pub step-each : (x : Bool) (f : Fate) (z : ℤ) {g g' : ℕ → ℤ} → g ≡ g'
    → cond x g (height_added f z g) ≡ cond (not x && is_added f) (put g' (fate_vertex f) z) g'
step-each x f z {g' = g'} e =
    rw e (ap (cond x g') (added-height f z g') ∙ two-tests x (is_added f) (put g' (fate_vertex f) z) g')

pub fill-each : (x b : Bool) (C : Counts) (y : PositionInTriangulation) (z : ℤ) {g g' : ℕ → ℤ} → g ≡ g'
    → cond x g (cond b (height_inserted C y z g) g) ≡ cond (not x && b) (put g' (position_vertex C y) z) g'
fill-each x b C y z {g' = g'} e =
    rw e (ap (λ (a : ℕ → ℤ). cond x g' (cond b a g')) (inserted-height C y z g') ∙ two-tests x b (put g' (position_vertex C y) z) g')
