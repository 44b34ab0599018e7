-- The fates of a run by their numbers: of a step, or of the position at which a skipped point was put in. Assumes nothing.
use Rattle.std.specs.Prelude.{Bool, true, false, cond, not, ◌&&◌, ◌≡◌, refl, ℕ, ◌+◌, ◌≤◌, T, eqb}
use Rattle.std.proofs.Common.{arith}
use Rattle.decide.specs.declared.Fate.{Fate}
use Rattle.decide.specs.declared.Fate.TheVariants.{Added, Dropped, NotLeft, Unsound, AtCenter}
use Rattle.decide.specs.Decide.{fate_number, fate_vertex}
use Rattle.location.specs.declared.PositionInTriangulation.{PositionInTriangulation}
use Rattle.location.specs.declared.PositionInTriangulation.TheVariants.{OnVertex, OnFace, OnEdge, OutsideOfConvexHull}
use Rattle.skipped.specs.Insert.{position_fate, is_new}
use Rattle.sums.specs.Bit.{bit}
use Rattle.sweep.specs.Step.{is_added}
use Rattle.sweep.specs.Run.{is_skipped}
use Rattle.sweep.specs.Demand3.{is_entered, is_vertex, is_run_fate}

-- ---- what the step's fate says
pub is-added-point : (v : ℕ) → is_added (Added v) ≡ true
unfolding is_added
is-added-point v = refl

pub three-skipped : T (is_skipped NotLeft)
unfolding is_skipped
three-skipped = tt

pub four-skipped : T (is_skipped Unsound)
unfolding is_skipped
four-skipped = tt

pub five-skipped : T (is_skipped AtCenter)
unfolding is_skipped
five-skipped = tt

-- ---- the fate's number of a point whose step had the fate f, and which was put in at x if it was skipped
abbrev pub number_of : Fate → PositionInTriangulation → ℕ
number_of f x = cond (is_skipped f) (position_fate x) (fate_number f)

-- fate 1 is an added point's
pub one-added : (f : Fate) (x : PositionInTriangulation) → eqb (number_of f x) 1 ≡ is_added f
unfolding is_skipped position_fate fate_number is_added
one-added (Added v) x = refl
one-added Dropped x = refl
one-added NotLeft (OnFace f) = refl
one-added NotLeft (OnEdge e) = refl
one-added NotLeft (OutsideOfConvexHull e) = refl
one-added NotLeft (OnVertex w) = refl
one-added Unsound (OnFace f) = refl
one-added Unsound (OnEdge e) = refl
one-added Unsound (OutsideOfConvexHull e) = refl
one-added Unsound (OnVertex w) = refl
one-added AtCenter (OnFace f) = refl
one-added AtCenter (OnEdge e) = refl
one-added AtCenter (OutsideOfConvexHull e) = refl
one-added AtCenter (OnVertex w) = refl

-- fates 6, 7 and 8 are those of skipped points that are new
pub entered-new : (f : Fate) (x : PositionInTriangulation) → is_entered (number_of f x) ≡ (is_skipped f && is_new x)
unfolding is_skipped position_fate fate_number is_new is_entered
entered-new (Added v) x = refl
entered-new Dropped x = refl
entered-new NotLeft (OnFace f) = refl
entered-new NotLeft (OnEdge e) = refl
entered-new NotLeft (OutsideOfConvexHull e) = refl
entered-new NotLeft (OnVertex w) = refl
entered-new Unsound (OnFace f) = refl
entered-new Unsound (OnEdge e) = refl
entered-new Unsound (OutsideOfConvexHull e) = refl
entered-new Unsound (OnVertex w) = refl
entered-new AtCenter (OnFace f) = refl
entered-new AtCenter (OnEdge e) = refl
entered-new AtCenter (OutsideOfConvexHull e) = refl
entered-new AtCenter (OnVertex w) = refl

-- 3, 4 and 5 are no answers of a run
pub run-fate : (f : Fate) (x : PositionInTriangulation) → T (is_run_fate (number_of f x))
unfolding is_skipped position_fate fate_number is_entered is_vertex is_run_fate
run-fate (Added v) x = tt
run-fate Dropped x = tt
run-fate NotLeft (OnFace f) = tt
run-fate NotLeft (OnEdge e) = tt
run-fate NotLeft (OutsideOfConvexHull e) = tt
run-fate NotLeft (OnVertex w) = tt
run-fate Unsound (OnFace f) = tt
run-fate Unsound (OnEdge e) = tt
run-fate Unsound (OutsideOfConvexHull e) = tt
run-fate Unsound (OnVertex w) = tt
run-fate AtCenter (OnFace f) = tt
run-fate AtCenter (OnEdge e) = tt
run-fate AtCenter (OutsideOfConvexHull e) = tt
run-fate AtCenter (OnVertex w) = tt

-- 9 is a skipped point's
pub nine-skipped : (f : Fate) (x : PositionInTriangulation) → number_of f x ≡ 9 → is_skipped f ≡ true
unfolding is_skipped fate_number
nine-skipped (Added v) x z = absurd (omega arith)
nine-skipped Dropped x z = absurd (omega arith)
nine-skipped NotLeft x z = refl
nine-skipped Unsound x z = refl
nine-skipped AtCenter x z = refl

-- an added point was not skipped
pub added-not-skipped : (f : Fate) → T (is_added f) → is_skipped f ≡ false
unfolding is_added is_skipped
added-not-skipped (Added v) t = refl
added-not-skipped Dropped t = absurd t
added-not-skipped NotLeft t = absurd t
added-not-skipped Unsound t = absurd t
added-not-skipped AtCenter t = absurd t

pub added-vertex : (f : Fate) → T (is_added f) → f ≡ Added (fate_vertex f)
unfolding is_added fate_vertex
added-vertex (Added v) t = refl
added-vertex Dropped t = absurd t
added-vertex NotLeft t = absurd t
added-vertex Unsound t = absurd t
added-vertex AtCenter t = absurd t

-- the two tests of a fate
pub parts-of : (f : Fate) (x : PositionInTriangulation) → bit (is_vertex (number_of f x)) ≡ bit (is_added f) + bit (is_skipped f && is_new x)
unfolding is_skipped position_fate fate_number is_added is_new is_entered is_vertex
parts-of (Added v) x = refl
parts-of Dropped x = refl
parts-of NotLeft (OnFace f) = refl
parts-of NotLeft (OnEdge e) = refl
parts-of NotLeft (OutsideOfConvexHull e) = refl
parts-of NotLeft (OnVertex w) = refl
parts-of Unsound (OnFace f) = refl
parts-of Unsound (OnEdge e) = refl
parts-of Unsound (OutsideOfConvexHull e) = refl
parts-of Unsound (OnVertex w) = refl
parts-of AtCenter (OnFace f) = refl
parts-of AtCenter (OnEdge e) = refl
parts-of AtCenter (OutsideOfConvexHull e) = refl
parts-of AtCenter (OnVertex w) = refl

pub apart_of : (f : Fate) (g b : Bool) → bit (is_added f) + bit (not g && (is_skipped f && b)) ≤ 1
unfolding is_skipped is_added
apart_of f g b = go f g b
  where
    one : (c : Bool) → bit c ≤ 1
    one true = omega arith
    one false = omega arith

    none : (g : Bool) → bit (not g && false) ≡ 0
    none true = refl
    none false = refl

    go : (f : Fate) (g b : Bool) → bit (is_added f) + bit (not g && (is_skipped f && b)) ≤ 1
    go (Added v) g b = let k = none g in omega arith
    go Dropped g b = let k = none g in omega arith
    go NotLeft g b = let k = one (not g && b) in omega arith
    go Unsound g b = let k = one (not g && b) in omega arith
    go AtCenter g b = let k = one (not g && b) in omega arith
