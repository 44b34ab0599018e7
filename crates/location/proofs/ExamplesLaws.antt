-- Laws of specs/Examples.antt.
use Rattle.std.specs.Prelude.{◌≡◌, refl, Bool, false, [], ◌∷◌, ℕ, zero, suc, ◌<◌, T, ltb, get_or, ℤ, pos, negsuc, ◌<ℤ◌}
use Rattle.std.proofs.Common.{arith, lit<}
use Rattle.std.specs.Int.Signed.{lt_z, lt_z_yes}
use Rattle.sums.specs.Bit.{implies}
use Rattle.sums.proofs.BitLaws.{implies→, lt?, sure}
use Rattle.sums.specs.Bounded.{all_below, first_below}
use Rattle.sums.proofs.BoundedLaws.{all-below→}
use Rattle.sums.specs.Half.{rev}
use Rattle.sums.specs.Iterate.{reaches, period_below}
use Rattle.sums.specs.Until.{until, when}
use Rattle.math.specs.declared.Point.{Point}
use Rattle.math.specs.Determinant.{orient2d, by_sign, length2, is_position, is_coordinate}
use Rattle.mesh.specs.declared.Counts.{Counts}
use Rattle.mesh.specs.Mesh.{Links}
use Rattle.mesh.specs.Wf.{Wf}
use Rattle.mesh.specs.Area.{at_corners, LeftTurning, boundary_length}
use Rattle.mesh.specs.Rules.{half_edge_in_use, links_in_use, half_edge_linked, inner_face_rule, outer_face_rule, side_rule, vertex_rule, euler_rule, rules}
use Rattle.mesh.proofs.RulesWf.{rules-wf}
use Rattle.location.specs.declared.PositionInTriangulation.{PositionInTriangulation}
use Rattle.location.specs.declared.PositionInTriangulation.TheVariants.{OnVertex, OnFace, OnEdge, OutsideOfConvexHull}
use Rattle.location.specs.declared.SearchState.TheVariants.{Onward}
use Rattle.location.specs.Place.{InFace, InEdge}
use Rattle.location.specs.Search.{first_closer, is_nearest, nearer, nearest, beyond, across_edge, rotate_ccw, rotate_cw, on_line_of, by_side, search_turn, ended, advance, search_from}
use Rattle.location.specs.Scan.{holds_at, place_at_of, first_holding, first_left, scan, answer, locate_point}
use Rattle.location.proofs.LocateLaws.{locate-certified}
use Rattle.location.proofs.LimitLaws.{search-limit}
use Rattle.location.specs.Examples.{at, wheel_counts, pinwheel_counts, pinwheel, blades, pinwheel_left, fold_counts}

unfoldable wheel : Links
wheel = record {
  next = λ x. get_or (10 ∷ 7 ∷ 12 ∷ 1 ∷ 14 ∷ 3 ∷ 8 ∷ 5 ∷ 15 ∷ 0 ∷ 9 ∷ 2 ∷ 11 ∷ 4 ∷ 13 ∷ 6 ∷ []) x 0;
  prev = λ x. get_or (9 ∷ 3 ∷ 11 ∷ 5 ∷ 13 ∷ 7 ∷ 15 ∷ 1 ∷ 6 ∷ 10 ∷ 0 ∷ 12 ∷ 2 ∷ 14 ∷ 4 ∷ 8 ∷ []) x 0;
  face = λ x. get_or (1 ∷ 0 ∷ 2 ∷ 0 ∷ 3 ∷ 0 ∷ 4 ∷ 0 ∷ 4 ∷ 1 ∷ 1 ∷ 2 ∷ 2 ∷ 3 ∷ 3 ∷ 4 ∷ []) x 0;
  origin = λ x. get_or (0 ∷ 1 ∷ 1 ∷ 2 ∷ 2 ∷ 3 ∷ 3 ∷ 0 ∷ 0 ∷ 4 ∷ 1 ∷ 4 ∷ 2 ∷ 4 ∷ 3 ∷ 4 ∷ []) x 0;
  out = λ x. get_or (0 ∷ 2 ∷ 4 ∷ 6 ∷ 9 ∷ []) x 0;
  adjacent = λ x. get_or (1 ∷ 0 ∷ 2 ∷ 4 ∷ 6 ∷ []) x 0;
}

unfoldable corners : ℕ → Point
corners i = get_or (at (pos 0) (pos 0) ∷ at (pos 4) (pos 0) ∷ at (pos 4) (pos 4) ∷ at (pos 0) (pos 4) ∷ at (pos 2) (pos 2) ∷ []) i (at (pos 0) (pos 0))

wheel-wf : Wf wheel_counts wheel
unfolding wheel rules half_edge_in_use links_in_use half_edge_linked inner_face_rule outer_face_rule side_rule vertex_rule euler_rule all_below reaches rev
wheel-wf = rules-wf wheel_counts wheel tt

wheel-turning : LeftTurning wheel_counts wheel corners
unfolding wheel corners orient2d
wheel-turning = record { left = λ {f} i l. turns f i l }
  where
    turns : (f : ℕ) → 0 < f → f < 5 → pos 0 <ℤ at_corners orient2d wheel corners (wheel.adjacent f)
    turns zero i l = absurd (omega arith)
    turns (suc zero) i l = lt_z_yes tt
    turns (suc (suc zero)) i l = lt_z_yes tt
    turns (suc (suc (suc zero))) i l = lt_z_yes tt
    turns (suc (suc (suc (suc zero)))) i l = lt_z_yes tt
    turns (suc (suc (suc (suc (suc f))))) i l = absurd (omega arith)

abbrev locates : ℤ → ℤ → PositionInTriangulation
locates x y = locate_point wheel_counts wheel corners (at x y)

abbrev scans : ℤ → ℤ → PositionInTriangulation
scans x y = scan wheel_counts wheel corners (at x y)

-- the search: at the centre, inside triangle 1, on the spoke from 0, on the square's lower edge, beyond its right edge
at-centre : locates (pos 2) (pos 2) ≡ OnVertex 4
unfolding wheel corners orient2d length2 rev is_coordinate boundary_length period_below first_below until when is_position first_closer is_nearest nearer nearest beyond across_edge rotate_ccw rotate_cw on_line_of by_side by_sign search_turn ended advance search_from holds_at place_at_of first_holding first_left scan answer locate_point
at-centre = refl

in-triangle : locates (pos 2) (pos 1) ≡ OnFace 1
unfolding wheel corners orient2d length2 rev is_coordinate boundary_length period_below first_below until when is_position first_closer is_nearest nearer nearest beyond across_edge rotate_ccw rotate_cw on_line_of by_side by_sign search_turn ended advance search_from holds_at place_at_of first_holding first_left scan answer locate_point
in-triangle = refl

on-spoke : locates (pos 1) (pos 1) ≡ OnEdge 8
unfolding wheel corners orient2d length2 rev is_coordinate boundary_length period_below first_below until when is_position first_closer is_nearest nearer nearest beyond across_edge rotate_ccw rotate_cw on_line_of by_side by_sign search_turn ended advance search_from holds_at place_at_of first_holding first_left scan answer locate_point
on-spoke = refl

on-boundary : locates (pos 3) (pos 0) ≡ OnEdge 0
unfolding wheel corners orient2d length2 rev is_coordinate boundary_length period_below first_below until when is_position first_closer is_nearest nearer nearest beyond across_edge rotate_ccw rotate_cw on_line_of by_side by_sign search_turn ended advance search_from holds_at place_at_of first_holding first_left scan answer locate_point
on-boundary = refl

outside : locates (pos 6) (pos 2) ≡ OutsideOfConvexHull 3
unfolding wheel corners orient2d length2 rev is_coordinate boundary_length period_below first_below until when is_position first_closer is_nearest nearer nearest beyond across_edge rotate_ccw rotate_cw on_line_of by_side by_sign search_turn ended advance search_from holds_at place_at_of first_holding first_left scan answer locate_point
outside = refl

-- the scan of the same points: it names the spoke by the other half, which is triangle 1's
scan-centre : scans (pos 2) (pos 2) ≡ OnVertex 4
unfolding wheel corners orient2d rev is_coordinate boundary_length period_below first_below is_position holds_at place_at_of first_holding first_left scan
scan-centre = refl

scan-triangle : scans (pos 2) (pos 1) ≡ OnFace 1
unfolding wheel corners orient2d rev is_coordinate boundary_length period_below first_below is_position holds_at place_at_of first_holding first_left scan
scan-triangle = refl

scan-spoke : scans (pos 1) (pos 1) ≡ OnEdge 9
unfolding wheel corners orient2d rev is_coordinate boundary_length period_below first_below is_position holds_at place_at_of first_holding first_left scan
scan-spoke = refl

scan-beyond : scans (pos 6) (pos 2) ≡ OutsideOfConvexHull 3
unfolding wheel corners orient2d rev is_coordinate boundary_length period_below first_below is_position holds_at place_at_of first_holding first_left scan
scan-beyond = refl

-- the certificate of one of them
spoke-certified : InEdge wheel_counts wheel corners (at (pos 1) (pos 1)) 8
spoke-certified = rw on-spoke at (locate-certified wheel-wf wheel-turning (at (pos 1) (pos 1)))

pinwheel-wf : Wf pinwheel_counts pinwheel
unfolding pinwheel rules half_edge_in_use links_in_use half_edge_linked inner_face_rule outer_face_rule side_rule vertex_rule euler_rule all_below reaches rev
pinwheel-wf = rules-wf pinwheel_counts pinwheel tt

pinwheel-turning : LeftTurning pinwheel_counts pinwheel blades
unfolding pinwheel blades orient2d all_below pinwheel_left
pinwheel-turning = record { left = λ {f} i l. lt_z_yes (implies→ (ltb 0 f) _ (all-below→ 14 pinwheel_left tt f l) (lt_test i)) }
  where
    lt_test : {f : ℕ} → 0 < f → T (ltb 0 f)
    lt_test {f} i = sure (ltb 0 f) (λ t. let l = (lt? 0 f).1 t in omega arith)

-- near the middle of its blades
round-and-round : ended (search_from pinwheel_counts pinwheel blades (at (negsuc 0) (pos 0))
    (pinwheel.out (nearest pinwheel_counts pinwheel blades (at (negsuc 0) (pos 0))))) ≡ false
unfolding pinwheel blades orient2d length2 rev is_coordinate boundary_length period_below first_below until when is_position first_closer is_nearest nearer nearest beyond across_edge rotate_ccw rotate_cw on_line_of by_side by_sign search_turn ended advance search_from holds_at place_at_of first_holding first_left scan answer locate_point
round-and-round = refl

round-17 : ended (search_from pinwheel_counts pinwheel blades (at (negsuc 0) (pos 0)) 17) ≡ false
unfolding pinwheel blades orient2d rev is_coordinate until when is_position beyond across_edge rotate_ccw rotate_cw on_line_of by_side by_sign search_turn ended advance search_from
round-17 = refl

for-ever-round : (n : ℕ) → ended (until ended (advance pinwheel blades (at (negsuc 0) (pos 0))) n (Onward 17)) ≡ false
for-ever-round n = search-limit pinwheel-wf blades (at (negsuc 0) (pos 0)) {e = 17} (lit< tt) round-17 n

scan-answers : locate_point pinwheel_counts pinwheel blades (at (negsuc 0) (pos 0)) ≡ OnFace 3
unfolding pinwheel blades orient2d length2 rev is_coordinate boundary_length period_below first_below until when is_position first_closer is_nearest nearer nearest beyond across_edge rotate_ccw rotate_cw on_line_of by_side by_sign search_turn ended advance search_from holds_at place_at_of first_holding first_left scan answer locate_point
scan-answers = refl

scan-holds : InFace pinwheel_counts pinwheel blades (at (negsuc 0) (pos 0)) 3
scan-holds = rw scan-answers at (locate-certified pinwheel-wf pinwheel-turning (at (negsuc 0) (pos 0)))

unfoldable fold : Links
fold = record {
  next = λ x. get_or (2 ∷ 9 ∷ 4 ∷ 1 ∷ 0 ∷ 6 ∷ 8 ∷ 10 ∷ 5 ∷ 13 ∷ 12 ∷ 3 ∷ 7 ∷ 11 ∷ []) x 0;
  prev = λ x. get_or (4 ∷ 3 ∷ 0 ∷ 11 ∷ 2 ∷ 8 ∷ 5 ∷ 12 ∷ 6 ∷ 1 ∷ 7 ∷ 13 ∷ 10 ∷ 9 ∷ []) x 0;
  face = λ x. get_or (1 ∷ 0 ∷ 1 ∷ 0 ∷ 1 ∷ 2 ∷ 2 ∷ 3 ∷ 2 ∷ 0 ∷ 3 ∷ 0 ∷ 3 ∷ 0 ∷ []) x 0;
  origin = λ x. get_or (0 ∷ 1 ∷ 1 ∷ 2 ∷ 2 ∷ 0 ∷ 2 ∷ 4 ∷ 4 ∷ 0 ∷ 2 ∷ 3 ∷ 3 ∷ 4 ∷ []) x 0;
  out = λ x. get_or (0 ∷ 1 ∷ 3 ∷ 11 ∷ 7 ∷ []) x 0;
  adjacent = λ x. get_or (1 ∷ 0 ∷ 5 ∷ 10 ∷ []) x 0;
}

unfoldable folded : ℕ → Point
folded i = get_or (at (pos 0) (pos 2) ∷ at (pos 3) (pos 0) ∷ at (pos 1) (pos 2) ∷ at (pos 3) (negsuc 0) ∷ at (pos 5) (pos 5) ∷ []) i (at (pos 0) (pos 0))

fold-search : locate_point fold_counts fold folded (at (pos 3) (pos 1)) ≡ OutsideOfConvexHull 3
unfolding fold folded orient2d length2 rev is_coordinate boundary_length period_below first_below until when is_position first_closer is_nearest nearer nearest beyond across_edge rotate_ccw rotate_cw on_line_of by_side by_sign search_turn ended advance search_from holds_at place_at_of first_holding first_left scan answer locate_point
fold-search = refl

fold-scan : scan fold_counts fold folded (at (pos 3) (pos 1)) ≡ OnFace 3
unfolding fold folded orient2d length2 rev is_coordinate boundary_length period_below first_below until when is_position first_closer is_nearest nearer nearest beyond across_edge rotate_ccw rotate_cw on_line_of by_side by_sign search_turn ended advance search_from holds_at place_at_of first_holding first_left scan answer locate_point
fold-scan = refl
