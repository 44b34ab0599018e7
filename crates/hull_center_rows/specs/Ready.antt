-- The ring of the boundary about the centre, and the start, as the code tests them. Assumes nothing.
use Rattle.std.specs.Prelude.{Bool, ◌&&◌, ◌||◌, List, ◌≡◌, ℕ, ◌-◌, ◌*◌, ◌<◌, ◌≤◌, ◌^◌, Float, ℤ, length}
use Rattle.std.proofs.Math.Bool.{true, false, not}
use Rattle.std.proofs.Math.Path.{refl, sym, ap}
use Rattle.std.proofs.Common.{◌∙◌, ap₂, arith, lt-ltb, le-ltb}
use Rattle.angle.specs.declared.Point2.{Point2}
use Rattle.angle.specs.Angle.{valid_center}
use Rattle.dcel.specs.MeshHeld.{MeshHeld}
use Rattle.dcel.specs.Rows.{row_of, links_of, position_of}
use Rattle.hull.specs.Boundary.{BoundaryRows, AngledBoundary, edge_at, angles_of, origin_at_center}
use Rattle.hull.proofs.Ready.{boundary-rows, boundary-closed, center-test, strict-test, angled-boundary, size_is, size-asks}
use Rattle.hull_center.specs.declared.PositionSum.{PositionSum}
use Rattle.hull_center.specs.HullCenter.{last_three, center_of, hull_center, holds_center, accepts_center, is_ready}
use Rattle.mesh.specs.declared.Counts.{Counts}
use Rattle.mesh.specs.Area.{boundary_length}
use Rattle.ring.specs.Center.{refuses_center, refuses_ring}
use Rattle.ring.specs.Ring.{full_turn, is_strict, is_strict_ring, boundary_angles, boundary_edges}
use Rattle.sums.proofs.BitLaws.{from_false}
use Rattle.sums.specs.Bounded.{any_below}
use Rattle.hull_center_rows.specs.CenterRows.{MeshIn, mesh-held}

-- the row of out edges is not looked at
outs-unread : (C : Counts) (q : List ℤ) (o o' h a : List ℕ) (cx cy : Float)
    → accepts_center C (links_of o h a) (position_of q) cx cy ≡ accepts_center C (links_of o' h a) (position_of q) cx cy
unfolding accepts_center refuses_center refuses_ring is_strict_ring boundary_angles boundary_edges boundary_length links_of
outs-unread C q o o' h a cx cy = refl

module _ {C : Counts} {q : List ℤ} {h a : List ℕ} (R : MeshIn C q h a) where
  M : MeshHeld C R.outs h a
  M = mesh-held R

  pub first-there : 0 < length a
  first-there = let s = M.rules.some in let f = M.room.faces in omega arith

  pub hull-size : (2 * C.edges < 2 ^ 32) × (1 ≤ C.faces) × (3 * (C.faces - 1) ≤ 2 * C.edges)
  hull-size = size-asks M

  module _ (cx cy : Float) where
    abbrev valid : Bool
    valid = valid_center cx cy

    -- by the two refusals
    by_tests : (o : List ℕ) {t u : Bool} → refuses_center C (links_of R.outs h a) (position_of q) cx cy ≡ t
        → refuses_ring C (links_of R.outs h a) (position_of q) cx cy ≡ u
        → (not t && not u) ≡ accepts_center C (links_of o h a) (position_of q) cx cy
    unfolding accepts_center
    by_tests o x y = sym (ap₂ (λ (t u : Bool). not t && not u) x y) ∙ outs-unread C q R.outs o h a cx cy

    refused-center : (o : List ℕ) → refuses_center C (links_of R.outs h a) (position_of q) cx cy ≡ true
        → false ≡ accepts_center C (links_of o h a) (position_of q) cx cy
    refused-center o x = by_tests o x refl

    pub not_valid : {v : Bool} → v ≡ valid → v ≡ false → (o : List ℕ) → false ≡ accepts_center C (links_of o h a) (position_of q) cx cy
    unfolding refuses_center
    not_valid i e o = refused-center o (rw (sym i, e) refl)

    module _ {start size : ℕ} (s : start ≡ row_of a 0) (z : size ≡ 2 * C.edges - 3 * (C.faces - 1)) where
      abbrev meets : Bool
      meets = any_below size (λ k. origin_at_center q h cx cy (edge_at h start k))

      whole : size ≡ boundary_length C (links_of R.outs h a)
      whole = z ∙ size_is M

      pub boundary-in : BoundaryRows q h start
      boundary-in = rw s (boundary-rows M q R.rows.positions)

      tested : refuses_center C (links_of R.outs h a) (position_of q) cx cy ≡ (not valid || meets)
      tested =
          sym (ap (λ (x : ℕ). not valid || any_below size (λ k. origin_at_center q h cx cy (edge_at h x k))) s
          ∙ center-test M q R.rows.positions cx cy whole)

      pub met-center : {m : Bool} → m ≡ meets → m ≡ true → (o : List ℕ) → false ≡ accepts_center C (links_of o h a) (position_of q) cx cy
      met-center i e o = refused-center o (tested ∙ ap (λ (t : Bool). not valid || t) (sym i ∙ e) ∙ or-true (not valid))
        where
          or-true : (t : Bool) → (t || true) ≡ true
          or-true true = refl
          or-true false = refl

      module _ {v m : Bool} (i : v ≡ valid) (j : m ≡ meets) (y : v ≡ true) (n : m ≡ false) where
        not-refused : refuses_center C (links_of R.outs h a) (position_of q) cx cy ≡ false
        not-refused = tested ∙ rw (sym i, y, sym j, n) refl

        pub angled : AngledBoundary q h cx cy start × (edge_at h start size ≡ start)
        angled = rw s (angled-boundary M q R.rows.positions cx cy (from_false not-refused), boundary-closed M whole)

        pub by-strict : {t : Bool} → t ≡ is_strict full_turn (angles_of q h cx cy start size) → (o : List ℕ)
            → t ≡ accepts_center C (links_of o h a) (position_of q) cx cy
        unfolding refuses_ring
        by-strict {t} e o =
            e ∙ ap (λ (x : ℕ). is_strict full_turn (angles_of q h cx cy x size)) s
            ∙ strict-test M q R.rows.positions cx cy whole
            ∙ sym (twice _) ∙ by_tests o not-refused refl
          where
            twice : (t : Bool) → (true && not (not t)) ≡ t
            twice true = refl
            twice false = refl

-- ---- the start
pub no-triangle : (C : Counts) (q : List ℤ) (h a : List ℕ) → C.faces < 2 → (o : List ℕ)
    → false ≡ is_ready C (links_of o h a) (position_of q)
unfolding is_ready
no-triangle C q h a l o = rw (le-ltb 1 C.faces (omega arith)) refl

-- with two faces or more, and the centre c
module _ (C : Counts) (q : List ℤ) (h a : List ℕ) (l : 2 ≤ C.faces) {s : PositionSum} (x : s ≡ last_three C (position_of q))
    {c : Point2} (y : c ≡ center_of s) {t : Bool}
    (z : (o : List ℕ) → t ≡ accepts_center C (links_of o h a) (position_of q) c.x c.y) where
  asked : (o : List ℕ)
      → accepts_center C (links_of o h a) (position_of q) (hull_center C (position_of q)).x (hull_center C (position_of q)).y ≡ t
  unfolding hull_center
  asked o = sym (z o ∙ ap (λ (d : Point2). accepts_center C (links_of o h a) (position_of q) d.x d.y) (y ∙ ap center_of x))

  pub not-accepted : t ≡ false → (o : List ℕ) → false ≡ is_ready C (links_of o h a) (position_of q)
  unfolding is_ready
  not-accepted e o = rw (lt-ltb 1 C.faces l, asked o, e) (sym (none (holds_center C (links_of o h a) (position_of q))))
    where
      none : (u : Bool) → (u && false) ≡ false
      none true = refl
      none false = refl

  pub by-faces : t ≡ true → {u : Bool} → ((o : List ℕ) → u ≡ holds_center C (links_of o h a) (position_of q)) → (o : List ℕ)
      → u ≡ is_ready C (links_of o h a) (position_of q)
  unfolding is_ready
  by-faces e w o = w o ∙ rw (lt-ltb 1 C.faces l, asked o, e) (sym (all (holds_center C (links_of o h a) (position_of q))))
    where
      all : (u : Bool) → (u && true) ≡ u
      all true = refl
      all false = refl
