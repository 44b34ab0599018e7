-- A mesh in its rows is ready for the tests and for building: what those ask, and what their answers are as facts of the mesh. Assumes nothing.
use Rattle.std.specs.Prelude.{ℕ, ◌-◌, ◌*◌, ◌<◌, ◌≤◌, ◌^◌, ◌≡◌, refl, ◌||◌, List, T, ℤ, Float, length}
use Rattle.std.proofs.Common.{arith, sym, ◌∙◌, subst}
use Rattle.std.proofs.Math.Path.{ap}
use Rattle.std.proofs.Math.Bool.{Bool, not}
use Rattle.std.proofs.Math.Dec.{T_not, not_T}
use Rattle.mesh.specs.declared.Counts.{Counts}
use Rattle.mesh.specs.Mesh.{In}
use Rattle.mesh.specs.Area.{boundary_length}
use Rattle.mesh.proofs.BoundaryLaws.{next-inverse, first<, boundary-period, boundary-below}
use Rattle.mesh.proofs.CountsLaws.{count-halves, faces-least}
use Rattle.angle.specs.Angle.{valid_center}
use Rattle.sums.proofs.BitLaws.{sure, or_left, or_right}
use Rattle.sums.specs.Bounded.{any_below}
use Rattle.sums.proofs.BoundedLaws.{any-below←}
use Rattle.sums.specs.Iterate.{iter}
use Rattle.sums.proofs.IterateLaws.{reach-on}
use Rattle.sums.specs.Listed.{pigeonhole}
use Rattle.dcel.specs.Rows.{row_of, links_of, position_of}
use Rattle.dcel.specs.MeshHeld.{MeshHeld, there, origin-in}
use Rattle.ring.specs.Ring.{full_turn, is_strict, is_strict_ring, boundary_angles, boundary_edges}
use Rattle.ring.proofs.InsertLaws.{node-sole}
use Rattle.ring.proofs.Boundary.{sound-first, strict-ring, strict-nodes}
use Rattle.ring.specs.Center.{turns_about, refuses_center}
use Rattle.hull.specs.Boundary.{vertex_at_center, edge_at, origin_at_center, angles_of, BoundaryRows, AngledBoundary, ToBuild}

module _ {C : Counts} {o h a : List ℕ} (M : MeshHeld C o h a) where
  -- `convex_hull_size`
  pub size-asks : (2 * C.edges < 2 ^ 32) × (1 ≤ C.faces) × (3 * (C.faces - 1) ≤ 2 * C.edges)
  size-asks =
      let a = count-halves M.rules in let b = faces-least M.rules in let c = M.room.small in (omega arith, omega arith, omega arith)

  pub size_is : 2 * C.edges - 3 * (C.faces - 1) ≡ boundary_length C (links_of o h a)
  size_is = let a = count-halves M.rules in omega arith

  pub size_small : boundary_length C (links_of o h a) < 2 ^ 32
  size_small = let a = count-halves M.rules in let c = M.room.small in omega arith

  -- the boundary edges are in use
  edge_in : (k : ℕ) → In C (edge_at h (row_of a 0) k)
  unfolding links_of
  edge_in k = boundary-below M.rules k

  pub boundary-closed : {size : ℕ} → size ≡ boundary_length C (links_of o h a) → edge_at h (row_of a 0) size ≡ row_of a 0
  unfolding links_of
  boundary-closed e = ap (edge_at h (row_of a 0)) e ∙ (boundary-period M.rules).back

  module _ (p : List ℤ) (placed : 2 * C.vertices ≤ length p) where
    pub boundary-rows : BoundaryRows p h (row_of a 0)
    boundary-rows = record {
      there = λ k. there M (edge_in k);
      placed = λ k. (let b = origin-in M (edge_in k) in omega arith);
      edges = λ k. (let b = edge_in k in let c = M.room.small in omega arith);
    }

    module _ (cx cy : Float) where
      -- what `validate_center` and `meets_center` answer is refusal 6, and `is_strict` refusal 7
      pub center-test : {size : ℕ} → size ≡ boundary_length C (links_of o h a)
          → (not (valid_center cx cy) || any_below size (λ k. origin_at_center p h cx cy (edge_at h (row_of a 0) k))) ≡ refuses_center C (links_of o h a) (position_of p) cx cy
      unfolding refuses_center vertex_at_center links_of
      center-test e = ap (λ (n : ℕ). not (valid_center cx cy) || any_below n (λ k. origin_at_center p h cx cy (edge_at h (row_of a 0) k))) e

      pub strict-test : {size : ℕ} → size ≡ boundary_length C (links_of o h a)
          → is_strict full_turn (angles_of p h cx cy (row_of a 0) size) ≡ is_strict_ring C (links_of o h a) (turns_about cx cy (position_of p))
      unfolding is_strict_ring boundary_angles boundary_edges links_of
      strict-test e = ap (λ (n : ℕ). is_strict full_turn (angles_of p h cx cy (row_of a 0) n)) e

      -- no boundary vertex at the centre
      pub angled-boundary : T (not (refuses_center C (links_of o h a) (position_of p) cx cy)) → AngledBoundary p h cx cy (row_of a 0)
      unfolding refuses_center vertex_at_center links_of
      angled-boundary n =
          record { rows = boundary-rows; valid = sure (valid_center cx cy) (λ t. T_not (off || met) n (or_left off met t)); apart = λ k. not_T (origin_at_center p h cx cy (edge_at h (row_of a 0) k)) (λ t. away k t) }
        where
          off : Bool
          off = not (valid_center cx cy)

          met : Bool
          met = any_below (boundary_length C (links_of o h a)) (λ j. origin_at_center p h cx cy (edge_at h (row_of a 0) j))

          away : (k : ℕ) → T (origin_at_center p h cx cy (edge_at h (row_of a 0) k)) → ⊥
          away k t =
              let r = reach-on (next-inverse M.rules) (first< M.rules) (boundary-period M.rules) (k, refl) in
              T_not (off || met) n
              (or_right off met (any-below← (boundary_length C (links_of o h a)) (λ j. origin_at_center p h cx cy (edge_at h (row_of a 0) j)) r.0 r.1 (subst (λ (x : ℕ). T (origin_at_center p h cx cy x)) (sym r.2) t)))

      -- THE RING FITS: a strict ring's angles differ, so its vertices do
      pub strict-size : T (is_strict_ring C (links_of o h a) (turns_about cx cy (position_of p)))
          → boundary_length C (links_of o h a) ≤ C.vertices
      unfolding boundary_edges
      strict-size t =
          let L = links_of o h a in let α = turns_about cx cy (position_of p) in
          pigeonhole C.vertices (boundary_length C L) (λ k. L.origin (iter k L.next (L.adjacent 0))) (record {
            below = λ k u. M.rules.ranges.origin< (boundary-below M.rules k);
            once = λ j k u w z. node-sole (sound-first M.rules α (strict-ring M.rules α t)) (strict-nodes M.rules α t) j k u w
                (ap α z);
          })

      -- what `from_triangulation` asks
      pub to-build : {size nodes buckets : ℕ} → size ≡ boundary_length C (links_of o h a) → AngledBoundary p h cx cy (row_of a 0)
          → T (is_strict_ring C (links_of o h a) (turns_about cx cy (position_of p))) → C.vertices ≤ nodes → 8 ≤ buckets
          → ToBuild p h cx cy (row_of a 0) size nodes buckets
      to-build {size} e A t u w = record {
        boundary = A;
        closed = boundary-closed e;
        strict = subst T (sym (strict-test e)) t;
        small = let s = size_small in omega arith;
        node-room = let s = strict-size t in omega arith;
        bucket-room = w;
      }
