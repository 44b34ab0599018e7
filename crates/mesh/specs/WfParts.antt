-- The mesh rules from the rules of each face and of each vertex, and back. A rule about a face or a vertex speaks of
-- its stored half-edge; `Wf` of every half-edge. Assumes nothing.
use Rattle.std.specs.Prelude.{◌≡◌, refl, ◌≢◌, ◌⊎◌, Bool, true, false, not, ◌&&◌, ◌||◌, List, [], ◌∷◌, ℕ, zero, suc, ◌+◌, ◌*◌, ◌/◌, ◌%◌, ◌<◌, ◌≤◌, T, ltb, eqb}
use Rattle.std.proofs.Common.{sym, ◌∙◌, ap, subst, inl, inr, arith, ltb→lt, lt→ltb, eqb→eq, T_not}
use Rattle.std.proofs.Math.Decide.{ℕ_discrete, dec_lt}
use Rattle.mesh.specs.declared.Counts.{Counts}
use Rattle.mesh.specs.Mesh.{Links, In, turn}
use Rattle.mesh.specs.Rules.{half_edge_in_use, links_in_use, half_edge_linked, inner_face_rule, outer_face_rule, side_rule, vertex_rule, euler_rule, rules, every}
use Rattle.mesh.specs.Wf.{Ranges, Linked, Faces, Vertices, Wf}
use Rattle.sums.specs.Bit.{implies}
use Rattle.sums.proofs.BitLaws.{implies→, implies←, eq_test, ne_test, and_left, and_right, and_both, or_cases, or_left, or_right}
use Rattle.sums.specs.Bounded.{all_below}
use Rattle.sums.proofs.BoundedLaws.{all-below→, all-below←}
use Rattle.sums.specs.Half.{rev}
use Rattle.sums.proofs.HalfLaws.{rev-rev, rev-below, rev-even, rev-odd, rev-inverse}
use Rattle.sums.specs.Iterate.{Inverse, reaches}
use Rattle.sums.proofs.IterateLaws.{Reach, iter-inj, iter-last, reaches-reach, reach-reaches, reach-sym, reach-trans, inverse-then, inverse-sym}

-- ---- the rules of an inner face, of the outer face and of a vertex as facts
pub record InnerFace (C : Counts) (L : Links) (f : ℕ) : Type 0 where
  pub stored : L.face (L.adjacent f) ≡ f
  pub apart : L.next (L.adjacent f) ≢ L.adjacent f
  pub back : L.next (L.next (L.next (L.adjacent f))) ≡ L.adjacent f
  pub all : (e : ℕ) → In C e → L.face e ≡ f → (e ≡ L.adjacent f) ⊎ (e ≡ L.next (L.adjacent f)) ⊎ (e ≡ L.next (L.next (L.adjacent f)))

pub record OuterFace (C : Counts) (L : Links) : Type 0 where
  pub stored : L.face (L.adjacent 0) ≡ 0
  pub apart : L.next (L.adjacent 0) ≢ L.adjacent 0
  pub wide : L.next (L.next (L.adjacent 0)) ≢ L.adjacent 0
  pub all : (e : ℕ) → In C e → L.face e ≡ 0 → Reach L.next (L.adjacent 0) e

pub record AboutVertex (C : Counts) (L : Links) (v : ℕ) : Type 0 where
  pub based : L.origin (L.out v) ≡ v
  pub all : (e : ℕ) → In C e → L.origin e ≡ v → Reach (turn L) (L.out v) e
