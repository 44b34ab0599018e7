-- Laws of specs/Laws.antt.
use Rattle.std.specs.Prelude.{◌≡◌, ◌&&◌, Float, Ok}
use Rattle.std.proofs.Math.Path.{refl}
use Rattle.std.proofs.Math.Bool.{Bool, true, false, not, cond}
use Prim.Native.Nat.{ℕ, suc, ◌-◌, ◌<◌}
use Rattle.std.proofs.Common.{arith}
use Rattle.std.proofs.Math.Dec.{T, ltb, ltb→lt}
use Rattle.math.specs.declared.Point.{Point}
use Rattle.mesh.specs.declared.Counts.{Counts}
use Rattle.mesh.specs.Mesh.{Links}
use Rattle.mesh_check.specs.Check.{refused}
use Rattle.locate.specs.Locate.{check_ring}
use Rattle.ring.specs.Center.{refuses_center, refuses_ring}
use Rattle.sums.proofs.BitLaws.{from-true, and_left, and_right}
use Rattle.sums.proofs.BoundedLaws.{any-below→}
use Rattle.hull_center.specs.HullCenter.{hull_center, last_three, is_center_left_of, holds_center_at, holds_center, accepts_center, is_ready}
use Rattle.hull_center.specs.Laws.{FaceHolds, ReadyStart}

module _ (C : Counts) (L : Links) (p : ℕ → Point) where
  holding : T (holds_center C L p) → (f : ℕ) × FaceHolds C L p f
  unfolding holds_center holds_center_at
  holding t =
      let r = any-below→ (C.faces - 1) (λ f. holds_center_at L p (last_three C p) (L.adjacent (suc f))) t in
      let left : ℕ → Bool = is_center_left_of L p (last_three C p) in
      let a = L.adjacent (suc r.0) in
      let b = L.next a in
      let more = and_right (left a) (left b && left (L.next b)) r.2 in (
        suc r.0,
        record {
          inner = omega arith;
          below = let l = r.1 in omega arith;
          first = and_left (left a) (left b && left (L.next b)) r.2;
          second = and_left (left b) (left (L.next b)) more;
          last = and_right (left b) (left (L.next b)) more;
        },
      )

  accepting : (cx cy : Float) → T (accepts_center C L p cx cy) → check_ring C L p cx cy ≡ Ok tt
  unfolding accepts_center check_ring
  accepting cx cy = go (refuses_center C L p cx cy) (refuses_ring C L p cx cy)
    where
      go : (t u : Bool) → T (not t && not u) → cond t (refused 6 0) (cond u (refused 7 0) (Ok tt)) ≡ Ok tt
      go true u x = absurd x
      go false true x = absurd x
      go false false x = refl

  pub ready-start : is_ready C L p ≡ true → ReadyStart C L p
  unfolding is_ready
  ready-start e =
      let some = ltb 1 C.faces in
      let holds = holds_center C L p in
      let ring = accepts_center C L p (hull_center C p).x (hull_center C p).y in
      let more = and_right some (holds && ring) (from-true e) in
      let h = holding (and_left holds ring more) in
      record {
        faces = ltb→lt 1 C.faces (and_left some (holds && ring) (from-true e));
        ring = accepting (hull_center C p).x (hull_center C p).y (and_right holds ring more);
        face = h.0;
        holds = h.1;
      }
