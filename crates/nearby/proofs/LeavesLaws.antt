-- Laws of specs/Leaves.antt.
use Rattle.std.specs.Prelude.{Bool, true, false, ◌&&◌, ◌≢◌, ◌≡◌, refl, pos, ◌<ℤ◌}
use Rattle.std.proofs.Math.Bool.{not}
use Rattle.std.proofs.Math.Path.{sym, ap, ap₂}
use Rattle.std.proofs.Common.{◌∙◌, arith}
use Prim.Native.Nat.{ℕ, zero, suc, ◌+◌, ◌-◌, ◌*◌, ◌<◌, ◌≤◌}
use Rattle.std.proofs.Math.Decide.{ℕ_discrete}
use Rattle.sums.specs.Bit.{bit}
use Rattle.sums.specs.Bounded.{count}
use Rattle.sums.proofs.BoundedLaws.{count-ext}
use Rattle.sums.specs.Iterate.{iter}
use Rattle.sums.proofs.IterateLaws.{iter-last, iter-keeps, period-listed}
use Rattle.math.specs.declared.Point.{Point}
use Rattle.math.specs.declared.Vector.{Vector}
use Rattle.math.specs.Vector.{difference, dot_of}
use Rattle.mesh.specs.declared.Counts.{Counts}
use Rattle.mesh.specs.Mesh.{Links, In}
use Rattle.mesh.specs.Operations.{create_single_face_between_edge_and_next, create_new_face_adjacent_to_edge, with_face, with_vertex}
use Rattle.mesh.specs.Wf.{Wf}
use Rattle.mesh.specs.Area.{boundary_length, hull_edge}
use Rattle.mesh.proofs.BoundaryLaws.{next-inverse, boundary-period, boundary-below, boundary-outer, boundary-least, outer-period}
use Rattle.mesh.proofs.BoundarySequence.{single-face-first, single-face-rest, new-face-first, new-face-second, new-face-rest}
use Rattle.mesh.proofs.CountsLaws.{count-edges}
use Rattle.mesh.specs.SingleFace.{SingleFaceFrame}
use Rattle.mesh.proofs.SingleFaceLaws.{single-face-frame}
use Rattle.mesh.specs.NewFace.{NewFaceFrame}
use Rattle.mesh.proofs.NewFaceLaws.{new-face-frame, new-face-keeps}
use Rattle.outline.specs.Outline.{upper, count_boundary, direction, falls_next, full_circles}
use Rattle.outline.proofs.OutlineLaws.{falls}
use Rattle.outline.specs.HalfPlane.{left}
use Rattle.outline.proofs.HalfPlaneLaws.{RightTurn}
use Rattle.outline.proofs.MeshHull.{count-from}
use Rattle.outline.proofs.Rounds.{leaves-left}
use Rattle.nearby.specs.Test.{RightTurns}
use Rattle.nearby.specs.Leaves.{leaves_next, leaves_along}

-- ---- every half-plane is left as often as the upper one
module _ {C : Counts} {L : Links} (W : Wf C L) (p : ℕ → Point) (R : RightTurns C L p) where
  abbrev w : ℕ → Vector
  w k = direction L p (hull_edge L k)

  w-next : (k : ℕ) → w (suc k) ≡ direction L p (L.next (hull_edge L k))
  w-next k = ap (direction L p) (iter-last k L.next (L.adjacent 0))

  in_order : (t : Vector → Bool) → count (boundary_length C L) (falls (λ k. t (w k))) ≡ leaves_along t C L p
  unfolding count_boundary
  in_order t = count-ext (boundary_length C L) (falls (λ k. t (w k))) (λ k. leaves_next t L p (hull_edge L k))
      (λ k l. ap (λ (u : Vector). t (w k) && not (t u)) (w-next k))

  turn-right : (k : ℕ) → RightTurn (w k) (w (suc k))
  turn-right k = rw (w-next k) (R.turns (boundary-below W k) (boundary-outer W k))

  pub leaves-circles : (a : Vector) → pos 0 <ℤ dot_of a a → leaves_along (left a) C L p ≡ full_circles C L p
  unfolding falls_next
  leaves-circles a h =
      sym (in_order (left a))
      ∙ leaves-left (boundary_length C L) w (ap (direction L p) (boundary-period W).back) turn-right a h
      ∙ in_order upper

-- ---- a face at the boundary
-- a count from the front
pub count-first : (n : ℕ) (t : ℕ → Bool) → count (suc n) t ≡ bit (t 0) + count n (λ i. t (suc i))
unfolding count
count-first zero t = refl
count-first (suc n) t = let k = count-first n t in omega arith

not-passed : (b c : Bool) → b ≡ false → bit (b && not c) ≡ 0
not-passed true c q = absurd (let z : ◌≡◌ {A = ℕ} 0 1 = cc in omega arith)
not-passed false c q = refl

add-0 : (n : ℕ) → 0 + n ≡ n
add-0 n = omega arith

module _ {C : Counts} {L : Links} (W : Wf C L) (p : ℕ → Point) (t : Vector → Bool) {e : ℕ} (l : In C e) (o : L.face e ≡ 0)
    (fails-e : t (direction L p e) ≡ false) where
  along : (k : ℕ) → In C (iter k L.next e) × (L.face (iter k L.next e) ≡ 0)
  along k = iter-keeps (λ x. In C x × (L.face x ≡ 0)) (λ x m. (W.ranges.next< m.0, W.links.face-next m.0 ∙ m.1)) k (l, o)

  once : (j k : ℕ) → j < boundary_length C L → k < boundary_length C L → j ≢ k → iter j L.next e ≢ iter k L.next e
  once j k u v n q = n ((period-listed (next-inverse W) l (outer-period W l o)).once j k u v q)

  -- a half-edge that keeps its direction, whose next fails the test before and after, or keeps its direction too
  leave_same : (K : Links) (x : ℕ) → direction K p x ≡ direction L p x → t (direction K p (K.next x)) ≡ t (direction L p (L.next x))
      → leaves_next t K p x ≡ leaves_next t L p x
  leave_same K x a b = ap₂ (λ (u v : Bool). u && not v) (ap t a) b

  -- between e and the next
  module _ (four : L.prev e ≢ L.next (L.next e)) (W' : Wf (with_face C) (create_single_face_between_edge_and_next L C e))
      (fails-n : t (direction L p (L.next e)) ≡ false)
      (fails-o : t (direction (create_single_face_between_edge_and_next L C e) p (2 * C.edges + 1)) ≡ false) where
    abbrev K : Links
    K = create_single_face_between_edge_and_next L C e

    F : SingleFaceFrame C (with_face C) L K (L.prev e) e (L.next e) (L.next (L.next e)) (2 * C.edges) (2 * C.edges + 1)
    F = single-face-frame W l o four

    kept : {x : ℕ} → In C x → direction K p x ≡ direction L p x
    unfolding direction
    kept j = let k = F.ends j in ap₂ (λ (u v : ℕ). difference (p u) (p v)) k.1 k.0

    next-test : {x : ℕ} → In C x → x ≢ L.next e → t (direction K p (K.next x)) ≡ t (direction L p (L.next x))
    next-test {x} j n = go (ℕ_discrete x (L.prev e))
      where
        go : Dec (x ≡ L.prev e) → t (direction K p (K.next x)) ≡ t (direction L p (L.next x))
        go (yes q) =
            ap (λ (y : ℕ). t (direction K p y)) (ap K.next q ∙ F.next-p) ∙ fails-o
            ∙ sym (ap (λ (y : ℕ). t (direction L p y)) (ap L.next q ∙ W.links.next-prev l) ∙ fails-e)
        go (no q) = ap (λ (y : ℕ). t (direction K p y)) (F.next-rest j q n) ∙ ap t (kept (W.ranges.next< j))

    -- the first of the walk along the new boundary does not count, nor do the first two of the old one
    after-face : (m : ℕ) → boundary_length C L ≡ suc (suc m)
        → leaves_along t (with_face C) K p ≡ count m (λ i. leaves_next t K p (hull_edge K (suc i)))
    unfolding count_boundary
    after-face m q =
        let h : boundary_length (with_face C) K ≡ suc m = (let a = count-edges W in let b = count-edges W' in omega arith) in
        ap (λ (n : ℕ). count n (λ k. leaves_next t K p (hull_edge K k))) h ∙ count-first m (λ k. leaves_next t K p (hull_edge K k))
        ∙ ap (λ (n : ℕ). n + count m (λ i. leaves_next t K p (hull_edge K (suc i))))
        (not-passed (t (direction K p (hull_edge K 0))) (t (direction K p (K.next (hull_edge K 0))))
        (ap (λ (y : ℕ). t (direction K p y)) (single-face-first W l o four) ∙ fails-o))
        ∙ add-0 (count m (λ i. leaves_next t K p (hull_edge K (suc i))))

    before-face : (m : ℕ) → boundary_length C L ≡ suc (suc m)
        → leaves_along t C L p ≡ count m (λ i. leaves_next t L p (iter i L.next (L.next (L.next e))))
    before-face m q =
        sym (count-from W (leaves_next t L p) l o) ∙ ap (λ (n : ℕ). count n (λ k. leaves_next t L p (iter k L.next e))) q
        ∙ count-first (suc m) (λ k. leaves_next t L p (iter k L.next e))
        ∙ ap (λ (n : ℕ). n + count (suc m) (λ i. leaves_next t L p (iter i L.next (L.next e))))
        (not-passed (t (direction L p e)) (t (direction L p (L.next e))) fails-e)
        ∙ add-0 (count (suc m) (λ i. leaves_next t L p (iter i L.next (L.next e))))
        ∙ count-first m (λ k. leaves_next t L p (iter k L.next (L.next e)))
        ∙ ap (λ (n : ℕ). n + count m (λ i. leaves_next t L p (iter i L.next (L.next (L.next e)))))
        (not-passed (t (direction L p (L.next e))) (t (direction L p (L.next (L.next e)))) fails-n)
        ∙ add-0 (count m (λ i. leaves_next t L p (iter i L.next (L.next (L.next e)))))

    pub single-face-leaves : leaves_along t (with_face C) K p ≡ leaves_along t C L p
    single-face-leaves = go (boundary_length C L - 2) (two (boundary_length C L) (boundary-least W))
      where
        two : (h : ℕ) → 3 ≤ h → h ≡ suc (suc (h - 2))
        two h k = omega arith

        go : (m : ℕ) → boundary_length C L ≡ suc (suc m) → leaves_along t (with_face C) K p ≡ leaves_along t C L p
        go m q =
            after-face m q
            ∙ count-ext m (λ i. leaves_next t K p (hull_edge K (suc i))) (λ i. leaves_next t L p (iter i L.next (L.next (L.next e))))
            (λ i u. ap (leaves_next t K p) (single-face-rest W l o four i (omega arith))
            ∙ leave_same K (iter i L.next (L.next (L.next e))) (kept (along (suc (suc i))).0)
            (next-test (along (suc (suc i))).0 (once (suc (suc i)) 1 (omega arith) (omega arith) (omega arith))))
            ∙ sym (before-face m q)

  -- of e and a new vertex
  module _ (fails-b : t (direction (create_new_face_adjacent_to_edge L C e) p (2 * C.edges + 2 + 1)) ≡ false)
      (fails-a : t (direction (create_new_face_adjacent_to_edge L C e) p (2 * C.edges + 1)) ≡ false) where
    abbrev M : Links
    M = create_new_face_adjacent_to_edge L C e

    H : NewFaceFrame C (with_vertex C) L M (L.prev e) e (L.next e) (2 * C.edges) (2 * C.edges + 1) (2 * C.edges + 2)
        (2 * C.edges + 2 + 1)
    H = new-face-frame W l o

    kept-m : {x : ℕ} → In C x → direction M p x ≡ direction L p x
    unfolding direction
    kept-m j = let k = H.ends j in ap₂ (λ (u v : ℕ). difference (p u) (p v)) k.1 k.0

    next-test-m : {x : ℕ} → In C x → x ≢ e → t (direction M p (M.next x)) ≡ t (direction L p (L.next x))
    next-test-m {x} j n = go (ℕ_discrete x (L.prev e))
      where
        go : Dec (x ≡ L.prev e) → t (direction M p (M.next x)) ≡ t (direction L p (L.next x))
        go (yes q) =
            ap (λ (y : ℕ). t (direction M p y)) (ap M.next q ∙ H.next-p) ∙ fails-b
            ∙ sym (ap (λ (y : ℕ). t (direction L p y)) (ap L.next q ∙ W.links.next-prev l) ∙ fails-e)
        go (no q) = ap (λ (y : ℕ). t (direction M p y)) (H.next-rest j q n) ∙ ap t (kept-m (W.ranges.next< j))

    after-new : (m : ℕ) → boundary_length C L ≡ suc m
        → leaves_along t (with_vertex C) M p ≡ count m (λ i. leaves_next t M p (hull_edge M (suc (suc i))))
    unfolding count_boundary
    after-new m q =
        let h : boundary_length (with_vertex C) M ≡ suc (suc m) = (let a = count-edges W in let b = count-edges (new-face-keeps W l o) in omega arith) in
        ap (λ (n : ℕ). count n (λ k. leaves_next t M p (hull_edge M k))) h ∙ count-first (suc m) (λ k. leaves_next t M p (hull_edge M k))
        ∙ ap (λ (n : ℕ). n + count (suc m) (λ i. leaves_next t M p (hull_edge M (suc i))))
        (not-passed (t (direction M p (hull_edge M 0))) (t (direction M p (M.next (hull_edge M 0))))
        (ap (λ (y : ℕ). t (direction M p y)) (new-face-first W l o) ∙ fails-b))
        ∙ add-0 (count (suc m) (λ i. leaves_next t M p (hull_edge M (suc i))))
        ∙ count-first m (λ k. leaves_next t M p (hull_edge M (suc k)))
        ∙ ap (λ (n : ℕ). n + count m (λ i. leaves_next t M p (hull_edge M (suc (suc i)))))
        (not-passed (t (direction M p (hull_edge M 1))) (t (direction M p (M.next (hull_edge M 1))))
        (ap (λ (y : ℕ). t (direction M p y)) (new-face-second W l o) ∙ fails-a))
        ∙ add-0 (count m (λ i. leaves_next t M p (hull_edge M (suc (suc i)))))

    before-new : (m : ℕ) → boundary_length C L ≡ suc m
        → leaves_along t C L p ≡ count m (λ i. leaves_next t L p (iter i L.next (L.next e)))
    before-new m q =
        sym (count-from W (leaves_next t L p) l o) ∙ ap (λ (n : ℕ). count n (λ k. leaves_next t L p (iter k L.next e))) q
        ∙ count-first m (λ k. leaves_next t L p (iter k L.next e))
        ∙ ap (λ (n : ℕ). n + count m (λ i. leaves_next t L p (iter i L.next (L.next e))))
        (not-passed (t (direction L p e)) (t (direction L p (L.next e))) fails-e)
        ∙ add-0 (count m (λ i. leaves_next t L p (iter i L.next (L.next e))))

    pub new-face-leaves : leaves_along t (with_vertex C) M p ≡ leaves_along t C L p
    new-face-leaves = go (boundary_length C L - 1) (one (boundary_length C L) (boundary-least W))
      where
        one : (h : ℕ) → 3 ≤ h → h ≡ suc (h - 1)
        one h k = omega arith

        go : (m : ℕ) → boundary_length C L ≡ suc m → leaves_along t (with_vertex C) M p ≡ leaves_along t C L p
        go m q =
            after-new m q
            ∙ count-ext m (λ i. leaves_next t M p (hull_edge M (suc (suc i)))) (λ i. leaves_next t L p (iter i L.next (L.next e)))
            (λ i u. ap (leaves_next t M p) (new-face-rest W l o i (omega arith))
            ∙ leave_same M (iter i L.next (L.next e)) (kept-m (along (suc i)).0) (next-test-m (along (suc i)).0 (once (suc i) 0 (omega arith) (omega arith) (omega arith))))
            ∙ sym (before-new m q)
