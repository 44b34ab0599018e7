-- What the operations do to the boundary as a sequence of half-edges. A flip leaves it. With e, n, .. the walk around
-- it from e, a face between e and n makes it o, .. and a face at e makes it b, a, .., where the rest is as it was.
-- Assumes nothing.
use Rattle.std.specs.Prelude.{◌≡◌, refl, ◌≢◌}
use Rattle.std.proofs.Math.Path.{sym, ap}
use Rattle.std.proofs.Common.{◌∙◌}
use Prim.Native.Nat.{ℕ, zero, suc, ◌+◌, ◌-◌, ◌*◌, ◌<◌, ◌≤◌}
use native.Mathlib.Omega.{arith}
use Rattle.sums.specs.Iterate.{iter}
use Rattle.sums.proofs.IterateLaws.{iter-last, iter-add, iter-keeps, iter-same, period-listed}
use Rattle.mesh.specs.declared.Counts.{Counts}
use Rattle.mesh.specs.Mesh.{Links, In}
use Rattle.mesh.specs.Wf.{Wf}
use Rattle.mesh.specs.Operations.{flip_cw, create_single_face_between_edge_and_next, create_new_face_adjacent_to_edge}
use Rattle.mesh.specs.Frame.{SameBoundary}
use Rattle.mesh.specs.Flip.{Flippable}
use Rattle.mesh.proofs.FlipLaws.{flip-frame}
use Rattle.mesh.proofs.SingleFaceLaws.{single-face-frame}
use Rattle.mesh.proofs.NewFaceLaws.{new-face-frame}
use Rattle.mesh.specs.Area.{boundary_length, hull_edge}
use Rattle.mesh.proofs.BoundaryLaws.{next-inverse, first<, first-outer, boundary-least, outer-period}

-- two walks that agree for m steps
steps-same : (f g : ℕ → ℕ) (a m : ℕ) → ((k : ℕ) → k < m → g (iter k f a) ≡ f (iter k f a)) → (k : ℕ) → k ≤ m → iter k g a ≡ iter k f a
steps-same f g a m same zero l = refl
steps-same f g a m same (suc k) l =
    iter-last k g a ∙ ap g (steps-same f g a m same k (omega arith)) ∙ same k (omega arith) ∙ sym (iter-last k f a)

pub boundary-same : {C : Counts} {L L' : Links} → Wf C L → SameBoundary C L L' → (k : ℕ) → hull_edge L' k ≡ hull_edge L k
boundary-same {C} {L} {L'} W S k =
    ap (iter k L'.next) S.adjacent
    ∙ iter-same (λ e. In C e × (L.face e ≡ 0)) (λ e m. (W.ranges.next< m.0, W.links.face-next m.0 ∙ m.1)) (λ e m. (S.keeps m.0 m.1).next) (first< W, first-outer W) k

pub flip-sequence : {C : Counts} {L : Links} → Wf C L → {u : ℕ} → Flippable C L u → (k : ℕ) → hull_edge (flip_cw L u) k ≡ hull_edge L k
flip-sequence W {u} B = boundary-same W (flip-frame W u B).boundary

module _ {C : Counts} {L : Links} (W : Wf C L) {e : ℕ} (l : In C e) (o : L.face e ≡ 0) where
  h : ℕ
  h = boundary_length C L

  -- the half-edges of the walk differ
  once : (j k : ℕ) → j < h → k < h → j ≢ k → iter j L.next e ≢ iter k L.next e
  unfolding h
  once j k u v n q = n ((period-listed (next-inverse W) l (outer-period W l o)).once j k u v q)

  walk< : (k : ℕ) → In C (iter k L.next e)
  walk< k = iter-keeps (In C) (λ e m. W.ranges.next< m) k l

  -- its last one is the one before e
  last : iter (h - 1) L.next e ≡ L.prev e
  unfolding h
  last = sym (W.links.prev-next (walk< (boundary_length C L - 1))) ∙ ap L.prev (sym (iter-last (boundary_length C L - 1) L.next e)
      ∙ ap (λ (k : ℕ). iter k L.next e) (back (boundary_length C L) (boundary-least W)) ∙ (outer-period W l o).back)
    where
      back : (n : ℕ) → 3 ≤ n → suc (n - 1) ≡ n
      back n m = omega arith

  -- from the j-th half-edge on, a function that differs from next at the last and at an earlier one makes the same steps
  rest-same : (g : ℕ → ℕ) (i j : ℕ) → i < j → ((x : ℕ) → In C x → x ≢ L.prev e → x ≢ iter i L.next e → g x ≡ L.next x)
      → (k : ℕ) → j + k < h → iter k g (iter j L.next e) ≡ iter k L.next (iter j L.next e)
  rest-same g i j m same k u = steps-same L.next g (iter j L.next e) (h - 1 - j) each k (omega arith)
    where
      each : (k : ℕ) → k < h - 1 - j → g (iter k L.next (iter j L.next e)) ≡ L.next (iter k L.next (iter j L.next e))
      each k v = rw (← iter-add j k L.next e) (same (iter (j + k) L.next e) (walk< (j + k))
          (λ q. once (j + k) (h - 1) (omega arith) (omega arith) (omega arith) (q ∙ sym last))
          (once (j + k) i (omega arith) (omega arith) (omega arith)))

  -- the face between e and next e: the new edge's outer half-edge o stands for the two
  module _ (four : L.prev e ≢ L.next (L.next e)) where
    pub single-face-first : hull_edge (create_single_face_between_edge_and_next L C e) 0 ≡ 2 * C.edges + 1
    single-face-first = (single-face-frame W l o four).stored-outer

    pub single-face-rest : (k : ℕ) → 2 + k < boundary_length C L
        → hull_edge (create_single_face_between_edge_and_next L C e) (suc k) ≡ iter k L.next (L.next (L.next e))
    unfolding h
    single-face-rest k u = let F = single-face-frame W l o four in let f = (create_single_face_between_edge_and_next L C e).next in
        ap (λ (x : ℕ). iter k f (f x)) F.stored-outer ∙ ap (iter k f) F.next-o ∙ rest-same f 1 2 (omega arith) (λ x m. F.next-rest m) k u

  -- the face of e and a new vertex: the outer half-edges b to the vertex and a from it stand for e
  pub new-face-first : hull_edge (create_new_face_adjacent_to_edge L C e) 0 ≡ 2 * C.edges + 2 + 1
  new-face-first = (new-face-frame W l o).stored-outer

  pub new-face-second : hull_edge (create_new_face_adjacent_to_edge L C e) 1 ≡ 2 * C.edges + 1
  new-face-second = let F = new-face-frame W l o in ap (create_new_face_adjacent_to_edge L C e).next F.stored-outer ∙ F.next-b'

  pub new-face-rest : (k : ℕ) → 1 + k < boundary_length C L
      → hull_edge (create_new_face_adjacent_to_edge L C e) (suc (suc k)) ≡ iter k L.next (L.next e)
  unfolding h
  new-face-rest k u = let F = new-face-frame W l o in let f = (create_new_face_adjacent_to_edge L C e).next in
      ap (λ (x : ℕ). iter k f (f x)) new-face-second ∙ ap (iter k f) F.next-a' ∙ rest-same f 0 1 (omega arith) (λ x m. F.next-rest m) k u
