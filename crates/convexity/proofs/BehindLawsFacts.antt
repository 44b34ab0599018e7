-- Laws of specs/BehindLaws.antt.
use Rattle.std.specs.Prelude.{true, ◌≡◌, ◌≢◌, ℕ, suc, ◌+◌, ◌*◌, ◌/◌, ◌<◌}
use Rattle.std.proofs.Common.{sym, ◌∙◌, ap}
use native.Mathlib.Omega.{arith}
use Rattle.std.specs.Int.Signed.{lt_z_yes}
use Rattle.corner.specs.Corner.{Extended, close_corner}
use Rattle.corner.specs.CornerLaws.{LeftCorner, CornerClosed, closes-corner, closed-boundary}
use Rattle.math.specs.declared.Point.{Point}
use Rattle.mesh.specs.declared.Counts.{Counts}
use Rattle.mesh.specs.Mesh.{Links, In}
use Rattle.mesh.specs.Operations.{create_single_face_between_edge_and_next, with_face}
use Rattle.mesh.specs.Wf.{Wf}
use Rattle.mesh.specs.Area.{boundary_length}
use Rattle.mesh.proofs.BoundaryLaws.{next-inverse, outer-period, period-back, boundary-least}
use Rattle.mesh.proofs.LeftLaws.{corner-four}
use Rattle.mesh.specs.Frame.{SameBoundary}
use Rattle.mesh.specs.SingleFace.{SingleFaceFrame}
use Rattle.mesh.proofs.SingleFaceLaws.{single-face-frame}
use Rattle.mesh.specs.Good.{Good}
use Rattle.mesh.proofs.GoodLaws.{single-face-good, single-face-length}
use Rattle.sums.proofs.BitLaws.{from-true}
use Rattle.sums.specs.Iterate.{iter, Period}
use Rattle.sums.proofs.IterateLaws.{iter-keeps, iter-same, iter-ext, inverse-sym, period-listed}
use Rattle.convexity.specs.Convexity.{turns_left_at}
use Rattle.convexity.specs.BehindLaws.{Behind}

-- ---- the half-edges of the boundary behind c
module _ {C : Counts} {L : Links} (W : Wf C L) where
  pub face-prev : {e : ℕ} → In C e → L.face (L.prev e) ≡ L.face e
  face-prev m = sym (W.links.face-next (W.ranges.prev< m)) ∙ ap L.face (W.links.next-prev m)

  pub behind-stays : (e : ℕ) → In C e × (L.face e ≡ 0) → In C (L.prev e) × (L.face (L.prev e) ≡ 0)
  behind-stays e (m, z) = (W.ranges.prev< m, face-prev m ∙ z)

  -- where the boundary's links are kept, they are the same
  pub behind-same : {L' : Links} → SameBoundary C L L' → {c : ℕ} → In C c → L.face c ≡ 0 → (k : ℕ)
      → iter k L'.prev c ≡ iter k L.prev c
  behind-same S l o = iter-same (λ e. In C e × (L.face e ≡ 0)) behind-stays (λ e (m, z). (S.keeps m z).prev) (l, o)

  module _ {c : ℕ} (l : In C c) (o : L.face c ≡ 0) where
    pub behind-in : (k : ℕ) → In C (iter k L.prev c) × (L.face (iter k L.prev c) ≡ 0)
    behind-in k = iter-keeps (λ e. In C e × (L.face e ≡ 0)) behind-stays k (l, o)

    -- once around they differ, and then c comes again
    pub behind-period : Period L.prev c (boundary_length C L)
    behind-period = period-back (next-inverse W) l (outer-period W l o)

    pub behind-once : (j k : ℕ) → j < boundary_length C L → k < boundary_length C L → j ≢ k → iter j L.prev c ≢ iter k L.prev c
    behind-once j k u v n q = n ((period-listed (inverse-sym (next-inverse W)) l behind-period).once j k u v q)

-- ---- the corner of the two half-edges behind c
module _ {C : Counts} {L : Links} {p : ℕ → Point} (G : Good C L p) {c : ℕ} (l : In C c) (o : L.face c ≡ 0)
    (h : turns_left_at L p (L.prev (L.prev c)) (L.prev c) ≡ true) where
  abbrev d : ℕ
  d = L.prev (L.prev c)

  abbrev K : Links
  K = create_single_face_between_edge_and_next L C d

  next-d : L.next d ≡ L.prev c
  next-d = G.wf.links.next-prev (G.wf.ranges.prev< l)

  next-next-d : L.next (L.next d) ≡ c
  next-next-d = ap L.next next-d ∙ G.wf.links.next-prev l

  pub corner-in : In C d × (L.face d ≡ 0)
  corner-in = behind-in G.wf l o 2

  pub corner-left : LeftCorner L p d
  unfolding turns_left_at
  corner-left = rw next-d (lt_z_yes (from-true h))

  four : L.prev d ≢ L.next (L.next d)
  four = corner-four G.wf G.turning corner-in.0 corner-in.1 corner-left

  frame : SingleFaceFrame C (with_face C) L K (L.prev d) d (L.next d) (L.next (L.next d)) (2 * C.edges) (2 * C.edges + 1)
  frame = single-face-frame G.wf corner-in.0 corner-in.1 four

  pub corner-good : Good (with_face C) K p
  corner-good = single-face-good G corner-in.0 corner-in.1 corner-left

  pub corner-shorter : boundary_length (with_face C) K + 1 ≡ boundary_length C L
  corner-shorter = single-face-length G corner-in.0 corner-in.1 corner-left

  -- c stays on the boundary, and the new half-edge is behind it
  least : 2 < boundary_length C L
  least = let k = corner-shorter in let n = boundary-least corner-good.wf in omega arith

  pub corner-current : K.face c ≡ 0
  corner-current = frame.outer-rest l o (behind-once G.wf l o 0 2 (omega (arith, least)) least (omega arith))
      (λ q. behind-once G.wf l o 0 1 (omega (arith, least)) (omega (arith, least)) (omega arith) (q ∙ next-d))

  pub corner-behind : K.prev c ≡ 2 * C.edges + 1
  corner-behind = ap K.prev (sym next-next-d) ∙ frame.prev-q

  -- and behind that, what was behind the corner
  pub corner-rest : (k : ℕ) → suc (suc k) < boundary_length C L → iter (suc (suc k)) K.prev c ≡ iter (suc (suc (suc k))) L.prev c
  corner-rest k u = ap (λ (x : ℕ). iter k K.prev (K.prev x)) corner-behind ∙ ap (iter k K.prev) frame.prev-o ∙ iter-ext L.prev K.prev k (L.prev d) agree
    where
      agree : (j : ℕ) → j < k → K.prev (iter j L.prev (L.prev d)) ≡ L.prev (iter j L.prev (L.prev d))
      agree j v = frame.prev-rest (behind-in G.wf l o (suc (suc (suc j)))).0
          (behind-once G.wf l o (suc (suc (suc j))) 2 (omega arith) least (omega arith))
          (λ q. behind-once G.wf l o (suc (suc (suc j))) 0 (omega arith) (omega (arith, least)) (omega arith) (q ∙ next-next-d))

module _ (room : ℕ) (p : ℕ → Point) (m : Extended) (G : Good m.counts m.links p) {c : ℕ} (l : In m.counts c)
    (o : m.links.face c ≡ 0)
    (h : turns_left_at m.links p (m.links.prev (m.links.prev c)) (m.links.prev c) ≡ true) where
  abbrev e₂ : ℕ
  e₂ = m.links.prev c

  abbrev e₁ : ℕ
  e₁ = m.links.prev e₂

  pub closes : CornerClosed p m (close_corner room p m e₁ (e₁ / 2) (e₂ / 2)) e₁
  closes = closes-corner room p m G (corner-in G l o h).0 (corner-in G l o h).1 (corner-left G l o h)
      (let i = (behind-in G.wf l o 2).0 in omega arith) (let i = (behind-in G.wf l o 1).0 in omega arith)

  pub closes-behind : Behind m.counts (close_corner room p m e₁ (e₁ / 2) (e₂ / 2)).counts m.links
      (close_corner room p m e₁ (e₁ / 2) (e₂ / 2)).links c
  unfolding close_corner
  closes-behind =
      let G' = corner-good G l o h in
      let S = closed-boundary G closes in
      let i : In (with_face m.counts) c = omega arith in
      let z = corner-current G l o h in
      let same = behind-same G'.wf S i z in
      record {
        current = (i, (S.keeps i z).face ∙ z);
        last = same 1 ∙ corner-behind G l o h;
        rest = λ k u. same (suc (suc k)) ∙ corner-rest G l o h k u;
      }
