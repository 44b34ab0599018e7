-- Laws of specs/CoveredEnds.antt.
use Rattle.std.specs.Prelude.{◌≡◌, Bool, not, ◌&&◌, ◌||◌, ℕ, suc, ◌-◌, ◌<◌, eqb, pos}
use Rattle.std.proofs.Common.{sym, ◌∙◌, ap, ap₂, arith}
use Rattle.std.specs.Int.Signed.{lt_z}
use Rattle.math.specs.declared.Point.{Point}
use Rattle.math.specs.Determinant.{orient2d, is_behind_edge}
use Rattle.mesh.specs.declared.Counts.{Counts}
use Rattle.mesh.specs.Mesh.{Links, In, to}
use Rattle.mesh.specs.Wf.{Wf}
use Rattle.mesh.specs.Area.{boundary_length}
use Rattle.mesh.specs.Triangle.{rev-in}
use Rattle.mesh.specs.Frame.{SameBoundary}
use Rattle.mesh.specs.Operations.{create_single_face_between_edge_and_next, create_new_face_adjacent_to_edge}
use Rattle.mesh.proofs.NewFaceLaws.{new-face-frame}
use Rattle.mesh.proofs.SingleFaceLaws.{single-face-frame}
use Rattle.sums.specs.Iterate.{iter}
use Rattle.sums.proofs.IterateLaws.{iter-last, iter-keeps}
use Rattle.ring.proofs.Boundary.{outer-walk}
use Rattle.ring.specs.declared.Side.{Side}
use Rattle.ring.specs.declared.Side.TheVariants.{Left, Right}
use Rattle.ring.specs.Chain.{covers, covers_left, covers_right}
use Rattle.ring.specs.Covered.{Covered}
use Rattle.ring.proofs.CoveredLaws.{covered-in, covered-outer, right-four, left-four, p-in, p-outer, last-l, prev-in, prev-outer}
use Rattle.ring.specs.CoveredEnds.{SameEnds, RestEnds}

-- ---- kept by each face and by flips
pub ends-edge : {C : Counts} {L : Links} (W : Wf C L) {e : ℕ} (l : In C e) (o : L.face e ≡ 0)
    → RestEnds L (create_new_face_adjacent_to_edge L C e) (boundary_length C L - 1) (L.next e)
ends-edge W l o =
    record { at = λ k u. (let a = (new-face-frame W l o).ends (outer-walk W l o (suc k)).0 in record { origin = a.0; end = a.1 }) }

module _ {L₀ : Links} {α : ℕ → ℕ} {C : Counts} {L : Links} {α'' : ℕ → ℕ} {s m n l p q r : ℕ} (W : Wf C L)
    (K : Covered L₀.next α C L α'' s m (suc n) l p q r) (E : RestEnds L₀ L (suc n) r) where
  pub ends-right : (more : 0 < n) → RestEnds L₀ (create_single_face_between_edge_and_next L C p) n (L₀.next r)
  ends-right more = record {
    at = λ k u.
        let a = (single-face-frame W (p-in W K) (p-outer W K) (right-four W K more)).ends (covered-in W K (suc k) (omega arith)) in
        let b = E.at (suc k) (omega arith) in
        record { origin = a.0 ∙ b.origin; end = a.1 ∙ b.end };
  }

  pub ends-left : (more : 0 < n) → RestEnds L₀ (create_single_face_between_edge_and_next L C (L.prev l)) n r
  ends-left more = record {
    at = λ k u.
        let a = (single-face-frame W (prev-in W K more) (prev-outer W K more) (left-four W K more)).ends (covered-in W K k (omega arith)) in
        let b = E.at k (omega arith) in
        record { origin = a.0 ∙ b.origin; end = a.1 ∙ b.end };
  }

pub ends_same : {L₀ : Links} {α : ℕ → ℕ} {C : Counts} {L L' : Links} {α'' : ℕ → ℕ} {s m n l p q r : ℕ} (W : Wf C L)
    → SameBoundary C L L' → Covered L₀.next α C L α'' s m n l p q r
    → RestEnds L₀ L n r → RestEnds L₀ L' n r
ends_same W S K E = record {
  at = λ k u.
      let a = S.keeps (covered-in W K k u) (covered-outer W K k u) in
      let b = E.at k u in
      record { origin = a.origin ∙ b.origin; end = a.end ∙ b.end };
}

-- ---- the tests of the loops
module _ {C₀ : Counts} {L₀ : Links} (W₀ : Wf C₀ L₀) {L : Links} {p p' : ℕ → Point} {α α'' : ℕ → ℕ}
    (places : (v : ℕ) → v < C₀.vertices → p' v ≡ p v) (angles : (v : ℕ) → v < C₀.vertices → α'' v ≡ α v)
    {d : ℕ} (i : In C₀ d) (E : SameEnds L₀ L d) where
  from< : L₀.origin d < C₀.vertices
  from< = W₀.ranges.origin< i

  to< : to L₀ d < C₀.vertices
  to< = W₀.ranges.origin< (rev-in C₀ i)

  p-from : p' (L.origin d) ≡ p (L₀.origin d)
  p-from = ap p' E.origin ∙ places (L₀.origin d) from<

  p-to : p' (to L d) ≡ p (to L₀ d)
  p-to = ap p' E.end ∙ places (to L₀ d) to<

  test-same : (side : Side) (v : Point) (q : ℕ) → covers side L p' α'' v q d ≡ covers side L₀ p α v q d
  test-same Left v q = rw (p-from, p-to, E.end, angles (to L₀ d) to<)
  test-same Right v q = rw (p-from, p-to, E.origin, angles (L₀.origin d) from<)

  pub left-test : (v : Point) (q : ℕ) → covers_left L p' α'' v q d ≡ covers_left L₀ p α v q d
  unfolding covers_left
  left-test = test-same Left

  pub right-test : (v : Point) (q : ℕ) → covers_right L p' α'' v q d ≡ covers_right L₀ p α v q d
  unfolding covers_right
  right-test = test-same Right

-- the edge that the loop to the left looks at, before l, is the one before the chain; that to the right looks at r
pub left-next : {C₀ : Counts} {L₀ : Links} (W₀ : Wf C₀ L₀) {α : ℕ → ℕ} {C : Counts} {L : Links} {α'' : ℕ → ℕ}
    {s m n l p q r : ℕ} (W : Wf C L) → In C₀ r → Covered L₀.next α C L α'' s m (suc n) l p q r
    → (L.prev l ≡ L₀.prev s) × (iter n L₀.next r ≡ L₀.prev s)
left-next {C₀} {L₀} W₀ {α} {C} {L} {α''} {s} {m} {n} {l} {p} {q} {r} W i K =
    let x = iter n L₀.next r in
    let j : In C₀ x = iter-keeps (In C₀) (λ e u. W₀.ranges.next< u) n i in
    let b : x ≡ L₀.prev s = sym (W₀.links.prev-next j) ∙ ap L₀.prev (sym (iter-last n L₀.next r) ∙ K.spliced.round) in
    (last-l W K ∙ b, b)
