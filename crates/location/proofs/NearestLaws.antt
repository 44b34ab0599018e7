-- The walk to a nearest vertex ends within its 2E turns: each turn leaves fewer vertices strictly closer.
-- `nearest-falls` is the measure of the code's loop. Assumes nothing.
use Rattle.std.specs.Prelude.{◌≡◌, refl, [], ◌∷◌, Bool, ℕ, ◌*◌, ◌<◌, ltb}
use Rattle.std.proofs.Common.{sym, ltb→lt}
use Rattle.std.proofs.Math.Path.{ap}
use Rattle.std.proofs.Math.Bool.{true, false, not, cond}
use native.Mathlib.Omega.{arith}
use Rattle.std.proofs.Math.Dec.{T}
use Rattle.std.specs.Int.Signed.{lt_z_yes, <ℤ_irrefl}
use Rattle.algebra.proofs.RingLaws.{v0, v1, v2}
use Rattle.algebra.proofs.Sign.{◌+⁺◌, weak, lt_in, lt_by}
use Rattle.sums.proofs.BitLaws.{from-true}
use Rattle.sums.proofs.BoundedLaws.{count-le, first-below-passes, count_less}
use Rattle.sums.proofs.IterateLaws.{iter-keeps}
use Rattle.sums.proofs.UntilLaws.{Falls, until-ends}
use Rattle.math.specs.declared.Point.{Point}
use Rattle.math.specs.Determinant.{length2}
use Rattle.mesh.specs.declared.Counts.{Counts}
use Rattle.mesh.specs.Mesh.{Links, In, turn}
use Rattle.mesh.specs.Wf.{Wf}
use Rattle.mesh.specs.Triangle.{rev-in}
use Rattle.mesh.proofs.BoundaryLaws.{first<}
use Rattle.location.specs.Search.{spokes, spoke_end, closer, closer_count, first_closer, is_nearest, nearer, nearest, search_from}
use Rattle.location.specs.Scan.{scan, answer, locate_point}
use Rattle.location.proofs.HeldLaws.{some-inner}

-- ---- closer
module _ {C : Counts} {L : Links} (W : Wf C L) (p : ℕ → Point) (q : Point) where
  closer-than : (u v w : ℕ) → T (closer p q u v) → T (closer p q v w) → T (closer p q u w)
  closer-than u v w h k =
      let ρ = length2 (p u) q ∷ length2 (p v) q ∷ length2 (p w) q ∷ [] in
      (lt_by (lt_in ρ v1 v0 (lt_z_yes h) +⁺ weak (lt_in ρ v2 v1 (lt_z_yes k))) v2 v0 refl).lt

  not_itself : (v : ℕ) → T (closer p q v v) → ⊥
  not_itself v h = <ℤ_irrefl (lt_z_yes {a = length2 (p v) q} {b = length2 (p v) q} h)

  pub nearer-used : {v : ℕ} → v < C.vertices → nearer C L p q v < C.vertices
  unfolding nearer
  nearer-used {v} l = W.ranges.origin< (rev-in C (iter-keeps {f = turn L} (In C) (λ x k. rev-in C (W.ranges.prev< k)) (first_closer C L p q v) (W.ranges.out< l)))

  -- where the walk goes on it comes closer
  pub nearer-closer : (v : ℕ) → is_nearest C L p q v ≡ false → T (closer p q v (nearer C L p q v))
  unfolding is_nearest nearer first_closer
  nearer-closer v e = first-below-passes (spokes C L v) (λ k. closer p q v (spoke_end L v k)) (ltb→lt (first_closer C L p q v) (spokes C L v) (go (ltb (first_closer C L p q v) (spokes C L v)) e))
    where
      go : (x : Bool) → not x ≡ false → T x
      go true e = tt
      go false e = from-true (sym e)

  pub nearest-falls : Falls (is_nearest C L p q) (nearer C L p q) (λ v. v < C.vertices) (closer_count C p q)
  unfolding closer_count
  nearest-falls = record {
    keeps = λ v l e. nearer-used l;
    less = λ v l e.
        let k = nearer-closer v e in
        count_less C.vertices (closer p q (nearer C L p q v)) (closer p q v) (λ i m t. closer-than v (nearer C L p q v) i k t) {k = nearer C L p q v} (nearer-used l)
        (not_itself (nearer C L p q v)) k;
  }

  -- it is a nearest vertex, of those about it
  pub nearest-ends : is_nearest C L p q (nearest C L p q) ≡ true
  unfolding nearest closer_count
  nearest-ends =
      let o : 0 < C.vertices = let k = W.ranges.origin< (first< W) in omega arith in
      let m = count-le C.vertices (closer p q 0) in
      let e = W.euler in
      let f = some-inner W in
      until-ends (is_nearest C L p q) (nearer C L p q) nearest-falls (2 * C.edges) 0 o (omega arith)

  -- so the scan begins only after the rotating walk
  pub locate-search : locate_point C L p q ≡ answer (scan C L p q) (search_from C L p q (L.out (nearest C L p q)))
  unfolding locate_point
  locate-search = ap (λ (x : Bool). cond x (answer (scan C L p q) (search_from C L p q (L.out (nearest C L p q)))) (scan C L p q)) nearest-ends
