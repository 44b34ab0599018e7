-- Stokes' theorem of a mesh: the inner faces' circulations of a cochain total minus the boundary's. The two halves of
-- an edge cancel, so the sum over all half-edges is 0; it goes along the boundary and face by face. Assumes nothing.
use Rattle.std.specs.Prelude.{◌≡◌, refl, [], ◌∷◌, ℕ, ◌+◌, ◌*◌, ◌<◌, ℤ, pos, neg_ℤ, ◌+ℤ◌}
use Rattle.std.proofs.Common.{sym, ◌∙◌, ap, arith}
use Rattle.std.proofs.Math.IntN.{+ℤ_invr}
use Rattle.algebra.specs.Ring.{num, ◌⊕◌, ⊝◌}
use Rattle.algebra.proofs.RingLaws.{v0, v1}
use Rattle.algebra.proofs.Sign.{eq-in, eq-by}
use Rattle.sums.proofs.HalfLaws.{rev-even}
use Rattle.sums.specs.Sum.{sum}
use Rattle.sums.proofs.SumLaws.{sum-none, sum-pairs}
use Rattle.mesh.specs.declared.Counts.{Counts}
use Rattle.mesh.specs.Mesh.{Links}
use Rattle.mesh.specs.Wf.{Wf}
use Rattle.mesh.proofs.BoundaryLaws.{by-face}
use Rattle.mesh.specs.Cochain.{Cochain, inner_circulation, boundary_circulation}

-- the two halves of an edge cancel
pub edges-cancel : {C : Counts} {c : ℕ → ℤ} → Cochain C c → sum (2 * C.edges) c ≡ pos 0
edges-cancel {C} {c} o = sum-pairs C.edges c ∙ sum-none C.edges (λ u. c (2 * u) +ℤ c (2 * u + 1)) pair
  where
    pair : (u : ℕ) → u < C.edges → c (2 * u) +ℤ c (2 * u + 1) ≡ pos 0
    pair u l = ap (λ (z : ℤ). c (2 * u) +ℤ z) (ap c (sym (rev-even u)) ∙ o.odd {e = 2 * u} (omega arith)) ∙ +ℤ_invr (c (2 * u))

pub stokes : {C : Counts} {L : Links} → Wf C L → {c : ℕ → ℤ} → Cochain C c → inner_circulation C L c ≡ neg_ℤ (boundary_circulation C L c)
unfolding inner_circulation boundary_circulation
stokes {C} {L} W {c} o =
    let ρ = inner_circulation C L c ∷ boundary_circulation C L c ∷ [] in
    eq-by (eq-in ρ (v1 ⊕ v0) (num (pos 0)) (sym (by-face W c) ∙ edges-cancel o)) v0 (⊝ v1) refl
