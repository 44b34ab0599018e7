-- Laws of specs/IntoTriangle.antt.
use Rattle.std.specs.Prelude.{ℕ, ◌+◌, ◌*◌, ◌<◌, ◌≡◌, refl, ◌≢◌, [], ◌∷◌}
use native.Mathlib.Omega.{arith}
use Rattle.std.proofs.Math.Path.{sym, ap}
use Rattle.std.proofs.Common.{◌∙◌}
use Rattle.mesh.specs.declared.Counts.{Counts}
use Rattle.mesh.specs.Mesh.{Links}
use Rattle.mesh.specs.Wf.{Wf}
use Rattle.mesh.specs.Cases.{Differ}
use Rattle.mesh.proofs.CasesLaws.{differ}
use Rattle.mesh.specs.Triangle.{Triangle}
use Rattle.insertion.specs.Operations.{into_triangle, with_inner_vertex}
use Rattle.sums.proofs.Cases.{None}
use Rattle.sums.specs.Half.{rev}
use Rattle.sums.proofs.PutLaws.{stores}
use Rattle.insertion.specs.IntoTriangle.{IntoTriangle, Apart}

module _ {C : Counts} {L : Links} {a b c : ℕ} (W : Wf C L) (A : Triangle C L a b c) where
  abbrev n : ℕ
  n = 2 * C.edges

  apart : Apart a b c n (n + 1) (n + 2) (n + 3) (n + 4) (n + 5)
  apart = record {
    a-b = differ (λ p. W.faces.apart A.in-a (cc));
    a_c = differ (λ p. W.faces.apart A.in_c (cc));
    a-bv = differ (omega arith);
    a-vb = differ (omega arith);
    a-cv = differ (omega arith);
    a-vc = differ (omega arith);
    a-av = differ (omega arith);
    a-va = differ (omega arith);
    b-c = differ (λ p. W.faces.apart A.in_b (cc));
    b-bv = differ (omega arith);
    b-vb = differ (omega arith);
    b-cv = differ (omega arith);
    b-vc = differ (omega arith);
    b-av = differ (omega arith);
    b-va = differ (omega arith);
    c-bv = differ (omega arith);
    c-vb = differ (omega arith);
    c-cv = differ (omega arith);
    c-vc = differ (omega arith);
    c-av = differ (omega arith);
    c-va = differ (omega arith);
    bv-vb = differ (omega arith);
    bv-cv = differ (omega arith);
    bv-vc = differ (omega arith);
    bv-av = differ (omega arith);
    bv-va = differ (omega arith);
    vb-cv = differ (omega arith);
    vb-vc = differ (omega arith);
    vb-av = differ (omega arith);
    vb-va = differ (omega arith);
    cv-vc = differ (omega arith);
    cv-av = differ (omega arith);
    cv-va = differ (omega arith);
    vc-av = differ (omega arith);
    vc-va = differ (omega arith);
    av-va = differ (omega arith);
  }

  pub into-triangle : {f : ℕ} → L.face a ≡ f → f < C.faces → L.adjacent f ≡ a
      → IntoTriangle C (with_inner_vertex C) L (into_triangle L C f a b c) a b c n (n + 1) (n + 2) (n + 3) (n + 4) (n + 5)
  unfolding into_triangle rev
  into-triangle {f} q l s = let d = apart in let r = sym q in let g : Differ C.faces (C.faces + 1) = differ (omega arith) in
      let i : L.face a ≢ C.faces = omega arith in let j : L.face a ≢ C.faces + 1 = omega arith in record {
        bv-is = refl;
        vb-is = refl;
        cv-is = refl;
        vc-is = refl;
        av-is = refl;
        va-is = refl;
        rev-bv = omega arith;
        rev-vb = omega arith;
        rev-cv = omega arith;
        rev-vc = omega arith;
        rev-av = omega arith;
        rev-va = omega arith;
        edges = refl;
        faces = refl;
        vertices = refl;
        next-a = search stores;
        next-bv = search stores;
        next-va = search stores;
        prev-a = search stores;
        prev-bv = search stores;
        prev-va = search stores;
        next-b = search stores;
        next-cv = search stores;
        next-vb = search stores;
        prev-b = search stores;
        prev-cv = search stores;
        prev-vb = search stores;
        next-c = search stores;
        next-av = search stores;
        next-vc = search stores;
        prev-c = search stores;
        prev-av = search stores;
        prev-vc = search stores;
        face-a = search stores;
        face-bv = search (stores, r);
        face-va = search (stores, r);
        face-b = search stores;
        face-cv = search stores;
        face-vb = search stores;
        face-c = search stores;
        face-av = search stores;
        face-vc = search stores;
        origin-va = search stores;
        origin-vb = search stores;
        origin-vc = search stores;
        origin-av = search stores;
        origin-bv = search stores;
        origin-cv = search stores;
        out-new = search stores;
        adjacent-a = search (stores, ap L.adjacent q ∙ s);
        adjacent-b = search stores;
        adjacent-c = search stores;
        next-rest = λ {x} k. search stores;
        prev-rest = λ {x} k. search stores;
        face-rest = λ {x} k. search stores;
        origin-rest = λ {x} k. search stores;
        out-rest = λ {v} k. search stores;
        adjacent-rest = λ {f} k m. search stores;
      }
