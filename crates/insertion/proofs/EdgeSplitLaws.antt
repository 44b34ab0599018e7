-- Laws of specs/EdgeSplit.antt.
use Rattle.std.specs.Prelude.{ℕ, ◌+◌, ◌*◌, ◌≡◌, refl, ◌≢◌, [], ◌∷◌}
use native.Mathlib.Omega.{arith}
use Rattle.mesh.specs.declared.Counts.{Counts}
use Rattle.mesh.specs.Mesh.{Links}
use Rattle.mesh.specs.Wf.{Wf}
use Rattle.mesh.specs.Cases.{Differ}
use Rattle.mesh.proofs.CasesLaws.{differ}
use Rattle.mesh.specs.Triangle.{Triangle}
use Rattle.insertion.specs.Operations.{edge_between, with_inner_vertex}
use Rattle.sums.proofs.Cases.{None}
use Rattle.sums.specs.Half.{rev}
use Rattle.sums.proofs.PutLaws.{stores}
use Rattle.insertion.specs.EdgeSplit.{EdgeSplit, Apart}

-- the reverses of the new half-edges
pub rev-1 : (n : ℕ) → (rev (2 * n) ≡ 2 * n + 1) × (rev (2 * n + 1) ≡ 2 * n)
unfolding rev
rev-1 n = (omega arith, omega arith)

pub rev-2 : (n : ℕ) → (rev (2 * n + 2) ≡ 2 * n + 3) × (rev (2 * n + 3) ≡ 2 * n + 2)
unfolding rev
rev-2 n = (omega arith, omega arith)

rev-3 : (n : ℕ) → (rev (2 * n + 4) ≡ 2 * n + 5) × (rev (2 * n + 5) ≡ 2 * n + 4)
unfolding rev
rev-3 n = (omega arith, omega arith)

module _ {C : Counts} {L : Links} {e en ep t tn tp : ℕ} (W : Wf C L) (A : Triangle C L e en ep)
    (B : Triangle C L t tn tp) (fg : L.face e ≢ L.face t) where
  abbrev n : ℕ
  n = 2 * C.edges

  apart : Apart e en ep t tn tp n (n + 1) (n + 2) (n + 3) (n + 4) (n + 5)
  apart = record {
    e-en = differ (λ p. W.faces.apart A.in-a (cc));
    e-ep = differ (λ p. W.faces.apart A.in_c (cc));
    e-t = differ (λ p. fg (cc));
    e-tn = differ (λ p. fg (cc));
    e-tp = differ (λ p. fg (cc));
    e-e1 = differ (omega arith);
    e-t1 = differ (omega arith);
    e-e2 = differ (omega arith);
    e-t2 = differ (omega arith);
    e-e3 = differ (omega arith);
    e-t3 = differ (omega arith);
    en-ep = differ (λ p. W.faces.apart A.in_b (cc));
    en-t = differ (λ p. fg (cc));
    en-tn = differ (λ p. fg (cc));
    en-tp = differ (λ p. fg (cc));
    en-e1 = differ (omega arith);
    en-t1 = differ (omega arith);
    en-e2 = differ (omega arith);
    en-t2 = differ (omega arith);
    en-e3 = differ (omega arith);
    en-t3 = differ (omega arith);
    ep-t = differ (λ p. fg (cc));
    ep-tn = differ (λ p. fg (cc));
    ep-tp = differ (λ p. fg (cc));
    ep-e1 = differ (omega arith);
    ep-t1 = differ (omega arith);
    ep-e2 = differ (omega arith);
    ep-t2 = differ (omega arith);
    ep-e3 = differ (omega arith);
    ep-t3 = differ (omega arith);
    t-tn = differ (λ p. W.faces.apart B.in-a (cc));
    t-tp = differ (λ p. W.faces.apart B.in_c (cc));
    t-e1 = differ (omega arith);
    t-t1 = differ (omega arith);
    t-e2 = differ (omega arith);
    t-t2 = differ (omega arith);
    t-e3 = differ (omega arith);
    t-t3 = differ (omega arith);
    tn-tp = differ (λ p. W.faces.apart B.in_b (cc));
    tn-e1 = differ (omega arith);
    tn-t1 = differ (omega arith);
    tn-e2 = differ (omega arith);
    tn-t2 = differ (omega arith);
    tn-e3 = differ (omega arith);
    tn-t3 = differ (omega arith);
    tp-e1 = differ (omega arith);
    tp-t1 = differ (omega arith);
    tp-e2 = differ (omega arith);
    tp-t2 = differ (omega arith);
    tp-e3 = differ (omega arith);
    tp-t3 = differ (omega arith);
    e1-t1 = differ (omega arith);
    e1-e2 = differ (omega arith);
    e1-t2 = differ (omega arith);
    e1-e3 = differ (omega arith);
    e1-t3 = differ (omega arith);
    t1-e2 = differ (omega arith);
    t1-t2 = differ (omega arith);
    t1-e3 = differ (omega arith);
    t1-t3 = differ (omega arith);
    e2-t2 = differ (omega arith);
    e2-e3 = differ (omega arith);
    e2-t3 = differ (omega arith);
    t2-e3 = differ (omega arith);
    t2-t3 = differ (omega arith);
    e3-t3 = differ (omega arith);
  }

  pub edge-split : rev e ≡ t → rev t ≡ e → EdgeSplit C (with_inner_vertex C) L
      (edge_between L C e en ep t tn tp) e en ep t tn tp n (n + 1) (n + 2) (n + 3) (n + 4) (n + 5)
  unfolding edge_between
  edge-split r r' = let d = apart in let lf = W.ranges.face< A.in-a in let lg = W.ranges.face< B.in-a in
      let g : Differ C.faces (C.faces + 1) = differ (omega arith) in let o : Differ (L.origin t) C.vertices = differ (omega (arith, W.ranges.origin< B.in-a)) in
      let i₁ : L.face e ≢ C.faces = omega arith in let i₂ : L.face e ≢ C.faces + 1 = omega arith in
      let j₁ : L.face t ≢ C.faces = omega arith in let j₂ : L.face t ≢ C.faces + 1 = omega arith in record {
        e1-is = refl;
        t1-is = refl;
        e2-is = refl;
        t2-is = refl;
        e3-is = refl;
        t3-is = refl;
        t-e = r;
        e-t = r';
        rev-e1 = (rev-1 C.edges).0;
        rev-t1 = (rev-1 C.edges).1;
        rev-e2 = (rev-2 C.edges).0;
        rev-t2 = (rev-2 C.edges).1;
        rev-e3 = (rev-3 C.edges).0;
        rev-t3 = (rev-3 C.edges).1;
        edges = refl;
        faces = refl;
        vertices = refl;
        next-e = search stores;
        next-t3 = search stores;
        next-ep = search (stores, A.next-c);
        next-t = search stores;
        next-tn = search stores;
        next-e1 = search stores;
        next-e2 = search stores;
        next-t1 = search stores;
        next-tp = search stores;
        next-e3 = search stores;
        next-t2 = search stores;
        next-en = search stores;
        prev-e = search stores;
        prev-t3 = search stores;
        prev-ep = search stores;
        prev-t = search stores;
        prev-tn = search (stores, B.prev-b);
        prev-e1 = search stores;
        prev-e2 = search stores;
        prev-t1 = search stores;
        prev-tp = search stores;
        prev-e3 = search stores;
        prev-t2 = search stores;
        prev-en = search stores;
        face-e = search stores;
        face-t3 = search stores;
        face-ep = search (stores, A.face-c);
        face-t = search stores;
        face-tn = search (stores, B.face-b);
        face-e1 = search stores;
        face-e2 = search stores;
        face-t1 = search stores;
        face-tp = search stores;
        face-e3 = search stores;
        face-t2 = search stores;
        face-en = search stores;
        origin-e = search stores;
        origin-t = search stores;
        origin-e1 = search stores;
        origin-t1 = search stores;
        origin-e2 = search stores;
        origin-t2 = search stores;
        origin-e3 = search stores;
        origin-t3 = search stores;
        out-new = search stores;
        out-t = search stores;
        adjacent-e = search stores;
        adjacent-t = search stores;
        adjacent-2 = search stores;
        adjacent-3 = search stores;
        next-rest = λ {x} k. search stores;
        prev-rest = λ {x} k. search stores;
        face-rest = λ {x} k. search stores;
        origin-rest = λ {x} k. search stores;
        out-rest = λ {v} k m. search stores;
        adjacent-rest = λ {f} k l m n. search stores;
      }
