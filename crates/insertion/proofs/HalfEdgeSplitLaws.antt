-- Laws of specs/HalfEdgeSplit.antt.
use Rattle.std.specs.Prelude.{ℕ, ◌+◌, ◌*◌, ◌<◌, ◌≡◌, refl, ◌≢◌, [], ◌∷◌}
use Rattle.std.proofs.Common.{arith, sym}
use Rattle.mesh.specs.declared.Counts.{Counts}
use Rattle.mesh.specs.Mesh.{Links}
use Rattle.mesh.specs.Operations.{with_vertex}
use Rattle.mesh.specs.Wf.{Wf}
use Rattle.mesh.specs.Cases.{Differ}
use Rattle.mesh.proofs.CasesLaws.{differ}
use Rattle.mesh.specs.Triangle.{Triangle, Outer}
use Rattle.mesh.proofs.TriangleLaws.{p-e}
use Rattle.insertion.specs.Operations.{half_edge_between}
use Rattle.insertion.proofs.EdgeSplitLaws.{rev-1, rev-2}
use Rattle.sums.proofs.Cases.{None}
use Rattle.sums.specs.Half.{rev}
use Rattle.sums.proofs.PutLaws.{stores}
use Rattle.insertion.specs.HalfEdgeSplit.{HalfEdgeSplit, Apart}

module _ {C : Counts} {L : Links} {e en ep t tp tn tq : ℕ} (W : Wf C L) (A : Triangle C L e en ep)
    (O : Outer C L tp t tn tq) (fi : 0 < L.face e) where
  abbrev n : ℕ
  n = 2 * C.edges

  outer-ne : L.face e ≢ 0
  outer-ne p = omega arith

  apart : Apart e en ep t tp n (n + 1) (n + 2) (n + 3)
  apart = record {
    e-en = differ (λ p. W.faces.apart A.in-a (cc));
    e-ep = differ (λ p. W.faces.apart A.in_c (cc));
    e-t = differ (λ p. outer-ne (cc));
    e-tp = differ (λ p. outer-ne (cc));
    e-e1 = differ (omega arith);
    e-t1 = differ (omega arith);
    e-e2 = differ (omega arith);
    e-t2 = differ (omega arith);
    en-ep = differ (λ p. W.faces.apart A.in_b (cc));
    en-t = differ (λ p. outer-ne (cc));
    en-tp = differ (λ p. outer-ne (cc));
    en-e1 = differ (omega arith);
    en-t1 = differ (omega arith);
    en-e2 = differ (omega arith);
    en-t2 = differ (omega arith);
    ep-t = differ (λ p. outer-ne (cc));
    ep-tp = differ (λ p. outer-ne (cc));
    ep-e1 = differ (omega arith);
    ep-t1 = differ (omega arith);
    ep-e2 = differ (omega arith);
    ep-t2 = differ (omega arith);
    t-tp = differ (λ p. p-e W O (sym p));
    t-e1 = differ (omega arith);
    t-t1 = differ (omega arith);
    t-e2 = differ (omega arith);
    t-t2 = differ (omega arith);
    tp-e1 = differ (omega arith);
    tp-t1 = differ (omega arith);
    tp-e2 = differ (omega arith);
    tp-t2 = differ (omega arith);
    e1-t1 = differ (omega arith);
    e1-e2 = differ (omega arith);
    e1-t2 = differ (omega arith);
    t1-e2 = differ (omega arith);
    t1-t2 = differ (omega arith);
    e2-t2 = differ (omega arith);
  }

  pub half-edge-split : rev e ≡ t → rev t ≡ e
      → HalfEdgeSplit C (with_vertex C) L (half_edge_between L C e en ep t tp) e en ep t tp n (n + 1) (n + 2) (n + 3)
  unfolding half_edge_between
  half-edge-split r r' = let d = apart in let lf = W.ranges.face< A.in-a in let z = O.face-e in
      let o : Differ (L.origin t) C.vertices = differ (omega (arith, W.ranges.origin< O.in_e)) in
      let i : Differ (L.face e) C.faces = differ (omega arith) in record {
        e1-is = refl;
        t1-is = refl;
        e2-is = refl;
        t2-is = refl;
        t-e = r;
        e-t = r';
        rev-e1 = (rev-1 C.edges).0;
        rev-t1 = (rev-1 C.edges).1;
        rev-e2 = (rev-2 C.edges).0;
        rev-t2 = (rev-2 C.edges).1;
        edges = refl;
        faces = refl;
        vertices = refl;
        next-e = search stores;
        next-t1 = search stores;
        next-ep = search (stores, A.next-c);
        next-e1 = search stores;
        next-e2 = search stores;
        next-en = search stores;
        next-tp = search stores;
        next-t2 = search stores;
        prev-e = search (stores, A.prev-a);
        prev-t1 = search stores;
        prev-ep = search stores;
        prev-e1 = search stores;
        prev-e2 = search stores;
        prev-en = search stores;
        prev-t2 = search stores;
        prev-t = search stores;
        face-e = search stores;
        face-t1 = search stores;
        face-ep = search (stores, A.face-c);
        face-e1 = search stores;
        face-e2 = search stores;
        face-en = search stores;
        face-t2 = search (stores, z);
        origin-t = search stores;
        origin-e1 = search stores;
        origin-t1 = search stores;
        origin-e2 = search stores;
        origin-t2 = search stores;
        out-new = search stores;
        out-t = search stores;
        adjacent-e = search stores;
        adjacent-new = search stores;
        next-rest = λ {x} k. search stores;
        prev-rest = λ {x} k. search stores;
        face-rest = λ {x} k. search stores;
        origin-rest = λ {x} k. search stores;
        out-rest = λ {v} k m. search stores;
        adjacent-rest = λ {f} k l. search stores;
      }
