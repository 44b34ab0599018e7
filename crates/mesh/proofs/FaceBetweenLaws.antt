-- Laws of specs/FaceBetween.antt.
use Rattle.std.specs.Prelude.{ℕ, ◌+◌, ◌*◌, ◌<◌, ◌≡◌, refl, ◌≢◌, [], ◌∷◌}
use Rattle.std.proofs.Common.{arith, sym}
use Rattle.mesh.specs.declared.Counts.{Counts}
use Rattle.mesh.specs.Mesh.{Links, In, to}
use Rattle.mesh.specs.Operations.{face_between, with_face}
use Rattle.mesh.specs.LinkRules.{LinkRules}
use Rattle.mesh.specs.Cases.{Differ}
use Rattle.mesh.proofs.CasesLaws.{differ}
use Rattle.mesh.specs.Triangle.{Outer, link-p-e, link-e-n, link-n-q}
use Rattle.sums.proofs.Cases.{None}
use Rattle.sums.specs.Half.{rev}
use Rattle.sums.proofs.HalfLaws.{rev-even, rev-odd}
use Rattle.sums.proofs.PutLaws.{stores}
use Rattle.mesh.specs.FaceBetween.{FaceBetween, Apart}

module _ {C : Counts} {L : Links} {p e n q : ℕ} (W : LinkRules C L) (A : Outer C L p e n q) (pn : p ≢ n) (eq : e ≢ q) (four : p ≢ q) where
  apart : Apart p e n q (2 * C.edges) (2 * C.edges + 1) C.faces
  apart = record {
    pe = differ (link-p-e W A);
    pn = differ pn;
    pq = differ four;
    en = differ (link-e-n W A);
    eq = differ eq;
    nq = differ (link-n-q W A);
    ip = differ (omega arith);
    ie = differ (omega arith);
    in' = differ (omega arith);
    iq = differ (omega arith);
    io = differ (omega arith);
    op = differ (omega arith);
    oe = differ (omega arith);
    on = differ (omega arith);
    oq = differ (omega arith);
    og = differ (omega (arith, W.some));
  }

  pub face-between : FaceBetween C (with_face C) L (face_between L C p e n q) p e n q (2 * C.edges) (2 * C.edges + 1)
  unfolding face_between
  face-between = let s = apart in record {
    i-is = refl;
    o_is = refl;
    i-o = rev-even C.edges;
    o-i = rev-odd C.edges;
    edges = refl;
    faces = refl;
    vertices = refl;
    next-p = search stores;
    next-o = search stores;
    next-n = search stores;
    next-i = search stores;
    prev-q = search stores;
    prev-o = search stores;
    prev-e = search stores;
    prev-i = search stores;
    face-i = search stores;
    face-e = search stores;
    face-n = search stores;
    face-o = search stores;
    origin-i = search stores;
    origin-o = search stores;
    adjacent-o = search stores;
    adjacent-i = search stores;
    next-rest = λ {x} k. search stores;
    prev-rest = λ {x} k. search stores;
    face-rest = λ {x} k. search stores;
    origin-rest = λ {x} k. search stores;
    out-rest = λ v. refl;
    adjacent-rest = λ {f} k l. search stores;
  }
