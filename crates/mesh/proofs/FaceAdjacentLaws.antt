-- Laws of specs/FaceAdjacent.antt.
use Rattle.std.specs.Prelude.{ℕ, ◌+◌, ◌*◌, ◌<◌, ◌≡◌, refl, ◌≢◌, [], ◌∷◌}
use Rattle.std.proofs.Common.{arith, sym, ◌∙◌}
use Rattle.std.proofs.Math.Path.{ap}
use Rattle.mesh.specs.declared.Counts.{Counts}
use Rattle.mesh.specs.Mesh.{Links, In, to}
use Rattle.mesh.specs.Operations.{face_adjacent, with_vertex}
use Rattle.mesh.specs.LinkRules.{LinkRules}
use Rattle.mesh.specs.Cases.{Differ}
use Rattle.mesh.proofs.CasesLaws.{differ}
use Rattle.mesh.specs.Triangle.{Outer, link-p-e, link-e-n}
use Rattle.sums.proofs.Cases.{None}
use Rattle.sums.specs.Half.{rev}
use Rattle.sums.proofs.PutLaws.{put_same, stores}
use Rattle.mesh.specs.FaceAdjacent.{FaceAdjacent, Apart}

module _ {C : Counts} {L : Links} {p e n q : ℕ} (W : LinkRules C L) (A : Outer C L p e n q) where
  abbrev a : ℕ
  a = 2 * C.edges

  abbrev b : ℕ
  b = 2 * C.edges + 2

  apart : Apart p e n a (a + 1) b (b + 1)
  apart = record {
    pe = differ (link-p-e W A);
    en = differ (link-e-n W A);
    ap' = differ (omega arith);
    ae = differ (omega arith);
    an = differ (omega arith);
    a'p = differ (omega arith);
    a'e = differ (omega arith);
    a'n = differ (omega arith);
    bp = differ (omega arith);
    be = differ (omega arith);
    bn = differ (omega arith);
    b'p = differ (omega arith);
    b'e = differ (omega arith);
    b'n = differ (omega arith);
    aa' = differ (omega arith);
    ab = differ (omega arith);
    ab' = differ (omega arith);
    a'b = differ (omega arith);
    a'b' = differ (omega arith);
    bb' = differ (omega arith);
  }

  pub face-adjacent : FaceAdjacent C (with_vertex C) L (face_adjacent L C p e n) p e n a (a + 1) b (b + 1)
  unfolding face_adjacent rev
  face-adjacent = let s = apart in let z = A.face-e in let w : Differ (L.face e) C.faces = differ (omega (arith, W.some)) in record {
    a-is = refl;
    a'-is = refl;
    b-is = refl;
    b'-is = omega arith;
    rev-a = omega arith;
    rev-a' = omega arith;
    rev-b = omega arith;
    rev-b' = omega arith;
    edges = refl;
    faces = refl;
    vertices = refl;
    next-e = search stores;
    next-a = search stores;
    next-b = search stores;
    next-p = search stores;
    next-b' = search stores;
    next-a' = search stores;
    prev-e = search stores;
    prev-a = search stores;
    prev-b = search stores;
    prev-b' = search stores;
    prev-a' = search stores;
    prev-n = search stores;
    face-e = search stores;
    face-a = search stores;
    face-b = search stores;
    face-a' = search (stores, z);
    face-b' = search (stores, z);
    origin-a = search stores;
    origin-a' = search stores;
    origin-b = search stores;
    origin-b' = search stores;
    out-new = search stores;
    adjacent-outer = ap (face_adjacent L C p e n).adjacent (sym z) ∙ put_same _ (L.face e) _;
    adjacent-new = search stores;
    next-rest = λ {x} k. search stores;
    prev-rest = λ {x} k. search stores;
    face-rest = λ {x} k. search stores;
    origin-rest = λ {x} k. search stores;
    out-rest = λ {v} k. search stores;
    adjacent-rest = λ {f} k l. let m : f ≢ L.face e = λ r. k (cc) in search stores;
  }
