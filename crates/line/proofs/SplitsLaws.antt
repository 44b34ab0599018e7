-- Laws of specs/Splits.antt.
use Rattle.std.specs.Prelude.{◌≡◌, refl, ◌≢◌, true, false, ℕ, ◌+◌, ◌*◌, ◌<◌}
use Rattle.std.proofs.Common.{arith}
use Rattle.mesh.specs.declared.Counts.{Counts}
use Rattle.mesh.specs.Mesh.{Links, In}
use Rattle.mesh.specs.Cases.{Differ}
use Rattle.mesh.proofs.CasesLaws.{differ}
use Rattle.sums.specs.Half.{rev}
use Rattle.sums.proofs.HalfLaws.{rev-below, rev-even, rev-odd}
use Rattle.sums.proofs.PutLaws.{stores}
use Rattle.line.specs.Operations.{split_at_of}
use Rattle.line.specs.Splits.{Splits}

module _ (C : Counts) (L : Links) {e t : ℕ} (h : In C e) (k : In C t) (w : L.origin t < C.vertices) where
  pub splits-end : (n q : ℕ) → Splits C L (split_at_of true L C e t n q) e t (2 * C.edges) (2 * C.edges) (2 * C.edges + 1)
  unfolding split_at_of
  splits-end n q =
      let a = 2 * C.edges in let b = 2 * C.edges + 1 in
      let ab : Differ a b = differ (omega arith) in
      let ae : Differ a e = differ (omega arith) in
      let be : Differ b e = differ (omega arith) in
      let at : Differ a t = differ (omega arith) in
      let bt : Differ b t = differ (omega arith) in
      let vt : Differ C.vertices (L.origin t) = differ (omega arith) in
      let ra = rev-even C.edges in
      record {
        a-is = refl;
        b-is = refl;
        rev-a = ra;
        rev-b = rev-odd C.edges;
        next-e = search stores;
        next-a = rw ra (search stores);
        next-y = search stores;
        next-b = search stores;
        prev-t = search stores;
        prev-b = search stores;
        prev-y = rw ra (search stores);
        prev-a = search stores;
        face-a = search stores;
        face-b = search stores;
        origin-t = search stores;
        origin-a = search stores;
        origin-b = search stores;
        origin-y = rw ra (search stores);
        out-to = search stores;
        out-new = search stores;
        next-rest = λ {x} i j k l. search stores;
        prev-rest = λ {x} i j k l. search stores;
        face-rest = λ {x} k l. search stores;
        origin-rest = λ {x} k l m. search stores;
        out-rest = λ {v} k l. search stores;
        adjacent = refl;
      }

  pub splits-inner : {q : ℕ} → In C q → e ≢ q → rev q ≢ t → L.origin (rev q) ≡ L.origin t
      → Splits C L (split_at_of false L C e t (rev q) q) e t q (2 * C.edges) (2 * C.edges + 1)
  unfolding split_at_of
  splits-inner {q} i eq nt o =
      let a = 2 * C.edges in let b = 2 * C.edges + 1 in
      let n = rev q in let j : In C n = rev-below C.edges i in
      let ab : Differ a b = differ (omega arith) in
      let ae : Differ a e = differ (omega arith) in
      let be : Differ b e = differ (omega arith) in
      let at : Differ a t = differ (omega arith) in
      let bt : Differ b t = differ (omega arith) in
      let aq : Differ a q = differ (omega arith) in
      let bq : Differ b q = differ (omega arith) in
      let an : Differ a (rev q) = differ (omega arith) in
      let bn : Differ b (rev q) = differ (omega arith) in
      let e-q : Differ e q = differ eq in
      let n-t : Differ (rev q) t = differ nt in
      let vt : Differ C.vertices (L.origin t) = differ (omega arith) in
      record {
        a-is = refl;
        b-is = refl;
        rev-a = rev-even C.edges;
        rev-b = rev-odd C.edges;
        next-e = search stores;
        next-a = search stores;
        next-y = search stores;
        next-b = search stores;
        prev-t = search stores;
        prev-b = search stores;
        prev-y = search stores;
        prev-a = search stores;
        face-a = search stores;
        face-b = search stores;
        origin-t = search stores;
        origin-a = search stores;
        origin-b = search stores;
        origin-y = search stores;
        out-to = search stores;
        out-new = search stores;
        next-rest = λ {x} i j k l. search stores;
        prev-rest = λ {x} i j k l. search stores;
        face-rest = λ {x} k l. search stores;
        origin-rest = λ {x} k l m. search stores;
        out-rest = λ {v} k l. search stores;
        adjacent = refl;
      }
