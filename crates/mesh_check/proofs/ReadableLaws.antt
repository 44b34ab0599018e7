-- The corners of a mesh that keeps the rules can be read, in rows that are long enough. Assumes nothing.
use Rattle.std.specs.Prelude.{List, ◌≡◌, ℕ, ◌*◌, ◌<◌, ◌≤◌, ℤ, length}
use Rattle.std.proofs.Common.{le_refl, arith}
use Rattle.dcel.specs.Rows.{There, Placed, links_of, row_of}
use Rattle.mesh.specs.declared.Counts.{Counts}
use Rattle.mesh.proofs.CountsLaws.{halves-fit, faces-fit}
use Rattle.mesh.specs.Wf.{Wf}
use Rattle.mesh_check.specs.Readable.{Corners, Readable}

pub corners-of : {C : Counts} {p : List ℤ} {h a : List ℕ} → Readable C p h a → {f : ℕ} → f < C.faces → {e : ℕ}
    → e ≡ row_of a f → Corners p h e
corners-of R l q = rw q (R.corners _ l)

module _ {C : Counts} (o h a : List ℕ) (p : List ℤ) (W : Wf C (links_of o h a))
    (placed : (v : ℕ) → v < C.vertices → Placed p v) (hs : 24 * C.vertices ≤ length h)
    (fs : 2 * C.vertices ≤ length a) where
  half-there : {x : ℕ} → x < 2 * C.edges → There h x
  half-there k = let u = halves-fit W (le_refl C.vertices) in omega arith

  pub readable-rows : Readable C p h a
  unfolding links_of
  readable-rows = record {
    some = W.some;
    faces = let u = faces-fit W (le_refl C.vertices) in omega arith;
    corners = λ f k.
        let a< = W.ranges.adjacent< k in
        let b< = W.ranges.next< a< in
        let c< = W.ranges.next< b< in
        record {
          first = half-there a<;
          second = half-there b<;
          third = half-there c<;
          one = placed _ (W.ranges.origin< a<);
          two = placed _ (W.ranges.origin< b<);
          three = placed _ (W.ranges.origin< c<);
        };
  }
