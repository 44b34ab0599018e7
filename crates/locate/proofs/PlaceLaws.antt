-- The ring that is built from a strict boundary, asked at an angle, answers the place that 01 defines. Assumes nothing.
use Rattle.std.specs.Prelude.{◌≡◌, List, ℕ, ◌/◌, T, Float, ℤ, length, replicate}
use Rattle.std.proofs.Math.Path.{ap₂}
use Rattle.std.proofs.Common.{subst, mod-lt, le_refl, arith}
use Rattle.std.proofs.lemmas.List.{length-replicate}
use Rattle.angle.specs.Angle.{valid_angle, turns}
use Rattle.angle.proofs.Bits.{valid-small}
use Rattle.dcel.specs.Rows.{row_of, links_of, position_of}
use Rattle.hull.specs.Boundary.{ToBuild}
use Rattle.hull.proofs.Build.{built-held}
use Rattle.hull.proofs.Find.{held_rows, got-located, got-passed}
use Rattle.hull.specs.Held.{Held, FromBoundary}
use Rattle.mesh.specs.declared.Counts.{Counts}
use Rattle.ring.specs.Center.{turns_about}
use Rattle.ring_rows.specs.declared.Node.{Node}
use Rattle.ring_rows.specs.declared.Found.{Found}
use Rattle.ring_rows.specs.declared.Hull.{Hull}
use Rattle.ring_rows.specs.Rows.{nodes_of, size_of, RingHeld, Got}
use Rattle.segment.specs.Bucket.{floor_of, width}
use Rattle.segment.proofs.Laws.{bucket-pos}
use Rattle.locate.specs.Locate.{place_at_of}
use Rattle.locate.specs.Rows.{BoundaryOf, ToAsk, PlaceOnBoundary}

module _ {p : List ℤ} {h : List ℕ} {cx cy : Float} {start size n b : ℕ} (B : ToBuild p h cx cy start size n b) {nodes : List Node} {buckets : List ℕ} {r : Hull}
    (F : FromBoundary p h cx cy start size nodes buckets r) (u : length nodes ≡ n) (v : length buckets ≡ b) where
  -- the rows hold the ring of each mesh with this boundary; no node is freed
  pub asked-held : {C : Counts} (o a : List ℕ) → BoundaryOf C o h a start size → Held C (links_of o h a) (turns_about cx cy (position_of p)) nodes (replicate size 0) buckets r
  asked-held o a E =
      built-held o a E.rules (subst (λ (s : ℕ). ToBuild p h cx cy s size n b) E.first B) E.whole (subst (λ (s : ℕ). FromBoundary p h cx cy s size nodes buckets r) E.first F)
      (let l = B.node-room in omega arith) (rw length-replicate (le_refl size)) (let l = B.bucket-room in omega arith)

  pub asked-place : (x : Float) {f : Found} → T (valid_angle x) → Got (nodes_of nodes) (size_of r) (row_of buckets (floor_of (turns x) r.buckets)) (turns x) f
      → PlaceOnBoundary p h cx cy start size x (record { edge = f.edge; passed = f.passed })
  unfolding place_at_of
  asked-place x {f} t G C o a E =
      let H = asked-held o a E in
      ap₂ (λ (e k : ℕ). record { edge = e; passed = k }) (got-located H (mod-lt (turns x / width r.buckets) (bucket-pos r.buckets H.counted)) G E.rules) (got-passed H E.rules F.eight (valid-small x t) G)

-- what `get` asks
pub asked-rows : {p : List ℤ} {h : List ℕ} {cx cy : Float} {start size n b : ℕ} {x : Float} → ToAsk p h cx cy start size n b x → {nodes : List Node} {buckets : List ℕ} {r : Hull}
    → FromBoundary p h cx cy start size nodes buckets r → length nodes ≡ n → length buckets ≡ b → RingHeld nodes buckets r × T (valid_angle x)
asked-rows A F u v = (held_rows (asked-held A.build F u v A.outs A.faces A.boundary), A.angle)
