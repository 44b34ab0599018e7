-- One point, by how far the seed has grown: what is asked of the rows there, and what is left. Assumes nothing.
use Rattle.std.specs.Prelude.{List, ◌≢◌, ◌≡◌, refl, ℤ}
use Rattle.std.proofs.Common.{sym, ap, arith, lt-ltb, le-ltb}
use Prim.Native.Nat.{ℕ, zero, suc, ◌<◌, ◌≤◌}
use Rattle.circle_test.specs.GoodRows.{GoodRows}
use Rattle.corner.specs.CornerRows.{MeshRoom}
use Rattle.corner.specs.RowsLaws.{sized-room}
use Rattle.dcel.specs.Rows.{links_of, position_of}
use Rattle.insert.specs.declared.Inserted.{Inserted}
use Rattle.insert.specs.InsertRows.{PointReady, inserting_of}
use Rattle.line.specs.Grow.{Growing, insert_first_vertex, insert_second_vertex, insert_when_all_vertices_on_line, insert_by_count}
use Rattle.line.specs.Grow.{grow_point, grow_in_mesh, grow_on}
use Rattle.line.specs.GrowLaws.{Phase, none, one, line, mesh}
use Rattle.math.specs.declared.Point.{Point}
use Rattle.mesh.specs.declared.Counts.{Counts}
use Rattle.mesh.specs.Good.{Good}
use Rattle.mesh.specs.Mesh.{Links}
use Rattle.skipped.specs.Insert.{insert_point}
use Rattle.grow.specs.declared.Grown.{Grown}
use Rattle.grow.specs.GrowRows.{growing_at, growing_of, inserted_by, OnLineReady, FlatReady, GrowReady}

-- ---- no triangle: by the number of vertices
-- there is a line where there are two or more
pub on-line-ready : {C : Counts} {q : List ℤ} {o h a : List ℕ} {v : Point} → FlatReady C q o h a v
    → C.vertices ≢ 0 → C.vertices ≢ 1 → OnLineReady C q o h a v
on-line-ready {C} {q} {o} {h} {a} {v} R i j = go R.phase
  where
    go : Phase (growing_at C (links_of o h a) (position_of q)) → OnLineReady C q o h a v
    go (none e z) = absurd (i e)
    go (one e r) = absurd (j (ap (λ (C : Counts). C.vertices) e))
    go (line X) = record { line = X; range = R.range; room = R.room }
    go (mesh G N l) = absurd (let f = R.flat in omega arith)

module _ (C : Counts) (L : Links) (p : ℕ → Point) (v : Point) {g : Growing} where
  pub none-grown : C.vertices ≡ 0 → g ≡ insert_first_vertex L p v → (room : ℕ) → g ≡ grow_point room (growing_at C L p) v
  unfolding insert_by_count
  none-grown n e room = rw n e

  pub one-grown : C.vertices ≡ 1 → g ≡ insert_second_vertex L p v → (room : ℕ) → g ≡ grow_point room (growing_at C L p) v
  unfolding insert_by_count
  one-grown n e room = rw n e

  pub more-grown : C.vertices ≢ 0 → C.vertices ≢ 1 → ((room : ℕ) → g ≡ insert_when_all_vertices_on_line room C L p v)
      → (room : ℕ) → g ≡ grow_point room (growing_at C L p) v
  unfolding insert_by_count
  more-grown i j e room = go C.vertices i j
    where
      go : (n : ℕ) → n ≢ 0 → n ≢ 1 → g ≡ insert_by_count n room C L p v
      go zero i j = absurd (i refl)
      go (suc zero) i j = absurd (j refl)
      go (suc (suc n)) i j = e room

-- ---- a triangle
pub mesh-grown : (room : ℕ) (C : Counts) (q : List ℤ) (o h a : List ℕ) (v : Point) (q' : List ℤ) (o' h' a' : List ℕ)
    → {s : Inserted} → inserting_of q' o' h' a' s ≡ insert_point room C (links_of o h a) (position_of q) v
    → {r : Grown} → r ≡ inserted_by C s.position s.added
    → growing_of q' o' h' a' r ≡ grow_in_mesh room (growing_at C (links_of o h a) (position_of q)) v
unfolding grow_in_mesh
mesh-grown room C q o h a v q' o' h' a' e y = rw (y, sym e) refl

pub mesh-ready : {C : Counts} {q : List ℤ} {o h a row : List ℕ} {v : Point} → GrowReady C q o h a row v
    → 1 < C.faces → PointReady C q o h a row v
mesh-ready {C} {q} {o} {h} {a} {row} R l =
    record { rows = go R.phase; range = R.range; outs = R.outs; positions = R.positions; sized = R.sized }
  where
    sized : MeshRoom C.vertices h a row
    sized = let s = R.sized in record { halves = omega arith; faces = omega arith; pending = s.pending; small = omega arith }

    rows : Good C (links_of o h a) (position_of q) → GoodRows C q o h a
    rows G =
        let k = R.outs in let m = R.positions in
        record { room = sized-room o o h a (omega arith) sized refl G refl refl refl; positions = omega arith; good = G }

    go : Phase (growing_at C (links_of o h a) (position_of q)) → GoodRows C q o h a
    go (none e z) = absurd (omega arith)
    go (one e r) = absurd (let c = ap (λ (C : Counts). C.faces) e in omega arith)
    go (line X) = absurd (let c = X.chain.faces in omega arith)
    go (mesh G N u) = rows G

-- ---- by the number of faces
module _ (room : ℕ) (g : Growing) (v : Point) {r : Growing} where
  pub with-triangle : 1 < g.mesh.counts.faces → r ≡ grow_in_mesh room g v → r ≡ grow_on room g v
  unfolding grow_on
  with-triangle l e = rw (lt-ltb 1 g.mesh.counts.faces l) e

  pub without-triangle : g.mesh.counts.faces ≤ 1 → ((room : ℕ) → r ≡ grow_point room g v) → r ≡ grow_on room g v
  unfolding grow_on
  without-triangle l e = rw (le-ltb 1 g.mesh.counts.faces l) (e room)
