-- Rows that hold a mesh meet what each operation requires, for an edge in use and where there is room for what it adds. Assumes nothing.
use Rattle.std.specs.Prelude.{ℕ, ◌<◌, List}
use Rattle.std.proofs.Common.{arith}
use Rattle.mesh.specs.declared.Counts.{Counts}
use Rattle.mesh.specs.Mesh.{In}
use Rattle.mesh.specs.Operations.{with_face, with_vertex}
use Rattle.dcel.specs.MeshHeld.{Room, MeshHeld, there, there-rev, next-in, prev-in, face-in, origin-in, counts-fit}
use Rattle.dcel_operations.specs.Flip.{Names, FlipReady}
use Rattle.dcel_operations.specs.Face.{SingleReady, NewReady}

module _ {C : Counts} {o h a : List ℕ} (H : MeshHeld C o h a) where
  names : {e : ℕ} → In C e → Names o h a e
  names l =
      let f = face-in H l in
      let v = origin-in H l in
      record { here = there H l; next = there H (next-in H l); prev = there H (prev-in H l); face = omega arith; origin = omega arith }

  pub flip-ready : {u : ℕ} → u < C.edges → FlipReady o h a u
  flip-ready {u} l = record { small = omega arith; e = names (omega arith); t = names (omega arith) }

  pub single-face-ready : {e : ℕ} → Room (with_face C) o h a → In C e → SingleReady h a C e
  single-face-ready {e} r l =
      let k = counts-fit H in
      let n = next-in H l in
      record {
        edges = omega arith;
        faces = omega arith;
        added = omega arith;
        stored = omega arith;
        here = there H l;
        prev = there H (prev-in H l);
        next = there H n;
        after = there H (next-in H n);
        back = there-rev H n;
      }

  pub new-face-ready : {e : ℕ} → Room (with_vertex C) o h a → In C e → NewReady o h a C e
  new-face-ready {e} r l =
      let k = counts-fit H in
      let f = face-in H l in
      record {
        edges = omega arith;
        faces = omega arith;
        vertices = omega arith;
        added = omega arith;
        stored = omega arith;
        based = omega arith;
        here = there H l;
        prev = there H (prev-in H l);
        next = there H (next-in H l);
        back = there-rev H l;
        face = omega arith;
      }
