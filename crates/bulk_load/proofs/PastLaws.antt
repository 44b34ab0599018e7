-- Laws of specs/Past.antt.
use Rattle.std.specs.Prelude.{Bool, cond, ◌||◌, ◌≡◌, length, Ok}
use Rattle.std.proofs.Math.Bool.{true, false}
use Rattle.std.proofs.lemmas.Bool.{false≢true}
use Rattle.std.proofs.Math.Path.{refl, ap}
use Rattle.std.proofs.Common.{sym, ◌∙◌, arith}
use Prim.Native.Nat.{ℕ, zero, suc, ◌<◌, ◌≤◌}
use Rattle.corner.specs.Untouched.{Untouched, untouched-none, untouched-join}
use Rattle.dcel.specs.MeshRows.{links_in, places_in}
use Rattle.dcel.specs.Rows.{position_of}
use Rattle.line.specs.GrowUntouched.{Fits}
use Rattle.line.proofs.GrowUntouchedLaws.{nothing-fits, grow-untouched, grow-past, grow-grown, grow-fits}
use Rattle.math.specs.declared.Point.{Point}
use Rattle.math.specs.Determinant.{InRange}
use Rattle.mesh.specs.declared.Counts.{Counts}
use Rattle.mesh.specs.Mesh.{Links}
use Rattle.mesh_check.specs.Checked.{Checked}
use Rattle.bulk_load.specs.OneVertex.{OneZero}
use Rattle.bulk_load.proofs.OneVertexLaws.{grow-one}
use Rattle.bulk_load.specs.Seed.{Seeding, seed_start, seeded_by, seed_point, seed_after, grow_at}
use Rattle.bulk_load.proofs.SeedLaws.{SeedKeeps, seed-keeps}
use Rattle.bulk_load.specs.BulkLoad.{BulkLoadLent, bulk_load_checked, count}
use Rattle.bulk_load.specs.Rest.{SeedRows}
use Rattle.bulk_load.proofs.RestFacts.{accepted}
use Rattle.bulk_load.specs.Past.{SeedPast}

module _ (room : ℕ) (L : Links) (p point : ℕ → Point) where
  abbrev after : ℕ → Seeding
  after n = seed_after room L p point n

  past_next : (n : ℕ) → SeedKeeps room L p point n (after n) → InRange (point n) → (after n).growing.mesh.full ≡ false
      → SeedPast L p (after n) → SeedPast L p (seeded_by (after n) (grow_at room L p point n))
  past_next n K rq f P =
      let s = (after n).growing in
      let g = grow-grown room s (point n) rq K.phase (P.fits f) in
      record {
        links-past = untouched-join g P.links-past (grow-untouched room s (point n) rq K.phase);
        places-past = λ u a. grow-past room s (point n) rq K.phase u a ∙ P.places-past u (let v = g.vertices in omega arith);
        fits = λ _. grow-fits room s (point n) rq K.phase f;
        one-zero = grow-one room s (point n) rq K.phase P.one-zero;
      }

  past_all : (m : ℕ) → ((i : ℕ) → i < m → InRange (point i)) → (n : ℕ) → n ≤ m → SeedPast L p (after n)
  unfolding seed_after seed_point
  past_all m range zero l = record { links-past = untouched-none; places-past = λ u _. refl; fits = λ _. nothing-fits L p; one-zero = λ e. absurd (let v = ap (λ (C : Counts). C.vertices) e in omega arith) }
  past_all m range (suc n) l = go (after n).ready (after n).growing.mesh.full refl refl (past_all m range n (omega arith))
    where
      go : (a b : Bool) → (after n).ready ≡ a → (after n).growing.mesh.full ≡ b → SeedPast L p (after n)
          → SeedPast L p (seed_point room (after n) (point n))
      go true b r f P = rw r P
      go false true r f P = rw (r, f) P
      go false false r f P = rw (r, f) (past_next n (seed-keeps room L p point m range n (omega arith)) (range n (omega arith)) f P)

pub seed-rows : (l : BulkLoadLent) → bulk_load_checked l ≡ Ok tt → SeedRows l
seed-rows l e =
    let P = past_all (length l.pending) (links_in l.mesh) (places_in l.mesh) (position_of l.points) (count l)
    (accepted l e).range (count l) (omega arith) in
    record { links-past = P.links-past; places-past = P.places-past; fits = P.fits; one-zero = P.one-zero }
