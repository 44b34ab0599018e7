-- Laws of specs/Rest.antt.
use Rattle.std.specs.Prelude.{Bool, true, false, not, ◌&&◌, ◌||◌, ◌≡◌, ℕ, ◌+◌, ◌-◌, ◌*◌, ◌<◌, ◌≤◌, T, ltb, length, drop, Ok}
use Rattle.std.proofs.Math.Path.{refl, subst}
use Rattle.std.proofs.Common.{sym, ◌∙◌, ap, arith}
use borrow.Author.Tests.{le-ltb}
use Rattle.std.proofs.Math.ListN.{length-drop}
use Rattle.corner.specs.Untouched.{Untouched}
use Rattle.dcel.specs.MeshRows.{links_in, places_in, mesh_rows_from}
use Rattle.dcel.specs.Rows.{position_of}
use Rattle.dcel.specs.Views.{lengths-from}
use Rattle.finish.specs.CallLeavesLaws.{links-back, places-back, in_rows}
use Rattle.line.specs.GrowUntouched.{Fits}
use Rattle.hull_center.specs.HullCenter.{is_ready, hull_center}
use Rattle.hull_center.specs.Laws.{ReadyStart}
use Rattle.hull_center.proofs.LawsFacts.{ready-start}
use Rattle.line.specs.GrowLaws.{Phase, none, one, line, mesh}
use Rattle.locate.specs.Locate.{ring_rows_short, check_ring, check_start}
use Rattle.locate.specs.Start.{RingRoom}
use Rattle.math.specs.declared.Point.{Point}
use Rattle.math.specs.Determinant.{InRange}
use Rattle.mesh.specs.declared.Counts.{Counts}
use Rattle.mesh.specs.Mesh.{Links}
use Rattle.mesh.proofs.CountsLaws.{vertices-least}
use Rattle.mesh.specs.Good.{Good}
use Rattle.mesh_check.specs.Checked.{Checked}
use Rattle.mesh_check.specs.Accepted.{MeshSizes, AcceptedWith}
use Rattle.mesh_check.proofs.AcceptedLaws.{accepts-with}
use Rattle.mesh_check.specs.Check.{point_count, vertex_count}
use Rattle.mesh_check.proofs.CheckLawsFacts.{then_next}
use Rattle.start.specs.Start.{sweep_rows_short, sweep_checked}
use Rattle.sums.specs.Bit.{bit}
use Rattle.sums.proofs.BitLaws.{and_left, and_right, from-true, is_true, is_false}
use Rattle.sweep.specs.Run.{answer_words, run_checked}
use Rattle.bulk_load.specs.OneVertex.{OneZero}
use Rattle.bulk_load.specs.Seed.{may_start}
use Rattle.bulk_load.proofs.SeedLaws.{grown-most, SeedKeeps, seed-keeps}
use Rattle.bulk_load.specs.BulkLoad.{BulkLoadLent, bulk_load_checked, count, seeded, counts, links, positions, rest_of}
use Rattle.bulk_load.specs.Accepted.{BulkLoadAccepted, load-accepts}
use Rattle.bulk_load.proofs.RestLaws.{position-rest, count-rest}
use Rattle.bulk_load.specs.Rest.{SeedRows}

module _ (l : BulkLoadLent) (e : bulk_load_checked l ≡ Ok tt) where
  pub accepted : BulkLoadAccepted l
  accepted = load-accepts l e

  pub keeps : SeedKeeps (length l.pending) (links_in l.mesh) (places_in l.mesh) (position_of l.points) (count l) (seeded l)
  keeps = seed-keeps (length l.pending) (links_in l.mesh) (places_in l.mesh) (position_of l.points) (count l) accepted.range (count l) (omega arith)

  -- no more vertices than points that were answered, and one whose flips were refused
  pub vertices-most : (counts l).vertices ≤ (seeded l).answered + bit (seeded l).growing.mesh.full
  vertices-most =
      let v = keeps.vertices in
      let c = grown-most (length l.pending) (links_in l.mesh) (places_in l.mesh) (position_of l.points) (seeded l).answered in
      omega arith

  -- with a triangle it is a good mesh
  pub grown-good : 1 < (counts l).faces → Good (counts l) (links l) (positions l)
  grown-good f = go keeps.phase
    where
      go : Phase (seeded l).growing → Good (counts l) (links l) (positions l)
      go (none a b) = absurd (omega arith)
      go (one a r) = absurd (let c = ap (λ (C : Counts). C.faces) a in omega arith)
      go (line X) = absurd (let c = X.chain.faces in omega arith)
      go (mesh G N k) = G

  -- ---- the sweep may start
  module _ (S : SeedRows l) (r : (seeded l).ready ≡ true) where
    may : T (may_start (seeded l).growing)
    may = from-true (keeps.started r)

    pub ready-not-full : (seeded l).growing.mesh.full ≡ false
    ready-not-full = go (seeded l).growing.mesh.full (and_left (not (seeded l).growing.mesh.full) (is_ready (counts l) (links l) (positions l)) may)
      where
        go : (b : Bool) → T (not b) → b ≡ false
        go true t = absurd t
        go false t = refl

    pub start : ReadyStart (counts l) (links l) (positions l)
    start = ready-start (counts l) (links l) (positions l)
        (is_true (is_ready (counts l) (links l) (positions l))
        (and_right (not (seeded l).growing.mesh.full) (is_ready (counts l) (links l) (positions l)) may))

    pub seed-good : Good (counts l) (links l) (positions l)
    seed-good = grown-good start.faces

    pub seed-most : (counts l).vertices ≤ (seeded l).answered
    seed-most = let m = vertices-most in let f = ap bit ready-not-full in omega arith

    most : (counts l).vertices ≤ count l
    most = let a = seed-most in let b = keeps.most in omega arith

    pub rest-links : links_in (mesh_rows_from l.mesh (links l) (positions l)) ≡ links l
    rest-links = links-back l.mesh accepted.sizes most seed-good S.links-past S.places-past

    pub rest-places : places_in (mesh_rows_from l.mesh (links l) (positions l)) ≡ positions l
    rest-places = places-back l.mesh accepted.sizes most seed-good S.links-past S.places-past

    pub rest-count : (seeded l).answered + point_count (drop (2 * (seeded l).answered) l.points) ≡ count l
    rest-count = count-rest (seeded l).answered l.points keeps.most

    abbrev k : ℕ
    k = (seeded l).answered

    pub rest-with : AcceptedWith (rest_of l).points (rest_of l).counts (rest_of l).mesh
    unfolding rest_of vertex_count
    rest-with =
        let A = accepted in
        let n = rest-count in
        let v = seed-most in
        let w = vertices-least seed-good.wf in
        let s = lengths-from l.mesh (links l) (positions l) in
        record {
          least = omega arith;
          most = let m = A.most in omega arith;
          pairs = let d = length-drop (2 * k) l.points in let p = A.pairs in omega arith;
          rows = let z = A.sizes in record {
            positions = let a = z.positions in let b = s.positions in omega arith;
            outs = let a = z.outs in let b = s.outs in omega arith;
            halves = let a = z.halves in let b = s.halves in omega arith;
            faces = let a = z.faces in let b = s.faces in omega arith;
          };
          range = λ {i = j} u. subst InRange (sym (position-rest k l.points j)) (A.range (k + j) (omega arith));
          good = in_rows l.mesh A.sizes most seed-good S.links-past S.places-past (Good (counts l)) seed-good;
        }

    rest-ring : check_ring (rest_of l).counts (links_in (rest_of l).mesh) (places_in (rest_of l).mesh) (rest_of l).center.x (rest_of l).center.y
        ≡ Ok tt
    unfolding rest_of
    rest-ring = rw (rest-links, rest-places) start.ring

    rest-rows : sweep_rows_short (ltb (length (rest_of l).answers) (answer_words * point_count (rest_of l).points))
        (vertex_count (rest_of l).counts (rest_of l).points) (length (rest_of l).ring.nodes) (length (rest_of l).ring.freed)
        (length (rest_of l).ring.buckets) (length (rest_of l).pending) ≡ false
    unfolding rest_of vertex_count sweep_rows_short ring_rows_short
    rest-rows =
        let A = accepted in
        let R = A.ring-rows in
        let n = rest-count in
        let v = seed-most in
        let d = length-drop (answer_words * k) l.answers in
        let N = (counts l).vertices + point_count (drop (2 * k) l.points) in
        rw (
          le-ltb (length (drop (answer_words * k) l.answers)) (answer_words * point_count (drop (2 * k) l.points))
              (let a = A.answers-room in omega arith),
          le-ltb (length l.ring.nodes) (N + 1) (let a = R.nodes-fit in omega arith),
          le-ltb (length l.ring.freed) (N + 1) (let a = R.freed-fit in omega arith),
          le-ltb (length l.ring.buckets) 16 R.sixteen,
          le-ltb (length l.ring.buckets) N (let a = R.buckets-fit in omega arith),
          le-ltb (length l.pending) 8 A.pending-rows,
        ) refl

    -- THE SWEEP IS A RUN THAT IS ACCEPTED
    pub rest-accepted : run_checked (rest_of l) ≡ Ok tt
    unfolding run_checked sweep_checked check_start
    rest-accepted = then_next _ (accepts-with rest-rows rest-with) ∙ rest-ring
