-- The list ends while the seed grows and there is a triangle: the finish meets demand 3 with an empty seed. Stated of any outcome B whose
-- answers are the seed's and whose mesh is the finish's. Assumes nothing but `SeedRows`.
use Rattle.std.specs.Prelude.{Bool, true, false, ◌⊎◌, refl, ℕ, ◌+◌, ◌<◌, ◌≤◌, ◌-ℤ◌, length, ◌≤ℤ◌, Ok}
use Rattle.std.proofs.Common.{inl, inr, sym, ◌∙◌, subst, arith}
use Rattle.std.proofs.Math.Path.{◌≡◌, ap, subst⁻¹}
use Rattle.std.proofs.Math.Dec.{T}
use Rattle.std.proofs.Math.IntN.{pos}
use Rattle.closing.specs.Closing.{Closing, closing_pass}
use Rattle.convexity.specs.Convexity.{convexity, NoLeftCorner}
use Rattle.corner.specs.Untouched.{Untouched, Grown, untouched-join}
use Rattle.dcel.specs.MeshRows.{MeshRows, links_in, places_in, mesh_rows_from}
use Rattle.dcel.specs.Rows.{position_of}
use Rattle.finish.specs.declared.Totals.{Totals}
use Rattle.finish.specs.CallLeavesLaws.{links-back, places-back}
use Rattle.finish.specs.Finish.{Finishing, finish_mesh}
use Rattle.finish.specs.MeshLaws as laws
use Rattle.math.specs.declared.Point.{Point}
use Rattle.mesh.specs.declared.Counts.{Counts}
use Rattle.mesh.specs.Mesh.{Links}
use Rattle.mesh.specs.Area.{height_sum}
use Rattle.mesh.proofs.AreaLaws.{area-theorem}
use Rattle.mesh.specs.Circle.{Settled}
use Rattle.mesh.proofs.CircleLawsFacts.{settled-far}
use Rattle.mesh.specs.FlipRun.{FlipRun}
use Rattle.mesh.specs.Good.{Good}
use Rattle.mesh_check.specs.Checked.{Checked}
use Rattle.sums.specs.Bit.{bit}
use Rattle.sweep.specs.Demand3.{fate_of, vertex_of, is_entered, Demand3From}
use Rattle.sweep.specs.Run.{RunOutcome}
use Rattle.bulk_load.specs.BulkLoad.{BulkLoadLent, bulk_load_checked, count, seeded, counts, links, positions}
use Rattle.bulk_load.specs.Demand3.{empty_seed}
use Rattle.bulk_load.proofs.RestFacts as rest
use Rattle.bulk_load.specs.Rest.{SeedRows}
use Rattle.bulk_load.proofs.SweptLaws as swept
use Rattle.bulk_load.proofs.SweptLaws.{SeedAnswers}

module _ (l : BulkLoadLent) (e : bulk_load_checked l ≡ Ok tt) (S : SeedRows l) (r : (seeded l).ready ≡ false)
    (f : (seeded l).growing.mesh.full ≡ false) where
  -- every point was taken
  pub all-taken : (seeded l).answered ≡ count l
  all-taken = (rest.keeps l e).going r f

  taken : (i : ℕ) → i < count l → i < (seeded l).answered
  taken i a = let q = all-taken in omega arith

  pub grown-most : (counts l).vertices ≤ count l
  grown-most = let m = rest.vertices-most l e in let b = ap bit f in let q = all-taken in omega arith

  module _ (many : 1 < (counts l).faces) where
    abbrev room : ℕ
    room = length l.pending

    G : Good (counts l) (links l) (positions l)
    G = rest.grown-good l e many

    abbrev z : Finishing
    z = finish_mesh (length l.pending) (counts l) (positions l) (links l)

    same-vertices : z.counts.vertices ≡ (counts l).vertices
    same-vertices = ap (λ (C : Counts). C.vertices) (laws.finish-counts room (counts l) (positions l) (links l) G)

    good : Good z.counts z.links (positions l)
    good = laws.finish-good room (counts l) (positions l) (links l) G

    grown : Grown (counts l) z.counts
    grown =
        let c = laws.finish-counts room (counts l) (positions l) (links l) G in
        let a = ap (λ (C : Counts). C.vertices) c in let b = ap (λ (C : Counts). C.edges) c in let d = ap (λ (C : Counts). C.faces) c in
        record { vertices = omega arith; edges = omega arith; faces = omega arith }

    past : Untouched z.counts (links_in l.mesh) z.links
    past = untouched-join grown S.links-past (laws.finish-untouched room (counts l) (positions l) (links l) G)

    places-past : (u : ℕ) → z.counts.vertices ≤ u → positions l u ≡ places_in l.mesh u
    places-past u a = S.places-past u (let v = same-vertices in omega arith)

    most : z.counts.vertices ≤ count l
    most = let v = same-vertices in let m = grown-most in omega arith

    abbrev M : MeshRows
    M = mesh_rows_from l.mesh z.links (positions l)

    pub ended-links : links_in M ≡ z.links
    ended-links = links-back l.mesh (rest.accepted l e).sizes most good past places-past

    pub ended-places : places_in M ≡ positions l
    ended-places = places-back l.mesh (rest.accepted l e).sizes most good past places-past

    -- a fact of the finished mesh is one of the rows
    module _ (B : RunOutcome) (A : SeedAnswers l e B) (mesh-is : B.mesh ≡ M) (counts-are : B.answer.counts ≡ z.counts)
        (whole : z.full ≡ false) (t : Totals) (q : t.closingflips ≡ z.closingflips) where
      there : (F : Counts → Links → (ℕ → Point) → ℕ → Type 0) → F z.counts z.links (positions l) z.closingflips
          → F B.answer.counts (links_in B.mesh) (places_in B.mesh) t.closingflips
      there F x = rw (mesh-is, counts-are, q, ended-links, ended-places) x

      place_is : (u : ℕ) → places_in B.mesh u ≡ positions l u
      place_is u = ap (λ (m : MeshRows). places_in m u) mesh-is ∙ ap (λ (p : ℕ → Point). p u) ended-places

      on : (i : ℕ) → i < count l → (vertex_of B i < B.answer.counts.vertices) × (places_in B.mesh (vertex_of B i) ≡ position_of l.points i)
      on i a =
          let u = swept.seed-used l e B A i (taken i a) in
          let v = same-vertices in
          let w = ap (λ (C : Counts). C.vertices) counts-are in
          (omega arith, place_is (vertex_of B i) ∙ swept.seed-here l e B A i (taken i a))

      abbrev before : Links
      before = (convexity (length l.pending) (counts l) (positions l) (links l)).links

      pub ended-demand-3 : Demand3From (empty_seed l) before B t
      unfolding finish_mesh
      ended-demand-3 =
          let D = there (λ C N P k. Good C N P) good in
          record {
            seed = λ u a. absurd (omega arith);
            place = λ i a v. (on i a).1;
            vertex = λ i a x. let y = swept.seed-vertex l e B A i (taken i a) x in omega arith;
            entered = λ i a x. absurd (subst T (swept.seed-not-entered l e B A i (taken i a)) x);
            number =
                let v = same-vertices in
                let w = ap (λ (C : Counts). C.vertices) counts-are in
                let b = ap bit f in
                let k = (rest.keeps l e).vertices in
                let c = swept.seed-vertices l e B A (count l) (let q = all-taken in omega arith) in
                let n = ap (λ (x : ℕ). swept.grown l e x) all-taken in
                omega arith;
            fates = λ i a. swept.seed-run-fate l e B A i (taken i a);
            on-vertex = λ i a x. on i a;
            all_in = λ i a. let x = on i a in (vertex_of B i, x.0, x.1);
            rules = D.wf;
            turning = D.turning;
            area = area-theorem D.wf (places_in B.mesh);
            corners = there (λ C N P k. NoLeftCorner C N P) (laws.finish-convex room (counts l) (positions l) (links l) G whole);
            circles = settled-far D (there (λ C N P k. Settled C N P) (laws.finish-settled room (counts l) (positions l) (links l) G whole));
            closing = there (λ C N P k. ◌≡◌ {A = Closing} (record { links = N; flips = k }) (closing_pass C P before)) closed;
            flips = there (λ C N P k. FlipRun C P before N k) (laws.finish-flips room (counts l) (positions l) (links l) G);
            fall = there (λ C N P k. pos k ≤ℤ (height_sum C before P -ℤ height_sum C N P)) (laws.finish-fall room (counts l) (positions l) (links l) G);
          }
        where
          closed : ◌≡◌ {A = Closing} (record { links = z.links; flips = z.closingflips }) (closing_pass z.counts (positions l) before)
          closed = laws.finish-closing room (counts l) (positions l) (links l) G whole
