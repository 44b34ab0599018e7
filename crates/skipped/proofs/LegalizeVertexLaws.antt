-- Laws of specs/LegalizeVertex.antt.
use Rattle.std.specs.Prelude.{Bool, cond, ◌≡◌, refl, ℕ, ◌+◌, ◌<◌}
use Rattle.std.proofs.Math.Bool.{true, false}
use mathlib.Core.List.{List, [], ◌∷◌}
use Rattle.std.proofs.Common.{sym, ◌∙◌, ap, subst, add-zero, arith}
use Rattle.corner.specs.Corner.{Extended}
use Rattle.corner.specs.Untouched.{Untouched, run-untouched}
use Rattle.legalize.specs.declared.Entry.TheVariants.{HalfEdge}
use Rattle.legalize.specs.Legalize.{entry_edge, legalize_edge}
use Rattle.legalize.specs.LegalizeLaws.{Outcome, legalize-outcome, legalize-start}
use Rattle.location.specs.Search.{is_outer, spokes}
use Rattle.math.specs.declared.Point.{Point}
use Rattle.mesh.specs.declared.Counts.{Counts}
use Rattle.mesh.specs.Mesh.{Links, In, turn}
use Rattle.mesh.specs.Area.{area_total}
use Rattle.mesh.specs.FlipRun.{FlipRun, none}
use Rattle.mesh.proofs.FlipRunLaws.{run_join, run-good, run-boundary, run-area}
use Rattle.mesh.specs.Frame.{SameBoundary}
use Rattle.mesh.specs.Good.{Good}
use Rattle.conflicts.specs.FlipsWithin.{FlipsWithin}
use Rattle.conflicts.proofs.FlipsWithinLaws.{within-run}
use Rattle.mesh.specs.Triangle.{rev-in}
use Rattle.mesh.specs.Wf.{Wf}
use Rattle.sums.proofs.Cases.{All}
use Rattle.sums.specs.Tally.{walk}
use Rattle.sums.proofs.TallyLaws.{walk-all}
use Rattle.skipped.specs.Insert.{legalize_one, legalize_each, inner_nexts, star_edges, legalize_vertex}
use Rattle.skipped.specs.LegalizeVertex.{Legalized}

pub legalized-none : {p : ℕ → Point} {m : Extended} → Legalized p m m
legalized-none {m = m} = record { counts = refl; faces = refl; made = 0; run = none; flips = sym (add-zero m.flips) }

pub legalized-join : {p : ℕ → Point} {m k r : Extended} → Legalized p m k → Legalized p k r → Legalized p m r
legalized-join {p} {m} {k} {r} A B = record {
  counts = B.counts ∙ A.counts;
  faces = B.faces ∙ A.faces;
  made = A.made + B.made;
  run = run_join A.run (subst (λ (C : Counts). FlipRun C p k.links r.links B.made) A.counts B.run);
  flips = let a = A.flips in let b = B.flips in omega arith;
}

-- ---- what that keeps
module _ {p : ℕ → Point} {m r : Extended} (G : Good m.counts m.links p) (A : Legalized p m r) where
  pub legalized-good : Good r.counts r.links p
  legalized-good = subst (λ (C : Counts). Good C r.links p) (sym A.counts) (run-good G A.run)

  pub legalized-boundary : SameBoundary m.counts m.links r.links
  legalized-boundary = run-boundary G A.run

  pub legalized-area : area_total r.counts r.links p ≡ area_total m.counts m.links p
  legalized-area = ap (λ (C : Counts). area_total C r.links p) A.counts ∙ run-area G A.run

  pub legalized-bound : FlipsWithin m.counts m.links p m.flips → FlipsWithin r.counts r.links p r.flips
  legalized-bound B =
      subst (λ (C : Counts). FlipsWithin C r.links p r.flips) (sym A.counts)
      (subst (FlipsWithin m.counts r.links p) (sym A.flips) (within-run G B A.run))

  pub legalized-untouched : Untouched r.counts m.links r.links
  legalized-untouched = subst (λ (C : Counts). Untouched C m.links r.links) (sym A.counts) (run-untouched G A.run)

-- ---- `legalize_edge`
module _ (room : ℕ) (p : ℕ → Point) where
  pub legalize-one : (m : Extended) → Good m.counts m.links p → {e : ℕ} → In m.counts e → Legalized p m (legalize_one room p m e)
  unfolding legalize_one entry_edge
  legalize-one m G {e} l = record { counts = refl; faces = refl; made = o.made; run = o.run; flips = o.flips }
    where
      o : Outcome room HalfEdge m.counts p (record { links = m.links; pending = e ∷ []; flips = m.flips; full = false })
          (legalize_edge room m.counts p m.links m.flips e)
      o = legalize-outcome room HalfEdge m.counts p (record { links = m.links; pending = e ∷ []; flips = m.flips; full = false })
          (legalize-start G ((let k = l in omega arith), tt))

  pub legalize-each : (l : List ℕ) (m : Extended) → Good m.counts m.links p → All (In m.counts) l
      → Legalized p m (legalize_each room p m l)
  unfolding legalize_each
  legalize-each [] m G a = legalized-none
  legalize-each (e ∷ l) m G a =
      let A = legalize-one m G a.0 in
      go A (legalize-each l (legalize_one room p m e) (legalized-good G A) (subst (λ (C : Counts). All (In C) l) (sym A.counts) a.1)) m.full
    where
      go : Legalized p m (legalize_one room p m e)
          → Legalized p (legalize_one room p m e) (legalize_each room p (legalize_one room p m e) l)
          → (b : Bool) → Legalized p m (cond b m (legalize_each room p (legalize_one room p m e) l))
      go A rest true = legalized-none
      go A rest false = legalized-join A rest

-- ---- `legalize_vertex`
module _ {C : Counts} {L : Links} (W : Wf C L) where
  inner-nexts-in : (l : List ℕ) → All (In C) l → All (In C) (inner_nexts L l)
  unfolding inner_nexts
  inner-nexts-in [] a = tt
  inner-nexts-in (e ∷ l) a = go (inner-nexts-in l a.1) (is_outer L e)
    where
      go : All (In C) (inner_nexts L l) → (b : Bool) → All (In C) (cond b (inner_nexts L l) (L.next e ∷ inner_nexts L l))
      go rest true = rest
      go rest false = (W.ranges.next< a.0, rest)

  -- the edges that are collected are in use
  pub star-in : {w : ℕ} → w < C.vertices → All (In C) (star_edges C L w)
  unfolding star_edges
  star-in {w} h =
      inner-nexts-in (walk (spokes C L w) (turn L) (L.out w))
      (walk-all (In C) (turn L) (λ x k. rev-in C (W.ranges.prev< k)) (spokes C L w) (L.out w) (W.ranges.out< h))

pub legalize-vertex : (room : ℕ) (p : ℕ → Point) (m : Extended) → Good m.counts m.links p → {w : ℕ} → w < m.counts.vertices
    → Legalized p m (legalize_vertex room p m w)
unfolding legalize_vertex
legalize-vertex room p m G h = legalize-each room p _ m G (star-in G.wf h)
