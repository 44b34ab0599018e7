-- Laws of specs/ConvexityLaws.antt.
use Rattle.std.specs.Prelude.{Bool, ◌||◌, cond, ◌≡◌, ◌≢◌, ℕ, zero, suc, ◌+◌, ◌*◌, ◌<◌, eqb, pos, ◌≤ℤ◌}
use Rattle.std.proofs.Math.Bool.{true, false}
use Rattle.std.proofs.lemmas.Bool.{false≢true, eqb-false}
use Rattle.std.proofs.Math.Path.{refl, ap}
use Rattle.std.proofs.Common.{sym, ◌∙◌, ap₂, subst, eqb-true}
use native.Mathlib.Omega.{arith}
use Rattle.std.specs.Int.Signed.{lt_z_no}
use Rattle.conflicts.specs.FlipsWithin.{FlipsWithin}
use Rattle.conflicts.proofs.FlipsWithinLaws.{within_none}
use Rattle.corner.specs.Corner.{Extended}
use Rattle.corner.specs.CornerLaws.{Closings, none, closings-join, closings-good, closings-bound, closings-count, closings-none}
use Rattle.math.specs.declared.Point.{Point}
use Rattle.math.specs.Determinant.{orient2d}
use Rattle.mesh.specs.declared.Counts.{Counts}
use Rattle.mesh.specs.Mesh.{Links, In}
use Rattle.mesh.specs.Area.{boundary_length, boundary_area, at_corners, area_total}
use Rattle.mesh.proofs.AreaLaws.{area-theorem}
use Rattle.mesh.proofs.BoundaryLaws.{next-inverse}
use Rattle.mesh.proofs.CountsLaws.{count-faces}
use Rattle.mesh.specs.FlipRun.{FlipRun}
use Rattle.mesh.proofs.FlipRunLaws.{run-boundary}
use Rattle.mesh.specs.Good.{Good}
use Rattle.sums.proofs.BitLaws.{from_false}
use Rattle.sums.specs.Iterate.{iter}
use Rattle.sums.proofs.IterateLaws.{iter-last, inverse-sym, reach-back, reach-on}
use Rattle.sums.specs.Until.{until}
use Rattle.sums.proofs.UntilLaws.{Falls, until-ind, until-ends, until-fuel, until-keeps}
use Rattle.convexity.specs.Convexity.{turns_left_at, fix_convexity, Passes, pass_again, unpassed, convexity, NoLeftCorner}
use Rattle.convexity.proofs.BehindLawsFacts.{behind-in, behind-period}
use Rattle.convexity.specs.Walk.{Walk, walk_turn_of, walk_ends_of, walk_start_of, walk_pass}
use Rattle.convexity.specs.WalkLaws.{Walking, Turned}
use Rattle.convexity.proofs.WalkLawsFacts.{stopped, left_over, turned, walk-falls, walk-starts}
use Rattle.convexity.proofs.StackLawsFacts.{fix-walks}
use Rattle.convexity.specs.ConvexityLaws.{corner_behind, Passing, passes_left}

Tested : (ℕ → Point) → Walk → Type 0
Tested p w = (k : ℕ) → suc k < w.depth → corner_behind p w.mesh.links w.current k ≡ false

-- a turn that closes no corner tests one more
tested-turn : {p : ℕ → Point} (w r : Walk) → Walking p w → Turned p w r → r.mesh ≡ w.mesh → w.mesh.full ≡ false
    → Tested p w → Tested p r
unfolding Tested
tested-turn {p} w r i t q f T zero u = stopped p r t.ends (ap (λ (m : Extended). m.full) q ∙ f) u
tested-turn {p} w r i t q f T (suc j) u =
    ap₂ (λ (m : Extended) (c : ℕ). corner_behind p m.links c (suc j)) q t.current
    ∙ ap (λ (c : ℕ). corner_behind p w.mesh.links c j) (i.good.wf.links.prev-next i.current.0)
    ∙ T j (let a = i.count in let b = t.walking.count in let c = t.left in let h = ap (λ (m : Extended). boundary_length m.counts m.links) q in omega arith)

-- all of them, once around
tested-all : {p : ℕ → Point} (w : Walk) → Walking p w → w.left ≡ 0 → Tested p w → NoLeftCorner w.mesh.counts w.mesh.links p
unfolding Tested turns_left_at
tested-all {p} w i z T = record { corner = at }
  where
    L : Links
    L = w.mesh.links

    at : {e : ℕ} → In w.mesh.counts e → L.face e ≡ 0 → at_corners orient2d L p e ≤ℤ pos 0
    at {e} l o =
        let W = i.good.wf in
        let b = behind-in W i.current.0 i.current.1 2 in
        let on = reach-on (inverse-sym (next-inverse W)) b.0 (behind-period W b.0 b.1) (reach-back (next-inverse W) l (W.faces.outer l b.0 o b.1)) in
        let y = iter (suc on.0) L.prev w.current in
        let m = (behind-in W i.current.0 i.current.1 (suc on.0)).0 in
        let x : L.prev y ≡ e = sym (iter-last (suc on.0) L.prev w.current) ∙ on.2 in
        let n : y ≡ L.next e = sym (W.links.next-prev m) ∙ ap L.next x in
        let h = T on.0 (let a = i.count in let u = on.1 in omega arith) in
        rw (W.links.origin-next (W.ranges.next< l), W.links.origin-next l) (lt_z_no (from_false (ap₂ (λ (d e : ℕ). turns_left_at L p d e) (sym on.2) (sym n) ∙ h)))

-- ---- one pass
module _ (room : ℕ) (p : ℕ → Point) (m : Extended) (G : Good m.counts m.links p) (f : m.full ≡ false) where
  -- a walk within the pass
  record Within (w : Walk) : Type 0 where
    walking : Walking p w
    closings : Closings p m w.mesh
    tested : w.mesh.faces ≡ m.faces → Tested p w

  within-turn : (w : Walk) → Within w → walk_ends_of w ≡ false → Within (walk_turn_of room p w)
  within-turn w I e =
      let t = turned room p w I.walking e in
      let a = closings-count I.closings in let b = closings-count t.closings in
      record {
        walking = t.walking;
        closings = closings-join I.closings t.closings;
        tested = λ s. tested-turn w (walk_turn_of room p w) I.walking t (closings-none t.closings (omega arith)) (left_over w e).0 (I.tested (omega arith));
      }

  within-falls : Falls walk_ends_of (walk_turn_of room p) Within (λ w. w.left)
  within-falls = record { keeps = within-turn; less = λ w I e. (walk-falls room p).less w I.walking e }

  within-start : Within (walk_start_of m)
  unfolding walk_start_of Tested
  within-start = record { walking = walk-starts room p m G; closings = none; tested = λ _ k u. absurd (omega arith) }

  walked : Walk
  walked = until walk_ends_of (walk_turn_of room p) ((walk_start_of m).left + 1) (walk_start_of m)

  walked-mesh : fix_convexity room p m ≡ walked.mesh
  unfolding walk_pass walked
  walked-mesh = fix-walks room p m G f

  walked-ends : walk_ends_of walked ≡ true
  unfolding walked
  walked-ends = until-ends walk_ends_of (walk_turn_of room p) within-falls ((walk_start_of m).left + 1) (walk_start_of m) within-start (omega arith)

  walked-within : Within walked
  unfolding walked
  walked-within = until-keeps walk_ends_of (walk_turn_of room p) within-falls ((walk_start_of m).left + 1) (walk_start_of m) within-start

  pub fix-closings : Closings p m (fix_convexity room p m)
  fix-closings = subst (Closings p m) (sym walked-mesh) walked-within.closings

  pub fix-good : Good (fix_convexity room p m).counts (fix_convexity room p m).links p
  fix-good = closings-good G fix-closings

  -- a pass that adds no face leaves everything as it is, and no corner turns left
  pub fix-still : (fix_convexity room p m).faces ≡ m.faces → NoLeftCorner (fix_convexity room p m).counts (fix_convexity room p m).links p
  fix-still s =
      let q : walked.mesh.faces ≡ m.faces = ap (λ (m : Extended). m.faces) (sym walked-mesh) ∙ s in
      let full : walked.mesh.full ≡ false = ap (λ (m : Extended). m.full) (closings-none walked-within.closings q) ∙ f in
      let left : walked.left ≡ 0 = eqb-true _ _ (rw full at walked-ends) in
      subst (λ (m : Extended). NoLeftCorner m.counts m.links p) (sym walked-mesh) (tested-all walked walked-within.walking left (walked-within.tested q))

module _ (room : ℕ) (p : ℕ → Point) where
  pub again-closings : (s : Passes) → Passing p s → s.still ≡ false → Closings p s.mesh (pass_again room p s).mesh
  unfolding pass_again
  again-closings s i e = fix-closings room p s.mesh i.good (i.full e)

  again-keeps : (s : Passes) → Passing p s → s.still ≡ false → Passing p (pass_again room p s)
  unfolding pass_again
  again-keeps s i e = record {
    good = fix-good room p s.mesh i.good (i.full e);
    full = λ n. neither (fix_convexity room p s.mesh).full (eqb (fix_convexity room p s.mesh).faces s.mesh.faces) n;
    convex = λ t f. fix-still room p s.mesh i.good (i.full e) (eqb-true _ _ (rw f at t));
  }
    where
      neither : (a b : Bool) → (a || b) ≡ false → a ≡ false
      neither true b e = absurd (false≢true (sym e))
      neither false b e = refl

  again-less : (s : Passes) → Passing p s → s.still ≡ false → passes_left (pass_again room p s) < passes_left s
  unfolding pass_again passes_left
  again-less s i e = rw e (go (fix_convexity room p s.mesh).full (eqb (fix_convexity room p s.mesh).faces s.mesh.faces) refl)
    where
      m : Extended
      m = fix_convexity room p s.mesh

      go : (a b : Bool) → eqb m.faces s.mesh.faces ≡ b
          → cond (a || b) 0 (boundary_length m.counts m.links + 1)
          < boundary_length s.mesh.counts s.mesh.links + 1
      go true b q = omega arith
      go false true q = omega arith
      go false false q =
          let n : m.faces ≢ s.mesh.faces = eqb-false _ _ q in
          let c = closings-count (fix-closings room p s.mesh i.good (i.full e)) in
          let a = count-faces i.good.wf in let b = count-faces (fix-good room p s.mesh i.good (i.full e)).wf in
          omega arith

  pub passes-fall : Falls (λ s. s.still) (pass_again room p) (Passing p) passes_left
  passes-fall = record { keeps = again-keeps; less = again-less }

module _ (room : ℕ) (C : Counts) (p : ℕ → Point) (L : Links) (G : Good C L p) where
  pub passes-start : Passing p (unpassed C L)
  passes-start = record { good = G; full = λ _. refl; convex = λ t. absurd (false≢true t) }

  pub passes-enough : passes_left (unpassed C L) < 2 * C.vertices + 2
  unfolding passes_left
  passes-enough = let c = count-faces G.wf in omega arith

  -- corners closed one after another, and where no flip was refused, none is left
  pub convexity-closings : Closings p (unpassed C L).mesh (convexity room C p L)
  unfolding convexity
  convexity-closings = until-ind (λ s. s.still) (pass_again room p) (passes-fall room p) (λ s r. Closings p s.mesh r.mesh) (λ s i e. none)
      (λ s r i e q. closings-join (again-closings room p s i e) q) (2 * C.vertices + 2) (unpassed C L) passes-start passes-enough

  pub convexity-convex : (convexity room C p L).full ≡ false → NoLeftCorner (convexity room C p L).counts (convexity room C p L).links p
  unfolding convexity
  convexity-convex f =
      (until-keeps (λ s. s.still) (pass_again room p) (passes-fall room p) (2 * C.vertices + 2) (unpassed C L) passes-start).convex
      (until-ends (λ s. s.still) (pass_again room p) (passes-fall room p) (2 * C.vertices + 2) (unpassed C L) passes-start passes-enough) f

  -- the fuel suffices: with more of it the passes end the same
  pub convexity-fuel : (n : ℕ) → boundary_length C L + 1 < n
      → (until (λ s. s.still) (pass_again room p) n (unpassed C L)).mesh ≡ convexity room C p L
  unfolding convexity passes_left
  convexity-fuel n l = ap (λ (s : Passes). s.mesh) (until-fuel (λ s. s.still) (pass_again room p) (passes-fall room p) n (2 * C.vertices + 2) (unpassed C L) passes-start l passes-enough)

  pub convexity-good : Good (convexity room C p L).counts (convexity room C p L).links p
  convexity-good = closings-good G convexity-closings

  -- the same vertices, and an edge and a face more for each face that was added
  pub convexity-counts : (convexity room C p L).counts
      ≡ record { vertices = C.vertices; edges = C.edges + (convexity room C p L).faces; faces = C.faces + (convexity room C p L).faces }
  convexity-counts = let c = closings-count convexity-closings in counts-are _ C (convexity room C p L).faces c.vertices (let e = c.edges in omega arith) (let e = c.faces in omega arith)
    where
      counts-are : (A C : Counts) (n : ℕ) → A.vertices ≡ C.vertices → A.edges ≡ C.edges + n
          → A.faces ≡ C.faces + n
          → A ≡ record { vertices = C.vertices; edges = C.edges + n; faces = C.faces + n }
      counts-are A C n v e f = rw (← v, ← e, ← f) refl

  pub convexity-bound : FlipsWithin (convexity room C p L).counts (convexity room C p L).links p (convexity room C p L).flips
  convexity-bound = closings-bound G convexity-closings within_none

  pub convexity-area : area_total (convexity room C p L).counts (convexity room C p L).links p
      ≡ boundary_area (convexity room C p L).counts (convexity room C p L).links p
  convexity-area = area-theorem convexity-good.wf p

-- ---- flips keep the boundary's corners
pub run-corners : {C : Counts} {p : ℕ → Point} {L M : Links} {n : ℕ} → Good C L p → FlipRun C p L M n
    → NoLeftCorner C L p → NoLeftCorner C M p
run-corners {C} {p} {L} {M} G r N = record { corner = at }
  where
    at : {e : ℕ} → In C e → M.face e ≡ 0 → at_corners orient2d M p e ≤ℤ pos 0
    at {e} l z =
        let S = run-boundary G r in let W = G.wf in
        let o = S.was l z in
        let n = W.ranges.next< l in let on = W.links.face-next l ∙ o in
        let k₁ = S.keeps l o in let k₂ = S.keeps n on in let k₃ = S.keeps (W.ranges.next< n) (W.links.face-next n ∙ on) in
        let a : M.origin (M.next e) ≡ L.origin (L.next e) = cc in
        let b : M.origin (M.next (M.next e)) ≡ L.origin (L.next (L.next e)) = cc in
        rw (k₁.origin, a, b) (N.corner l o)
