-- Where no boundary corner turns left, convexity passes change nothing; so the finish with no skipped point is 01's
-- finish. Assumes nothing.
use Rattle.std.proofs.Math.Bool.{Bool, true, false, cond}
use Rattle.std.specs.Prelude.{◌≡◌, ℕ, ◌+◌, ◌<◌, pos, ◌<ℤ◌}
use Rattle.std.proofs.Math.Path.{refl, ap, ap₂}
use Rattle.std.proofs.Common.{sym, ◌∙◌, subst, add-zero}
use Rattle.std.specs.Int.Signed.{clash_ℤ}
use Rattle.closing.specs.Closing.{Closing, closing_pass}
use Rattle.convexity.specs.Convexity.{convexity, unpassed, NoLeftCorner}
use Rattle.convexity.proofs.ConvexityLawsFacts.{convexity-good, convexity-closings, convexity-convex}
use Rattle.corner.specs.Corner.{Extended}
use Rattle.corner.specs.CornerLaws.{CornerClosed, Closings, none, then}
use Rattle.finish.specs.Finish.{Finishing, close_after, finish_mesh}
use Rattle.math.specs.declared.Point.{Point}
use Rattle.math.specs.Determinant.{orient2d}
use Rattle.mesh.specs.declared.Counts.{Counts}
use Rattle.mesh.specs.Mesh.{Links, In, to}
use Rattle.mesh.specs.Good.{Good}
use Rattle.mesh.specs.Wf.{Wf}
use Rattle.skipped.specs.Fill.{Filling, fill_after, fill_from, convex_after, complete_mesh}
use Rattle.skipped.proofs.FillLawsFacts.{looked, fill_none}

-- a corner that turns left is one of those that `NoLeftCorner` rules out
no-corner : {C : Counts} {L : Links} {p : ℕ → Point} → Wf C L → NoLeftCorner C L p → {e : ℕ} → In C e → L.face e ≡ 0
    → pos 0 <ℤ orient2d (p (L.origin e)) (p (to L e)) (p (to L (L.next e))) → ⊥
no-corner {L = L} {p = p} W N {e} l o h =
    clash_ℤ (subst (λ (x : ℕ). pos 0 <ℤ orient2d (p (L.origin e)) (p x) (p (L.origin (L.next (L.next e))))) (sym (W.links.origin-next l))
    (subst (λ (x : ℕ). pos 0 <ℤ orient2d (p (L.origin e)) (p (to L e)) (p x)) (sym (W.links.origin-next (W.ranges.next< l))) h)) (N.corner l o)

-- no corner is closed
closings-still : {p : ℕ → Point} {m n : Extended} → Wf m.counts m.links → NoLeftCorner m.counts m.links p
    → Closings p m n → n ≡ m
closings-still W N none = refl
closings-still {p} {m} {n} W N (then {k = k} a e S) =
    let T = subst (λ (k : Extended). CornerClosed p k n e) (closings-still W N a) S in
    absurd (no-corner W N T.edge T.outer T.left)

pub convexity-still : (room : ℕ) {C : Counts} {L : Links} {p : ℕ → Point} → Good C L p → NoLeftCorner C L p
    → convexity room C p L ≡ (unpassed C L).mesh
convexity-still room {C} {L} {p} G N = closings-still G.wf N (convexity-closings room C p L G)

-- ---- the finish with no skipped point
module _ (room : ℕ) {C : Counts} {L : Links} {p : ℕ → Point} (G : Good C L p) (skipped : ℕ → Bool) (point : ℕ → Point)
    (n : ℕ) (h : (i : ℕ) → i < n → skipped i ≡ false) where
  abbrev v : Extended
  v = convexity room C p L

  -- the finish by the mesh after its second convexity stage
  abbrev by : (ℕ → Point) → Extended → Finishing
  by q w = record {
    counts = w.counts;
    links = (close_after q w).links;
    faces = v.faces + w.faces;
    convexflips = v.flips + w.flips;
    closingflips = (close_after q w).flips;
    full = w.full;
  }

  -- the second stage adds nothing
  abbrev idle : Bool → Extended
  idle b = record { counts = v.counts; links = v.links; faces = 0; flips = 0; full = b }

  last : (b : Bool) → v.full ≡ b → by p (idle b) ≡ finish_mesh room C p L
  unfolding finish_mesh close_after
  last b q =
      ap₂ (λ (f g : ℕ). record { counts = v.counts; links = (c b).links; faces = f; convexflips = g; closingflips = (c b).flips; full = b }) (add-zero v.faces) (add-zero v.flips)
      ∙ ap (λ (b : Bool). record { counts = v.counts; links = (c b).links; faces = v.faces; convexflips = v.flips; closingflips = (c b).flips; full = b }) (sym q)
    where
      c : Bool → Closing
      c b = cond b (record { links = v.links; flips = 0 }) (closing_pass v.counts p v.links)

  abbrev after : Filling
  after = fill_after room v.counts v.links p skipped point n

  abbrev refused : Filling
  refused = record { counts = v.counts; links = v.links; positions = p; answered = n; full = true }

  second : v.full ≡ false → convex_after room (looked v.counts v.links p n) ≡ idle false
  unfolding convex_after
  second q = convexity-still room (convexity-good room C p L G) (convexity-convex room C p L G q)

  at : (b : Bool) → v.full ≡ b → by (cond b refused after).positions (convex_after room (cond b refused after)) ≡ finish_mesh room C p L
  unfolding convex_after
  at true q = last true q
  at false q =
      ap (λ (s : Filling). by s.positions (convex_after room s)) (fill_none room v.counts v.links p skipped point n h)
      ∙ ap (by p) (second q) ∙ last false q

  -- WITHOUT A POINT IT IS 01'S FINISH
  pub complete-none : (complete_mesh room C L p skipped point n).mesh ≡ finish_mesh room C p L
  unfolding complete_mesh fill_from
  complete-none = at v.full refl
