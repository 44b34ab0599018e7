-- Laws of specs/WalkLaws.antt.
use Rattle.std.specs.Prelude.{Bool, true, false, not, ◌&&◌, ◌||◌, ◌≡◌, refl, ◌≢◌, ℕ, ◌+◌, ◌<◌, ltb, eqb}
use Rattle.std.proofs.lemmas.Bool.{false≢true, eqb-false}
use Rattle.std.proofs.Common.{sym, ◌∙◌, ltb-true, lt-ltb}
use native.Mathlib.Omega.{arith}
use Rattle.corner.specs.Corner.{Extended}
use Rattle.corner.specs.CornerLaws.{Closings, none, then, closings-join, closed-good, closed-length}
use Rattle.math.specs.declared.Point.{Point}
use Rattle.mesh.proofs.BoundaryLaws.{first<, first-outer}
use Rattle.mesh.specs.Good.{Good}
use Rattle.sums.proofs.UntilLaws.{Falls, until-ind}
use Rattle.convexity.specs.Convexity.{turns_left_at}
use Rattle.convexity.proofs.BehindLawsFacts.{closes, closes-behind}
use Rattle.convexity.specs.Walk.{Walk, edge1, edge2, left_behind, stops, close_behind, close_all_behind, onward, walk_turn_of, walk_ends_of, walk_start_of, walk_pass}
use Rattle.convexity.specs.WalkLaws.{Walking, Turns, Turned}

pub turns-here : (p : ℕ → Point) (w : Walk) → stops p w ≡ false → Turns p w
unfolding stops left_behind
turns-here p w e = go w.mesh.full (ltb 1 w.depth) (turns_left_at w.mesh.links p (edge1 w) (edge2 w)) refl refl refl e
  where
    go : (a b c : Bool) → w.mesh.full ≡ a → ltb 1 w.depth ≡ b
        → turns_left_at w.mesh.links p (edge1 w) (edge2 w) ≡ c → (a || not (b && c)) ≡ false → Turns p w
    go true b c x y z e = absurd (false≢true (sym e))
    go false false c x y z e = absurd (false≢true (sym e))
    go false true false x y z e = absurd (false≢true (sym e))
    go false true true x y z e = record { room = x; two = ltb-true _ _ y; left = z }

-- where it says that there is none
pub stopped : (p : ℕ → Point) (w : Walk) → stops p w ≡ true → w.mesh.full ≡ false → 1 < w.depth
    → turns_left_at w.mesh.links p (edge1 w) (edge2 w) ≡ false
unfolding stops left_behind
stopped p w e f l = go (turns_left_at w.mesh.links p (edge1 w) (edge2 w)) (rw (f, lt-ltb 1 w.depth l) at e)
  where
    go : (c : Bool) → not c ≡ true → c ≡ false
    go true e = absurd (false≢true e)
    go false e = refl

module _ (room : ℕ) (p : ℕ → Point) where
  pub close-keeps : (w : Walk) → Walking p w → stops p w ≡ false → Walking p (close_behind room p w)
  unfolding close_behind
  close-keeps w i e =
      let t = turns-here p w e in
      let S = closes room p w.mesh i.good i.current.0 i.current.1 t.left in
      record {
        good = closed-good i.good S;
        current = (closes-behind room p w.mesh i.good i.current.0 i.current.1 t.left).current;
        count = let h = closed-length i.good S in let n = i.count in let l = t.two in omega arith;
      }

  pub closes-fall : Falls (stops p) (close_behind room p) (Walking p) (λ w. w.depth)
  unfolding close_behind
  closes-fall = record { keeps = close-keeps; less = λ w i e. let l = (turns-here p w e).two in omega arith }

  -- from w the loop comes to r
  pub record Ended (w r : Walk) : Type 0 where
    pub walking : Walking p r
    pub closings : Closings p w.mesh r.mesh
    pub current : r.current ≡ w.current
    pub left : r.left ≡ w.left
    pub ends : stops p r ≡ true

  ended-turn : (w r : Walk) → Walking p w → stops p w ≡ false → Ended (close_behind room p w) r → Ended w r
  unfolding close_behind
  ended-turn w r i e q = record {
    walking = q.walking;
    closings = closings-join (then none (edge1 w) (closes room p w.mesh i.good i.current.0 i.current.1 (turns-here p w e).left)) q.closings;
    current = q.current;
    left = q.left;
    ends = q.ends;
  }

  pub closing-ends : (w : Walk) → Walking p w → Ended w (close_all_behind room p w)
  unfolding close_all_behind
  closing-ends w i = until-ind (stops p) (close_behind room p) closes-fall Ended
      (λ w i e. record { walking = i; closings = none; current = refl; left = refl; ends = e }) ended-turn (w.depth + 1) w i (omega arith)

-- ---- the outer loop
pub left_over : (w : Walk) → walk_ends_of w ≡ false → (w.mesh.full ≡ false) × (0 < w.left)
left_over w e = go w.mesh.full (eqb w.left 0) refl refl e
  where
    go : (a b : Bool) → w.mesh.full ≡ a → eqb w.left 0 ≡ b → (a || b) ≡ false → (w.mesh.full ≡ false) × (0 < w.left)
    go true b x y e = absurd (false≢true (sym e))
    go false true x y e = absurd (false≢true (sym e))
    go false false x y e = (x, (let n : w.left ≢ 0 = eqb-false _ _ y in omega arith))

pub onward-keeps : {p : ℕ → Point} (w : Walk) → Walking p w → 0 < w.left → Walking p (onward w)
unfolding onward
onward-keeps w i l = record {
  good = i.good;
  current = (i.good.wf.ranges.next< i.current.0, i.good.wf.links.face-next i.current.0 ∙ i.current.1);
  count = let n = i.count in omega arith;
}

module _ (room : ℕ) (p : ℕ → Point) where
  pub turned : (w : Walk) → Walking p w → walk_ends_of w ≡ false → Turned p w (walk_turn_of room p w)
  unfolding walk_turn_of onward
  turned w i e =
      let l = (left_over w e).1 in
      let E = closing-ends room p (onward w) (onward-keeps w i l) in
      record { walking = E.walking; closings = E.closings; current = E.current; left = (let k = E.left in omega arith); ends = E.ends }

  pub walk-falls : Falls walk_ends_of (walk_turn_of room p) (Walking p) (λ w. w.left)
  walk-falls = record { keeps = λ w i e. (turned w i e).walking; less = λ w i e. let l = (turned w i e).left in omega arith }

  module _ (m : Extended) (G : Good m.counts m.links p) where
    pub walk-starts : Walking p (walk_start_of m)
    unfolding walk_start_of
    walk-starts = record { good = G; current = (first< G.wf, first-outer G.wf); count = omega arith }

    -- the pass is a sequence of corners closed
    pub pass-closings : Closings p m (walk_pass room p m)
    unfolding walk_pass walk_start_of
    pass-closings = until-ind walk_ends_of (walk_turn_of room p) walk-falls (λ w r. Closings p w.mesh r.mesh) (λ w i e. none)
        (λ w r i e q. closings-join (turned w i e).closings q) ((walk_start_of m).left + 1) (walk_start_of m) walk-starts (omega arith)
