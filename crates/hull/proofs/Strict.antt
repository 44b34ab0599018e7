-- A strict ring, by counts around the boundary: what the test counts is what 01's words ask. Assumes nothing.
use Rattle.std.specs.Prelude.{ℕ, ◌+◌, ◌≡◌, Bool, ◌&&◌, T}
use Rattle.std.proofs.Common.{arith, sym, ◌∙◌, le→leb}
use mathlib.Core.List.{map}
use Rattle.std.proofs.Math.Dec.{leb, eqb, leb→le, eqb→eq}
use Rattle.segment.specs.Arc.{wide}
use Rattle.sums.specs.Bit.{test-ext}
use Rattle.sums.proofs.BitLaws.{eq_test, and_left, and_right, and_both}
use Rattle.sums.proofs.BoundedLaws.{count-not}
use Rattle.sums.specs.Iterate.{iter}
use Rattle.sums.specs.Tally.{walk, tally}
use Rattle.sums.proofs.TallyLaws.{tally-count}
use Rattle.ring.specs.Ring.{at_ends, proper, wraps, count_around, is_sound, is_strict}
use Rattle.ring.proofs.Merged.{sound→, sound←, angles-around, strict-sound, strict-all}

-- edges whose ends differ, and those whose ends are equal
pub proper-equal : (next α : ℕ → ℕ) (e h : ℕ) → tally (at_ends eqb next α) (walk h next e) + tally (at_ends proper next α) (walk h next e) ≡ h
unfolding proper
proper-equal next α e h =
    let b = tally-count (at_ends eqb next α) next h e in
    let d = tally-count (at_ends proper next α) next h e in
    let n = count-not h (λ k. at_ends eqb next α (iter k next e)) in
    omega arith

module _ (N : ℕ) (next α : ℕ → ℕ) (e h : ℕ) (c : iter h next e ≡ e) where
  around : (ℕ → ℕ → Bool) → ℕ
  around φ = tally (at_ends φ next α) (walk h next e)

  counted : Bool
  counted = leb 3 h && eqb (around wraps) 1 && eqb (around (wide N)) 0 && eqb (around eqb) 0

  forth : T (is_strict N (map α (walk h next e))) → T counted
  unfolding counted around is_strict
  forth t =
      let l = map α (walk h next e) in
      let S = sound→ N l (strict-sound N l t) in
      let z = eqb→eq (count_around eqb l) 0 (and_right (is_sound N l) (eqb (count_around eqb l) 0) t) in
      and_both (leb 3 h && eqb (around wraps) 1 && eqb (around (wide N)) 0) (eqb (around eqb) 0)
      (and_both (leb 3 h && eqb (around wraps) 1) (eqb (around (wide N)) 0)
      (and_both (leb 3 h) (eqb (around wraps) 1)
      (le→leb 3 h (let a = strict-all N next α e h c t in let b = S.three in let d = angles-around next α h e c proper in omega arith))
      (eq_test (sym (angles-around next α h e c wraps) ∙ S.once)))
      (eq_test (sym (angles-around next α h e c (wide N)) ∙ S.gaps)))
      (eq_test (sym (angles-around next α h e c eqb) ∙ z))

  back : T counted → T (is_strict N (map α (walk h next e)))
  unfolding counted around is_strict
  back t =
      let l = map α (walk h next e) in
      let x = leb 3 h in let y = eqb (around wraps) 1 in let u = eqb (around (wide N)) 0 in let v = eqb (around eqb) 0 in
      let E = eqb→eq (around eqb) 0 (and_right (x && y && u) v t) in
      let t₂ = and_left (x && y && u) v t in
      let t₁ = and_left (x && y) u t₂ in
      and_both (is_sound N l) (eqb (count_around eqb l) 0)
      (sound← N l (record {
        three = let a = leb→le 3 h (and_left x y t₁) in let b = proper-equal next α e h in let d = angles-around next α h e c proper in omega arith;
        once = angles-around next α h e c wraps ∙ eqb→eq (around wraps) 1 (and_right x y t₁);
        gaps = angles-around next α h e c (wide N) ∙ eqb→eq (around (wide N)) 0 (and_right (x && y) u t₂);
      }))
      (eq_test (angles-around next α h e c eqb ∙ E))

  pub strict-counts : (leb 3 h && eqb (tally (at_ends wraps next α) (walk h next e)) 1 && eqb (tally (at_ends (wide N) next α) (walk h next e)) 0 && eqb (tally (at_ends eqb next α) (walk h next e)) 0)
      ≡ is_strict N (map α (walk h next e))
  unfolding counted around
  strict-counts = test-ext counted (is_strict N (map α (walk h next e))) back forth
