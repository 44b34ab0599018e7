-- Row 11 lets pass just the quote that asking gives now, and row 12 every count before its end. Assumes nothing.
use Rattle.std.specs.Prelude.{Bool, true, false, cond, ◌&&◌, ◌≢◌, ◌≡◌, ℕ, T, eqb, Ok}
use Rattle.std.proofs.Math.Path.{refl}
use Rattle.std.proofs.Common.{sym, ◌∙◌, subst, arith, eq-eqb, ne_eqb}
use Rattle.std.proofs.Math.Dec.{eqb→eq, eqb_refl}
use Rattle.math.specs.Determinant.{is_coordinate}
use Rattle.math.proofs.Position.{same-coordinate, coordinate-same}
use Rattle.mesh_check.specs.Checked.{Checked}
use Rattle.mesh_check.specs.Check.{refused, and_then}
use Rattle.mesh_check.specs.CheckLaws.{NumberedTo, accepts, refuses}
use Rattle.mesh_check.proofs.CheckLawsFacts.{numbered-cond}
use Rattle.sums.proofs.BitLaws.{is_true, and_left, and_right, and_both}
use Rattle.quote.specs.declared.Quote.{Quote}
use Rattle.quote.specs.Quote.{same_quote, check_quote, check_changes, last_change}

-- ---- 11
module _ (q p : Quote) where
  abbrev point : Bool
  point = is_coordinate q.x p.x && (is_coordinate q.y p.y && is_coordinate q.z p.z)

  abbrev answer : Bool
  answer = eqb q.fate p.fate && eqb q.faces p.faces

  -- the test says what it means
  pub same-quote : T (same_quote q p) → q ≡ p
  unfolding same_quote
  same-quote t =
      let u = and_right (eqb q.changes p.changes) (point && answer) t in
      let v = and_left point answer u in
      let yz = and_right (is_coordinate q.x p.x) (is_coordinate q.y p.y && is_coordinate q.z p.z) v in
      let w = and_right point answer u in
      rw (
        eqb→eq q.changes p.changes (and_left (eqb q.changes p.changes) (point && answer) t),
        same-coordinate q.x p.x (and_left (is_coordinate q.x p.x) (is_coordinate q.y p.y && is_coordinate q.z p.z) v),
        same-coordinate q.y p.y (and_left (is_coordinate q.y p.y) (is_coordinate q.z p.z) yz),
        same-coordinate q.z p.z (and_right (is_coordinate q.y p.y) (is_coordinate q.z p.z) yz),
        eqb→eq q.fate p.fate (and_left (eqb q.fate p.fate) (eqb q.faces p.faces) w),
        eqb→eq q.faces p.faces (and_right (eqb q.fate p.fate) (eqb q.faces p.faces) w),
      ) refl

quote-itself : (q : Quote) → T (same_quote q q)
unfolding same_quote
quote-itself q =
    and_both (eqb q.changes q.changes) (point q q && answer q q) (eqb_refl q.changes)
    (and_both (point q q) (answer q q)
    (and_both (is_coordinate q.x q.x) _ (coordinate-same q.x q.x refl)
    (and_both (is_coordinate q.y q.y) _ (coordinate-same q.y q.y refl) (coordinate-same q.z q.z refl)))
    (and_both (eqb q.fate q.fate) _ (eqb_refl q.fate) (eqb_refl q.faces)))

pub quote-fresh : (q : Quote) → check_quote q q ≡ Ok tt
unfolding check_quote
quote-fresh q = rw (is_true (same_quote q q) (quote-itself q)) refl

pub quote-stale : {q p : Quote} → q ≢ p → check_quote q p ≡ refused 11 0
unfolding check_quote
quote-stale {q} {p} d = go (same_quote q p) refl
  where
    go : (t : Bool) → same_quote q p ≡ t → cond t (Ok tt) (refused 11 0) ≡ refused 11 0
    go true e = absurd (d (same-quote q p (subst T (sym e) tt)))
    go false e = refl

pub quote-accepted : {q p : Quote} → check_quote q p ≡ Ok tt → q ≡ p
unfolding check_quote
quote-accepted {q} {p} e = go (same_quote q p) refl e
  where
    go : (t : Bool) → same_quote q p ≡ t → cond t (Ok tt) (refused 11 0) ≡ Ok tt → q ≡ p
    go true f z = same-quote q p (subst T (sym f) tt)
    go false f z = absurd (let k : ◌≡◌ {A = ℕ} 0 1 = cc in omega arith)

-- ---- 12
pub changes-at-end : {n : ℕ} → n ≡ last_change → check_changes n ≡ refused 12 0
unfolding check_changes
changes-at-end {n} e = rw (eq-eqb n last_change e) refl

pub changes-not-at-end : {n : ℕ} → n ≢ last_change → check_changes n ≡ Ok tt
unfolding check_changes
changes-not-at-end {n} d = rw (ne_eqb n last_change d) refl

pub changes-accepted : {n : ℕ} → check_changes n ≡ Ok tt → n ≢ last_change
changes-accepted e f =
    let z : (Ok tt) ≡ refused 12 0 = sym e ∙ changes-at-end f in
    absurd (let k : ◌≡◌ {A = ℕ} 0 1 = cc in omega arith)

-- ---- 11, and then 12
module _ (q p : Quote) (next : Checked) where
  pub quote-then-stale : same_quote q p ≡ false → and_then (check_quote q p) next ≡ refused 11 0
  unfolding check_quote and_then
  quote-then-stale e = rw e refl

  pub quote-then-same : same_quote q p ≡ true → and_then (check_quote q p) next ≡ next
  unfolding check_quote and_then
  quote-then-same e = rw e refl

-- ---- a refusal has one of the numbers 11 and 12
pub changes-numbered : (n : ℕ) → NumberedTo 12 (check_changes n)
unfolding check_changes
changes-numbered n = numbered-cond (eqb n last_change) 12 0 (omega arith) (omega arith) accepts

pub quote-numbered : (q p : Quote) → NumberedTo 12 (check_quote q p)
unfolding check_quote
quote-numbered q p = go (same_quote q p)
  where
    go : (t : Bool) → NumberedTo 12 (cond t (Ok tt) (refused 11 0))
    go true = accepts
    go false = refuses {r = record { number = 11; place = 0 }} (omega arith) (omega arith)
