-- The derived equality of two quotes is `same_quote`. Assumes nothing.
use Rattle.std.specs.Prelude.{◌≡◌, refl, Bool, true, false, ◌&&◌, ℤ, eqb}
use Rattle.std.proofs.Common.{◌∙◌}
use Rattle.std.specs.Bool.{Decides, one_answer, passes}
use Rattle.std.specs.Cmp.{signed_Decides}
use Rattle.std.specs.Ordering.{int_eq}
use Rattle.math.specs.Determinant.{is_coordinate}
use Rattle.math.proofs.Position.{same-coordinate, coordinate-same}
use Rattle.quote.specs.declared.Quote.{Quote}
use Rattle.sums.proofs.BitLaws.{is_true}
use Rattle.quote.specs.Quote.{same_quote}

-- both tests decide whether the numbers are equal
is-decided : (a b : ℤ) → Decides (is_coordinate a b) (a ≡ b)
is-decided a b = (λ t. same-coordinate a b (passes _ t), λ e. is_true _ (coordinate-same a b e))

coordinate-eq : (a b : ℤ) → int_eq a b ≡ is_coordinate a b
coordinate-eq a b = one_answer {P = a ≡ b} (int_eq a b) (is_coordinate a b) (signed_Decides a b) (is-decided a b)

regrouped : (a x y z b c : Bool) → (a && (x && (y && (z && (b && c))))) ≡ (a && ((x && (y && z)) && (b && c)))
regrouped false x y z b c = refl
regrouped true false y z b c = refl
regrouped true true false z b c = refl
regrouped true true true z b c = refl

pub same-eq : (q p : Quote) → {r : Bool} →
    r ≡ (eqb q.changes p.changes && (int_eq q.x p.x && (int_eq q.y p.y && (int_eq q.z p.z && (eqb q.fate p.fate && eqb q.faces p.faces)))))
    → r ≡ same_quote q p
unfolding same_quote
same-eq q p e = e ∙ rw (coordinate-eq q.x p.x, coordinate-eq q.y p.y, coordinate-eq q.z p.z) (regrouped (eqb q.changes p.changes) (is_coordinate q.x p.x) (is_coordinate q.y p.y) (is_coordinate q.z p.z) (eqb q.fate p.fate) (eqb q.faces p.faces))
