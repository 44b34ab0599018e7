-- The test of equal positions says what it means, both ways. Assumes nothing.
use Rattle.std.specs.Prelude.{◌≡◌, refl, T, eqb, ℤ, pos, negsuc}
use Rattle.std.proofs.Common.{sym, ◌∙◌, ap, subst, eqb→eq, to_z-of_z, SFits, of_z, to_z}
use Rattle.std.proofs.Math.Dec.{eqb_refl}
use Rattle.std.specs.Int.{Width}
use Rattle.sums.specs.Bit.{test-ext}
use Rattle.sums.proofs.BitLaws.{and_left, and_right, and_both, eq_test}
use Rattle.math.specs.declared.Point.{Point}
use Rattle.math.specs.Determinant.{is_coordinate, is_position}

pub point-ext : {a b : Point} → a.x ≡ b.x → a.y ≡ b.y → a ≡ b
point-ext x y = rw (x, y) refl

pub same-coordinate : (a b : ℤ) → T (is_coordinate a b) → a ≡ b
unfolding is_coordinate
same-coordinate (pos a) (pos b) t = ap pos (eqb→eq a b t)
same-coordinate (pos a) (negsuc b) t = absurd t
same-coordinate (negsuc a) (pos b) t = absurd t
same-coordinate (negsuc a) (negsuc b) t = ap negsuc (eqb→eq a b t)

coordinate-itself : (a : ℤ) → T (is_coordinate a a)
unfolding is_coordinate
coordinate-itself (pos a) = eqb_refl a
coordinate-itself (negsuc a) = eqb_refl a

pub coordinate-same : (a b : ℤ) → a ≡ b → T (is_coordinate a b)
coordinate-same a b e = subst (λ (c : ℤ). T (is_coordinate a c)) e (coordinate-itself a)

-- `==` of two signed numbers compares their bits
pub coordinate-bits : {w : Width} {a b : ℤ} → SFits w a → SFits w b → eqb (of_z w a) (of_z w b) ≡ is_coordinate a b
coordinate-bits {w} {a} {b} f g = test-ext (eqb (of_z w a) (of_z w b)) (is_coordinate a b)
    (λ t. coordinate-same a b (sym (to_z-of_z f) ∙ ap (to_z w) (eqb→eq (of_z w a) (of_z w b) t) ∙ to_z-of_z g))
    (λ t. eq_test (ap (of_z w) (same-coordinate a b t)))

pub same-position : (a b : Point) → T (is_position a b) → a ≡ b
unfolding is_position
same-position a b t =
    let x = is_coordinate a.x b.x in let y = is_coordinate a.y b.y in
    point-ext (same-coordinate a.x b.x (and_left x y t)) (same-coordinate a.y b.y (and_right x y t))

pub position-same : (a b : Point) → a ≡ b → T (is_position a b)
unfolding is_position
position-same a b e =
    and_both (is_coordinate a.x b.x) (is_coordinate a.y b.y)
    (coordinate-same a.x b.x (ap (λ (c : Point). c.x) e)) (coordinate-same a.y b.y (ap (λ (c : Point). c.y) e))
