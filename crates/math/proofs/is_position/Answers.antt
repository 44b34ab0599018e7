-- `math::is_position` meets its contract: points are equal where their coordinates are. Assumes nothing.
use Rattle.std.proofs.Common.{◌≡◌, ap₂, ◌∙◌, ◌&&◌, ℤ, int_eq}
use Rattle.std.proofs.lemmas.Bool.Decides.{Decides-int_eq}
use Rattle.sums.specs.Bit.{test-ext}
use Rattle.sums.proofs.BitLaws.{is_true, from-true}
use Rattle.math.specs.Determinant.{is_coordinate, is_position}
use Rattle.math.proofs.Position.{same-coordinate, coordinate-same}
use Rattle.math.proofs.is_position.Goals as goal

coordinate-equal : (a b : ℤ) → int_eq a b ≡ is_coordinate a b
coordinate-equal a b =
    test-ext (int_eq a b) (is_coordinate a b)
    (λ t. coordinate-same a b ((Decides-int_eq a b).0 (is_true (int_eq a b) t)))
    (λ t. from-true ((Decides-int_eq a b).1 (same-coordinate a b t)))

pub returns : goal.returns
unfolding is_position
returns c = c.eq.ensures ∙ ap₂ ◌&&◌ (coordinate-equal _ _) (coordinate-equal _ _)
