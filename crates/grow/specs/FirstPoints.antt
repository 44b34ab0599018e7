-- The first point, and the second, by what the code stores and answers. Assumes nothing.
use Rattle.std.specs.Prelude.{Bool, true, false, not, List, ◌≡◌, ℕ, T, ℤ}
use Rattle.std.proofs.Math.Path.{refl}
use Rattle.std.proofs.Common.{sym, ◌∙◌, ap, subst}
use Rattle.std.proofs.Math.Dec.{not_T}
use Rattle.corner.specs.CornerRows.{extended_of}
use Rattle.dcel.specs.Rows.{links_of, position_of, row_of}
use Rattle.line.specs.Grow.{one_vertex, insert_first_vertex, insert_second_vertex}
use Rattle.line.specs.Operations.{two_vertices, setup_initial_two_vertices}
use Rattle.line.specs.Order.{comes_before, is_same_of}
use Rattle.line.proofs.OrderLaws.{is_same}
use Rattle.line_search.specs.Before.{precedes-irrefl}
use Rattle.math.specs.declared.Point.{Point}
use Rattle.math.specs.Determinant.{is_position}
use Rattle.math.proofs.Position.{same-position, position-same}
use Rattle.sums.specs.Bit.{test-ext}
use Rattle.sums.proofs.BitLaws.{and_both}
use Rattle.sums.specs.Put.{put}
use Rattle.grow.specs.declared.Grown.{Grown}
use Rattle.grow.specs.GrowRows.{growing_of, unflipped_by}

-- ---- the first
module _ (q : List ℤ) (o a : List ℕ) (v : Point) (q' : List ℤ) (o' a' : List ℕ) {r : Grown} where
  pub first-grown : position_of q' ≡ put (position_of q) 0 v → row_of o' ≡ put (row_of o) 0 0 → row_of a' ≡ put (row_of a) 0 0
      → r ≡ unflipped_by 1 0 one_vertex
      → (h : List ℕ) → growing_of q' o' h a' r ≡ insert_first_vertex (links_of o h a) (position_of q) v
  unfolding insert_first_vertex extended_of links_of
  first-grown x y z e h = rw (e, x, y, z) refl

-- ---- the second
-- of two positions neither comes before the other where they are equal, and there alone
same_self : (a : Point) → T (is_same_of a a)
unfolding is_same_of
same_self a =
    let n : T (not (comes_before a a)) = not_T (comes_before a a) (λ t. precedes-irrefl (record { is = t })) in
    and_both (not (comes_before a a)) (not (comes_before a a)) n n

pub same-is-position : (a b : Point) → is_same_of a b ≡ is_position a b
same-is-position a b =
    test-ext (is_same_of a b) (is_position a b) (λ t. position-same a b (is_same a b t))
    (λ t. subst (λ (c : Point). T (is_same_of a c)) (same-position a b t) (same_self a))

-- u is the first vertex's position, and t the test of it
module _ (q : List ℤ) (o h a : List ℕ) (v : Point) {u : Point} (x : u ≡ position_of q 0) {t : Bool} (y : t ≡ is_position u v) where
  test-is : is_same_of (position_of q 0) v ≡ t
  test-is = same-is-position (position_of q 0) v ∙ sym (y ∙ ap (λ (u : Point). is_position u v) x)

  pub second-same : t ≡ true → {r : Grown} → r ≡ unflipped_by 9 0 one_vertex
      → growing_of q o h a r ≡ insert_second_vertex (links_of o h a) (position_of q) v
  unfolding insert_second_vertex extended_of
  second-same i e = rw (e, test-is, i) refl

  pub second-grown : t ≡ false → (q' : List ℤ) (o' h' a' : List ℕ) {r : Grown} → position_of q' ≡ put (position_of q) 1 v
      → links_of o' h' a' ≡ setup_initial_two_vertices (links_of o h a) 0 1 → r ≡ unflipped_by 1 1 two_vertices
      → growing_of q' o' h' a' r ≡ insert_second_vertex (links_of o h a) (position_of q) v
  unfolding insert_second_vertex extended_of
  second-grown i q' o' h' a' z k e = rw (e, z, k, test-is, i) refl
