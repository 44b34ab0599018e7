-- `fix_convexity` of bulk_load.rs, one pass with its stack `convex_edges`, and the passes of a finish. Definitions
-- only; the laws are in `ConvexityLaws`.
-- 01: "Finish makes the first pass of `fix_convexity`, then repeats passes until one adds no face."
use Rattle.std.specs.Prelude.{Bool, false, not, ◌||◌, List, [], ◌∷◌, ◌≡◌, ℕ, ◌+◌, ◌*◌, ◌/◌, eqb, pos, length, ◌≤ℤ◌}
use Rattle.std.specs.Int.Signed.{lt_z}
use Rattle.corner.specs.Corner.{Extended, close_corner}
use Rattle.math.specs.declared.Point.{Point}
use Rattle.math.specs.Determinant.{orient2d}
use Rattle.mesh.specs.declared.Counts.{Counts}
use Rattle.mesh.specs.Mesh.{Links, In, to}
use Rattle.mesh.specs.Area.{at_corners}
use Rattle.sums.specs.Until.{until}

-- `edge1.side_query(edge2.to().position()).is_on_left_side()`
unfoldable pub turns_left_at : Links → (ℕ → Point) → ℕ → ℕ → Bool
turns_left_at L p edge1 edge2 = lt_z (pos 0) (orient2d (p (L.origin edge1)) (p (to L edge1)) (p (to L edge2)))

-- a pass under way: `current_fixed`, and `convex_edges` with its last entry first
pub record Pass : Type 0 where
  pub mesh : Extended
  pub current : ℕ
  pub edges : List ℕ

-- `while let &[.., edge1_fixed, edge2_fixed] = &*convex_edges`, and the test that follows
unfoldable pub last_turns_left : (ℕ → Point) → Links → List ℕ → Bool
last_turns_left p L [] = false
last_turns_left p L (edge2 ∷ []) = false
last_turns_left p L (edge2 ∷ edge1 ∷ l) = turns_left_at L p edge1 edge2

-- "Violation detected. It is resolved by inserting a new edge"; `edge1` and `edge2` are pushed in this order and
-- legalized, and the new edge, which `create_single_face_between_edge_and_next` returns, takes their place
unfoldable pub close_last : ℕ → (ℕ → Point) → Pass → List ℕ → Pass
close_last room p s [] = s
close_last room p s (edge2 ∷ []) = s
close_last room p s (edge2 ∷ edge1 ∷ l) = record {
  mesh = close_corner room p s.mesh edge1 (edge1 / 2) (edge2 / 2);
  current = s.current;
  edges = (2 * s.mesh.counts.edges + 1) ∷ l;
}

-- the inner loop; each turn leaves `convex_edges` shorter by one
unfoldable pub close_corners : ℕ → (ℕ → Point) → Pass → Pass
close_corners room p s =
    until (λ t. t.mesh.full || not (last_turns_left p t.mesh.links t.edges))
    (λ t. close_last room p t t.edges) (length s.edges + 1) s

-- a turn of the outer loop: `current_fixed` is pushed, and the walk goes on to its next
unfoldable pub pass_turn : ℕ → (ℕ → Point) → Pass → Pass
pass_turn room p s = close_corners room p
    (record { mesh = s.mesh; current = s.mesh.links.next s.current; edges = s.current ∷ s.edges })

-- `Some(&current_fixed) == convex_edges.get(1)`: the second entry, where the last comes first
unfoldable pub is_second : ℕ → List ℕ → Bool
is_second x [] = false
is_second x (a ∷ []) = false
is_second x (a ∷ b ∷ []) = eqb x a
is_second x (a ∷ b ∷ c ∷ l) = is_second x (b ∷ c ∷ l)

-- `outer_face().adjacent_edge()`
abbrev pub pass_start : Extended → Pass
pass_start m = record { mesh = m; current = m.links.adjacent 0; edges = [] }

-- one pass; a turn for each half-edge of the boundary, and one more
unfoldable pub fix_convexity : ℕ → (ℕ → Point) → Extended → Extended
fix_convexity room p m =
    (until (λ s. s.mesh.full || is_second s.current s.edges) (pass_turn room p) (2 * m.counts.edges + 2)
    (pass_turn room p (pass_start m))).mesh

-- the passes, and whether the last of them added no face or was refused a flip
pub record Passes : Type 0 where
  pub mesh : Extended
  pub still : Bool

unfoldable pub pass_again : ℕ → (ℕ → Point) → Passes → Passes
pass_again room p s =
    let m = fix_convexity room p s.mesh in
    record { mesh = m; still = m.full || eqb m.faces s.mesh.faces }

-- before the first pass
abbrev pub unpassed : Counts → Links → Passes
unpassed C L = record { mesh = record { counts = C; links = L; faces = 0; flips = 0; full = false }; still = false }

-- passes until one adds no face; each of the others adds one of the fewer than 2 · vertices faces
unfoldable pub convexity : ℕ → Counts → (ℕ → Point) → Links → Extended
convexity room C p L = (until (λ s. s.still) (pass_again room p) (2 * C.vertices + 2) (unpassed C L)).mesh

-- 01: "Boundary corners are judged along next: a corner is the origins of e, of next(e) and of the one after, for each
-- e of face 0." None turns left
pub record NoLeftCorner (C : Counts) (L : Links) (p : ℕ → Point) : Type 0 where
  pub corner : {e : ℕ} → In C e → L.face e ≡ 0 → at_corners orient2d L p e ≤ℤ pos 0
