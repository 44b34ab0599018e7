-- Laws of specs/Locate.antt.
use Rattle.std.specs.Prelude.{Bool, true, false, not, cond, ◌&&◌, ◌≡◌, ◌⊎◌, ℕ, suc, ◌<◌, T, ltb, eqb, pos, ◌<ℤ◌}
use Rattle.math.specs.declared.Point.{Point}
use Rattle.math.specs.Determinant.{orient2d, by_sign}
use Rattle.mesh.specs.declared.Counts.{Counts}
use Rattle.mesh.specs.Mesh.{Links, In, to, turn}
use Rattle.sums.specs.Bounded.{all_below, first_below}
use Rattle.sums.specs.Half.{rev}
use Rattle.line.specs.declared.PositionWhenAllVerticesOnLine.{PositionWhenAllVerticesOnLine}
use Rattle.line.specs.declared.PositionWhenAllVerticesOnLine.TheVariants.{OnEdge, OnVertex, NotOnLine, ExtendingLine}
use Rattle.line.specs.Order.{comes_before, is_same_of}
use Rattle.line.specs.Line.{Line}
use Rattle.line.specs.Locate.{Off, AtVertex}

module _ {C : Counts} {L : Links} {p : ℕ → Point} (X : Line C L p) (q : Point) where
  -- extend_line: an end of the line, with the point beyond it
  pub record AtEnd (v : ℕ) : Type 0 where
    pub on : orient2d (p (L.origin 0)) (p (to L 0)) q ≡ pos 0
    pub end : ((v ≡ X.at 0) × T (comes_before q (p (X.at 0)))) ⊎ ((v ≡ X.at C.edges) × T (comes_before (p (X.at C.edges)) q))

  -- split_edge_when_all_vertices_on_line: from the neighbour after the point to the one before it
  pub record InEdge (e : ℕ) : Type 0 where
    pub on : orient2d (p (L.origin 0)) (p (to L 0)) q ≡ pos 0
    pub place : ℕ
    pub below : place < C.edges
    pub edge : e ≡ rev (X.r (suc place))
    pub after : T (comes_before (p (X.at place)) q)
    pub before : T (comes_before q (p (X.at (suc place))))

  -- THE CERTIFICATE of an answer
  abbrev pub LineCertified : PositionWhenAllVerticesOnLine → Type 0
  LineCertified (OnEdge e) = InEdge e
  LineCertified (OnVertex v) = AtVertex C p q v
  LineCertified (NotOnLine e) = Off C L p q e
  LineCertified (ExtendingLine v) = AtEnd v
