-- What holds on a walk: the half-edges so far are covered, and one that is not is still to come. Assumes nothing.
use mathlib.Core.Bool.{Bool, true, false, not}
use mathlib.Core.List.{List}
use mathlib.Core.Path.{◌≡◌, refl, sym, ◌∙◌, ap, ap₂, subst}
use Prim.Native.Nat.{ℕ, suc, ◌+◌, ◌<◌, ◌^◌}
use native.Mathlib.Decide.{dec_lt}
use native.Mathlib.Omega.{arith}
use lib.Dec.{T, T_not}
use lib.Ieee.{Float}
use lib.IntN.{ℤ, pos}
use lib.Signed.{lt_z}
use Rattle.algebra.proofs.Test.{test-ext}
use Rattle.angle.specs.Angle.{turns}
use Rattle.dcel.specs.Rows.{halves_of, links_of, position_of}
use Rattle.hull.specs.Boundary.{origin_turns, origin_at_center}
use Rattle.math.specs.declared.Point.{Point}
use Rattle.math.specs.Determinant.{orient2d}
use Rattle.ring.specs.declared.Side.{Side}
use Rattle.ring.specs.declared.Side.TheVariants.{Left, Right}
use Rattle.ring.specs.Ring.{proper}
use Rattle.ring.specs.Center.{turns_about}
use Rattle.ring.specs.Chain.{behind, covered_if}
use Rattle.ring.proofs.SegmentsLaws.{proper→, proper←}
use Rattle.sums.specs.Bit.{bit}
use Rattle.sums.proofs.BitLaws.{from-true, from_false}
use Rattle.sums.proofs.BoundedLaws.{up_to}
use Rattle.sums.specs.Half.{rev}
use Rattle.sums.proofs.IterateLaws.{iter-last}
use Rattle.sums.specs.Tally.{tally, walk}
use Rattle.sums.proofs.TallyLaws.{tally-last, tally-most}
use Rattle.walks.specs.declared.BoundaryVertex.{BoundaryVertex}
use Rattle.walks.specs.declared.WalkEnd.{WalkEnd}
use Rattle.walks.specs.Walks.{origin_position, OriginIn, EdgeAbout, VertexAt, ToCover, cover_test, ToExtend, Extended}
use Rattle.walks.proofs.WalkLaws.{to_read, read_at}
use Rattle.walks.specs.Walks.{walk_test, walk_step, walk_edge, near_half, far_half, has_node, ToWalk, WalkedTo}

one : (k : ℕ) → suc k ≡ k + 1
one k = omega arith

proper-sym : (x y : ℕ) → proper x y ≡ proper y x
proper-sym x y = test-ext (proper x y) (proper y x) (turn x y) (turn y x)
  where
    turn : (x y : ℕ) → T (proper x y) → T (proper y x)
    turn x y t = proper← y x (λ e. proper→ x y t (sym e))

-- ---- the ends of a half-edge on a walk
module _ {q : List ℤ} {h : List ℕ} {cx cy : Float} {d : ℕ} (E : EdgeAbout q h cx cy d) where
  pub far-in : (side : Side) → OriginIn q h (far_half side d)
  far-in Left = E.from
  far-in Right = E.to

  near-in : (side : Side) → OriginIn q h (near_half side d)
  near-in Left = E.to
  near-in Right = E.from

  far_apart : (side : Side) → T (not (origin_at_center q h cx cy (far_half side d)))
  far_apart Left = E.from-apart
  far_apart Right = E.to-apart

node-from-near : (side : Side) (q : List ℤ) (h : List ℕ) (cx cy : Float) (d : ℕ)
    → proper (origin_turns q h cx cy (near_half side d)) (origin_turns q h cx cy (far_half side d)) ≡ has_node q h cx cy d
node-from-near Left q h cx cy d = proper-sym (origin_turns q h cx cy (rev d)) (origin_turns q h cx cy d)
node-from-near Right q h cx cy d = refl

-- the test, by the ends that were read
test-is : (side : Side) {q : List ℤ} {h : List ℕ} {cx cy : Float} (v : Point) (a : Float) (d : ℕ) {near : BoundaryVertex} {far : Point}
    → VertexAt q h cx cy (near_half side d) near → far ≡ origin_position q h (far_half side d)
    → cover_test side far near v a ≡ walk_test side q h cx cy v a d
unfolding cover_test walk_test links_of
test-is Left v a d N f = λ i.
    covered_if (behind Left (f i) (N.position i) v) (turns a) (N.angle.turns-are i) (lt_z (pos 0) (orient2d (f i) (N.position i) v))
test-is Right v a d N f = λ i.
    covered_if (behind Right (N.position i) (f i) v) (turns a) (N.angle.turns-are i) (lt_z (pos 0) (orient2d (N.position i) (f i) v))

-- d is the next half-edge to test, after those that are covered, and `far` the position of its far end
pub record Walking (side : Side) (q : List ℤ) (h : List ℕ) (cx cy : Float) (v : Point) (a : Float) (e : ℕ) (start : BoundaryVertex)
    (end : WalkEnd) (d : ℕ) (far : Point) : Type 0 where
  pub ready : ToWalk side q h cx cy v a e start
  pub covered : (k : ℕ) → k < end.count → T (walk_test side q h cx cy v a (walk_edge side h e k))
  pub at : d ≡ walk_edge side h e end.count
  pub nodes : end.nodes ≡ tally (has_node q h cx cy) (walk end.count (walk_step side h) (walk_step side h e))
  pub vertex : VertexAt q h cx cy (near_half side d) end.vertex
  pub far-is : far ≡ origin_position q h (far_half side d)

module _ {side : Side} {q : List ℤ} {h : List ℕ} {cx cy : Float} {v : Point} {a : Float} {e : ℕ} {start : BoundaryVertex} where
  pub first-about : ToWalk side q h cx cy v a e start → {d : ℕ} → d ≡ walk_step side h e → EdgeAbout q h cx cy d
  first-about W x = rw x (W.each 0)

  pub walking : ToWalk side q h cx cy v a e start → {d : ℕ} → d ≡ walk_step side h e → {far : Point}
      → far ≡ origin_position q h (far_half side d)
      → Walking side q h cx cy v a e start (record { count = 0; nodes = 0; vertex = start }) d far
  unfolding tally walk
  walking W x y = record {
    ready = W;
    covered = λ k l. absurd (omega arith);
    at = x;
    nodes = refl;
    vertex = rw x W.from;
    far-is = y;
  }

  module _ {end : WalkEnd} {d : ℕ} {far : Point} (K : Walking side q h cx cy v a e start end d far) where
    pub about : EdgeAbout q h cx cy d
    about = subst (EdgeAbout q h cx cy) (sym K.at) (K.ready.each end.count)

    pub to-cover : ToCover far end.vertex v a
    to-cover = record {
      far-range = rw K.far-is (far-in about side).placed.range;
      near-range = rw K.vertex.position (near-in about side).placed.range;
      near-angle = K.vertex.angle.is-angle;
      range = K.ready.range;
      is-angle = K.ready.is-angle;
    }

    -- no walk is past the half-edge that fails
    not-past : (n : ℕ) → ((k : ℕ) → k < n → T (walk_test side q h cx cy v a (walk_edge side h e k))) → n < 2 ^ 32
    not-past n covered = go (dec_lt K.ready.most n)
      where
        go : Dec (K.ready.most < n) → n < 2 ^ 32
        go (yes l) = absurd
            (T_not (walk_test side q h cx cy v a (walk_edge side h e K.ready.most)) K.ready.fails (covered K.ready.most l))
        go (no l) = let s = K.ready.small in omega arith

    pub few : end.count < 2 ^ 32
    few = not-past end.count K.covered

    -- d is tested
    module _ {t : Bool} (y : t ≡ cover_test side far end.vertex v a) where
      tested : t ≡ walk_test side q h cx cy v a d
      tested = y ∙ test-is side v a d K.vertex K.far-is

      passes : t ≡ true → T (walk_test side q h cx cy v a (walk_edge side h e end.count))
      passes z = subst (λ (x : ℕ). T (walk_test side q h cx cy v a x)) K.at (from-true (sym tested ∙ z))

      pub walked : t ≡ false → WalkedTo side q h cx cy v a e end
      walked z = record {
        covers = record {
          covered = K.covered;
          stops = subst (λ (x : ℕ). T (not (walk_test side q h cx cy v a x))) K.at (from_false (sym tested ∙ z));
        };
        nodes = K.nodes;
        vertex = subst (λ (x : ℕ). VertexAt q h cx cy (near_half side x) end.vertex) K.at K.vertex;
      }

      -- it is covered
      module _ (z : t ≡ true) where
        up : (k : ℕ) → k < suc end.count → T (walk_test side q h cx cy v a (walk_edge side h e k))
        up = up_to {P = λ k. T (walk_test side q h cx cy v a (walk_edge side h e k))} end.count K.covered (passes z)

        pub to-extend : ToExtend end far cx cy
        to-extend = record {
          read = to_read q h (far_half side d) K.far-is about.valid (far_apart about side);
          near-angle = K.vertex.angle.is-angle;
          few = rw K.nodes (tally-most (has_node q h cx cy) (walk_step side h) end.count (walk_step side h e));
          fits = not-past (end.count + 1) (λ k l. up k (omega arith));
        }

        next-at : {n : ℕ} → n ≡ walk_step side h d → n ≡ walk_edge side h e (suc end.count)
        next-at x = x ∙ ap (walk_step side h) K.at ∙ sym (iter-last (suc end.count) (walk_step side h) e)

        pub next-about : {n : ℕ} → n ≡ walk_step side h d → EdgeAbout q h cx cy n
        next-about x = subst (EdgeAbout q h cx cy) (sym (next-at x)) (K.ready.each (suc end.count))

        module _ {r : WalkEnd} (E : Extended end far cx cy r) where
          far-read : VertexAt q h cx cy (far_half side d) r.vertex
          far-read = read_at q h (far_half side d) K.far-is E.vertex

          -- the far end is the next one's near end
          meets : {n : ℕ} → n ≡ walk_step side h d → (halves_of h).origin (far_half side d) ≡ (halves_of h).origin (near_half side n)
          meets x =
              ap (λ (k : ℕ). (halves_of h).origin (far_half side k)) K.at
              ∙ sym (K.ready.joined end.count)
              ∙ ap (λ (k : ℕ). (halves_of h).origin (near_half side k)) (sym (next-at x))

          counted : r.nodes ≡ tally (has_node q h cx cy) (walk (suc end.count) (walk_step side h) (walk_step side h e))
          counted =
              E.nodes
              ∙ ap₂ (λ (m : ℕ) (b : Bool). m + bit b) K.nodes
              (ap₂ proper K.vertex.angle.turns-are far-read.angle.turns-are
              ∙ node-from-near side q h cx cy d
              ∙ ap (has_node q h cx cy) K.at)
              ∙ sym (tally-last (has_node q h cx cy) (walk_step side h) end.count (walk_step side h e))

          pub walking_on : {n : ℕ} → n ≡ walk_step side h d → {p : Point} → p ≡ origin_position q h (far_half side n)
              → Walking side q h cx cy v a e start r n p
          walking_on x y = record {
            ready = K.ready;
            covered = λ k l. up k (let m = E.count in omega arith);
            at = next-at x ∙ ap (walk_edge side h e) (one end.count ∙ sym E.count);
            nodes = counted
                ∙ ap (λ (k : ℕ). tally (has_node q h cx cy) (walk k (walk_step side h) (walk_step side h e)))
                (one end.count ∙ sym E.count);
            vertex = record {
              position = far-read.position ∙ ap (position_of q) (meets x);
              angle = record {
                is-angle = E.vertex.is-angle;
                turns-are = far-read.angle.turns-are ∙ ap (turns_about cx cy (position_of q)) (meets x);
              };
            };
            far-is = y;
          }
