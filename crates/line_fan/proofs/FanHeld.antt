-- Rows that hold a fan: what the test of a loop reads is in them, and what a turn touches; after the turn they hold the fan
-- with one face more. Assumes nothing.
use mathlib.Core.Bool.{false}
use mathlib.Core.List.{List}
use mathlib.Core.Path.{◌≡◌, refl, ◌∙◌, ap, subst⁻¹}
use Prim.Native.Nat.{ℕ, ◌+◌, ◌*◌, ◌<◌, ◌≤◌}
use native.Mathlib.Omega.{arith}
use lib.IntN.{ℤ}
use lib.ListN.{length}
use Rattle.apply.specs.declared.Walked.{Walked}
use Rattle.apply.specs.Apply.{Walking, face_edge}
use Rattle.apply.specs.ApplyRows.{walking_of, beside_in}
use Rattle.corner.specs.CornerRows.{extended_of}
use Rattle.dcel.specs.Rows.{halves_of, links_of, position_of, There, Placed}
use Rattle.dcel_operations.specs.Face.{SingleReady}
use Rattle.insert_outside.specs.OutsideRows.{BesideReady}
use Rattle.insert_outside.specs.TurnLaws.{beside-is}
use Rattle.mesh.specs.LinkRules.{LinkRules}
use Rattle.line.specs.OffLine.{Stand}
use Rattle.math.specs.declared.Point.{Point}
use Rattle.mesh.specs.declared.Counts.{Counts}
use Rattle.mesh.specs.Mesh.{In}
use Rattle.mesh.specs.Operations.{face_between, create_single_face_between_edge_and_next, with_face}
use Rattle.ring.specs.declared.Side.{Side}
use Rattle.ring.specs.declared.Side.TheVariants.{Left, Right}
use Rattle.skipped.specs.Insert.{legalize_one, cover_edge, outside_ends, outside_turn}
use Rattle.sums.specs.Half.{rev}
use Rattle.sums.proofs.HalfLaws.{rev-below}
use Rattle.line_fan.specs.FanRows.{TurnReady, to_new, from_new, FanReady}
use Rattle.line_fan.proofs.Turns.{Turn, turn-goes}

-- a new face's marks do not depend on the out edges
face-any : (o o' h a : List ℕ) (C : Counts) (e x : ℕ) → (create_single_face_between_edge_and_next (links_of o h a) C e).face x
    ≡ (create_single_face_between_edge_and_next (links_of o' h a) C e).face x
unfolding links_of create_single_face_between_edge_and_next face_between
face-any o o' h a C e x = refl

-- ---- rows that hold a fan
module _ {side : Side} {q : List ℤ} {h a : List ℕ} {w : Walked} {v : Point} (R : FanReady side q h a w v) where
  abbrev C : Counts
  C = w.added.counts

  abbrev E : ℕ
  E = R.counts.edges

  -- the counts, by the edges of the line
  pub vertices-are : C.vertices ≡ E + 2
  unfolding extended_of
  vertices-are = let k = R.facing.chain.vertices in let a = R.stand.fan.vertices in omega arith

  pub edges-least : E + 2 ≤ C.edges
  unfolding extended_of
  edges-least = let F = R.stand.fan in let a = F.edges in let b = F.some in omega arith

  edges_most : C.edges ≤ 2 * E + 1
  unfolding extended_of
  edges_most = let F = R.stand.fan in let a = F.edges in let b = F.most in omega arith

  faces-are : C.faces + E ≡ C.edges
  unfolding extended_of
  faces-are = let F = R.stand.fan in let a = F.edges in let b = F.faces in omega arith

  added-are : w.added.faces + 1 ≡ C.faces
  unfolding extended_of
  added-are = let a = R.stand.fan.faces in let b = R.stand.faces in omega arith

  -- half-edges in use, and what they name
  rules : LinkRules C (links_of R.outs h a)
  unfolding extended_of
  rules = R.stand.fan.rules

  there : {e : ℕ} → In C e → There h e
  there l = let a = edges_most in let b = R.sized.halves in let k = R.facing.chain.vertices in omega arith

  there-rev : {e : ℕ} → In C e → There h (rev e)
  there-rev l = there (rev-below C.edges l)

  next-in : {e : ℕ} → In C e → In C ((halves_of h).next e)
  unfolding links_of
  next-in l = rules.ranges.next< l

  prev-in : {e : ℕ} → In C e → In C ((halves_of h).prev e)
  unfolding links_of
  prev-in l = rules.ranges.prev< l

  origin-in : {e : ℕ} → In C e → (halves_of h).origin e < C.vertices
  unfolding links_of
  origin-in l = rules.ranges.origin< l

  placed : {u : ℕ} → u < C.vertices → Placed q u
  placed {u} l =
      let a = vertices-are in let k = R.facing.chain.vertices in let b = R.sized.positions in
      record { there = omega arith; range = R.range u (omega arith) }

  current-in : In C w.edge
  unfolding extended_of
  current-in = go side R.stand.fan.in-l R.stand.fan.in_f
    where
      go : (side : Side) → In C (to_new side w.edge R.other) → In C (from_new side w.edge R.other) → In C w.edge
      go Left l f = l
      go Right l f = f

  beside-in : In C (beside_in side (halves_of h) w.edge)
  unfolding beside_in
  beside-in = go side
    where
      go : (side : Side) → In C (beside_in side (halves_of h) w.edge)
      go Left = prev-in current-in
      go Right = next-in current-in

  -- what the test reads
  pub sight-ready : BesideReady side q h w.edge v
  sight-ready = record {
    here = there current-in;
    sight = record {
      here = there beside-in;
      back = there-rev beside-in;
      origin = placed (origin-in beside-in);
      to = placed (origin-in (rev-below C.edges beside-in));
      range = rw (← R.here) (R.range R.counts.vertices (omega arith));
    };
  }

  pub edges-fewer : C.edges < 2 * C.vertices
  edges-fewer = let a = edges_most in let b = vertices-are in omega arith

  -- ---- a turn
  module _ (e : outside_ends side (position_of q) v (walking_of R.outs h a w) ≡ false) where
    turn : Turn side R.counts R.links R.facing.at R.facing.r (position_of q) R.other (walking_of R.outs h a w)
    turn = turn-goes R.facing.chain R.facing.seen R.here side (walking_of R.outs h a w) R.stand e

    -- the edge that the face is made at
    abbrev at : ℕ
    at = face_edge side w.edge (beside_in side (halves_of h) w.edge)

    at_in : In C at
    unfolding extended_of
    at_in = rw (beside-is side R.outs h a w.edge) turn.used

    at-single : SingleReady h a C at
    unfolding extended_of
    at-single =
        let k = R.facing.chain.vertices in
        let s = R.sized in
        let f = faces-are in
        let m = turn.few in
        let n = next-in at_in in
        record {
          edges = omega arith;
          faces = omega arith;
          added = omega arith;
          stored = omega arith;
          here = there at_in;
          prev = there (prev-in at_in);
          next = there n;
          after = there (next-in n);
          back = there-rev n;
        }

    pub turn-ready : TurnReady side h a w
    unfolding extended_of
    turn-ready = record {
      current = there current-in;
      single = at-single;
      outer = λ o. face-any o R.outs h a C at (rev (beside_in side (halves_of h) w.edge))
          ∙ rw (beside-is side R.outs h a w.edge) turn.outer;
      count = (let b = added-are in let f = faces-are in let m = edges_most in let k = R.facing.chain.vertices in
          let s = R.sized in omega arith);
    }

    module _ (h' a' : List ℕ) (w' : Walked)
        (x : walking_of R.outs h' a' w' ≡ outside_turn side 0 (position_of q) (walking_of R.outs h a w)) where
      pub counts-after : w'.added.counts ≡ with_face C
      unfolding extended_of outside_turn cover_edge legalize_one
      counts-after = ap (λ (s : Walking). s.mesh.counts) x

      pub ready-after : length h' ≡ length h → length a' ≡ length a → FanReady side q h' a' w' v
      ready-after i j = record {
        counts = R.counts;
        links = R.links;
        edge = R.edge;
        facing = R.facing;
        here = R.here;
        range = R.range;
        sized = (let s = R.sized in record { positions = s.positions; halves = omega arith; faces = omega arith; small = s.small });
        outs = R.outs;
        lo = turn.lo;
        hi = turn.hi;
        other = R.other;
        stand = subst⁻¹ (λ (s : Walking). Stand R.counts R.links R.facing.at R.facing.r (position_of q) turn.lo
            turn.hi (to_new side s.current R.other) (from_new side s.current R.other) s.mesh) x turn.stand;
      }
