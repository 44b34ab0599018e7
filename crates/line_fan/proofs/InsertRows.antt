-- From the first face to the second loop in the rows: what each part needs, and what all of them leave. Assumes nothing.
use mathlib.Core.Bool.{false}
use mathlib.Core.List.{List}
use mathlib.Core.Path.{◌≡◌, sym, ◌∙◌, ap, subst⁻¹}
use Prim.Native.Nat.{ℕ, suc, ◌+◌, ◌*◌, ◌<◌}
use native.Mathlib.Decide.{ℕ_discrete}
use native.Mathlib.Omega.{arith}
use lib.IntN.{ℤ}
use lib.ListN.{length}
use Rattle.apply.specs.declared.Walked.{Walked}
use Rattle.apply.specs.Apply.{Walking, first_face}
use Rattle.apply.specs.ApplyRows.{walking_of}
use Rattle.corner.specs.declared.Extension.{Extension}
use Rattle.corner.specs.Corner.{Extended}
use Rattle.corner.specs.CornerRows.{extended_of}
use Rattle.dcel.specs.Rows.{links_of, position_of}
use Rattle.dcel_operations.specs.Face.{NewReady, NewFace}
use Rattle.line.proofs.FanLaws.{fan-first}
use Rattle.line.specs.LineLaws.{Facing}
use Rattle.line.proofs.ChainRules.{chain-rules}
use Rattle.line.specs.OffLine.{Stand}
use Rattle.line.proofs.OffLineLaws.{first-stand, left-walk}
use Rattle.line.proofs.Still.{first-still}
use Rattle.math.specs.declared.Point.{Point}
use Rattle.math.specs.Determinant.{InRange}
use Rattle.mesh.specs.declared.Counts.{Counts}
use Rattle.mesh.specs.Mesh.{Links}
use Rattle.mesh.specs.Operations.{create_new_face_adjacent_to_edge}
use Rattle.ring.specs.declared.Side.{Side}
use Rattle.ring.specs.declared.Side.TheVariants.{Left, Right}
use Rattle.skipped.specs.Insert.{outside_walk, insert_outside}
use Rattle.sums.specs.Half.{rev}
use Rattle.sums.proofs.HalfLaws.{rev-below}
use Rattle.line_fan.specs.FanRows.{to_new, from_new, FanReady, OffLineReady}
use Rattle.line_fan.specs.RowsLaws.{facing}

module _ {C : Counts} {q : List ℤ} {o h a : List ℕ} {v : Point} {e : ℕ} (R : OffLineReady C q o h a v e) where
  abbrev L : Links
  L = links_of o h a

  abbrev p : ℕ → Point
  p = position_of q

  F : Facing C L p e
  F = facing R

  pub new-ready : NewReady o h a C e
  unfolding links_of
  new-ready =
      let K = R.line.chain in
      let k = K.vertices in let f = K.faces in let s = R.sized in let b = R.outs in
      let W = (chain-rules K).ranges in
      let u = R.off.used in
      let n = W.next< u in let m = W.prev< u in let t = rev-below C.edges u in let z = K.outer u in
      record {
        edges = omega arith;
        faces = omega arith;
        vertices = omega arith;
        added = omega arith;
        stored = omega arith;
        based = omega arith;
        here = omega arith;
        prev = omega arith;
        next = omega arith;
        back = omega arith;
        face = omega arith;
      }

  range : (u : ℕ) → u < C.vertices + 1 → InRange (p u)
  range u l = go (ℕ_discrete u C.vertices)
    where
      go : Dec (u ≡ C.vertices) → InRange (p u)
      go (yes z) = rw (z, R.here) R.range
      go (no n) = let m : u < C.vertices = omega arith in rw (R.same u m) (R.line.range m)

  -- a fan on the line, in rows of the same lengths
  fan-ready : (side : Side) (o' : List ℕ) {h' a' : List ℕ} (w : Walked) (other : ℕ) {lo hi : ℕ} → length h' ≡ length h → length a' ≡ length a
      → Stand C L F.at F.r p lo hi (to_new side w.edge other) (from_new side w.edge other) (extended_of o' h' a' w.added)
      → FanReady side q h' a' w v
  fan-ready side o' w other {lo} {hi} i j X = record {
    counts = C;
    links = L;
    edge = e;
    facing = F;
    here = R.here;
    range = range;
    sized = (let s = R.sized in record { positions = s.positions; halves = omega arith; faces = omega arith; small = s.small });
    outs = o';
    lo = lo;
    hi = hi;
    other = other;
    stand = X;
  }

  -- the two loops' starts, from the mesh that each finds
  abbrev left_start : Extended → Walking
  left_start m = record { mesh = m; current = 2 * C.edges + 2 + 1 }

  abbrev right_start : Extended → Walking
  right_start m = record { mesh = m; current = 2 * C.edges + 1 }

  -- ---- after the first face
  module _ {o₁ h₁ a₁ : List ℕ} {c : Counts} (N : NewFace o h a o₁ h₁ a₁ C e c) where
    abbrev g₁ : Extension
    g₁ = record { counts = c; faces = 1; flips = 0; full = false }

    first-is : (room : ℕ) → extended_of o₁ h₁ a₁ g₁ ≡ first_face room p C L e
    unfolding extended_of
    first-is room =
        let b : (create_new_face_adjacent_to_edge L C e).face (rev e) ≡ 0 =
        (rw F.is ((fan-first F.chain F.seen F.within).beneath F.within)) in
        rw (N.links, N.result) (sym (first-still room p C L e b))

    first-stands : Stand C L F.at F.r p F.place (suc F.place) (2 * C.edges + 2 + 1) (2 * C.edges + 1) (extended_of o₁ h₁ a₁ g₁)
    first-stands =
        subst⁻¹ (Stand C L F.at F.r p F.place (suc F.place) (2 * C.edges + 2 + 1) (2 * C.edges + 1))
        (first-is 0 ∙ ap (first_face 0 p C L) F.is) (first-stand F.chain F.seen R.here 0 F.within)

    pub left-ready : length h₁ ≡ length h → length a₁ ≡ length a
        → FanReady Left q h₁ a₁ (record { added = g₁; edge = 2 * C.edges + 2 + 1 }) v
    left-ready i j = fan-ready Left o₁ (record { added = g₁; edge = 2 * C.edges + 2 + 1 }) (2 * C.edges + 1) i j first-stands

    -- ---- after the first loop
    module _ (h₂ a₂ : List ℕ) (w : Walked)
        (y : (room : ℕ) (o : List ℕ) → walking_of o h₂ a₂ w ≡ outside_walk Left room p v (left_start (extended_of o h₁ a₁ g₁))) where
      left-stands : Stand C L F.at F.r p 0 (suc F.place) w.edge (2 * C.edges + 1) (extended_of o₁ h₂ a₂ w.added)
      unfolding outside_walk extended_of
      left-stands =
          let X = first-stands in
          subst⁻¹ (λ (s : Walking). Stand C L F.at F.r p 0 (suc F.place) s.current (2 * C.edges + 1) s.mesh) (y 0 o₁)
          (left-walk F.chain F.seen R.here 0 F.place (2 * c.edges + 1) (left_start (extended_of o₁ h₁ a₁ g₁))
          (let m = X.fan.edges in let k = F.within in omega arith) X)

      pub right-ready : length h₂ ≡ length h → length a₂ ≡ length a
          → FanReady Right q h₂ a₂ (record { added = w.added; edge = 2 * C.edges + 1 }) v
      right-ready i j = fan-ready Right o₁ (record { added = w.added; edge = 2 * C.edges + 1 }) w.edge i j left-stands

      -- ---- after the second
      pub inserted-rows : (h₃ a₃ : List ℕ) (u : Walked)
          → ((room : ℕ) (o : List ℕ) → walking_of o h₃ a₃ u ≡ outside_walk Right room p v (right_start (extended_of o h₂ a₂ w.added)))
          → (room : ℕ) → extended_of o₁ h₃ a₃ u.added ≡ insert_outside room p C L v e
      unfolding insert_outside
      inserted-rows h₃ a₃ u z room =
          ap (λ (s : Walking). s.mesh)
          (z room o₁ ∙ ap (λ (s : Walking). outside_walk Right room p v (right_start s.mesh))
          (y room o₁ ∙ ap (λ (m : Extended). outside_walk Left room p v (left_start m)) (first-is room)))
