-- The operations on a line, and the first point off it, leave what is past the counts in use as it was. Assumes nothing.
use Rattle.std.specs.Prelude.{Bool, not, ◌≡◌, eqb}
use Rattle.std.proofs.Math.Bool.{true, false}
use Rattle.std.proofs.Math.Path.{refl, ap}
use Rattle.std.proofs.Common.{◌∙◌}
use Prim.Native.Nat.{ℕ, zero, suc, ◌+◌, ◌-◌, ◌*◌, ◌<◌}
use native.Mathlib.Omega.{arith}
use Rattle.ring.specs.declared.Side.{Side}
use Rattle.ring.specs.declared.Side.TheVariants.{Left, Right}
use Rattle.apply.specs.Apply.{Walking, first_face, face_edge}
use Rattle.corner.specs.Corner.{Extended}
use Rattle.corner.specs.Untouched.{Untouched, untouched-join, past, single-face-untouched, new-face-untouched}
use Rattle.math.specs.declared.Point.{Point}
use Rattle.mesh.specs.declared.Counts.{Counts}
use Rattle.mesh.specs.Mesh.{Links, In}
use Rattle.mesh.specs.Operations.{create_single_face_between_edge_and_next}
use Rattle.mesh.specs.Triangle.{rev-in}
use Rattle.mesh.specs.Wf.{Ranges}
use Rattle.ring.specs.Chain.{beside, sees_edge}
use Rattle.skipped.specs.Insert.{cover_edge, outside_ends, outside_turn, outside_walk, insert_outside}
use Rattle.sums.specs.Half.{rev}
use Rattle.sums.specs.Until.{until}
use Rattle.sums.proofs.UntilLaws.{until-done, until-next}
use Rattle.line.specs.Operations.{setup_initial_two_vertices, extend_at, extend_line, split_at_of, split_edge_when_all_vertices_on_line, with_line_vertex, two_vertices}
use Rattle.line.specs.Chain.{Chain}
use Rattle.line.proofs.ChainLaws.{in-r}
use Rattle.line.proofs.ChainRules.{chain-rules}
use Rattle.line.specs.Fan.{Seen}
use Rattle.line.proofs.FanLaws.{fan-first}
use Rattle.line.proofs.FanGrows.{fan-left, fan-right}
use Rattle.line.proofs.Still.{first-still, cover-still}
use Rattle.line.specs.OffLine.{Stand}
use Rattle.line.proofs.OffLineLaws.{sees, sees-low, sees-high, left-turn, right-turn, left-walk, first-stand}
use Rattle.line.specs.GrowLaws.{one, mesh}

-- ---- the operations
module _ {C : Counts} {L : Links} (R : Ranges C L) where
  -- a half-edge in use is in use still, and so are the two new ones
  still : {x : ℕ} → In C x → In (with_line_vertex C) x
  still l = omega arith

  new-a : In (with_line_vertex C) (2 * C.edges)
  new-a = omega arith

  new-b : In (with_line_vertex C) (2 * C.edges + 1)
  new-b = omega arith

  new-v : C.vertices < C.vertices + 1
  new-v = omega arith

  pub extend-untouched : {v : ℕ} → v < C.vertices → Untouched (with_line_vertex C) L (extend_line L C v)
  unfolding extend_line extend_at
  extend-untouched l = let o = R.out< l in record {
    next = λ x k. past _ _ _ k new-b ∙ past _ _ _ k new-a ∙ past _ _ _ k (still (rev-in C o));
    prev = λ x k. past _ _ _ k new-b ∙ past _ _ _ k new-a ∙ past _ _ _ k (still o);
    face = λ x k. past _ _ _ k new-b ∙ past _ _ _ k new-a;
    origin = λ x k. past _ _ _ k new-b ∙ past _ _ _ k new-a;
    out = λ x k. past _ _ _ k new-v;
    adjacent = λ x k. refl;
  }

  pub split-untouched : {e : ℕ} → In C e → Untouched (with_line_vertex C) L (split_edge_when_all_vertices_on_line L C e)
  unfolding split_edge_when_all_vertices_on_line split_at_of
  split-untouched {e} l = go (eqb (L.next e) (rev e))
    where
      t : In C (rev e)
      t = rev-in C l

      old-v : L.origin (rev e) < C.vertices + 1
      old-v = let o = R.origin< t in omega arith

      go : (isolated : Bool) → Untouched (with_line_vertex C) L (split_at_of isolated L C e (rev e) (L.next e) (L.prev (rev e)))
      go true = record {
        next = λ x k. past _ _ _ k new-b ∙ past _ _ _ k new-a ∙ past _ _ _ k (still l);
        prev = λ x k. past _ _ _ k new-b ∙ past _ _ _ k new-a ∙ past _ _ _ k (still t);
        face = λ x k. past _ _ _ k new-b ∙ past _ _ _ k new-a;
        origin = λ x k. past _ _ _ k new-b ∙ past _ _ _ k new-a ∙ past _ _ _ k (still t);
        out = λ x k. past _ _ _ k new-v ∙ past _ _ _ k old-v;
        adjacent = λ x k. refl;
      }
      go false = record {
        next = λ x k. past _ _ _ k new-b ∙ past _ _ _ k new-a ∙ past _ _ _ k (still (R.prev< t)) ∙ past _ _ _ k (still l);
        prev = λ x k. past _ _ _ k new-b ∙ past _ _ _ k new-a ∙ past _ _ _ k (still (R.next< l)) ∙ past _ _ _ k (still t);
        face = λ x k. past _ _ _ k new-b ∙ past _ _ _ k new-a;
        origin = λ x k. past _ _ _ k new-b ∙ past _ _ _ k new-a ∙ past _ _ _ k (still t);
        out = λ x k. past _ _ _ k new-v ∙ past _ _ _ k old-v;
        adjacent = λ x k. refl;
      }

pub two-untouched : (L : Links) → Untouched two_vertices L (setup_initial_two_vertices L 0 1)
unfolding setup_initial_two_vertices
two-untouched L =
    let a : 0 < 2 = omega arith in
    let b : 1 < 2 = omega arith in
    let f : 0 < 1 = omega arith in
    record {
      next = λ x k. past _ _ _ k b ∙ past _ _ _ k a;
      prev = λ x k. past _ _ _ k b ∙ past _ _ _ k a;
      face = λ x k. past _ _ _ k b ∙ past _ _ _ k a;
      origin = λ x k. past _ _ _ k b ∙ past _ _ _ k a;
      out = λ x k. past _ _ _ k b ∙ past _ _ _ k a;
      adjacent = λ x k. past _ _ _ k f;
    }

-- ---- the first point off the line, face by face as in `OffLine`
-- no edge is flipped, so a turn is its face alone
cover-untouched : (room : ℕ) (p : ℕ → Point) (m : Extended) (e d : ℕ) {L₀ : Links} → Ranges m.counts m.links → In m.counts e
    → (create_single_face_between_edge_and_next m.links m.counts e).face (rev d) ≡ 0 → Untouched m.counts L₀ m.links
    → Untouched (cover_edge room p m e d).counts L₀ (cover_edge room p m e d).links
cover-untouched room p m e d R h o U = rw (cover-still room p m e d o)
    (untouched-join (record { vertices = omega arith; edges = omega arith; faces = omega arith }) U (single-face-untouched R h))

module _ {C₀ : Counts} {L₀ : Links} {at r : ℕ → ℕ} (K : Chain C₀ L₀ at r) {p : ℕ → Point} (S : Seen C₀ at p C₀.vertices)
    {v : Point} (here : p C₀.vertices ≡ v) where
  abbrev E : ℕ
  E = C₀.edges

  -- from the chain's links to those of the mesh m
  abbrev Kept : Extended → Type 0
  Kept m = Untouched m.counts L₀ m.links

  -- whether a loop ends, as in `OffLine`
  ends_at : (side : Side) (s : Walking) (d : ℕ) (t : Bool) → s.mesh.full ≡ false → beside side s.mesh.links s.current ≡ d
      → sees_edge s.mesh.links p v d ≡ t → outside_ends side p v s ≡ not t
  unfolding outside_ends
  ends_at side s d t u q e = rw (u, q, e) refl

  -- ---- one turn
  left-kept : (room : ℕ) {lo hi f : ℕ} (s : Walking) → Stand C₀ L₀ at r p (suc lo) hi s.current f s.mesh → Kept s.mesh
      → Kept (outside_turn Left room p s).mesh
  unfolding outside_turn face_edge
  left-kept room {lo} s X U =
      let a = X.fan.some in let b = X.fan.most in let e = X.fan.edges in let h = in-r K {i = suc lo} (omega arith) in
      rw X.fan.prev-l (cover-untouched room p s.mesh (r (suc lo)) (r (suc lo)) X.fan.rules.ranges (omega arith)
      ((fan-left K S X.fan).beneath {i = lo} (omega arith)) U)

  right_kept : (room : ℕ) {lo hi l : ℕ} (s : Walking) → hi < E → Stand C₀ L₀ at r p lo hi l s.current s.mesh → Kept s.mesh
      → Kept (outside_turn Right room p s).mesh
  unfolding outside_turn face_edge
  right_kept room {hi = hi} s u X U =
      rw X.fan.next-f (cover-untouched room p s.mesh s.current (r (suc hi)) X.fan.rules.ranges X.fan.in_f
      ((fan-right K S X.fan u).beneath u) U)

  -- ---- the loops
  left-all : (room lo n : ℕ) {hi f : ℕ} (s : Walking) → Stand C₀ L₀ at r p lo hi s.current f s.mesh → Kept s.mesh
      → Kept (until (outside_ends Left p v) (outside_turn Left room p) n s).mesh
  unfolding until
  left-all room lo zero s X U = U
  left-all room zero (suc n) s X U = rw (until-done (outside_ends Left p v) (outside_turn Left room p) (suc n) s
      (ends_at Left s (r 0) false X.full X.fan.prev-l (sees-low K S here X))) U
  left-all room (suc lo) (suc n) s X U = rw (until-next (outside_ends Left p v) (outside_turn Left room p) n s
      (ends_at Left s (r (suc lo)) true X.full X.fan.prev-l
      (sees K S here X (let a = X.fan.some in let b = X.fan.most in omega arith))))
      (left-all room lo n (outside_turn Left room p s) (left-turn K S here room s X) (left-kept room s X U))

  right-all : (room k n : ℕ) {lo hi l : ℕ} (s : Walking) → hi + k ≡ E → Stand C₀ L₀ at r p lo hi l s.current s.mesh → Kept s.mesh
      → Kept (until (outside_ends Right p v) (outside_turn Right room p) n s).mesh
  unfolding until
  right-all room k zero s e X U = U
  right-all room zero (suc n) {hi = hi} s e X U =
      let q : suc hi ≡ suc E = omega arith in
      rw (until-done (outside_ends Right p v) (outside_turn Right room p) (suc n) s
      (ends_at Right s (r (suc E)) false X.full (X.fan.next-f ∙ ap r q) (sees-high K S here X))) U
  right-all room (suc k) (suc n) {hi = hi} s e X U = rw (until-next (outside_ends Right p v) (outside_turn Right room p) n s
      (ends_at Right s (r (suc hi)) true X.full X.fan.next-f (sees K S here X {i = hi} (omega arith))))
      (right-all room k n (outside_turn Right room p s) (omega arith) (right-turn K S here room s (omega arith) X)
      (right_kept room s (omega arith) X U))

  -- ---- all of it
  first-kept : (room : ℕ) {k : ℕ} → k < E → Kept (first_face room p C₀ L₀ (r (suc k)))
  first-kept room {k} u = rw (first-still room p C₀ L₀ (r (suc k)) ((fan-first K S u).beneath u))
      (new-face-untouched (chain-rules K).ranges (in-r K {i = suc k} (omega arith)))

  pub off-untouched : (room : ℕ) {k : ℕ} → k < C₀.edges → Kept (insert_outside room p C₀ L₀ v (r (suc k)))
  unfolding insert_outside outside_walk
  off-untouched room {k} u =
      let m = first_face room p C₀ L₀ (r (suc k)) in
      let s : Walking = record { mesh = m; current = 2 * C₀.edges + 2 + 1 } in
      let a = outside_walk Left room p v s in
      let X = first-stand K S here room u in
      let Y = left-walk K S here room k (2 * m.counts.edges + 1) s (let e = X.fan.edges in omega arith) X in
      right-all room (E - suc k) (2 * a.mesh.counts.edges + 1) (record { mesh = a.mesh; current = 2 * C₀.edges + 1 }) (omega arith) Y
      (left-all room k (2 * m.counts.edges + 1) s X (first-kept room u))
