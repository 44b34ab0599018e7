-- A turn of a loop about the first point off a line: where the loop goes on there is an edge of the chain left, which is
-- then covered. Assumes nothing.
use mathlib.Core.Bool.{false, false≢true}
use mathlib.Core.Path.{◌≡◌, refl, sym, ◌∙◌}
use Prim.Native.Nat.{ℕ, zero, suc, ◌*◌, ◌<◌, ◌≤◌}
use native.Mathlib.Decide.{dec_lt}
use native.Mathlib.Omega.{arith}
use Rattle.apply.specs.Apply.{Walking, face_edge}
use Rattle.line.specs.Chain.{Chain}
use Rattle.line.proofs.ChainLaws.{in-r}
use Rattle.line.specs.Fan.{Seen}
use Rattle.line.proofs.FanGrows.{fan-left, fan-right}
use Rattle.line.specs.OffLine.{Stand}
use Rattle.line.proofs.OffLineLaws.{sees-low, sees-high, left-turn, right-turn}
use Rattle.math.specs.declared.Point.{Point}
use Rattle.mesh.specs.declared.Counts.{Counts}
use Rattle.mesh.specs.Mesh.{Links, In}
use Rattle.mesh.specs.Operations.{create_single_face_between_edge_and_next}
use Rattle.ring.specs.declared.Side.{Side}
use Rattle.ring.specs.declared.Side.TheVariants.{Left, Right}
use Rattle.ring.specs.Chain.{beside}
use Rattle.skipped.specs.Insert.{outside_ends, outside_turn}
use Rattle.sums.specs.Half.{rev}
use Rattle.line_fan.specs.FanRows.{to_new, from_new}

-- a turn that the loop takes at s: the edge that the face is made at, the face behind the covered one, and the fan after it.
-- No flip is tried, so it is the same with any number of pending entries; here with none
pub record Turn (side : Side) (C₀ : Counts) (L₀ : Links) (at r : ℕ → ℕ) (p : ℕ → Point) (other : ℕ) (s : Walking) : Type 0 where
  pub used : In s.mesh.counts (face_edge side s.current (beside side s.mesh.links s.current))
  pub outer : (create_single_face_between_edge_and_next s.mesh.links s.mesh.counts
      (face_edge side s.current (beside side s.mesh.links s.current))).face
      (rev (beside side s.mesh.links s.current)) ≡ 0
  pub few : s.mesh.counts.edges ≤ 2 * C₀.edges
  pub lo : ℕ
  pub hi : ℕ
  pub stand : Stand C₀ L₀ at r p lo hi (to_new side (outside_turn side 0 p s).current other)
      (from_new side (outside_turn side 0 p s).current other) (outside_turn side 0 p s).mesh

module _ {C₀ : Counts} {L₀ : Links} {at r : ℕ → ℕ} (K : Chain C₀ L₀ at r) {p : ℕ → Point} (S : Seen C₀ at p C₀.vertices)
    {v : Point} (here : p C₀.vertices ≡ v) where
  abbrev E : ℕ
  E = C₀.edges

  left-goes : (lo : ℕ) {hi other : ℕ} (s : Walking) → Stand C₀ L₀ at r p lo hi s.current other s.mesh
      → outside_ends Left p v s ≡ false → Turn Left C₀ L₀ at r p other s
  unfolding outside_ends face_edge
  left-goes zero s X e = absurd (false≢true (sym e ∙ rw (X.full, X.fan.prev-l, sees-low K S here X) refl))
  left-goes (suc lo) {hi} s X e =
      let F = X.fan in
      let a = F.edges in let b = F.some in let c = F.most in
      let u : lo < E = omega arith in
      record {
        used = rw F.prev-l (let i = in-r K {i = suc lo} (omega arith) in omega arith);
        outer = rw F.prev-l ((fan-left K S F).beneath u);
        few = omega arith;
        lo = lo;
        hi = hi;
        stand = left-turn K S here 0 s X;
      }

  right-goes : {lo hi other : ℕ} (s : Walking) → Stand C₀ L₀ at r p lo hi other s.current s.mesh
      → outside_ends Right p v s ≡ false → Turn Right C₀ L₀ at r p other s
  unfolding outside_ends face_edge
  right-goes {lo} {hi} {other} s X e = go (dec_lt hi E)
    where
      go : Dec (hi < E) → Turn Right C₀ L₀ at r p other s
      go (yes u) =
          let F = X.fan in
          record {
            used = F.in_f;
            outer = rw F.next-f ((fan-right K S F u).beneath u);
            few = let a = F.edges in let b = F.some in omega arith;
            lo = lo;
            hi = suc hi;
            stand = right-turn K S here 0 s u X;
          }
      go (no n) =
          let q : hi ≡ E = (let c = X.fan.most in omega arith) in
          absurd (false≢true (sym e ∙ rw (X.full, X.fan.next-f, q, sees-high K S here X) refl))

  pub turn-goes : (side : Side) {lo hi other : ℕ} (s : Walking)
      → Stand C₀ L₀ at r p lo hi (to_new side s.current other) (from_new side s.current other) s.mesh
      → outside_ends side p v s ≡ false → Turn side C₀ L₀ at r p other s
  turn-goes Left {lo} = left-goes lo
  turn-goes Right = right-goes
