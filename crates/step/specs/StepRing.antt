-- The ring of the boundary that a step leaves is the ring before with the chain's nodes replaced: what `insert` of crate hull asks. Assumes
-- nothing.
use Rattle.std.specs.Prelude.{false, ◌≡◌, refl, ℕ, suc, ◌+◌, ◌-◌, ◌<◌, ◌≤◌, T, Float}
use Rattle.std.proofs.Common.{sym, ◌∙◌, ap, subst, arith}
use Rattle.angle.specs.Angle.{angle_about, turns}
use Rattle.apply.specs.Apply.{Applied, add_turns}
use Rattle.apply.proofs.ApplyLaws.{add-good, add-covered}
use Rattle.decide.specs.declared.Fate.TheVariants.{Added}
use Rattle.decide.specs.Decide.{decided}
use Rattle.hull.specs.Insert.{Change}
use Rattle.math.specs.declared.Point.{Point}
use Rattle.math.specs.Determinant.{InRange}
use Rattle.mesh.specs.declared.Counts.{Counts}
use Rattle.mesh.specs.Mesh.{Links}
use Rattle.mesh.specs.Area.{boundary_length}
use Rattle.ring.specs.Ring.{full_turn, at_ends, edge_angle, located}
use Rattle.ring.specs.Sound.{Sound}
use Rattle.ring.proofs.SpliceLaws.{sound-fit}
use Rattle.ring.proofs.Boundary.{located-holds, sound-outer}
use Rattle.ring.specs.Center.{turns_about}
use Rattle.ring.specs.Chain.{left_chain, right_chain, chain_start, chain_length}
use Rattle.ring.proofs.ChainMesh.{before-walk, start-walk, chain-short}
use Rattle.segment.specs.Arc.{holds}
use Rattle.sums.specs.Iterate.{iter}
use Rattle.sums.proofs.IterateLaws.{iter-add}
use Rattle.sums.specs.Put.{put}
use Rattle.sweep.specs.StepMesh.{Swept}
use Rattle.sweep.proofs.StepMeshLaws.{step-before, added-swept}

module _ {cx cy : Float} {C : Counts} {L : Links} {p : ℕ
    → Point} (S : Swept cx cy C L p) {v : Point} (i : InRange v) {n : ℕ} (f : (decided cx cy C L p v).fate ≡ Added n) (room : ℕ) where
  abbrev α : ℕ → ℕ
  α = turns_about cx cy p

  abbrev q : ℕ
  q = turns (angle_about v.x v.y cx cy)

  abbrev e : ℕ
  e = located C L α q

  abbrev s : ℕ
  s = chain_start C L p α v q e

  abbrev m : ℕ
  m = chain_length C L p α v q e

  abbrev r : Applied
  r = add_turns room (put p C.vertices v) C L e (left_chain C L p α v q e) (right_chain C L p α v q e)

  -- the chain ends where the walk to the right does
  pub chain-end : iter (suc (right_chain C L p α v q e)) L.next e ≡ iter m L.next s
  chain-end =
      let B = step-before S i f in
      sym (ap (λ (k : ℕ). iter k L.next s) (more (left_chain C L p α v q e) (right_chain C L p α v q e)) ∙ iter-add (left_chain C L p α v q e) (suc (right_chain C L p α v q e)) L.next s
      ∙ ap (iter (suc (right_chain C L p α v q e)) L.next) (start-walk S.good.wf p α v q B.edge B.outer))
    where
      more : (i j : ℕ) → i + 1 + j ≡ i + suc j
      more i j = omega arith

  pub step-change : r.mesh.full ≡ false → q ≤ full_turn
      → Change C L α r.mesh.counts r.mesh.links (turns_about cx cy (put p C.vertices v)) s m (boundary_length C L - m) r.left_edge r.right_edge q (iter m L.next s)
  step-change g low =
      let B = step-before S i f in
      let W = S.good.wf in
      let b = before-walk W p α v q B.edge B.outer (left_chain C L p α v q e) in
      let short = chain-short W p α v q B.edge B.outer S.good.turning B.seen in
      let whole : m + (boundary_length C L - m) ≡ boundary_length C L = omega arith in
      let K = add-covered B room g in
      let h : T (at_ends (holds q) L.next (edge_angle L α) (iter (left_chain C L p α v q e) L.next s)) =
      subst (λ (x : ℕ). T (at_ends (holds q) L.next (edge_angle L α) x)) (sym (start-walk W p α v q B.edge B.outer)) (located-holds W α S.sound q) in
      record {
        in_use = b.0;
        outer = b.1;
        whole = whole;
        covered = K;
        place = left_chain C L p α v q e;
        place_in = omega arith;
        place-holds = h;
        fit = sound-fit (subst (Sound full_turn L.next (edge_angle L α) s) (sym whole) (sound-outer W α S.sound b.0 b.1)) K.spliced (left_chain C L p α v q e) (omega arith) h
            (subst (Sound full_turn r.mesh.links.next (edge_angle r.mesh.links (turns_about cx cy (put p C.vertices v))) r.left_edge) K.length
            (sound-outer (add-good B room).wf (turns_about cx cy (put p C.vertices v)) (added-swept S i f room g).sound K.in_use K.outer));
        low = low;
      }
