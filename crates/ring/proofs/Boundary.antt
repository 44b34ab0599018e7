-- The ring of a mesh that keeps the rules: the walk by next from any boundary edge is the round of the theory and meets
-- every boundary edge; in a sound ring each angle is held by exactly one boundary edge, and that is `located`. What
-- leaves the boundary leaves the ring. Assumes nothing.
use Rattle.std.specs.Prelude.{◌≡◌, refl, List, [], ◌∷◌, map, ℕ, zero, suc, ◌-◌, ◌<◌, ◌≤◌}
use Rattle.std.proofs.Math.Path.{sym, ap, ap₂}
use Rattle.std.proofs.Common.{◌∙◌, subst, arith}
use Rattle.std.proofs.Math.Dec.{T}
use Rattle.mesh.specs.declared.Counts.{Counts}
use Rattle.mesh.specs.Mesh.{Links, In, to}
use Rattle.mesh.specs.Wf.{Wf}
use Rattle.mesh.specs.Area.{boundary_length, hull_edge}
use Rattle.mesh.proofs.BoundaryLaws.{next-inverse, first<, first-outer, boundary-period, boundary-below, boundary-outer, boundary-least}
use Rattle.mesh.proofs.BoundaryLaws.{outer-period}
use Rattle.mesh.specs.Frame.{SameBoundary}
use Rattle.segment.specs.Arc.{holds}
use Rattle.sums.specs.Bounded.{first_below}
use Rattle.sums.specs.Iterate.{iter, Period}
use Rattle.sums.proofs.IterateLaws.{iter-last, iter-keeps, reach-on, period-listed, period-same, period-unique}
use Rattle.sums.specs.Tally.{First, tally, walk}
use Rattle.sums.proofs.TallyLaws.{first_of, walk-ext}
use Rattle.ring.specs.Ring.{full_turn, proper, edge_angle, at_ends, boundary_edges, boundary_angles, is_sound, is_strict, is_sound_ring}
use Rattle.ring.specs.Ring.{is_strict_ring, merged, ring_nodes, located}
use Rattle.ring.specs.Sound.{Sound}
use Rattle.ring.proofs.SoundLaws.{sound-at, tile, tile-sole}
use Rattle.ring.proofs.Merged.{sound-round, round-sound, nodes-merged, strict-sound, strict-all}

-- two functions that agree along a walk
pub map-walk : (a b : ℕ → ℕ) (f : ℕ → ℕ) (n s : ℕ) → ((k : ℕ) → k < n → b (iter k f s) ≡ a (iter k f s))
    → map b (walk n f s) ≡ map a (walk n f s)
unfolding walk
map-walk a b f zero s h = refl
map-walk a b f (suc n) s h =
    ap₂ (λ (x : ℕ) (l : List ℕ). x ∷ l) (h zero (omega arith)) (map-walk a b f n (f s) (λ k l. h (suc k) (omega arith)))

module _ {C : Counts} {L : Links} (W : Wf C L) where
  -- ---- the round from any boundary edge e
  module _ {e : ℕ} (l : In C e) (o : L.face e ≡ 0) where
    pub outer-round : iter (boundary_length C L) L.next e ≡ e
    outer-round = (outer-period W l o).back

    -- it stays on the boundary
    pub outer-walk : (k : ℕ) → In C (iter k L.next e) × (L.face (iter k L.next e) ≡ 0)
    outer-walk k = iter-keeps (λ x. In C x × (L.face x ≡ 0)) (λ x m. (W.ranges.next< m.0, W.links.face-next m.0 ∙ m.1)) k (l, o)

    -- meets every boundary edge
    pub outer-on : {d : ℕ} → In C d → L.face d ≡ 0 → (k : ℕ) × (k < boundary_length C L) × (iter k L.next e ≡ d)
    outer-on m q = reach-on (next-inverse W) l (outer-period W l o) (W.faces.outer l m o q)

    -- each once
    pub outer-once : (j k : ℕ) → j < boundary_length C L → k < boundary_length C L → iter j L.next e ≡ iter k L.next e → j ≡ k
    outer-once j k = (period-listed (next-inverse W) l (outer-period W l o)).once j k

    -- and last the one before e
    pub outer-last : iter (boundary_length C L - 1) L.next e ≡ L.prev e
    outer-last =
        let x = iter (boundary_length C L - 1) L.next e in
        sym (W.links.prev-next (outer-walk (boundary_length C L - 1)).0)
        ∙ ap L.prev
        (sym (iter-last (boundary_length C L - 1) L.next e) ∙ ap (λ (k : ℕ). iter k L.next e) (back (boundary_length C L) (boundary-least W)) ∙ outer-round)
      where
        back : (n : ℕ) → 3 ≤ n → suc (n - 1) ≡ n
        back n m = omega arith

  -- the end of a boundary edge is where the next one starts
  pub edge-end : (α : ℕ → ℕ) {e : ℕ} → In C e → edge_angle L α (L.next e) ≡ α (to L e)
  edge-end α l = ap α (W.links.origin-next l)

  module _ (α : ℕ → ℕ) where
    -- ---- 01's words and the theory's `Sound`, from any boundary edge
    pub sound-first : T (is_sound_ring C L α) → Sound full_turn L.next (edge_angle L α) (L.adjacent 0) (boundary_length C L)
    unfolding is_sound_ring boundary_angles boundary_edges
    sound-first t = sound-round full_turn L.next (edge_angle L α) (L.adjacent 0) (boundary_length C L) (boundary-period W).back t

    pub sound-outer : T (is_sound_ring C L α) → {e : ℕ} → In C e → L.face e ≡ 0
        → Sound full_turn L.next (edge_angle L α) e (boundary_length C L)
    sound-outer t l o =
        let r = outer-on (first< W) (first-outer W) l o in
        subst (λ (x : ℕ). Sound full_turn L.next (edge_angle L α) x (boundary_length C L)) r.2 (sound-at (sound-first t) r.0)

    pub outer-sound : {e : ℕ} → In C e → L.face e ≡ 0
        → Sound full_turn L.next (edge_angle L α) e (boundary_length C L) → T (is_sound_ring C L α)
    unfolding is_sound_ring boundary_angles boundary_edges
    outer-sound l o S =
        let r = outer-on l o (first< W) (first-outer W) in
        round-sound (subst (λ (x : ℕ). Sound full_turn L.next (edge_angle L α) x (boundary_length C L)) r.2 (sound-at S r.0))

    pub strict-ring : T (is_strict_ring C L α) → T (is_sound_ring C L α)
    unfolding is_strict_ring is_sound_ring
    strict-ring t = strict-sound full_turn (boundary_angles C L α) t

    -- in a strict ring every boundary edge has a node
    pub strict-nodes : T (is_strict_ring C L α) → tally (at_ends proper L.next (edge_angle L α)) (boundary_edges C L) ≡ boundary_length C L
    unfolding is_strict_ring boundary_angles boundary_edges
    strict-nodes t = strict-all full_turn L.next (edge_angle L α) (L.adjacent 0) (boundary_length C L) (boundary-period W).back t

    -- the nodes' angles are the merged ones
    pub ring-merged : T (is_sound_ring C L α) → map (edge_angle L α) (ring_nodes C L α) ≡ merged (boundary_angles C L α)
    unfolding ring_nodes boundary_angles boundary_edges
    ring-merged t =
        nodes-merged L.next (edge_angle L α) (boundary_length C L) (L.adjacent 0) (boundary-period W).back
        (let a = (sound-first t).three in omega arith)

    -- ---- located: how many steps from face 0's stored edge
    abbrev pub located_step : ℕ → ℕ
    located_step x = first_below (boundary_length C L) (λ k. at_ends (holds x) L.next (edge_angle L α) (hull_edge L k))

    module _ (t : T (is_sound_ring C L α)) (x : ℕ) where
      pub located-first : First (at_ends (holds x) L.next (edge_angle L α)) L.next (boundary_length C L) (L.adjacent 0) (located_step x)
      located-first =
          let r = tile (sound-first t) x in
          first_of (at_ends (holds x) L.next (edge_angle L α)) L.next (boundary_length C L) (L.adjacent 0) r.0 r.1.below
          r.1.passes

      -- it is a boundary edge
      pub located< : In C (located C L α x)
      unfolding located
      located< = boundary-below W (located_step x)

      pub located-outer : L.face (located C L α x) ≡ 0
      unfolding located
      located-outer = boundary-outer W (located_step x)

      -- that holds x
      pub located-holds : T (at_ends (holds x) L.next (edge_angle L α) (located C L α x))
      unfolding located
      located-holds = located-first.passes

      -- as a segment from the angle of its origin to that of its end
      pub located-ends : T (holds x (α (L.origin (located C L α x))) (α (to L (located C L α x))))
      located-ends = subst (λ (b : ℕ). T (holds x (edge_angle L α (located C L α x)) b)) (edge-end α located<) located-holds

      -- and the only one
      pub located-sole : {d : ℕ} → In C d → L.face d ≡ 0 → T (at_ends (holds x) L.next (edge_angle L α) d) → d ≡ located C L α x
      unfolding located
      located-sole {d} l o h =
          let r = outer-on (first< W) (first-outer W) l o in
          sym r.2 ∙ ap (hull_edge L) (tile-sole (sound-first t) x r.0 (located_step x) r.1 located-first.below
          (subst (λ (y : ℕ). T (at_ends (holds x) L.next (edge_angle L α) y)) (sym r.2) h) located-first.passes)

-- ---- what leaves the boundary, as flips do
module _ {C : Counts} {L L' : Links} (W : Wf C L) (W' : Wf C L') (S : SameBoundary C L L') where
  pub length-same : boundary_length C L' ≡ boundary_length C L
  length-same = period-unique (boundary-period W') (subst (λ (a : ℕ). Period L'.next a (boundary_length C L)) (sym S.adjacent)
      (period-same (λ y. In C y × (L.face y ≡ 0)) (λ y m. (W.ranges.next< m.0, W.links.face-next m.0 ∙ m.1)) (λ y m. (S.keeps m.0 m.1).next) (first< W, first-outer W) (boundary-period W)))

  pub edges-same : boundary_edges C L' ≡ boundary_edges C L
  unfolding boundary_edges
  edges-same =
      ap₂ (λ (n a : ℕ). walk n L'.next a) length-same S.adjacent
      ∙ walk-ext L.next L'.next (boundary_length C L) (L.adjacent 0) (λ k l. (S.keeps (boundary-below W k) (boundary-outer W k)).next)

  pub angles-same : (α : ℕ → ℕ) → boundary_angles C L' α ≡ boundary_angles C L α
  unfolding boundary_angles boundary_edges
  angles-same α =
      ap (map (edge_angle L' α)) edges-same
      ∙ map-walk (edge_angle L α) (edge_angle L' α) L.next (boundary_length C L) (L.adjacent 0)
      (λ k l. ap α (S.keeps (boundary-below W k) (boundary-outer W k)).origin)

  pub sound-same : (α : ℕ → ℕ) → is_sound_ring C L' α ≡ is_sound_ring C L α
  unfolding is_sound_ring
  sound-same α = ap (is_sound full_turn) (angles-same α)

  pub strict_same : (α : ℕ → ℕ) → is_strict_ring C L' α ≡ is_strict_ring C L α
  unfolding is_strict_ring
  strict_same α = ap (is_strict full_turn) (angles-same α)

  pub located-same : (α : ℕ → ℕ) → T (is_sound_ring C L α) → (x : ℕ) → located C L' α x ≡ located C L α x
  located-same α t x =
      let t' = subst T (sym (sound-same α)) t in
      let d = located C L' α x in
      let K = S.keeps (located< W' α t' x) (S.was (located< W' α t' x) (located-outer W' α t' x)) in
      let M = S.keeps (W.ranges.next< (located< W' α t' x))
      (W.links.face-next (located< W' α t' x) ∙ S.was (located< W' α t' x) (located-outer W' α t' x)) in
      located-sole W α t x (located< W' α t' x) (S.was (located< W' α t' x) (located-outer W' α t' x))
      (subst T (ap₂ (holds x) (ap α K.origin) (ap (edge_angle L' α) K.next ∙ ap α M.origin)) (located-holds W' α t' x))
