-- Laws of specs/OffLine.antt.
use Rattle.std.specs.Prelude.{Bool, true, false, not, ◌||◌, ◌≡◌, T, ℤ, pos, negsuc, neg_ℤ, ◌<ℤ◌}
use Rattle.std.proofs.Math.Path.{refl}
use Rattle.std.proofs.Common.{sym, ◌∙◌, ap, ap₂, subst, arith}
use Prim.Native.Nat.{ℕ, zero, suc, ◌+◌, ◌-◌, ◌*◌, ◌<◌, ◌≤◌}
use Rattle.std.specs.Int.Signed.{lt_z}
use Rattle.ring.specs.declared.Side.{Side}
use Rattle.ring.specs.declared.Side.TheVariants.{Left, Right}
use Rattle.apply.specs.Apply.{Walking, first_face, face_edge}
use Rattle.convexity.specs.Convexity.{NoLeftCorner}
use Rattle.corner.specs.Corner.{Extended}
use Rattle.math.specs.declared.Point.{Point}
use Rattle.math.specs.Determinant.{orient2d, InRange}
use Rattle.math.proofs.Plane.{orient2d-swap}
use Rattle.mesh.specs.declared.Counts.{Counts}
use Rattle.mesh.specs.Mesh.{Links, In, to}
use Rattle.mesh.specs.Circle.{Settled}
use Rattle.mesh.specs.Good.{Good}
use Rattle.mesh.specs.Operations.{create_single_face_between_edge_and_next, create_new_face_adjacent_to_edge, with_face, with_vertex}
use Rattle.ring.specs.Chain.{beside, sees_edge}
use Rattle.skipped.specs.Insert.{cover_edge, outside_ends, outside_turn, outside_walk, insert_outside}
use Rattle.sums.proofs.BitLaws.{is_true}
use Rattle.sums.specs.Half.{rev}
use Rattle.sums.proofs.HalfLaws.{rev-rev}
use Rattle.sums.specs.Until.{until}
use Rattle.sums.proofs.UntilLaws.{until-done, until-next}
use Rattle.line.specs.Chain.{Chain}
use Rattle.line.proofs.ChainLaws.{in-r, in-rev}
use Rattle.line.specs.Fan.{Fan, Seen}
use Rattle.line.proofs.FanLaws.{fan-first}
use Rattle.line.proofs.FanGrows.{fan-left, fan-right}
use Rattle.line.proofs.FanWhole.{fan-good}
use Rattle.line.proofs.FanCorners.{fan-corners}
use Rattle.line.proofs.FanSettled.{fan-settled}
use Rattle.line.proofs.Still.{first-still, cover-still}
use Rattle.line.specs.Straight.{Straight}
use Rattle.line.specs.OffLine.{OffLine, Stand}

-- what is strictly left of an edge is not left of its reverse
pub not_seen : (a b v : Point) → pos 0 <ℤ orient2d a b v → lt_z (pos 0) (orient2d b a v) ≡ false
not_seen a b v h = rw (orient2d-swap a b v) (go (orient2d a b v) h.lt)
  where
    go : (z : ℤ) → T (lt_z (pos 0) z) → lt_z (pos 0) (neg_ℤ z) ≡ false
    go (pos zero) t = absurd t
    go (pos (suc n)) t = refl
    go (negsuc n) t = absurd t

module _ {C₀ : Counts} {L₀ : Links} {at r : ℕ → ℕ} (K : Chain C₀ L₀ at r) {p : ℕ → Point} (S : Seen C₀ at p C₀.vertices)
    {v : Point} (here : p C₀.vertices ≡ v) where
  abbrev E : ℕ
  E = C₀.edges

  -- ---- which edges are seen
  module _ {lo hi l f : ℕ} {m : Extended} (X : Stand C₀ L₀ at r p lo hi l f m) where
    abbrev L : Links
    L = m.links

    pub sees : {i : ℕ} → i < E → sees_edge L p v (r (suc i)) ≡ true
    sees {i} u =
        let a = X.fan.ends (in-r K {i = suc i} (omega arith)) ∙ K.from {i = i} (omega arith) in
        let b = X.fan.ends (in-rev K {i = suc i} (omega arith)) ∙ K.to {i = suc i} u in
        rw (a, b, ← here) (is_true _ (S.left u).lt)

    pub sees-low : sees_edge L p v (r 0) ≡ false
    sees-low =
        let s = K.some in
        let a = ap L.origin K.low ∙ X.fan.ends (in-rev K {i = 1} (omega arith)) ∙ K.to {i = 1} s in
        let b = X.fan.ends (in-rev K {i = 0} (omega arith)) ∙ K.to {i = 0} (omega arith) in
        rw (a, b, ← here) (not_seen (p (at 0)) (p (at 1)) (p C₀.vertices) (S.left s))

    pub sees-high : sees_edge L p v (r (suc E)) ≡ false
    sees-high = go E K.some refl
      where
        go : (e : ℕ) → 0 < e → E ≡ e → sees_edge L p v (r (suc E)) ≡ false
        go zero u q = absurd (omega arith)
        go (suc e) u q =
            let a = X.fan.ends (in-r K {i = suc E} (omega arith)) ∙ K.from {i = E} (omega arith) ∙ ap at q in
            let b = ap (λ (x : ℕ). L.origin (rev x)) K.high ∙ ap L.origin (rev-rev (r E))
            ∙ X.fan.ends (in-r K {i = E} (omega arith)) ∙ ap (λ (x : ℕ). L₀.origin (r x)) q ∙ K.from {i = e} (omega arith) in
            rw (a, b, ← here) (not_seen (p (at e)) (p (at (suc e))) (p C₀.vertices) (S.left (omega arith)))

  -- ---- the loops
  ends_at : (side : Side) (s : Walking) (d : ℕ) (t : Bool) → s.mesh.full ≡ false → beside side s.mesh.links s.current ≡ d
      → sees_edge s.mesh.links p v d ≡ t → outside_ends side p v s ≡ not t
  unfolding outside_ends
  ends_at side s d t u q e = rw (u, q, e) refl

  pub left-turn : (room : ℕ) {lo hi f : ℕ} (s : Walking) → Stand C₀ L₀ at r p (suc lo) hi s.current f s.mesh
      → Stand C₀ L₀ at r p lo hi (outside_turn Left room p s).current f (outside_turn Left room p s).mesh
  unfolding outside_turn face_edge
  left-turn room {lo} {hi} {f} s X =
      let Y = fan-left K S X.fan in
      let q = X.fan.prev-l in
      let lo< : lo < E = (let a = X.fan.some in let b = X.fan.most in omega arith) in
      rw (q, cover-still room p s.mesh (r (suc lo)) (r (suc lo)) (Y.beneath lo<))
      (record { fan = Y; faces = let a = X.faces in omega arith; flips = X.flips; full = refl })

  pub right-turn : (room : ℕ) {lo hi l : ℕ} (s : Walking) → hi < E → Stand C₀ L₀ at r p lo hi l s.current s.mesh
      → Stand C₀ L₀ at r p lo (suc hi) l (outside_turn Right room p s).current (outside_turn Right room p s).mesh
  unfolding outside_turn face_edge
  right-turn room {lo} {hi} {l} s u X =
      let Y = fan-right K S X.fan u in
      let q = X.fan.next-f in
      rw (q, cover-still room p s.mesh s.current (r (suc hi)) (Y.beneath u))
      (record { fan = Y; faces = let a = X.faces in omega arith; flips = X.flips; full = refl })

  pub left-walk : (room lo n : ℕ) {hi f : ℕ} (s : Walking) → lo < n → Stand C₀ L₀ at r p lo hi s.current f s.mesh
      → let z = until (outside_ends Left p v) (outside_turn Left room p) n s in Stand C₀ L₀ at r p 0 hi z.current f z.mesh
  left-walk room zero n s u X = rw (until-done (outside_ends Left p v) (outside_turn Left room p) n s
      (ends_at Left s (r 0) false X.full X.fan.prev-l (sees-low X))) X
  left-walk room (suc lo) zero s u X = absurd (omega arith)
  left-walk room (suc lo) (suc n) s u X = rw (until-next (outside_ends Left p v) (outside_turn Left room p) n s
      (ends_at Left s (r (suc lo)) true X.full X.fan.prev-l (sees X (let a = X.fan.some in let b = X.fan.most in omega arith))))
      (left-walk room lo n (outside_turn Left room p s) (omega arith) (left-turn room s X))

  pub right-walk : (room k n : ℕ) {hi l : ℕ} (s : Walking) → hi + k ≡ E → k < n → Stand C₀ L₀ at r p 0 hi l s.current s.mesh
      → let z = until (outside_ends Right p v) (outside_turn Right room p) n s in Stand C₀ L₀ at r p 0 C₀.edges l z.current z.mesh
  right-walk room zero n {hi} {l} s e u X =
      let q : hi ≡ E = omega arith in
      let X' = subst (λ (h : ℕ). Stand C₀ L₀ at r p 0 h l s.current s.mesh) q X in
      rw (until-done (outside_ends Right p v) (outside_turn Right room p) n s
      (ends_at Right s (r (suc E)) false X.full X'.fan.next-f (sees-high X))) X'
  right-walk room (suc k) zero s e u X = absurd (omega arith)
  right-walk room (suc k) (suc n) {hi} s e u X = rw (until-next (outside_ends Right p v) (outside_turn Right room p) n s
      (ends_at Right s (r (suc hi)) true X.full X.fan.next-f (sees X {i = hi} (omega arith))))
      (right-walk room k n (outside_turn Right room p s) (omega arith) (omega arith) (right-turn room s (omega arith) X))

  -- ---- all of it
  pub first-stand : (room : ℕ) {k : ℕ} → k < E → Stand C₀ L₀ at r p k (suc k) (2 * C₀.edges + 2 + 1) (2 * C₀.edges + 1) (first_face room p C₀ L₀ (r (suc k)))
  first-stand room {k} u = let Y = fan-first K S u in rw (first-still room p C₀ L₀ (r (suc k)) (Y.beneath u))
      (record { fan = Y; faces = omega arith; flips = refl; full = refl })

  pub off-line : (room : ℕ) {k : ℕ} → Straight C₀ at p → k < C₀.edges → ((u : ℕ) → u < C₀.vertices + 1 → InRange (p u))
      → OffLine C₀ p (insert_outside room p C₀ L₀ v (r (suc k)))
  unfolding insert_outside outside_walk
  off-line room {k} Y u range =
      let X = first-stand room u in
      let a = left-walk room k (2 * (first_face room p C₀ L₀ (r (suc k))).counts.edges + 1) (record { mesh = first_face room p C₀ L₀ (r (suc k)); current = 2 * C₀.edges + 2 + 1 })
      (let e = X.fan.edges in omega arith) X in
      let b = right-walk room (E - suc k) (2 * (outside_walk Left room p v (record { mesh = first_face room p C₀ L₀ (r (suc k)); current = 2 * C₀.edges + 2 + 1 })).mesh.counts.edges + 1)
      (record { mesh = (outside_walk Left room p v (record { mesh = first_face room p C₀ L₀ (r (suc k)); current = 2 * C₀.edges + 2 + 1 })).mesh; current = 2 * C₀.edges + 1 })
      (omega arith) (let e = a.fan.edges in omega arith) a in
      record {
        good = fan-good K b.fan range;
        settled = fan-settled K S Y b.fan;
        convex = fan-corners K S Y b.fan;
        vertices = b.fan.vertices;
        edges = let e = b.fan.edges in omega arith;
        counted = let e = b.fan.faces in omega arith;
        faces = let e = b.faces in omega arith;
        flips = b.flips;
        full = b.full;
      }
