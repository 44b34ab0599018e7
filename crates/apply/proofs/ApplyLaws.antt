-- What an added point leaves: a good mesh with one vertex, as many faces as are counted and one edge more than those,
-- whose boundary is the one before with the covered chain replaced by the two edges at the new vertex. Where no flip is
-- refused the chain is the decided one, so that the boundary has a sound ring exactly when that was decided. Assumes
-- nothing.
use Rattle.std.specs.Prelude.{Bool, ◌≡◌, ℕ, suc, ◌+◌, ◌-◌, ◌*◌}
use Rattle.std.proofs.Math.Bool.{true, false}
use Rattle.std.proofs.Math.Path.{refl, ap}
use Rattle.std.proofs.Common.{sym, ◌∙◌, ap₂}
use native.Mathlib.Omega.{arith}
use Rattle.conflicts.specs.FlipsWithin.{FlipsWithin}
use Rattle.corner.specs.CornerLaws.{Closings, closings-join, closings-count, closings-bound}
use Rattle.corner.specs.Untouched.{Untouched, new-face-untouched, run-untouched, closings-untouched, untouched-join}
use Rattle.math.specs.declared.Point.{Point}
use Rattle.mesh.specs.declared.Counts.{Counts}
use Rattle.mesh.specs.Mesh.{Links}
use Rattle.mesh.specs.Area.{boundary_length}
use Rattle.mesh.specs.Good.{Good}
use Rattle.ring.specs.Ring.{edge_angle, is_sound_ring}
use Rattle.ring.specs.Chain.{left_chain, right_chain, chain_start, chain_length, sound_after}
use Rattle.ring.proofs.ChainMesh.{covered-sound, start-walk}
use Rattle.ring.specs.Covered.{Covered}
use Rattle.sums.specs.Iterate.{iter}
use Rattle.sums.proofs.IterateLaws.{iter-add}
use Rattle.ring.specs.declared.Side.TheVariants.{Left, Right}
use Rattle.apply.specs.Apply.{Walking, Applied, first_face, walk_turns, walk, add_vertex, add_turns}
use Rattle.apply.specs.Walks.{Before, Along}
use Rattle.apply.specs.Turns.{AlongOn, Turned, turns-leave, walk-turns}
use Rattle.apply.proofs.TurnsLaws.{turns-full}
use Rattle.apply.proofs.FirstFace.{along-first, first_good, first_run, first-bound, new-good}

-- the chain's start, its lengths and its end by other names
covered-to : {f α : ℕ → ℕ} {C : Counts} {L : Links} {α'' : ℕ → ℕ} {s s' m m' n n' l p q r r' : ℕ} → s ≡ s' → m ≡ m'
    → n ≡ n' → r ≡ r' → Covered f α C L α'' s m n l p q r → Covered f α C L α'' s' m' n' l p q r'
covered-to a b c d K = rw (← a, ← b, ← c, ← d) K

module _ {C : Counts} {L : Links} {p₀ : ℕ → Point} {α₀ : ℕ → ℕ} {p : ℕ → Point} {α : ℕ → ℕ} {v : Point} {q e : ℕ}
    (B : Before C L p₀ α₀ p α v q e) (room : ℕ) where
  abbrev left : ℕ
  left = left_chain C L p₀ α₀ v q e

  abbrev right : ℕ
  right = right_chain C L p₀ α₀ v q e

  -- before the first loop, after it, and after the second
  abbrev s₀ : Walking
  s₀ = record { mesh = first_face room p C L e; current = 2 * C.edges + 2 + 1 }

  abbrev s₁ : Walking
  s₁ = walk_turns Left room p left s₀

  abbrev s₂ : Walking
  s₂ = walk_turns Right room p right (record { mesh = s₁.mesh; current = 2 * C.edges + 1 })

  pub first_on : AlongOn B Left 0 (2 * C.edges + 1) 0 s₀
  first_on = record { along = along-first B room; most = omega arith; other = omega arith }

  pub first-turned : Turned B room Left 0 (2 * C.edges + 1) s₀ s₁
  first-turned = turns-leave B room Left left first_on (omega arith)

  pub second-on : AlongOn B Right first-turned.count s₁.current 0 (record { mesh = s₁.mesh; current = 2 * C.edges + 1 })
  second-on = record { along = first-turned.on.along; most = omega arith; other = first-turned.on.most }

  pub second-turned : Turned B room Right first-turned.count s₁.current (record { mesh = s₁.mesh; current = 2 * C.edges + 1 }) s₂
  second-turned = turns-leave B room Right right second-on (omega arith)

  -- THE RUST'S LOOPS, which test the mesh as it then stands, make as many turns as the chain of the mesh before has edges on either side
  pub add-turns : add_vertex room p α C L v q e ≡ add_turns room p C L e left right
  unfolding add_vertex add_turns
  add-turns =
      let a : walk Left room p α v q s₀ ≡ s₁ = walk-turns B room Left first_on in
      let b : walk Right room p α v q (record { mesh = s₁.mesh; current = 2 * C.edges + 1 }) ≡ s₂ = walk-turns B room Right second-on in
      rw (a, b) refl

  -- ---- what it leaves
  abbrev r : Applied
  r = add_turns room p C L e left right

  pub add-closings : Closings p (first_face room p C L e) r.mesh
  unfolding add_turns
  add-closings = closings-join first-turned.closings second-turned.closings

  pub add-along : Along C L α₀ p α q e first-turned.count second-turned.count r.mesh r.left_edge r.right_edge
  unfolding add_turns
  add-along = second-turned.on.along

  pub add-good : Good r.mesh.counts r.mesh.links p
  add-good = add-along.good

  pub add-bound : FlipsWithin r.mesh.counts r.mesh.links p r.mesh.flips
  unfolding first_face
  add-bound = closings-bound (first_good B room) add-closings (first-bound B room)

  -- one vertex, a face for each that is counted, and an edge more than those
  pub add-counts : r.mesh.counts
      ≡ record { vertices = C.vertices + 1; edges = C.edges + r.mesh.faces + 1; faces = C.faces + r.mesh.faces }
  unfolding first_face
  add-counts =
      let c = closings-count add-closings in
      let u : r.mesh.counts.edges ≡ C.edges + r.mesh.faces + 1 = (let x = c.edges in omega arith) in
      let w : r.mesh.counts.faces ≡ C.faces + r.mesh.faces = (let x = c.faces in omega arith) in
      counts-are c.vertices u w
    where
      counts-are : {K : Counts} {a b d : ℕ} → K.vertices ≡ a → K.edges ≡ b → K.faces ≡ d
          → K ≡ record { vertices = a; edges = b; faces = d }
      counts-are x y z = rw (← x, ← y, ← z) refl

  pub add-untouched : Untouched r.mesh.counts L r.mesh.links
  unfolding first_face
  add-untouched =
      let c = closings-count add-closings in
      untouched-join (record { vertices = (let x = c.vertices in omega arith); edges = (let x = c.edges in let y = c.more in omega arith); faces = (let x = c.faces in let y = c.more in omega arith) })
      (untouched-join (record { vertices = omega arith; edges = omega arith; faces = omega arith }) (new-face-untouched B.good.wf.ranges B.edge) (run-untouched (new-good B room) (first_run B room)))
      (closings-untouched (first_good B room) add-closings)

  -- ---- where no flip is refused
  module _ (f : r.mesh.full ≡ false) where
    -- both loops have made all their turns
    pub add-all : (first-turned.count ≡ left) × (second-turned.count ≡ right)
    unfolding add_turns
    add-all = (first-turned.all (go s₁.mesh.full refl), second-turned.all f)
      where
        go : (t : Bool) → s₁.mesh.full ≡ t → s₁.mesh.full ≡ false
        go true z = ap (λ (s : Walking). s.mesh.full) (sym (turns-full Right room p right (record { mesh = s₁.mesh; current = 2 * C.edges + 1 }) z)) ∙ f
        go false z = z

    pub add-faces : r.mesh.faces ≡ left + 1 + right
    add-faces = add-along.faces ∙ ap₂ (λ (i j : ℕ). i + 1 + j) add-all.0 add-all.1

    -- the boundary: the chain of the mesh before is covered
    pub add-covered : Covered L.next (edge_angle L α₀) r.mesh.counts r.mesh.links α
        (chain_start C L p₀ α₀ v q e) (chain_length C L p₀ α₀ v q e)
        (boundary_length C L - chain_length C L p₀ α₀ v q e) r.left_edge r.right_edge q (iter (chain_length C L p₀ α₀ v q e) L.next (chain_start C L p₀ α₀ v q e))
    add-covered = go add-all.0 add-all.1 add-along
      where
        end : iter (suc right) L.next e ≡ iter (left + 1 + right) L.next (iter left L.prev e)
        end =
            sym (ap (λ (k : ℕ). iter k L.next (iter left L.prev e)) (more left right) ∙ iter-add left (suc right) L.next (iter left L.prev e)
            ∙ ap (iter (suc right) L.next) (start-walk B.good.wf p₀ α₀ v q B.edge B.outer))
          where
            more : (i j : ℕ) → i + 1 + j ≡ i + suc j
            more i j = omega arith

        go : {i j : ℕ} → i ≡ left → j ≡ right → Along C L α₀ p α q e i j r.mesh r.left_edge r.right_edge
            → Covered L.next (edge_angle L α₀) r.mesh.counts r.mesh.links α (iter left L.prev e)
            (left + 1 + right) (boundary_length C L - (left + 1 + right)) r.left_edge r.right_edge q
            (iter (left + 1 + right) L.next (iter left L.prev e))
        go {i} {j} x y A =
            let w : A.rest ≡ boundary_length C L - (left + 1 + right) = (let z = A.whole in omega arith) in
            covered-to (ap (λ (k : ℕ). iter k L.prev e) x) (ap₂ (λ (a b : ℕ). a + 1 + b) x y) w (ap (λ (k : ℕ). iter (suc k) L.next e) y ∙ end) A.covered

    -- FATE 4: the boundary that the step leaves has a sound ring exactly when that was decided
    pub add-sound : is_sound_ring r.mesh.counts r.mesh.links α ≡ sound_after C L p₀ α₀ v q e
    unfolding sound_after
    add-sound = covered-sound C L α₀ add-good.wf add-covered
