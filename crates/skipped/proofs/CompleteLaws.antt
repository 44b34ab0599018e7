-- The finish with skipped points, on a good mesh: it is left good, with the vertices that were there where they were and
-- each skipped point's vertex at the point; where no flip is refused, no boundary corner turns left and no triangle's
-- circle strictly contains a neighbour's far vertex. Assumes nothing.
use Rattle.std.specs.Prelude.{Bool, ◌≡◌, ℕ, ◌+◌, ◌<◌, ◌≤◌, T, pos, ◌+ℤ◌, ◌-ℤ◌, ◌≤ℤ◌}
use Rattle.std.proofs.Math.Bool.{true, false, cond}
use Rattle.std.proofs.lemmas.Bool.{false≢true}
use Rattle.std.proofs.Math.Path.{refl, ap, subst}
use Rattle.std.proofs.Common.{sym, ◌∙◌}
use native.Mathlib.Omega.{arith}
use Rattle.closing.specs.Closing.{Closing, closing_pass}
use Rattle.closing.specs.ClosingLaws.{closing-closes}
use Rattle.convexity.specs.Convexity.{convexity, NoLeftCorner}
use Rattle.convexity.proofs.ConvexityLawsFacts.{convexity-closings, convexity-good, convexity-counts, convexity-convex, run-corners}
use Rattle.corner.specs.Corner.{Extended}
use Rattle.corner.specs.Untouched.{Untouched, Grown, untouched-none, untouched-join, untouched-flips, run-untouched, closings-untouched}
use Rattle.finish.specs.Finish.{close_after}
use Rattle.math.specs.declared.Point.{Point}
use Rattle.math.specs.Determinant.{InRange}
use Rattle.mesh.specs.declared.Counts.{Counts}
use Rattle.mesh.specs.Mesh.{Links}
use Rattle.mesh.specs.Area.{area_total, boundary_area, height_sum}
use Rattle.mesh.proofs.AreaLaws.{area-theorem}
use Rattle.mesh.specs.Circle.{Settled}
use Rattle.mesh.specs.FlipRun.{FlipRun, none, determinants}
use Rattle.mesh.proofs.FlipRunLaws.{run-good, run-heights, run-falls}
use Rattle.mesh.specs.Good.{Good}
use Rattle.mesh.proofs.HeightLawsFacts.{heights-nonneg}
use Rattle.sums.specs.Bounded.{count}
use Rattle.skipped.specs.Insert.{is_new}
use Rattle.skipped.specs.Fill.{Filling, fill_after, inserted_at, inserted_vertex, enters, fill_from, convex_after, Completing, complete_mesh}
use Rattle.skipped.proofs.FillLawsFacts.{Answers, fill-answered, fill-good, fill-grown, fill-untouched, fill-old, fill-vertices, fill-used, fill_here, fill-number, fill-past, fill-whole}
use Rattle.finish.specs.MeshLaws.{fall-by}

module _ (room : ℕ) {C : Counts} {L : Links} {p : ℕ → Point} (G : Good C L p) (skipped : ℕ → Bool) (point : ℕ → Point)
    (n : ℕ) (range : (i : ℕ) → i < n → InRange (point i)) where
  -- after the first convexity passes
  abbrev v : Extended
  v = convexity room C p L

  v-good : Good v.counts v.links p
  v-good = convexity-good room C p L G

  -- after so many points of the list
  abbrev after : ℕ → Filling
  after i = fill_after room v.counts v.links p skipped point i

  abbrev s : Filling
  s = fill_from room p skipped point n v

  abbrev w : Extended
  w = convex_after room s

  abbrev r : Completing
  r = complete_mesh room C L p skipped point n

  -- what holds after the points whether or not a flip was refused before them
  by-stage : (P : Filling → Type 0) → P (record { counts = v.counts; links = v.links; positions = p; answered = n; full = true })
      → P (after n) → P s
  unfolding fill_from
  by-stage P a b = go v.full
    where
      go : (f : Bool) → P (cond f (record { counts = v.counts; links = v.links; positions = p; answered = n; full = true }) (after n))
      go true = a
      go false = b

  s-good : Good s.counts s.links s.positions
  s-good = by-stage (λ s. Good s.counts s.links s.positions) v-good (fill-good room v-good skipped point range n (omega arith))

  same-vertices : v.counts.vertices ≡ C.vertices
  same-vertices = ap (λ (D : Counts). D.vertices) (convexity-counts room C p L G)

  -- ---- the second convexity passes
  -- what holds after them whether or not a flip was refused before them
  by-second : (P : Extended → Type 0) → P (record { counts = s.counts; links = s.links; faces = 0; flips = 0; full = true })
      → P (convexity room s.counts s.positions s.links) → P w
  unfolding convex_after
  by-second P a b = go s.full
    where
      go : (f : Bool)
          → P (cond f (record { counts = s.counts; links = s.links; faces = 0; flips = 0; full = true })
          (convexity room s.counts s.positions s.links))
      go true = a
      go false = b

  w-good : Good w.counts w.links s.positions
  w-good = by-second (λ w. Good w.counts w.links s.positions) s-good (convexity-good room s.counts s.positions s.links s-good)

  w-vertices : w.counts.vertices ≡ s.counts.vertices
  w-vertices =
      by-second (λ w. w.counts.vertices ≡ s.counts.vertices) refl
      (ap (λ (D : Counts). D.vertices) (convexity-counts room s.counts s.positions s.links s-good))

  w-convex : w.full ≡ false → NoLeftCorner w.counts w.links s.positions
  w-convex =
      by-second (λ w. w.full ≡ false → NoLeftCorner w.counts w.links s.positions) (λ q. absurd (false≢true (sym q)))
      (convexity-convex room s.counts s.positions s.links s-good)

  -- ---- the closing pass
  pub complete-flips : FlipRun w.counts s.positions w.links r.mesh.links r.mesh.closingflips
  unfolding complete_mesh close_after
  complete-flips = go w.full
    where
      go : (f : Bool)
          → let c = cond f (record { links = w.links; flips = 0 }) (closing_pass w.counts s.positions w.links) in
          FlipRun w.counts s.positions w.links c.links c.flips
      go true = none
      go false = (closing-closes w-good).run

  -- THE LAW OF THE FINISH, a refused flip too
  pub complete-good : Good r.mesh.counts r.mesh.links r.positions
  unfolding complete_mesh
  complete-good = run-good w-good complete-flips

  pub complete-area : area_total r.mesh.counts r.mesh.links r.positions
      ≡ boundary_area r.mesh.counts r.mesh.links r.positions
  complete-area = area-theorem complete-good.wf r.positions

  -- the closing flips lower the height sum by their circle determinants, so by at least their number
  pub complete-heights : height_sum w.counts w.links s.positions
      ≡ height_sum w.counts r.mesh.links s.positions +ℤ determinants complete-flips
  complete-heights = run-heights w-good complete-flips

  pub complete-fall : pos r.mesh.closingflips
      ≤ℤ (height_sum w.counts w.links s.positions -ℤ height_sum w.counts r.mesh.links s.positions)
  complete-fall = fall-by _ _ _ (heights-nonneg w-good.turning) (heights-nonneg (run-good w-good complete-flips).turning) (run-falls w-good complete-flips)

  -- 01: "mesh .. entries past the counts in use are untouched"
  v-grown : Grown C v.counts
  v-grown =
      let a = convexity-counts room C p L G in
      let b = ap (λ (D : Counts). D.vertices) a in let c = ap (λ (D : Counts). D.edges) a in let d = ap (λ (D : Counts). D.faces) a in
      record { vertices = omega arith; edges = omega arith; faces = omega arith }

  s-grown : Grown v.counts s.counts
  s-grown =
      by-stage (λ s. Grown v.counts s.counts) (record { vertices = omega arith; edges = omega arith; faces = omega arith })
      (fill-grown room v-good skipped point range n (omega arith))

  w-grown : Grown s.counts w.counts
  w-grown =
      by-second (λ w. Grown s.counts w.counts) (record { vertices = omega arith; edges = omega arith; faces = omega arith })
      (let a = convexity-counts room s.counts s.positions s.links s-good in
      let b = ap (λ (D : Counts). D.vertices) a in let c = ap (λ (D : Counts). D.edges) a in let d = ap (λ (D : Counts). D.faces) a in
      record { vertices = omega arith; edges = omega arith; faces = omega arith })

  pub complete-grown : Grown C r.mesh.counts
  unfolding complete_mesh
  complete-grown =
      let a = v-grown in let b = s-grown in let c = w-grown in
      record { vertices = omega arith; edges = omega arith; faces = omega arith }

  pub complete-untouched : Untouched r.mesh.counts L r.mesh.links
  unfolding complete_mesh
  complete-untouched =
      let a = closings-untouched G (convexity-closings room C p L G) in
      let b = by-stage (λ s. Untouched s.counts v.links s.links) untouched-none (fill-untouched room v-good skipped point range n (omega arith)) in
      let c = by-second (λ w. Untouched w.counts s.links w.links) untouched-none
      (closings-untouched s-good (convexity-closings room s.counts s.positions s.links s-good)) in
      untouched-flips (untouched-join w-grown (untouched-join s-grown a b) c) (run-untouched w-good complete-flips)

  -- the vertices that were there stay where they were
  pub complete-old : (u : ℕ) → u < C.vertices → r.positions u ≡ p u
  unfolding complete_mesh
  complete-old u l = by-stage (λ s. s.positions u ≡ p u) refl (fill-old room v-good skipped point range n (omega arith) u (let q = same-vertices in omega arith))

  -- no more vertices than those that were there and one for each point that becomes one
  pub complete-most : r.mesh.counts.vertices ≤ C.vertices + count n (enters room v.counts v.links p skipped point)
  unfolding complete_mesh
  complete-most =
      let a = w-vertices in let b = same-vertices in
      let c = by-stage (λ s. s.counts.vertices ≤ v.counts.vertices + count n (enters room v.counts v.links p skipped point)) (omega arith)
      (let d = fill-vertices room v-good skipped point range n (omega arith) in omega arith) in
      omega arith

  -- positions past the vertices in use are untouched
  pub complete-past : (u : ℕ) → r.mesh.counts.vertices ≤ u → r.positions u ≡ p u
  unfolding complete_mesh
  complete-past u l =
      by-stage (λ s. s.counts.vertices ≤ u → s.positions u ≡ p u) (λ _. refl) (fill-past room v-good skipped point range n (omega arith) u)
      (let a = w-vertices in omega arith)

  -- a refusal names a point of the list, or their number
  pub complete-place : r.place ≤ n
  unfolding complete_mesh
  complete-place = go s.full refl
    where
      reach : (s : Filling) → Answers room v.counts v.links p skipped point n s → (b : Bool) → s.full ≡ b → s.answered ≤ n
      reach s A true q = let k = A.short q in omega arith
      reach s A false q = let k = A.all q in omega arith

      go : (b : Bool) → s.full ≡ b → cond b s.answered n ≤ n
      go true q =
          by-stage (λ s. s.answered ≤ n) (omega arith)
          (reach (after n) (fill-answered room v.counts v.links p skipped point n) (after n).full refl)
      go false q = omega arith

  -- ---- where no flip is refused
  module _ (f : r.mesh.full ≡ false) where
    pub complete-convex : NoLeftCorner r.mesh.counts r.mesh.links r.positions
    unfolding complete_mesh
    complete-convex = run-corners w-good complete-flips (w-convex f)

    -- the closing flips are those of the closing pass
    pub complete-closing : ◌≡◌ {A = Closing} (record { links = r.mesh.links; flips = r.mesh.closingflips })
        (closing_pass w.counts s.positions w.links)
    unfolding complete_mesh close_after
    complete-closing = ap (λ (b : Bool). cond b (record { links = w.links; flips = 0 }) (closing_pass w.counts s.positions w.links)) f

    pub complete-settled : Settled r.mesh.counts r.mesh.links r.positions
    unfolding complete_mesh
    complete-settled = subst (λ (c : Closing). Settled w.counts c.links s.positions) (sym complete-closing) (closing-closes w-good).settled

    -- no flip was refused in any stage
    s-whole : s.full ≡ false
    unfolding complete_mesh convex_after
    s-whole = go s.full f
      where
        go : (b : Bool)
            → (cond b (record { counts = s.counts; links = s.links; faces = 0; flips = 0; full = true })
            (convexity room s.counts s.positions s.links)).full ≡ false
            → b ≡ false
        go true q = absurd (false≢true (sym q))
        go false q = refl

    s-all : s ≡ after n
    unfolding fill_from
    s-all = go v.full s-whole
      where
        go : (b : Bool) → (cond b (record { counts = v.counts; links = v.links; positions = p; answered = n; full = true })
            (after n)).full ≡ false
            → cond b (record { counts = v.counts; links = v.links; positions = p; answered = n; full = true }) (after n) ≡ after n
        go true q = absurd (false≢true (sym q))
        go false q = refl

    -- the vertices are those that were there, and one for each point of fate 6, 7 or 8
    pub complete-vertices : r.mesh.counts.vertices ≡ C.vertices + count n (enters room v.counts v.links p skipped point)
    unfolding complete_mesh
    complete-vertices =
        w-vertices ∙ ap (λ (t : Filling). t.counts.vertices) s-all ∙ fill-vertices room v-good skipped point range n (omega arith)
        ∙ ap (λ (k : ℕ). k + count n (enters room v.counts v.links p skipped point)) same-vertices

    -- all skipped points are in
    pub complete-inserted : r.inserted ≡ n
    unfolding complete_mesh fill_from
    complete-inserted = go v.full s-whole
      where
        go : (b : Bool) → (cond b (record { counts = v.counts; links = v.links; positions = p; answered = n; full = true })
            (after n)).full ≡ false
            → cond b 0 (cond b (record { counts = v.counts; links = v.links; positions = p; answered = n; full = true })
            (after n)).answered ≡ n
        go true q = absurd (false≢true (sym q))
        go false q = (fill-answered room v.counts v.links p skipped point n).all q

    -- every point was reached
    pub complete-reached : (i : ℕ) → i < n → (after i).full ≡ false
    complete-reached i l = fill-whole room v.counts v.links p skipped point n i (omega arith) (ap (λ (t : Filling). t.full) (sym s-all) ∙ s-whole)

    -- the vertex of each skipped point is in use and at the point
    module _ {i : ℕ} (l : i < n) (t : T (skipped i)) where
      pub complete-used : inserted_vertex room v.counts v.links p skipped point i < r.mesh.counts.vertices
      unfolding complete_mesh
      complete-used =
          let a = fill-used room v-good skipped point range l (omega arith) t (complete-reached i l) in
          let b = w-vertices in let c = ap (λ (t : Filling). t.counts.vertices) s-all in omega arith

      pub complete-here : r.positions (inserted_vertex room v.counts v.links p skipped point i) ≡ point i
      unfolding complete_mesh
      complete-here =
          ap (λ (t : Filling). t.positions (inserted_vertex room v.counts v.links p skipped point i)) s-all
          ∙ fill_here room v-good skipped point range l (omega arith) t (complete-reached i l)

      pub complete-number : T (is_new (inserted_at room v.counts v.links p skipped point i).place)
          → inserted_vertex room v.counts v.links p skipped point i
          ≡ C.vertices + count i (enters room v.counts v.links p skipped point)
      complete-number e =
          fill-number room v-good skipped point range l (omega arith) t (complete-reached i l) e
          ∙ ap (λ (k : ℕ). k + count i (enters room v.counts v.links p skipped point)) same-vertices
