-- What a growing seed keeps, for every list of points in range: its mesh is in one of the growing phases; each point is at its vertex, and
-- those that became vertices are numbered in list order; it goes on to the next point until the sweep may start or a flip is refused.
-- Assumes nothing.
use Rattle.std.specs.Prelude.{Bool, true, false, not, cond, ◌&&◌, ◌||◌, ◌⊎◌, ◌≡◌, ltb, eqb}
use Rattle.std.proofs.lemmas.Bool.{false≢true}
use Rattle.std.proofs.Common.{inl, inr, sym, ◌∙◌, ap, subst, add-zero, arith, lt-ltb, le-ltb}
use Rattle.std.proofs.Math.Path.{refl}
use Prim.Native.Nat.{ℕ, zero, suc, ◌+◌, ◌<◌, ◌≤◌}
use Rattle.std.proofs.Math.Decide.{ℕ_discrete, dec_lt}
use Rattle.corner.specs.Corner.{Extended}
use Rattle.line.specs.Grow.{Growing, one_vertex, insert_first_vertex, insert_second_vertex, insert_by_count, grow_point, grow_in_mesh, grow_on}
use Rattle.line.proofs.GrowFacts.{nothing}
use Rattle.line.specs.GrowLaws.{Phase, none, one, line, mesh, LineGrown, PointAt}
use Rattle.line.proofs.GrowLawsFacts.{line-grown, grow-keeps, grow-at}
use Rattle.line.specs.Operations.{setup_initial_two_vertices, two_vertices}
use Rattle.line.specs.Order.{is_same_of}
use Rattle.math.specs.declared.Point.{Point}
use Rattle.math.specs.Determinant.{InRange}
use Rattle.mesh.specs.declared.Counts.{Counts}
use Rattle.mesh.specs.Mesh.{Links}
use Rattle.skipped.specs.Insert.{unflipped, is_new, insert_point}
use Rattle.sums.specs.Bit.{bit}
use Rattle.sums.specs.Bounded.{count}
use Rattle.sums.proofs.BoundedLaws.{count-suc, count-le}
use Rattle.sums.specs.Put.{put}
use Rattle.surface.proofs.FinishCases.{full-new}
use Rattle.hull_center.specs.HullCenter.{is_ready}
use Rattle.bulk_load.specs.Seed.{Seeding, seed_start, may_start, seeded_by, seed_point, seed_after, grow_at}

-- ---- a flip is refused to a new vertex alone
second-not-full : (L : Links) (p : ℕ → Point) (q : Point) → (insert_second_vertex L p q).mesh.full ≡ false
unfolding insert_second_vertex
second-not-full L p q = go (is_same_of (p 0) q)
  where
    go : (b : Bool) → (cond {A = Growing} b
        (record { fate = 9; vertex = 0; positions = p; mesh = unflipped one_vertex L 0 })
        (record { fate = 1; vertex = 1; positions = put p 1 q; mesh = unflipped two_vertices (setup_initial_two_vertices L 0 1) 0 })).mesh.full ≡ false
    go true = refl
    go false = refl

-- before the first triangle none is
grow-still : (room : ℕ) (g : Growing) (q : Point) → InRange q → Phase g → g.mesh.counts.faces ≤ 1 → (grow_point room g q).mesh.full ≡ false
unfolding insert_by_count insert_first_vertex
grow-still room g q rq P f = go g.mesh.counts.vertices refl P
  where
    go : (n : ℕ) → g.mesh.counts.vertices ≡ n → Phase g
        → (insert_by_count n room g.mesh.counts g.mesh.links g.positions q).mesh.full ≡ false
    go zero e P = refl
    go (suc zero) e P = second-not-full g.mesh.links g.positions q
    go (suc (suc n)) e (none z y) = absurd (omega arith)
    go (suc (suc n)) e (one z r) = absurd (let c = ap (λ (C : Counts). C.vertices) z in omega arith)
    go (suc (suc n)) e (line X) = (line-grown X rq room).full
    go (suc (suc n)) e (mesh G N l) = absurd (omega arith)

pub grow-full : (room : ℕ) (g : Growing) (q : Point) → InRange q → Phase g → (grow_on room g q).mesh.full ≡ true → (grow_on room g q).fate ≡ 1
unfolding grow_on grow_in_mesh
grow-full room g q rq P = go (dec_lt 1 g.mesh.counts.faces)
  where
    in-mesh : (grow_in_mesh room g q).mesh.full ≡ true → (grow_in_mesh room g q).fate ≡ 1
    in-mesh f = rw (full-new room g.mesh.counts g.mesh.links g.positions q f) refl

    go : Dec (1 < g.mesh.counts.faces) → (grow_on room g q).mesh.full ≡ true → (grow_on room g q).fate ≡ 1
    go (yes l) = rw (lt-ltb 1 g.mesh.counts.faces l) in-mesh
    go (no n) = rw (le-ltb 1 g.mesh.counts.faces (omega arith))
        (λ f. absurd (false≢true (sym (grow-still room g q rq P (omega arith)) ∙ f)))

-- ---- the list
module _ (room : ℕ) (L : Links) (p point : ℕ → Point) where
  abbrev at : ℕ → Growing
  at i = grow_at room L p point i

  -- how many of the first n points became vertices
  abbrev pub grown_before : ℕ → ℕ
  grown_before n = count n (λ i. eqb (grow_at room L p point i).fate 1)

  pub grown-most : (n : ℕ) → grown_before n ≤ n
  grown-most n = count-le n (λ i. eqb (at i).fate 1)

  pub record SeedKeeps (n : ℕ) (s : Seeding) : Type 0 where
    pub phase : Phase s.growing
    pub most : s.answered ≤ n
    pub going : s.ready ≡ false → s.growing.mesh.full ≡ false → s.answered ≡ n
    pub stopped : s.growing.mesh.full ≡ true → s.answered < n
    pub started : s.ready ≡ true → may_start s.growing ≡ true
    -- those in use are those of fate 1, and the vertex of a point whose flips were refused
    pub vertices : s.growing.mesh.counts.vertices ≡ grown_before s.answered + bit s.growing.mesh.full
    pub fates : (i : ℕ) → i < s.answered → ((at i).fate ≡ 1) ⊎ ((at i).fate ≡ 9)
    pub used : (i : ℕ) → i < s.answered → (at i).vertex < s.growing.mesh.counts.vertices
    pub here : (i : ℕ) → i < s.answered → s.growing.positions (at i).vertex ≡ point i
    pub number : (i : ℕ) → i < s.answered → (at i).fate ≡ 1 → (at i).vertex ≡ grown_before i

  keeps-none : SeedKeeps 0 (seed_start L p)
  unfolding count
  keeps-none = record {
    phase = none refl refl;
    most = omega arith;
    going = λ _ _. refl;
    stopped = λ e. absurd (false≢true e);
    started = λ e. absurd (false≢true e);
    vertices = refl;
    fates = λ i l. absurd (omega arith);
    used = λ i l. absurd (omega arith);
    here = λ i l. absurd (omega arith);
    number = λ i l. absurd (omega arith);
  }

  -- no point follows
  keeps-ended : {n : ℕ} {s : Seeding} → (s.ready || s.growing.mesh.full) ≡ true → SeedKeeps n s → SeedKeeps (suc n) s
  keeps-ended {n} {s} e K = record {
    phase = K.phase;
    most = let m = K.most in omega arith;
    going = λ a b. absurd (false≢true (sym (rw (a, b) refl) ∙ e));
    stopped = λ q. let m = K.stopped q in omega arith;
    started = K.started;
    vertices = K.vertices;
    fates = K.fates;
    used = K.used;
    here = K.here;
    number = K.number;
  }

  -- a point goes in
  module _ (n : ℕ) (K : SeedKeeps n (seed_after room L p point n)) (rq : InRange (point n))
      (r : (seed_after room L p point n).ready ≡ false) (f : (seed_after room L p point n).growing.mesh.full ≡ false) where
    abbrev s : Seeding
    s = seed_after room L p point n

    answered : s.answered ≡ n
    answered = K.going r f

    A : PointAt s.growing (point n) (at n)
    A = grow-at room s.growing (point n) rq K.phase

    vertices-before : s.growing.mesh.counts.vertices ≡ grown_before n
    vertices-before = let v = K.vertices in let a = ap grown_before answered in let b = ap bit f in omega arith

    abbrev Numbered : Type 0
    Numbered =
        (((at n).fate ≡ 1) × ((at n).vertex ≡ s.growing.mesh.counts.vertices)
        × ((at n).mesh.counts.vertices ≡ s.growing.mesh.counts.vertices + 1))
        ⊎ (((at n).fate ≡ 9) × ((at n).mesh.counts.vertices ≡ s.growing.mesh.counts.vertices))

    grown : s.growing.mesh.counts.vertices ≤ (at n).mesh.counts.vertices
    grown = go A.number
      where
        go : Numbered → s.growing.mesh.counts.vertices ≤ (at n).mesh.counts.vertices
        go (inl (a, b, c)) = omega arith
        go (inr (a, c)) = omega arith

    -- of the points before it
    old-used : (i : ℕ) → i < n → (at i).vertex < (at n).mesh.counts.vertices
    old-used i l = let a = answered in let u = K.used i (omega arith) in let m = grown in omega arith

    old-here : (i : ℕ) → i < n → (at n).positions (at i).vertex ≡ point i
    old-here i l = let a = answered in A.kept (K.used i (omega arith)) ∙ K.here i (omega arith)

    -- refused a flip: it has a vertex, and no answer
    keeps-full : (at n).mesh.full ≡ true → SeedKeeps (suc n) (seeded_by s (at n))
    keeps-full t = record {
      phase = grow-keeps room s.growing (point n) rq f K.phase;
      most = rw t (let a = answered in omega arith);
      going = λ _ e. absurd (false≢true (sym e ∙ t));
      stopped = λ _. rw t (let a = answered in omega arith);
      started = λ e. e;
      vertices = rw t (go A.number);
      fates = rw t (λ i l. K.fates i l);
      used = rw t (λ i l. old-used i (let a = answered in omega arith));
      here = rw t (λ i l. old-here i (let a = answered in omega arith));
      number = rw t (λ i l e. K.number i l e);
    }
      where
        go : Numbered → (at n).mesh.counts.vertices ≡ grown_before s.answered + 1
        go (inl (a, b, c)) = let v = K.vertices in let z = ap bit f in omega arith
        go (inr (a, c)) = absurd (let o = grow-full room s.growing (point n) rq K.phase t in omega arith)

    keeps-in : (at n).mesh.full ≡ false → SeedKeeps (suc n) (seeded_by s (at n))
    keeps-in t = record {
      phase = grow-keeps room s.growing (point n) rq f K.phase;
      most = rw t (let a = answered in omega arith);
      going = λ _ _. rw t (ap suc answered);
      stopped = λ e. absurd (false≢true (sym t ∙ e));
      started = λ e. e;
      vertices = rw (t, answered) (count-now A.number);
      fates = rw t (λ i l. fate-at i (ℕ_discrete i n) (let a = answered in omega arith));
      used = rw t (λ i l. used-at i (ℕ_discrete i n) (let a = answered in omega arith));
      here = rw t (λ i l. here-at i (ℕ_discrete i n) (let a = answered in omega arith));
      number = rw t (λ i l e. number_at i (ℕ_discrete i n) (let a = answered in omega arith) e);
    }
      where
        count-now : Numbered → (at n).mesh.counts.vertices ≡ grown_before (suc n) + 0
        count-now (inl (a, b, c)) = let v = vertices-before in let k = count-suc n (λ i. eqb (at i).fate 1) in let o = ap (λ (x : ℕ). bit (eqb x 1)) a in omega arith
        count-now (inr (a, c)) = let v = vertices-before in let k = count-suc n (λ i. eqb (at i).fate 1) in let o = ap (λ (x : ℕ). bit (eqb x 1)) a in omega arith

        fate-of : Numbered → ((at n).fate ≡ 1) ⊎ ((at n).fate ≡ 9)
        fate-of (inl (a, b, c)) = inl a
        fate-of (inr (a, c)) = inr a

        fate-at : (i : ℕ) → Dec (i ≡ n) → i ≤ n → ((at i).fate ≡ 1) ⊎ ((at i).fate ≡ 9)
        fate-at i (yes q) l = rw q (fate-of A.number)
        fate-at i (no m) l = K.fates i (let a = answered in omega arith)

        used-at : (i : ℕ) → Dec (i ≡ n) → i ≤ n → (at i).vertex < (at n).mesh.counts.vertices
        used-at i (yes q) l = rw q A.used
        used-at i (no m) l = old-used i (omega arith)

        here-at : (i : ℕ) → Dec (i ≡ n) → i ≤ n → (at n).positions (at i).vertex ≡ point i
        here-at i (yes q) l = rw q A.here
        here-at i (no m) l = old-here i (omega arith)

        new-number : Numbered → (at n).fate ≡ 1 → (at n).vertex ≡ grown_before n
        new-number (inl (a, b, c)) e = b ∙ vertices-before
        new-number (inr (a, c)) e = absurd (omega arith)

        number_at : (i : ℕ) → Dec (i ≡ n) → i ≤ n → (at i).fate ≡ 1 → (at i).vertex ≡ grown_before i
        number_at i (yes q) l = rw q (new-number A.number)
        number_at i (no m) l = K.number i (let a = answered in omega arith)

    keeps-next : SeedKeeps (suc n) (seeded_by s (at n))
    keeps-next = go (at n).mesh.full refl
      where
        go : (b : Bool) → (at n).mesh.full ≡ b → SeedKeeps (suc n) (seeded_by s (at n))
        go true t = keeps-full t
        go false t = keeps-in t

  -- WHAT THE SEED KEEPS
  pub seed-keeps : (m : ℕ) → ((i : ℕ) → i < m → InRange (point i)) → (n : ℕ) → n ≤ m → SeedKeeps n (seed_after room L p point n)
  unfolding seed_after seed_point
  seed-keeps m range zero l = keeps-none
  seed-keeps m range (suc n) l = go s.ready s.growing.mesh.full refl refl (seed-keeps m range n (omega arith))
    where
      s : Seeding
      s = seed_after room L p point n

      go : (a b : Bool) → s.ready ≡ a → s.growing.mesh.full ≡ b → SeedKeeps n s → SeedKeeps (suc n) (seed_point room s (point n))
      go true b r f K = rw r (keeps-ended (rw r refl) K)
      go false true r f K = rw (r, f) (keeps-ended (rw (r, f) refl) K)
      go false false r f K = rw (r, f) (keeps-next n K (range n (omega arith)) r f)
