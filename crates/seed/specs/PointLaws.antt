-- One point of the seed on the rows: what its insertion and the test after it ask, and what they leave. Assumes nothing.
use Rattle.std.specs.Prelude.{Bool, List, ◌⊎◌, ◌≡◌, ℕ, zero, suc, ◌+◌, ◌<◌, ◌≤◌, ℤ, length}
use Rattle.std.proofs.Math.Bool.{true, false}
use Rattle.std.proofs.Common.{inl, inr, sym, ◌∙◌}
use Rattle.std.proofs.Math.Path.{refl, ap, subst, fun_ext}
use Rattle.std.proofs.Math.Numerals.{add-one}
use native.Mathlib.Omega.{arith}
use Rattle.answers.specs.AnswerRows.{words_of, with_words}
use Rattle.bulk_load.specs.Seed.{seeded_by, grow_word}
use Rattle.corner.specs.CornerRows.{extended_of}
use Rattle.dcel.specs.Rows.{links_of, position_of, row_of}
use Rattle.grow.specs.declared.Grown.{Grown}
use Rattle.grow.specs.GrowRows.{growing_at, growing_of, GrowReady}
use Rattle.hull_center.specs.HullCenter.{is_ready}
use Rattle.hull_center_rows.specs.CenterRows.{CenterReady}
use Rattle.line.specs.Grow.{Growing, grow_in_mesh, grow_on}
use Rattle.line.specs.GrowLaws.{Phase, none, one, line, mesh}
use Rattle.line.proofs.GrowLawsFacts.{grow-at, grow-keeps}
use Rattle.math.specs.declared.Point.{Point}
use Rattle.mesh.specs.declared.Counts.{Counts}
use Rattle.mesh.proofs.CountsLaws.{count-edges, count-faces}
use Rattle.mesh.specs.Good.{Good}
use Rattle.seed.specs.SeedLeaves.{state_of, state_in, seeding_at, grown_at, PointReady, PointLeaves}

-- a point sees the mesh alone
pub grow-same : (room : ℕ) (g : Growing) (q : Point)
    → grow_on room g q ≡ grow_on room (growing_at g.mesh.counts g.mesh.links g.positions) q
unfolding grow_on grow_in_mesh
grow-same room g q = refl

pub phase-at : {g : Growing} → Phase g → g.mesh.full ≡ false → Phase (growing_at g.mesh.counts g.mesh.links g.positions)
phase-at (none a b) f = none a b
phase-at (one a r) f = one a r
phase-at (line X) f = line X
phase-at (mesh G N k) f = mesh G (λ _. N f) k

-- the words that are stored
words_are : (g : Growing) (a b c d : ℕ) → a ≡ g.fate → b ≡ g.vertex → c ≡ g.mesh.faces → d ≡ g.mesh.flips → words_of a b c d ≡ grow_word g
unfolding words_of grow_word
words_are g a b c d e f h i = fun_ext (λ k. go k)
  where
    go : (k : ℕ) → words_of a b c d k ≡ grow_word g k
    go zero = e
    go (suc zero) = f
    go (suc (suc zero)) = h
    go (suc (suc (suc k))) = i

module _ {C : Counts} {q : List ℤ} {o h a row : List ℕ} {w : List ℕ} {points : List ℤ} {i : ℕ} (R : PointReady C q o h a row w points i) where
  abbrev room : ℕ
  room = length row

  abbrev G : Growing
  G = grown_at room C q o h a points i

  abbrev before : Growing
  before = growing_at C (links_of o h a) (position_of q)

  -- what `grow_on` asks of the point that was read
  pub point-ready : {v : Point} → v ≡ position_of points i → GrowReady C q o h a row v
  point-ready e = rw e R.ready

  phase-after : Phase G
  phase-after = grow-keeps room before (position_of points i) R.ready.range refl R.ready.phase

  one_more : G.mesh.counts.vertices ≤ C.vertices + 1
  one_more = go (grow-at room before (position_of points i) R.ready.range R.ready.phase).number
    where
      go : ((G.fate ≡ 1) × (G.vertex ≡ C.vertices) × (G.mesh.counts.vertices ≡ C.vertices + 1))
          ⊎ ((G.fate ≡ 9) × (G.mesh.counts.vertices ≡ C.vertices)) → G.mesh.counts.vertices ≤ C.vertices + 1
      go (inl (x, y, z)) = omega arith
      go (inr (x, z)) = omega arith

  good-after : 1 < G.mesh.counts.faces → Good G.mesh.counts G.mesh.links G.positions
  good-after k = go phase-after
    where
      go : Phase G → Good G.mesh.counts G.mesh.links G.positions
      go (none x y) = absurd (omega arith)
      go (one x r) = absurd (let c = ap (λ (C : Counts). C.faces) x in omega arith)
      go (line X) = absurd (let c = X.chain.faces in omega arith)
      go (mesh H N u) = H

  -- ---- after the insertion
  module _ {v : Point} (at : v ≡ position_of points i) (q' : List ℤ) (o' h' a' : List ℕ) (g : Grown)
      (E : growing_of q' o' h' a' g ≡ grow_on (length row) (growing_at C (links_of o h a) (position_of q)) v) where
    is : growing_of q' o' h' a' g ≡ G
    is = E ∙ ap (grow_on room before) at

    -- what the test of the start asks
    pub center-ready : length q' ≡ length q → length o' ≡ length o → length h' ≡ length h → length a' ≡ length a
        → CenterReady g.added.counts q' h' a'
    unfolding extended_of
    center-ready x y z u k =
        let H = subst (λ (m : Growing). Good m.mesh.counts m.mesh.links m.positions) (sym is)
        (good-after (subst (λ (m : Growing). 1 < m.mesh.counts.faces) is k)) in
        let n = subst (λ (m : Growing). m.mesh.counts.vertices ≤ C.vertices + 1) (sym is) one_more in
        let s = R.ready.sized in
        let c = count-edges H.wf in let d = count-faces H.wf in
        let e₁ = s.halves in let e₂ = s.faces in let e₃ = s.small in let e₄ = R.ready.outs in let e₅ = R.ready.positions in
        record {
          outs = o';
          rows = record {
            room = record { outs = omega arith; halves = omega arith; faces = omega arith; small = omega arith };
            positions = omega arith;
            good = H;
          };
        }

    -- refused a flip
    pub point-full : {w' : List ℕ} → g.added.full ≡ true → w' ≡ w
        → PointLeaves C q o h a (length row) w points i q' o' h' a' w' (record { counts = g.added.counts; answered = i; ready = false; full = true })
    unfolding extended_of
    point-full f s = record {
      is = subst (λ (m : Growing). state_in q' o' h' a' (record { counts = g.added.counts; answered = i; ready = false; full = true })
          ≡ state_of (seeded_by (seeding_at C q o h a i) m)) is (rw f refl);
      answers-are = ap row_of s;
    }

    -- not refused: its answer is stored, and the start tested
    pub point-in : {w' : List ℕ} (ready : Bool) → g.added.full ≡ false
        → row_of w' ≡ with_words (row_of w) i (words_of g.fate g.vertex g.added.faces g.added.flips)
        → ready ≡ is_ready g.added.counts (links_of o' h' a') (position_of q')
        → PointLeaves C q o h a (length row) w points i q' o' h' a' w' (record { counts = g.added.counts; answered = i + 1; ready = ready; full = false })
    unfolding extended_of
    point-in {w'} ready f s t = record {
      is = subst (λ (m : Growing). state_in q' o' h' a' (record { counts = g.added.counts; answered = i + 1; ready = ready; full = false })
          ≡ state_of (seeded_by (seeding_at C q o h a i) m)) is (rw (f, ← t, add-one i) refl);
      answers-are = s ∙ ap (with_words (row_of w) i)
          (subst (λ (m : Growing). words_of g.fate g.vertex g.added.faces g.added.flips ≡ grow_word m) is
          (words_are (growing_of q' o' h' a' g) _ _ _ _ refl refl refl refl));
    }
