-- The decision whether the boundary that a step would leave has a sound ring is local: `is_fit` decides it from the
-- chain alone. On links and angles, without a mesh. Assumes nothing.
use Rattle.std.specs.Prelude.{◌≡◌, ◌&&◌, List, [], ◌∷◌, map, ℕ, suc, ◌+◌, ◌<◌, T}
use Rattle.std.proofs.Common.{sym, ◌∙◌, ap₂, arith, le→leb}
use Rattle.std.proofs.Math.Path.{ap}
use Rattle.std.proofs.Math.Bool.{not}
use Rattle.std.proofs.Math.Dec.{leb, leb→le, T_not, not_T}
use Rattle.segment.specs.Arc.{holds, wide}
use Rattle.sums.specs.Bit.{bit, test-ext}
use Rattle.sums.proofs.BitLaws.{bit-no, bit-0, and_left, and_right, and_both}
use Rattle.sums.specs.Iterate.{iter}
use Rattle.sums.specs.Tally.{tally, walk}
use Rattle.sums.proofs.TallyLaws.{tally-add, walk-ext}
use Rattle.ring.specs.Ring.{proper, head_or, count_before, count_around, at_ends, is_sound}
use Rattle.ring.proofs.SegmentsLaws.{proper→, proper←}
use Rattle.ring.specs.Sound.{Sound}
use Rattle.ring.specs.Splice.{Spliced, Fit, Replaced}
use Rattle.ring.proofs.SpliceLaws.{fit-counts, counts-fit}
use Rattle.ring.proofs.Merged.{angles-head, angles-count, sound→, sound←}
use Rattle.ring.proofs.Boundary.{map-walk}
use Rattle.ring.specs.Chain.{is_fit}

-- ---- the local test as a fact
module _ (N : ℕ) (f α : ℕ → ℕ) (s m n q r : ℕ) where
  chain : ℕ
  chain = tally (at_ends proper f α) (walk m f s)

  size : ℕ
  size = tally (at_ends proper f α) (walk (m + n) f s)

  pub fit→ : T (is_fit N (α s) q (α r) (tally (at_ends proper f α) (walk m f s))
      (tally (at_ends proper f α) (walk (m + n) f s))) → Fit N f α s m n q r
  unfolding is_fit chain size
  fit→ t =
      let a = proper q (α r) in
      let b = not (wide N (α s) q) in let c = not (wide N q (α r)) in let d = leb (3 + chain) (size + bit (proper (α s) q) + 1) in
      record {
        off-right = proper→ q (α r) (and_left a b (and_left (a && b) c (and_left (a && b && c) d t)));
        left-gap =
            bit-no (wide N (α s) q) (λ w. T_not (wide N (α s) q) (and_right a b (and_left (a && b) c (and_left (a && b && c) d t))) w);
        right-gap = bit-no (wide N q (α r)) (λ w. T_not (wide N q (α r)) (and_right (a && b) c (and_left (a && b && c) d t)) w);
        size = leb→le (3 + chain) (size + bit (proper (α s) q) + 1) (and_right (a && b && c) d t);
      }

  pub fit← : Fit N f α s m n q r
      → T (is_fit N (α s) q (α r) (tally (at_ends proper f α) (walk m f s))
      (tally (at_ends proper f α) (walk (m + n) f s)))
  unfolding is_fit chain size
  fit← F =
      let a = proper q (α r) in
      let b = not (wide N (α s) q) in let c = not (wide N q (α r)) in let d = leb (3 + chain) (size + bit (proper (α s) q) + 1) in
      and_both (a && b && c) d (and_both (a && b) c (and_both a b
      (proper← q (α r) F.off-right)
      (not_T (wide N (α s) q) (bit-0 (wide N (α s) q) F.left-gap)))
      (not_T (wide N q (α r)) (bit-0 (wide N q (α r)) F.right-gap)))
      (le→leb (3 + chain) (size + bit (proper (α s) q) + 1) F.size)

-- ---- the angles after, counted
module _ (f α : ℕ → ℕ) (s m n q r : ℕ) (right : iter m f s ≡ r) (round : iter n f r ≡ s) where
  pub after-counts : Replaced (λ φ. count_around φ (α s ∷ q ∷ map α (walk n f r))) f α s m n q r
  unfolding count_around count_before
  after-counts = record {
    right = right;
    round = round;
    local = λ φ.
        let a = tally-add (at_ends φ f α) f m n s in
        let b = ap (λ (x : ℕ). tally (at_ends φ f α) (walk n f x)) right in
        let c = angles-count f α φ n r in
        let d = ap (λ (x : ℕ). count_before φ (map α (walk n f r)) (α x)) round in
        let e = ap (λ (x : ℕ). bit (φ q x)) (ap (λ (x : ℕ). head_or (map α (walk n f r)) (α x)) (sym round) ∙ angles-head f α n r) in
        omega arith;
  }

  -- the decision is local
  pub sound-after : {N : ℕ} → Sound N f α s (m + n) → (k : ℕ) → k < m → T (at_ends (holds q) f α (iter k f s))
      → is_sound N (α s ∷ q ∷ map α (walk n f r))
      ≡ is_fit N (α s) q (α r) (tally (at_ends proper f α) (walk m f s))
      (tally (at_ends proper f α) (walk (m + n) f s))
  sound-after {N} S k l t =
      let after = α s ∷ q ∷ map α (walk n f r) in
      test-ext (is_sound N after)
      (is_fit N (α s) q (α r) (tally (at_ends proper f α) (walk m f s)) (tally (at_ends proper f α) (walk (m + n) f s)))
      (λ u. fit← N f α s m n q r (counts-fit S after-counts k l t (sound→ N after u)))
      (λ u. sound← N after (fit-counts S after-counts k l t (fit→ N f α s m n q r u)))

-- the angles of the links after
pub spliced-angles : {f α f' α' : ℕ → ℕ} {s m n l p q r : ℕ} → Spliced f α f' α' s m n l p q r
    → map α' (walk (suc (suc n)) f' l) ≡ α s ∷ q ∷ map α (walk n f r)
unfolding walk
spliced-angles {f} {α} {f'} {α'} {s} {m} {n} {l} {p} {q} {r} P =
    ap₂ (λ (x : ℕ) (k : List ℕ). x ∷ k) P.at-l
    (ap₂ (λ (x : ℕ) (k : List ℕ). x ∷ k) (ap α' P.l-p ∙ P.at_p)
    (ap (λ (x : ℕ). map α' (walk n f' x)) (ap f' P.l-p ∙ P.p-r) ∙ ap (map α') (walk-ext f f' n r P.rest) ∙ map-walk α α' f n r P.at_rest))
