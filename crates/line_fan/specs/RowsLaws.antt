-- For the callers: how they come to what `insert_off_line` asks, and that after it the rows hold a good mesh. Assumes nothing.
use Rattle.std.specs.Prelude.{List, ◌≡◌, ℕ, suc, ◌+◌, ◌<◌, ◌≤◌, ℤ, pos, length, ◌<ℤ◌}
use Rattle.std.proofs.Common.{sym, ◌∙◌, ap, subst}
use Rattle.std.proofs.Math.Path.{subst⁻¹}
use native.Mathlib.Omega.{arith}
use Rattle.circle_test.specs.GoodRows.{GoodRows}
use Rattle.corner.specs.declared.Extension.{Extension}
use Rattle.corner.specs.CornerRows.{extended_of}
use Rattle.dcel.specs.Rows.{links_of, position_of}
use Rattle.line.specs.Line.{Line}
use Rattle.line.specs.LineLaws.{Facing}
use Rattle.line.proofs.LineLawsFacts.{line-facing, line-off}
use Rattle.line.specs.Locate.{Off}
use Rattle.line.proofs.ChainRules.{chain-rules}
use Rattle.line.specs.OffLine.{OffLine}
use Rattle.math.specs.declared.Point.{Point}
use Rattle.math.specs.Determinant.{orient2d, InRange}
use Rattle.mesh.specs.declared.Counts.{Counts}
use Rattle.mesh.specs.Mesh.{Links, to}
use Rattle.skipped.specs.Insert.{insert_outside}
use Rattle.sums.proofs.HalfLaws.{rev-below}
use Rattle.sums.specs.Put.{put}
use Rattle.sums.proofs.PutLaws.{put_same, put_other, put_id}
use Rattle.line_fan.specs.FanRows.{FanRoom, OffLineReady}

-- ---- before: the point's position is stored after those of a line
pub off-line-ready : {C : Counts} (q₀ : List ℤ) {o h a : List ℕ} → Line C (links_of o h a) (position_of q₀) → {v : Point} → InRange v
    → {e : ℕ} → Off C (links_of o h a) (position_of q₀) v e
    → {q : List ℤ} → position_of q ≡ put (position_of q₀) C.vertices v
    → C.vertices + 1 ≤ length o → FanRoom (C.vertices + 1) q h a → OffLineReady C q o h a v e
off-line-ready {C} q₀ X {v} i f x k s = record {
  places = position_of q₀;
  line = X;
  same = λ u m. ap (λ (f : ℕ → Point). f u) x ∙ put_other (position_of q₀) C.vertices v u (λ z. omega arith);
  here = ap (λ (f : ℕ → Point). f C.vertices) x ∙ put_same (position_of q₀) C.vertices v;
  range = i;
  off = f;
  outs = k;
  sized = s;
}

-- a line is one wherever its vertices have the same positions
pub line-again : {C : Counts} {L : Links} {p p' : ℕ → Point} → ((u : ℕ) → u < C.vertices → p' u ≡ p u) → Line C L p → Line C L p'
line-again s X =
    let K = X.chain in
    record {
      at = X.at;
      r = X.r;
      chain = K;
      rising = λ {i} l. rw (s (X.at i) (K.placed {i = i} (omega arith)), s (X.at (suc i)) (K.placed {i = suc i} l)) (X.rising l);
      flat = λ {u} {v} {w} a b c. rw (s u a, s v b, s w c) (X.flat a b c);
      range = λ {v} l. rw (s v l) (X.range l);
    }

module _ {C : Counts} {q : List ℤ} {o h a : List ℕ} {v : Point} {e : ℕ} (R : OffLineReady C q o h a v e) where
  abbrev L : Links
  L = links_of o h a

  abbrev p : ℕ → Point
  p = position_of q

  -- at the positions of the row
  line-now : Line C L p
  line-now = line-again R.same R.line

  left-now : pos 0 <ℤ orient2d (p (L.origin e)) (p (to L e)) v
  left-now =
      let W = (chain-rules R.line.chain).ranges in
      let u = R.off.used in
      rw (R.same (L.origin e) (W.origin< u), R.same (to L e) (W.origin< (rev-below C.edges u))) R.off.left

  put-now : put p C.vertices v ≡ p
  put-now = ap (put p C.vertices) (sym R.here) ∙ put_id p C.vertices

  pub facing : Facing C L p e
  facing = subst (λ (f : ℕ → Point). Facing C L f e) put-now (line-facing line-now R.range R.off.used left-now)

  -- ---- after: a good mesh, settled and without a left corner, and no flip
  module _ (o' h' a' : List ℕ) (g : Extension) (x : (room : ℕ) → extended_of o' h' a' g ≡ insert_outside room p C L v e) where
    pub off-line-rows : OffLine C p (extended_of o' h' a' g)
    off-line-rows = subst⁻¹ (OffLine C p) (x 0) (subst (λ (f : ℕ → Point). OffLine C f (insert_outside 0 f C L v e)) put-now
        (line-off line-now R.range 0 R.off.used left-now))

    pub good-after : length o' ≡ length o → length h' ≡ length h → length a' ≡ length a → GoodRows g.counts q o' h' a'
    unfolding extended_of
    good-after i j k =
        let X = off-line-rows in
        let n = X.vertices in let m = X.edges in let f = X.counted in
        let z = R.line.chain.vertices in let s = R.sized in let b = R.outs in
        record {
          room = record { outs = omega arith; halves = omega arith; faces = omega arith; small = omega arith };
          positions = omega arith;
          good = X.good;
        }
