-- The loop of `search_from`: to go on from here with the turns that are left is to go on from the start. Assumes nothing.
use Rattle.std.specs.Prelude.{List, ◌≡◌, refl, ℤ}
use Rattle.std.proofs.Math.Path.{sym, ap}
use Rattle.std.proofs.Common.{◌∙◌, subst}
use Prim.Native.Nat.{ℕ, suc, ◌+◌, ◌-◌, ◌*◌, ◌<◌, ◌≤◌}
use native.Mathlib.Omega.{arith}
use Rattle.dcel.specs.Rows.{links_of, position_of}
use Rattle.location.specs.declared.PositionInTriangulation.{PositionInTriangulation}
use Rattle.location.specs.declared.SearchState.{SearchState}
use Rattle.location.specs.declared.SearchState.TheVariants.{Found, Onward}
use Rattle.location.proofs.PlaceFacts.{Sound}
use Rattle.location.specs.Search.{search_turn, ended, advance, search_from}
use Rattle.location.proofs.SearchLaws.{turn-sound}
use Rattle.math.specs.declared.Point.{Point}
use Rattle.mesh.specs.declared.Counts.{Counts}
use Rattle.sums.specs.Until.{until}
use Rattle.sums.proofs.UntilLaws.{until-done, until-next}
use Rattle.search.specs.SearchRows.{TurnReady}

-- k turns of m have led from d to e
pub record Searching (q : List ℤ) (h : List ℕ) (point : Point) (d m e k : ℕ) : Type 0 where
  pub ready : TurnReady q h point e
  pub same : (o a : List ℕ) → until ended (advance (links_of o h a) (position_of q) point) (m - k) (Onward e)
      ≡ until ended (advance (links_of o h a) (position_of q) point) m (Onward d)

pub searching-start : {q : List ℤ} {h : List ℕ} {point : Point} {e m : ℕ} → TurnReady q h point e → Searching q h point e m e 0
searching-start {q} {h} {point} {e} {m} R = record { ready = R; same = λ o a. let z : m - 0 ≡ m = omega arith in ap (λ (i : ℕ). until ended (advance (links_of o h a) (position_of q) point) i (Onward e)) z }

module _ {q : List ℤ} {h : List ℕ} {point : Point} {d m e k : ℕ} (K : Searching q h point d m e k) where
  module _ (l : k < m) {s : SearchState} (t : (o a : List ℕ) → s ≡ search_turn (links_of o h a) (position_of q) point e) where
    turned : (o a : List ℕ) → until ended (advance (links_of o h a) (position_of q) point) (m - (k + 1)) s
        ≡ until ended (advance (links_of o h a) (position_of q) point) m (Onward d)
    unfolding ended advance
    turned o a =
        let f = advance (links_of o h a) (position_of q) point in
        let z : suc (m - (k + 1)) ≡ m - k = omega arith in
        ap (until ended f (m - (k + 1))) (t o a) ∙ sym (until-next ended f (m - (k + 1)) (Onward e) refl)
        ∙ ap (λ (i : ℕ). until ended f i (Onward e)) z ∙ K.same o a

    pub searching-found : {x : PositionInTriangulation} → s ≡ Found x → (C : Counts) → m ≡ 2 * C.edges → (o a : List ℕ)
        → Found x ≡ search_from C (links_of o h a) (position_of q) point d
    unfolding search_from ended
    searching-found {x} i C j o a =
        let f = advance (links_of o h a) (position_of q) point in
        sym (until-done ended f (m - (k + 1)) (Found x) refl) ∙ ap (until ended f (m - (k + 1))) (sym i) ∙ turned o a
        ∙ ap (λ (i : ℕ). until ended f i (Onward d)) j

    pub searching-on : {c : ℕ} → s ≡ Onward c → Searching q h point d m c (k + 1)
    searching-on {c} i = record {
      ready = record { counts = R.counts; outs = R.outs; faces = R.faces; ready = R.ready; used = used };
      same = λ o a. ap (until ended (advance (links_of o h a) (position_of q) point) (m - (k + 1))) (sym i) ∙ turned o a;
    }
      where
        R : TurnReady q h point e
        R = K.ready

        used : c < 2 * K.ready.counts.edges
        used = subst (Sound K.ready.counts (links_of K.ready.outs h K.ready.faces) (position_of q) point)
            (sym (sym i ∙ t K.ready.outs K.ready.faces)) (turn-sound K.ready.ready.rows.good.wf (position_of q) point K.ready.used)

  pub searching-end : m ≤ k → (C : Counts) → m ≡ 2 * C.edges → (o a : List ℕ) → Onward e ≡ search_from C (links_of o h a) (position_of q) point d
  unfolding search_from until
  searching-end l C j o a =
      let z : m - k ≡ 0 = omega arith in
      let f = advance (links_of o h a) (position_of q) point in
      ap (λ (i : ℕ). until ended f i (Onward e)) (sym z) ∙ K.same o a ∙ ap (λ (i : ℕ). until ended f i (Onward d)) j
