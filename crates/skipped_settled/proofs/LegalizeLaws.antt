-- Legalizing the edges across from a vertex of a mesh that is otherwise settled leaves it settled but for the edges at the vertex.
-- Assumes nothing.
use Rattle.std.specs.Prelude.{Bool, true, cond, ◌≡◌, ℕ, ◌+◌, ◌/◌, ◌<◌}
use Rattle.std.proofs.Math.Bool.{false}
use Rattle.std.proofs.lemmas.Bool.{false≢true}
use mathlib.Core.List.{List, [], ◌∷◌, ◌++◌}
use Rattle.std.proofs.Math.Path.{refl, subst}
use Rattle.std.proofs.Common.{sym, ◌∙◌, ap, arith}
use Rattle.corner.specs.Corner.{Extended}
use Rattle.legalize.specs.declared.Entry.TheVariants.{HalfEdge}
use Rattle.legalize.specs.Legalize.{Legalizing, entry_edge, pushed, legalize_turn, is_done, measure, legalize, legalize_edge}
use Rattle.legalize.specs.LegalizeLaws.{Ongoing, falls, legalize-ends, legalize-start}
use Rattle.legalize.specs.Turns.{turn-cases, going_on, ended}
use Rattle.math.specs.declared.Point.{Point}
use Rattle.mesh.specs.declared.Counts.{Counts}
use Rattle.skipped.specs.Insert.{legalize_one, legalize_each}
use Rattle.sums.proofs.UntilLaws.{Falls, until-keeps}
use Rattle.skipped_settled.specs.SettledBut.{SettledBut}
use Rattle.skipped_settled.proofs.TurnLawsFacts.{kept-settled, turn-settled}

-- ---- one call of `legalize_edge`, with the half-edges l still to come
module _ (room : ℕ) (C : Counts) (p : ℕ → Point) (v : ℕ) (l : List ℕ) where
  record Going (s : Legalizing) : Type 0 where
    ongoing : Ongoing room HalfEdge C p s
    settled : s.full ≡ false → SettledBut C s.links p v (s.pending ++ l)

  turn-keeps : (s : Legalizing) → Going s → is_done s ≡ false → Going (legalize_turn room HalfEdge p s)
  unfolding entry_edge pushed
  turn-keeps s i d = record {
    ongoing = (falls room HalfEdge C p).keeps s i.ongoing d;
    settled = going_on s d (λ x m q f.
        let S = subst (λ (k : List ℕ). SettledBut C s.links p v (k ++ l)) q (i.settled f) in
        turn-cases room HalfEdge p s q (λ t. t.full ≡ false → SettledBut C t.links p v (t.pending ++ l))
        (λ b _. kept-settled S b)
        (λ b _. turn-settled S b)
        (λ b o t. absurd (false≢true (sym t))));
  }

  turns : Falls is_done (legalize_turn room HalfEdge p) Going (measure C p)
  turns = record { keeps = turn-keeps; less = λ s i d. (falls room HalfEdge C p).less s i.ongoing d }

  pub edge-settled : (s : Legalizing) → Ongoing room HalfEdge C p s → s.full ≡ false → SettledBut C s.links p v (s.pending ++ l)
      → (legalize room HalfEdge C p s).full ≡ false → SettledBut C (legalize room HalfEdge C p s).links p v l
  unfolding legalize
  edge-settled s O f S q =
      let r = until-keeps is_done (legalize_turn room HalfEdge p) turns (measure C p s + 1) s (record { ongoing = O; settled = λ _. S }) in
      let e = ended (legalize room HalfEdge C p s) (legalize-ends room HalfEdge C p s O) q in
      subst (λ (k : List ℕ). SettledBut C (legalize room HalfEdge C p s).links p v (k ++ l)) e (r.settled q)

-- ---- one half-edge after another
module _ (room : ℕ) (p : ℕ → Point) (v : ℕ) where
  one-settled : (m : Extended) (e : ℕ) (l : List ℕ) → SettledBut m.counts m.links p v (e ∷ l)
      → (legalize_one room p m e).full ≡ false → SettledBut m.counts (legalize_one room p m e).links p v l
  unfolding legalize_one entry_edge
  one-settled m e l S q =
      edge-settled room m.counts p v l (record { links = m.links; pending = e ∷ []; flips = m.flips; full = false })
      (legalize-start S.good ((let k = S.across.0.used in omega arith), tt)) refl S q

  pub each-settled : (l : List ℕ) (m : Extended) → (m.full ≡ false → SettledBut m.counts m.links p v l)
      → (legalize_each room p m l).full ≡ false
      → SettledBut (legalize_each room p m l).counts (legalize_each room p m l).links p v []
  unfolding legalize_each legalize_one
  each-settled [] m S q = S q
  each-settled (e ∷ l) m S q =
      go (λ f. each-settled l (legalize_one room p m e) (λ k. one-settled m e l (S f) k)) m.full refl q
    where
      r : Extended
      r = legalize_each room p (legalize_one room p m e) l

      go : (m.full ≡ false → r.full ≡ false → SettledBut r.counts r.links p v []) → (b : Bool) → m.full ≡ b
          → (cond b m r).full ≡ false → SettledBut (cond b m r).counts (cond b m r).links p v []
      go rest true f q = absurd (false≢true (sym q ∙ f))
      go rest false f q = rest f q
