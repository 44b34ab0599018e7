-- Laws of specs/Build.antt.
use Rattle.std.specs.Prelude.{◌≡◌, Bool, true, false, cond}
use Rattle.std.proofs.Math.Path.{refl, sym, ap, subst}
use Rattle.std.proofs.Common.{◌∙◌, arith}
use Prim.Native.Nat.{ℕ, zero, suc, ◌*◌, ◌%◌, ◌<◌, ◌≤◌}
use Rattle.std.proofs.Math.Decide.{ℕ_discrete, dec_lt}
use Rattle.std.proofs.Math.Dec.{T}
use Rattle.segment.specs.Arc.{holds, wide}
use Rattle.ring.specs.Ring.{at_ends, proper}
use Rattle.ring.proofs.SegmentsLaws.{proper→}
use Rattle.ring.specs.Sound.{Sound}
use Rattle.ring.proofs.SoundLaws.{tile, tile-sole}
use Rattle.ring.specs.Buckets.{ceiling, within, Sized, NarrowSegment}
use Rattle.ring.proofs.BucketsLaws.{bucket-range}
use Rattle.ring.specs.Node.{NodeTable, nodes}
use Rattle.ring.proofs.NodeLaws.{Stands, match-of}
use Rattle.ring.specs.Insert.{Ring, Bucketed}
use Rattle.ring.proofs.InsertLaws.{all-proper}
use Rattle.sums.specs.Iterate.{iter}
use Rattle.sums.proofs.IterateLaws.{iter-last}
use Rattle.sums.specs.Tally.{tally, walk}
use Rattle.sums.proofs.TallyLaws.{counts, tally-before}
use Rattle.ring.specs.Build.{Built, Filling}

module _ {N : ℕ} {next α : ℕ → ℕ} {τ : NodeTable} {e h m : ℕ} (S : Sound N next α e h) (B : Built next α τ e h m) where
  -- the i-th node is i
  pub built-at : (i : ℕ) → i < m → iter i τ.right 0 ≡ i
  built-at zero l = refl
  built-at (suc i) l = iter-last i τ.right 0 ∙ ap τ.right (built-at i (omega arith)) ∙ B.step i l

  pub built : Ring N next α τ e h 0
  unfolding Stands
  built = record {
    sound = S;
    match =
        match-of next α τ h e 0
        (λ k l t. let c = built-at (nodes next α k e) (let b = tally-before (at_ends proper next α) next h e k l t in let z = B.size in omega arith) in (ap τ.edge c ∙ (B.at k l t).0, ap τ.angle c ∙ (B.at k l t).1));
    back = ap (λ (i : ℕ). iter i τ.right 0) B.size ∙ go m refl;
  }
    where
      go : (j : ℕ) → j ≡ m → iter j τ.right 0 ≡ 0
      go zero z = refl
      go (suc j) z = iter-last j τ.right 0 ∙ ap τ.right (built-at j (omega arith)) ∙ B.turn j z

module _ {N : ℕ} {right angle : ℕ → ℕ} {s m B w : ℕ} (S : Sound N right angle s m)
    (all : tally (at_ends proper right angle) (walk m right s) ≡ m)
    (low : (k : ℕ) → k < m → angle (iter k right s) ≤ N) (W : Sized N B w) where
  pub narrow-nodes : (k : ℕ) → k < m → NarrowSegment N (angle (iter k right s)) (angle (right (iter k right s)))
  narrow-nodes k l = record {
    a_in = low k l;
    b-in = subst (λ (x : ℕ). angle x ≤ N) (iter-last k right s) (low-next (dec_lt (suc k) m));
    apart = proper→ (angle (iter k right s)) (angle (right (iter k right s))) (all-proper (at_ends proper right angle) right m s all k l);
    narrow = λ t. (let a = counts (at_ends (wide N) right angle) right m s k l t in let b = S.gaps in omega arith);
  }
    where
      low-next : Dec (suc k < m) → angle (iter (suc k) right s) ≤ N
      low-next (yes u) = low (suc k) u
      low-next (no u) =
          let z : suc k ≡ m = omega arith in
          subst (λ (x : ℕ). angle x ≤ N) (sym (ap (λ (i : ℕ). iter i right s) z ∙ S.closed)) (low 0 (omega arith))

  pub range : (i k : ℕ) → i < B → k < m
      → at_ends (holds (i * w)) right angle (iter k right s)
      ≡ within i (ceiling w (angle (iter k right s)) % B) (ceiling w (angle (right (iter k right s))) % B)
  range i k l u = bucket-range W (narrow-nodes k u) i l

  pub filling-start : (bucket : ℕ → ℕ) → Filling right angle bucket B w s 0
  unfolding Filling
  filling-start bucket i l k u t = absurd (omega arith)

  pub filling_step : (bucket bucket' : ℕ → ℕ) (d : ℕ) → d < m
      → ((i : ℕ) → i < B → bucket' i ≡ cond
      (within i (ceiling w (angle (iter d right s)) % B) (ceiling w (angle (right (iter d right s))) % B))
      (iter d right s) (bucket i))
      → Filling right angle bucket B w s d → Filling right angle bucket' B w s (suc d)
  unfolding Filling
  filling_step bucket bucket' d dm st F i l k u t =
      st i l ∙ go (within i (ceiling w (angle (iter d right s)) % B) (ceiling w (angle (right (iter d right s))) % B)) refl (ℕ_discrete k d)
    where
      held : (j : ℕ) → j < m
          → T (within i (ceiling w (angle (iter j right s)) % B) (ceiling w (angle (right (iter j right s))) % B))
          → T (at_ends (holds (i * w)) right angle (iter j right s))
      held j y = subst T (sym (range i j l y))

      go : (b : Bool)
          → within i (ceiling w (angle (iter d right s)) % B) (ceiling w (angle (right (iter d right s))) % B) ≡ b
          → Dec (k ≡ d) → cond b (iter d right s) (bucket i) ≡ iter k right s
      go true z q =
          ap (λ (j : ℕ). iter j right s)
          (tile-sole S (i * w) d k dm (omega arith) (held d dm (subst T (sym z) tt)) (held k (omega arith) t))
      go false z (yes q) =
          absurd
          (subst T (ap (λ (j : ℕ). within i (ceiling w (angle (iter j right s)) % B) (ceiling w (angle (right (iter j right s))) % B)) q ∙ z) t)
      go false z (no q) = F i l k (omega arith) t

  pub filling-done : (bucket : ℕ → ℕ) → Filling right angle bucket B w s m → Bucketed right angle bucket B w s m
  unfolding Filling
  filling-done bucket F i l =
      let f = tile S (i * w) in
      let k = f.0 in
      let z = F i l k f.1.below (subst T (range i k l f.1.below) f.1.passes) in
      ((k, f.1.below, sym z), subst (λ (x : ℕ). T (at_ends (holds (i * w)) right angle x)) (sym z) f.1.passes)
