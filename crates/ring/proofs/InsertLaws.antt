-- Laws of specs/Insert.antt.
use Rattle.std.specs.Prelude.{◌≡◌, refl, ◌≢◌, ◌⊎◌, Bool, [], ℕ, zero, suc, ◌+◌, ◌*◌, ◌<◌, ◌≤◌, T}
use Rattle.std.proofs.Common.{sym, ◌∙◌, ap, subst, arith}
use Rattle.segment.specs.Arc.{holds, wide}
use Rattle.ring.specs.Ring.{at_ends, proper, wraps}
use Rattle.ring.proofs.SegmentsLaws.{holds-first, proper→, holds-proper, null-proper, null-wraps, null-wide, null-holds}
use Rattle.ring.specs.Sound.{Sound}
use Rattle.ring.proofs.SoundLaws.{sound-turn, tile-count, tile-sole}
use Rattle.ring.specs.Splice.{FitSplice}
use Rattle.ring.proofs.SpliceLaws.{local, splice-sound}
use Rattle.ring.specs.Node.{NodeTable, nodes, Match}
use Rattle.ring.proofs.NodeLaws.{match-split, match-join, begins-node, match-tally}
use Rattle.sums.specs.Bit.{bit}
use Rattle.sums.proofs.BitLaws.{bit-1, bit_le}
use Rattle.sums.specs.Iterate.{iter}
use Rattle.sums.proofs.IterateLaws.{iter-add}
use Rattle.sums.specs.Tally.{tally, walk}
use Rattle.sums.proofs.TallyLaws.{counts, tally-add, tally-most, tally-turn}
use Rattle.ring.specs.Insert.{Ring}

-- ---- the nodes are a sound ring too, of as many edges as there are nodes
module _ {N : ℕ} {next α : ℕ → ℕ} {τ : NodeTable} {e h s : ℕ} (R : Ring N next α τ e h s) where
  pub ring-begins : α e ≡ τ.angle s
  ring-begins = begins-node next α τ h e s R.match (let t = R.sound.three in omega arith)

  ring-ends : α (iter h next e) ≡ τ.angle (iter (nodes next α h e) τ.right s)
  ring-ends = ap α R.sound.closed ∙ ring-begins ∙ ap τ.angle (sym R.back)

  pub ring-tally : (φ : ℕ → ℕ → Bool) → ((a : ℕ) → bit (φ a a) ≡ 0)
      → tally (at_ends φ next α) (walk h next e) ≡ tally (at_ends φ τ.right τ.angle) (walk (nodes next α h e) τ.right s)
  ring-tally φ null = match-tally next α τ φ null h e s R.match ring-ends

  pub ring-proper : tally (at_ends proper τ.right τ.angle) (walk (nodes next α h e) τ.right s) ≡ nodes next α h e
  ring-proper = sym (ring-tally proper null-proper)

  pub ring-sound : Sound N τ.right τ.angle s (nodes next α h e)
  ring-sound = record {
    closed = R.back;
    three = let a = ring-proper in let b = R.sound.three in omega arith;
    once = sym (ring-tally wraps null-wraps) ∙ R.sound.once;
    gaps = sym (ring-tally (wide N) (null-wide N)) ∙ R.sound.gaps;
  }

-- ---- angles name nodes: two nodes with one angle are one
pub all-proper : (b : ℕ → Bool) (f : ℕ → ℕ) (n s : ℕ) → tally b (walk n f s) ≡ n → (k : ℕ) → k < n → T (b (iter k f s))
unfolding walk tally
all-proper b f zero s h k l = absurd (omega arith)
all-proper b f (suc n) s h zero l = bit-1 (b s) (let a = tally-most b f n (f s) in omega arith)
all-proper b f (suc n) s h (suc k) l =
    all-proper b f n (f s) (let a = tally-most b f n (f s) in let c = bit_le (b s) in omega arith) k (omega arith)

pub node-sole : {N : ℕ} {f α : ℕ → ℕ} {s n : ℕ} → Sound N f α s n → tally (at_ends proper f α) (walk n f s) ≡ n
    → (j k : ℕ) → j < n → k < n → α (iter j f s) ≡ α (iter k f s) → j ≡ k
node-sole {N} {f} {α} {s} {n} S A j k u w z =
    tile-sole S (from j) j k u w (own j u) (subst (λ (x : ℕ). T (holds x (from k) (to k))) (sym z) (own k w))
  where
    from : ℕ → ℕ
    from i = α (iter i f s)

    to : ℕ → ℕ
    to i = α (f (iter i f s))

    own : (i : ℕ) → i < n → T (holds (from i) (from i) (to i))
    own i l = holds-first (from i) (to i) (proper→ (from i) (to i) (all-proper (at_ends proper f α) f n s A i l))

-- two numbers of moves that lead from s to nodes with one angle are equal
pub ring-sole : {N : ℕ} {next α : ℕ → ℕ} {τ : NodeTable} {e h s : ℕ} → Ring N next α τ e h s
    → (i j : ℕ) → i < nodes next α h e → j < nodes next α h e
    → τ.angle (iter i τ.right s) ≡ τ.angle (iter j τ.right s) → i ≡ j
ring-sole R = node-sole (ring-sound R) (ring-proper R)

-- ---- the same ring from the next edge on
add_comm : (a b : ℕ) → a + b ≡ b + a
add_comm a b = omega arith

pub ring-turn : {N : ℕ} {next α : ℕ → ℕ} {τ : NodeTable} {e h s : ℕ} → Ring N next α τ e h s
    → Ring N next α τ (next e) h (iter (bit (at_ends proper next α e)) τ.right s)
unfolding Match walk tally
ring-turn {h = zero} R = absurd (let t = R.sound.three in omega arith)
ring-turn {N} {next} {α} {τ} {e} {h = suc h} {s} R = record {
  sound = sound-turn R.sound;
  match = subst (λ (i : ℕ). Match next α τ i (next e) s₁) (one h) (match-join next α τ h 1 (next e) s₁ R.match.1 last);
  back =
      ap (λ (i : ℕ). iter i τ.right s₁) (tally-turn (at_ends proper next α) next (suc h) e R.sound.closed)
      ∙ sym (iter-add b k τ.right s)
      ∙ ap (λ (i : ℕ). iter i τ.right s) (add_comm b k)
      ∙ iter-add k b τ.right s
      ∙ ap (iter b τ.right) R.back;
}
  where
    b : ℕ
    b = bit (at_ends proper next α e)

    k : ℕ
    k = nodes next α (suc h) e

    s₁ : ℕ
    s₁ = iter b τ.right s

    one : (h : ℕ) → h + 1 ≡ suc h
    one h = omega arith

    around : iter (nodes next α h (next e)) τ.right s₁ ≡ s
    around = sym (iter-add b (nodes next α h (next e)) τ.right s) ∙ R.back

    -- the edge e comes last, and its node
    last : Match next α τ 1 (iter h next (next e)) (iter (nodes next α h (next e)) τ.right s₁)
    last = rw (R.sound.closed, around) (R.match.0, tt)

-- ---- before any store: of a ring's edges the m from e on are to give way. `chain` nodes stand for them, from s up to
-- the node t, and `rest` for the others
module _ {N : ℕ} {next α next' α' : ℕ → ℕ} {τ : NodeTable} {e m n s l p q r t : ℕ}
    (R : Ring N next α τ e (m + n) s) (P : FitSplice N next α next' α' e m n l p q r)
    (right_is : iter (nodes next α m e) τ.right s ≡ t) where
  abbrev chain : ℕ
  chain = nodes next α m e

  abbrev rest : ℕ
  rest = nodes next α n r

  after-sound : Sound N next' α' l (suc (suc n))
  after-sound = splice-sound R.sound P

  pub size-old : nodes next α (m + n) e ≡ nodes next α m e + nodes next α n r
  size-old = tally-add (at_ends proper next α) next m n e ∙ ap (λ (x : ℕ). chain + nodes next α n x) P.spliced.right

  -- both have a node
  pub left-some : 0 < nodes next α m e
  left-some =
      let d = iter P.place next e in
      counts (at_ends proper next α) next m e P.place P.place_in (holds-proper q (α d) (α (next d)) P.place-holds)

  pub rest_some : 0 < nodes next α n r
  rest_some =
      let a = local P.spliced proper in let b = after-sound.three in let f = size-old in
      let c = bit_le (proper (α e) q) in let d = bit_le (proper q (α r)) in
      omega arith

  parts : Match next α τ m e s × Match next α τ n (iter m next e) (iter chain τ.right s)
  parts = match-split next α τ m n e s R.match

  pub rest-match : Match next α τ n r t
  rest-match = rw (← P.spliced.right, ← right_is) parts.1

  -- THE TWO NODES ARE KNOWN BY THEIR ANGLES
  pub left-angle : τ.angle s ≡ α e
  left-angle = sym (ring-begins R)

  pub right-angle : τ.angle t ≡ α r
  right-angle = sym (begins-node next α τ n r t rest-match rest_some)

  -- no node between has the right angle, so that a walk to the right from s that stops there stops at t, after as many
  -- moves as the chain has nodes
  pub right-first : (j : ℕ) → j < nodes next α m e → τ.angle (iter j τ.right s) ≢ α r
  right-first j u z =
      let a = size-old in let b = rest_some in
      let i : j ≡ chain = ring-sole R j chain (omega arith) (omega arith) (z ∙ sym right-angle ∙ ap τ.angle (sym right_is)) in
      omega arith

  pub rest-round : iter (nodes next α n r) τ.right t ≡ s
  rest-round =
      ap (iter rest τ.right) (sym right_is) ∙ sym (iter-add chain rest τ.right s)
      ∙ ap (λ (i : ℕ). iter i τ.right s) (sym size-old) ∙ R.back

  -- the chain and the two new edges hold the same places
  same-places : (x : ℕ) → tally (at_ends (holds x) next α) (walk m next e) ≡ bit (holds x (α e) q) + bit (holds x q (α r))
  same-places x =
      let a = local P.spliced (holds x) in let b = tile-count R.sound x in let c = tile-count after-sound x in omega arith

  pub chain-node : (x j : ℕ) → j < nodes next α m e → T (at_ends (holds x) τ.right τ.angle (iter j τ.right s))
      → 0 < bit (holds x (α e) q) + bit (holds x q (α r))
  chain-node x j u h =
      let a = match-tally next α τ (holds x) (null-holds x) m e s parts.0
      (ap α P.spliced.right ∙ sym right-angle ∙ ap τ.angle (sym right_is)) in
      let b = counts (at_ends (holds x) τ.right τ.angle) τ.right chain s j u h in
      let c = same-places x in
      omega arith
