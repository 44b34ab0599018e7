-- The invariant of the loop, to go on from here is to go on from the start, and what each step of it needs. Over plain rows, so that the needs of the code are
-- single applications. Assumes nothing.
use mathlib.Core.Bool.{Bool, true, false}
use mathlib.Core.List.{List}
use mathlib.Core.Path.{◌≡◌, refl, sym, ◌∙◌, ap, subst}
use Prim.Native.Nat.{ℕ, zero, suc, ◌+◌, ◌<◌, ◌≤◌}
use native.Mathlib.Omega.{arith}
use lib.IntN.{ℤ}
use lib.ListN.{length}
use Rattle.conflicts.specs.FlipsWithin.{FlipsWithin}
use Rattle.mesh.specs.declared.Counts.{Counts}
use Rattle.dcel.specs.Rows.{position_of}
use Rattle.circle_test.specs.GoodRows.{good-again}
use Rattle.pending.specs.declared.PendingList.{PendingList}
use Rattle.pending.specs.Pending.{pending_of}
use Rattle.pending.proofs.PendingLaws.{pending-last}
use Rattle.sums.proofs.UntilLaws.{Going, going_start, going-turn, going_less, going_end}
use Rattle.legalize.specs.declared.Entry.{Entry}
use Rattle.legalize.specs.Legalize.{Legalizing, legalize_turn, is_done, is_empty, measure, legalize}
use Rattle.legalize.specs.LegalizeLaws.{Ongoing, falls, turn-bound, legalize-start}
use Rattle.legalize.specs.LegalizeRows.{TurnReady, state_of, TurnLeaves, Leaves}

pub record SameLengths (o h a row o' h' a' row' : List ℕ) : Type 0 where
  pub outs : length o' ≡ length o
  pub halves : length h' ≡ length h
  pub faces : length a' ≡ length a
  pub pending : length row' ≡ length row

same_refl : {o h a row : List ℕ} → SameLengths o h a row o h a row
same_refl = record { outs = refl; halves = refl; faces = refl; pending = refl }

same-trans : {o h a row o' h' a' row' o'' h'' a'' row'' : List ℕ} → SameLengths o h a row o' h' a' row' → SameLengths o' h' a' row' o'' h'' a'' row'' → SameLengths o h a row o'' h'' a'' row''
same-trans x y = record { outs = y.outs ∙ x.outs; halves = y.halves ∙ x.halves; faces = y.faces ∙ x.faces; pending = y.pending ∙ x.pending }

-- the loop began at s₀, in a pending row of the length `room`
abbrev pub Loops : ℕ → Entry → Counts → List ℤ → Legalizing → Legalizing → Type 0
Loops room k C q s₀ s = Going is_done (legalize_turn room k (position_of q)) (Ongoing room k C (position_of q)) (measure C (position_of q)) (measure C (position_of q) s₀ + 1) s₀ s

pub record LoopAt (k : Entry) (C : Counts) (q : List ℤ) (o₀ h₀ a₀ row₀ : List ℕ) (w₀ : PendingList) (c₀ : ℕ)
    (o h a row : List ℕ) (w : PendingList) (c : ℕ) : Type 0 where
  pub ready : TurnReady k C q o h a row w c
  pub going : Loops (length row₀) k C q (state_of o₀ h₀ a₀ row₀ w₀.length c₀) (state_of o h a row w.length c)
  pub lengths : SameLengths o₀ h₀ a₀ row₀ o h a row

pub loop-starts : {k : Entry} {C : Counts} {q : List ℤ} {o h a row : List ℕ} {w : PendingList} {c : ℕ}
    → TurnReady k C q o h a row w c → LoopAt k C q o h a row w c o h a row w c
loop-starts {k} {C} {q} {o} {h} {a} {row} {w} {c} R = record {
  ready = R;
  going = going_start is_done (legalize_turn (length row) k (position_of q)) (falls (length row) k C (position_of q)) _ (state_of o h a row w.length c)
      (legalize-start R.mesh.rows.good R.entries) (omega arith);
  lengths = same_refl;
}

no-entries : (row : List ℕ) (n : ℕ) → n ≤ 0 → is_empty (pending_of row n) ≡ true
unfolding pending_of
no-entries row zero z = refl
no-entries row (suc n) z = absurd (omega arith)

module _ {k : Entry} {C : Counts} {q : List ℤ} {o₀ h₀ a₀ row₀ : List ℕ} {w₀ : PendingList} {c₀ : ℕ}
    {o h a row : List ℕ} {w : PendingList} {c : ℕ} (I : LoopAt k C q o₀ h₀ a₀ row₀ w₀ c₀ o h a row w c) where
  abbrev room : ℕ
  room = length row₀

  abbrev s₀ : Legalizing
  s₀ = state_of o₀ h₀ a₀ row₀ w₀.length c₀

  abbrev s : Legalizing
  s = state_of o h a row w.length c

  -- the list is empty
  pub loop-ends : w.length ≤ 0 → Leaves o h a (record { flips = c; full = false }) (legalize room k C (position_of q) s₀)
  unfolding legalize
  loop-ends z =
      subst (Leaves o h a (record { flips = c; full = false })) (going_end is_done (legalize_turn room k (position_of q)) (falls room k C (position_of q)) I.going (no-entries row w.length z))
      (record { links = refl; flips = refl; full = refl })

  module _ (z : 0 < w.length) where
    goes_on : is_done s ≡ false
    goes_on = ap is_empty (pending-last row w.length z)

    turned : Loops room k C q s₀ (legalize_turn room k (position_of q) s)
    turned = going-turn is_done (legalize_turn room k (position_of q)) (falls room k C (position_of q)) I.going goes_on

    module _ {o' h' a' row' : List ℕ} {w' : PendingList} {c' : ℕ} {b : Bool}
        (T : TurnLeaves C.edges o' h' a' row' w' c' b (legalize_turn (length row) k (position_of q) s)) (l : SameLengths o h a row o' h' a' row') where
      leaves : TurnLeaves C.edges o' h' a' row' w' c' b (legalize_turn room k (position_of q) s)
      leaves = subst (λ (m : ℕ). TurnLeaves C.edges o' h' a' row' w' c' b (legalize_turn m k (position_of q) s)) I.lengths.pending T

      -- a flip is refused
      pub loop-refused : b ≡ true → Leaves o' h' a' (record { flips = c'; full = true }) (legalize room k C (position_of q) s₀)
      unfolding legalize
      loop-refused e =
          let t = sym leaves.full ∙ e in
          subst (Leaves o' h' a' (record { flips = c'; full = true }))
          (going_end is_done (legalize_turn room k (position_of q)) (falls room k C (position_of q)) turned (ended (legalize_turn room k (position_of q) s) t))
          (record { links = leaves.links; flips = leaves.flips; full = sym t })
        where
          ended : (t : Legalizing) → t.full ≡ true → is_done t ≡ true
          ended t e = rw e refl

      -- the loop goes on
      module _ (e : b ≡ false) where
        state : legalize_turn room k (position_of q) s ≡ state_of o' h' a' row' w'.length c'
        state = λ i. record { links = sym leaves.links i; pending = sym (leaves.pending e) i; flips = sym leaves.flips i; full = (sym leaves.full ∙ e) i }

        pub loop-less : measure C (position_of q) (state_of o' h' a' row' w'.length c') < measure C (position_of q) s
        loop-less = subst (λ (t : Legalizing). measure C (position_of q) t < measure C (position_of q) s) state
            (going_less is_done (legalize_turn room k (position_of q)) (falls room k C (position_of q)) I.going goes_on)

        on : Loops room k C q s₀ (state_of o' h' a' row' w'.length c')
        on = subst (Loops room k C q s₀) state turned

        pub loop-on : LoopAt k C q o₀ h₀ a₀ row₀ w₀ c₀ o' h' a' row' w' c'
        loop-on =
            let M = I.ready.mesh in
            record {
              ready = record {
                mesh = record {
                  rows = good-again M.rows o' h' a' l.outs l.halves l.faces refl on.claim.good;
                  few = M.few;
                  bound = subst (λ (t : Legalizing). FlipsWithin C t.links (position_of q) t.flips) state
                      (turn-bound room k C (position_of q) s I.going.claim goes_on M.bound);
                  room = let m = M.room in let p = l.pending in omega arith;
                };
                fits = leaves.fits e;
                set = leaves.set e;
                entries = on.claim.entries;
              };
              going = on;
              lengths = same-trans I.lengths l;
            }
