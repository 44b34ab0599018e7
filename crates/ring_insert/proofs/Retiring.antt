-- What holds while the freed nodes lose their edges. Assumes nothing.
use Prim.Native.Nat.{ℕ, suc, ◌+◌, ◌-◌, ◌<◌, ◌≤◌}
use native.Mathlib.Nat.{le_refl}
use native.Mathlib.Omega.{arith}
use mathlib.Core.Path.{◌≡◌, refl, ◌∙◌, ap, subst}
use mathlib.Core.List.{List}
use lib.ListN.{length, get_or, take, drop}
use Rattle.std.proofs.lemmas.List.{length-take, get_or-take, get_or-drop}
use Rattle.sums.specs.Put.{put}
use Rattle.dcel.specs.Rows.{row_of}
use Rattle.ring_rows.specs.declared.Node.{Node}
use Rattle.ring_rows.specs.Rows.{nodes_of, with_edge}
use Rattle.ring_rows.specs.Find.{no_edge}
use Rattle.ring_insert.specs.Retire.{ToRetire, Retired}
use Rattle.ring_insert.proofs.RetireLaws.{retired-none, retired-more}

pub record Retiring (old new : List Node) (freed : List ℕ) (from to k : ℕ) : Type 0 where
  pub given : ToRetire old freed from to
  pub same : length new ≡ length old
  pub low : from ≤ k
  pub most : k ≤ to
  pub done : Retired (nodes_of old) (nodes_of new) (row_of freed) from k

pub begin : {nodes : List Node} {freed : List ℕ} {from to : ℕ} → ToRetire nodes freed from to → Retiring nodes nodes freed from to from
begin {nodes} {freed} {from} G = record {
  given = G;
  same = refl;
  low = le_refl from;
  most = G.order;
  done = retired-none (nodes_of nodes) (row_of freed) from;
}

-- at place i of the part of the stack
module _ {old new : List Node} {freed : List ℕ} {from to i : ℕ} (K : Retiring old new freed from to (from + i))
    (l : i < length (take (to - from) (drop from freed))) where
  below : from + i < to
  below = let e = length-take (to - from) (drop from freed) in omega arith

  read : get_or (take (to - from) (drop from freed)) i 0 ≡ get_or freed (from + i) 0
  read = let m = below in get_or-take (to - from) (drop from freed) i 0 (omega arith) ∙ get_or-drop from freed i 0

  pub node-there : get_or (take (to - from) (drop from freed)) i 0 < length new
  unfolding row_of
  node-there = let a = K.given.there (from + i) K.low below in let b = K.same in let e = read in omega arith

  pub again : {next : List Node}
      → nodes_of next ≡ put (nodes_of new) (get_or (take (to - from) (drop from freed)) i 0) (with_edge (nodes_of new (get_or (take (to - from) (drop from freed)) i 0)) no_edge)
      → length next ≡ length new → Retiring old next freed from to (from + (i + 1))
  unfolding row_of
  again {next} e n = subst (Retiring old next freed from to) step (record {
    given = K.given;
    same = n ∙ K.same;
    low = let a = K.low in omega arith;
    most = below;
    done = retired-more K.done K.low (e ∙ ap (λ (x : ℕ). put (nodes_of new) x (with_edge (nodes_of new x) no_edge)) read);
  })
    where
      step : suc (from + i) ≡ from + (i + 1)
      step = omega arith

pub end : {old new : List Node} {freed : List ℕ} {from to k : ℕ} → Retiring old new freed from to k → to ≤ k
    → Retired (nodes_of old) (nodes_of new) (row_of freed) from to
end {old} {new} {freed} {from} {to} {k} K u =
    let e : k ≡ to = let m = K.most in omega arith in subst (Retired (nodes_of old) (nodes_of new) (row_of freed) from) e K.done
