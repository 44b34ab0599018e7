-- What closing a corner needs of the rows, and what it leaves. Over plain rows, so that the needs of the code are single applications. Assumes nothing.
use mathlib.Core.Bool.{Bool, true, false, not}
use mathlib.Core.List.{List}
use mathlib.Core.Path.{◌≡◌, refl, sym, ◌∙◌, ap}
use Prim.Native.Nat.{ℕ, ◌/◌, ◌<◌}
use native.Mathlib.Omega.{arith}
use lib.IntN.{ℤ}
use Rattle.circle_test.specs.GoodRows.{GoodRows, held}
use Rattle.corner.specs.declared.Extension.{Extension}
use Rattle.corner.specs.Corner.{close_corner}
use Rattle.corner.specs.CornerRows.{extended_of, CloseReady}
use Rattle.dcel.specs.Rows.{halves_of, links_of, position_of, There, Placed}
use Rattle.dcel.specs.MeshHeld.{there, there-rev, prev-in, origin-in, to_in}
use Rattle.mesh.specs.declared.Counts.{Counts}
use Rattle.mesh.specs.Mesh.{Links, In}
use Rattle.mesh.specs.Good.{Good}
use Rattle.convexity.proofs.BehindLawsFacts.{corner-in, corner-left, behind-in}
use Rattle.convexity.specs.Walk.{closed_behind}
use Rattle.convexity.specs.ConvexityRows.{BehindReady, CloseBehindReady}

-- a test that was negated
pub holds_not : (b : Bool) → not b ≡ true → b ≡ false
holds_not true e = sym e
holds_not false e = refl

pub fails-not : (b : Bool) → not b ≡ false → b ≡ true
fails-not true e = refl
fails-not false e = sym e

-- ---- the corner behind c
module _ {C : Counts} {q : List ℤ} {o h a : List ℕ} (R : GoodRows C q o h a) {c : ℕ} (l : In C c) where
  placed : {v : ℕ} → v < C.vertices → Placed q v
  placed m = record { there = (let k = R.positions in omega arith); range = R.good.range m }

  pub behind-ready : BehindReady q h c
  behind-ready =
      let H = held R in let e = prev-in H l in let d = prev-in H e in
      record {
        here = there H l;
        last = there H e;
        corner = record {
          here = there H d;
          back = there-rev H d;
          next = there-rev H e;
          origin = placed (origin-in H d);
          to = placed (to_in H d);
          target = placed (to_in H e);
        };
      }

module _ {q : List ℤ} {o h a row : List ℕ} {g : Extension} {c : ℕ} (R : CloseBehindReady q o h a row g c) {e₁ e₂ : ℕ} (x : e₂ ≡ (halves_of h).prev c) (y : e₁ ≡ (halves_of h).prev e₂) where
  abbrev L : Links
  L = links_of o h a

  G : Good g.counts L (position_of q)
  G = R.ready.rows.good

  pub last-there : There h e₂
  last-there = rw x (there (held R.ready.rows) (prev-in (held R.ready.rows) R.current.edge))

  first-is : e₁ ≡ L.prev (L.prev c)
  unfolding links_of
  first-is = y ∙ ap (halves_of h).prev x

  last-is : e₂ ≡ L.prev c
  unfolding links_of
  last-is = x

  -- the corner of the two half-edges behind c
  pub close-ready : CloseReady q o h a row g e₁ (e₁ / 2) (e₂ / 2)
  close-ready =
      let l = R.current.edge in let k = R.current.outer in
      let i = corner-in G l k R.left in let j = behind-in G.wf l k 1 in
      rw (first-is, last-is) (record {
        ready = R.ready;
        edge = i.0;
        outer = i.1;
        left = corner-left G l k R.left;
        first-in = let x = i.0 in omega arith;
        second-in = let x = j.0 in omega arith;
      })

  pub closed_is : (n : ℕ) → close_corner n (position_of q) (extended_of o h a g) e₁ (e₁ / 2) (e₂ / 2) ≡ closed_behind n (position_of q) (extended_of o h a g) c
  unfolding extended_of
  closed_is n = rw (first-is, last-is) refl
