-- From the first face to the second loop in the rows: what each part needs, and what all of them leave. Assumes nothing.
use mathlib.Core.List.{List}
use mathlib.Core.Path.{◌≡◌, ◌∙◌, ap, ap₂, subst⁻¹}
use Prim.Native.Nat.{ℕ, ◌+◌, ◌*◌, ◌^◌, ◌<◌}
use native.Mathlib.Nat.{le_refl}
use native.Mathlib.Omega.{arith}
use lib.IntN.{ℤ}
use lib.ListN.{length}
use Rattle.conflicts.specs.FlipsWithin.{FlipsWithin}
use Rattle.corner.specs.declared.Extension.{Extension}
use Rattle.corner.specs.Corner.{Extended}
use Rattle.corner.specs.CornerLaws.{Closings}
use Rattle.corner.specs.CornerRows.{extended_of, Ready}
use Rattle.corner.specs.RowsLaws.{SameLengths, sized-room, ready-again}
use Rattle.dcel.specs.Rows.{links_of, position_of}
use Rattle.math.specs.declared.Point.{Point}
use Rattle.mesh.specs.Mesh.{Links}
use Rattle.mesh.specs.Operations.{with_vertex}
use Rattle.mesh.proofs.CountsLaws.{halves-fit}
use Rattle.mesh.specs.Good.{Good}
use Rattle.ring.specs.Chain.{left_chain}
use Rattle.ring.specs.declared.Side.TheVariants.{Left, Right}
use Rattle.apply.specs.declared.Walked.{Walked}
use Rattle.mesh.specs.declared.Counts.{Counts}
use Rattle.apply.specs.Apply.{Walking, first_face, walk_turns, add_turns}
use Rattle.apply.proofs.ApplyLaws.{first_on, first-turned, second-on}
use Rattle.apply.specs.ApplyRows.{FirstReady, TurnsReady, AddReady, walking_of, applied_of}
use Rattle.apply.proofs.FirstFace.{new-good, first_good, first-bound}
use Rattle.apply.specs.Turns.{AlongOn}

module _ {C : Counts} {q : List ℤ} {o h a row : List ℕ} {e left right : ℕ} (R : AddReady C q o h a row e left right) where
  abbrev L : Links
  L = links_of o h a

  abbrev p : ℕ → Point
  p = position_of q

  -- the numbers of the new edges fit
  pub numbers_fit : 2 * C.edges + 2 + 1 < 2 ^ 32
  numbers_fit = let f = halves-fit R.before.good.wf (le_refl _) in let s = R.sized.small in omega arith

  pub first-ready : FirstReady C q o h a row e
  first-ready = record {
    rules = R.before.good.wf;
    edge = R.before.edge;
    good = new-good R.before (length row);
    outs = R.outs;
    positions = R.positions;
    sized = R.sized;
  }

  -- ---- after the first face
  module _ {o₁ h₁ a₁ row₁ : List ℕ} (g : Extension) (x : extended_of o₁ h₁ a₁ g ≡ first_face (length row) p C L e) (l : SameLengths o h a row o₁ h₁ a₁ row₁) where
    counts-are : g.counts ≡ with_vertex C
    unfolding extended_of first_face
    counts-are = ap (λ (m : Extended). m.counts) x

    good : Good g.counts (links_of o₁ h₁ a₁) p
    unfolding extended_of first_face
    good = subst⁻¹ (λ (m : Extended). Good m.counts m.links p) x (first_good R.before (length row))

    extended-ready : Ready q o₁ h₁ a₁ row₁ g
    unfolding extended_of first_face
    extended-ready =
        let v = ap (λ (K : Counts). K.vertices) counts-are in
        let f = ap (λ (K : Counts). K.faces) counts-are in
        let n = ap (λ (m : Extended). m.faces) x in
        record {
          rows = record { room = sized-room o o₁ h₁ a₁ R.outs R.sized v good l.outs l.halves l.faces; positions = (let k = R.positions in omega arith); good = good };
          sized = (let s = R.sized in let u = l.halves in let w = l.faces in let z = l.pending in
              record { halves = omega arith; faces = omega arith; pending = omega arith; small = omega arith });
          flips = subst⁻¹ (λ (m : Extended). FlipsWithin m.counts m.links p m.flips) x (first-bound R.before (length row));
          faces = omega arith;
        }

    pub left-ready : TurnsReady Left q o₁ h₁ a₁ row₁ (record { added = g; edge = 2 * C.edges + 2 + 1 }) left
    left-ready = record {
      ready = extended-ready;
      counts = C;
      links = L;
      places = R.places;
      angles = R.angles;
      angles-now = R.angles-now;
      point = R.point;
      angle = R.angle;
      edge = e;
      before = R.before;
      others = 0;
      other = 2 * C.edges + 1;
      made = 0;
      on = subst⁻¹ (λ (m : Extended). AlongOn R.before Left 0 (2 * C.edges + 1) 0 (record { mesh = m; current = 2 * C.edges + 2 + 1 })) x (first_on R.before (length row));
      left = let z = R.left_is in omega arith;
    }

    -- ---- after the first loop
    module _ {o₂ h₂ a₂ row₂ : List ℕ} (w : Walked) (y : walking_of o₂ h₂ a₂ w ≡ walk_turns Left (length row₁) p left (walking_of o₁ h₁ a₁ (record { added = g; edge = 2 * C.edges + 2 + 1 })))
        (k : SameLengths o₁ h₁ a₁ row₁ o₂ h₂ a₂ row₂) where
      turned-is : walking_of o₂ h₂ a₂ w ≡ walk_turns Left (length row) p left (record { mesh = first_face (length row) p C L e; current = 2 * C.edges + 2 + 1 })
      turned-is = y ∙ ap₂ (λ (n : ℕ) (m : Extended). walk_turns Left n p left (record { mesh = m; current = 2 * C.edges + 2 + 1 })) l.pending x

      chain-is : walking_of o₂ h₂ a₂ w
          ≡ walk_turns Left (length row) p (left_chain C L R.places R.angles R.point R.angle e) (record { mesh = first_face (length row) p C L e; current = 2 * C.edges + 2 + 1 })
      chain-is = turned-is ∙ ap (λ (n : ℕ). walk_turns Left (length row) p n (record { mesh = first_face (length row) p C L e; current = 2 * C.edges + 2 + 1 })) R.left_is

      pub right-ready : TurnsReady Right q o₂ h₂ a₂ row₂ (record { added = w.added; edge = 2 * C.edges + 1 }) right
      right-ready = record {
        ready = ready-again extended-ready (subst⁻¹ (λ (m : Extended). Closings p m (walk_turns Left (length row) p (left_chain C L R.places R.angles R.point R.angle e)
            (record { mesh = first_face (length row) p C L e; current = 2 * C.edges + 2 + 1 })).mesh) x (first-turned R.before (length row)).closings)
            (ap (λ (s : Walking). s.mesh) chain-is) k;
        counts = C;
        links = L;
        places = R.places;
        angles = R.angles;
        angles-now = R.angles-now;
        point = R.point;
        angle = R.angle;
        edge = e;
        before = R.before;
        others = (first-turned R.before (length row)).count;
        other = w.edge;
        made = 0;
        on = subst⁻¹ (λ (s : Walking). AlongOn R.before Right (first-turned R.before (length row)).count s.current 0 (record { mesh = s.mesh; current = 2 * C.edges + 1 })) chain-is
            (second-on R.before (length row));
        left = let z = R.right_is in omega arith;
      }

      -- ---- after the second
      pub added-rows : (o₃ h₃ a₃ : List ℕ) (u : Walked) → walking_of o₃ h₃ a₃ u ≡ walk_turns Right (length row₂) p right (walking_of o₂ h₂ a₂ (record { added = w.added; edge = 2 * C.edges + 1 }))
          → applied_of o₃ h₃ a₃ (record { added = u.added; leftedge = w.edge; rightedge = u.edge }) ≡ add_turns (length row) p C L e left right
      unfolding add_turns
      added-rows o₃ h₃ a₃ u z =
          let s : walking_of o₃ h₃ a₃ u ≡ walk_turns Right (length row) p right
          (record { mesh = (walk_turns Left (length row) p left (record { mesh = first_face (length row) p C L e; current = 2 * C.edges + 2 + 1 })).mesh; current = 2 * C.edges + 1 }) =
          z ∙ ap₂ (λ (n : ℕ) (t : Walking). walk_turns Right n p right (record { mesh = t.mesh; current = 2 * C.edges + 1 })) (k.pending ∙ l.pending) turned-is in
          ap₂ (λ (t r : Walking). record { mesh = r.mesh; left_edge = t.current; right_edge = r.current }) turned-is s
