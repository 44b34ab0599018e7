-- From the first face to the second loop in the rows: what each part needs, and what all of them leave. Assumes nothing.
use mathlib.Core.List.{List}
use mathlib.Core.Path.{◌≡◌, ◌∙◌, ap, ap₂, subst⁻¹}
use Prim.Native.Nat.{ℕ, ◌+◌, ◌*◌, ◌^◌, ◌<◌}
use native.Mathlib.Nat.{le_refl}
use native.Mathlib.Omega.{arith}
use lib.IntN.{ℤ}
use lib.ListN.{length}
use Rattle.apply.specs.declared.Walked.{Walked}
use Rattle.apply.specs.Apply.{Walking, first_face}
use Rattle.apply.specs.ApplyRows.{FirstReady, walking_of}
use Rattle.corner.specs.declared.Extension.{Extension}
use Rattle.corner.specs.Corner.{Extended}
use Rattle.corner.specs.CornerLaws.{none}
use Rattle.corner.specs.CornerRows.{extended_of}
use Rattle.corner.specs.RowsLaws.{SameLengths, same-trans}
use Rattle.dcel.specs.Rows.{links_of, position_of}
use Rattle.math.specs.declared.Point.{Point}
use Rattle.mesh.specs.declared.Counts.{Counts}
use Rattle.mesh.specs.Mesh.{Links}
use Rattle.mesh.proofs.CountsLaws.{halves-fit}
use Rattle.ring.specs.declared.Side.TheVariants.{Left, Right}
use Rattle.skipped.specs.Insert.{outside_walk, insert_outside}
use Rattle.skipped.proofs.OutsideLaws.{Standing, new-good, left-start, right-start, outside-closings}
use Rattle.insert_outside.specs.OutsideRows.{WalkReady, OutsideReady}
use Rattle.insert_outside.specs.RowsLaws.{ready-after}

module _ {C : Counts} {q : List ℤ} {o h a row : List ℕ} {v : Point} {e : ℕ} (R : OutsideReady C q o h a row v e) where
  abbrev L : Links
  L = links_of o h a

  abbrev p : ℕ → Point
  p = position_of q

  -- the numbers of the new edges fit
  pub numbers_fit : 2 * C.edges + 2 + 1 < 2 ^ 32
  numbers_fit = let f = halves-fit R.good.wf (le_refl _) in let s = R.sized.small in omega arith

  pub first-ready : FirstReady C q o h a row e
  first-ready = record {
    rules = R.good.wf;
    edge = R.beyond.used;
    good = (let B = R.beyond in new-good (length row) R.good B.used B.outer B.left R.same R.here R.range);
    outs = R.outs;
    positions = R.positions;
    sized = R.sized;
  }

  -- the two loops' starts, from the mesh that each finds
  abbrev to_new : Extended → Walking
  to_new m = record { mesh = m; current = 2 * C.edges + 2 + 1 }

  abbrev from_new : Extended → Walking
  from_new m = record { mesh = m; current = 2 * C.edges + 1 }

  to-new : Standing (length row) p R.here Left (2 * C.edges + 1) (to_new (first_face (length row) p C L e))
  to-new = let B = R.beyond in left-start (length row) R.good B.used B.outer B.left R.same R.here R.range

  -- ---- after the first face
  module _ {o₁ h₁ a₁ row₁ : List ℕ} (g : Extension) (x : extended_of o₁ h₁ a₁ g ≡ first_face (length row) p C L e)
      (l : SameLengths o h a row o₁ h₁ a₁ row₁) where
    pub left-ready : WalkReady Left q o₁ h₁ a₁ row₁ (record { added = g; edge = 2 * C.edges + 2 + 1 }) v
    left-ready = record {
      ready = ready-after R none x l;
      range = R.range;
      vertex = C.vertices;
      here = R.here;
      other = 2 * C.edges + 1;
      standing = subst⁻¹ (λ (n : ℕ). Standing n p R.here Left (2 * C.edges + 1) (to_new (extended_of o₁ h₁ a₁ g))) l.pending
          (subst⁻¹ (λ (m : Extended). Standing (length row) p R.here Left (2 * C.edges + 1) (to_new m)) x to-new);
    }

    -- ---- after the first loop
    module _ {o₂ h₂ a₂ row₂ : List ℕ} (w : Walked)
        (y : walking_of o₂ h₂ a₂ w ≡ outside_walk Left (length row₁) p v (to_new (extended_of o₁ h₁ a₁ g)))
        (k : SameLengths o₁ h₁ a₁ row₁ o₂ h₂ a₂ row₂) where
      walked-is : walking_of o₂ h₂ a₂ w ≡ outside_walk Left (length row) p v (to_new (first_face (length row) p C L e))
      walked-is = y ∙ ap₂ (λ (n : ℕ) (m : Extended). outside_walk Left n p v (to_new m)) l.pending x

      from-new : Standing (length row) p R.here Right w.edge (from_new (extended_of o₂ h₂ a₂ w.added))
      from-new =
          let B = R.beyond in
          subst⁻¹ (λ (s : Walking). Standing (length row) p R.here Right s.current (from_new s.mesh)) walked-is
          (right-start (length row) R.good B.used B.outer B.left R.same R.here R.range)

      pub right-ready : WalkReady Right q o₂ h₂ a₂ row₂ (record { added = w.added; edge = 2 * C.edges + 1 }) v
      right-ready = record {
        ready = ready-after R (outside-closings (length row) p R.here Left _ to-new) (ap (λ (s : Walking). s.mesh) walked-is)
            (same-trans l k);
        range = R.range;
        vertex = C.vertices;
        here = R.here;
        other = w.edge;
        standing = subst⁻¹ (λ (n : ℕ). Standing n p R.here Right w.edge (from_new (extended_of o₂ h₂ a₂ w.added)))
            (k.pending ∙ l.pending) from-new;
      }

      -- ---- after the second
      pub inserted-rows : (o₃ h₃ a₃ : List ℕ) (u : Walked)
          → walking_of o₃ h₃ a₃ u ≡ outside_walk Right (length row₂) p v (from_new (extended_of o₂ h₂ a₂ w.added))
          → extended_of o₃ h₃ a₃ u.added ≡ insert_outside (length row) p C L v e
      unfolding insert_outside
      inserted-rows o₃ h₃ a₃ u z =
          ap (λ (s : Walking). s.mesh)
          (z ∙ ap₂ (λ (n : ℕ) (s : Walking). outside_walk Right n p v (from_new s.mesh)) (k.pending ∙ l.pending) walked-is)
