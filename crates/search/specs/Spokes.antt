-- The loop of `first_closer`, which turns about a vertex. Assumes nothing.
use Rattle.std.specs.Prelude.{Bool, true, false, List, Some, None, ◌≢◌, ◌≡◌, ℕ, ◌+◌, ◌-◌, ◌*◌, ◌<◌, ◌≤◌, ℤ, length}
use Rattle.std.proofs.Math.Bool.{not}
use Rattle.std.proofs.Math.Path.{refl, ap}
use Rattle.std.proofs.Common.{sym, ◌∙◌, subst, arith, lt-ltb, le-ltb}
use Rattle.std.specs.Int.Signed.{lt_z}
use Rattle.dcel.specs.Rows.{halves_of, row_of, links_of, position_of, There, Placed}
use Rattle.dcel.specs.MeshHeld.{MeshHeld, there, there-rev, there_out, to_in, out-in}
use Rattle.location.specs.Search.{spokes, first_closer, is_nearest, nearer}
use Rattle.math.specs.declared.Point.{Point}
use Rattle.math.specs.Determinant.{InRange, length2}
use Rattle.mesh.specs.declared.Counts.{Counts}
use Rattle.mesh.specs.Mesh.{In}
use Rattle.mesh.proofs.WfPartsLaws.{turn-inverse}
use Rattle.sums.specs.Half.{rev}
use Rattle.sums.proofs.HalfLaws.{rev-rev}
use Rattle.sums.specs.Iterate.{iter, Inverse, period_below}
use Rattle.search.specs.Round.{steps_to, Passing, first_passing, passing-start, passing-below, passing-on, passing-less, passing-hit, passing-hit-below, passing-none}
use Rattle.search.specs.SearchRows.{SpokesReady, CloserIs, ready_held, ready-placed}

-- the next half-edge about its origin
abbrev pub turn_in_of : List ℕ → ℕ → ℕ
turn_in_of h e = rev ((halves_of h).prev e)

-- the end of e is nearer than this
abbrev pub end_nearer : List ℤ → List ℕ → Point → ℤ → ℕ → Bool
end_nearer q h point d e = lt_z (length2 (position_of q ((halves_of h).origin (rev e))) point) d

-- no end from the stored out edge on to e is
abbrev Spoke : List ℤ → List ℕ → Point → ℤ → ℕ → ℕ → Type 0
Spoke q h point d start e = Passing (length h) (turn_in_of h) (end_nearer q h point d) start e

-- the same of an out edge by its reverse b
pub record SpokeBack (q : List ℤ) (h : List ℕ) (point : Point) (d : ℤ) (start b : ℕ) : Type 0 where
  pub passing : Spoke q h point d start (rev b)

abbrev pub spokes_left : List ℕ → ℕ → ℕ → ℕ
spokes_left h start e = length h - steps_to (length h) (turn_in_of h) start e

module _ {C : Counts} {q : List ℤ} {o h : List ℕ} {point : Point} {v : ℕ} {d : ℤ} (R : SpokesReady C q o h point v d) where
  H : MeshHeld C o h R.near.faces
  H = ready_held R.near.ready

  inverse : Inverse (2 * C.edges) (turn_in_of h) (λ e. (halves_of h).next (rev e))
  unfolding links_of
  inverse = turn-inverse C (links_of o h R.near.faces) H.rules.ranges H.rules.links

  more : 2 * C.edges ≤ length h
  more = let r = H.room.halves in omega arith

  pub out-there : v < length o
  out-there = there_out H R.used

  -- z is the distance, as it was read
  module _ {z : ℤ} (i : z ≡ d) {start : ℕ} (s : start ≡ row_of o v) where
    start-in : start < 2 * C.edges
    start-in = rw s (out-in H R.used)

    first-is : (a : List ℕ) → first_passing (2 * C.edges) (turn_in_of h) (end_nearer q h point z) start ≡ first_closer C (links_of o h a) (position_of q) point v
    unfolding links_of first_closer
    first-is a = rw (s, i ∙ R.distance) refl

    spokes-are : (a : List ℕ) → period_below (2 * C.edges) (turn_in_of h) start ≡ spokes C (links_of o h a) v
    unfolding links_of
    spokes-are a = rw s refl

    -- the loop has each out edge by its reverse, whose origin is the out edge's end: first that of the stored one
    module _ {first : ℕ} (l : first ≡ rev start) where
      pub spoke-start : SpokeBack q h point z start first
      spoke-start = record {
        passing = subst (Spoke q h point z start) (sym (ap rev l ∙ rev-rev start))
            (passing-start inverse (end_nearer q h point z) start-in more);
      }

      module _ {b : ℕ} (K : SpokeBack q h point z start b) where
        in_use : In C (rev b)
        in_use = passing-below inverse (end_nearer q h point z) start-in more K.passing

        pub spoke-there : {e : ℕ} → e ≡ rev b → There h e
        spoke-there g = rw g (there H in_use)

        pub spoke-back : There h b
        spoke-back = subst (There h) (rev-rev b) (there-rev H in_use)

        -- the end w, at p
        module _ {w : ℕ} (x : w ≡ (halves_of h).origin b) where
          end_is : w ≡ (halves_of h).origin (rev (rev b))
          end_is = x ∙ ap (halves_of h).origin (sym (rev-rev b))

          end-placed : Placed q w
          end-placed = rw end_is (ready-placed R.near.ready (to_in H in_use))

          pub end-there : 2 * w + 1 < length q
          end-there = end-placed.there

          module _ {p : Point} (y : p ≡ position_of q w) where
            pub end-range : InRange p × InRange point
            end-range = (rw y end-placed.range, R.near.ready.range)

            -- at the squared distance u
            module _ {u : ℤ} (j : u ≡ length2 p point) where
              tested : lt_z u z ≡ end_nearer q h point z (rev b)
              tested = rw (j, y, end_is) refl

              near : (a : List ℕ) → end_nearer q h point z (rev b) ≡ true → w ≡ nearer C (links_of o h a) (position_of q) point v
              unfolding nearer links_of
              near a t =
                  end_is
                  ∙ ap (λ (y : ℕ). (halves_of h).origin (rev y)) (sym (passing-hit inverse (end_nearer q h point z) start-in more K.passing t)
                  ∙ ap (λ (k : ℕ). iter k (turn_in_of h) start) (first-is a)
                  ∙ ap (iter (first_closer C (links_of o h a) (position_of q) point v) (turn_in_of h)) s)

              pub spoke-hit : lt_z u z ≡ true → (a : List ℕ) → CloserIs C (links_of o h a) (position_of q) point v (Some (w, u))
              unfolding is_nearest nearer
              spoke-hit t a =
                  let f = first_closer C (links_of o h a) (position_of q) point v in
                  let b = passing-hit-below inverse (end_nearer q h point z) start-in more K.passing (sym tested ∙ t) in
                  let l : f < spokes C (links_of o h a) v = rw (← first-is a, ← spokes-are a) b in
                  (ap not (lt-ltb f (spokes C (links_of o h a) v) l), near a (sym tested ∙ t), rw (j, y) refl)

              -- none so far: on to the reverse n of the next
              module _ (t : lt_z u z ≡ false) {e n : ℕ} (g : e ≡ rev b) (f : n ≡ (halves_of h).prev e) where
                turned : turn_in_of h (rev b) ≡ rev n
                turned = sym (ap rev (f ∙ ap (halves_of h).prev g))

                pub spoke-none : n ≡ first → (a : List ℕ) → CloserIs C (links_of o h a) (position_of q) point v None
                unfolding is_nearest
                spoke-none k a =
                    let b = passing-none inverse (end_nearer q h point z) start-in more K.passing (sym tested ∙ t) (turned ∙ ap rev (k ∙ l) ∙ rev-rev start) in
                    ap not (le-ltb (first_closer C (links_of o h a) (position_of q) point v) (spokes C (links_of o h a) v)
                    (let e = first-is a in let g = spokes-are a in omega arith))

                module _ (k : n ≢ first) where
                  not_start : turn_in_of h (rev b) ≢ start
                  not_start m = k (sym (rev-rev n) ∙ ap rev (sym turned ∙ m) ∙ sym l)

                  pub spoke-on : SpokeBack q h point z start n
                  spoke-on = record {
                    passing = subst (Spoke q h point z start) turned
                        (passing-on inverse (end_nearer q h point z) start-in more K.passing (sym tested ∙ t) not_start);
                  }

                  pub spoke-less : spokes_left h start (rev n) < spokes_left h start (rev b)
                  spoke-less =
                      subst (λ (x : ℕ). spokes_left h start x < spokes_left h start (rev b)) turned
                      (passing-less inverse (end_nearer q h point z) start-in more K.passing not_start)
