-- The walk from near by: what a turn reads is in the rows, and where it ends is certified. Over plain values, so that the needs of the code are
-- single applications. Assumes nothing.
use Rattle.std.specs.Prelude.{Bool, true, false, List, Option, Some, IfSome, ◌≢◌, ◌≡◌, ℕ, ◌+◌, ◌*◌, ◌<◌, T, ℤ, length, ◌<ℤ◌}
use Rattle.std.proofs.Math.Path.{refl, sym, ap, ap₂}
use Rattle.std.proofs.Common.{◌∙◌, subst, arith}
use Rattle.std.proofs.Math.IntN.{pos}
use Rattle.std.specs.Int.Signed.{lt_z, le_z, lt_z_yes}
use Rattle.dcel.specs.declared.handles.HalfEdgeEntry.{HalfEdgeEntry}
use Rattle.dcel.specs.Rows.{halves_of, links_of, position_of, There, EntryOf}
use Rattle.dcel.specs.MeshHeld.{there, there-rev, next-in, prev-in, origin-in, to_in}
use Rattle.location.specs.declared.PositionInTriangulation.TheVariants.{OnFace}
use Rattle.location.specs.Place.{area_at, InFace}
use Rattle.location.proofs.PlaceLaws.{area-next, area-prev}
use Rattle.location.specs.Scan.{locate_point}
use Rattle.location.proofs.SearchLaws.{left-rev, in-face}
use Rattle.math.specs.declared.Point.{Point}
use Rattle.math.specs.Determinant.{InRange, orient2d}
use Rattle.mesh.specs.declared.Counts.{Counts}
use Rattle.mesh.specs.Mesh.{Links, In}
use Rattle.mesh.specs.Triangle.{Triangle, triangle, rev-in}
use Rattle.nearby.proofs.InsideLaws.{locate-inside}
use Rattle.search.specs.SearchRows.{ready_held, ready-placed}
use Rattle.sums.proofs.BitLaws.{from-true}
use Rattle.sums.specs.Half.{rev}
use Rattle.sums.proofs.HalfLaws.{rev-rev}
use Rattle.search_near.specs.declared.Facing.{Facing}
use Rattle.search_near.specs.NearRows.{StartReady, FacingReady, NearReady, is_positive_of}

-- ---- the start
module _ {C : Counts} {q : List ℤ} {o h a : List ℕ} {point : Point} {u : ℕ} (S : StartReady C q o h a point u) where
  module _ {e : ℕ} (x : e ≡ 2 * u) where
    start-in : In C e
    start-in = let k = S.used in omega arith

    pub start-there : There h e
    start-there = there (ready_held S.ready) start-in

    pub start_back : There h (rev e)
    start_back = there-rev (ready_held S.ready) start-in

    module _ {v : ℕ} (z : v ≡ (halves_of h).origin e) where
      first-used : v < C.vertices
      first-used = rw z (origin-in (ready_held S.ready) start-in)

      pub start-placed : 2 * v + 1 < length q
      start-placed = (ready-placed S.ready first-used).there

      module _ {w : ℕ} (y : w ≡ (halves_of h).origin (rev e)) where
        end-used : w < C.vertices
        end-used = rw y (to_in (ready_held S.ready) start-in)

        pub end-placed : 2 * w + 1 < length q
        end-placed = (ready-placed S.ready end-used).there

        module _ {from to : Point} (f : from ≡ position_of q v) (t : to ≡ position_of q w) where
          pub ends-range : InRange from × InRange to × InRange point
          ends-range = (rw f (ready-placed S.ready first-used).range, rw t (ready-placed S.ready end-used).range, S.ready.range)

          from_is : from ≡ position_of q ((halves_of h).origin e)
          from_is = f ∙ ap (position_of q) z

          to_is : to ≡ position_of q ((halves_of h).origin (rev e))
          to_is = t ∙ ap (position_of q) y

          module _ {area : ℤ} (d : area ≡ orient2d from to point) where
            area-is : area ≡ area_at (links_of o h a) (position_of q) point e
            unfolding links_of
            area-is = d ∙ ap₂ (λ (u v : Point). orient2d u v point) from_is to_is

            pub faces-back : lt_z area (pos 0) ≡ true → {t : ℕ} → t ≡ rev e
                → FacingReady C q o h a point (record { e = t; from = to; to = from; left = true })
            faces-back i k = record {
              ready = S.ready;
              used = rw k (rev-in C start-in);
              from = to_is ∙ ap (λ (d : ℕ). position_of q ((halves_of h).origin d)) (sym k);
              to = from_is ∙ ap (λ (d : ℕ). position_of q ((halves_of h).origin d)) (sym (ap rev k ∙ rev-rev e));
              strict = λ s. rw k (left-rev (links_of o h a) (position_of q) point e (subst (λ (s : ℤ). s <ℤ pos 0) area-is (lt_z_yes (from-true i))));
            }

            pub faces-on : {b : Bool} → b ≡ lt_z (pos 0) area → FacingReady C q o h a point (record { e = e; from = from; to = to; left = b })
            faces-on k = record {
              ready = S.ready;
              used = start-in;
              from = from_is;
              to = to_is;
              strict = λ s. subst (λ (s : ℤ). pos 0 <ℤ s) area-is (lt_z_yes (subst T k s));
            }

-- ---- one turn
module _ {C : Counts} {q : List ℤ} {o h a : List ℕ} {point : Point} {at : Facing} (F : FacingReady C q o h a point at) where
  pub turn-there : There h at.e
  turn-there = there (ready_held F.ready) F.used

  module _ {s : HalfEdgeEntry} (E : EntryOf (halves_of h) at.e s) (i : s.face ≢ 0) where
    abbrev L : Links
    L = links_of o h a

    inner : 0 < (halves_of h).face at.e
    inner = let k = E.face in omega arith

    sides : Triangle C (links_of o h a) at.e ((halves_of h).next at.e) ((halves_of h).prev at.e)
    unfolding links_of
    sides = triangle F.ready.rows.good.wf F.used inner

    prev-used : In C s.prev
    prev-used = rw E.prev (prev-in (ready_held F.ready) F.used)

    next-used : In C s.next
    next-used = rw E.next (next-in (ready_held F.ready) F.used)

    pub prev-there : There h s.prev
    prev-there = there (ready_held F.ready) prev-used

    module _ {v : ℕ} (x : v ≡ (halves_of h).origin s.prev) where
      far-used : v < C.vertices
      far-used = rw x (origin-in (ready_held F.ready) prev-used)

      pub far-placed : 2 * v + 1 < length q
      far-placed = (ready-placed F.ready far-used).there

      module _ {far : Point} (y : far ≡ position_of q v) where
        far-range : InRange far
        far-range = rw y (ready-placed F.ready far-used).range

        from-range : InRange at.from
        from-range = rw F.from (ready-placed F.ready (origin-in (ready_held F.ready) F.used)).range

        to-range : InRange at.to
        to-range = rw F.to (ready-placed F.ready (to_in (ready_held F.ready) F.used)).range

        pub before-range : InRange far × InRange at.from × InRange point
        before-range = (far-range, from-range, F.ready.range)

        pub after-range : InRange at.to × InRange far × InRange point
        after-range = (to-range, far-range, F.ready.range)

        far-is : far ≡ position_of q ((halves_of h).origin ((halves_of h).prev at.e))
        far-is = y ∙ ap (position_of q) (x ∙ ap (halves_of h).origin E.prev)

        module _ {before : ℤ} (z : before ≡ orient2d far at.from point) where
          before-is : before ≡ area_at (links_of o h a) (position_of q) point ((halves_of h).prev at.e)
          unfolding links_of
          before-is = z ∙ ap₂ (λ (u v : Point). orient2d u v point) far-is F.from ∙ sym (area-prev (position_of q) point sides)

          pub over-prev : lt_z before (pos 0) ≡ true → {t : ℕ} → t ≡ rev s.prev
              → FacingReady C q o h a point (record { e = t; from = at.from; to = far; left = true })
          unfolding links_of
          over-prev j k = record {
            ready = F.ready;
            used = rw k (rev-in C prev-used);
            from = F.from ∙ ap (position_of q) (sym (ap (halves_of h).origin (k ∙ ap rev E.prev) ∙ sides.to-c));
            to = far-is ∙ ap (λ (d : ℕ). position_of q ((halves_of h).origin d)) (sym (ap rev k ∙ rev-rev s.prev ∙ E.prev));
            strict = λ b. rw (k, E.prev)
                (left-rev (links_of o h a) (position_of q) point ((halves_of h).prev at.e)
                (subst (λ (s : ℤ). s <ℤ pos 0) before-is (lt_z_yes (from-true j))));
          }

        module _ {after : ℤ} (w : after ≡ orient2d at.to far point) where
          after_is : after ≡ area_at (links_of o h a) (position_of q) point ((halves_of h).next at.e)
          unfolding links_of
          after_is = w ∙ ap₂ (λ (u v : Point). orient2d u v point) F.to far-is ∙ sym (area-next (position_of q) point sides)

          pub over-next : lt_z after (pos 0) ≡ true → {t : ℕ} → t ≡ rev s.next
              → FacingReady C q o h a point (record { e = t; from = far; to = at.to; left = true })
          unfolding links_of
          over-next j k = record {
            ready = F.ready;
            used = rw k (rev-in C next-used);
            from = far-is ∙ ap (position_of q) (sym (ap (halves_of h).origin (k ∙ ap rev E.next) ∙ sides.to-b));
            to = F.to
                ∙ ap (position_of q) (sides.to-a ∙ ap (halves_of h).origin (sym (ap rev k ∙ rev-rev s.next ∙ E.next)));
            strict = λ b. rw (k, E.next)
                (left-rev (links_of o h a) (position_of q) point ((halves_of h).next at.e)
                (subst (λ (s : ℤ). s <ℤ pos 0) after_is (lt_z_yes (from-true j))));
          }

          -- strictly left of all three
          pub turn_inside : {before : ℤ} → before ≡ orient2d far at.from point → at.left ≡ true → lt_z (pos 0) before ≡ true
              → lt_z (pos 0) after ≡ true
              → InFace C (links_of o h a) (position_of q) point s.face
          unfolding links_of
          turn_inside z l m n = rw E.face
              (in-face F.ready.rows.good.wf (position_of q) point sides inner (F.strict (from-true l))
              (subst (λ (s : ℤ). pos 0 <ℤ s) after_is (lt_z_yes (from-true n)))
              (subst (λ (s : ℤ). pos 0 <ℤ s) (before-is z) (lt_z_yes (from-true m))))

-- ---- the whole
module _ {C : Counts} {q : List ℤ} {o h a : List ℕ} {point : Point} {known : Bool} {v : ℕ} (N : NearReady C q o h a point known v) where
  pub near-inside : known ≡ true → {r : Option ℕ} → IfSome r (InFace C (links_of o h a) (position_of q) point) → {f : ℕ} → r ≡ Some f
      → OnFace f ≡ locate_point C (links_of o h a) (position_of q) point
  near-inside k I {f} i =
      sym (locate-inside N.start.ready.rows.good (N.walkable (from-true k))
      (subst (λ (s : Option ℕ). IfSome s (InFace C (links_of o h a) (position_of q) point)) i I))

-- ---- positive, or 0 with a second that is
module _ (a b : ℤ) where
  pub positive-first : lt_z (pos 0) a ≡ true → lt_z (pos 0) a ≡ is_positive_of a b
  unfolding is_positive_of
  positive-first t = rw t refl

  module _ (f : lt_z (pos 0) a ≡ false) where
    pub positive-second : le_z (pos 0) a ≡ true → lt_z (pos 0) b ≡ is_positive_of a b
    unfolding is_positive_of
    positive-second t = rw (f, t) refl

    pub positive-not : le_z (pos 0) a ≡ false → le_z (pos 0) a ≡ is_positive_of a b
    unfolding is_positive_of
    positive-not t = rw (f, t) refl
