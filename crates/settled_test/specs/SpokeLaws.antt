-- Laws of what is carried from spoke to spoke: what the first and each that follows read is in the rows, and the test says whether the edge
-- breaks the rule. Over plain values, so that the needs of the code are single applications. Assumes nothing.
use Rattle.std.specs.Prelude.{Bool, true, false, List, ◌≢◌, ◌≡◌, ℕ, ◌+◌, ◌*◌, ◌/◌, ◌<◌, ℤ, length, ◌<ℤ◌}
use Rattle.std.proofs.lemmas.Bool.{false≢true}
use Rattle.std.proofs.Math.Path.{refl, sym, ap, subst}
use Rattle.std.proofs.Common.{◌∙◌, arith}
use borrow.Author.Tests.{lt-ltb}
use Rattle.std.proofs.Math.Dec.{T}
use Rattle.std.proofs.Math.IntN.{pos}
use Rattle.circle_test.specs.GoodRows.{GoodRows, held, corner}
use Rattle.dcel.specs.declared.handles.HalfEdgeEntry.{HalfEdgeEntry}
use Rattle.dcel.specs.Rows.{halves_of, row_of, links_of, position_of, There, EntryOf}
use Rattle.dcel.specs.MeshHeld.{there, out-in, prev-in}
use Rattle.math.specs.declared.Point.{Point}
use Rattle.math.specs.Determinant.{InRange, contained_in_circumference}
use Rattle.mesh.specs.declared.Counts.{Counts}
use Rattle.mesh.specs.Area.{circle_at}
use Rattle.mesh.specs.CircleLaws.{Breaks}
use Rattle.mesh.proofs.CircleLawsFacts.{breaks}
use Rattle.mesh.proofs.HeightLawsFacts.{even-half, circle-half}
use Rattle.mesh.specs.Mesh.{Links, In}
use Rattle.mesh.specs.Triangle.{triangle, rev-in}
use Rattle.sums.proofs.BitLaws.{is_true, is_false}
use Rattle.sums.specs.Half.{rev}
use Rattle.sums.proofs.HalfLaws.{rev-rev, rev-even}
use Rattle.settled_test.specs.declared.Spoke.{Spoke}
use Rattle.settled_test.specs.Spoke.{SpokeOf, FirstSpoke, broken_at}
use Rattle.settled_test.specs.StarLaws.{Keeps}

-- ---- the test, as the code goes
module _ (center : Point) (at : Spoke) (face : ℕ) (next : Point) where
  pub outer-here : face ≡ 0 → false ≡ broken_at center at face next
  unfolding broken_at
  outer-here e = rw e refl

  module _ (i : face ≢ 0) where
    pub outer-before : at.face ≡ 0 → false ≡ broken_at center at face next
    unfolding broken_at
    outer-before e = rw (lt-ltb 0 face (omega arith), e) refl

    pub both-inner : at.face ≢ 0 → {b : Bool} → b ≡ contained_in_circumference center at.here next at.before
        → b ≡ broken_at center at face next
    unfolding broken_at
    both-inner j e = rw (lt-ltb 0 face (omega arith), lt-ltb 0 at.face (omega arith)) e

-- an edge that breaks the rule has an inner face on either side, from whichever half e it is seen
inner-sides : (L : Links) (p : ℕ → Point) (e : ℕ) → Breaks L p (e / 2) → (0 < L.face e) × (0 < L.face (rev e))
inner-sides L p e B =
    even-half (λ x. 0 < L.face x → 0 < L.face (rev x) → (0 < L.face e) × (0 < L.face (rev e))) e
    (λ i j. (i, j)) (λ i j. (rw (← rev-rev e) j, i))
    B.inner-left (rw (rev-even (e / 2)) B.inner-right)

module _ {C : Counts} {q : List ℤ} {o h a : List ℕ} (R : GoodRows C q o h a) {v : ℕ} (l : v < C.vertices) where
  out-origin : (halves_of h).origin (row_of o v) ≡ v
  unfolding links_of
  out-origin = R.good.wf.about.based l

  pub center-placed : 2 * v + 1 < length q
  center-placed = rw out-origin at (corner R (out-in (held R) l)).origin.there

  -- ---- the first
  module _ {e : ℕ} (x : e ≡ row_of o v) {t : ℕ} (y : t ≡ rev e) where
    back_in : In C t
    back_in = rw (y, x) (rev-in C (out-in (held R) l))

    pub back-there : There h t
    back-there = there (held R) back_in

    module _ {s : HalfEdgeEntry} (E : EntryOf (halves_of h) t s) where
      pub end-placed : 2 * s.origin + 1 < length q
      end-placed = rw E.origin (corner R back_in).origin.there

      pub back-prev : There h s.prev
      back-prev = rw E.prev (corner R back_in).prev

      module _ {w : ℕ} (z : w ≡ (halves_of h).origin s.prev) where
        pub back-placed : 2 * w + 1 < length q
        back-placed = rw (z, E.prev) (corner R back_in).far.there

        pub first-spoke : {here before : Point} → here ≡ position_of q s.origin → before ≡ position_of q w
            → FirstSpoke q o h v (record { e = e; here = here; before = before; face = s.face })
        first-spoke m n = record {
          out = x;
          spoke = record {
            origin = ap (halves_of h).origin x ∙ out-origin;
            here = m ∙ ap (position_of q) (E.origin ∙ ap (halves_of h).origin y);
            face = E.face ∙ ap (halves_of h).face y;
            before = λ _. n ∙ ap (position_of q) (z ∙ ap (halves_of h).origin (E.prev ∙ ap (halves_of h).prev y));
            range = rw (n, z, E.prev) (corner R back_in).far.range;
          };
        }

  -- ---- each
  module _ {at : Spoke} (i : In C at.e) (S : SpokeOf q h v at) {s : HalfEdgeEntry} (E : EntryOf (halves_of h) at.e s) where
    pub prev-there : There h s.prev
    prev-there = rw E.prev (corner R i).prev

    module _ {w : ℕ} (x : w ≡ (halves_of h).origin s.prev) where
      pub next-placed : 2 * w + 1 < length q
      next-placed = rw (x, E.prev) (corner R i).far.there

      module _ {next : Point} (y : next ≡ position_of q w) where
        next-is : next ≡ position_of q ((halves_of h).origin ((halves_of h).prev at.e))
        next-is = y ∙ ap (position_of q) (x ∙ ap (halves_of h).origin E.prev)

        here-range : InRange at.here
        here-range = rw S.here (corner R (rev-in C i)).origin.range

        module _ {center : Point} (c : center ≡ position_of q v) where
          center-is : center ≡ position_of q ((halves_of h).origin at.e)
          center-is = c ∙ ap (position_of q) (sym S.origin)

          pub spoke-range : InRange center × InRange at.here × InRange next × InRange at.before
          spoke-range = (
            rw center-is (corner R i).origin.range,
            here-range,
            rw next-is (corner R i).far.range,
            S.range,
          )

          broken : Breaks (links_of o h a) (position_of q) (at.e / 2) → true ≡ broken_at center at s.face next
          unfolding links_of circle_at
          broken B =
              let k = inner-sides (links_of o h a) (position_of q) at.e B in
              let f : 0 < s.face = rw E.face k.0 in
              let g : 0 < at.face = rw S.face k.1 in
              let d = subst (λ (z : ℤ). pos 0 <ℤ z) (circle-half (links_of o h a) (position_of q) at.e) B.inside in
              let t : T (contained_in_circumference center at.here next at.before) =
              rw (center-is, S.here, next-is, S.before g) d.lt in
              both-inner center at s.face next (omega arith) (omega arith) (sym (is_true _ t))

          pub spoke-keeps : {b : Bool} → b ≡ broken_at center at s.face next → b ≡ false → Keeps q o h a at.e
          spoke-keeps t f = is_false _ (λ b.
              false≢true (sym f ∙ t ∙ sym (broken (breaks (links_of o h a) (position_of q) (at.e / 2) (is_true _ b)))))

        -- the spoke that follows: the reverse of prev, whose face is that of the spoke
        module _ {d : ℕ} (k : d ≡ rev s.prev) where
          back_is : rev d ≡ (halves_of h).prev at.e
          back_is = ap rev k ∙ rev-rev s.prev ∙ E.prev

          origin_on : (halves_of h).origin d ≡ (halves_of h).origin at.e
          unfolding links_of
          origin_on =
              ap (halves_of h).origin (k ∙ ap rev E.prev)
              ∙ sym (R.good.wf.links.origin-next (prev-in (held R) i)) ∙ ap (halves_of h).origin (R.good.wf.links.next-prev i)

          face-on : (halves_of h).face (rev d) ≡ (halves_of h).face at.e
          unfolding links_of
          face-on =
              ap (halves_of h).face back_is
              ∙ sym (R.good.wf.links.face-next (prev-in (held R) i)) ∙ ap (halves_of h).face (R.good.wf.links.next-prev i)

          -- in a triangle the far vertex of the reverse is the end of the spoke before
          far-on : 0 < s.face → (halves_of h).origin (rev at.e) ≡ (halves_of h).origin ((halves_of h).prev (rev d))
          unfolding links_of
          far-on f =
              let T = triangle R.good.wf i (rw (← E.face) f) in
              T.to-a ∙ ap (halves_of h).origin (sym (ap (halves_of h).prev back_is ∙ T.prev-c))

          pub spoke-next : SpokeOf q h v (record { e = d; here = next; before = at.here; face = s.face })
          spoke-next = record {
            origin = origin_on ∙ S.origin;
            here = next-is ∙ ap (λ (x : ℕ). position_of q ((halves_of h).origin x)) (sym back_is);
            face = E.face ∙ sym face-on;
            before = λ f. S.here ∙ ap (position_of q) (far-on f);
            range = here-range;
          }
