-- `legalize_edge` of an edge with the outer face behind it flips nothing. Assumes nothing.
use Rattle.std.specs.Prelude.{Bool, true, false, cond, List, [], ◌∷◌, ◌≡◌, refl, ◌⊎◌, ℕ, suc, ◌+◌, ◌*◌, ◌/◌}
use Rattle.std.proofs.Common.{sym, ◌∙◌, ap, subst, inl, inr, add-one, arith}
use Rattle.std.proofs.Math.Decide.{ℕ_discrete}
use Rattle.apply.specs.Apply.{first_face}
use Rattle.corner.specs.Corner.{Extended}
use Rattle.legalize.specs.declared.Entry.TheVariants.{HalfEdge}
use Rattle.legalize.specs.Legalize.{Legalizing, legalize, legalize_edge, popped, entry_edge, legalize_turn, is_done, measure}
use Rattle.math.specs.declared.Point.{Point}
use Rattle.mesh.specs.declared.Counts.{Counts}
use Rattle.mesh.specs.Mesh.{Links}
use Rattle.mesh.specs.Circle.{breaks_circle}
use Rattle.mesh.proofs.CircleLawsFacts.{outer-left, outer-right}
use Rattle.mesh.specs.Operations.{create_single_face_between_edge_and_next, create_new_face_adjacent_to_edge, with_face, with_vertex}
use Rattle.skipped.specs.Insert.{legalize_one, cover_edge}
use Rattle.sums.specs.Half.{rev}
use Rattle.sums.specs.Until.{until}
use Rattle.sums.proofs.UntilLaws.{until-done, until-next}

-- 01: "a half-edge of the outer face has no far vertex"
pub breaks-none : (L : Links) (p : ℕ → Point) (e : ℕ) → L.face (rev e) ≡ 0 → breaks_circle L p (e / 2) ≡ false
unfolding rev
breaks-none L p e o = go (ℕ_discrete e (2 * (e / 2)))
  where
    odd : (e : ℕ) → (e ≡ 2 * (e / 2) → ⊥) → rev e ≡ 2 * (e / 2)
    odd e n = omega arith

    even : (e : ℕ) → e ≡ 2 * (e / 2) → rev e ≡ 2 * (e / 2) + 1
    even e q = omega arith

    go : Dec (e ≡ 2 * (e / 2)) → breaks_circle L p (e / 2) ≡ false
    go (yes q) = outer-right L p (e / 2) (ap L.face (sym (even e q)) ∙ o)
    go (no n) = outer-left L p (e / 2) (ap L.face (sym (odd e n)) ∙ o)

pub legalize-still : (room : ℕ) (C : Counts) (p : ℕ → Point) (L : Links) (flips e : ℕ) → L.face (rev e) ≡ 0
    → legalize_edge room C p L flips e ≡ record { links = L; pending = []; flips = flips; full = false }
unfolding legalize popped entry_edge
legalize-still room C p L flips e o =
    let s : Legalizing = record { links = L; pending = e ∷ []; flips = flips; full = false } in
    let t : Legalizing = record { links = L; pending = []; flips = flips; full = false } in
    let d : legalize_turn room HalfEdge p s ≡ t = rw (breaks-none L p e o) refl in
    ap (λ (n : ℕ). until is_done (legalize_turn room HalfEdge p) n s) (add-one (measure C p s))
    ∙ until-next is_done (legalize_turn room HalfEdge p) (measure C p s) s refl
    ∙ ap (until is_done (legalize_turn room HalfEdge p) (measure C p s)) d
    ∙ until-done is_done (legalize_turn room HalfEdge p) (measure C p s) t refl

-- the first face, and a face between an edge and the next, where the legalized edge has the outer face behind it
pub first-still : (room : ℕ) (p : ℕ → Point) (C : Counts) (L : Links) (e : ℕ) → (create_new_face_adjacent_to_edge L C e).face (rev e) ≡ 0
    → first_face room p C L e
    ≡ record { counts = with_vertex C; links = create_new_face_adjacent_to_edge L C e; faces = 1; flips = 0; full = false }
unfolding first_face
first-still room p C L e o =
    ap (λ (g : Legalizing). record { counts = with_vertex C; links = g.links; faces = 1; flips = g.flips; full = g.full })
    (legalize-still room (with_vertex C) p (create_new_face_adjacent_to_edge L C e) 0 e o)

pub cover-still : (room : ℕ) (p : ℕ → Point) (m : Extended) (e d : ℕ)
    → (create_single_face_between_edge_and_next m.links m.counts e).face (rev d) ≡ 0
    → cover_edge room p m e d
    ≡ record {
      counts = with_face m.counts;
      links = create_single_face_between_edge_and_next m.links m.counts e;
      faces = suc m.faces;
      flips = m.flips;
      full = false;
    }
unfolding cover_edge legalize_one
cover-still room p m e d o =
    ap (λ (g : Legalizing). record { counts = with_face m.counts; links = g.links; faces = suc m.faces; flips = g.flips; full = g.full })
    (legalize-still room (with_face m.counts) p (create_single_face_between_edge_and_next m.links m.counts e) m.flips d o)
