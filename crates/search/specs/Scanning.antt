-- The two loops of the scan: over the inner faces by number, and along the boundary. Assumes nothing.
use Rattle.std.specs.Prelude.{Bool, true, false, List, Some, None, ◌≢◌, ◌≡◌, ℤ, pos, length}
use Rattle.std.proofs.Math.Path.{refl, sym, ap, subst}
use Rattle.std.proofs.Common.{◌∙◌}
use Prim.Native.Nat.{ℕ, suc, ◌+◌, ◌-◌, ◌*◌, ◌<◌, ◌≤◌}
use Rattle.std.proofs.Math.Decide.{ℕ_discrete}
use native.Mathlib.Omega.{arith}
use Rattle.std.proofs.Math.Dec.{T}
use Rattle.std.specs.Int.Signed.{lt_z}
use Rattle.dcel.specs.Rows.{halves_of, row_of, links_of, position_of, There, Placed}
use Rattle.dcel.specs.MeshHeld.{MeshHeld, there, there-adjacent, next-in, origin-in, adjacent-in}
use Rattle.location.specs.Scan.{holds_at, first_holding, first_left}
use Rattle.location.proofs.ScanLaws.{left-found}
use Rattle.math.specs.declared.Point.{Point}
use Rattle.math.specs.Determinant.{InRange, orient2d}
use Rattle.mesh.specs.declared.Counts.{Counts}
use Rattle.mesh.specs.Mesh.{In}
use Rattle.mesh.specs.Area.{boundary_length, hull_edge}
use Rattle.mesh.proofs.BoundaryLaws.{next-inverse}
use Rattle.sums.proofs.BitLaws.{from-true}
use Rattle.sums.proofs.BoundedLaws.{first-below-is}
use Rattle.sums.specs.Half.{rev}
use Rattle.sums.specs.Iterate.{Inverse, iter, period_below}
use Rattle.search.specs.Round.{steps_to, Passing, first_passing, passing-start, passing-below, passing-on, passing-less, passing-hit, passing-none}
use Rattle.search.specs.SearchRows.{TriangleReady, ScanReady, HoldingIs, LeftReady, ready_held, ready-placed}

-- ---- the inner faces
-- none of 1 to f - 1 holds the point, of m faces
pub record Holding (q : List ℤ) (h a : List ℕ) (point : Point) (m f : ℕ) : Type 0 where
  pub low : 0 < f
  pub high : f ≤ m
  pub none : (o : List ℕ) (j : ℕ) → suc j < f → T (holds_at (links_of o h a) (position_of q) point (row_of a (suc j))) → ⊥

module _ {C : Counts} {q : List ℤ} {h a : List ℕ} {point : Point} (R : ScanReady C q h a point) where
  H : MeshHeld C R.outs h a
  H = ready_held R.ready

  pub holding-start : Holding q h a point C.faces 1
  holding-start = record { low = omega arith; high = H.rules.some; none = λ o j l t. omega arith }

  -- face f, whose stored edge is e
  module _ {f : ℕ} (l : f < C.faces) where
    pub face-there : f < length a
    face-there = there-adjacent H l

    pub face-ready : 0 < f → {e : ℕ} → e ≡ row_of a f → TriangleReady q h point e
    unfolding links_of
    face-ready i x = rw x (record {
      turn = record { counts = C; outs = R.outs; faces = a; ready = R.ready; used = adjacent-in H l };
      inner = (let z = H.rules.faces.stored l in omega arith);
    })

  module _ {f : ℕ} (K : Holding q h a point C.faces f) where
    stops : (o : List ℕ) → (f < C.faces → T (holds_at (links_of o h a) (position_of q) point (row_of a f)))
        → f ≡ first_holding C (links_of o h a) (position_of q) point + 1
    unfolding first_holding links_of
    stops o passes =
        let i = K.low in let m = K.high in
        let z : f ≡ suc (f - 1) = omega arith in
        let e = first-below-is (C.faces - 1) (λ j. holds_at (links_of o h a) (position_of q) point (row_of a (suc j))) {k = f - 1} (omega arith)
        (λ u. subst (λ (g : ℕ). T (holds_at (links_of o h a) (position_of q) point (row_of a g))) z (passes (omega arith)))
        (λ j u. K.none o j (omega arith)) in
        omega arith

    module _ (l : f < C.faces) {e : ℕ} (x : e ≡ row_of a f) {t : Bool} (y : (o s : List ℕ) → t ≡ holds_at (links_of o h s) (position_of q) point e) where
      tested : (o : List ℕ) → t ≡ holds_at (links_of o h a) (position_of q) point (row_of a f)
      tested o = y o a ∙ ap (holds_at (links_of o h a) (position_of q) point) x

      pub holding-on : t ≡ false → Holding q h a point C.faces (f + 1)
      holding-on n = record { low = omega arith; high = omega arith; none = λ o j u. go o j u (ℕ_discrete (suc j) f) }
        where
          go : (o : List ℕ) (j : ℕ) → suc j < f + 1 → Dec (suc j ≡ f) → T (holds_at (links_of o h a) (position_of q) point (row_of a (suc j))) → ⊥
          go o j u (yes z) w = subst T (ap (λ (g : ℕ). holds_at (links_of o h a) (position_of q) point (row_of a g)) z ∙ sym (tested o) ∙ n) w
          go o j u (no z) w = K.none o j (omega arith) w

      pub holding-hit : t ≡ true → (o : List ℕ) → HoldingIs C (links_of o h a) (position_of q) point (Some f)
      holding-hit n o = (stops o (λ u. from-true (sym (tested o) ∙ n)), l)

    pub holding-end : C.faces ≤ f → (o : List ℕ) → HoldingIs C (links_of o h a) (position_of q) point None
    holding-end l o = let m = K.high in let z = stops o (λ u. absurd (omega arith)) in omega arith

-- ---- the boundary
-- the point is strictly left of e
abbrev left_of : List ℤ → List ℕ → Point → ℕ → Bool
left_of q h point e = lt_z (pos 0) (orient2d (position_of q ((halves_of h).origin e)) (position_of q ((halves_of h).origin (rev e))) point)

-- of no half-edge from the stored one on to e, which starts at p
pub record Along (q : List ℤ) (h : List ℕ) (point : Point) (start e : ℕ) (p : Point) : Type 0 where
  pub passing : Passing (length h) (halves_of h).next (left_of q h point) start e
  pub from : p ≡ position_of q ((halves_of h).origin e)

abbrev pub boundary_left : List ℕ → ℕ → ℕ → ℕ
boundary_left h start e = length h - steps_to (length h) (halves_of h).next start e

module _ {C : Counts} {q : List ℤ} {h a : List ℕ} {point : Point} (R : LeftReady C q h a point) where
  M : MeshHeld C R.scan.outs h a
  M = ready_held R.scan.ready

  inverse : Inverse (2 * C.edges) (halves_of h).next (halves_of h).prev
  unfolding links_of
  inverse = next-inverse M.rules

  more : 2 * C.edges ≤ length h
  more = let r = M.room.halves in omega arith

  placed : {e : ℕ} → In C e → Placed q ((halves_of h).origin e)
  placed l = ready-placed R.scan.ready (origin-in M l)

  pub outer-there : 0 < length a
  outer-there = there-adjacent M M.rules.some

  module _ {start : ℕ} (s : start ≡ row_of a 0) where
    start-in : start < 2 * C.edges
    start-in = rw s (adjacent-in M M.rules.some)

    pub start-there : There h start
    start-there = there M start-in

    first-is : (o : List ℕ) → first_passing (2 * C.edges) (halves_of h).next (left_of q h point) start ≡ first_left C (links_of o h a) (position_of q) point
    unfolding first_left boundary_length links_of
    first-is o = rw s refl

    length-is : (o : List ℕ) → period_below (2 * C.edges) (halves_of h).next start ≡ boundary_length C (links_of o h a)
    unfolding boundary_length links_of
    length-is o = rw s refl

    found : first_passing (2 * C.edges) (halves_of h).next (left_of q h point) start < period_below (2 * C.edges) (halves_of h).next start
    found =
        let l = left-found M.rules (position_of q) point R.scan.ready.rows.good.turning R.none in
        let i = first-is R.scan.outs in let j = length-is R.scan.outs in
        omega arith

    pub along-placed : {u : ℕ} → u ≡ (halves_of h).origin start → 2 * u + 1 < length q
    along-placed x = rw x (placed start-in).there

    pub along-start : {u : ℕ} {p : Point} → u ≡ (halves_of h).origin start → p ≡ position_of q u → Along q h point start start p
    along-start x y = record { passing = passing-start inverse (left_of q h point) start-in more; from = y ∙ ap (position_of q) x }

    module _ {e : ℕ} {p : Point} (K : Along q h point start e p) where
      in_use : In C e
      in_use = passing-below inverse (left_of q h point) start-in more K.passing

      pub along-there : There h e
      along-there = there M in_use

      -- the next half-edge d, from v at t
      module _ {d : ℕ} (x : d ≡ (halves_of h).next e) where
        pub along-next : There h d
        along-next = rw x (there M (next-in M in_use))

        module _ {v : ℕ} (y : v ≡ (halves_of h).origin d) where
          next-placed : Placed q v
          next-placed = rw (y, x) (placed (next-in M in_use))

          pub along-next-placed : 2 * v + 1 < length q
          along-next-placed = next-placed.there

          module _ {t : Point} (z : t ≡ position_of q v) where
            pub along-range : InRange p × InRange t × InRange point
            along-range = (rw K.from (placed in_use).range, rw z next-placed.range, R.scan.ready.range)

            module _ {i : ℤ} (j : i ≡ orient2d p t point) where
              tested-left : left_of q h point e ≡ lt_z (pos 0) i
              unfolding links_of
              tested-left =
                  sym (ap (lt_z (pos 0)) j ∙ rw (K.from, z, y, x)
                  (ap (λ (w : ℕ). lt_z (pos 0) (orient2d (position_of q ((halves_of h).origin e)) (position_of q w) point)) (M.rules.links.origin-next in_use)))

              pub along-hit : lt_z (pos 0) i ≡ true → (o : List ℕ) → e ≡ hull_edge (links_of o h a) (first_left C (links_of o h a) (position_of q) point)
              unfolding links_of
              along-hit n o =
                  sym (passing-hit inverse (left_of q h point) start-in more K.passing (tested-left ∙ n))
                  ∙ ap (λ (k : ℕ). iter k (halves_of h).next start) (first-is o) ∙ ap (iter (first_left C (links_of o h a) (position_of q) point) (halves_of h).next) s

              goes_on : lt_z (pos 0) i ≡ false → (halves_of h).next e ≢ start
              goes_on n w = let l = found in let m = passing-none inverse (left_of q h point) start-in more K.passing (tested-left ∙ n) w in omega arith

              pub along-on : lt_z (pos 0) i ≡ false → Along q h point start d t
              along-on n = record {
                passing = rw x (passing-on inverse (left_of q h point) start-in more K.passing (tested-left ∙ n) (goes_on n));
                from = z ∙ ap (position_of q) y;
              }

              pub along-less : lt_z (pos 0) i ≡ false → boundary_left h start d < boundary_left h start e
              along-less n = rw x (passing-less inverse (left_of q h point) start-in more K.passing (goes_on n))
