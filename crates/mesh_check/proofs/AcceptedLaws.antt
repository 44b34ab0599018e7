-- Laws of specs/Accepted.antt.
use Rattle.std.specs.Prelude.{◌≡◌, refl, Bool, true, false, cond, ◌||◌, List, [], ℕ, ◌+◌, ◌-◌, ◌*◌, ◌<◌, ℤ, length, Ok, Err}
use Rattle.std.proofs.Math.Path.{sym, subst}
use Rattle.std.proofs.Common.{◌∙◌, ap, le_refl}
use Rattle.std.proofs.Math.Decide.{dec_lt}
use native.Mathlib.Omega.{arith}
use borrow.Author.Tests.{lt-ltb, le-ltb, ltb-false}
use Rattle.std.proofs.Math.Dec.{ltb}
use Rattle.dcel.specs.MeshRows.{MeshRows, links_in, places_in}
use Rattle.dcel.specs.Rows.{position_of}
use Rattle.math.specs.declared.Point.{Point}
use Rattle.math.specs.Determinant.{InRange}
use Rattle.mesh.specs.declared.Counts.{Counts}
use Rattle.mesh.specs.Mesh.{Links}
use Rattle.mesh.specs.Area.{LeftTurning}
use Rattle.mesh.specs.Wf.{Wf}
use Rattle.mesh_check.specs.Checked.{Checked}
use Rattle.mesh_check.specs.declared.Refusal.{Refusal}
use Rattle.mesh_check.specs.Check.{refused, count_refused, first_outside, places_with, mesh_rows_short, mesh_short, vertex_or_point, check_range, check_faces, check_mesh, check_of, point_count, vertex_count, rows_short, range_with, check_with}
use Rattle.mesh_check.proofs.CheckLawsFacts.{passes-good, accepted-limits, accepted-passes, passes-accepted, faces-agree, check-agree, then_next, then-refused}
use Rattle.sums.proofs.BitLaws.{from_false}
use Rattle.mesh_check.specs.Accepted.{MeshSizes, AcceptedMesh, AcceptedWith, RowsInLimits}

pub or-false : (a b : Bool) → (a || b) ≡ false → (a ≡ false) × (b ≡ false)
or-false true b e = absurd (let t = from_false e in t)
or-false false b e = (refl, e)

module _ {n : ℕ} {m : MeshRows} where
  pub not-short-rows : mesh_short n m ≡ false → MeshSizes n m
  unfolding mesh_rows_short
  not-short-rows e =
      let p = m.positions in let o = m.outs in let h = m.halves in let a = m.faces in
      let x = or-false (ltb (length p) (2 * n)) (ltb (length o) n || (ltb (length h) (24 * n) || ltb (length a) (2 * n))) e in
      let y = or-false (ltb (length o) n) (ltb (length h) (24 * n) || ltb (length a) (2 * n)) x.1 in
      let z = or-false (ltb (length h) (24 * n)) (ltb (length a) (2 * n)) y.1 in
      record {
        positions = ltb-false (length p) (2 * n) x.0;
        outs = ltb-false (length o) n y.0;
        halves = ltb-false (length h) (24 * n) z.0;
        faces = ltb-false (length a) (2 * n) z.1;
      }

  pub rows-not-short : MeshSizes n m → mesh_short n m ≡ false
  unfolding mesh_rows_short
  rows-not-short R =
      rw (
        le-ltb (length m.positions) (2 * n) R.positions,
        le-ltb (length m.outs) n R.outs,
        le-ltb (length m.halves) (24 * n) R.halves,
        le-ltb (length m.faces) (2 * n) R.faces,
      )

module _ {C : Counts} {m : MeshRows} where
  pub check-accepts : check_of C m ≡ Ok tt → AcceptedMesh C m
  unfolding check_of
  check-accepts e =
      let P = accepted-passes e in
      record { least = P.least; most = P.most; rows = not-short-rows P.long; good = passes-good (le_refl C.vertices) P }

  pub accepts-check : AcceptedMesh C m → check_of C m ≡ Ok tt
  unfolding check_of
  accepts-check A = passes-accepted (record {
    least = A.least;
    most = A.most;
    long = rows-not-short A.rows;
    range = A.good.range;
    wf = A.good.wf;
    turning = A.good.turning;
  })

-- ---- a call with points
module _ (s : ℕ) (p q : ℕ → Point) where
  pub vertex-is : (v : ℕ) → v < s → vertex_or_point s p q v ≡ p v
  unfolding vertex_or_point
  vertex-is v l = rw (lt-ltb v s l)

  pub point-is : (i : ℕ) → vertex_or_point s p q (s + i) ≡ q i
  unfolding vertex_or_point
  point-is i = rw (le-ltb (s + i) s (omega arith)) (ap q (gone s i))
    where
      gone : (s i : ℕ) → s + i - s ≡ i
      gone s i = omega arith

-- only the positions of the counted vertices matter to the faces
turning-agree : {C : Counts} {L : Links} {q r : ℕ → Point} → Wf C L → ((v : ℕ) → v < C.vertices → q v ≡ r v)
    → LeftTurning C L q → LeftTurning C L r
turning-agree {C} {L} {q} {r} W same H = record {
  left = λ {f} u l.
      let a< = W.ranges.adjacent< l in
      let b< = W.ranges.next< a< in
      rw (← at a<, ← at b<, ← at (W.ranges.next< b<)) (H.left u l);
}
  where
    at : {e : ℕ} → e < 2 * C.edges → q (L.origin e) ≡ r (L.origin e)
    at {e} l = same (L.origin e) (W.ranges.origin< l)

-- a row that is too short: 1 or 2
pub short-refused : (points : List ℤ) (C : Counts) (m : MeshRows) → (r : Refusal) × (range_with points true C m ≡ Err r)
unfolding range_with check_range
short-refused points C m =
    let n = vertex_count C points in
    let i = first_outside n (places_with points C m) in
    go (count_refused n) (cond (ltb i n) (refused 3 i) (Ok tt))
  where
    go : (b : Bool) (x : Checked) → (r : Refusal) × (cond b (refused 1 0) (cond true (refused 2 0) x) ≡ Err r)
    go true x = (_, refl)
    go false x = (_, refl)

module _ (points : List ℤ) (short : Bool) (C : Counts) (m : MeshRows) where
  pub range-rows : range_with points short C m ≡ Ok tt → RowsInLimits C m
  unfolding range_with rows_short vertex_count
  range-rows e =
      let A = accepted-limits e in
      let mesh = mesh_short (C.vertices + point_count points) m in
      let alone = ltb (length points) (2 * point_count points) in
      let R = not-short-rows {n = C.vertices + point_count points} {m = m} (or-false alone mesh (or-false short (alone || mesh) A.long).1).1 in
      let a = R.positions in let b = R.outs in let c = R.halves in let d = R.faces in
      record {
        most = let k = A.most in omega arith;
        rows = record { positions = omega arith; outs = omega arith; halves = omega arith; faces = omega arith };
        range = λ {v} l. subst InRange (vertex-is C.vertices (places_in m) (position_of points) v l) (A.range (omega arith));
      }

  pub range-long : range_with points short C m ≡ Ok tt → short ≡ false
  unfolding range_with
  range-long e = (or-false short (rows_short (vertex_count C points) points m) (accepted-limits e).long).0

  -- a call's five rows are these three, and then the two of its mesh
  pub with-refused : {r : Refusal} → range_with points short C m ≡ Err r → Err r ≡ check_with points short C m
  unfolding range_with check_with check_mesh
  with-refused e = sym (then-refused _ e)

  pub with-next : range_with points short C m ≡ Ok tt → check_faces C (links_in m) (places_in m) ≡ check_with points short C m
  unfolding range_with check_with check_mesh
  with-next e =
      sym (then_next _ e
      ∙ faces-agree (vertex-is C.vertices (places_in m) (position_of points)) C (links_in m) (le_refl C.vertices))

module _ {points : List ℤ} {short : Bool} {C : Counts} {m : MeshRows} where
  pub with-accepts : check_with points short C m ≡ Ok tt → AcceptedWith points C m × (short ≡ false)
  unfolding check_with rows_short vertex_count
  with-accepts e =
      let P = accepted-passes e in
      let mesh = mesh_short (C.vertices + point_count points) m in
      let alone = ltb (length points) (2 * point_count points) in
      let u = or-false short (alone || mesh) P.long in
      let w = or-false alone mesh u.1 in
      let same = vertex-is C.vertices (places_in m) (position_of points) in (
        record {
          least = P.least;
          most = P.most;
          pairs = ltb-false (length points) (2 * point_count points) w.0;
          rows = not-short-rows w.1;
          range = λ {i} l. subst InRange (point-is C.vertices (places_in m) (position_of points) i) (P.range (omega arith));
          good = record {
            wf = P.wf;
            turning = turning-agree P.wf same P.turning;
            range = λ {v} l. subst InRange (same v l) (P.range (omega arith));
          };
        },
        u.0,
      )

  pub accepts-with : short ≡ false → AcceptedWith points C m → check_with points short C m ≡ Ok tt
  unfolding check_with rows_short vertex_count
  accepts-with e A =
      let same = vertex-is C.vertices (places_in m) (position_of points) in
      passes-accepted (record {
        least = A.least;
        most = A.most;
        long = rw (e, le-ltb (length points) (2 * point_count points) A.pairs) (rows-not-short A.rows);
        range = λ {v} l. all v l (dec_lt v C.vertices);
        wf = A.good.wf;
        turning = turning-agree A.good.wf (λ v l. sym (same v l)) A.good.turning;
      })
    where
      all : (v : ℕ) → v < C.vertices + point_count points → Dec (v < C.vertices)
          → InRange (vertex_or_point C.vertices (places_in m) (position_of points) v)
      all v l (yes k) = subst InRange (sym (vertex-is C.vertices (places_in m) (position_of points) v k)) (A.good.range k)
      all v l (no k) =
          let i : v ≡ C.vertices + (v - C.vertices) = omega arith in
          rw i (subst InRange (sym (point-is C.vertices (places_in m) (position_of points) (v - C.vertices))) (A.range (omega arith)))

-- no points: what `check` answers
pub with_none : (C : Counts) (m : MeshRows) → check_with [] false C m ≡ check_of C m
unfolding check_with check_of rows_short vertex_count point_count
with_none C m =
    ap (λ (n : ℕ). check_mesh n (mesh_short n m) C (links_in m) (vertex_or_point C.vertices (places_in m) (position_of []))) (same C.vertices)
    ∙ check-agree (vertex-is C.vertices (places_in m) (position_of [])) (mesh_short C.vertices m) C (links_in m) (le_refl C.vertices)
  where
    same : (n : ℕ) → n + 0 ≡ n
    same n = omega arith
