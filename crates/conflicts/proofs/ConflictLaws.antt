-- What a flip and a new face do to the vertices inside circles. A flip at a determinant of at least 0 never raises the
-- count, one at a positive determinant lowers it, and a new face raises it by at most the number of vertices. Assumes
-- nothing.
use Rattle.std.specs.Prelude.{◌≡◌, refl, [], ◌∷◌, ℤ, ◌+ℤ◌, ◌-ℤ◌, ◌<ℤ◌, ◌≤ℤ◌}
use Rattle.std.proofs.Common.{sym, ◌∙◌, subst, le_refl, le_of_eq, add-le-add}
use Rattle.std.proofs.Math.Path.{ap}
use Prim.Native.Nat.{ℕ, suc, ◌+◌, ◌*◌, ◌-◌, ◌<◌, ◌≤◌}
use Rattle.std.proofs.Math.Nat.{le_trans}
use native.Mathlib.Omega.{arith}
use Rattle.std.proofs.Math.IntN.{pos, nat_abs}
use Rattle.std.specs.Int.Signed.{lt_z}
use Rattle.algebra.proofs.Bound.{nat_abs-+}
use Rattle.algebra.specs.Ring.{num, ◌⊕◌, ◌⊖◌}
use Rattle.algebra.proofs.RingLaws.{ring, v0, v1, v2, v3, v4, v5}
use Rattle.algebra.proofs.Sign.{eq-in, eq-by}
use Rattle.math.specs.declared.Point.{Point}
use Rattle.math.specs.Determinant.{Incircle, incircle}
use Rattle.math.proofs.Plane.{E·, A, B, C, env3, contained-next, incircle-other, flip-left, flip-right}
use Rattle.sums.specs.Bit.{bit}
use Rattle.sums.proofs.BitLaws.{bit-yes}
use Rattle.sums.specs.Bounded.{count}
use Rattle.sums.proofs.BoundedLaws.{count-ext, count-le, count-more, count-two, count-two-less}
use Rattle.sums.proofs.SumLaws.{sum-natural, sum-small, sum_more}
use Rattle.mesh.specs.declared.Counts.{Counts}
use Rattle.mesh.specs.Mesh.{Links}
use Rattle.mesh.specs.Operations.{flip_cw}
use Rattle.mesh.specs.Flip.{Flippable}
use Rattle.mesh.specs.Area.{over_faces, circle_at}
use Rattle.mesh.specs.HeightLaws.{FaceAdded}
use Rattle.mesh.proofs.HeightLawsFacts.{added-over, flip-over, circle-even, left_here, left_there}
use Rattle.mesh.specs.Good.{Good}
use Rattle.mesh.specs.Wf.{Wf}
use Rattle.conflicts.specs.Conflicts.{inside_count, conflicts}
use Rattle.conflicts.specs.InsideLaws.{Quad}
use Rattle.conflicts.proofs.InsideLawsFacts.{inside, fewer-inside}

-- ---- a corner is not inside
corner-first : (a b c : Point) → incircle a b c a ≡ pos 0
unfolding incircle
corner-first a b c = ring (env3 a b c) (Incircle E· A B C A) (num (pos 0)) refl

corner-third : (a b c : Point) → incircle a b c c ≡ pos 0
unfolding incircle
corner-third a b c = ring (env3 a b c) (Incircle E· A B C C) (num (pos 0)) refl

inside-next : (C : Counts) (p : ℕ → Point) (a b c : Point) → inside_count C p a b c ≡ inside_count C p b c a
unfolding inside_count
inside-next C p a b c = count-ext C.vertices (λ v. inside a b c (p v)) (λ v. inside b c a (p v)) (λ v _. contained-next a b c (p v))

-- ---- a flip
changed : (N N' i j k m : ℕ) → pos N' ≡ pos N +ℤ ((pos k -ℤ pos i) +ℤ (pos m -ℤ pos j)) → N' + (i + j) ≡ N + (k + m)
changed N N' i j k m e = ap nat_abs (eq-by (eq-in (pos N ∷ pos N' ∷ pos i ∷ pos j ∷ pos k ∷ pos m ∷ []) v1 (v0 ⊕ ((v4 ⊖ v2) ⊕ (v5 ⊖ v3))) e)
    (v1 ⊕ (v2 ⊕ v3)) (v0 ⊕ (v4 ⊕ v5)) refl)

module _ {C : Counts} {L : Links} {p : ℕ → Point} (G : Good C L p) {u : ℕ} (B : Flippable C L u)
    (h : pos 0 ≤ℤ circle_at L p (2 * u)) where
  abbrev a : Point
  a = p (L.origin (2 * u))

  abbrev b : Point
  b = p (L.origin (2 * u + 1))

  abbrev c : Point
  c = p (L.origin (L.prev (2 * u)))

  abbrev d : Point
  d = p (L.origin (L.prev (2 * u + 1)))

  quad : Quad a b c d
  quad =
      let S = left_here G.wf B p G.turning in let R = left_there G.wf B p G.turning in
      let k = subst (λ (z : ℤ). pos 0 ≤ℤ z) (circle-even G.wf B p) h in
      record { abc = S; bad = R; cad = flip-left a b c d S R k; dbc = flip-right a b c d S R k; det = k }

  flip-conflicts : conflicts C (flip_cw L u) p + (inside_count C p a b c + inside_count C p b a d)
      ≡ conflicts C L p + (inside_count C p d b c + inside_count C p c a d)
  unfolding conflicts over_faces
  flip-conflicts = changed _ _ _ _ _ _
      (sum-natural (C.faces - 1) (λ f. at_inside (flip_cw L u) ((flip_cw L u).adjacent (suc f)))
      ∙ flip-over G.wf B p (λ a b c. pos (inside_count C p a b c)) (λ a b c. ap pos (inside-next C p a b c))
      ∙ ap (λ (z : ℤ). z +ℤ (gain d b c a b c +ℤ gain c a d b a d))
      (sym (sum-natural (C.faces - 1) (λ f. at_inside L (L.adjacent (suc f))))))
    where
      at_inside : Links → ℕ → ℕ
      at_inside M e = inside_count C p (p (M.origin e)) (p (M.origin (M.next e))) (p (M.origin (M.next (M.next e))))

      gain : Point → Point → Point → Point → Point → Point → ℤ
      gain x y z a b c = pos (inside_count C p x y z) -ℤ pos (inside_count C p a b c)

  pub level-conflicts : conflicts C (flip_cw L u) p ≤ conflicts C L p
  unfolding inside_count
  level-conflicts =
      let e = flip-conflicts in
      let k = count-two
      (λ v. inside a b c (p v)) (λ v. inside b a d (p v)) (λ v. inside c a d (p v)) (λ v. inside d b c (p v))
      (λ v. fewer-inside a b c d (p v) quad) C.vertices in
      omega arith

  -- the far vertex c was inside the circle of b a d, and is a corner of the others
  pub circle-conflicts : pos 0 <ℤ circle_at L p (2 * u) → conflicts C (flip_cw L u) p < conflicts C L p
  unfolding inside_count
  circle-conflicts g =
      let e = flip-conflicts in
      let k = count-two-less (λ v. inside a b c (p v)) (λ v. inside b a d (p v)) (λ v. inside c a d (p v)) (λ v. inside d b c (p v))
      (λ v. fewer-inside a b c d (p v) quad) (L.origin (L.prev (2 * u))) at_c C.vertices
      (G.wf.ranges.origin< (G.wf.ranges.prev< (let l = B.edge in omega arith))) in
      omega arith
    where
      no : (z : ℤ) → z ≡ pos 0 → bit (lt_z (pos 0) z) ≡ 0
      no z q = ap (λ (z : ℤ). bit (lt_z (pos 0) z)) q

      yes' : bit (inside b a d c) ≡ 1
      yes' = bit-yes (inside b a d c) (subst (λ (z : ℤ). pos 0 <ℤ z) (circle-even G.wf B p ∙ incircle-other a b c d) g).lt

      at_c : bit (inside c a d c) + bit (inside d b c c) < bit (inside a b c c) + bit (inside b a d c)
      at_c = let x = no _ (corner-first c a d) in let y = no _ (corner-third d b c) in let z = yes' in omega arith

pub conflicts-small : (C : Counts) (L : Links) (p : ℕ → Point) → conflicts C L p ≤ (C.faces - 1) * C.vertices
unfolding conflicts over_faces inside_count
conflicts-small C L p = sum-small (C.faces - 1) C.vertices _ (λ f l. count-le C.vertices _)

-- ---- a new face
module _ {C C' : Counts} {L L' : Links} {p : ℕ → Point} {a b c : ℕ} (W : Wf C L) (W' : Wf C' L')
    (A : FaceAdded C C' L L' p p a b c) (v : C'.vertices ≡ C.vertices) where
  pub face-conflicts : conflicts C' L' p ≤ conflicts C L p + C.vertices
  unfolding conflicts inside_count
  face-conflicts =
      le_trans (le_of_eq (ap nat_abs (ap (λ (n : ℕ). over_faces (λ a b c. pos (count n (λ v. inside a b c (p v)))) C' L' p) v
      ∙ added-over W W' A (λ a b c. pos (inside_count C p a b c)))))
      (le_trans (nat_abs-+ (over_faces (λ a b c. pos (inside_count C p a b c)) C L p) (pos (inside_count C p (p a) (p b) (p c))))
      (add-le-add (le_refl (conflicts C L p)) (count-le C.vertices _)))

-- a new face with a new vertex, which may be inside each of the circles that there were
module _ {C C' : Counts} {L L' : Links} {p p' : ℕ → Point} {a b c : ℕ} (W : Wf C L) (W' : Wf C' L')
    (A : FaceAdded C C' L L' p p' a b c) (v : C'.vertices ≡ C.vertices + 1) where
  pub vertex-conflicts : conflicts C' L' p' ≤ conflicts C L p + (C.faces - 1) + (C.vertices + 1)
  unfolding conflicts inside_count over_faces
  vertex-conflicts =
      let F : Point → Point → Point → ℕ = λ a b c. count C'.vertices (λ v. inside a b c (p' v)) in
      let G : Point → Point → Point → ℕ = λ a b c. count C.vertices (λ v. inside a b c (p v)) in
      le_trans (le_of_eq (ap nat_abs (added-over W W' A (λ a b c. pos (F a b c)))))
      (le_trans (nat_abs-+ (over_faces (λ a b c. pos (F a b c)) C L p) (pos (F (p' a) (p' b) (p' c))))
      (add-le-add (sum_more (C.faces - 1) (λ f. at F (L.adjacent (suc f))) (λ f. at G (L.adjacent (suc f)))
      (λ f. count-more C'.vertices C.vertices _ _ v (λ u l. ap (inside _ _ _) (A.positions u l))))
      (le_trans (count-le C'.vertices _) (le_of_eq v))))
    where
      at : (Point → Point → Point → ℕ) → ℕ → ℕ
      at F e = F (p (L.origin e)) (p (L.origin (L.next e))) (p (L.origin (L.next (L.next e))))
