-- What the nodes find is what the boundary says: the edge of the node that holds x is `located`, and the nodes that the
-- walk from the bucket of x passes after the first are counted by 01's formula over the boundary's angles. Assumes
-- nothing.
use Rattle.std.specs.Prelude.{◌≡◌, ◌⊎◌, Bool, ℕ, zero, suc, ◌-◌, ◌*◌, ◌/◌, ◌%◌, ◌<◌, ◌≤◌, eqb, length}
use Rattle.std.proofs.Math.Path.{refl, sym, ap, ap₂, subst}
use Rattle.std.proofs.Common.{◌∙◌, inl, inr, mul_assoc, mod-eq_of_lt, div-lt_iff_lt-mul}
use Rattle.std.proofs.Math.Bool.{true, false, cond}
use mathlib.Core.List.{map}
use Rattle.std.proofs.Math.Nat.{mul_comm, mul-div_cancel, mul-div-mul_right}
use Rattle.std.proofs.Math.Decide.{ℕ_discrete}
use native.Mathlib.Omega.{arith}
use Rattle.std.proofs.Math.Dec.{T, eqb→eq}
use Rattle.mesh.specs.declared.Counts.{Counts}
use Rattle.mesh.specs.Mesh.{Links, In}
use Rattle.mesh.specs.Wf.{Wf}
use Rattle.mesh.specs.Area.{boundary_length}
use Rattle.segment.specs.Arc.{holds}
use Rattle.sums.proofs.BitLaws.{eq_test, or_cases, or_left, or_right, is_true, is_false}
use Rattle.sums.specs.Iterate.{iter}
use Rattle.sums.specs.Tally.{First, tally, walk}
use Rattle.ring.specs.Ring.{full_turn, proper, at_ends, between, member, merged, passed_count, edge_angle, located}
use Rattle.ring.proofs.Merged.{angles-tally, angles-size}
use Rattle.ring.specs.Node.{NodeTable, nodes}
use Rattle.ring.proofs.NodeLaws.{Stands, match-at}
use Rattle.ring.specs.Insert.{On}
use Rattle.ring.specs.Locate.{angle_in}
use Rattle.ring.specs.Hull.{HullFrom}
use Rattle.ring.proofs.HullLaws.{kth, node-edge, locate-hull, locate-top-none, locate-top-some}
use Rattle.ring.proofs.Boundary.{outer-walk, outer-sound, located-sole}

-- ---- the angle x stands on a walk
member→ : (next α : ℕ → ℕ) (x h e : ℕ) → T (member x (map α (walk h next e))) → (j : ℕ) × (j < h) × (α (iter j next e) ≡ x)
unfolding walk member
member→ next α x zero e t = absurd t
member→ next α x (suc h) e t = go (or_cases (eqb (α e) x) (member x (map α (walk h next (next e)))) t) (member→ next α x h (next e))
  where
    go : T (eqb (α e) x) ⊎ T (member x (map α (walk h next (next e))))
        → (T (member x (map α (walk h next (next e)))) → (j : ℕ) × (j < h) × (α (iter j next (next e)) ≡ x))
        → (j : ℕ) × (j < suc h) × (α (iter j next e) ≡ x)
    go (inl u) i = (0, omega arith, eqb→eq (α e) x u)
    go (inr u) i = let r = i u in (suc r.0, (let l = r.1 in omega arith), r.2)

member← : (next α : ℕ → ℕ) (x h e j : ℕ) → j < h → α (iter j next e) ≡ x → T (member x (map α (walk h next e)))
unfolding walk member
member← next α x zero e j l z = absurd (omega arith)
member← next α x (suc h) e zero l z = or_left (eqb (α e) x) (member x (map α (walk h next (next e)))) (eq_test z)
member← next α x (suc h) e (suc j) l z =
    or_right (eqb (α e) x) (member x (map α (walk h next (next e)))) (member← next α x h (next e) j (omega arith) z)

-- ---- THE COUNT, with 8 buckets
module _ {N : ℕ} {next α : ℕ → ℕ} {τ : NodeTable} {bucket : ℕ → ℕ} {e h s w : ℕ}
    (H : HullFrom N next α τ bucket e h s 8 w) where
  some : 0 < nodes next α h e
  some = let t = H.ring.sound.three in omega arith

  -- below 1.0, from the bucket floor(8a)
  passed-below : (x k : ℕ) → x < N
      → First (at_ends (holds x) τ.right τ.angle) τ.right (nodes next α h e) (bucket (x / w)) k
      → passed_count N x (map α (walk h next e)) ≡ k
  unfolding passed_count angle_in
  passed-below x k l F =
      let i : 8 * x / N ≡ x / w = ap (λ (n : ℕ). 8 * x / n) H.sized.all ∙ ap₂ (λ (a b : ℕ). a / b) (mul_comm 8 x) (mul_comm 8 w)
      ∙ mul-div-mul_right x w (omega arith) in
      let y : 8 * x / N * N / 8 ≡ x / w * w = ap₂ (λ (a b : ℕ). a * b / 8) i (H.sized.all ∙ mul_comm 8 w)
      ∙ ap (λ (n : ℕ). n / 8) (sym (mul_assoc (x / w) w 8)) ∙ mul-div_cancel (x / w * w) (omega arith) in
      ap
      (λ (t : Bool). cond t (cond (member 0 (map α (walk h next e))) (length (merged (map α (walk h next e))) - 1) 0) (tally (between (8 * x / N * N / 8) x) (merged (map α (walk h next e)))))
      (is_false (eqb x N) (λ t. let z = eqb→eq x N t in omega arith))
      ∙ ap (λ (n : ℕ). tally (between n x) (merged (map α (walk h next e)))) y
      ∙ angles-tally next α (between (x / w * w) x) h e H.ring.sound.closed some
      ∙ locate-hull H x k l F

  -- at 1.0, from bucket 0
  passed-top : (k : ℕ) → First (at_ends (holds N) τ.right τ.angle) τ.right (nodes next α h e) (bucket 0) k
      → passed_count N N (map α (walk h next e)) ≡ k
  unfolding passed_count
  passed-top k F =
      let l = map α (walk h next e) in
      ap (λ (t : Bool). cond t (cond (member 0 l) (length (merged l) - 1) 0) (tally (between (8 * N / N * N / 8) N) (merged l)))
      (is_true (eqb N N) (eq_test {a = N} refl))
      ∙ go (member 0 l) refl
    where
      go : (t : Bool) → member 0 (map α (walk h next e)) ≡ t → cond t (length (merged (map α (walk h next e))) - 1) 0 ≡ k
      go true z =
          let r = member→ next α 0 h e (subst T (sym z) tt) in
          let a = locate-top-some H k F r.0 r.1 r.2 in
          let b = angles-size next α h e H.ring.sound.closed some in
          omega arith
      go false z = sym (locate-top-none H k F (λ j l y. subst T z (member← next α 0 h e j l y)))

  -- 01: "With n = 8 and i = floor(8a), that count is the number of boundary angles above i/8 and up to a. At a = 1.0 it
  -- is ring size minus 1 if some boundary angle is 0.0, otherwise 0."
  pub locate-passed : (x k : ℕ) → x ≤ N
      → First (at_ends (holds x) τ.right τ.angle) τ.right (nodes next α h e) (bucket (x / w % 8)) k
      → passed_count N x (map α (walk h next e)) ≡ k
  locate-passed x k l F = go (ℕ_discrete x N)
    where
      go : Dec (x ≡ N) → passed_count N x (map α (walk h next e)) ≡ k
      go (yes z) =
          let b : x / w % 8 ≡ 0 = ap (λ (n : ℕ). n / w % 8) (z ∙ H.sized.all)
          ∙ ap (λ (n : ℕ). n % 8) (mul-div_cancel 8 H.sized.room) in
          ap (λ (n : ℕ). passed_count N n (map α (walk h next e))) z
          ∙ passed-top k
          (subst (λ (n : ℕ). First (at_ends (holds n) τ.right τ.angle) τ.right (nodes next α h e) (bucket 0) k) z (subst (λ (n : ℕ). First (at_ends (holds x) τ.right τ.angle) τ.right (nodes next α h e) (bucket n) k) b F))
      go (no z) =
          let u : x < N = omega arith in
          let b : x / w % 8 ≡ x / w = mod-eq_of_lt
          ((div-lt_iff_lt-mul {k = w} {x = x} {y = 8} H.sized.room).1 (let a = H.sized.all in omega arith)) in
          passed-below x k u
          (subst (λ (n : ℕ). First (at_ends (holds x) τ.right τ.angle) τ.right (nodes next α h e) (bucket n) k) b F)

-- ---- THE EDGE: a node's edge is one of the boundary's
pub node-place : {N : ℕ} {next α : ℕ → ℕ} {τ : NodeTable} {bucket : ℕ → ℕ} {e h s B w : ℕ}
    → HullFrom N next α τ bucket e h s B w → (y : ℕ) → On τ.right (nodes next α h e) s y
    → (j : ℕ) × (j < h) × (τ.edge y ≡ iter j next e)
unfolding Stands
node-place {N} {next} {α} {τ} {bucket} {e} {h} {s} H y (k, l, z) =
    let r = kth (at_ends proper next α) next h e k l in
    (r.0, r.1, ap τ.edge (sym z) ∙ ap (λ (i : ℕ). τ.edge (iter i τ.right s)) (sym r.3) ∙ (match-at next α τ h e s H.ring.match r.0 r.1 r.2).0)

-- and has the angle of that edge's origin; the node to its right has the angle of the edge's end
pub node-ends : {N : ℕ} {next α : ℕ → ℕ} {τ : NodeTable} {bucket : ℕ → ℕ} {e h s B w : ℕ}
    → HullFrom N next α τ bucket e h s B w → (y : ℕ) → On τ.right (nodes next α h e) s y
    → (α (τ.edge y) ≡ τ.angle y) × (α (next (τ.edge y)) ≡ τ.angle (τ.right y))
node-ends {N} {next} {α} {τ} H y (k, u, z) =
    let n = node-edge H.ring k u in (
      ap (λ (i : ℕ). α (τ.edge i)) (sym z) ∙ n.0 ∙ ap τ.angle z,
      ap (λ (i : ℕ). α (next (τ.edge i))) (sym z) ∙ n.1 ∙ ap (λ (i : ℕ). τ.angle (τ.right i)) z,
    )

-- the node that holds x has the located edge, whatever the number of buckets
pub node-located : {C : Counts} {L : Links} (W : Wf C L) (α : ℕ → ℕ) {τ : NodeTable} {bucket : ℕ → ℕ}
    {e s B w : ℕ} → In C e → L.face e ≡ 0
    → HullFrom full_turn L.next (edge_angle L α) τ bucket e (boundary_length C L) s B w
    → (x y : ℕ) → On τ.right (nodes L.next (edge_angle L α) (boundary_length C L) e) s y
    → T (at_ends (holds x) τ.right τ.angle y) → τ.edge y ≡ located C L α x
node-located {C} {L} W α {τ} {bucket} {e} {s} l o H x y m t =
    let r = node-place H y m in
    let b = outer-walk W l o r.0 in
    let n = node-ends H y m in
    located-sole W α (outer-sound W α l o H.ring.sound) x (subst (In C) (sym r.2) b.0) (ap L.face r.2 ∙ b.1)
    (subst T (ap₂ (holds x) (sym n.0) (sym n.1)) t)
