-- A 1-cochain of a mesh: a number for each half-edge, that changes its sign with the half-edge's direction. Definitions
-- only; `Stokes` has the theorem.
use Rattle.std.specs.Prelude.{◌≡◌, ℕ, suc, ◌-◌, ℤ, neg_ℤ, ◌+ℤ◌}
use Rattle.sums.specs.Half.{rev}
use Rattle.sums.specs.Sum.{sum}
use Rattle.mesh.specs.declared.Counts.{Counts}
use Rattle.mesh.specs.Mesh.{Links, In}
use Rattle.mesh.specs.Area.{boundary_length, hull_edge}

pub record Cochain (C : Counts) (c : ℕ → ℤ) : Type 0 where
  pub odd : {e : ℕ} → In C e → c (rev e) ≡ neg_ℤ (c e)

-- the sum over the three half-edges from e on, along next
abbrev pub circulation : Links → (ℕ → ℤ) → ℕ → ℤ
circulation L c e = c e +ℤ c (L.next e) +ℤ c (L.next (L.next e))

-- over every inner face, each from its stored edge
unfoldable pub inner_circulation : Counts → Links → (ℕ → ℤ) → ℤ
inner_circulation C L c = sum (C.faces - 1) (λ f. circulation L c (L.adjacent (suc f)))

-- round face 0 along next, from its stored edge
unfoldable pub boundary_circulation : Counts → Links → (ℕ → ℤ) → ℤ
boundary_circulation C L c = sum (boundary_length C L) (λ k. c (hull_edge L k))
