-- The way along the boundary in the rows, from one half-edge to the next. Assumes nothing.
use Rattle.std.specs.Prelude.{List, ◌≡◌, ℕ, ◌+◌, Float, ℤ}
use Rattle.std.proofs.Common.{sym, ◌∙◌, ap, add-one}
use Rattle.dcel.specs.Rows.{halves_of}
use Rattle.sums.proofs.IterateLaws.{iter-last}
use Rattle.hull.specs.Boundary.{AngledBoundary, Angled, edge_at}

-- the next edge
pub next-at : (h : List ℕ) (start k : ℕ) {e n : ℕ} → e ≡ edge_at h start k → n ≡ (halves_of h).next e → n ≡ edge_at h start (k + 1)
next-at h start k a b = b ∙ ap (halves_of h).next a ∙ sym (iter-last k (halves_of h).next start) ∙ ap (edge_at h start) (sym (add-one k))

-- each has an angle
pub angled : {p : List ℤ} {h : List ℕ} {cx cy : Float} {start e : ℕ} (k : ℕ)
    → AngledBoundary p h cx cy start → e ≡ edge_at h start k → Angled p h cx cy e
angled k B a = record { there = rw a (B.rows.there k); placed = rw a (B.rows.placed k); valid = B.valid; apart = rw a (B.apart k) }
