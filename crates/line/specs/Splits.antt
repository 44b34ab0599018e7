-- What `split_edge_when_all_vertices_on_line` stores, link by link, in both of its cases. Assumes nothing.
use Rattle.std.specs.Prelude.{◌≡◌, refl, ◌≢◌, true, false, ℕ, ◌+◌, ◌*◌, ◌<◌}
use Rattle.std.proofs.Common.{arith}
use Rattle.mesh.specs.declared.Counts.{Counts}
use Rattle.mesh.specs.Mesh.{Links, In}
use Rattle.mesh.specs.Cases.{Differ}
use Rattle.mesh.proofs.CasesLaws.{differ}
use Rattle.sums.specs.Half.{rev}
use Rattle.sums.proofs.HalfLaws.{rev-below, rev-even, rev-odd}
use Rattle.sums.proofs.PutLaws.{stores}
use Rattle.line.specs.Operations.{split_at_of}

-- What `split_at_of` stores: e and its reverse t are split, and y comes before t on the boundary afterwards: the half-edge
-- that did, or, where t began at an end of the line, the new one
pub record Splits (C : Counts) (L L' : Links) (e t y a b : ℕ) : Type 0 where
  pub a-is : a ≡ 2 * C.edges
  pub b-is : b ≡ 2 * C.edges + 1
  pub rev-a : rev a ≡ b
  pub rev-b : rev b ≡ a
  pub next-e : L'.next e ≡ a
  pub next-a : L'.next a ≡ rev y
  pub next-y : L'.next y ≡ b
  pub next-b : L'.next b ≡ t
  pub prev-t : L'.prev t ≡ b
  pub prev-b : L'.prev b ≡ y
  pub prev-y : L'.prev (rev y) ≡ a
  pub prev-a : L'.prev a ≡ e
  pub face-a : L'.face a ≡ L.face e
  pub face-b : L'.face b ≡ L.face e
  pub origin-t : L'.origin t ≡ C.vertices
  pub origin-a : L'.origin a ≡ C.vertices
  pub origin-b : L'.origin b ≡ L.origin t
  pub origin-y : L'.origin (rev y) ≡ L.origin t
  pub out-to : L'.out (L.origin t) ≡ b
  pub out-new : L'.out C.vertices ≡ a
  pub next-rest : {x : ℕ} → x ≢ e → x ≢ y → x ≢ a → x ≢ b → L'.next x ≡ L.next x
  pub prev-rest : {x : ℕ} → x ≢ t → x ≢ rev y → x ≢ a → x ≢ b → L'.prev x ≡ L.prev x
  pub face-rest : {x : ℕ} → x ≢ a → x ≢ b → L'.face x ≡ L.face x
  pub origin-rest : {x : ℕ} → x ≢ t → x ≢ a → x ≢ b → L'.origin x ≡ L.origin x
  pub out-rest : {v : ℕ} → v ≢ L.origin t → v ≢ C.vertices → L'.out v ≡ L.out v
  pub adjacent : L'.adjacent ≡ L.adjacent
