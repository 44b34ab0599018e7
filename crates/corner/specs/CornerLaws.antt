-- Closing a corner of the boundary that turns left, in a good mesh: one face more, a run of flips, a boundary shorter
-- by one. `Closings` is a sequence of such steps: what walks and passes make of a mesh, with what it keeps. Assumes
-- nothing.
use Rattle.std.proofs.Math.Bool.{false}
use Rattle.std.specs.Prelude.{[], ◌∷◌, ◌≡◌, refl, ℕ, suc, ◌+◌, ◌≤◌, ◌<◌, pos, ◌<ℤ◌}
use Rattle.std.proofs.Common.{sym, ◌∙◌, ap, subst, arith}
use Rattle.conflicts.specs.FlipsWithin.{FlipsWithin}
use Rattle.conflicts.proofs.FlipsWithinLaws.{within-face, within-run}
use Rattle.legalize.specs.declared.Entry.TheVariants.{Edge}
use Rattle.legalize.specs.Legalize.{entry_edge, legalize_edges_after_removal}
use Rattle.legalize.specs.LegalizeLaws.{Outcome, legalize-outcome, legalize-start}
use Rattle.math.specs.declared.Point.{Point}
use Rattle.math.specs.Determinant.{orient2d}
use Rattle.mesh.specs.declared.Counts.{Counts}
use Rattle.mesh.specs.Mesh.{Links, In, to}
use Rattle.mesh.specs.Operations.{create_single_face_between_edge_and_next, with_face}
use Rattle.mesh.specs.Area.{boundary_length}
use Rattle.mesh.specs.Frame.{SameBoundary}
use Rattle.mesh.specs.Good.{Good}
use Rattle.mesh.proofs.GoodLaws.{single-face-good, single-face-length, single-face-added}
use Rattle.mesh.specs.FlipRun.{FlipRun}
use Rattle.mesh.proofs.FlipRunLaws.{run-good, run-boundary, run_length}
use Rattle.corner.specs.Corner.{Extended, close_corner}

-- the corner at the end of the half-edge e turns strictly left
abbrev pub LeftCorner : Links → (ℕ → Point) → ℕ → Type 0
LeftCorner L p e = pos 0 <ℤ orient2d (p (L.origin e)) (p (to L e)) (p (to L (L.next e)))

-- ---- flips that were counted before a face was added stay within their bound
pub face-bound : {C : Counts} {L : Links} {p : ℕ → Point} → Good C L p → {e : ℕ} → In C e → L.face e ≡ 0 → LeftCorner L p e
    → {n : ℕ} → FlipsWithin C L p n → FlipsWithin (with_face C) (create_single_face_between_edge_and_next L C e) p n
face-bound G l o h = within-face G.wf (single-face-good G l o h).wf (single-face-added G l o h) refl

-- ---- one corner closed: a face between e and the next half-edge, and flips, each at an edge that broke the circle rule at that moment
pub record CornerClosed (p : ℕ → Point) (m m' : Extended) (e : ℕ) : Type 0 where
  pub edge : In m.counts e
  pub outer : m.links.face e ≡ 0
  pub left : LeftCorner m.links p e
  pub made : ℕ
  pub run : FlipRun (with_face m.counts) p (create_single_face_between_edge_and_next m.links m.counts e) m'.links made
  pub counts : m'.counts ≡ with_face m.counts
  pub faces : m'.faces ≡ suc m.faces
  pub flips : m'.flips ≡ m.flips + made

module _ {p : ℕ → Point} {m m' : Extended} {e : ℕ} (G : Good m.counts m.links p) (S : CornerClosed p m m' e) where
  added : Good (with_face m.counts) (create_single_face_between_edge_and_next m.links m.counts e) p
  added = single-face-good G S.edge S.outer S.left

  pub closed-good : Good m'.counts m'.links p
  closed-good = subst (λ (C : Counts). Good C m'.links p) (sym S.counts) (run-good added S.run)

  -- the flips leave the boundary as the new face made it
  pub closed-boundary : SameBoundary (with_face m.counts) (create_single_face_between_edge_and_next m.links m.counts e) m'.links
  closed-boundary = run-boundary added S.run

  pub closed-length : boundary_length m'.counts m'.links + 1 ≡ boundary_length m.counts m.links
  closed-length = ap (λ (C : Counts). boundary_length C m'.links + 1) S.counts ∙ ap (λ (n : ℕ). n + 1) (run_length added S.run) ∙ single-face-length G S.edge S.outer S.left

  -- the count of flips stays within its bound
  pub closed-bound : FlipsWithin m.counts m.links p m.flips → FlipsWithin m'.counts m'.links p m'.flips
  closed-bound B =
      subst (λ (C : Counts). FlipsWithin C m'.links p m'.flips) (sym S.counts)
      (subst (FlipsWithin (with_face m.counts) m'.links p) (sym S.flips)
      (within-run added (face-bound G S.edge S.outer S.left B) S.run))

-- ---- corners closed one after another
pub data Closings (p : ℕ → Point) : Extended → Extended → Type 0 where
  none : {m : Extended} → Closings p m m
  then : {m n : Extended} {k : Extended} → Closings p m k → (e : ℕ) → CornerClosed p k n e → Closings p m n

pub closings-join : {p : ℕ → Point} {m k n : Extended} → Closings p m k → Closings p k n → Closings p m n
closings-join a none = a
closings-join a (then b e S) = then (closings-join a b) e S

module _ {p : ℕ → Point} {m : Extended} (G : Good m.counts m.links p) where
  pub closings-good : {n : Extended} → Closings p m n → Good n.counts n.links p
  closings-good none = G
  closings-good (then a e S) = closed-good (closings-good a) S

  pub closings-bound : {n : Extended} → Closings p m n → FlipsWithin m.counts m.links p m.flips
      → FlipsWithin n.counts n.links p n.flips
  closings-bound none B = B
  closings-bound (then a e S) B = closed-bound (closings-good a) S (closings-bound a B)

-- the vertices stay, and there is an edge and a face more for each face counted
pub record Counted (m n : Extended) : Type 0 where
  pub vertices : n.counts.vertices ≡ m.counts.vertices
  pub edges : n.counts.edges + m.faces ≡ m.counts.edges + n.faces
  pub faces : n.counts.faces + m.faces ≡ m.counts.faces + n.faces
  pub more : m.faces ≤ n.faces

pub closings-count : {p : ℕ → Point} {m n : Extended} → Closings p m n → Counted m n
closings-count none = record { vertices = refl; edges = refl; faces = refl; more = omega arith }
closings-count (then {k = k} a e S) =
    let c = closings-count a in let f = S.faces in
    let v = ap (λ (C : Counts). C.vertices) S.counts in
    let u = ap (λ (C : Counts). C.edges) S.counts in
    let w = ap (λ (C : Counts). C.faces) S.counts in
    record { vertices = v ∙ c.vertices; edges = omega arith; faces = omega arith; more = omega arith }

-- with no face more nothing has changed
pub closings-none : {p : ℕ → Point} {m n : Extended} → Closings p m n → n.faces ≡ m.faces → n ≡ m
closings-none none e = refl
closings-none (then {k = k} a x S) e = absurd (let c = closings-count a in let f = S.faces in omega arith)

-- ---- `close_corner` closes a corner that turns left
module _ (room : ℕ) (p : ℕ → Point) (m : Extended) (G : Good m.counts m.links p) {e : ℕ} (l : In m.counts e)
    (o : m.links.face e ≡ 0) (h : LeftCorner m.links p e)
    {first second : ℕ} (u : first < m.counts.edges) (v : second < m.counts.edges) where
  abbrev C : Counts
  C = with_face m.counts

  abbrev K : Links
  K = create_single_face_between_edge_and_next m.links m.counts e

  pub corner-outcome : Outcome room Edge C p
      (record { links = K; pending = second ∷ first ∷ []; flips = m.flips; full = false })
      (legalize_edges_after_removal room C p K m.flips first second)
  unfolding entry_edge
  corner-outcome = legalize-outcome room Edge C p (record { links = K; pending = second ∷ first ∷ []; flips = m.flips; full = false })
      (legalize-start (single-face-good G l o h) ((omega arith), ((omega arith), tt)))

  pub closes-corner : CornerClosed p m (close_corner room p m e first second) e
  unfolding close_corner
  closes-corner = record {
    edge = l;
    outer = o;
    left = h;
    made = corner-outcome.made;
    run = corner-outcome.run;
    counts = refl;
    faces = refl;
    flips = corner-outcome.flips;
  }
