-- THE CERTIFICATE of point location, for a good mesh. Assumes nothing.
use Rattle.std.specs.Prelude.{Bool, cond, ℕ}
use Rattle.std.proofs.Math.Bool.{true, false}
use Rattle.math.specs.declared.Point.{Point}
use Rattle.mesh.specs.declared.Counts.{Counts}
use Rattle.mesh.specs.Mesh.{Links, In}
use Rattle.mesh.specs.Wf.{Wf}
use Rattle.mesh.specs.Area.{LeftTurning}
use Rattle.mesh.specs.Good.{Good}
use Rattle.location.specs.declared.SearchState.{SearchState}
use Rattle.location.specs.declared.SearchState.TheVariants.{Found, Onward}
use Rattle.location.proofs.PlaceFacts.{Certified, Sound}
use Rattle.location.specs.Search.{is_nearest, nearest, search_from}
use Rattle.location.proofs.SearchLaws.{search-sound, nearest-used}
use Rattle.location.specs.Scan.{scan, answer, locate_point}
use Rattle.location.proofs.ScanLaws.{scan-certified}

module _ {C : Counts} {L : Links} (W : Wf C L) {p : ℕ → Point} (turning : LeftTurning C L p) (q : Point) where
  pub answer-certified : (s : SearchState) → Sound C L p q s → Certified C L p q (answer (scan C L p q) s)
  unfolding answer
  answer-certified (Found x) h = h
  answer-certified (Onward e) h = scan-certified W p q turning

  -- from any half-edge in use
  pub from-certified : {e : ℕ} → In C e → Certified C L p q (answer (scan C L p q) (search_from C L p q e))
  from-certified {e} h = answer-certified (search_from C L p q e) (search-sound W p q h)

  pub locate-certified : Certified C L p q (locate_point C L p q)
  unfolding locate_point
  locate-certified = go (is_nearest C L p q (nearest C L p q))
    where
      go : (x : Bool) → Certified C L p q (cond x (answer (scan C L p q) (search_from C L p q (L.out (nearest C L p q)))) (scan C L p q))
      go true = from-certified (W.ranges.out< (nearest-used W p q))
      go false = scan-certified W p q turning

pub locate-good : {C : Counts} {L : Links} {p : ℕ → Point} → Good C L p → (q : Point) → Certified C L p q (locate_point C L p q)
locate-good G q = locate-certified G.wf G.turning q
