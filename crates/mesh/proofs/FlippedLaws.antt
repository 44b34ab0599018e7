-- Laws of specs/Flipped.antt.
use Rattle.std.specs.Prelude.{ℕ, ◌<◌, ◌≡◌, ◌≢◌, [], ◌∷◌}
use Rattle.std.proofs.Common.{sym}
use Rattle.mesh.specs.declared.Counts.{Counts}
use Rattle.mesh.specs.Mesh.{Links}
use Rattle.mesh.specs.Operations.{flip_between}
use Rattle.mesh.specs.Wf.{Wf}
use Rattle.mesh.specs.Cases.{Differ}
use Rattle.mesh.proofs.CasesLaws.{differ}
use Rattle.mesh.specs.Triangle.{Triangle}
use Rattle.sums.proofs.Cases.{None}
use Rattle.sums.specs.Half.{rev}
use Rattle.sums.proofs.PutLaws.{stores}
use Rattle.mesh.specs.Flipped.{Flipped, Six}

module _ {C : Counts} {L : Links} {e en ep t tn tp : ℕ} (W : Wf C L) (A : Triangle C L e en ep)
    (B : Triangle C L t tn tp) (fg : L.face e ≢ L.face t) where
  six : Six e en ep t tn tp
  six = record {
    s₁ = differ (λ p. W.faces.apart A.in-a (cc));
    s₂ = differ (λ p. W.faces.apart A.in-a (cc));
    s₃ = differ (λ p. W.faces.apart A.in_b (cc));
    s₄ = differ (λ p. W.faces.apart B.in-a (cc));
    s₅ = differ (λ p. W.faces.apart B.in-a (cc));
    s₆ = differ (λ p. W.faces.apart B.in_b (cc));
    c₁ = differ (λ p. fg (cc));
    c₂ = differ (λ p. fg (cc));
    c₃ = differ (λ p. fg (cc));
    c₄ = differ (λ p. fg (cc));
    c₅ = differ (λ p. fg (cc));
    c₆ = differ (λ p. fg (cc));
    c₇ = differ (λ p. fg (cc));
    c₈ = differ (λ p. fg (cc));
    c₉ = differ (λ p. fg (cc));
  }

  pub flipped : rev e ≡ t → rev t ≡ e → Flipped L (flip_between L e en ep t tn tp) e en ep t tn tp
  unfolding flip_between
  flipped r r' = let s = six in record {
    t-e = r;
    e-t = r';
    next-e = search stores;
    next-tp = search stores;
    next-en = search stores;
    next-t = search stores;
    next-ep = search stores;
    next-tn = search stores;
    prev-e = search stores;
    prev-tp = search stores;
    prev-en = search stores;
    prev-t = search stores;
    prev-ep = search stores;
    prev-tn = search stores;
    face-e = search stores;
    face-tp = search stores;
    face-en = search (stores, A.face-b);
    face-t = search stores;
    face-ep = search stores;
    face-tn = search (stores, B.face-b);
    origin-e = search stores;
    origin-t = search stores;
    out-e = λ n. search stores;
    out-t = search stores;
    adjacent-e = search stores;
    adjacent-t = search stores;
    next-rest = λ {x} o. search stores;
    prev-rest = λ {x} o. search stores;
    face-rest = λ {x} o. search stores;
    origin-rest = λ {x} n m. search stores;
    out-rest = λ {v} n m. search stores;
    adjacent-rest = λ {f} n m. search stores;
  }
