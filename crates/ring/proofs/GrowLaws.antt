-- Laws of specs/Grow.antt.
use Rattle.std.specs.Prelude.{◌≡◌, refl, ℕ, suc, ◌<◌}
use Rattle.std.proofs.Common.{sym, ◌∙◌, ap, arith}
use Rattle.ring.specs.Splice.{Spliced}
use Rattle.sums.specs.Iterate.{iter}
use Rattle.sums.proofs.IterateLaws.{iter-last}
use Rattle.ring.specs.Grow.{ToRight, ToLeft}

pub grow-right : {f α f' α' f'' α'' : ℕ → ℕ} {s m n l p p' q r : ℕ} → Spliced f α f' α' s m (suc n) l p q r → 0 < n
    → ToRight f f' α' f'' α'' n l p p' q r → Spliced f α f'' α'' s (suc m) n l p' q (f r)
grow-right {f} {α} {f'} {α'} {f''} {α''} {s} {m} {n} {l} {p} {p'} {q} {r} P h G = record {
  some = omega arith;
  more = h;
  right = iter-last m f s ∙ ap f P.right;
  round = P.round;
  l-p = G.l-p;
  p-r = G.p-r;
  at-l = G.at-l ∙ P.at-l;
  at_p = G.at_p;
  at_rest = λ k l. G.at_rest k l ∙ P.at_rest (suc k) (omega arith);
  rest = λ k l. G.rest k (omega arith) ∙ P.rest (suc k) (omega arith);
  last = λ k e. G.rest k (omega arith) ∙ P.last (suc k) (ap suc e);
}

pub grow-left : {f α f' α' f'' α'' : ℕ → ℕ} {s m n l l' p q r : ℕ} → Spliced f α f' α' s m (suc n) l p q r → 0 < n
    → ToLeft f α f' α' f'' α'' n l' p q r → Spliced f α f'' α'' (iter n f r) (suc m) n l' p q r
grow-left {f} {α} {f'} {α'} {f''} {α''} {s} {m} {n} {l} {l'} {p} {q} {r} P h G = record {
  some = omega arith;
  more = h;
  right = ap (iter m f) (sym (iter-last n f r) ∙ P.round) ∙ P.right;
  round = refl;
  l-p = G.l-p;
  p-r = G.p-r;
  at-l = G.at-l ∙ P.at_rest n (omega arith);
  at_p = G.at_p;
  at_rest = λ k l. G.at_rest k l ∙ P.at_rest k (omega arith);
  rest = λ k l. G.rest k l ∙ P.rest k (omega arith);
  last = G.last;
}
