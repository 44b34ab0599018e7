-- Laws of specs/Triangle.antt.
use Rattle.std.specs.Prelude.{ℕ, ◌<◌, ◌≡◌, refl, ◌≢◌, ◌⊎◌}
use Rattle.std.proofs.Common.{sym, ◌∙◌, ⊎_elim, inl, inr}
use Rattle.mesh.specs.declared.Counts.{Counts}
use Rattle.mesh.specs.Mesh.{Links, In, to}
use Rattle.mesh.specs.LinkRules.{LinkRules}
use Rattle.mesh.specs.LinkRulesWf.{link-rules}
use Rattle.mesh.specs.Wf.{Wf}
use Rattle.sums.specs.Half.{rev}
use Rattle.sums.proofs.HalfLaws.{rev-rev, rev-ne, rev-below}
use Rattle.mesh.specs.Triangle.{Triangle, Outer, link-p-e, link-e-n, link-n-q}

-- from another edge of the triangle
pub next-triangle : {C : Counts} {L : Links} {a b c : ℕ} → Triangle C L a b c → Triangle C L b c a
next-triangle t = record {
  in-a = t.in_b;
  in_b = t.in_c;
  in_c = t.in-a;
  next-a = t.next-b;
  next-b = t.next-c;
  next-c = t.next-a;
  prev-a = t.prev-b;
  prev-b = t.prev-c;
  prev-c = t.prev-a;
  face-b = t.face-c ∙ sym t.face-b;
  face-c = sym t.face-b;
  to-a = t.to-b;
  to-b = t.to-c;
  to-c = t.to-a;
}

pub link-outer : {C : Counts} {L : Links} → LinkRules C L → {e : ℕ} → In C e → L.face e ≡ 0
    → Outer C L (L.prev e) e (L.next e) (L.next (L.next e))
link-outer {C} {L} W {e} h z =
    let hp = W.ranges.prev< h in
    let hn = W.ranges.next< h in
    let np = W.links.next-prev h in
    let fp = W.links.face-next hp in
    let op = W.links.origin-next hp in
    let fe = W.links.face-next h in
    let fn = W.links.face-next hn in
    record {
      in_p = hp;
      in_e = h;
      in-n = hn;
      in-q = W.ranges.next< hn;
      next-p = np;
      next-e = refl;
      next-n = refl;
      prev-e = refl;
      prev-n = W.links.prev-next h;
      prev-q = W.links.prev-next hn;
      face-p = cc;
      face-e = z;
      face-n = cc;
      face-q = cc;
      to-p = cc;
      to-e = sym (W.links.origin-next h);
      to-n = sym (W.links.origin-next hn);
    }

pub outer : {C : Counts} {L : Links} → Wf C L → {e : ℕ} → In C e → L.face e ≡ 0 → Outer C L (L.prev e) e (L.next e) (L.next (L.next e))
outer W = link-outer (link-rules W)

-- the four differ, but for p and q: these are one where the boundary has three edges
module _ {C : Counts} {L : Links} {p e n q : ℕ} (W : Wf C L) (A : Outer C L p e n q) where
  pub p-e : p ≢ e
  p-e = link-p-e (link-rules W) A

  pub e-n : e ≢ n
  e-n = link-e-n (link-rules W) A

  pub n-q : n ≢ q
  n-q = link-n-q (link-rules W) A

  pub p-n : p ≢ n
  p-n k = W.faces.wide A.in_p A.face-p (cc)

  pub e-q : e ≢ q
  e-q k = W.faces.wide A.in_e A.face-e (cc)
