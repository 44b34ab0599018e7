-- Laws of specs/LinkRulesWf.antt.
use Rattle.mesh.specs.declared.Counts.{Counts}
use Rattle.mesh.specs.Mesh.{Links}
use Rattle.mesh.specs.LinkRules.{LinkRules, Wide, Sided}
use Rattle.mesh.specs.Wf.{Wf}

pub wf-of-links : {C : Counts} {L : Links} → LinkRules C L → Wide C L → Sided C L → Wf C L
wf-of-links W wide side = let F = W.faces in record {
  ranges = W.ranges;
  links = W.links;
  faces = record {
    stored = F.stored;
    three = F.three;
    apart = F.apart;
    inner = F.inner;
    outer = F.outer;
    wide = λ {e} h z. wide e h z;
    side = λ {e} h z. side e h z;
  };
  about = W.about;
  euler = W.euler;
  some = W.some;
}
