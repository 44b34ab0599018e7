-- The links' rules and the two that a line breaks are the mesh rules, and back. Assumes nothing.
use Rattle.mesh.specs.declared.Counts.{Counts}
use Rattle.mesh.specs.Mesh.{Links}
use Rattle.mesh.specs.LinkRules.{LinkRules, Wide, Sided}
use Rattle.mesh.specs.Wf.{Wf}

module _ {C : Counts} {L : Links} (W : Wf C L) where
  pub link-rules : LinkRules C L
  link-rules = let F = W.faces in record {
    ranges = W.ranges;
    links = W.links;
    faces = record { stored = F.stored; three = F.three; apart = F.apart; inner = F.inner; outer = F.outer };
    about = W.about;
    euler = W.euler;
    some = W.some;
  }

  pub wide_of : Wide C L
  wide_of e h z = W.faces.wide h z

  pub sided-of : Sided C L
  sided-of e h z = W.faces.side h z
