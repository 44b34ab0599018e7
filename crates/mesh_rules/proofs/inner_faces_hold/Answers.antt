-- `mesh_rules::inner_faces_hold` meets its contract: face 0 is no inner one. Assumes nothing.
use Rattle.std.proofs.Common.{◌≡◌, refl, ◌∙◌, arith, rules, tests}
use Rattle.std.proofs.lemmas.Iterator.{YieldsList-from_range}
use Rattle.std.proofs.lemmas.Iterator.Search.{all_from_yields_List}
use Rattle.dcel.specs.Rows.{links_of}
use Rattle.mesh_rules.specs.Holds.{face_holds, inner_face_holds}
use Rattle.mesh_rules.proofs.Ranges.{all-in_range}
use Rattle.mesh_rules.proofs.Tests.{first-face, inner-face}
use Rattle.mesh_rules.proofs.inner_faces_hold.Goals as goal

pub returns : goal.returns
returns c = λ o.
    let C = c.args.counts in let L = links_of o c.args.halves.now c.args.faces.now in
    all_from_yields_List (face_holds C L) _ _ _ c.all.ensures.ran (YieldsList-from_range 1 C.faces _ refl refl) (λ x b q k. search (rules, tests))
    ∙ all-in_range (face_holds C L) (inner_face_holds C L) 1 C.faces (λ i u. let e : i ≡ 0 = omega arith in rw e (first-face C L)) (λ i l. inner-face C L i l)
