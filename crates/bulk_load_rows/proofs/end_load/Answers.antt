-- `bulk_load_rows::end_load` meets its contract. Assumes nothing.
use native.Mathlib.Omega.{arith}
use borrow.Author.Rules.{rules}
use Rattle.bulk_load_rows.specs.EndLaws.{end-full, end_line, end-mesh}
use Rattle.bulk_load_rows.proofs.end_load.Reads as reads
use Rattle.bulk_load_rows.proofs.end_load.Lts as lts
use Rattle.answers.proofs.zero_answers.Reads as zero-answers-reads
use Rattle.finish.proofs.answer_of.Reads as answer-of-reads
use Rattle.finish.proofs.finish_mesh.Reads as finish-mesh-reads
use Rattle.bulk_load_rows.proofs.end_load.Goals as goal

pub returns-then-end : goal.returns-then-end
returns-then-end c = end-full _ _ _ _ _ _ _ _ c.if-end.true c.zero_answers.ensures

pub returns-then-counts-lt2 : goal.returns-then-counts-lt2
returns-then-counts-lt2 c = end_line _ _ _ _ _ _ _ _ c.if-end.false c.if-counts-lt2.true

pub finish_mesh-ended-requires : goal.finish_mesh-ended-requires
finish_mesh-ended-requires c = c.requires.mesh c.if-end.false (let l = c.if-counts-lt2.false in omega arith)

pub returns : goal.returns
returns c = end-mesh _ _ _ _ _ _ _ _ _ c.if-end.false c.if-counts-lt2.false c.finish_mesh-ended.ensures c.answer_of-finish.ensures
