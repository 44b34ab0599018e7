-- What the parts of the listing ask of the rows. Definitions only.
use Rattle.std.specs.Prelude.{List, ◌≡◌, ℕ, ◌*◌, ◌≤◌, ℤ, length}
use Rattle.dcel.specs.MeshRows.{MeshRows}
use Rattle.finish.specs.declared.FinishAnswer.{FinishAnswer}
use Rattle.mesh.specs.declared.Counts.{Counts}
use Rattle.mesh_check.specs.Readable.{Readable}
use Rattle.ring_rows.specs.declared.Node.{Node}
use Rattle.ring_rows.specs.RingRows.{ring_rows}
use Rattle.sweep.specs.Run.{RunLent, ran_with, answer_words, run_of}

-- a run of l has answered r and left these rows; its row of nodes is its own, and left open
pub record RanWithOwnNodes (l : RunLent) (r : FinishAnswer) (m : MeshRows) (freed buckets pending answers : List ℕ) : Type 0 where
  pub nodes : List Node
  pub is : ran_with r m (ring_rows nodes freed buckets) pending answers ≡ run_of l

-- the corners of every face can be read, and there are so few faces that their doubled areas add up within 64 bits
pub record Summable (C : Counts) (q : List ℤ) (h a : List ℕ) : Type 0 where
  pub readable : Readable C q h a
  pub few : C.faces ≤ 800

-- and there is an answer for each point
pub record Listable (C : Counts) (q : List ℤ) (h a answers : List ℕ) (count : ℕ) : Type 0 where
  pub mesh : Summable C q h a
  pub room : answer_words * count ≤ length answers
