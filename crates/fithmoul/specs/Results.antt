-- The calls' answers as flat records of numbers, for C: `refusal` is 0 where the call is accepted, else a row of 01's table, with its
-- place. What a refused call has no answer for is 0. Definitions only. `Laws`: no refusal has the number 0.
use Rattle.std.specs.Prelude.{Bool, ℕ, Float, ℤ, pos, Ok, Err}
use Rattle.angle.specs.declared.Point2.{Point2}
use Rattle.area.specs.Sided.{Sided}
use Rattle.area.specs.Totalled.{Totalled}
use Rattle.ask.specs.Asked.{Asked}
use Rattle.bulk_load.specs.declared.BulkLoadAnswer.{BulkLoadAnswer}
use Rattle.finish.specs.declared.FinishAnswer.{FinishAnswer}
use Rattle.finish.specs.Finished.{Finished}
use Rattle.finish.specs.declared.Totals.{Totals}
use Rattle.locate.specs.Located.{Located}
use Rattle.math.specs.declared.Point.{Point}
use Rattle.mesh.specs.declared.Counts.{Counts}
use Rattle.mesh_check.specs.Checked.{Checked}
use Rattle.quote.specs.declared.Quote.{Quote}
use Rattle.sums.specs.Bit.{bit}
use Rattle.sweep.specs.declared.Answer.{Answer}
use Rattle.sweep.specs.declared.StepAnswer.{StepAnswer}
use Rattle.sweep.specs.Stepped.{Stepped}
use Rattle.sweep.specs.Run.{answer_word}
use Rattle.fithmoul.specs.declared.results.AreaTotalResult.{AreaTotalResult}
use Rattle.fithmoul.specs.declared.results.AskResult.{AskResult}
use Rattle.fithmoul.specs.declared.results.BulkLoadResult.{BulkLoadResult}
use Rattle.fithmoul.specs.declared.results.CheckResult.{CheckResult}
use Rattle.fithmoul.specs.declared.results.CommitResult.{CommitResult}
use Rattle.fithmoul.specs.declared.results.LocateResult.{LocateResult}
use Rattle.fithmoul.specs.declared.results.PointAnswer.{PointAnswer}
use Rattle.fithmoul.specs.declared.results.SideQueryResult.{SideQueryResult}
use Rattle.fithmoul.specs.declared.results.StepResult.{StepResult}
use Rattle.volume.specs.Measured.{Measured}
use Rattle.fithmoul.specs.declared.results.FinishResult.{FinishResult}
use Rattle.fithmoul.specs.declared.results.RunResult.{RunResult}
use Rattle.fithmoul.specs.declared.results.VolumeResult.{VolumeResult}

-- ---- what goes in as numbers
abbrev pub counted : ℕ → ℕ → ℕ → Counts
counted v e f = record { vertices = v; edges = e; faces = f }

abbrev pub center_at : Float → Float → Point2
center_at x y = record { x = x; y = y }

abbrev pub point_at_of : ℤ → ℤ → Point
point_at_of x y = record { x = x; y = y }

-- ---- what comes out as numbers
abbrev pub check_result : Checked → CheckResult
check_result (Ok _) = record { refusal = 0; place = 0 }
check_result (Err x) = record { refusal = x.number; place = x.place }

abbrev pub locate_result : Located → LocateResult
locate_result (Ok p) = record { refusal = 0; place = 0; edge = p.edge; passed = p.passed }
locate_result (Err x) = record { refusal = x.number; place = x.place; edge = 0; passed = 0 }

-- its words, as in a run's answers row
abbrev pub point_answer : Answer → PointAnswer
point_answer a = record { fate = answer_word a 0; vertex = answer_word a 1; faces = answer_word a 2; flips = answer_word a 3 }

abbrev pub no_answer_of : PointAnswer
no_answer_of = record { fate = 0; vertex = 0; faces = 0; flips = 0 }

-- the counts are those after the call, refused or not
abbrev pub stepped_result : Counts → Stepped → StepResult
stepped_result C (Ok a) = record {
  refusal = 0;
  place = 0;
  vertices = C.vertices;
  edges = C.edges;
  faces = C.faces;
  answer = point_answer a;
}
stepped_result C (Err x) = record {
  refusal = x.number;
  place = x.place;
  vertices = C.vertices;
  edges = C.edges;
  faces = C.faces;
  answer = no_answer_of;
}

abbrev pub step_result : StepAnswer → StepResult
step_result a = stepped_result a.counts a.stepped

-- with the change count after the call
abbrev pub with_changes : ℕ → StepResult → CommitResult
with_changes changes r = record {
  refusal = r.refusal;
  place = r.place;
  vertices = r.vertices;
  edges = r.edges;
  faces = r.faces;
  changes = changes;
  answer = r.answer;
}

abbrev pub commit_result : ℕ → StepAnswer → CommitResult
commit_result changes a = with_changes changes (step_result a)

-- a quote as it is
abbrev pub no_quote : Quote
no_quote = record { changes = 0; x = pos 0; y = pos 0; z = pos 0; fate = 0; faces = 0 }

abbrev pub ask_result : Asked → AskResult
ask_result (Ok q) = record { refusal = 0; place = 0; quote = q }
ask_result (Err x) = record { refusal = x.number; place = x.place; quote = no_quote }

abbrev pub finished_result : Counts → Finished → FinishResult
finished_result C (Ok t) = record {
  refusal = 0;
  place = 0;
  vertices = C.vertices;
  edges = C.edges;
  faces = C.faces;
  faces_added = t.faces;
  convex_flips = t.convexflips;
  closing_flips = t.closingflips;
}
finished_result C (Err x) = record {
  refusal = x.number;
  place = x.place;
  vertices = C.vertices;
  edges = C.edges;
  faces = C.faces;
  faces_added = 0;
  convex_flips = 0;
  closing_flips = 0;
}

abbrev pub finish_result : FinishAnswer → FinishResult
finish_result a = finished_result a.counts a.finished

-- with the change count after the call
abbrev pub ran_with_changes : ℕ → FinishResult → RunResult
ran_with_changes changes r = record {
  refusal = r.refusal;
  place = r.place;
  vertices = r.vertices;
  edges = r.edges;
  faces = r.faces;
  changes = changes;
  faces_added = r.faces_added;
  convex_flips = r.convex_flips;
  closing_flips = r.closing_flips;
}

abbrev pub run_result : ℕ → FinishAnswer → RunResult
run_result changes a = ran_with_changes changes (finish_result a)

-- the totals that an accepted run reports
abbrev pub reported : RunResult → Totals
reported r = record { faces = r.faces_added; convexflips = r.convex_flips; closingflips = r.closing_flips }

-- with the mark of a line. 02, Change 6: it "starts the change count at 0"
abbrev pub loaded_result : Bool → FinishResult → BulkLoadResult
loaded_result line r = record {
  refusal = r.refusal;
  place = r.place;
  vertices = r.vertices;
  edges = r.edges;
  faces = r.faces;
  changes = 0;
  line = bit line;
  faces_added = r.faces_added;
  convex_flips = r.convex_flips;
  closing_flips = r.closing_flips;
}

abbrev pub bulk_load_result : BulkLoadAnswer → BulkLoadResult
bulk_load_result a = loaded_result a.line (finish_result a.finish)

abbrev pub load_reported : BulkLoadResult → Totals
load_reported r = record { faces = r.faces_added; convexflips = r.convex_flips; closingflips = r.closing_flips }

-- what is measured
abbrev pub volume_result : Measured → VolumeResult
volume_result (Ok v) = record {
  refusal = 0;
  place = 0;
  six_volumes_high = v.six_volumes.high;
  six_volumes_low = v.six_volumes.low;
  cubic_metres = v.cubic_metres;
}
volume_result (Err x) = record {
  refusal = x.number;
  place = x.place;
  six_volumes_high = 0;
  six_volumes_low = 0;
  cubic_metres = pos 0;
}

-- areas
abbrev pub area_total_result : Totalled → AreaTotalResult
area_total_result (Ok n) =
    record { refusal = 0; place = 0; area_total_high = n.high; area_total_low = n.low }
area_total_result (Err x) =
    record { refusal = x.number; place = x.place; area_total_high = 0; area_total_low = 0 }

abbrev pub side_query_result : Sided → SideQueryResult
side_query_result (Ok area) = record { refusal = 0; place = 0; doubled_area = area }
side_query_result (Err x) = record { refusal = x.number; place = x.place; doubled_area = pos 0 }
