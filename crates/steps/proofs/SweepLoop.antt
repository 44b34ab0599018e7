-- The loop over the points: after i of them the rows hold the mesh and the ring of the definition's sweep, and the answers of those i.
-- Assumes nothing.
use mathlib.Core.Bool.{true, false, cond}
use mathlib.Core.List.{List}
use mathlib.Core.Path.{◌≡◌, refl, sym, ◌∙◌, ap, ap₂}
use Prim.Native.Nat.{ℕ, zero, suc, ◌+◌, ◌-◌, ◌*◌, ◌/◌, ◌%◌, ◌<◌, ◌≤◌}
use native.Mathlib.Nat.{add-suc, add-zero}
use native.Mathlib.Numerals.{add-one}
use native.Mathlib.Decide.{dec_lt}
use native.Mathlib.Omega.{arith}
use borrow.Author.Tests.{eq-eqb, ne_eqb, lt-ltb, le-ltb}
use lib.Dec.{eqb}
use lib.Ieee.{Float}
use lib.IntN.{ℤ}
use lib.ListN.{length}
use Rattle.dcel.specs.MeshRows.{mesh_rows}
use Rattle.dcel.specs.Rows.{links_of, position_of, row_of}
use Rattle.decide.specs.SweepRows.{SweepRows}
use Rattle.decide.proofs.SweepRowsLaws.{sweep_sound}
use Rattle.math.specs.declared.Point.{Point}
use Rattle.mesh.specs.declared.Counts.{Counts}
use Rattle.mesh.specs.Mesh.{Links}
use Rattle.ring_rows.specs.declared.Node.{Node}
use Rattle.ring_rows.specs.declared.Hull.{Hull}
use Rattle.ring_rows.specs.RingRows.{ring_rows}
use Rattle.step.specs.declared.Progress.{Progress}
use Rattle.sweep.specs.Step.{Stepping, answer_of, step_mesh}
use Rattle.sweep.specs.StepMesh.{Swept}
use Rattle.step.specs.StepRows.{stepping_of, StepRoom, StepReady, StepLeaves}
use Rattle.sweep.specs.Run.{Sweeping, sweep_after, step_at, answer_words, answer_word}
use Rattle.sweep.proofs.SweepLawsFacts.{sweep-point, sweep-stays, sweep-keeps}
use Rattle.answers.specs.AnswerRows.{with_words}
use Rattle.steps.specs.StepsRows.{answers_below, sweeping_of, SweepReady, SweepLeaves}

-- ---- the row with the answers of i points has that of point i too
words_more : (row old : ℕ → ℕ) (i : ℕ) (step : ℕ → Stepping) (s : Stepping) → step i ≡ s → ((x : ℕ) → row x ≡ answers_below step i old x)
    → (x : ℕ) → with_words row i (answer_word (answer_of s)) x ≡ answers_below step (i + 1) old x
unfolding with_words
words_more row old i step s e h x = go (dec_lt x (answer_words * i)) (dec_lt x (answer_words * (i + 1)))
  where
    go : Dec (x < answer_words * i) → Dec (x < answer_words * (i + 1))
        → cond (eqb (x / answer_words) i) (answer_word (answer_of s) (x % answer_words)) (row x) ≡ answers_below step (i + 1) old x
    go (yes a) b =
        rw (ne_eqb (x / answer_words) i (λ z. omega arith), h x, lt-ltb x (answer_words * i) a, lt-ltb x (answer_words * (i + 1)) (omega arith)) refl
    go (no a) (yes b) =
        let d : x / answer_words ≡ i = omega arith in
        rw (eq-eqb (x / answer_words) i d, lt-ltb x (answer_words * (i + 1)) b, d, e) refl
    go (no a) (no b) =
        rw (ne_eqb (x / answer_words) i (λ z. omega arith), h x, le-ltb x (answer_words * i) (omega arith), le-ltb x (answer_words * (i + 1)) (omega arith)) refl

-- ---- one more point of the definition
module _ (room : ℕ) (cx cy : Float) (C : Counts) (L : Links) (p point : ℕ → Point) where
  abbrev after : ℕ → Sweeping
  after n = sweep_after room cx cy C L p point n

  abbrev steps : ℕ → Stepping
  steps i = step_at room cx cy C L p point i

  after_next : (n : ℕ) → (after n).full ≡ false
      → after (suc n) ≡ record {
        counts = (steps n).mesh.counts;
        links = (steps n).mesh.links;
        positions = (steps n).positions;
        answered = cond (steps n).mesh.full (after n).answered (suc (after n).answered);
        full = (steps n).mesh.full;
      }
  unfolding sweep_after
  after_next n f = sweep-point room cx cy (after n) (point n) f

  after-stays : (n : ℕ) → (after n).full ≡ true → after (suc n) ≡ after n
  unfolding sweep_after
  after-stays n f = sweep-stays room cx cy (after n) (point n) f

  -- after a refused flip nothing follows
  frozen : (n k : ℕ) → (after n).full ≡ true → after (n + k) ≡ after n
  frozen n zero f = ap after (add-zero n)
  frozen n (suc k) f = let r = frozen n k f in ap after (add-suc n k) ∙ after-stays (n + k) (ap (λ (s : Sweeping). s.full) r ∙ f) ∙ r

-- ---- the rows keep their lengths
pub record SameRows (q : List ℤ) (o h a row : List ℕ) (n : List Node) (f b w : List ℕ)
    (q' : List ℤ) (o' h' a' row' : List ℕ) (n' : List Node) (f' b' w' : List ℕ) : Type 0 where
  pub positions : length q' ≡ length q
  pub outs : length o' ≡ length o
  pub halves : length h' ≡ length h
  pub faces : length a' ≡ length a
  pub pending : length row' ≡ length row
  pub nodes : length n' ≡ length n
  pub freed : length f' ≡ length f
  pub buckets : length b' ≡ length b
  pub answers : length w' ≡ length w

-- ---- the loop
pub record SweepingAt (q₀ : List ℤ) (o₀ h₀ a₀ row₀ : List ℕ) (nodes₀ : List Node) (freed₀ buckets₀ answers₀ : List ℕ) (cx cy : Float) (points : List ℤ) (count : ℕ) (C₀ : Counts) (hull₀ : Hull)
    (q : List ℤ) (o h a row : List ℕ) (nodes : List Node) (freed buckets answers : List ℕ) (C : Counts) (hull : Hull) (i : ℕ) : Type 0 where
  pub ready : SweepReady C₀ q₀ o₀ h₀ a₀ row₀ nodes₀ freed₀ buckets₀ answers₀ hull₀ cx cy points count
  pub lengths : SameRows q₀ o₀ h₀ a₀ row₀ nodes₀ freed₀ buckets₀ answers₀ q o h a row nodes freed buckets answers
  pub at : sweep_after (length row₀) cx cy C₀ (links_of o₀ h₀ a₀) (position_of q₀) (position_of points) i
      ≡ record { counts = C; links = links_of o h a; positions = position_of q; answered = i; full = false }
  pub sweep : SweepRows C q o h a nodes freed buckets hull cx cy
  pub vertices : C.vertices ≤ C₀.vertices + i
  pub nodes-most : hull.nodes ≤ suc (C₀.vertices + count)
  pub answers-are : (x : ℕ) → row_of answers x
      ≡ answers_below (step_at (length row₀) cx cy C₀ (links_of o₀ h₀ a₀) (position_of q₀) (position_of points)) i (row_of answers₀) x
  pub most : i ≤ count

pub sweeping-starts : {q : List ℤ} {o h a row : List ℕ} {nodes : List Node} {freed buckets answers : List ℕ} {cx cy : Float} {points : List ℤ} {count : ℕ} {C : Counts} {hull : Hull}
    → SweepReady C q o h a row nodes freed buckets answers hull cx cy points count
    → SweepingAt q o h a row nodes freed buckets answers cx cy points count C hull q o h a row nodes freed buckets answers C hull 0
unfolding sweep_after
sweeping-starts R = record {
  ready = R;
  lengths = record { positions = refl; outs = refl; halves = refl; faces = refl; pending = refl; nodes = refl; freed = refl; buckets = refl; answers = refl };
  at = refl;
  sweep = R.sweep;
  vertices = omega arith;
  nodes-most = R.room.nodes-most;
  answers-are = λ x. sym (rw (le-ltb x 0 (omega arith)) refl);
  most = omega arith;
}

module _ {q₀ : List ℤ} {o₀ h₀ a₀ row₀ : List ℕ} {nodes₀ : List Node} {freed₀ buckets₀ answers₀ : List ℕ} {cx cy : Float} {points : List ℤ} {count : ℕ} {C₀ : Counts} {hull₀ : Hull}
    {q : List ℤ} {o h a row : List ℕ} {nodes : List Node} {freed buckets answers : List ℕ} {C : Counts} {hull : Hull} {i : ℕ}
    (I : SweepingAt q₀ o₀ h₀ a₀ row₀ nodes₀ freed₀ buckets₀ answers₀ cx cy points count C₀ hull₀ q o h a row nodes freed buckets answers C hull i) where
  abbrev L₀ : Links
  L₀ = links_of o₀ h₀ a₀

  abbrev p₀ : ℕ → Point
  p₀ = position_of q₀

  abbrev point : ℕ → Point
  point = position_of points

  -- the seed
  swept₀ : Swept cx cy C₀ L₀ p₀
  swept₀ = record { good = I.ready.sweep.mesh.good; center = I.ready.sweep.center; sound = sweep_sound I.ready.sweep }

  module _ (l : i < count) where
    pub sweeping-point : 2 * i + 1 < length points
    sweeping-point = let k = I.ready.pairs in omega arith

    room : StepRoom (C₀.vertices + count) C (mesh_rows q o h a) row (ring_rows nodes freed buckets) hull
    room =
        let R = I.ready.room in let K = I.lengths in
        record {
          more = let v = I.vertices in omega arith;
          most = R.most;
          positions = let x = R.positions in let y = K.positions in omega arith;
          outs = let x = R.outs in let y = K.outs in omega arith;
          sized = let x = R.sized in let y = K.halves in let z = K.faces in let w = K.pending in record { halves = omega arith; faces = omega arith; pending = omega arith; small = x.small };
          node-room = let x = R.node-room in let y = K.nodes in omega arith;
          freed-room = let x = R.freed-room in let y = K.freed in omega arith;
          bucket-room = let x = R.bucket-room in let y = K.buckets in omega arith;
          nodes-most = I.nodes-most;
        }

    module _ {v : Point} (e : v ≡ point i) where
      pub sweeping-ready : StepReady C (mesh_rows q o h a) row (ring_rows nodes freed buckets) hull (record { x = cx; y = cy }) v
      sweeping-ready = record { sweep = I.sweep; range = rw e (I.ready.range i l); vertices = C₀.vertices + count; room = room }

      module _ {q' : List ℤ} {o' h' a' : List ℕ} {nodes' : List Node} {freed' buckets' : List ℕ} {r : Progress}
          (X : StepLeaves C (mesh_rows q o h a) row (ring_rows nodes freed buckets) hull (record { x = cx; y = cy }) v (mesh_rows q' o' h' a') (ring_rows nodes' freed' buckets') r) where
        step_is : step_at (length row₀) cx cy C₀ L₀ p₀ point i ≡ stepping_of (mesh_rows q' o' h' a') r
        step_is =
            ap (λ (s : Sweeping). step_mesh (length row₀) cx cy s.counts s.links s.positions (point i)) I.at
            ∙ ap₂ (λ (n : ℕ) (w : Point). step_mesh n cx cy C (links_of o h a) (position_of q) w) (sym I.lengths.pending) (sym e) ∙ sym X.is

        next-is : sweep_after (length row₀) cx cy C₀ L₀ p₀ point (suc i)
            ≡ record { counts = r.counts; links = links_of o' h' a'; positions = position_of q'; answered = cond r.full i (suc i); full = r.full }
        unfolding stepping_of
        next-is =
            after_next (length row₀) cx cy C₀ L₀ p₀ point i (ap (λ (s : Sweeping). s.full) I.at)
            ∙ ap₂ (λ (t : Stepping) (n : ℕ). record { counts = t.mesh.counts; links = t.mesh.links; positions = t.positions; answered = cond t.mesh.full n (suc n); full = t.mesh.full })
            step_is (ap (λ (s : Sweeping). s.answered) I.at)

        -- a flip was refused
        pub sweeping-full : r.full ≡ true
            → SweepLeaves C₀ q₀ o₀ h₀ a₀ row₀ answers₀ cx cy points count q' o' h' a' answers (record { counts = r.counts; answered = i; full = true })
        unfolding sweeping_of
        sweeping-full f =
            let k : suc i + (count - suc i) ≡ count = omega arith in
            let z : sweep_after (length row₀) cx cy C₀ L₀ p₀ point (suc i) ≡ record { counts = r.counts; links = links_of o' h' a'; positions = position_of q'; answered = i; full = true } = next-is ∙ rw f refl in
            record {
              is = sym (ap (sweep_after (length row₀) cx cy C₀ L₀ p₀ point) (sym k) ∙ frozen (length row₀) cx cy C₀ L₀ p₀ point (suc i) (count - suc i) (ap (λ (s : Sweeping). s.full) z) ∙ z);
              answers-are = I.answers-are;
            }

        -- the answer is stored, and the loop goes on
        pub sweeping-on : r.full ≡ false
            → length q' ≡ length q → length o' ≡ length o → length h' ≡ length h → length a' ≡ length a → {row' : List ℕ}
            → length row' ≡ length row
            → length nodes' ≡ length nodes → length freed' ≡ length freed → length buckets' ≡ length buckets
            → (answers' : List ℕ) → row_of answers' ≡ with_words (row_of answers) i (answer_word r.answer) → length answers' ≡ length answers
            → SweepingAt q₀ o₀ h₀ a₀ row₀ nodes₀ freed₀ buckets₀ answers₀ cx cy points count C₀ hull₀ q' o' h' a' row' nodes' freed' buckets' answers' r.counts r.hull (i + 1)
        unfolding stepping_of
        sweeping-on f lq lo lh la lr ln lf lb answers' w lw =
            let K = I.lengths in
            record {
              ready = I.ready;
              lengths = record {
                positions = lq ∙ K.positions;
                outs = lo ∙ K.outs;
                halves = lh ∙ K.halves;
                faces = la ∙ K.faces;
                pending = lr ∙ K.pending;
                nodes = ln ∙ K.nodes;
                freed = lf ∙ K.freed;
                buckets = lb ∙ K.buckets;
                answers = lw ∙ K.answers;
              };
              at = ap (sweep_after (length row₀) cx cy C₀ L₀ p₀ point) (add-one i) ∙ next-is ∙ rw (f, add-one i) refl;
              sweep = X.sweep f;
              vertices = (let k = (sweep-keeps (length row₀) swept₀ point (suc i) (λ j z. I.ready.range j (omega arith))).most in
                  let z = ap (λ (s : Sweeping). s.counts.vertices) next-is in omega arith);
              nodes-most = X.nodes-most (C₀.vertices + count) room;
              answers-are = λ x. ap (λ (g : ℕ → ℕ). g x) w
                  ∙ words_more (row_of answers) (row_of answers₀) i (step_at (length row₀) cx cy C₀ L₀ p₀ point) (stepping_of (mesh_rows q' o' h' a') r) step_is I.answers-are x;
              most = omega arith;
            }

  pub sweeping-end : count ≤ i
      → SweepLeaves C₀ q₀ o₀ h₀ a₀ row₀ answers₀ cx cy points count q o h a answers (record { counts = C; answered = count; full = false })
  unfolding sweeping_of
  sweeping-end l =
      let z : i ≡ count = (let m = I.most in omega arith) in
      record {
        is = sym (ap (sweep_after (length row₀) cx cy C₀ L₀ p₀ point) (sym z) ∙ I.at
            ∙ ap (λ (k : ℕ). sweeping_of (mesh_rows q o h a) (record { counts = C; answered = k; full = false })) z);
        answers-are = λ x. I.answers-are x ∙ ap (λ (k : ℕ). answers_below (step_at (length row₀) cx cy C₀ L₀ p₀ point) k (row_of answers₀) x) z;
      }
