-- A step in the rows: what its parts ask, and what it leaves, for a point that is left alone and for one that is added. Assumes nothing.
use mathlib.Core.Bool.{Bool, true, false, not, false≢true}
use mathlib.Core.List.{List}
use mathlib.Core.Path.{◌≡◌, refl, sym, ◌∙◌, ap, ap₂, subst⁻¹}
use Prim.Native.Nat.{ℕ, suc, ◌+◌, ◌-◌, ◌*◌, ◌^◌, ◌<◌, ◌≤◌}
use native.Mathlib.Nat.{le_refl}
use native.Mathlib.Omega.{arith}
use lib.Dec.{T}
use lib.Ieee.{Float}
use lib.IntN.{ℤ}
use lib.ListN.{length}
use Rattle.angle.specs.Angle.{angle_about, turns}
use Rattle.apply.specs.Apply.{Applied, add_turns}
use Rattle.apply.proofs.ApplyLaws.{add-good, add-counts}
use Rattle.apply.specs.ApplyRows.{AddReady, applied_of}
use Rattle.apply.specs.Walks.{Before}
use Rattle.apply.specs.declared.Entered.{Entered}
use Rattle.circle_test.specs.GoodRows.{GoodRows}
use Rattle.corner.specs.declared.Extension.{Extension}
use Rattle.corner.specs.Corner.{Extended}
use Rattle.corner.specs.CornerRows.{extended_of, MeshRoom}
use Rattle.corner.specs.RowsLaws.{sized-room}
use Rattle.dcel.specs.MeshRows.{mesh_rows}
use Rattle.dcel.specs.Rows.{links_of, position_of}
use Rattle.decide.specs.declared.Decision.{Decision}
use Rattle.decide.specs.declared.Fate.{Fate}
use Rattle.decide.specs.declared.Fate.TheVariants.{Added as AddedFate}
use Rattle.decide.specs.Decide.{Decided, decided}
use Rattle.decide.specs.SweepRows.{SweepRows, ToDecide, ChainAngles, Decides}
use Rattle.decide.proofs.SweepRowsLaws.{sweep_sound}
use Rattle.hull.specs.EntersRing.{EntersRing, ToEnterRing, EnteredRing}
use Rattle.hull.specs.Held.{Held}
use Rattle.math.specs.declared.Point.{Point}
use Rattle.math.specs.Determinant.{InRange}
use Rattle.mesh.specs.declared.Counts.{Counts}
use Rattle.mesh.specs.Mesh.{Links}
use Rattle.mesh.specs.Area.{boundary_length}
use Rattle.mesh.specs.Good.{Good}
use Rattle.hull.specs.Insert.{Change}
use Rattle.ring.specs.Ring.{edge_angle, located}
use Rattle.ring.specs.Center.{turns_about}
use Rattle.ring.specs.Chain.{left_chain, right_chain, chain_start, chain_length}
use Rattle.ring.proofs.ChainMesh.{start-walk}
use Rattle.ring_rows.specs.declared.Node.{Node}
use Rattle.ring_rows.specs.declared.Hull.{Hull}
use Rattle.ring_rows.specs.RingRows.{ring_rows}
use Rattle.sums.specs.Iterate.{iter}
use Rattle.sums.proofs.IterateLaws.{iter-add}
use Rattle.sums.specs.Put.{put}
use Rattle.step.specs.declared.Progress.{Progress}
use Rattle.sweep.proofs.Fates.{IsAdded, is-added}
use Rattle.sweep.specs.Step.{Stepping, is_added, left_alone_of, step_mesh}
use Rattle.sweep.specs.StepMesh.{Swept}
use Rattle.sweep.proofs.StepMeshLaws.{step-before, step_added, step-alone, added_of, added-swept}
use Rattle.step.specs.StepRing.{chain-end, step-change}
use Rattle.step.specs.StepRows.{progress_of, stepping_of, StepRoom, StepReady, StepLeaves, PointReady, PointAdded}

-- the parts of a step
stepping-by : (q' : List ℤ) (o' h' a' : List ℕ) (r : Entered) (hull' : Hull) {g F : Fate} {P : ℕ → Point} {X : Applied} {s : Progress}
    → s ≡ progress_of r.added hull' g → g ≡ F → position_of q' ≡ P → applied_of o' h' a' r ≡ X → stepping_of (mesh_rows q' o' h' a') s ≡ record { fate = F; positions = P; mesh = X.mesh }
unfolding stepping_of extended_of
stepping-by q' o' h' a' r hull' z x y w = rw (z, ← x, ← y, ← w) refl

module _ {C : Counts} {q : List ℤ} {o h a row : List ℕ} {nodes : List Node} {freed buckets : List ℕ} {hull : Hull} {cx cy : Float} {v : Point}
    (R : StepReady C (mesh_rows q o h a) row (ring_rows nodes freed buckets) hull (record { x = cx; y = cy }) v) where
  abbrev L : Links
  L = links_of o h a

  abbrev p : ℕ → Point
  p = position_of q

  pub to-decide : ToDecide C q h nodes freed buckets hull cx cy v
  to-decide = record { outs = o; faces = a; sweep = R.sweep; range = R.range }

  swept : Swept cx cy C L p
  swept = record { good = R.sweep.mesh.good; center = R.sweep.center; sound = sweep_sound R.sweep }

  -- the decision
  module _ {D : Decision}
      (d : (o a : List ℕ) → SweepRows C q o h a nodes freed buckets hull cx cy
      → Decides C (links_of o h a) (position_of q) cx cy v (decided cx cy C (links_of o h a) (position_of q) v) D) where
    Δ : Decides C L p cx cy v (decided cx cy C L p v) D
    Δ = d o a R.sweep

    fate-is : D.fate ≡ (decided cx cy C L p v).fate
    fate-is = ap (λ (X : Decided). X.fate) Δ.is

    -- ---- a point that is left alone
    pub left_alone : {t : Bool} → t ≡ is_added D.fate → not t ≡ true → {r : Progress}
        → r ≡ progress_of (record { counts = C; faces = 0; flips = 0; full = false }) hull D.fate
        → StepLeaves C (mesh_rows q o h a) row (ring_rows nodes freed buckets) hull (record { x = cx; y = cy }) v (mesh_rows q o h a) (ring_rows nodes freed buckets) r
    unfolding stepping_of left_alone_of
    left_alone {t} e n x = rw x (record {
      is = rw fate-is (sym (step-alone (length row) cx cy C L p v (sym (e ∙ ap is_added fate-is) ∙ go t n)));
      sweep = λ g. R.sweep;
      nodes-most = λ N K. K.nodes-most;
    })
      where
        go : (t : Bool) → not t ≡ true → t ≡ false
        go true n = sym n
        go false n = refl

    -- ---- a point that is added
    module _ {t : Bool} (e : t ≡ is_added D.fate) (y : not t ≡ false) where
      yes : is_added (decided cx cy C L p v).fate ≡ true
      yes = sym (e ∙ ap is_added fate-is) ∙ go t y
        where
          go : (t : Bool) → not t ≡ false → t ≡ true
          go true n = refl
          go false n = sym n

      n : ℕ
      n = (added_of (decided cx cy C L p v).fate yes).0

      f : (decided cx cy C L p v).fate ≡ AddedFate n
      unfolding n
      f = (added_of (decided cx cy C L p v).fate yes).1

      A : IsAdded cx cy C L p v n (decided cx cy C L p v)
      A = is-added cx cy C L p v f

      abbrev α : ℕ → ℕ
      α = turns_about cx cy p

      abbrev x : ℕ
      x = turns (angle_about v.x v.y cx cy)

      abbrev d₀ : ℕ
      d₀ = located C L α x

      abbrev p' : ℕ → Point
      p' = put p C.vertices v

      edge-is : D.edge ≡ d₀
      edge-is = ap (λ (X : Decided). X.edge) Δ.is ∙ A.edge

      left_is : D.left ≡ left_chain C L p α v x d₀
      left_is = ap (λ (X : Decided). X.left) Δ.is ∙ A.left

      right_is : D.right ≡ right_chain C L p α v x d₀
      right_is = ap (λ (X : Decided). X.right) Δ.is ∙ A.right

      B : Before C L p α p' (turns_about cx cy p') v x d₀
      B = step-before swept R.range f

      sized : MeshRoom (C.vertices + 1) h a row
      sized = let s = R.room.sized in let k = R.room.more in record { halves = omega arith; faces = omega arith; pending = s.pending; small = omega arith }

      pub point-ready : PointReady C q o h a row v D
      point-ready = record {
        place = let k = R.room.more in let l = R.room.positions in omega arith;
        add = λ q' l w. record {
          places = p;
          angles = α;
          angles-now = turns_about cx cy p';
          point = v;
          angle = x;
          before = subst⁻¹ (λ (P : ℕ → Point). Before C L p α P (turns_about cx cy p') v x D.edge) w (subst⁻¹ (Before C L p α p' (turns_about cx cy p') v x) edge-is B);
          left_is = left_is ∙ ap (left_chain C L p α v x) (sym edge-is);
          right_is = right_is ∙ ap (right_chain C L p α v x) (sym edge-is);
          outs = let k = R.room.more in let m = R.room.outs in omega arith;
          positions = let k = R.room.more in let m = R.room.positions in omega arith;
          sized = sized;
        };
      }

      module _ {q' : List ℤ} {o' h' a' : List ℕ} {r : Entered} (P : PointAdded C q q' o h a row o' h' a' v D r) where
        abbrev r₀ : Applied
        r₀ = add_turns (length row) p' C L d₀ (left_chain C L p α v x d₀) (right_chain C L p α v x d₀)

        r-is : applied_of o' h' a' r ≡ r₀
        r-is = P.is ∙ rw (edge-is, left_is, right_is) refl

        stepped-is : (hull' : Hull) {s : Progress} → s ≡ progress_of r.added hull' D.fate → stepping_of (mesh_rows q' o' h' a') s ≡ step_mesh (length row) cx cy C L p v
        stepped-is hull' z = stepping-by q' o' h' a' r hull' z (fate-is ∙ f) P.places r-is ∙ sym (step_added swept R.range f (length row))

        -- a flip was refused
        pub added_full : {s : Progress} → r.added.full ≡ true → s ≡ progress_of r.added hull D.fate
            → StepLeaves C (mesh_rows q o h a) row (ring_rows nodes freed buckets) hull (record { x = cx; y = cy }) v (mesh_rows q' o' h' a') (ring_rows nodes freed buckets) s
        added_full g z = record {
          is = stepped-is hull z;
          sweep = λ k. absurd (false≢true (sym k ∙ ap (λ (s : Progress). s.full) z ∙ g));
          nodes-most = λ N K. rw z K.nodes-most;
        }

        -- ---- no flip was refused
        module _ (g : r.added.full ≡ false) where
          full_is : r₀.mesh.full ≡ false
          unfolding extended_of
          full_is = ap (λ (X : Applied). X.mesh.full) (sym r-is) ∙ g

          angles : ChainAngles C L p cx cy v (decided cx cy C L p v) D
          angles = Δ.angles n (fate-is ∙ f)

          -- the mesh and the ring as a step is given them
          swept-after : Swept cx cy r.added.counts (links_of o' h' a') (position_of q')
          unfolding extended_of
          swept-after = subst⁻¹ (Swept cx cy r.added.counts (links_of o' h' a')) P.places
              (subst⁻¹ (λ (X : Applied). Swept cx cy X.mesh.counts X.mesh.links p') r-is (added-swept swept R.range f (length row) full_is))

          abbrev first : ℕ
          first = chain_start C L p α v x d₀

          abbrev covered : ℕ
          covered = chain_length C L p α v x d₀

          change : Change C L α r.added.counts (links_of o' h' a') (turns_about cx cy p') first covered (boundary_length C L - covered) r.leftedge r.rightedge x (iter covered L.next first)
          unfolding extended_of
          change = subst⁻¹ (λ (X : Applied). Change C L α X.mesh.counts X.mesh.links (turns_about cx cy p') first covered (boundary_length C L - covered) X.left_edge X.right_edge x
              (iter covered L.next first)) r-is (step-change swept R.range f (length row) full_is (let k = angles.angle in let s = angles.is-angle.small in omega arith))

          vertices-are : r.added.counts.vertices ≡ C.vertices + 1
          unfolding extended_of
          vertices-are = ap (λ (X : Applied). X.mesh.counts.vertices) r-is ∙ ap (λ (K : Counts). K.vertices) (add-counts B (length row))

          enters : (N : ℕ) → StepRoom N C (mesh_rows q o h a) row (ring_rows nodes freed buckets) hull
              → EntersRing C L α r.added.counts (links_of o' h' a') (turns_about cx cy p') first covered (boundary_length C L - covered) x (iter covered L.next first) N
              nodes freed buckets hull D.startangle D.angle D.endangle r.leftedge r.rightedge
          enters N K = record {
            rules = R.sweep.mesh.good.wf;
            rules-after = swept-after.good.wf;
            held = R.sweep.ring;
            change = change;
            left-angle = angles.start-angle;
            middle-angle = angles.is-angle;
            right-angle = angles.end-angle;
            left_is = angles.start ∙ ap₂ (λ (i d : ℕ). edge_angle L α (iter i L.prev d)) A.left A.edge;
            middle-is = angles.angle;
            right_is = angles.end ∙ ap₂ (λ (i d : ℕ). edge_angle L α (iter (suc i) L.next d)) A.right A.edge ∙ ap (edge_angle L α) (chain-end swept R.range f (length row));
            vertices-most = let k = K.more in omega arith;
            vertices-after-most = let k = K.more in let w = vertices-are in omega arith;
            small = let k = K.most in omega arith;
            nodes-most = K.nodes-most;
            node-room = K.node-room;
            freed-room = K.freed-room;
            bucket-room = K.bucket-room;
          }

          pub to-enter : ToEnterRing nodes freed buckets hull D.startangle D.angle D.endangle r.leftedge r.rightedge
          to-enter = record {
            counts = C;
            links = L;
            angles = α;
            counts-after = r.added.counts;
            links-after = links_of o' h' a';
            angles-after = turns_about cx cy p';
            first = first;
            covered = covered;
            uncovered = boundary_length C L - covered;
            angle = x;
            end = iter covered L.next first;
            most = R.vertices;
            enters = enters R.vertices R.room;
          }

          pub added-done : length q' ≡ length q → length o' ≡ length o → length h' ≡ length h → length a' ≡ length a
              → {nodes' : List Node} {freed' buckets' : List ℕ} {hull' : Hull}
              → EnteredRing nodes freed buckets nodes' freed' buckets' hull D.startangle D.angle D.endangle r.leftedge r.rightedge hull'
              → {s : Progress} → s ≡ progress_of r.added hull' D.fate
              → StepLeaves C (mesh_rows q o h a) row (ring_rows nodes freed buckets) hull (record { x = cx; y = cy }) v (mesh_rows q' o' h' a') (ring_rows nodes' freed' buckets') s
          added-done lq lo lh la {nodes'} {freed'} {buckets'} {hull'} E {s} z = record {
            is = stepped-is hull' z;
            sweep = λ k. rw z (record {
              mesh = record {
                room = sized-room o o' h' a' (let k = R.room.more in let m = R.room.outs in omega arith) sized vertices-are swept-after.good lo lh la;
                positions = (let w = vertices-are in let k = R.room.more in let m = R.room.positions in omega arith);
                good = swept-after.good;
              };
              center = swept-after.center;
              ring = subst⁻¹ (λ (P : ℕ → Point). Held r.added.counts (links_of o' h' a') (turns_about cx cy P) nodes' freed' buckets' hull') P.places
                  (E C L α r.added.counts (links_of o' h' a') (turns_about cx cy p') first covered (boundary_length C L - covered) x (iter covered L.next first) R.vertices (enters R.vertices R.room)).0;
            });
            nodes-most = λ N K. rw z (E C L α r.added.counts (links_of o' h' a') (turns_about cx cy p') first covered (boundary_length C L - covered) x (iter covered L.next first) N (enters N K)).1;
          }
