-- A point that goes in outside of a boundary with no left corner leaves none, where no flip is refused: the corner at the
-- new vertex turns right, as the chain that it sees rises to both sides; those at the chain's ends are where the loops
-- end; all others stay. Assumes nothing.
use Rattle.std.specs.Prelude.{Bool, not, ◌||◌, ◌≢◌, ◌⊎◌, ◌≡◌, ℕ, ◌+◌, ◌*◌, ◌<◌, T, ℤ, pos, ◌<ℤ◌, ◌≤ℤ◌}
use Rattle.std.proofs.Math.Bool.{true, false}
use Rattle.std.proofs.lemmas.Bool.{false≢true}
use Rattle.std.proofs.Common.{inl, inr, sym, ◌∙◌, ap₂, subst, arith}
use Rattle.std.proofs.Math.Path.{refl, ap}
use Rattle.std.proofs.Math.Decide.{ℕ_discrete}
use Rattle.std.specs.Int.Signed.{lt_z_no}
use Rattle.algebra.proofs.Sign.{pos-in, weak, le-by}
use Rattle.algebra.proofs.RingLaws.{#◌}
use Rattle.ring.specs.declared.Side.{Side}
use Rattle.ring.specs.declared.Side.TheVariants.{Left, Right}
use Rattle.apply.specs.Apply.{Walking, first_face, face_edge}
use Rattle.ring.specs.Chain.{beside, sees_edge}
use Rattle.convexity.specs.Convexity.{NoLeftCorner}
use Rattle.math.specs.declared.Point.{Point}
use Rattle.math.specs.declared.Vector.{Vector}
use Rattle.math.specs.Determinant.{Orient2d, InRange, orient2d}
use Rattle.math.proofs.Plane.{E·, A, B, C, env, orient2d-next}
use Rattle.math.specs.Vector.{difference}
use Rattle.mesh.specs.declared.Counts.{Counts}
use Rattle.mesh.specs.Mesh.{Links, In, to}
use Rattle.mesh.specs.Operations.{create_new_face_adjacent_to_edge, with_vertex}
use Rattle.mesh.specs.Area.{at_corners, boundary_length}
use Rattle.mesh.specs.Good.{Good}
use Rattle.mesh.specs.NewFace.{NewFaceFrame}
use Rattle.mesh.proofs.NewFaceLaws.{new-face-frame, new-face-keeps}
use Rattle.mesh.specs.Triangle.{rev-in}
use Rattle.mesh.specs.Wf.{Wf}
use Rattle.sums.proofs.UntilLaws.{Falls, until-keeps, until-done}
use Rattle.skipped.specs.Insert.{outside_ends, outside_turn, outside_walk, insert_outside}
use Rattle.skipped.specs.Outside.{Tip}
use Rattle.skipped.proofs.OutsideLaws.{Standing, going, outside-falls, outside-ends, new-good, first-legalized, left-start, right-start}
use Rattle.skipped.proofs.LegalizeVertexLaws.{legalized-boundary}
use Rattle.skipped.specs.Rise.{RiseLeft, RiseRight}
use Rattle.skipped.proofs.RiseLaws.{seen-from, rise-end, rise-step, rise-over}
use Rattle.skipped.specs.Corners.{LeftChain, RightChain}
use Rattle.skipped.proofs.CornersLaws.{corner-kept, left-same, left-chain, right-chain}

-- where a loop has ended and no flip was refused, the edge beside is not seen
not_seen : (f s : Bool) → (f || not s) ≡ true → f ≡ false → T (not s)
not_seen true s e q = absurd (false≢true (sym q))
not_seen false true e q = absurd (false≢true e)
not_seen false false e q = tt

off-end : (side : Side) (p : ℕ → Point) (v : Point) (s : Walking) → outside_ends side p v s ≡ true → s.mesh.full ≡ false
    → T (not (sees_edge s.mesh.links p v (beside side s.mesh.links s.current)))
unfolding outside_ends
off-end side p v s = not_seen s.mesh.full (sees_edge s.mesh.links p v (beside side s.mesh.links s.current))

full-ends : (side : Side) (p : ℕ → Point) (v : Point) (s : Walking) → s.mesh.full ≡ true → outside_ends side p v s ≡ true
unfolding outside_ends
full-ends side p v s q = ap (λ (b : Bool). b || not (sees_edge s.mesh.links p v (beside side s.mesh.links s.current))) q

module _ (room : ℕ) (p : ℕ → Point) {w : ℕ} {v : Point} (here : p w ≡ v) where
  -- ---- the loop to the left
  module _ (r : ℕ) (A R : Point) (e₁ e₂ : Vector) where
    record StandLeft (s : Walking) : Type 0 where
      stand : Standing room p here Left r s
      next : Point
      chain : LeftChain p v s.mesh.counts s.mesh.links s.current r A next R e₁ e₂

    left-falls : Falls (outside_ends Left p v) (outside_turn Left room p) StandLeft (λ s. boundary_length s.mesh.counts s.mesh.links)
    unfolding outside_turn face_edge
    left-falls = record {
      keeps = λ s I e. record {
        stand = (outside-falls room p here Left r).keeps s I.stand e;
        next = p (s.mesh.links.origin s.current);
        chain = left-chain room p here s.mesh I.stand.good I.stand.tip (going room p here Left s e) I.chain;
      };
      less = λ s I e. (outside-falls room p here Left r).less s I.stand e;
    }

    left-done : (s : Walking) → StandLeft s → StandLeft (outside_walk Left room p v s)
    unfolding outside_walk
    left-done s I = until-keeps (outside_ends Left p v) (outside_turn Left room p) left-falls (2 * s.mesh.counts.edges + 1) s I

  -- ---- the loop to the right
  module _ (l : ℕ) (U : Point) where
    record StandRight (s : Walking) : Type 0 where
      stand : Standing room p here Right l s
      before : Point
      chain : RightChain p v s.mesh.counts s.mesh.links l s.current before U

    right-falls : Falls (outside_ends Right p v) (outside_turn Right room p) StandRight
        (λ s. boundary_length s.mesh.counts s.mesh.links)
    unfolding outside_turn face_edge
    right-falls = record {
      keeps = λ s I e. record {
        stand = (outside-falls room p here Right l).keeps s I.stand e;
        before = p (to s.mesh.links s.current);
        chain = right-chain room p here s.mesh I.stand.good I.stand.tip (going room p here Right s e) I.chain;
      };
      less = λ s I e. (outside-falls room p here Right l).less s I.stand e;
    }

    right-done : (s : Walking) → StandRight s → StandRight (outside_walk Right room p v s)
    unfolding outside_walk
    right-done s I = until-keeps (outside_ends Right p v) (outside_turn Right room p) right-falls (2 * s.mesh.counts.edges + 1) s I

-- ---- both loops have ended
turned : (u r v : Point) → pos 0 <ℤ orient2d u r v → orient2d u v r ≤ℤ pos 0
unfolding orient2d
turned u r v h = let ρ = env u r v v in le-by (weak (pos-in ρ (Orient2d E· A B C) h)) (Orient2d E· A C B) (# 0) refl

module _ {p : ℕ → Point} {w : ℕ} {v : Point} (here : p w ≡ v) {C : Counts} {L : Links} (W : Wf C L) {l r : ℕ} (X : Tip w C L l r)
    {A U : Point} (Y : RightChain p v C L l r A U) (off : T (not (sees_edge L p v (L.next r)))) where
  at-w : p (L.origin r) ≡ v
  at-w = ap p X.origin-r ∙ here

  at_left : at_corners orient2d L p (L.prev l) ≤ℤ pos 0
  at_left =
      let b = W.links.next-prev X.in-l in
      subst (λ (z : ℤ). z ≤ℤ pos 0)
      (ap₂ (λ (x : ℕ) (q : Point). orient2d (p (L.origin (L.prev l))) (p (L.origin x)) q) (sym b) (sym (ap (λ (x : ℕ). p (L.origin (L.next x))) b ∙ ap (λ (x : ℕ). p (L.origin x)) X.next-l ∙ at-w)))
      Y.corner-l

  at-tip : at_corners orient2d L p l ≤ℤ pos 0
  at-tip =
      let n = X.next-l in
      subst (λ (z : ℤ). z ≤ℤ pos 0)
      (ap₂ (λ (q s : Point). orient2d (p (L.origin l)) q s) (sym (ap (λ (x : ℕ). p (L.origin x)) n ∙ at-w))
      (sym (ap (λ (x : ℕ). p (L.origin (L.next x))) n ∙ ap p (W.links.origin-next X.in-r))))
      (subst (λ (u : Point). orient2d u v (p (to L r)) ≤ℤ pos 0) (sym Y.left_end)
      (turned U (p (to L r)) v (subst (λ (z : ℤ). pos 0 <ℤ z) (seen-from v U (p (to L r))) Y.rise.above)))

  at_right : at_corners orient2d L p r ≤ℤ pos 0
  at_right =
      let n = L.next r in
      subst (λ (z : ℤ). z ≤ℤ pos 0)
      (sym (orient2d-next v (p (L.origin n)) (p (to L n)))
      ∙ ap₂ (λ (q : Point) (x : ℕ). orient2d q (p (L.origin n)) (p x)) (sym at-w) (sym (W.links.origin-next (W.ranges.next< X.in-r))))
      (lt_z_no off)

  pub no-left : NoLeftCorner C L p
  no-left = record { corner = λ {e = x} i o. go i o (ℕ_discrete x (L.prev l)) (ℕ_discrete x l) (ℕ_discrete x r) }
    where
      go : {x : ℕ} → In C x → L.face x ≡ 0 → Dec (x ≡ L.prev l) → Dec (x ≡ l) → Dec (x ≡ r) → at_corners orient2d L p x ≤ℤ pos 0
      go i o (yes a) b c = subst (λ (y : ℕ). at_corners orient2d L p y ≤ℤ pos 0) (sym a) at_left
      go i o (no a) (yes b) c = subst (λ (y : ℕ). at_corners orient2d L p y ≤ℤ pos 0) (sym b) at-tip
      go i o (no a) (no b) (yes c) = subst (λ (y : ℕ). at_corners orient2d L p y ≤ℤ pos 0) (sym c) at_right
      go i o (no a) (no b) (no c) = Y.rest.rest i o a b c

-- corners of vertices whose positions stay
pub corners-placed : {C : Counts} {L : Links} {p₀ p : ℕ → Point} → Wf C L → ((u : ℕ) → u < C.vertices → p u ≡ p₀ u)
    → NoLeftCorner C L p₀ → NoLeftCorner C L p
corners-placed W same N = record {
  corner = λ i o.
      let n = W.ranges.next< i in
      rw (same _ (W.ranges.origin< i), same _ (W.ranges.origin< n), same _ (W.ranges.origin< (W.ranges.next< n))) (N.corner i o);
}

-- ---- the first face
module _ {C : Counts} {L : Links} {p : ℕ → Point} (v : Point) {e : ℕ} (W : Wf C L) (i : In C e) (o : L.face e ≡ 0)
    (N : NoLeftCorner C L p)
    (seen : pos 0 <ℤ orient2d (p (L.origin e)) (p (to L e)) v) where
  abbrev K : Links
  K = create_new_face_adjacent_to_edge L C e

  abbrev a₀ : Point
  a₀ = p (L.origin e)

  abbrev b₀ : Point
  b₀ = p (to L e)

  F : NewFaceFrame C (with_vertex C) L K (L.prev e) e (L.next e) (2 * C.edges) (2 * C.edges + 1) (2 * C.edges + 2)
      (2 * C.edges + 2 + 1)
  F = new-face-frame W i o

  W' : Wf (with_vertex C) K
  W' = new-face-keeps W i o

  first-chain : LeftChain p v (with_vertex C) K (2 * C.edges + 2 + 1) (2 * C.edges + 1) a₀ b₀ b₀ (difference b₀ v) (difference b₀ a₀)
  first-chain = let g = W.ranges.prev< i in let n = W.ranges.next< i in let q = F.origin-b' in let s = F.end-a' in record {
    rest = record { rest = λ {x} h z a b c. go a b c (F.was h z) };
    corner-l =
        let b = W.links.next-prev i in
        subst (λ (z : ℤ). z ≤ℤ pos 0)
        (ap (λ (x : ℕ). orient2d (p (L.origin (L.prev e))) (p (L.origin x)) (p (L.origin (L.next x)))) b
        ∙ ap (λ (x : ℕ). orient2d (p (L.origin (L.prev e))) a₀ (p x)) (W.links.origin-next i)
        ∙ ap₂ (λ (x y : ℕ). orient2d (p x) (p y) b₀) (sym (ap K.origin F.prev-b' ∙ (F.ends g).0)) (sym q))
        (N.corner g (sym (W.links.face-next g) ∙ ap L.face b ∙ o));
    seen-l = subst (λ (x : ℕ). pos 0 <ℤ orient2d (p x) b₀ v) (sym q) seen;
    rise₁ = subst (λ (x : ℕ). RiseLeft v (p x) b₀ (difference b₀ v)) (sym q) (rise-end seen);
    rise₂ = subst (λ (x : ℕ). RiseLeft v (p x) b₀ (difference b₀ a₀)) (sym q) (rise-step seen);
    corner-r =
        subst (λ (z : ℤ). z ≤ℤ pos 0)
        (ap₂ (λ (x y : ℕ). orient2d a₀ (p x) (p y)) (W.links.origin-next i ∙ sym s)
        (W.links.origin-next n ∙ sym (ap (to K) F.next-a' ∙ (F.ends n).1)))
        (N.corner i o);
    right_end = ap p s;
  }
    where
      go : {x : ℕ} → x ≢ K.prev (2 * C.edges + 2 + 1) → x ≢ 2 * C.edges + 2 + 1 → x ≢ 2 * C.edges + 1
          → (x ≡ 2 * C.edges + 2 + 1) ⊎ (x ≡ 2 * C.edges + 1) ⊎ (In C x × (L.face x ≡ 0) × (x ≢ e)) → at_corners orient2d K p x ≤ℤ pos 0
      go a b c (inl k) = absurd (b k)
      go a b c (inr (inl k)) = absurd (c k)
      go a b c (inr (inr (h, z, k))) =
          subst (λ (y : ℤ). y ≤ℤ pos 0) (sym (corner-kept p W W' (omega arith) (λ y j. F.ends j) h (F.next-rest h (λ m. a (m ∙ sym F.prev-b')) k))) (N.corner h z)

-- ---- all of it
module _ (room : ℕ) {C : Counts} {L : Links} {p₀ p : ℕ → Point} {v : Point} {e : ℕ} (G : Good C L p₀) (i : In C e) (o : L.face e ≡ 0)
    (seen₀ : pos 0 <ℤ orient2d (p₀ (L.origin e)) (p₀ (to L e)) v)
    (same : (u : ℕ) → u < C.vertices → p u ≡ p₀ u) (here : p C.vertices ≡ v) (range : InRange v) (N₀ : NoLeftCorner C L p₀) where
  seen : pos 0 <ℤ orient2d (p (L.origin e)) (p (to L e)) v
  seen = rw (same _ (G.wf.ranges.origin< i), same _ (G.wf.ranges.origin< (rev-in C i))) seen₀

  N : NoLeftCorner C L p
  N = corners-placed G.wf same N₀

  abbrev a : Point
  a = p (L.origin e)

  abbrev b : Point
  b = p (to L e)

  abbrev r₀ : ℕ
  r₀ = 2 * C.edges + 1

  abbrev s₀ : Walking
  s₀ = record { mesh = first_face room p C L e; current = 2 * C.edges + 2 + 1 }

  abbrev s₁ : Walking
  s₁ = outside_walk Left room p v s₀

  abbrev s₂ : Walking
  s₂ = record { mesh = s₁.mesh; current = r₀ }

  abbrev s₃ : Walking
  s₃ = outside_walk Right room p v s₂

  left-began : StandLeft room p here r₀ a b (difference b v) (difference b a) s₀
  left-began =
      let Q = first-legalized room G i o seen₀ same here range in
      let M = new-good room G i o seen₀ same here range in
      let H = new-face-frame G.wf i o in
      record {
        stand = left-start room G i o seen₀ same here range;
        next = b;
        chain = subst (λ (D : Counts). LeftChain p v D (first_face room p C L e).links (2 * C.edges + 2 + 1) r₀ a b b (difference b v) (difference b a)) (sym Q.counts)
            (left-same p v M.wf (legalized-boundary M Q) (omega arith) H.outer-b' (omega arith) H.outer-a' (first-chain v G.wf i o N seen));
      }

  left_ended : StandLeft room p here r₀ a b (difference b v) (difference b a) s₁
  left_ended = left-done room p here r₀ a b (difference b v) (difference b a) s₀ left-began

  -- the left end
  abbrev l₁ : ℕ
  l₁ = s₁.current

  abbrev L₁ : Links
  L₁ = s₁.mesh.links

  module _ (f : (insert_outside room p C L v e).full ≡ false) where
    -- a flip that was refused to the left is refused
    whole : s₁.mesh.full ≡ false
    unfolding insert_outside outside_walk
    whole = go s₁.mesh.full refl
      where
        go : (b : Bool) → s₁.mesh.full ≡ b → s₁.mesh.full ≡ false
        go false q = q
        go true q =
            ap (λ (s : Walking). s.mesh.full)
            (sym (until-done (outside_ends Right p v) (outside_turn Right room p) (2 * s₂.mesh.counts.edges + 1) s₂ (full-ends Right p v s₂ q))) ∙ f

    off-left : T (not (sees_edge L₁ p v (L₁.prev l₁)))
    off-left = off-end Left p v s₁ (outside-ends room p here Left s₀ (left-start room G i o seen₀ same here range)) whole

    right-began : StandRight room p here l₁ (p (L₁.origin l₁)) s₂
    right-began =
        let Z = left_ended.chain in
        let T₁ = left_ended.stand.tip in
        let W₁ = left_ended.stand.good.wf in
        let g = W₁.ranges.prev< T₁.in-l in
        record {
          stand = right-start room G i o seen₀ same here range;
          before = a;
          chain = record {
            rest = Z.rest;
            seen_r = subst (λ (q : Point). pos 0 <ℤ orient2d a q v) (sym Z.right_end) seen;
            corner-r = Z.corner-r;
            rise =
                subst (λ (q : Point). RiseRight v a q (difference (p (L₁.origin l₁)) v)) (sym Z.right_end)
                (rise-over v (p (L₁.origin l₁)) a b Z.rise₁.above Z.rise₂.above);
            corner-l =
                subst (λ (x : ℕ). orient2d (p (L₁.origin (L₁.prev l₁))) (p x) v ≤ℤ pos 0)
                (sym (W₁.links.origin-next g) ∙ ap L₁.origin (W₁.links.next-prev T₁.in-l)) (lt_z_no off-left);
            left_end = refl;
          };
        }

    right-ended : StandRight room p here l₁ (p (L₁.origin l₁)) s₃
    right-ended = right-done room p here l₁ (p (L₁.origin l₁)) s₂ right-began

    off-right : T (not (sees_edge s₃.mesh.links p v (s₃.mesh.links.next s₃.current)))
    unfolding insert_outside
    off-right = off-end Right p v s₃ (outside-ends room p here Right s₂ (right-start room G i o seen₀ same here range)) f

    -- NO LEFT CORNER IS LEFT
    pub outside-corners : NoLeftCorner (insert_outside room p C L v e).counts (insert_outside room p C L v e).links p
    unfolding insert_outside
    outside-corners = no-left here right-ended.stand.good.wf right-ended.stand.tip right-ended.chain off-right
