-- Laws of specs/StackLaws.antt.
use Rattle.std.specs.Prelude.{Bool, true, false, ◌&&◌, ◌||◌, ◌≡◌, ℕ, zero, suc, ◌+◌, ◌-◌, ◌*◌, ◌/◌, ◌<◌, ◌≤◌, ltb, eqb}
use Rattle.std.proofs.Math.Bool.{not}
use mathlib.Core.List.{List, [], ◌∷◌}
use Rattle.std.proofs.Math.Path.{refl, sym, ap, ap₂, subst}
use Rattle.std.proofs.Common.{◌∙◌, arith, lt-ltb, le-ltb, eq-eqb, ne_eqb}
use Rattle.std.proofs.Math.Decide.{ℕ_discrete, dec_lt}
use Rattle.std.proofs.Math.ListN.{length, get_or}
use Rattle.corner.specs.Corner.{Extended, close_corner}
use Rattle.corner.specs.CornerLaws.{closed-length}
use Rattle.math.specs.declared.Point.{Point}
use Rattle.mesh.specs.Mesh.{Links}
use Rattle.mesh.specs.Area.{boundary_length}
use Rattle.mesh.proofs.BoundaryLaws.{boundary-least, boundary-most}
use Rattle.mesh.specs.Good.{Good}
use Rattle.sums.specs.Iterate.{iter}
use Rattle.sums.specs.Until.{until}
use Rattle.sums.proofs.UntilLaws.{until-related, until-turn, until-fuel, until-ends}
use Rattle.convexity.specs.Convexity.{Pass, turns_left_at, last_turns_left, close_last, close_corners, pass_turn, is_second, pass_start, fix_convexity}
use Rattle.convexity.proofs.BehindLawsFacts.{behind-period, closes, closes-behind}
use Rattle.convexity.specs.Walk.{Walk, edge1, edge2, left_behind, stops, close_behind, close_all_behind, onward, walk_turn_of, walk_ends_of, walk_start_of, walk_pass}
use Rattle.convexity.specs.WalkLaws.{Walking, Turns, Turned}
use Rattle.convexity.proofs.WalkLawsFacts.{turns-here, close-keeps, onward-keeps, left_over, turned, walk-falls, walk-starts}
use Rattle.convexity.specs.StackLaws.{pass_of, Chain, Stacked}

-- ---- lists of two and more
two-least : (l : List ℕ) → 1 < length l → (x : ℕ) × (y : ℕ) × (t : List ℕ) × (l ≡ x ∷ y ∷ t)
two-least [] h = absurd (omega arith)
two-least (x ∷ []) h = absurd (omega arith)
two-least (x ∷ y ∷ t) h = (x, y, t, refl)

last-test : (p : ℕ → Point) (L : Links) (l : List ℕ) (n a b : ℕ) → length l ≡ n → (0 < n → get_or l 0 0 ≡ a) → (1 < n → get_or l 1 0 ≡ b)
    → last_turns_left p L l ≡ (ltb 1 n && turns_left_at L p b a)
unfolding last_turns_left
last-test p L [] n a b e f g = rw (le-ltb 1 n (omega arith)) refl
last-test p L (x ∷ []) n a b e f g = rw (le-ltb 1 n (omega arith)) refl
last-test p L (x ∷ y ∷ t) n a b e f g = rw (lt-ltb 1 n (omega arith)) (ap₂ (λ (u v : ℕ). turns_left_at L p u v) (g (omega arith)) (f (omega arith)))

second-few : (x : ℕ) (l : List ℕ) → length l ≤ 1 → is_second x l ≡ false
unfolding is_second
second-few x [] h = refl
second-few x (a ∷ []) h = refl
second-few x (a ∷ b ∷ l) h = absurd (omega arith)

second_is : (x k : ℕ) (l : List ℕ) → length l ≡ suc (suc k) → is_second x l ≡ eqb x (get_or l k 0)
unfolding is_second
second_is x k [] e = absurd (omega arith)
second_is x k (a ∷ []) e = absurd (omega arith)
second_is x zero (a ∷ b ∷ []) e = refl
second_is x (suc k) (a ∷ b ∷ []) e = absurd (omega arith)
second_is x zero (a ∷ b ∷ c ∷ l) e = absurd (omega arith)
second_is x (suc k) (a ∷ b ∷ c ∷ l) e = second_is x k (b ∷ c ∷ l) (omega arith)

-- ---- one walk
module _ {p : ℕ → Point} (w : Walk) (i : Walking p w) (l : List ℕ) (c : Chain w l) where
  abbrev h : ℕ
  h = boundary_length w.mesh.counts w.mesh.links

  -- the tests agree
  test-same : (w.mesh.full || not (last_turns_left p w.mesh.links l)) ≡ stops p w
  unfolding stops left_behind
  test-same = let n = boundary-least i.good.wf in
      ap (λ (t : Bool). w.mesh.full || not t) (last-test p w.mesh.links l w.depth (edge2 w) (edge1 w) c.depth
      (λ u. c.entries 0 u (omega arith)) (λ u. c.entries 1 u (omega arith)))

  -- the walk has come around just where no turn is left
  end_same : is_second w.current l ≡ eqb w.left 0
  end_same = go (dec_lt 1 (length l)) (ℕ_discrete w.left 0)
    where
      entry : 1 < length l → is_second w.current l ≡ eqb w.current (iter (suc (w.depth - 2)) w.mesh.links.prev w.current)
      entry u = second_is w.current (w.depth - 2) l (let e = c.depth in omega arith)
          ∙ ap (eqb w.current) (c.entries (w.depth - 2) (let e = c.depth in omega arith) (let e = c.depth in let n = i.count in omega arith))

      go : Dec (1 < length l) → Dec (w.left ≡ 0) → is_second w.current l ≡ eqb w.left 0
      go (yes u) (yes z) =
          let e : suc (w.depth - 2) ≡ h = (let e = c.depth in let n = i.count in omega arith) in
          entry u ∙ eq-eqb _ _ (sym (ap (λ (k : ℕ). iter k w.mesh.links.prev w.current) e ∙ (behind-period i.good.wf i.current.0 i.current.1).back))
          ∙ sym (eq-eqb _ _ z)
      go (yes u) (no z) =
          entry u ∙ ne_eqb _ _ (λ q. (behind-period i.good.wf i.current.0 i.current.1).least (suc (w.depth - 2)) (omega arith)
          (let e = c.depth in let n = i.count in omega arith) (sym q)) ∙ sym (ne_eqb _ _ z)
      go (no u) (yes z) = absurd (let e = c.depth in let n = i.count in let k = boundary-least i.good.wf in omega arith)
      go (no u) (no z) = second-few w.current l (omega arith) ∙ sym (ne_eqb _ _ z)

  -- the corner of the last two is closed
  module _ (room : ℕ) (e : stops p w ≡ false) (x y : ℕ) (t : List ℕ) (q : l ≡ x ∷ y ∷ t) where
    new : ℕ
    new = 2 * w.mesh.counts.edges + 1

    close-same : close_last room p (pass_of w l) l ≡ pass_of (close_behind room p w) (new ∷ t)
    unfolding close_last close_behind new
    close-same = let n = boundary-least i.good.wf in let k = (turns-here p w e).two in
        ap (close_last room p (pass_of w l)) q
        ∙ ap₂ (λ (u v : ℕ). record { mesh = close_corner room p w.mesh u (u / 2) (v / 2); current = w.current; edges = (2 * w.mesh.counts.edges + 1) ∷ t })
        (ap (λ (l : List ℕ). get_or l 1 0) (sym q) ∙ c.entries 1 k (omega arith)) (ap (λ (l : List ℕ). get_or l 0 0) (sym q) ∙ c.entries 0 (omega arith) (omega arith))

    close-chain : Chain (close_behind room p w) (new ∷ t)
    unfolding close_behind new
    close-chain = record { depth = (let k = ap length q in let d = c.depth in omega arith); entries = at }
      where
        T : Turns p w
        T = turns-here p w e

        at : (k : ℕ) → k < w.depth - 1
            → k
            < boundary_length (close_corner room p w.mesh (edge1 w) (edge1 w / 2) (edge2 w / 2)).counts
            (close_corner room p w.mesh (edge1 w) (edge1 w / 2) (edge2 w / 2)).links
            → get_or ((2 * w.mesh.counts.edges + 1) ∷ t) k 0
            ≡ iter (suc k) (close_corner room p w.mesh (edge1 w) (edge1 w / 2) (edge2 w / 2)).links.prev
            w.current
        at zero u v = sym (closes-behind room p w.mesh i.good i.current.0 i.current.1 T.left).last
        at (suc j) u v =
            let n = closed-length i.good (closes room p w.mesh i.good i.current.0 i.current.1 T.left) in
            ap (λ (l : List ℕ). get_or l (suc (suc j)) 0) (sym q) ∙ c.entries (suc (suc j)) (omega arith) (omega arith)
            ∙ sym ((closes-behind room p w.mesh i.good i.current.0 i.current.1 T.left).rest j (omega arith))

  -- the current half-edge is pushed
  push-chain : 0 < w.left → Chain (onward w) (w.current ∷ l)
  unfolding onward
  push-chain u = record { depth = (let d = c.depth in omega arith); entries = at }
    where
      back : w.mesh.links.prev (w.mesh.links.next w.current) ≡ w.current
      back = i.good.wf.links.prev-next i.current.0

      at : (k : ℕ) → k < w.depth + 1 → k < h
          → get_or (w.current ∷ l) k 0 ≡ iter (suc k) w.mesh.links.prev (w.mesh.links.next w.current)
      at zero u v = sym back
      at (suc j) u v = c.entries j (omega arith) (omega arith) ∙ ap (iter (suc j) w.mesh.links.prev) (sym back)

module _ (room : ℕ) (p : ℕ → Point) where
  abbrev pub done : Pass → Bool
  done s = s.mesh.full || not (last_turns_left p s.mesh.links s.edges)

  abbrev pub ends : Pass → Bool
  ends s = s.mesh.full || is_second s.current s.edges

  stacked-test : (s : Pass) (w : Walk) → Stacked p s w → done s ≡ stops p w
  stacked-test s w S = ap done S.is ∙ test-same w S.walking S.stack S.chain

  stacked-close : (s : Pass) (w : Walk) → Stacked p s w → done s ≡ false → Stacked p (close_last room p s s.edges) (close_behind room p w)
  stacked-close s w S f =
      let e = sym (stacked-test s w S) ∙ f in
      let k = (turns-here p w e).two in let d = S.chain.depth in
      let q = two-least S.stack (omega arith) in
      subst (λ (s : Pass). Stacked p (close_last room p s s.edges) (close_behind room p w)) (sym S.is) (record {
        stack = _;
        is = close-same w S.walking S.stack S.chain room e q.0 q.1 q.2 q.3;
        chain = close-chain w S.walking S.stack S.chain room e q.0 q.1 q.2 q.3;
        walking = close-keeps room p w S.walking e;
      })

  stacked-all : (s : Pass) (w : Walk) → Stacked p s w → Stacked p (close_corners room p s) (close_all_behind room p w)
  unfolding close_corners close_all_behind
  stacked-all s w S = rw (ap (λ (s : Pass). length s.edges) S.is ∙ S.chain.depth)
      (until-related done (λ t. close_last room p t t.edges) (stops p) (close_behind room p) (Stacked p) stacked-test stacked-close (w.depth + 1) s w S)

  stacked-turn : (s : Pass) (w : Walk) → Stacked p s w → 0 < w.left → Stacked p (pass_turn room p s) (walk_turn_of room p w)
  unfolding pass_turn walk_turn_of onward
  stacked-turn s w S l = subst (λ (s : Pass). Stacked p (pass_turn room p s) (walk_turn_of room p w)) (sym S.is)
      (stacked-all _ (onward w) (record { stack = w.current ∷ S.stack; is = refl; chain = push-chain w S.walking S.stack S.chain l; walking = onward-keeps w S.walking l }))

  stacked-ends : (s : Pass) (w : Walk) → Stacked p s w → ends s ≡ walk_ends_of w
  stacked-ends s w S = ap ends S.is ∙ ap (λ (b : Bool). w.mesh.full || b) (end_same w S.walking S.stack S.chain)

  stacked-start : (m : Extended) → Good m.counts m.links p → Stacked p (pass_start m) (walk_start_of m)
  unfolding walk_start_of
  stacked-start m G = record { stack = []; is = refl; chain = record { depth = refl; entries = λ k u v. absurd (omega arith) }; walking = walk-starts room p m G }

  start_left : (m : Extended) → (walk_start_of m).left ≡ boundary_length m.counts m.links + 1
  unfolding walk_start_of
  start_left m = refl

  start-full : (m : Extended) → (walk_start_of m).mesh.full ≡ m.full
  unfolding walk_start_of
  start-full m = refl

  module _ (m : Extended) (G : Good m.counts m.links p) (f : m.full ≡ false) where
    abbrev fuel : ℕ
    fuel = 2 * m.counts.edges + 2

    goes : walk_ends_of (walk_start_of m) ≡ false
    goes = let l = start_left m in rw (start-full m ∙ f, ne_eqb (walk_start_of m).left 0 (omega arith)) refl

    first : Turned p (walk_start_of m) (walk_turn_of room p (walk_start_of m))
    first = turned room p (walk_start_of m) (walk-starts room p m G) goes

    enough : (walk_turn_of room p (walk_start_of m)).left < fuel
    enough = let l = start_left m in let k = first.left in let b = boundary-most G.wf in omega arith

    together : Stacked p (until ends (pass_turn room p) fuel (pass_turn room p (pass_start m)))
        (until walk_ends_of (walk_turn_of room p) fuel (walk_turn_of room p (walk_start_of m)))
    together = let l = start_left m in
        until-related ends (pass_turn room p) walk_ends_of (walk_turn_of room p) (Stacked p) stacked-ends (λ s w S e. stacked-turn s w S (left_over w (sym (stacked-ends s w S) ∙ e)).1)
        fuel (pass_turn room p (pass_start m)) (walk_turn_of room p (walk_start_of m)) (stacked-turn (pass_start m) (walk_start_of m) (stacked-start m G) (omega arith))

    -- the fuel suffices: the pass ends by its own test
    pub fix-ends : ends (until ends (pass_turn room p) fuel (pass_turn room p (pass_start m))) ≡ true
    fix-ends = stacked-ends _ _ together ∙ until-ends walk_ends_of (walk_turn_of room p) (walk-falls room p) fuel (walk_turn_of room p (walk_start_of m)) first.walking enough

    -- THE PASS WITH O(1) STATE IS THE PASS
    pub fix-walks : fix_convexity room p m ≡ walk_pass room p m
    unfolding fix_convexity walk_pass
    fix-walks =
        let w = walk_start_of m in
        ap (λ (s : Pass). s.mesh) together.is
        ∙ ap (λ (w : Walk). w.mesh) (until-fuel walk_ends_of (walk_turn_of room p) (walk-falls room p) fuel (w.left + 1) (walk_turn_of room p w) first.walking enough (let k = first.left in omega arith)
        ∙ sym (until-turn walk_ends_of (walk_turn_of room p) (walk-falls room p) (w.left + 1) w (walk-starts room p m G) (omega arith) goes))
