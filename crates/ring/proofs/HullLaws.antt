-- Laws of specs/Hull.antt.
use Rattle.std.specs.Prelude.{◌≡◌, refl, ◌≢◌, Bool, true, false, ℕ, zero, suc, ◌+◌, ◌-◌, ◌*◌, ◌/◌, ◌%◌, ◌<◌, ◌≤◌, T}
use Rattle.std.proofs.Common.{sym, ◌∙◌, subst, div-lt_iff_lt-mul, arith}
use Rattle.std.proofs.Math.Path.{ap}
use Rattle.std.proofs.Math.Decide.{ℕ_discrete, dec_lt}
use Rattle.segment.specs.Arc.{holds}
use Rattle.ring.specs.Ring.{at_ends, between, proper}
use Rattle.ring.specs.Sound.{Sound}
use Rattle.ring.proofs.SoundLaws.{sound-at}
use Rattle.ring.specs.Splice.{FitSplice}
use Rattle.ring.specs.Buckets.{ceiling, Sized}
use Rattle.ring.specs.Node.{NodeTable, nodes}
use Rattle.ring.proofs.NodeLaws.{Stands, match-at}
use Rattle.ring.specs.Insert.{Ring, On, Bucketed}
use Rattle.ring.proofs.InsertLaws.{ring-turn, ring-begins, ring-sound, ring-proper, ring-sole}
use Rattle.ring.specs.Insert.{Insertion, Named, Stay}
use Rattle.ring.proofs.InsertLaws.{size-old, rest_some, left-some, left-angle, rest-round}
use Rattle.ring.specs.Inserted.{Inserted, Rebucketed}
use Rattle.ring.proofs.InsertedLaws.{inserted, bucketed-insert, size-new, left-node, left-node-stays}
use Rattle.ring.specs.Locate.{angle_in}
use Rattle.ring.proofs.LocateLaws.{count-boundary, bucket-count, top-none, top-some}
use Rattle.ring.specs.Stores.{Linked, Before}
use Rattle.ring.proofs.StoresLaws.{stored, stores-inserted, linked-goes, linked-stays}
use Rattle.sums.specs.Bit.{bit}
use Rattle.sums.proofs.BitLaws.{bit-yes}
use Rattle.sums.specs.Iterate.{iter}
use Rattle.sums.proofs.IterateLaws.{iter-add, iter-ext, iter-last}
use Rattle.sums.specs.Tally.{First, tally, walk}
use Rattle.sums.proofs.TallyLaws.{tally-at, tally-turn}
use Rattle.ring.specs.Hull.{HullFrom}

-- ---- from any edge, and from any node
pub ring-turns : {N : ℕ} {next α : ℕ → ℕ} {τ : NodeTable} {e h s : ℕ} → Ring N next α τ e h s
    → (j : ℕ) → Ring N next α τ (iter j next e) h (iter (nodes next α j e) τ.right s)
unfolding walk tally
ring-turns R zero = R
ring-turns {N} {next} {α} {τ} {e} {h} {s} R (suc j) =
    subst (λ (x : ℕ). Ring N next α τ (iter (suc j) next e) h x)
    (sym (iter-add (bit (at_ends proper next α e)) (nodes next α j (next e)) τ.right s)) (ring-turns {e = next e} (ring-turn R) j)

-- where the k-th that passes stands
pub kth : (b : ℕ → Bool) (f : ℕ → ℕ) (n s k : ℕ) → k < tally b (walk n f s)
    → (j : ℕ) × (j < n) × T (b (iter j f s)) × (tally b (walk j f s) ≡ k)
unfolding walk tally
kth b f zero s k l = absurd (omega arith)
kth b f (suc n) s k l = go (b s) refl k (kth b f n (f s)) l
  where
    go : (t : Bool) → b s ≡ t → (k : ℕ)
        → ((i : ℕ) → i < tally b (walk n f (f s)) → (j : ℕ) × (j < n) × T (b (iter j f (f s))) ×
        (tally b (walk j f (f s)) ≡ i)) → k < bit t + tally b (walk n f (f s))
        → (j : ℕ) × (j < suc n) × T (b (iter j f s)) × (tally b (walk j f s) ≡ k)
    go true e zero ih l = (0, omega arith, subst T (sym e) tt, refl)
    go true e (suc k) ih l =
        let r = ih k (omega arith) in let z = ap bit e in let w = r.3 in (suc r.0, (let a = r.1 in omega arith), r.2, omega arith)
    go false e k ih l =
        let r = ih k (omega arith) in let z = ap bit e in let w = r.3 in (suc r.0, (let a = r.1 in omega arith), r.2, omega arith)

-- each node's edge is a boundary edge, and the ring can be taken from there
pub ring-at : {N : ℕ} {next α : ℕ → ℕ} {τ : NodeTable} {e h s : ℕ} (R : Ring N next α τ e h s)
    (k : ℕ) → k < nodes next α h e → Ring N next α τ (τ.edge (iter k τ.right s)) h (iter k τ.right s)
unfolding Stands
ring-at {N} {next} {α} {τ} {e} {h} {s} R k l =
    let r = kth (at_ends proper next α) next h e k l in
    let w = match-at next α τ h e s R.match r.0 r.1 r.2 in
    let c = ap (λ (i : ℕ). iter i τ.right s) r.3 in
    subst (λ (x : ℕ). Ring N next α τ x h (iter k τ.right s)) (sym (ap τ.edge (sym c) ∙ w.0))
    (subst (λ (x : ℕ). Ring N next α τ (iter r.0 next e) h x) c (ring-turns R r.0))

-- a node's edge has the node's two angles: the edge that locate answers holds the angle that was asked for
pub node-edge : {N : ℕ} {next α : ℕ → ℕ} {τ : NodeTable} {e h s : ℕ} (R : Ring N next α τ e h s)
    (k : ℕ) → k < nodes next α h e
    → (let x = iter k τ.right s in (α (τ.edge x) ≡ τ.angle x) × (α (next (τ.edge x)) ≡ τ.angle (τ.right x)))
unfolding Stands
node-edge {N} {next} {α} {τ} {e} {h} {s} R k l =
    let x = iter k τ.right s in
    let A = ring-at R k l in
    let r = kth (at_ends proper next α) next h e k l in
    let w = (match-at next α τ h e s R.match r.0 r.1 r.2).0 in
    let z : τ.edge x ≡ iter r.0 next e = ap (λ (i : ℕ). τ.edge (iter i τ.right s)) (sym r.3) ∙ w in
    let one : bit (at_ends proper next α (τ.edge x)) ≡ 1 = bit-yes (at_ends proper next α (τ.edge x))
    (subst (λ (y : ℕ). T (at_ends proper next α y)) (sym z) r.2) in
    (ring-begins A, ring-begins (ring-turn A) ∙ ap (λ (i : ℕ). τ.angle (iter i τ.right x)) one)

-- ---- one node further on
pub on-turn : {right : ℕ → ℕ} {m s : ℕ} (x : ℕ) → iter m right s ≡ s → On right m s x → On right m (right s) x
on-turn {right} {m} {s} x c (zero, l, z) = (m - 1, omega arith, ap (λ (i : ℕ). iter i right s) (less m l) ∙ c ∙ z)
  where
    less : (m : ℕ) → 0 < m → suc (m - 1) ≡ m
    less m l = omega arith
on-turn x c (suc k, l, z) = (k, omega arith, z)

pub on-back : {right : ℕ → ℕ} {m s : ℕ} (x : ℕ) → iter m right s ≡ s → On right m (right s) x → On right m s x
on-back {right} {m} {s} x c (k, l, z) = go (dec_lt (suc k) m)
  where
    go : Dec (suc k < m) → On right m s x
    go (yes u) = (suc k, u, z)
    go (no u) = let y : suc k ≡ m = omega arith in (0, omega arith, sym (ap (λ (i : ℕ). iter i right s) y ∙ c) ∙ z)

-- the same nodes from any of them
pub on-to : {right : ℕ → ℕ} {m s : ℕ} (x : ℕ) → iter m right s ≡ s → (k : ℕ) → On right m s x → On right m (iter k right s) x
on-to x c zero o = o
on-to {right} {m} {s} x c (suc k) o = on-to x (iter-last m right s ∙ ap right c) k (on-turn x c o)

pub on-from : {right : ℕ → ℕ} {m s : ℕ} (x : ℕ) → iter m right s ≡ s → (k : ℕ) → On right m (iter k right s) x → On right m s x
on-from x c zero o = o
on-from {right} {m} {s} x c (suc k) o = on-back x c (on-from x (iter-last m right s ∙ ap right c) k o)

pub on-any : {right : ℕ → ℕ} {m s : ℕ} → iter m right s ≡ s → 0 < m → (k : ℕ) → On right m s (iter k right s)
on-any {right} {m} {s} c p k = on-from (iter k right s) c k (0, p, refl)

pub linked-turn : (τ : NodeTable) (s m : ℕ) → iter m τ.right s ≡ s → Linked τ s m → Linked τ (τ.right s) m
linked-turn τ s m c K i l = go (dec_lt (suc i) m)
  where
    y : ℕ
    y = iter (suc i) τ.right s

    go : Dec (suc i < m) → τ.left (τ.right y) ≡ y
    go (yes u) = K (suc i) u
    go (no u) =
        let z : suc i ≡ m = omega arith in
        let back : y ≡ s = ap (λ (j : ℕ). iter j τ.right s) z ∙ c in
        rw back (K 0 (omega arith))

-- the links to the left lead along the same nodes
pub linked-back : (τ : NodeTable) {s m : ℕ} → iter m τ.right s ≡ s → Linked τ s m
    → (x : ℕ) → On τ.right m s x → On τ.right m s (τ.left x)
linked-back τ {s} {m} c K x (zero, l, z) =
    let d : suc (m - 1) ≡ m = omega arith in
    let w : τ.right (iter (m - 1) τ.right s) ≡ x = sym (iter-last (m - 1) τ.right s) ∙ ap (λ (i : ℕ). iter i τ.right s) d ∙ c ∙ z in
    (m - 1, omega arith, sym (K (m - 1) (omega arith)) ∙ ap τ.left w)
linked-back τ {s} {m} c K x (suc k, l, z) =
    (k, omega arith, sym (K k (omega arith)) ∙ ap τ.left (sym (iter-last k τ.right s) ∙ z))

pub bucketed-turn : (right angle bucket : ℕ → ℕ) (B w s m : ℕ) → iter m right s ≡ s
    → Bucketed right angle bucket B w s m → Bucketed right angle bucket B w (right s) m
bucketed-turn right angle bucket B w s m c O i l = let o = O i l in (on-turn (bucket i) c o.0, o.1)

-- the same hull from the next edge on, and so from any edge, and by `ring-at` from any node
pub hull-turn : {N : ℕ} {next α : ℕ → ℕ} {τ : NodeTable} {bucket : ℕ → ℕ} {e h s B w : ℕ} → HullFrom N next α τ bucket e h s B w
    → HullFrom N next α τ bucket (next e) h (iter (bit (at_ends proper next α e)) τ.right s) B w
hull-turn {N} {next} {α} {τ} {bucket} {e} {h} {s} {B} {w} H =
    let z = tally-turn (at_ends proper next α) next h e H.ring.sound.closed in
    record {
      ring = ring-turn H.ring;
      links = subst (Linked τ (iter (bit (at_ends proper next α e)) τ.right s)) (sym z) (go₁ (at_ends proper next α e));
      low = λ k l. low' k l (dec_lt (suc k) h);
      sized = H.sized;
      buckets =
          subst (Bucketed τ.right τ.angle bucket B w (iter (bit (at_ends proper next α e)) τ.right s)) (sym z)
          (go₂ (at_ends proper next α e));
    }
  where
    go₁ : (b : Bool) → Linked τ (iter (bit b) τ.right s) (nodes next α h e)
    go₁ true = linked-turn τ s (nodes next α h e) H.ring.back H.links
    go₁ false = H.links

    go₂ : (b : Bool) → Bucketed τ.right τ.angle bucket B w (iter (bit b) τ.right s) (nodes next α h e)
    go₂ true = bucketed-turn τ.right τ.angle bucket B w s (nodes next α h e) H.ring.back H.buckets
    go₂ false = H.buckets

    low' : (k : ℕ) → k < h → Dec (suc k < h) → α (iter k next (next e)) ≤ N
    low' k l (yes u) = H.low (suc k) u
    low' k l (no u) =
        let y : suc k ≡ h = omega arith in
        subst (λ (x : ℕ). α x ≤ N) (sym (ap (λ (j : ℕ). iter j next e) y ∙ H.ring.sound.closed)) (H.low 0 (omega arith))

pub hull-turns : {N : ℕ} {next α : ℕ → ℕ} {τ : NodeTable} {bucket : ℕ → ℕ} {e h s B w : ℕ}
    → HullFrom N next α τ bucket e h s B w → (j : ℕ)
    → HullFrom N next α τ bucket (iter j next e) h (iter (nodes next α j e) τ.right s) B w
unfolding walk tally
hull-turns H zero = H
hull-turns {N} {next} {α} {τ} {bucket} {e} {h} {s} {B} {w} H (suc j) =
    subst (λ (x : ℕ). HullFrom N next α τ bucket (iter (suc j) next e) h x B w)
    (sym (iter-add (bit (at_ends proper next α e)) (nodes next α j (next e)) τ.right s)) (hull-turns {e = next e} (hull-turn H) j)

-- the hull from any of its nodes, and in particular from the node of bucket 0, so that an invariant need name neither
-- an edge nor a node to start from
pub hull-at : {N : ℕ} {next α : ℕ → ℕ} {τ : NodeTable} {bucket : ℕ → ℕ} {e h s B w : ℕ}
    → HullFrom N next α τ bucket e h s B w → (x : ℕ) → On τ.right (nodes next α h e) s x
    → HullFrom N next α τ bucket (τ.edge x) h x B w
unfolding Stands
hull-at {N} {next} {α} {τ} {bucket} {e} {h} {s} {B} {w} H x (k, l, z) =
    let r = kth (at_ends proper next α) next h e k l in
    let c = ap (λ (i : ℕ). iter i τ.right s) r.3 ∙ z in
    let y = (match-at next α τ h e s H.ring.match r.0 r.1 r.2).0 in
    subst (λ (i : ℕ). HullFrom N next α τ bucket i h x B w) (sym (ap τ.edge (sym c) ∙ y))
    (subst (λ (i : ℕ). HullFrom N next α τ bucket (iter r.0 next e) h i B w) c (hull-turns H r.0))

pub hull-home : {N : ℕ} {next α : ℕ → ℕ} {τ : NodeTable} {bucket : ℕ → ℕ} {e h s B w : ℕ}
    → HullFrom N next α τ bucket e h s B w
    → HullFrom N next α τ bucket (τ.edge (bucket 0)) h (bucket 0) B w
hull-home {bucket = bucket} H = hull-at H (bucket 0) (H.buckets 0 (let a = H.sized.eight in omega arith)).0

-- ---- LOCATE from a bucket: the ring is sound from the bucket's node, and the nodes that the walk passes are counted
-- by the boundary's angles
module _ {N : ℕ} {next α : ℕ → ℕ} {τ : NodeTable} {bucket : ℕ → ℕ} {e h s B w : ℕ}
    (H : HullFrom N next α τ bucket e h s B w) where
  pub start-sound : (x : ℕ) → On τ.right (nodes next α h e) s x → Sound N τ.right τ.angle x (nodes next α h e)
  start-sound x (k, l, z) = subst (λ (y : ℕ). Sound N τ.right τ.angle y (nodes next α h e)) z (sound-at (ring-sound H.ring) k)

  pub locate-hull : (x k : ℕ) → x < N
      → First (at_ends (holds x) τ.right τ.angle) τ.right (nodes next α h e) (bucket (x / w)) k
      → tally (at_ends (angle_in (x / w * w) x) next α) (walk h next e) ≡ k
  locate-hull x k l F =
      let i : x / w < B = (div-lt_iff_lt-mul {k = w} {x = x} {y = B} H.sized.room).1 (let a = H.sized.all in omega arith) in
      let o = H.buckets (x / w) i in
      count-boundary H.ring (x / w * w) x
      ∙ sym
      (ap (λ (y : ℕ). tally (λ j. between (x / w * w) x (τ.angle j)) (walk (nodes next α h e) τ.right y)) (sym o.0.2) ∙ tally-at (λ j. between (x / w * w) x (τ.angle j)) τ.right (nodes next α h e) s H.ring.back o.0.0)
      ∙ bucket-count x H.sized (start-sound (bucket (x / w)) o.0) o.1 F

  -- each node has the angle of a boundary edge, and each boundary angle is a node's
  node-angle : (x : ℕ) → On τ.right (nodes next α h e) s x → (j : ℕ) × (j < h) × (τ.angle x ≡ α (iter j next e))
  unfolding Stands
  node-angle x (k, l, z) =
      let r = kth (at_ends proper next α) next h e k l in
      (r.0, r.1, ap τ.angle (sym z) ∙ ap (λ (i : ℕ). τ.angle (iter i τ.right s)) (sym r.3) ∙ (match-at next α τ h e s H.ring.match r.0 r.1 r.2).1)

  angle-node : (j : ℕ) → (x : ℕ) × On τ.right (nodes next α h e) s x × (τ.angle x ≡ α (iter j next e))
  angle-node j =
      let x = iter (nodes next α j e) τ.right s in
      (x, on-any {right = τ.right} {m = nodes next α h e} {s = s} H.ring.back (let t = H.ring.sound.three in omega arith) (nodes next α j e), sym (ring-begins (ring-turns H.ring j)))

  -- at x = N, from bucket 0
  module _ (k : ℕ) (K : First (at_ends (holds N) τ.right τ.angle) τ.right (nodes next α h e) (bucket 0) k) where
    home : On τ.right (nodes next α h e) s (bucket 0) × T (at_ends (holds (0 * w)) τ.right τ.angle (bucket 0))
    home = H.buckets 0 (let a = H.sized.eight in omega arith)

    zero-point : (w : ℕ) → 0 * w ≡ 0
    zero-point w = omega arith

    holds-0 : T (at_ends (holds 0) τ.right τ.angle (bucket 0))
    holds-0 = subst (λ (y : ℕ). T (at_ends (holds y) τ.right τ.angle (bucket 0))) (zero-point w) home.1

    -- a node some steps from bucket 0's
    there : (j : ℕ) → j < nodes next α h e → On τ.right (nodes next α h e) s (iter j τ.right (bucket 0))
    there j l =
        on-from {right = τ.right} {m = nodes next α h e} {s = s} (iter j τ.right (bucket 0)) H.ring.back home.0.0
        (j, l, ap (iter j τ.right) home.0.2)

    low-0 : (j : ℕ) → j < nodes next α h e → τ.angle (iter j τ.right (bucket 0)) ≤ N
    low-0 j l =
        let a = node-angle (iter j τ.right (bucket 0)) (there j l) in subst (λ (y : ℕ). y ≤ N) (sym a.2) (H.low a.0 a.1)

    pub locate-top-none : ((j : ℕ) → j < h → α (iter j next e) ≢ 0) → k ≡ 0
    locate-top-none f =
        top-none (start-sound (bucket 0) home.0) holds-0 K low-0
        (λ j l z. let a = node-angle (iter j τ.right (bucket 0)) (there j l) in f a.0 a.1 (sym a.2 ∙ z))

    pub locate-top-some : (j : ℕ) → j < h → α (iter j next e) ≡ 0 → suc k ≡ nodes next α h e
    locate-top-some j l z =
        let a = angle-node j in
        let o = subst (λ (y : ℕ). On τ.right (nodes next α h e) y a.0) home.0.2
        (on-to {right = τ.right} {m = nodes next α h e} {s = s} a.0 H.ring.back home.0.0 a.1) in
        top-some (start-sound (bucket 0) home.0) holds-0 K low-0
        (ap (λ (y : ℕ). tally (at_ends proper τ.right τ.angle) (walk (nodes next α h e) τ.right y)) (sym home.0.2) ∙ tally-at (at_ends proper τ.right τ.angle) τ.right (nodes next α h e) s H.ring.back home.0.0 ∙ ring-proper H.ring)
        o.0 o.1 (ap τ.angle o.2 ∙ a.2 ∙ z)

-- ---- AN INSERT, where the new node is none of those that stay
module _ {N : ℕ} {next α next' α' : ℕ → ℕ} {τ : NodeTable} {bucket : ℕ → ℕ} {x : Insertion} {e m n l p q r B w : ℕ}
    (H : HullFrom N next α τ bucket e (m + n) x.left B w) (P : FitSplice N next α next' α' e m n l p q r) (q-low : q ≤ N)
    (right_is : iter (nodes next α m e) τ.right x.left ≡ x.right)
    (fresh : (y : ℕ) → Stay τ x (nodes next α n r) y → y ≢ x.new) (M : Named τ x (α e) q) where
  size : nodes next α (m + n) e ≡ nodes next α m e + nodes next α n r
  size = size-old H.ring P right_is

  pub before : Before τ x (nodes next α m e) (nodes next α n r) (α e) q
  before = record {
    some = left-some H.ring P right_is;
    more = rest_some H.ring P right_is;
    right_is = right_is;
    round = rest-round H.ring P right_is;
    apart = λ i j a b z. ring-sole H.ring i j (let g = size in omega arith) (let g = size in omega arith) (ap τ.angle z);
    links = λ i a. H.links i (let g = size in omega arith);
    fresh = fresh;
    named = M;
  }

  pub tables : Inserted τ (stored τ x l p q) x (nodes next α n r) l p q (α e)
  tables = stores-inserted before l p (left-angle H.ring P right_is)

  -- the angles of the new boundary
  low-new : (j : ℕ) → j < suc (suc n) → α' (iter j next' l) ≤ N
  low-new zero a = subst (λ (y : ℕ). y ≤ N) (sym P.spliced.at-l) (H.low 0 (let g = P.spliced.some in omega arith))
  low-new (suc zero) a = subst (λ (y : ℕ). y ≤ N) (sym (ap α' P.spliced.l-p ∙ P.spliced.at_p)) q-low
  low-new (suc (suc j)) a =
      subst (λ (y : ℕ). y ≤ N) (sym (along ∙ P.spliced.at_rest j (omega arith) ∙ behind)) (H.low (m + j) (omega arith))
    where
      along : α' (iter j next' (next' (next' l))) ≡ α' (iter j next r)
      along =
          ap (λ (y : ℕ). α' (iter j next' y)) (ap next' P.spliced.l-p ∙ P.spliced.p-r)
          ∙ ap α' (iter-ext next next' j r (λ i b. P.spliced.rest i (omega arith)))

      behind : α (iter j next r) ≡ α (iter (m + j) next e)
      behind = ap α (ap (iter j next) (sym P.spliced.right) ∙ sym (iter-add m j next e))

  links-new : Dec (α e ≡ q) → Linked (stored τ x l p q) x.start (nodes next' α' (suc (suc n)) l)
  links-new (yes z) i a =
      let b = left-node (α e) q z in let g = size-new H.ring P right_is tables in
      linked-goes before l p z i (omega arith)
  links-new (no z) i a =
      let b = left-node-stays (α e) q z in let g = size-new H.ring P right_is tables in
      linked-stays before l p z i (omega arith)

  pub hull-insert : {bucket' : ℕ → ℕ}
      → Rebucketed bucket bucket' B (ceiling w (α e) % B) (ceiling w q % B) (ceiling w (α r) % B) x.start x.new
      → HullFrom N next' α' (stored τ x l p q) bucket' l (suc (suc n)) x.start B w
  hull-insert U =
      let e-low = H.low 0 (let a = P.spliced.some in omega arith) in
      let r-low = subst (λ (y : ℕ). α y ≤ N) P.spliced.right (H.low m (let a = P.spliced.more in omega arith)) in
      record {
        ring = inserted H.ring P right_is tables;
        links = links-new (ℕ_discrete (α e) q);
        low = low-new;
        sized = H.sized;
        buckets = bucketed-insert H.ring P right_is tables H.sized e-low q-low r-low H.buckets U;
      }
