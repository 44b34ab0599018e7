-- What becomes of a row of nodes some of which lose their edges: one more of them, the links and angles of all, and that they stay
-- valid. Assumes nothing.
use Rattle.std.specs.Prelude.{ℕ, suc, ◌<◌, ◌≤◌, ◌≡◌, refl, ◌≢◌, ◌⊎◌}
use Rattle.std.proofs.Math.Decide.{ℕ_discrete}
use Rattle.std.proofs.Common.{arith, sym, ◌∙◌, ap, inl, inr, ⊎_elim}
use Rattle.std.proofs.Math.Path.{fun_ext}
use Rattle.angle.specs.Angle.{turns}
use Rattle.sums.specs.Put.{put}
use Rattle.sums.proofs.PutLaws.{put_same, put_other}
use Rattle.ring_rows.specs.declared.Node.{Node}
use Rattle.ring_rows.specs.Rows.{angle_of, edge_of, left_of, right_node_of, with_edge, ValidNode, ValidNodes}
use Rattle.ring_rows.proofs.RowsLaws.{table_of}
use Rattle.ring_rows.specs.Find.{no_edge}
use Rattle.ring_insert.specs.Retire.{Retired}

pub retired-none : (t : ℕ → Node) (freed : ℕ → ℕ) (from : ℕ) → Retired t t freed from from
retired-none t freed from = record { each = λ i. inl refl; gone = λ k l u. absurd (omega arith); others = λ i h. refl }

-- ---- one more
module _ {t t₁ t₂ : ℕ → Node} {freed : ℕ → ℕ} {from k : ℕ} (R : Retired t t₁ freed from k) (low : from ≤ k)
    (e : t₂ ≡ put t₁ (freed k) (with_edge (t₁ (freed k)) no_edge)) where
  here : (i : ℕ) → i ≡ freed k → t₂ i ≡ with_edge (t₁ i) no_edge
  here i z = rw (e, z) (put_same t₁ (freed k) (with_edge (t₁ (freed k)) no_edge))

  else : (i : ℕ) → i ≢ freed k → t₂ i ≡ t₁ i
  else i z = rw e (put_other t₁ (freed k) (with_edge (t₁ (freed k)) no_edge) i z)

  each_more : (i : ℕ) → Dec (i ≡ freed k) → (t₁ i ≡ t i) ⊎ (t₁ i ≡ with_edge (t i) no_edge) → (t₂ i ≡ t i) ⊎ (t₂ i ≡ with_edge (t i) no_edge)
  each_more i (yes z) (inl w) = inr (here i z ∙ ap (λ (n : Node). with_edge n no_edge) w)
  each_more i (yes z) (inr w) = inr (here i z ∙ ap (λ (n : Node). with_edge n no_edge) w)
  each_more i (no z) (inl w) = inl (else i z ∙ w)
  each_more i (no z) (inr w) = inr (else i z ∙ w)

  gone-more : (j : ℕ) → from ≤ j → j < suc k → Dec (freed j ≡ freed k) → Dec (j ≡ k) → edge_of t₂ (freed j) ≡ no_edge
  gone-more j l u (yes z) d = ap (λ (n : Node). n.edge) (here (freed j) z)
  gone-more j l u (no z) (yes d) = absurd (z (ap freed d))
  gone-more j l u (no z) (no d) = ap (λ (n : Node). n.edge) (else (freed j) z) ∙ R.gone j l (omega arith)

  pub retired-more : Retired t t₂ freed from (suc k)
  retired-more = record {
    each = λ i. each_more i (ℕ_discrete i (freed k)) (R.each i);
    gone = λ j l u. gone-more j l u (ℕ_discrete (freed j) (freed k)) (ℕ_discrete j k);
    others = λ i h. else i (λ z. h k low (omega arith) (sym z)) ∙ R.others i (λ j l u. h j l (omega arith));
  }

-- ---- all of them
module _ {t t' : ℕ → Node} {freed : ℕ → ℕ} {from to : ℕ} (R : Retired t t' freed from to) where
  -- a field that is not the edge
  same : {A : Type 0} (g : Node → A) → ((n : Node) → g (with_edge n no_edge) ≡ g n) → (i : ℕ) → g (t' i) ≡ g (t i)
  same g e i = ⊎_elim (λ w. ap g w) (λ w. ap g w ∙ e (t i)) (R.each i)

  pub retired-table : table_of t' ≡ record { left = left_of t; right = right_node_of t; angle = angle_of t; edge = edge_of t' }
  retired-table =
      let l : left_of t' ≡ left_of t = fun_ext (same (λ n. n.left) (λ n. refl)) in
      let r : right_node_of t' ≡ right_node_of t = fun_ext (same (λ n. n.right) (λ n. refl)) in
      let a : angle_of t' ≡ angle_of t = fun_ext (same (λ n. turns n.angle) (λ n. refl)) in
      λ i. record { left = l i; right = r i; angle = a i; edge = edge_of t' }

  -- no edge comes back
  pub retired-stays : (i : ℕ) → edge_of t i ≡ no_edge → edge_of t' i ≡ no_edge
  retired-stays i e = ⊎_elim (λ w. ap (λ (n : Node). n.edge) w ∙ e) (λ w. ap (λ (n : Node). n.edge) w) (R.each i)

  pub retired-valid : {len : ℕ} → ValidNodes t len → ValidNodes t' len
  retired-valid {len} v i l = ⊎_elim (λ w. rw w (v i l)) (λ w. rw w (lost (v i l))) (R.each i)
    where
      lost : ValidNode (t i) len → ValidNode (with_edge (t i) no_edge) len
      lost u = record { angle = u.angle; edge = omega arith; left = u.left; right = u.right }
