-- What a load and a store are of the row seen as a function. Assumes nothing.
use Rattle.std.proofs.Common.{ℕ, ◌<◌, ◌≡◌, List, length, get_or, set, sym, ◌∙◌, ap}
use Rattle.std.proofs.Math.Decide.{ℕ_discrete}
use Rattle.std.proofs.Math.Path.{fun_ext}
use Rattle.std.proofs.Math.Seq.{get_or-set_same, get_or-set_other}
use Rattle.std.proofs.lemmas.List.{get_or_default}
use Rattle.sums.specs.Put.{put}
use Rattle.sums.proofs.PutLaws.{put_same, put_other}
use Rattle.ring_rows.specs.declared.Node.{Node}
use Rattle.ring_rows.specs.Rows.{zero_node, nodes_of}

-- inside the row, whatever the code reads past its end
pub loaded : (l : List Node) (i : ℕ) (d : Node) → i < length l → get_or l i d ≡ nodes_of l i
unfolding nodes_of
loaded l i d h = get_or_default l i d zero_node h

pub stored : (l : List Node) (i : ℕ) (n : Node) → i < length l → nodes_of (set l i n) ≡ put (nodes_of l) i n
unfolding nodes_of
stored l i n h = fun_ext (λ x. at x (ℕ_discrete x i))
  where
    at : (x : ℕ) → Dec (x ≡ i) → get_or (set l i n) x zero_node ≡ put (λ j. get_or l j zero_node) i n x
    at x (yes q) = rw (q, get_or-set_same l i n zero_node h, put_same)
    at x (no q) = get_or-set_other l i x n zero_node q ∙ sym (put_other (λ j. get_or l j zero_node) i n x q)

-- one field
pub field_stored : (with : Node → ℕ → Node) (l : List Node) (i v : ℕ) (d : Node) → i < length l
    → nodes_of (set l i (with (get_or l i d) v)) ≡ put (nodes_of l) i (with (nodes_of l i) v)
field_stored with l i v d h =
    stored l i (with (get_or l i d) v) h ∙ ap (λ (n : Node). put (nodes_of l) i (with n v)) (loaded l i d h)
