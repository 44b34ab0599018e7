-- `heights::heights_outside` meets its contract. Assumes nothing.
use native.Mathlib.Omega.{arith}
use mir.Syntax.{w32}
use mathlib.Core.Bool.{not}
use mathlib.Core.Path.{◌≡◌, sym, ◌∙◌, ap}
use Prim.Native.Nat.{ℕ}
use mir.Facts.{to_z-of_z}
use Rattle.heights.specs.Heights.{is_valid_height, heights_outside}
use Rattle.heights.proofs.Rows.{outside-none, outside-seen, outside-not}
use Rattle.heights.proofs.heights_outside.Goals.{then-not-validate_height, else-not-validate_height}
use Rattle.heights.proofs.heights_outside.Goals as goal

pub loop-v-init : goal.loop-v-init
loop-v-init c = sym (outside-none _)

pub loop-v-preserved : goal.loop-v-preserved
loop-v-preserved c =
    let fits = to_z-of_z {w = w32} (record { sfits = c.height_at.type_inv }) in
    let at = c.height_at.ensures in
    let valid = c.validate_height.ensures ∙ ap is_valid_height fits in
    elim c.if-not-validate_height.branch [
      | then-not-validate_height w ↦ w.outside-is ∙ sym (outside-seen _ _ at valid (ap not w.if-not-validate_height.true))
      | else-not-validate_height w ↦ w.outside-is ∙ c.loop-v.invariant ∙ sym (outside-not _ _ at valid (ap not w.if-not-validate_height.false))
    ]

pub returns : goal.returns
returns c =
    let e : c.loop-v.v ≡ c.args.count = omega arith in
    c.loop-v.invariant ∙ ap (λ (n : ℕ). heights_outside n c.args.row.now) e
