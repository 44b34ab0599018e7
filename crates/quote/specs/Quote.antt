-- The refusals 11 and 12 of 02, Change 5. Definitions only, and each computes; `QuoteLaws` says what they come to. Which quote asking
-- gives is `quote_of` of the crate `ask`.
use Rattle.std.specs.Prelude.{Bool, cond, ◌&&◌, ℕ, eqb, Ok}
use Rattle.math.specs.Determinant.{is_coordinate}
use Rattle.mesh_check.specs.Checked.{Checked}
use Rattle.mesh_check.specs.Check.{refused}
use Rattle.quote.specs.declared.Quote.{Quote}

-- every number is the same; `is_coordinate` tests whether two signed numbers are
unfoldable pub same_quote : Quote → Quote → Bool
same_quote q p =
    eqb q.changes p.changes
    && (is_coordinate q.x p.x && (is_coordinate q.y p.y && is_coordinate q.z p.z)
    && (eqb q.fate p.fate && eqb q.faces p.faces))

-- "11, the quote's count or point isn't the present one, or its fate or faces differ from what asking gives now": present is the quote that
-- asking gives now for the point that is handed in
unfoldable pub check_quote : Quote → Quote → Checked
check_quote q present = cond (same_quote q present) (Ok tt) (refused 11 0)

-- "The count stops at 4,294,967,295 and no quote is given there."
abbrev pub last_change : ℕ
last_change = 4294967295

-- "12, the change count is at its end"
unfoldable pub check_changes : ℕ → Checked
check_changes changes = cond (eqb changes last_change) (refused 12 0) (Ok tt)
