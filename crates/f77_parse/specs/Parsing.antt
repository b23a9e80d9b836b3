-- What reading a statement answers.
use Rattle.std.specs.Prelude.{◌≡◌, ◌<◌, ◌≤◌, true, if◌then◌else◌, nat_lt, ℕ, List, Option, Some, None, Result, Ok, Err}
use Rattle.f77_tree.specs.declared.statements.Labelled.{Labelled}
use Rattle.f77_tree.specs.StatementGrammar.{WrittenStatement, IsWrittenStatement, IsReadAs, statement_of, has_bad_constant}
use Rattle.fixed_form.specs.declared.raw_stmt.RawStmt.{RawStmt}
use Rattle.f77_expr.specs.Piece.{bracket_depth, deepest_allowed}
use Rattle.f77_parse.specs.Forms.{statement_at}
use Rattle.f77_parse.specs.declared.stmt_end.StmtEnd.{StmtEnd}
use Rattle.f77_parse.specs.declared.stmt_end.StmtEnd.TheVariants.{NoForm, BadConstant, TooDeep, NoMemory}

-- a text that is a statement, of which some constant is out of range
pub record HasBadConstant (text : List ℕ) : Type 0 where
  pub written : WrittenStatement
  pub spells : IsWrittenStatement text written
  pub constant : has_bad_constant written ≡ true

-- what is answered for a statement of the source, each answer exactly where it is due
abbrev pub IsParsed : RawStmt → Result Labelled StmtEnd → Type 0
IsParsed raw (Ok labelled) = (bracket_depth raw.text ≤ deepest_allowed) × IsReadAs raw.text labelled.stmt × (labelled.label ≡ raw.label) × (labelled.line ≡ raw.line)
IsParsed raw (Err (TooDeep line)) = (deepest_allowed < bracket_depth raw.text) × (line ≡ raw.line)
IsParsed raw (Err (NoForm line)) = (bracket_depth raw.text ≤ deepest_allowed) × ((s : WrittenStatement) → IsWrittenStatement raw.text s → ⊥) × (line ≡ raw.line)
IsParsed raw (Err (BadConstant line)) = (bracket_depth raw.text ≤ deepest_allowed) × HasBadConstant raw.text × (line ≡ raw.line)
IsParsed raw (Err NoMemory) = Unit {0}

-- ---- the same as a function

-- by the statement that the text spells, if it does
abbrev pub answer_for : RawStmt → Option WrittenStatement → Result Labelled StmtEnd
answer_for raw None = Err (NoForm raw.line)
answer_for raw (Some s) =
    if has_bad_constant s then Err (BadConstant raw.line)
    else Ok (record { label = raw.label; line = raw.line; stmt = statement_of s })

-- a statement of the source, read, or why it isn't; allocation failure has no place in it
abbrev pub reading_of : RawStmt → Result Labelled StmtEnd
reading_of raw = if nat_lt deepest_allowed (bracket_depth raw.text) then Err (TooDeep raw.line) else answer_for raw (statement_at raw.text)
