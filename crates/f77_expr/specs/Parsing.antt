-- What reading an expression answers.
use Rattle.std.specs.Prelude.{◌≡◌, ℕ, ◌+◌, ◌<◌, ◌≤◌, Bool, true, false, List, length, Result, Ok, Err}
use Rattle.f77_tree.specs.declared.statements.RawExpr.{RawExpr}
use Rattle.f77_tree.specs.Grammar.{Written, IsWritten, reading, has_great_number}
use Rattle.f77_expr.specs.declared.parsed.ExprEnd.{ExprEnd}
use Rattle.f77_expr.specs.declared.parsed.ExprEnd.TheVariants.{TooDeep, NoForm, BadConstant, NoMemory}
use Rattle.f77_expr.specs.declared.parsed.Parsed.{Parsed}
use Rattle.f77_expr.specs.declared.parsed.ReadEnd.{ReadEnd}
use Rattle.f77_expr.specs.declared.parsed.ReadExpr.{ReadExpr}
use Rattle.f77_expr.specs.Answers.{kept}
use Rattle.f77_expr.specs.Piece.{bracket_depth, deepest_allowed}

-- a piece that is read as an expression whose constants are none of them too great
pub record IsReadAs (piece : List ℕ) (e : RawExpr) : Type 0 where
  pub written : Written
  pub spells : IsWritten piece written
  pub is : reading written ≡ e
  pub constants : has_great_number written ≡ false

-- a piece that is an expression, of which some constant is too great
pub record HasGreatConstant (piece : List ℕ) : Type 0 where
  pub written : Written
  pub spells : IsWritten piece written
  pub constant : has_great_number written ≡ true

-- a piece that is an expression, and whether some constant of it is too great; what is kept of it is the expression that
-- it is read as, where none is
pub record IsReadWhole (piece : List ℕ) (e : RawExpr) (great : Bool) : Type 0 where
  pub written : Written
  pub spells : IsWritten piece written
  pub is_great : great ≡ has_great_number written
  pub is_kept : e ≡ kept written
  pub is : has_great_number written ≡ false → reading written ≡ e

-- what is read of a piece that begins at a place, for a reader that goes on after it
abbrev pub IsPieceRead : (piece : List ℕ) → (from : ℕ) → Result ReadExpr ReadEnd → Type 0
IsPieceRead piece from (Ok read) = IsReadWhole piece read.expr read.has_great_constant × (read.next ≡ from + length piece)
IsPieceRead piece from (Err ReadEnd.NoForm) = (w : Written) → IsWritten piece w → ⊥
IsPieceRead piece from (Err ReadEnd.NoMemory) = Unit {0}

-- what is answered for a piece that begins at a place, each answer exactly where it is due
abbrev pub IsParsed : (piece : List ℕ) → (from : ℕ) → Result Parsed ExprEnd → Type 0
IsParsed piece from (Ok parsed) = (bracket_depth piece ≤ deepest_allowed) × IsReadAs piece parsed.expr × (parsed.next ≡ from + length piece)
IsParsed piece from (Err TooDeep) = deepest_allowed < bracket_depth piece
IsParsed piece from (Err NoForm) = (bracket_depth piece ≤ deepest_allowed) × ((w : Written) → IsWritten piece w → ⊥)
IsParsed piece from (Err BadConstant) = (bracket_depth piece ≤ deepest_allowed) × HasGreatConstant piece
IsParsed piece from (Err NoMemory) = Unit {0}
