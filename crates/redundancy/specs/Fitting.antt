-- Executables whose expressions and targets fit the table of names. No public clause cites this module.
use Rattle.std.specs.Prelude.{◌≡◌, ℕ, ◌<◌, List, [], All, length}
use Rattle.f77_tree.specs.declared.programs.ExecKind.{ExecKind}
use Rattle.f77_tree.specs.declared.programs.ExecKind.TheVariants.{Assign, DoStart, DoNext}
use Rattle.f77_tree.specs.declared.programs.NameInfo.{NameInfo}
use Rattle.f77_tree.specs.Value.{dims_of, IsExpression, IsAccess}
use Rattle.f77_tree.specs.declared.programs.Exec.{Exec}
use Rattle.alias_classes.specs.Classes.{ClassTable}
use Rattle.cfg_build.specs.declared.pieces.Piece.{Piece}
use Rattle.cfg_build.specs.Flow.{piece_at}
use Rattle.redundancy.specs.Computed.{expressions, kind_of_piece, PieceWrites}

-- a name of the table without dimensions
pub record IsScalarName (names : List NameInfo) (name : ℕ) : Type 0 where
  pub known : name < length names
  pub scalar : dims_of names name ≡ []

-- what an assignment or a DO writes is of the table
abbrev pub TargetFits : List NameInfo → ExecKind → Type 0
TargetFits names (Assign target value next) = IsAccess names target
TargetFits names (DoStart loop_no var first last step body exit) = IsScalarName names var
TargetFits names (DoNext loop_no var body exit) = IsScalarName names var
TargetFits names _ = Unit {0}

-- each expression and the target
pub record ExecFits (names : List NameInfo) (kind : ExecKind) : Type 0 where
  pub evaluates : All (IsExpression names) (expressions kind)
  pub target : TargetFits names kind

-- the piece at the node writes the class
abbrev pub WritesAt : ClassTable → List Exec → List Piece → (node n : ℕ) → Type 0
WritesAt c execs pieces node n = PieceWrites c (piece_at pieces node).kind (kind_of_piece execs (piece_at pieces node)) n
