-- What the pieces of a flow graph compute, and the classes that they write.
use Rattle.std.specs.Prelude.{◌≡◌, ℕ, ◌≤◌, ◌<◌, List, [], ◌∷◌, ◌++◌, Contains, flat_map, slice_get, Some}
use Rattle.f77_tree.specs.declared.expressions.Expr.{Expr}
use Rattle.f77_tree.specs.declared.programs.Exec.{Exec}
use Rattle.f77_tree.specs.declared.programs.ExecKind.{ExecKind}
use Rattle.f77_tree.specs.declared.programs.ExecKind.TheVariants.{Assign, Print, Pass, Test, Sign, Pick, DoStart, DoNext, End}
use Rattle.f77_tree.specs.declared.programs.Item.{Item}
use Rattle.f77_tree.specs.declared.programs.Item.TheVariants.{Value, Chars}
use Rattle.f77_tree.specs.declared.programs.Program.{Program}
use Rattle.alias_classes.specs.Writes.{ExecWrites}
use Rattle.alias_classes.specs.Classes.{ClassTable}
use Rattle.alias_classes.specs.Needs.{ExprNeeds}
use Rattle.cfg_build.specs.declared.pieces.Piece.{Piece}
use Rattle.cfg_build.specs.declared.pieces.PieceKind.{PieceKind}
use Rattle.cfg_build.specs.declared.pieces.PieceKind.TheVariants.{Act, Branch}
use Rattle.cfg_build.specs.Flow.{piece_at}
use Rattle.cfg_build.specs.Joined.{FlowGraph}
use Rattle.cfg_build.specs.Passes.{kind_in}
use Rattle.redundancy.specs.Candidates.{IsCandidate, subexpressions}

-- ---- expressions

abbrev pub in_item : Item → List Expr
in_item (Value e) = e ∷ []
in_item (Chars text) = []

-- the expressions of an executable, in the order of evaluation: the subscripts of the target of an assignment come before the
-- value
abbrev pub expressions : ExecKind → List Expr
expressions (Assign target value next) = target.subs ++ value ∷ []
expressions (Print items next) = flat_map in_item items
expressions (Pass next) = []
expressions (Test cond if_true if_false) = cond ∷ []
expressions (Sign value neg zero pos) = value ∷ []
expressions (Pick value targets other) = value ∷ []
expressions (DoStart loop_no var first last step body exit) = first ∷ last ∷ step ∷ []
expressions (DoNext loop_no var body exit) = []
expressions End = []

-- what a branch goes by; the test of a DO evaluates nothing
abbrev pub selectors : ExecKind → List Expr
selectors (DoStart loop_no var first last step body exit) = []
selectors kind = expressions kind

-- the expressions that a piece evaluates
abbrev pub evaluated : PieceKind → ExecKind → List Expr
evaluated Act kind = expressions kind
evaluated Branch kind = selectors kind
evaluated _ kind = []

-- the executable that a piece is a part of
abbrev pub kind_of_piece : List Exec → Piece → ExecKind
kind_of_piece execs piece = kind_in (slice_get execs piece.exec)

-- all that a piece computes, in the order of evaluation
abbrev pub computed_by : List Exec → Piece → List Expr
computed_by execs piece = flat_map subexpressions (evaluated piece.kind (kind_of_piece execs piece))

-- all that the pieces compute, piece by piece
abbrev pub all_computed : List Exec → FlowGraph → List Expr
all_computed execs f = flat_map (computed_by execs) f.pieces

-- the piece at the node computes the candidate
pub record Computes (p : Program) (f : FlowGraph) (e : Expr) (node : ℕ) : Type 0 where
  pub candidate : IsCandidate p.names e
  pub stands : Contains (computed_by p.execs (piece_at f.pieces node)) e

-- ---- classes

-- only an act writes
abbrev pub PieceWrites : ClassTable → PieceKind → ExecKind → ℕ → Type 0
PieceWrites c Act kind n = ExecWrites c kind n
PieceWrites c _ kind n = ⊥

-- the piece at the node writes a class that the expression reads
pub record Kills (p : Program) (f : FlowGraph) (c : ClassTable) (e : Expr) (node : ℕ) : Type 0 where
  pub class : ℕ
  pub writes : PieceWrites c (piece_at f.pieces node).kind (kind_of_piece p.execs (piece_at f.pieces node)) class
  pub reads : ExprNeeds c e class

-- ---- the candidates of a program

-- e stands in the list before d does
pub record StandsBefore (all : List Expr) (e d : Expr) : Type 0 where
  pub place : ℕ
  pub is : slice_get all place ≡ Some e
  pub first : (k : ℕ) → k ≤ place → slice_get all k ≡ Some d → ⊥

-- the candidates that the pieces compute, each once, in the order in which they are first computed
pub record AreCandidates (p : Program) (f : FlowGraph) (candidates : List Expr) : Type 0 where
  pub sound : (k : ℕ) (e : Expr) → slice_get candidates k ≡ Some e → IsCandidate p.names e × Contains (all_computed p.execs f) e
  pub whole : (e : Expr) → IsCandidate p.names e → Contains (all_computed p.execs f) e → Contains candidates e
  pub ordered : (i j : ℕ) (e d : Expr) → i < j → slice_get candidates i ≡ Some e → slice_get candidates j ≡ Some d → StandsBefore (all_computed p.execs f) e d
