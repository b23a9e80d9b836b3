-- Which lines the pieces of a flow graph touch. Line 0 is that of output, and every other line is a class: of words, or of
-- the count and the step of a DO.
use Rattle.std.proofs.Common.{zero, suc}
use Rattle.std.specs.Prelude.{◌≡◌, ◌<◌, ◌↔◌, ◌⊎◌, ℕ, Bool, true, false, ◌==◌, ◌||◌, List, slice_get, slice_index_or}
use Rattle.closed_walks.specs.Cycling.{IsOnCycle}
use Rattle.closed_walks.specs.Graph.{from}
use Rattle.f77_tree.specs.declared.programs.ExecKind.{ExecKind}
use Rattle.f77_tree.specs.declared.programs.ExecKind.TheVariants.{Print, DoStart, DoNext}
use Rattle.f77_tree.specs.declared.programs.NameInfo.{NameInfo}
use Rattle.f77_tree.specs.declared.programs.Program.{Program}
use Rattle.f77_tree.specs.Known.{ExecMayTrap}
use Rattle.f77_tree.specs.Touched.{ExecReadsData}
use Rattle.alias_classes.specs.Classes.{ClassTable, class_of_loop}
use Rattle.alias_classes.specs.Needs.{ExecNeeds}
use Rattle.cfg_build.specs.declared.pieces.PieceKind.{PieceKind}
use Rattle.cfg_build.specs.declared.pieces.PieceKind.TheVariants.{Act, Branch, Hold}
use Rattle.cfg_build.specs.Flow.{flow, piece_at}
use Rattle.cfg_build.specs.Passes.{kind_in}
use Rattle.cfg_build.specs.Shape.{kind_at}

-- ---- what stands at a node of the flow graph of a program

abbrev pub piece_kind : Program → ℕ → PieceKind
piece_kind p node = kind_at (flow p.execs) node

-- the number of the executable of which the piece is a part, where it is one of an executable
abbrev pub exec_at : Program → ℕ → ℕ
exec_at p node = (piece_at (flow p.execs).pieces node).exec

abbrev pub exec_kind : Program → ℕ → ExecKind
exec_kind p node = kind_in (slice_get p.execs (exec_at p node))

-- ---- classes

-- what a branch needs: the test of a DO the count alone
abbrev pub BranchNeeds : ClassTable → ExecKind → ℕ → Type 0
BranchNeeds c (DoStart loop_no var first last step body exit) n = class_of_loop c loop_no ≡ n
BranchNeeds c kind n = ExecNeeds c kind n

abbrev pub KindNeeds : ClassTable → PieceKind → ExecKind → ℕ → Type 0
KindNeeds c Act kind n = ExecNeeds c kind n
KindNeeds c Branch kind n = BranchNeeds c kind n
KindNeeds c _ kind n = ⊥

-- n is a class that the piece needs
abbrev pub PieceNeeds : Program → ClassTable → (node n : ℕ) → Type 0
PieceNeeds p c node n = KindNeeds c (piece_kind p node) (exec_kind p node) n

-- ---- the line of output

abbrev pub Prints : ExecKind → Type 0
Prints (Print items next) = Unit {0}
Prints _ = ⊥

-- what a branch runs may trap, where it is told whether its executable may; the test of a DO only looks at the count
abbrev pub BranchTraps : (may : Type 0) → ExecKind → Type 0
BranchTraps may (DoStart loop_no var first last step body exit) = ⊥
BranchTraps may kind = may

abbrev pub BranchMayTrap : List NameInfo → ExecKind → Type 0
BranchMayTrap names kind = BranchTraps (ExecMayTrap names kind) kind

abbrev pub is_increment_kind : PieceKind → ExecKind → Bool
is_increment_kind Act (DoNext loop_no var body exit) = true
is_increment_kind _ kind = false

-- the piece increments a DO
abbrev pub is_increment : Program → ℕ → Bool
is_increment p node = is_increment_kind (piece_kind p node) (exec_kind p node)

-- edges without which no run goes round for ever: edge 0, which leaves the end, and those that leave increments, since each
-- increment lowers a count
abbrev pub ends_rounds : Program → (e : ℕ) → Bool
ends_rounds p e = (e == 0) || is_increment p (from (flow p.execs).graph e)

-- Why a piece touches the line of output, where it is told whether its executable may trap: an act prints, takes data or may trap; a
-- branch may trap, or lies on a cycle that a run may go round for ever, or needs no class; and a hold stands where no run ends.
abbrev pub KindNeedsOutBy : Program → ClassTable → (node : ℕ) → (may : Type 0) → PieceKind → ExecKind → Type 0
KindNeedsOutBy p c node may Act kind = Prints kind ⊎ (ExecReadsData kind ⊎ may)
KindNeedsOutBy p c node may Branch kind = BranchTraps may kind ⊎ (IsOnCycle (flow p.execs).graph (ends_rounds p) node ⊎ ((n : ℕ) → BranchNeeds c kind n → ⊥))
KindNeedsOutBy p c node may Hold kind = Unit {0}
KindNeedsOutBy p c node may _ kind = ⊥

-- the same, where what can trap by its text may trap
abbrev pub KindNeedsOut : Program → ClassTable → (node : ℕ) → PieceKind → ExecKind → Type 0
KindNeedsOut p c node piece kind = KindNeedsOutBy p c node (ExecMayTrap p.names kind) piece kind

-- `may k` says that the executable k may trap
abbrev pub NeedsOutBy : Program → ClassTable → (may : ℕ → Type 0) → ℕ → Type 0
NeedsOutBy p c may node = KindNeedsOutBy p c node (may (exec_at p node)) (piece_kind p node) (exec_kind p node)

-- the executable can trap by its text
abbrev pub CanTrapAt : Program → (k : ℕ) → Type 0
CanTrapAt p k = ExecMayTrap p.names (kind_in (slice_get p.execs k))

-- ---- all lines

-- the piece at the node touches the line, where it is told which executables may trap
abbrev pub TouchesBy : Program → ClassTable → (may : ℕ → Type 0) → (node line : ℕ) → Type 0
TouchesBy p c may node zero = NeedsOutBy p c may node
TouchesBy p c may node (suc n) = PieceNeeds p c node (suc n)

-- the same, where each executable may trap that can trap by its text
abbrev pub Touches : Program → ClassTable → (node line : ℕ) → Type 0
Touches p c node line = TouchesBy p c (CanTrapAt p) node line

-- the tests tell for each piece of the flow graph which lines it touches, where it is told which executables may trap
abbrev pub AreTouchesBy : Program → ClassTable → (may : ℕ → Type 0) → (touches : ℕ → ℕ → Bool) → Type 0
AreTouchesBy p c may touches = (node line : ℕ) → node < (flow p.execs).graph.nodes → (touches node line ≡ true) ↔ TouchesBy p c may node line

-- such flags, one for each executable
abbrev pub IsFlagged : List Bool → (k : ℕ) → Type 0
IsFlagged flags k = slice_index_or flags k false ≡ true

abbrev pub AreTouches : Program → ClassTable → (touches : ℕ → ℕ → Bool) → Type 0
AreTouches p c touches = AreTouchesBy p c (CanTrapAt p) touches
