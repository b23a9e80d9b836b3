-- What the nodes of a dataflow graph need and do.
use Rattle.std.specs.Prelude.{ℕ, Bool, true, false, ◌==◌, ◌&&◌, ◌||◌, not, if◌then◌else◌, length, Option, Some, None, slice_get}
use Rattle.std.specs.List.{list_any}
use Rattle.printed_graphs.specs.Nodes.{piece_of}
use Rattle.printed_graphs.specs.declared.dataflow.Node.{Node}
use Rattle.printed_graphs.specs.declared.dataflow.Node.TheVariants as node
use Rattle.printed_graphs.specs.declared.dataflow.TokenLine.{TokenLine}
use Rattle.printed_graphs.specs.declared.dataflow.TokenLine.TheVariants as token_line
use Rattle.printed_graphs.specs.declared.dataflow.Work.{Work}
use Rattle.printed_graphs.specs.declared.dataflow.Work.TheVariants as work
use Rattle.printed_graphs.specs.declared.flow.Piece.{Piece}
use Rattle.printed_graphs.specs.declared.flow.PrintedFlow.{PrintedFlow}
use Rattle.graph_dependences.specs.declared.kinds.Kind.{Kind}
use Rattle.graph_dependences.specs.declared.kinds.Kind.TheVariants as kind
use Rattle.graph_dependences.specs.declared.kinds.Passing.{Passing}
use Rattle.graph_dependences.specs.declared.kinds.Passing.TheVariants as passing

abbrev pub needs : (line : ℕ) → Node → Bool
needs line (node.Operation piece number work lines) = list_any (λ l. l == line) lines.items
needs line (node.Switch piece other) = other == line
needs line (node.Merge piece other) = other == line

abbrev pub is_operation : Node → Bool
is_operation (node.Operation piece number work lines) = true
is_operation _ = false

-- it changes what its token lines stand for
abbrev pub work_changes : Work → Bool
work_changes work.Load = false
work_changes work.Decide = false
work_changes _ = true

abbrev pub changes : Node → Bool
changes (node.Operation piece number work lines) = work_changes work
changes _ = false

-- it sees what its token lines stand for
abbrev pub work_sees : Work → Bool
work_sees work.Load = true
work_sees work.Decide = true
work_sees work.Advance = true
work_sees _ = false

abbrev pub sees : Node → Bool
sees (node.Operation piece number work lines) = work_sees work
sees _ = false

-- it decides by which edge control leaves the piece
abbrev pub is_decide : Work → Bool
is_decide work.Decide = true
is_decide _ = false

abbrev pub is_decision : Node → Bool
is_decision (node.Operation piece number work lines) = is_decide work
is_decision _ = false

abbrev pub is_switch : Node → Bool
is_switch (node.Switch piece line) = true
is_switch _ = false

-- a LOAD that needs one line alone
abbrev pub is_only_load : Work → (lines : ℕ) → Bool
is_only_load work.Load lines = lines == 1
is_only_load _ lines = false

abbrev pub is_load : Node → Bool
is_load (node.Operation piece number work lines) = is_only_load work (length lines.items)
is_load _ = false

-- ---- kinds of dependences

-- of an operation on another that needs the same line of words
abbrev pub word_kind : (first second : Node) → Option Kind
word_kind first second = if changes first && sees second then Some kind.Flow else if changes first then Some kind.Output else if changes second then Some kind.Anti else None

-- of an operation on another that needs the line of output
abbrev pub output_kind : (first second : Node) → Option Kind
output_kind first second = if changes first || changes second then Some kind.Order else None

abbrev pub are_operations : (line : ℕ) → (first second : Node) → Bool
are_operations line first second = is_operation first && needs line first && is_operation second && needs line second

-- the dependence of an operation on another by a line, if nodes alone stand between them that don't change what it stands for
abbrev pub kind_of : (is_output : Bool) → (line : ℕ) → (first second : Node) → Option Kind
kind_of is_output line first second =
    if are_operations line first second then (if is_output then output_kind first second else word_kind first second) else None

-- lines go on past the node
abbrev pub lets_pass : Passing → (line : ℕ) → Node → Bool
lets_pass passing.Readers line n = needs line n && not (changes n)
lets_pass passing.All line n = true

-- ---- places

abbrev pub is_output_line : Option TokenLine → Bool
is_output_line (Some token_line.Output) = true
is_output_line _ = false

abbrev pub line_of_piece : Option Piece → ℕ
line_of_piece None = 0
line_of_piece (Some piece) = piece.line

-- the line of the text at which a node's statement begins
abbrev pub text_line : PrintedFlow → Node → ℕ
text_line flow n = line_of_piece (slice_get flow.pieces.items (piece_of n))
