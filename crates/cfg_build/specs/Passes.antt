-- Passes: control takes one piece of a flow graph.
use Rattle.std.specs.Prelude.{ℕ, zero, suc, ◌==◌, ℤ, pos, nat_lt, if◌then◌else◌, List, [], ◌++◌, length, filter, slice_index, Option, Some, None, Result, Ok, Err, slice_get}
use Rattle.std.specs.List.{range_with_len}
use Rattle.op_table.specs.declared.Trap.{Trap}
use Rattle.op_table.specs.Words.{is_true}
use Rattle.op_table.specs.Operators.{which_of_three, picked}
use Rattle.op_table.specs.Trips.{at_least_zero}
use Rattle.closed_walks.specs.Graph.{Graph, edge_count, from, to}
use Rattle.f77_tree.specs.declared.programs.Exec.{Exec}
use Rattle.f77_tree.specs.declared.programs.ExecKind.{ExecKind}
use Rattle.f77_tree.specs.declared.programs.ExecKind.TheVariants.{Test, Sign, Pick, DoStart, End as Ending}
use Rattle.f77_tree.specs.declared.programs.NameInfo.{NameInfo}
use Rattle.f77_tree.specs.declared.programs.Program.{Program}
use Rattle.f77_tree.specs.Execution.{Memory, Outcome, Goes, Stops, Ends, outcome, value_in}
use Rattle.f77_tree.specs.Run.{Mark, Running, Ended, Trapped, first_memory}
use Rattle.f77_tree.specs.Value.{and_then}
use Rattle.cfg_build.specs.declared.pieces.PieceKind.{PieceKind}
use Rattle.cfg_build.specs.declared.pieces.PieceKind.TheVariants.{Start, Act, Pass, Branch, Join, Hold, End}
use Rattle.cfg_build.specs.Flow.{flow, piece_at}

-- the edges that leave a piece, in order, and the one of them with this number
abbrev pub outs : Graph → ℕ → List ℕ
outs g node = filter (λ e. from g e == node) (range_with_len 0 (edge_count g))

abbrev pub out : Graph → (node i : ℕ) → ℕ
out g node i = slice_index (outs g node) i

-- what comes of a pass: control goes along an edge, in this memory and after this text was written; or it traps; or the run
-- ends
pub data Passed : Type 0 where
  Along : (edge : ℕ) (memory : Memory) (text : List ℕ) → Passed
  Traps : (trap : Trap) → Passed
  Done : Passed

-- what is said of a pass holds where it goes along an edge
abbrev pub IfAlong : Passed → (ℕ → Memory → List ℕ → Type 0) → Type 0
IfAlong (Along edge memory text) P = P edge memory text
IfAlong (Traps trap) P = Unit {0}
IfAlong Done P = Unit {0}

-- ---- an act runs its executable, and goes on: a DO that begins, or is incremented, leaves its test to the next piece

abbrev pub acted : (next : ℕ) → Outcome → Passed
acted next (Goes exec memory text) = Along next memory text
acted next (Stops trap) = Traps trap
acted next Ends = Done

-- ---- a branch takes one of its edges

-- which one, by a truth, a sign, a number, or the count of a DO
abbrev pub choice : List NameInfo → Memory → ExecKind → Result ℕ Trap
choice names m (Test cond if_true if_false) = and_then (λ z. Ok (if is_true z then 0 else 1)) (value_in names m cond)
choice names m (Sign e neg zero' pos') = and_then (λ z. Ok (at_least_zero (which_of_three z))) (value_in names m e)
choice names m (Pick e targets other) = and_then (λ z. Ok (at_least_zero (picked z (pos (length targets))))) (value_in names m e)
choice names m (DoStart loop_no var first last step body exit) = Ok (if nat_lt 0 (slice_index m.counts loop_no) then 0 else 1)
choice names m _ = Ok 0

abbrev pub branched : Memory → (out : ℕ → ℕ) → Result ℕ Trap → Passed
branched m out (Ok i) = Along (out i) m []
branched m out (Err trap) = Traps trap

-- ---- the kinds of pieces

abbrev pub pass_of : Program → List ℤ → Memory → (out : ℕ → ℕ) → PieceKind → ExecKind → Passed
pass_of p input m out Start kind = Along (out 0) m []
pass_of p input m out Pass kind = Along (out 0) m []
pass_of p input m out Join kind = Along (out 0) m []
pass_of p input m out Hold kind = Along (out 0) m []
pass_of p input m out Act kind = acted (out 0) (outcome p.names input m kind)
pass_of p input m out Branch kind = branched m out (choice p.names m kind)
pass_of p input m out End kind = Done

abbrev pub kind_in : Option Exec → ExecKind
kind_in None = Ending
kind_in (Some exec) = exec.kind

-- the pass of the piece at which an edge ends
abbrev pub pass : Program → List ℤ → (edge : ℕ) → Memory → Passed
pass p input edge m =
    let f = flow p.execs in
    let node = to f.graph edge in
    let piece = piece_at f.pieces node in
    pass_of p input m (out f.graph node) piece.kind (kind_in (slice_get p.execs piece.exec))

-- ---- runs

-- where a run of passes is: on an edge, with what executables read and change, what was written, and the mark
pub record PassState : Type 0 where
  pub edge : ℕ
  pub memory : Memory
  pub out : List ℕ
  pub mark : Mark

abbrev pub after_pass : PassState → (line : ℕ) → Passed → PassState
after_pass x line (Along edge memory text) = record x { edge = edge; memory = memory; out = x.out ++ text }
after_pass x line (Traps trap) = record x { mark = Trapped trap line }
after_pass x line Done = record x { mark = Ended }

-- the line of the piece at which an edge ends
abbrev pub line_at : Program → (edge : ℕ) → ℕ
line_at p edge = let f = flow p.execs in (piece_at f.pieces (to f.graph edge)).line

abbrev pub passed_from : Program → List ℤ → PassState → Mark → PassState
passed_from p input x Running = after_pass x (line_at p x.edge) (pass p input x.edge x.memory)
passed_from p input x Ended = x
passed_from p input x (Trapped trap line) = x

-- a run begins on edge 1, which leaves the start
abbrev pub passes : Program → List ℤ → ℕ → PassState
passes p input zero = record { edge = 1; memory = first_memory p; out = []; mark = Running }
passes p input (suc n) = let x = passes p input n in passed_from p input x x.mark
