-- The games that are played on a program. This is the one place that names nets: a game of another kind is another record here, with
-- the proofs that tell of its nets.
use Rattle.std.specs.Prelude.{◌≡◌, ◌≤◌, ◌+◌, ◌*◌, ℕ, ℤ, Bool, false, List, All}
use Rattle.op_table.specs.Words.{IsWord}
use Rattle.f77_tree.specs.declared.programs.Program.{Program}
use Rattle.f77_tree.specs.Operations.{most_operations}
use Rattle.alias_classes.specs.Classes.{ClassTable, IsClasses}
use Rattle.cfg_build.specs.Flow.{flow}
use Rattle.dep_routing.specs.LineTable.{HaveRows}
use Rattle.net_board.specs.declared.control.Control.{Control}
use Rattle.net_board.specs.ControlCourse.{first_control}
use Rattle.net_board.specs.NetParts.{AreParts, net_with}
use Rattle.net_board.specs.Nodes.{graph_in}
use Rattle.range_lines.specs.RangeTouches.{AreRangeTouches}
use Rattle.op_board.specs.OperationCourse.{operation_course}
use Rattle.op_board.specs.OperationNets.{OperationNet, operation_count}
use Rattle.op_board.specs.OperationOrder.{own_operations}
use Rattle.op_board.specs.OperationTokens.{OperationTokens, first_operation_tokens, operation_moves}
use Rattle.op_board.specs.SoundOperationNets.{IsOperationNet}
use Rattle.fork_board.specs.ForkTokens.{ForkTokens, first_fork_tokens, fork_course, fork_moves}
use Rattle.program_nets.specs.Playing.{Game}

-- the lines that the pieces of a program touch are told by its classes, where subscripts that are seen in range can't trap
pub record AreToldByRanges (p : Program) (touches : (piece line : ℕ) → Bool) : Type 0 where
  pub classes : ClassTable
  pub own_classes : IsClasses p classes
  pub are : AreRangeTouches p classes touches

-- The net of operations of a program over data that are words, made of the program's own parts. Beside its operations nothing needs a
-- line, so that there is one such net.
pub record IsNetOn (p : Program) (words : List ℤ) (x : OperationNet) : Type 0 where
  pub are_words : All IsWord words
  pub parts : AreParts p (flow p.execs) x.net.touches x.net.routing
  pub ranges : AreToldByRanges p x.net.touches
  pub rows : HaveRows x.net.routing
  pub is : x.net ≡ net_with p words x.net.touches x.net.routing
  pub operations : IsOperationNet x
  pub outside_pieces : (piece i line : ℕ) → (graph_in x.net).nodes ≤ piece → x.needs piece i line ≡ false
  pub outside_operations : (piece i line : ℕ) → operation_count x piece ≤ i → x.needs piece i line ≡ false

-- ---- games

-- the places of control
abbrev pub Place : Type 0
Place = Control

-- so many firings of a net make so many steps of its program at most
abbrev pub firing_bound : OperationNet → (steps : ℕ) → ℕ
firing_bound x steps = (5 * x.net.routing.lines + most_operations x.net.program) * steps

-- A kind of games over markings M: the game of each net, and the words of the program in a marking.
pub record GameKind (M : Type 0) : Type 0 where
  pub of_net : OperationNet → Game M Place
  pub store : M → List ℤ

-- the game of this kind of a program over data
pub record IsGameOn {M : Type 0} (kind : GameKind M) (p : Program) (words : List ℤ) (game : Game M Place) : Type 0 where
  pub net : OperationNet
  pub own : IsNetOn p words net
  pub is : game ≡ kind.of_net net

-- ---- the game in which the operations that need a line fire in turn

abbrev pub Marking : Type 0
Marking = OperationTokens

abbrev pub store_in : Marking → List ℤ
store_in m = m.tokens.memory.store

abbrev pub game_of : OperationNet → Game Marking Place
game_of x = record { moves = operation_moves x; course = operation_course x; start = first_operation_tokens x; control = first_control x.net; own_order = own_operations x; bound = firing_bound x }

abbrev pub operation_game : GameKind Marking
operation_game = record { of_net = game_of; store = store_in }

-- ---- the game in which the loads of a group fire in any order

abbrev pub fork_game_of : OperationNet → Game ForkTokens Place
fork_game_of x = record { moves = fork_moves x; course = fork_course x; start = first_fork_tokens x; control = first_control x.net; own_order = own_operations x; bound = firing_bound x }

abbrev pub fork_game : GameKind ForkTokens
fork_game = record { of_net = fork_game_of; store = λ m. store_in m.operations }
