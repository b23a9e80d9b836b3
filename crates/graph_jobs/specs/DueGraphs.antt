-- What is due where the net of a program is told.
use Rattle.std.specs.Prelude.{◌≡◌, ℕ, List, []}
use Rattle.f77_tree.specs.declared.programs.Program.{Program}
use Rattle.op_board.specs.OperationNets.{OperationNet}
use Rattle.graph_texts.specs.GraphText.{graph_text}
use Rattle.program_nets.specs.Game.{IsNetOn}

-- The text tells the net of the program, without data: the nodes and wires are the same over any.
pub record TellsGraph (p : Program) (text : List ℕ) : Type 0 where
  pub net : OperationNet
  pub own : IsNetOn p [] net
  pub is : text ≡ graph_text p own.parts.classes net
