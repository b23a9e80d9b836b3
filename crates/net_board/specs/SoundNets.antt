-- Which nets are those of programs, and which of their markings can come.
use Rattle.std.specs.Prelude.{◌≡◌, ◌<◌, ℕ, suc, Some, length, All}
use Rattle.op_table.specs.Words.{IsWord}
use Rattle.closed_walks.specs.Graph.{edge_count}
use Rattle.region_tree.specs.Tree.{Tree, IsRegionTree}
use Rattle.f77_tree.specs.CanRun.{CanRun}
use Rattle.f77_tree.specs.Execution.{Memory}
use Rattle.f77_tree.specs.WellFormed.{IsWellFormed}
use Rattle.f77_tree.specs.declared.programs.Program.{Program}
use Rattle.alias_classes.specs.Classes.{ClassTable, IsClasses, class_count}
use Rattle.dep_routing.specs.Routing.{IsRouting}
use Rattle.dep_routing.specs.Sound.{IsSound}
use Rattle.net_board.specs.ProgramFacts.{ProgramFacts}
use Rattle.net_board.specs.Nodes.{NetOf, graph_in, nodes_of}
use Rattle.net_board.specs.Tokens.{Tokens, edge_of, left_for}

-- The classes, the touched lines and the routing are the program's, and the data are words. There is a line for each class, and the
-- line of output.
pub record IsNet (net : NetOf) : Type 0 where
  pub program : IsWellFormed net.program
  pub can_run : CanRun net.program
  pub input_words : All IsWord net.input
  pub classes : ClassTable
  pub own_classes : IsClasses net.program classes
  pub tree : Tree
  pub own_tree : IsRegionTree (graph_in net) tree
  pub sound_touches : IsSound net.program classes tree net.touches
  pub own_routing : IsRouting (graph_in net) tree net.touches (suc (class_count classes)) net.routing

-- as many words, counts and steps as the program has
pub record HasSizesOf (p : Program) (m : Memory) : Type 0 where
  pub words : length m.store ≡ p.words
  pub counts : length m.counts ≡ p.loops
  pub steps : length m.steps ≡ p.loops

-- there is a place for each line and each node, the edges are those of the graph, and the memory has the program's sizes
pub record IsMarking (net : NetOf) (m : Tokens) : Type 0 where
  pub lines : length m.lines ≡ net.routing.lines
  pub nodes : length m.edges ≡ length (nodes_of net)
  pub stand : (line edge : ℕ) → edge_of m line ≡ Some edge → edge < edge_count (graph_in net)
  pub lie : (k edge : ℕ) → left_for m k ≡ Some edge → edge < edge_count (graph_in net)
  pub memory : HasSizesOf net.program m.memory

-- a marking of a net that can come
pub record CanCome (net : NetOf) (m : Tokens) : Type 0 where
  pub ground : ProgramFacts
  pub is_net : IsNet net
  pub is_marking : IsMarking net m
