-- What is known of a program with its flow graph, its classes and its wires. Of public clauses that of `program_facts` alone cites it.
use Rattle.std.specs.Prelude.{◌≡◌, ◌<◌, ◌≤◌, ◌+◌, ◌*◌, ◌↔◌, ℕ, Bool, true, false, List, [], length, slice_index_or}
use Rattle.class_set.specs.declared.ClassSet.{ClassSet}
use Rattle.class_set.specs.Members.{IsWidth}
use Rattle.closed_walks.specs.Graph.{IsGraph, edge_count}
use Rattle.closed_walks.specs.Walk.{Holds}
use Rattle.f77_tree.specs.CanRun.{CanRun}
use Rattle.f77_tree.specs.declared.programs.Program.{Program}
use Rattle.f77_tree.specs.Value.{ArePlaced}
use Rattle.f77_tree.specs.WellFormed.{IsWellFormed}
use Rattle.alias_classes.specs.Classes.{ClassTable, IsClasses, class_count}
use Rattle.cfg_build.specs.declared.pieces.PieceKind.TheVariants.{Act, Branch}
use Rattle.cfg_build.specs.Flow.{flow}
use Rattle.cfg_build.specs.Joined.{FlowGraph, finish}
use Rattle.cfg_build.specs.Passes.{outs}
use Rattle.cfg_build.specs.Runs.{is_act, is_branch, IsPartOf}
use Rattle.cfg_build.specs.Shape.{IsShaped, kind_at}
use Rattle.dep_routing.specs.Routing.{Routing, next_at, wire_at}
use Rattle.dep_routing.specs.Touch.{touches_in}
use Rattle.dep_routing.specs.Touches.{AreTouches}
use Rattle.const_prop.specs.Closed.{is_one_word}

-- what the laws on flow graphs say of that of a program
pub record IsProgram (p : Program) (f : FlowGraph) : Type 0 where
  pub well_formed : IsWellFormed p
  pub flow : f ≡ flow p.execs
  pub sound : IsGraph f.graph
  pub shape : IsShaped f (finish p.execs)
  pub acts : (node : ℕ) → node < f.graph.nodes → kind_at f node ≡ Act → IsPartOf f p.execs node is_act
  pub branches : (node : ℕ) → node < f.graph.nodes → kind_at f node ≡ Branch → IsPartOf f p.execs node is_branch
  pub placed : ArePlaced p.names p.words
  pub can_run : CanRun p

-- from a wire a line is led to no other edge
abbrev pub Stay : Routing → Type 0
Stay r = (line e : ℕ) → line < r.lines → e < r.edges → wire_at r line e ≡ true → next_at r line e ≡ e

-- the lines and their routes
pub record AreLines {W : ℕ} (p : Program) (f : FlowGraph) (c : ClassTable) (touch : List (ClassSet W)) (r : Routing) : Type 0 where
  pub width : IsWidth W
  pub few : r.lines ≤ 64 * W
  pub classes : IsClasses p c
  pub pieces : length touch ≡ f.graph.nodes
  pub touches : AreTouches p c (touches_in touch)
  pub lines : r.lines ≡ class_count c + 1
  pub edges : r.edges ≡ edge_count f.graph
  pub stay : Stay r
  pub next : (line e : ℕ) → line < r.lines → e < edge_count f.graph → next_at r line e < edge_count f.graph

-- for each line whether its class has one word
pub record TellOneWord (c : ClassTable) (lines : ℕ) (one_word : List Bool) : Type 0 where
  pub size : length one_word ≡ lines
  pub tells : (line : ℕ) → line < lines → slice_index_or one_word line false ≡ is_one_word c line

-- the out-edges of each piece
pub record AreOuts (f : FlowGraph) (rows : List (List ℕ)) : Type 0 where
  pub size : length rows ≡ f.graph.nodes
  pub are : (node : ℕ) → node < f.graph.nodes → slice_index_or rows node [] ≡ outs f.graph node

-- the row has the lines that the piece touches
abbrev pub IsTouchedRow : (touches : ℕ → ℕ → Bool) → (lines node : ℕ) → List ℕ → Type 0
IsTouchedRow touches lines node row = (line : ℕ) → Holds row line ↔ ((line < lines) × (touches node line ≡ true))

-- the lines that each piece touches
pub record AreTouched (nodes lines : ℕ) (touches : ℕ → ℕ → Bool) (rows : List (List ℕ)) : Type 0 where
  pub size : length rows ≡ nodes
  pub are : (node : ℕ) → node < nodes → IsTouchedRow touches lines node (slice_index_or rows node [])

pub record IsSetting {W : ℕ} (p : Program) (f : FlowGraph) (c : ClassTable) (touch : List (ClassSet W)) (r : Routing) (one_word : List Bool) (out_rows touched_rows : List (List ℕ)) : Type 0 where
  pub program : IsProgram p f
  pub lines : AreLines p f c touch r
  pub tell : TellOneWord c r.lines one_word
  pub outs : AreOuts f out_rows
  pub touched : AreTouched f.graph.nodes r.lines (touches_in touch) touched_rows
