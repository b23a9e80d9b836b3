-- What a dependence is.
use Rattle.std.specs.Prelude.{◌≡◌, ◌≢◌, ◌==◌, ◌&&◌, ◌⊎◌, ℕ, Bool, false, not, true, if◌then◌else◌, List, Contains, length, min, max, nat_le, None, Some, slice_get, slice_index_or}
use Rattle.std.specs.List.Sorted.{IsStrictlySortedBy}
use Rattle.printed_graphs.specs.Nodes.{piece_of}
use Rattle.printed_graphs.specs.declared.dataflow.Node.{Node}
use Rattle.printed_graphs.specs.declared.dataflow.PrintedGraph.{PrintedGraph}
use Rattle.printed_graphs.specs.declared.flow.Edge.{Edge}
use Rattle.printed_graphs.specs.declared.flow.Piece.{Piece}
use Rattle.printed_graphs.specs.declared.flow.PrintedFlow.{PrintedFlow}
use Rattle.graph_dependences.specs.Added.{Below}
use Rattle.graph_dependences.specs.Control.{Controls, is_branch, is_statement}
use Rattle.graph_dependences.specs.InOrder.{in_order}
use Rattle.graph_dependences.specs.Joined.{Leads, steps_of}
use Rattle.graph_dependences.specs.Nodes.{is_output_line, kind_of, text_line}
use Rattle.graph_dependences.specs.Ways.{ways_of}
use Rattle.graph_dependences.specs.declared.dependence.Dependence.{Dependence}
use Rattle.graph_dependences.specs.declared.joined.Step.{Step}
use Rattle.graph_dependences.specs.declared.kinds.Kind.TheVariants as kind
use Rattle.graph_dependences.specs.declared.kinds.Passing.TheVariants as passing
use Rattle.graph_dependences.specs.declared.ways.Way.{Way}

-- the steps along these ways, which turn where they go round a loop that has the pieces of both nodes
abbrev pub steps_between : (first second : Node) → List Way → List Step
steps_between first second ways = steps_of (min (piece_of first) (piece_of second)) (max (piece_of first) (piece_of second)) ways

-- It is told, unless it is one of a statement on itself that no loop carries.
abbrev pub IsTold : (told d : Dependence) → Type 0
IsTold told d = (d ≡ told) × ((d.from ≢ d.to) ⊎ (d.is_carried ≡ true))

-- where that is so
abbrev pub IfTold : Bool → (told d : Dependence) → Type 0
IfTold is_so told d = (is_so ≡ true) × IsTold told d

-- ---- by token lines

-- An operation depends on another one by a token line, past nodes alone that don't change what that stands for.
pub record Depends (g : PrintedGraph) (flow : PrintedFlow) (line first second : ℕ) (one two : Node) (d : Dependence) : Type 0 where
  pub kind : kind_of (is_output_line (slice_get g.lines.items line)) line one two ≡ Some d.kind
  pub leads : Leads g passing.Readers line (steps_between one two (ways_of g flow line)) first second d.is_carried
  pub told : IsTold (record { from = text_line flow one; to = text_line flow two; kind = d.kind; token_line = Some line; is_carried = d.is_carried }) d

-- of the nodes with these numbers
pub record DependsAt (g : PrintedGraph) (flow : PrintedFlow) (line first second : ℕ) (d : Dependence) : Type 0 where
  pub one : Node
  pub two : Node
  pub is_one : slice_get g.nodes.items first ≡ Some one
  pub is_two : slice_get g.nodes.items second ≡ Some two
  pub depends : Depends g flow line first second one two d

-- of some node on this one, and of some node on some node
abbrev pub DependsOn : PrintedGraph → PrintedFlow → (line first : ℕ) → Dependence → Type 0
DependsOn g flow line first = Below (DependsAt g flow line first) (length g.nodes.items)

abbrev pub DependsBy : PrintedGraph → PrintedFlow → (line : ℕ) → Dependence → Type 0
DependsBy g flow line = Below (DependsOn g flow line) (length g.nodes.items)

-- ---- by decisions

-- the edge leads from this piece to one that is marked so
abbrev pub leads : (marks : List Bool) → (wanted : Bool) → (from : ℕ) → Edge → Bool
leads marks wanted from edge = (edge.from == from) && (if slice_index_or marks edge.to false then wanted else not wanted)

-- A statement depends on a decision that controls it. It is carried round a loop to a piece that comes no later in the text.
pub record DependsOnDecision (flow : PrintedFlow) (second first : ℕ) (d : Dependence) : Type 0 where
  pub one : Piece
  pub two : Piece
  pub is_one : slice_get flow.pieces.items first ≡ Some one
  pub is_two : slice_get flow.pieces.items second ≡ Some two
  pub decides : is_branch one.kind ≡ true
  pub acts : is_statement two.kind ≡ true
  pub controls : Controls flow first second
  pub told : IsTold (record { from = one.line; to = two.line; kind = kind.Control; token_line = None; is_carried = nat_le second first }) d

abbrev pub DependsOnSome : PrintedFlow → (second : ℕ) → Dependence → Type 0
DependsOnSome flow second = Below (DependsOnDecision flow second) (length flow.pieces.items)

-- ---- by either

abbrev pub IsDependence : PrintedGraph → PrintedFlow → Dependence → Type 0
IsDependence g flow d = Below (DependsBy g flow) (length g.lines.items) d ⊎ Below (DependsOnSome flow) (length flow.pieces.items) d

-- the list has all dependences, each once and in order, and nothing else
pub record AreDependences (g : PrintedGraph) (flow : PrintedFlow) (all : List Dependence) : Type 0 where
  pub told : (d : Dependence) → Contains all d → IsDependence g flow d
  pub whole : (d : Dependence) → IsDependence g flow d → Contains all d
  pub ordered : IsStrictlySortedBy in_order all
