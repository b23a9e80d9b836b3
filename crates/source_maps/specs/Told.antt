-- What was printed of a text, with the lines and names of its source.
use Rattle.std.specs.Prelude.{◌≡◌, ℕ, ⊤, List, Option, Some, None, Vec, map, option_map, slice_get}
use Rattle.std.specs.declared.alloc.Global.{Global}
use Rattle.printed_graphs.specs.declared.dataflow.PrintedGraph.{PrintedGraph}
use Rattle.printed_graphs.specs.declared.dataflow.TokenLine.{TokenLine}
use Rattle.printed_graphs.specs.declared.dataflow.TokenLine.TheVariants as token_line
use Rattle.printed_graphs.specs.declared.flow.Piece.{Piece}
use Rattle.printed_graphs.specs.declared.flow.PrintedFlow.{PrintedFlow}
use Rattle.printed_graphs.specs.declared.printed.Printed.{Printed}
use Rattle.printed_graphs.specs.declared.trace.PrintedTrace.{PrintedTrace}
use Rattle.printed_graphs.specs.declared.trace.TraceEnd.{TraceEnd}
use Rattle.printed_graphs.specs.declared.trace.TraceEnd.TheVariants as end
use Rattle.source_maps.specs.Places.{Map, line_in, name_in}

abbrev pub piece_told : Map → Piece → Piece
piece_told m piece = record piece { line = line_in m.lines piece.line }

abbrev pub name_told : Map → Vec ℕ Global → List ℕ
name_told m name = name_in m.names name.items

abbrev pub bytes_of : Vec ℕ Global → List ℕ
bytes_of name = name.items

-- Each name is told.
abbrev pub TellsNames : Map → (old new : List (Vec ℕ Global)) → Type 0
TellsNames m old new = map bytes_of new ≡ map (name_told m) old

abbrev pub TellsTokenLine : Map → (old new : TokenLine) → Type 0
TellsTokenLine m token_line.Output new = new ≡ token_line.Output
TellsTokenLine m (token_line.Class old) (token_line.Class new) = TellsNames m old.items new.items
TellsTokenLine m (token_line.Loop line) new = new ≡ token_line.Loop (line_in m.lines line)
TellsTokenLine m _ _ = ⊥

abbrev pub end_told : Map → TraceEnd → TraceEnd
end_told m end.Rest = end.Rest
end_told m (end.Trapped trap line) = end.Trapped trap (line_in m.lines line)
end_told m (end.Limit limit) = end.Limit limit

-- both are there and so related, or neither is there
abbrev pub AreBoth : {A : Type 0} → (A → A → Type 0) → Option A → Option A → Type 0
AreBoth Related None None = ⊤
AreBoth Related (Some old) (Some new) = Related old new
AreBoth Related _ _ = ⊥

-- Nothing else of a flow graph, a dataflow graph and a trace changes.
pub record TellsFlow (m : Map) (old new : PrintedFlow) : Type 0 where
  pub pieces : (k : ℕ) → slice_get new.pieces.items k ≡ option_map (piece_told m) (slice_get old.pieces.items k)
  pub rest : new ≡ record old { pieces = new.pieces }

pub record TellsGraph (m : Map) (old new : PrintedGraph) : Type 0 where
  pub token_lines : (k : ℕ) → AreBoth (TellsTokenLine m) (slice_get old.lines.items k) (slice_get new.lines.items k)
  pub rest : new ≡ record old { lines = new.lines }

abbrev pub TellsTrace : Map → (old new : PrintedTrace) → Type 0
TellsTrace m old new = new ≡ record old { end = end_told m old.end }

pub record TellsSource (m : Map) (old new : Printed) : Type 0 where
  pub flow : AreBoth (TellsFlow m) old.flow new.flow
  pub graph : AreBoth (TellsGraph m) old.graph new.graph
  pub trace : AreBoth (TellsTrace m) old.trace new.trace
