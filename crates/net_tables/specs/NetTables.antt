-- What the tables of a net hold.
use Rattle.std.specs.Prelude.{◌≡◌, ◌<◌, ◌^◌, ℕ, suc, List, [], length, map}
use Rattle.std.specs.List.{range_with_len}
use Rattle.closed_walks.specs.Graph.{edge_count}
use Rattle.cfg_build.specs.declared.pieces.PieceKind.{PieceKind}
use Rattle.cfg_build.specs.declared.pieces.PieceKind.TheVariants as kind
use Rattle.cfg_build.specs.Passes.{outs}
use Rattle.net_board.specs.Nodes.{NetOf, graph_in, kind_in, touched, nodes_of, first_node}
use Rattle.net_board.specs.ControlCourse.{arrival}
use Rattle.net_board.specs.WokenNodes.{places}
use Rattle.shared_rows.specs.Table.{AreThere, numbered_rows}
use Rattle.net_tables.specs.declared.places.PlaceRows.{PlaceRows}
use Rattle.net_tables.specs.declared.tables.Tables.{Tables}

abbrev pub all_pieces : NetOf → List ℕ
all_pieces net = range_with_len 0 (graph_in net).nodes

abbrev pub all_edges : NetOf → List ℕ
all_edges net = range_with_len 0 (edge_count (graph_in net))

-- The nodes that lines go through are kept for the pieces that can have switches or merges.
abbrev pub kept_by : NetOf → ℕ → PieceKind → List ℕ
kept_by net piece kind.Branch = places net piece
kept_by net piece kind.Hold = places net piece
kept_by net piece kind.Join = places net piece
kept_by net piece kind.End = places net piece
kept_by net piece _ = []

abbrev pub kept_places : NetOf → ℕ → List ℕ
kept_places net piece = kept_by net piece (kind_in net piece)

-- the nodes that lines go through, for the pieces that have a row
pub record ArePlaceRows (net : NetOf) (rows : PlaceRows) : Type 0 where
  pub wide : rows.table.width ≡ net.routing.lines
  pub there : AreThere rows.table rows.row_of.items
  pub places : numbered_rows rows.table rows.row_of.items ≡ map (kept_places net) (all_pieces net)

-- the tables tell the nodes of the net, and of its pieces and edges what firings look up
pub record AreTables (net : NetOf) (t : Tables) : Type 0 where
  pub names : t.names ≡ nodes_of net
  pub few : length (nodes_of net) < 2 ^ 32
  -- the last one is the number of all nodes
  pub firsts : t.firsts.items ≡ map (first_node net) (range_with_len 0 (suc (graph_in net).nodes))
  pub touched : t.touched.items ≡ map (touched net) (all_pieces net)
  pub outs : t.outs.items ≡ map (outs (graph_in net)) (all_pieces net)
  pub arrivals : t.arrivals.items ≡ map (arrival net) (all_edges net)
  pub places : ArePlaceRows net t.places
