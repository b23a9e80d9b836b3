-- Which operation comes after a load along a token line, told by the pieces of the program, and that lines meet it next.
use Rattle.std.specs.Prelude.{◌≡◌, ◌<◌, ℕ, suc, ◌-◌, Bool, true, false, if◌then◌else◌, List, filter, Option, Some, None, slice_get}
use Rattle.std.specs.List.{range_with_len}
use Rattle.closed_walks.specs.Graph.{edge_count, to}
use Rattle.cfg_build.specs.declared.pieces.PieceKind.{PieceKind}
use Rattle.cfg_build.specs.declared.pieces.PieceKind.TheVariants as kind
use Rattle.cfg_build.specs.Passes.{out}
use Rattle.dep_routing.specs.Routing.{next_at}
use Rattle.net_board.specs.Nodes.{graph_in, kind_in}
use Rattle.op_board.specs.OperationNets.{OperationNet, operation_count}
use Rattle.fork_board.specs.LoadGroups.{Site, Spot, load_at, number_at, piece_at, site, spot_after}

abbrev pub is_act : PieceKind → Bool
is_act kind.Act = true
is_act _ = false

-- the numbers of the operations of a piece from this one on that need the line
abbrev pub needing_from : OperationNet → (line piece i : ℕ) → List ℕ
needing_from x line piece i = filter (λ j. x.needs piece j line) (range_with_len i (operation_count x piece - i))

abbrev pub site_in : (piece : ℕ) → Option ℕ → Option Site
site_in piece None = None
site_in piece (Some i) = Some (site piece i)

-- the first operation that needs the line of the piece to which the line is led from the edge
abbrev pub first_along : OperationNet → (line edge : ℕ) → Option Site
first_along x line edge = let piece = to (graph_in x.net) (next_at x.net.routing line edge) in site_in piece (slice_get (needing_from x line piece 0) 0)

abbrev pub successor_by : OperationNet → (line piece : ℕ) → Option ℕ → Option Site
successor_by x line piece (Some i) = Some (site piece i)
successor_by x line piece None = if is_act (kind_in x.net piece) then first_along x line (out (graph_in x.net) piece 0) else None

-- The next operation of the piece that needs the line. Where there is none and the piece is an act, the first one of the next piece that
-- the line comes to.
abbrev pub successor : OperationNet → (line : ℕ) → Site → Option Site
successor x line a = successor_by x line a.piece (slice_get (needing_from x line a.piece (suc a.number)) 0)

-- After a load a line stands before its successor, or before no operation where it has none.
abbrev pub MeetSuccessors : OperationNet → Type 0
MeetSuccessors x =
    (line : ℕ) (s : Spot) (load : Site) → line < x.net.routing.lines → s.edge < edge_count (graph_in x.net) → load_at x line s ≡ Some load → site_in (piece_at x (spot_after x line s)) (number_at x line (spot_after x line s)) ≡ successor x line load

-- No operation is the successor of two loads.
abbrev pub FollowOne : OperationNet → Type 0
FollowOne x =
    (line : ℕ) (s t : Spot) (a b c : Site) → line < x.net.routing.lines → s.edge < edge_count (graph_in x.net) → t.edge < edge_count (graph_in x.net) → load_at x line s ≡ Some a → load_at x line t ≡ Some b → successor x line a ≡ Some c → successor x line b ≡ Some c → a ≡ b
