-- Groups of loads that follow one another along a token line. A load doesn't change what it reads, so the loads of a group may fire in
-- any order.
use Rattle.std.specs.Prelude.{ℕ, zero, suc, ◌==◌, ◌&&◌, Bool, true, false, if◌then◌else◌, List, [], ◌∷◌, length, filter, Option, Some, None, slice_get}
use Rattle.std.specs.List.{list_any, range_with_len}
use Rattle.closed_walks.specs.Graph.{to}
use Rattle.cfg_build.specs.Passes.{out}
use Rattle.dep_routing.specs.Routing.{next_at}
use Rattle.net_board.specs.Nodes.{graph_in}
use Rattle.op_board.specs.Operations.{Work, Load}
use Rattle.op_board.specs.OperationNets.{OperationNet, all_operation_nodes, needing_before, operation_at, operation_count}

abbrev pub is_load : Work → Bool
is_load (Load name subs) = true
is_load _ = false

-- ---- operations along a line

-- a place of a token line: on this edge, after so many of the operations that need it at the piece to which the edge leads
pub record Spot : Type 0 where
  pub edge : ℕ
  pub passed : ℕ

abbrev pub spot : (edge passed : ℕ) → Spot
spot edge passed = record { edge = edge; passed = passed }

abbrev pub piece_at : OperationNet → Spot → ℕ
piece_at x s = to (graph_in x.net) s.edge

-- the number of the operation before which the line stands there, if there is one
abbrev pub number_at : OperationNet → (line : ℕ) → Spot → Option ℕ
number_at x line s = slice_get (filter (λ i. x.needs (piece_at x s) i line) (range_with_len 0 (operation_count x (piece_at x s)))) s.passed

-- no other operation of the piece that needs the line comes after that one
abbrev pub is_last_there : OperationNet → (line : ℕ) → Spot → Bool
is_last_there x line s = needing_before x (piece_at x s) (operation_count x (piece_at x s)) line == suc s.passed

-- Where the line stands after that operation: before the next one of the piece that needs it, else on the edge to which it is led
-- from the edge that leaves the piece. A load can be the last one only in an act, since the decision of another piece needs all its lines.
abbrev pub spot_after : OperationNet → (line : ℕ) → Spot → Spot
spot_after x line s = if is_last_there x line s then spot (next_at x.net.routing line (out (graph_in x.net) (piece_at x s) 0)) 0 else spot s.edge (suc s.passed)

-- ---- groups

-- an operation, by its piece and its number there
pub record Site : Type 0 where
  pub piece : ℕ
  pub number : ℕ

abbrev pub site : (piece number : ℕ) → Site
site piece number = record { piece = piece; number = number }

abbrev pub is_site : (piece number : ℕ) → Site → Bool
is_site piece number s = (s.piece == piece) && (s.number == number)

abbrev pub load_in : OperationNet → (piece : ℕ) → Option ℕ → Option Site
load_in x piece None = None
load_in x piece (Some i) = if is_load (operation_at x piece i).work then Some (site piece i) else None

-- the load before which the line stands there, if that operation is one
abbrev pub load_at : OperationNet → (line : ℕ) → Spot → Option Site
load_at x line s = load_in x (piece_at x s) (number_at x line s)

abbrev pub followed_by : Option Site → List Site → List Site
followed_by None more = []
followed_by (Some load) more = load ∷ more

-- the loads that the line meets from there on, one after another, up to the first other operation; so many at most
abbrev pub loads_within : (most : ℕ) → OperationNet → (line : ℕ) → Spot → List Site
loads_within zero x line s = []
loads_within (suc most) x line s = followed_by (load_at x line s) (loads_within most x line (spot_after x line s))

abbrev pub here_or : Option Site → (here later : Spot) → Spot
here_or None here later = here
here_or (Some load) here later = later

-- where the line stands after them
abbrev pub spot_behind : (most : ℕ) → OperationNet → (line : ℕ) → Spot → Spot
spot_behind zero x line s = s
spot_behind (suc most) x line s = here_or (load_at x line s) s (spot_behind most x line (spot_after x line s))

-- no group has more loads than the net has nodes
abbrev pub most_loads : OperationNet → ℕ
most_loads x = length (all_operation_nodes x)

-- The group of the loads before which a line stands there: those that it meets from there on. It comes to a group by its first load.
abbrev pub group_at : OperationNet → (line : ℕ) → Spot → List Site
group_at x line s = loads_within (most_loads x) x line s

abbrev pub behind_group : OperationNet → (line : ℕ) → Spot → Spot
behind_group x line s = spot_behind (most_loads x) x line s

abbrev pub is_among : List Site → (piece number : ℕ) → Bool
is_among sites piece number = list_any (is_site piece number) sites
