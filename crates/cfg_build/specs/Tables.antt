-- What is kept of each target while a program is drawn.
use Rattle.std.specs.Prelude.{◌≡◌, ℕ, ◌+◌, ◌<◌, ◌≤◌, ◌⊎◌, ◌↔◌, filter, ◌==◌, Bool, true, false, ◌&&◌, nat_lt, nat_le, if◌then◌else◌, List, [], ◌∷◌, length, sum_by, slice_index, slice_index_or, fold, ◌++◌, map}
use Rattle.std.specs.List.{list_any, range_with_len}
use Rattle.closed_walks.specs.Graph.{Graph, edge_count, from, to}
use Rattle.closed_walks.specs.Walk.{Reach, no_edge}
use Rattle.cfg_build.specs.declared.numbers.ByTarget.{ByTarget}
use Rattle.cfg_build.specs.declared.parts.Part.{Part}
use Rattle.cfg_build.specs.declared.parts.Target.{Target}
use Rattle.cfg_build.specs.declared.parts.Target.TheVariants.{Start, First, Test}
use Rattle.cfg_build.specs.declared.rows.Drawing.{Drawing}
use Rattle.cfg_build.specs.declared.pieces.PieceKind.TheVariants.{Join}
use Rattle.cfg_build.specs.Parts.{start_part}
use Rattle.cfg_build.specs.Holds.{is_held, held_edge, with_hold}
use Rattle.cfg_build.specs.Joined.{FlowGraph, Row, is_same, is_end, number}
use Rattle.cfg_build.specs.declared.pieces.Piece.{Piece}
use Rattle.cfg_build.specs.Flow.{piece_at}
use Rattle.cfg_build.specs.Control.{fan}

-- the number of a target; the start has 0
abbrev pub number_in : ByTarget → Target → ℕ
number_in table Start = 0
number_in table (First k) = slice_index table.firsts.items k
number_in table (Test k) = slice_index table.tests.items k

-- the table has a number for the target
abbrev pub IsIn : ByTarget → Target → Type 0
IsIn table Start = Unit {0}
IsIn table (First k) = k < length table.firsts.items
IsIn table (Test k) = k < length table.tests.items

-- for how many executables the table has numbers
abbrev pub room : ByTarget → ℕ
room table = length table.firsts.items

-- the table has numbers for the targets of so many executables
pub record HasRoom (execs : ℕ) (table : ByTarget) : Type 0 where
  pub firsts : length table.firsts.items ≡ execs
  pub tests : length table.tests.items ≡ execs

-- a target of one of so many executables, or the start
abbrev pub IsOf : (execs : ℕ) → Target → Type 0
IsOf execs Start = Unit {0}
IsOf execs (First k) = k < execs
IsOf execs (Test k) = k < execs

-- a part has the target, which isn't the start
pub record IsLedTo (parts : List Part) (target : Target) : Type 0 where
  pub place : ℕ
  pub exists : place < length parts
  pub own : (slice_index_or parts place start_part).own ≡ target
  pub other : is_same Start target ≡ false

-- A list of parts that can be drawn: the start comes first, no two have the same target, and each leads to parts of the list.
pub record AreParts (execs : ℕ) (parts : List Part) : Type 0 where
  pub some : 0 < length parts
  pub start : (slice_index_or parts 0 start_part).own ≡ Start
  pub apart : (i j : ℕ) → i < j → j < length parts → is_same (slice_index_or parts j start_part).own (slice_index_or parts i start_part).own ≡ false
  pub owns : (j : ℕ) → j < length parts → IsOf execs (slice_index_or parts j start_part).own
  pub leads : (j i : ℕ) → j < length parts → i < length (slice_index_or parts j start_part).outs → IsLedTo parts (slice_index_or (slice_index_or parts j start_part).outs i Start)
  pub few_parts : length parts ≤ 40002
  pub few_ways : sum_by (λ part. length part.outs) parts ≤ 64001

-- a join stands before the part, to which so many ways lead
abbrev pub is_joined_by : (ways : ℕ) → Part → Bool
is_joined_by ways part = nat_lt 1 ways && (if is_end part.piece.kind then false else true)

-- the rows of a part, of which the first has this number
abbrev pub rows_from : (first : ℕ) → (joined : Bool) → Part → (heads : List ℕ) → List Row
rows_from first joined part heads =
    let own : Row = record { piece = part.piece; heads = heads } in
    let join : Row = record { piece = record { kind = Join; line = part.piece.line; exec = part.piece.exec }; heads = (first + 1) ∷ [] } in
    if joined then join ∷ own ∷ [] else own ∷ []

-- the graph that is drawn, with its pieces
abbrev pub drawn_as : Drawing → FlowGraph
drawn_as drawing = record { graph = record { nodes = length drawing.pieces.items; edges = drawing.edges.items }; pieces = drawing.pieces.items }

-- an edge leads to the node from one that isn't lower
abbrev pub is_entered_from_above : Graph → ℕ → Bool
is_entered_from_above g node = list_any (λ e. (e.1 == node) && nat_le node e.0) g.edges

-- the node reaches one of these
pub record ReachesOne (g : Graph) (nodes : List ℕ) (node : ℕ) : Type 0 where
  pub place : ℕ
  pub exists : place < length nodes
  pub reach : Reach g no_edge node (slice_index nodes place)

-- from the node control leaves for the end, or for the hold of one of these
abbrev pub Leaves : Graph → (finish : ℕ) → (held : List ℕ) → ℕ → Type 0
Leaves g finish held node = Reach g no_edge node finish ⊎ ReachesOne g held node

-- These of the pieces below x are held, and marked are those from which control leaves for the end or for the hold of one of these.
pub record AreHeldBelow (g : Graph) (finish x : ℕ) (held : List ℕ) (marks : List Bool) : Type 0 where
  pub pieces : held ≡ filter (is_held g finish) (range_with_len 0 x)
  pub leaving : (node : ℕ) → (slice_index_or marks node false ≡ true) ↔ Leaves g finish held node

-- where an edge leads to a marked node, it begins at one
abbrev pub AreClosedBack : Graph → List Bool → Type 0
AreClosedBack g marks = (e : ℕ) → e < edge_count g → slice_index_or marks (to g e) false ≡ true → slice_index_or marks (from g e) false ≡ true

-- one more piece is held if it has to be, whatever the end
abbrev pub HoldsNext : Graph → (x : ℕ) → (held : List ℕ) → (marks : List Bool) → (more : List ℕ) → (new : List Bool) → Type 0
HoldsNext g x held marks more new = (finish : ℕ) → finish < g.nodes → AreHeldBelow g finish x held marks → AreHeldBelow g finish (x + 1) more new

-- a hold is put before, or after, each of these pieces, on the edge that it has in the graph
abbrev pub with_holds : (finish : ℕ) → Graph → List Piece → FlowGraph → (held : List ℕ) → FlowGraph
with_holds finish g pieces f held = fold (λ f x. with_hold finish f (held_edge g x (piece_at pieces x).kind) (piece_at pieces x)) f held

-- the table has the number of each part of the list
abbrev pub AreNumbered : List Part → ByTarget → Type 0
AreNumbered parts table = (j : ℕ) → j < length parts → number_in table (slice_index_or parts j start_part).own ≡ number parts (slice_index_or parts j start_part).own

abbrev pub pieces_of : List Row → List Piece
pieces_of rows = map (λ row. row.piece) rows

-- the edges, with those from the pieces of these rows
abbrev pub edges_after : Drawing → List Row → List (ℕ × ℕ)
edges_after drawing rows = drawing.edges.items ++ fan (length drawing.pieces.items) (map (λ row. row.heads) rows)

-- the rows of a part that is drawn next, by the ways to it and the numbers of those to which it leads
abbrev pub rows_after : Drawing → (ways numbers : ByTarget) → Part → List Row
rows_after drawing ways numbers part =
    rows_from (length drawing.pieces.items) (is_joined_by (number_in ways part.own) part) part (map (number_in numbers) part.outs)
