-- Units and their CALLs as a graph. What is no unit is the last node, to which each CALL of no subroutine leads.
use Rattle.std.specs.Prelude.{ℕ, ◌+◌, List, map, flat_map, length}
use Rattle.std.specs.List.{range_with_len}
use Rattle.closed_walks.specs.Graph.{Graph}
use Rattle.f77_tree.specs.declared.statements.Labelled.{Labelled}
use Rattle.program_units.specs.CallTable.{callees}
use Rattle.program_units.specs.Units.{unit_at}

-- edges from one node to others
abbrev pub edges_from : (tail : ℕ) → (heads : List ℕ) → List (ℕ × ℕ)
edges_from tail heads = map (λ head. (tail, head)) heads

-- the CALLs of a unit, each from it to the unit that it calls
abbrev pub calls_from : List (List Labelled) → (k : ℕ) → List (ℕ × ℕ)
calls_from us k = edges_from k (callees us (unit_at us k))

-- the CALLs of the units below one, unit by unit
abbrev pub calls_below_unit : List (List Labelled) → (n : ℕ) → List (ℕ × ℕ)
calls_below_unit us n = flat_map (calls_from us) (range_with_len 0 n)

abbrev pub call_graph : List (List Labelled) → Graph
call_graph us = record { nodes = length us + 1; edges = calls_below_unit us (length us) }
