use Rattle.std.proofs.Common.{◌≡◌, map, take}
use Rattle.unit_tables.specs.Bounds.{bound_nodes}
use Rattle.unit_tables.proofs.bounds.written_bounds.Given as goal

-- the dimensions so far
abbrev pub invariant-loop-bound : goal.invariant-loop-bound
invariant-loop-bound l = map (λ piece. piece.items) l.pieces.items ≡ map (bound_nodes l.place) (take l.bound-index l.bounds)
