use Rattle.std.proofs.Common.{◌≡◌, ◌++◌, map}
use Rattle.unit_tables.specs.Pieces.{after_commas}
use Rattle.unit_tables.proofs.pieces.joined.Given as goal

abbrev pub invariant-loop-piece : goal.invariant-loop-piece
invariant-loop-piece l = l.nodes.items ≡ l.initial.nodes.items ++ after_commas l.place (map (λ piece. piece.items) l.yielded)
