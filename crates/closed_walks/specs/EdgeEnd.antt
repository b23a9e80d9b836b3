-- What `edge_at` answers.
use Rattle.std.specs.Prelude.{ℕ, Option, Some, None}
use Rattle.closed_walks.specs.declared.digraph.EdgeEnd.{EdgeEnd}
use Rattle.closed_walks.specs.declared.digraph.EdgeEnd.TheVariants.{Edge, NoMore}

-- the edge, if there is one
abbrev pub edge_end : Option ℕ → EdgeEnd
edge_end (Some e) = Edge e
edge_end None = NoMore
