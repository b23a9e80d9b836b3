-- How many edges come to a node, and how many leave it.
use Rattle.std.specs.Prelude.{ℕ, ◌==◌, count_by}
use Rattle.closed_walks.specs.Graph.{Graph}

abbrev pub in_degree : Graph → ℕ → ℕ
in_degree g node = count_by (λ e. e.1 == node) g.edges

abbrev pub out_degree : Graph → ℕ → ℕ
out_degree g node = count_by (λ e. e.0 == node) g.edges
