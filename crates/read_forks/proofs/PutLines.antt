-- A marking that can come stays one where a line is put on another edge.
use Rattle.std.proofs.Common.{◌≡◌, ◌<◌, ◌⊎◌, inl, inr, ℕ, length, Some, sym, ap, ◌∙◌, subst}
use Rattle.closed_walks.specs.Graph.{edge_count}
use Rattle.net_board.specs.Nodes.{graph_in}
use Rattle.net_board.specs.Tokens.{edge_of, joined}
use Rattle.net_board.proofs.ListPlaces.{get_set_other, length_slice_set, same_or_not}
use Rattle.op_board.specs.OperationNets.{OperationNet}
use Rattle.op_board.specs.OperationTokens.{OperationTokens}
use Rattle.op_board.specs.SoundOperationNets.{OperationsCanCome}
use Rattle.operation_places.specs.PlacesView.{line_put}
use Rattle.read_forks.proofs.LinesRead.{edge_put_there}

module _ (x : OperationNet) (m : OperationTokens) (line edge passed : ℕ) (exists : edge < edge_count (graph_in x.net)) (inside : line < length m.tokens.lines) where
  abbrev now : OperationTokens
  now = line_put m line (Some edge) passed

  stand : ((l e : ℕ) → edge_of m.tokens l ≡ Some e → e < edge_count (graph_in x.net)) → (l e : ℕ) → edge_of now.tokens l ≡ Some e → e < edge_count (graph_in x.net)
  stand was l e is = by (same_or_not l line)
    where
      by : (l ≡ line) ⊎ (l ≡ line → ⊥) → e < edge_count (graph_in x.net)
      by (inl same) =
          let both : Some edge ≡ Some e = sym (edge_put_there m.tokens.lines line (Some edge) inside) ∙ subst (λ (q : ℕ). edge_of now.tokens q ≡ Some e) same is in
          let one : edge ≡ e = cc in
          subst (λ (q : ℕ). q < edge_count (graph_in x.net)) one exists
      by (inr differ) = was l e (sym (ap joined (get_set_other m.tokens.lines line l (Some edge) (λ q. differ (sym q)))) ∙ is)

  pub put_sound : OperationsCanCome x m → OperationsCanCome x now
  put_sound comes =
      let tokens = comes.is_marking.tokens in
      record {
        ground = comes.ground;
        is_net = comes.is_net;
        is_marking = record {
          tokens = record {
            lines = length_slice_set m.tokens.lines line (Some edge) ∙ tokens.lines;
            nodes = tokens.nodes;
            stand = stand tokens.stand;
            lie = tokens.lie;
            memory = tokens.memory;
          };
          passed = length_slice_set m.passed line passed ∙ comes.is_marking.passed;
          values = comes.is_marking.values;
        };
      }
