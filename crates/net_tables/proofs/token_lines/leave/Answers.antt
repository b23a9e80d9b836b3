use Rattle.std.proofs.Common.{ℕ, ◌-◌, suc, Some, slice_set, refl, ◌∙◌}
use Rattle.std.specs.List.{range_with_len}
use Rattle.net_board.specs.Tokens.{with_all}
use Rattle.net_board.proofs.ListPlaces.{length_slice_set}
use Rattle.net_tables.proofs.TokenLineLemmas.{row_next}
use Rattle.net_tables.proofs.token_lines.leave.Goals as goal

pub loop-k-preserved : goal.loop-k-preserved
loop-k-preserved c = record {
  edges = row_next c.loop-k.edges.items (slice_set c.loop-k.edges.items c.loop-k.k (Some c.args.edge)) (with_all c.args.edges.now.items (range_with_len (suc c.args.first) (c.args.end - suc c.args.first)) (λ (k : ℕ). Some c.args.edge)) (λ (k : ℕ). Some c.args.edge) c.loop-k.k c.args.end c.loop-k-test.true refl c.loop-k.invariant.edges;
  all = length_slice_set c.loop-k.edges.items c.loop-k.k (Some c.args.edge) ∙ c.loop-k.invariant.all;
}
