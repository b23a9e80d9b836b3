use Rattle.std.proofs.Common.{◌≡◌, ◌<◌, ◌≤◌, ◌-◌, ◌+◌, ℕ, suc, not, is_some, length, sym, ap, ◌∙◌, arith}
use Rattle.std.specs.List.{range_with_len}
use Rattle.net_board.specs.TokenEdges.{edge_at}
use Rattle.net_tables.proofs.TokenLineLemmas.{read_edge}
use Rattle.operation_tables.specs.Waits.{failing, one_if}
use Rattle.operation_places.proofs.FailingLists.{one_at_most}
use Rattle.operation_places.proofs.RowWaits.{one_twice, row_next}
use Rattle.operation_places.proofs.waiting.edges_between.Goals as goal

pub loop-switch-preserved : goal.loop-switch-preserved
loop-switch-preserved c =
    let items = c.args.edges.now.items in
    let k = c.loop-switch.switch in
    let low : suc c.args.first ≤ k = omega (arith, c.loop-switch.auto.switch) in
    let inside : k < length items = omega (arith, c.loop-switch-test.true, c.requires.nodes) in
    let at : edge_at items k ≡ c.index.result.now = read_edge items k c.index.result.now inside c.index.ensures in
    let one : c.one_if-count.result ≡ one_if (not (not (is_some (edge_at items k)))) = c.one_if-count.ensures ∙ ap one_if (c.is_some.ensures ∙ ap is_some (sym at)) ∙ one_twice (is_some (edge_at items k)) in
    let most = one_at_most (not (not (is_some (edge_at items k)))) in
    let before = failing (λ (j : ℕ). not (is_some (edge_at items j))) (range_with_len (suc c.args.first) (k - suc c.args.first)) in
    record {
      count = ap (λ n. n + c.one_if-count.result) c.loop-switch.invariant.count ∙ ap (λ n. before + n) one ∙ sym (row_next (λ (j : ℕ). not (is_some (edge_at items j))) c.args.first k low);
      few = omega (arith, c.loop-switch.invariant.few, one, most);
    }
