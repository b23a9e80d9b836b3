use Rattle.std.proofs.Common.{◌≡◌, ◌+◌, not, take, sym, ap, ◌∙◌, arith}
use Rattle.operation_tables.specs.BoardView.{operation_net_on}
use Rattle.operation_places.specs.PlacesView.{standing}
use Rattle.operation_places.specs.RowWaits.{hop_stands}
use Rattle.operation_tables.specs.Waits.{failing, one_if}
use Rattle.operation_places.proofs.FailingLists.{one_at_most}
use Rattle.operation_places.proofs.RowWaits.{failing_next}
use Rattle.operation_places.proofs.waiting.waits_for_lines.Goals as goal

pub loop-hop-preserved : goal.loop-hop-preserved
loop-hop-preserved g c =
    let test = hop_stands (operation_net_on c.args.board.now) (standing c.args.places.now) c.args.piece in
    let before = failing test (take c.loop-hop.hop-index c.args.hops.now) in
    let one : c.one_if-count.result ≡ one_if (not c.hop_stands.result) = c.one_if-count.ensures in
    let most = one_at_most (not c.hop_stands.result) in
    record {
      count = ap (λ n. n + c.one_if-count.result) c.loop-hop.invariant.count ∙ ap (λ n. before + n) (one ∙ ap (λ b. one_if (not b)) c.hop_stands.ensures) ∙ sym (failing_next test c.args.hops.now c.loop-hop.hop-index _ c.loop-hop-test.true);
      few = omega (arith, c.loop-hop.invariant.few, one, most);
    }
