use Rattle.std.proofs.Common.{◌≡◌, length, ◌∙◌, arith, rules}
use Rattle.std.proofs.lemmas.List.FromFn.{length-range_with_len}
use Rattle.net_board.specs.Nodes.{all_lines}
use Rattle.net_tables.proofs.TableLemmas.{short_filter}
use Rattle.op_net.specs.NetView.{net_of}
use Rattle.op_net.proofs.RowFacts.{row_line_count}
use Rattle.op_net.proofs.net.OpNet.needed_count.Goals as goal

pub overflow_cast-result : goal.overflow_cast-result
overflow_cast-result g c =
    let x = net_of c.args.self.now in
    let long : c.len.result ≡ length c.row.result.now.hops.items = search rules in
    let count = row_line_count x c.args.piece c.args.i c.row.result.now c.row.ensures in
    let most = short_filter (x.needs c.args.piece c.args.i) (all_lines x.net) in
    let all = length-range_with_len 0 x.net.routing.lines in
    omega (arith, long, count, most, all, c.lines-lines.ensures, c.lines-lines.type_inv)

pub returns : goal.returns
returns g c =
    let long : c.len.result ≡ length c.row.result.now.hops.items = search rules in
    long ∙ row_line_count (net_of c.args.self.now) c.args.piece c.args.i c.row.result.now c.row.ensures
