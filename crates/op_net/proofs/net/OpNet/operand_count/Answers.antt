use Rattle.std.proofs.Common.{◌≡◌, length, ◌∙◌, arith, rules}
use Rattle.op_net.specs.NetView.{net_of}
use Rattle.op_net.proofs.RowFacts.{row_operand_count}
use Rattle.op_net.proofs.net.OpNet.operand_count.Goals as goal

pub overflow_cast-result : goal.overflow_cast-result
overflow_cast-result g c =
    let long : c.len.result ≡ length c.row.result.now.operands.items = search rules in
    let count = row_operand_count (net_of c.args.self.now) c.args.piece c.args.i c.row.result.now c.row.ensures in
    let tables = c.args.self.now.board.own_tables in
    let most = tables.most c.args.piece c.args.i c.requires.operation in
    let fits = tables.fits in
    omega (arith, long, count, most, fits)

pub returns : goal.returns
returns g c =
    let long : c.len.result ≡ length c.row.result.now.operands.items = search rules in
    long ∙ row_operand_count (net_of c.args.self.now) c.args.piece c.args.i c.row.result.now c.row.ensures
