use Rattle.std.proofs.Common.{arith}
use Rattle.op_net.specs.NetView.{net_of}
use Rattle.op_net.proofs.RowFacts.{row_line_at, row_line_count}
use Rattle.op_net.proofs.net.OpNet.needed_line.Goals as goal

pub index-requires : goal.index-requires
index-requires g c =
    let count = row_line_count (net_of c.args.self.now) c.args.piece c.args.i c.row.result.now c.row.ensures in
    omega (arith, count, c.requires.inside)

pub returns : goal.returns
returns g c = row_line_at (net_of c.args.self.now) c.args.piece c.args.i c.row.result.now c.row.ensures c.args.nth c.index.result.now c.requires.inside c.index.ensures
