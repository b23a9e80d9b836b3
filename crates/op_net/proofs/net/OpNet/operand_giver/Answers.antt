use Rattle.std.proofs.Common.{ℕ, Option, Some, sym, ap, ◌∙◌, arith}
use Rattle.std.specs.Option.{option_map}
use Rattle.std.proofs.lemmas.Option.{slice_get-map}
use Rattle.op_board.specs.OperationNets.{operation_at}
use Rattle.op_net.specs.ApartLoads.{giver_of}
use Rattle.op_net.specs.NetView.{net_of}
use Rattle.op_net.proofs.RowFacts.{row_operand_at, row_operand_count}
use Rattle.op_net.proofs.net.OpNet.operand_giver.Goals as goal

pub operand_at-requires : goal.operand_at-requires
operand_at-requires g c =
    let count = row_operand_count (net_of c.args.self.now) c.args.piece c.args.i c.row.result.now c.row.ensures in
    omega (arith, count, c.requires.inside)

pub returns : goal.returns
returns g c =
    let x = net_of c.args.self.now in
    slice_get-map giver_of (operation_at x c.args.piece c.args.i).operands c.args.nth
    ∙ ap (option_map giver_of) (row_operand_at x c.args.piece c.args.i c.row.result.now c.row.ensures c.args.nth c.operand_at.result c.requires.inside c.operand_at.ensures)
    ∙ ap (λ (giver : Option ℕ). Some giver) (sym c.giver.ensures)
