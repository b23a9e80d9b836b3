use Rattle.std.proofs.Common.{sym, subst, map, arith}
use Rattle.op_board.specs.OperationNets.{operation_at}
use Rattle.op_board.specs.OperationTokens.{operand_in}
use Rattle.op_net.specs.NetView.{net_of}
use Rattle.operation_places.specs.Steering.{LeadsBy}
use Rattle.op_net.proofs.ApartNets.{load_tells_first}
use Rattle.operation_places.proofs.ControlMoveLemmas.{operation_leads}
use Rattle.operation_tables.proofs.NodeNames.{operation_at_node}
use Rattle.op_net.proofs.net.OpNet.edge_after.Goals as goal

pub out_edge-requires : goal.out_edge-requires
out_edge-requires g c = (omega arith, (operation_at_node (net_of c.args.self.now) c.args.k c.args.piece c.args.i c.requires.node c.requires.name).exists)

pub returns-clause-leads : goal.returns-clause-leads
returns-clause-leads g c =
    let x = net_of c.args.self.now in
    let k = c.args.k in
    let piece = c.args.piece in
    let o = operation_at x piece c.args.i in
    λ m. subst (LeadsBy x m k) (sym c.out_edge.ensures.edge) (operation_leads x c.args.self.now.board.plan.facts k c.requires.node m piece c.args.i 0 c.requires.name (load_tells_first x.net.program.names x.net.input m.tokens.memory o.work (map (operand_in x m piece) o.operands) c.requires.loads))
