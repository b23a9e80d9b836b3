use Rattle.std.proofs.Common.{sym, ap, ◌∙◌, arith}
use Rattle.op_board.specs.OperationNets.{operation_at}
use Rattle.fork_board.specs.ForkTokens.{is_load_node}
use Rattle.op_net.specs.NetView.{net_of}
use Rattle.read_forks.proofs.LoadNames.{names_loads}
use Rattle.read_forks.proofs.OpenLines.{IsOperationHere, is_operation_here}
use Rattle.read_forks.proofs.new_marks.load_of.Goals as goal

pub loads-requires : goal.loads-requires
loads-requires g c =
    let x = net_of c.args.net.now in
    let here : IsOperationHere x c.in-Op.piece c.in-Op.i = is_operation_here x c.args.k c.in-Op.piece c.in-Op.i c.requires (sym c.name.ensures ∙ c.in-Op.is) in
    let of_piece = here.exists in
    let of_operation = here.inside in
    (omega arith, (of_piece, of_operation))

pub returns-then-loads : goal.returns-then-loads
returns-then-loads g c = (sym c.name.ensures ∙ c.in-Op.is, sym (names_loads (operation_at (net_of c.args.net.now) c.in-Op.piece c.in-Op.i).work) ∙ sym c.loads.ensures ∙ c.if-loads.true)

pub returns-else-loads : goal.returns-else-loads
returns-else-loads g c =
    let x = net_of c.args.net.now in
    ap (is_load_node x) (sym c.name.ensures ∙ c.in-Op.is) ∙ sym (names_loads (operation_at x c.in-Op.piece c.in-Op.i).work) ∙ sym c.loads.ensures ∙ c.if-loads.false

pub returns-in-Switch : goal.returns-in-Switch
returns-in-Switch g c = ap (is_load_node (net_of c.args.net.now)) (sym c.name.ensures ∙ c.in-Switch.is)

pub returns-in-Merge : goal.returns-in-Merge
returns-in-Merge g c = ap (is_load_node (net_of c.args.net.now)) (sym c.name.ensures ∙ c.in-Merge.is)

pub returns-in-Act : goal.returns-in-Act
returns-in-Act g c = ap (is_load_node (net_of c.args.net.now)) (sym c.name.ensures ∙ c.in-Act.is)
