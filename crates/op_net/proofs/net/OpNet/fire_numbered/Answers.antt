use Rattle.std.proofs.Common.{◌≡◌, ◌<◌, sym, ap, ◌∙◌, arith}
use Rattle.firing.specs.declared.system.NodeName.{NodeName}
use Rattle.firing.specs.declared.system.NodeName.TheVariants.{Op}
use Rattle.firing.specs.Moves.{newest}
use Rattle.op_board.specs.OperationNets.{operation_count, operation_node}
use Rattle.op_board.specs.OperationTokens.{fired_as, line_as, ready_as}
use Rattle.op_net.specs.NetView.{marking_of, net_of}
use Rattle.operation_tables.proofs.NodeNames.{operation_name_at}
use Rattle.op_net.proofs.net.OpNet.fire_numbered.Goals as goal

pub operate-requires : goal.operate-requires
operate-requires g c =
    let x = net_of c.args.self.now in
    let count = c.requires.operations in
    let inside : c.args.number < operation_count x c.args.piece = omega (arith, count, c.if-number-operations.true) in
    let name : operation_node x c.args.k ≡ Op c.args.piece c.args.number = ap (operation_node x) c.requires.number ∙ operation_name_at x c.args.piece c.args.number c.requires.piece inside in
    (omega arith, (c.requires.node, (name, (ap (ready_as x (marking_of c.args.self.now) c.args.k) (sym name) ∙ c.requires.ready, (c.requires.sizes, c.requires.going)))))

pub returns-then-number-operations-clause-marking : goal.returns-then-number-operations-clause-marking
returns-then-number-operations-clause-marking g c =
    let x = net_of c.args.self.now in
    let count = c.requires.operations in
    let inside : c.args.number < operation_count x c.args.piece = omega (arith, count, c.if-number-operations.true) in
    let name : operation_node x c.args.k ≡ Op c.args.piece c.args.number = ap (operation_node x) c.requires.number ∙ operation_name_at x c.args.piece c.args.number c.requires.piece inside in
    c.operate.ensures.marking ∙ ap (fired_as x (marking_of c.args.self.now) c.args.k) (sym name)

pub returns-then-number-operations-clause-last : goal.returns-then-number-operations-clause-last
returns-then-number-operations-clause-last g c =
    let x = net_of c.args.self.now in
    let count = c.requires.operations in
    let inside : c.args.number < operation_count x c.args.piece = omega (arith, count, c.if-number-operations.true) in
    let name : operation_node x c.args.k ≡ Op c.args.piece c.args.number = ap (operation_node x) c.requires.number ∙ operation_name_at x c.args.piece c.args.number c.requires.piece inside in
    c.operate.ensures.last ∙ ap (λ (n : NodeName). newest (line_as x (marking_of c.args.self.now) n) c.args.self.now.text.items) (sym name)
