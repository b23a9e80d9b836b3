use Rattle.std.proofs.Common.{◌≡◌, true, false, sym, ap, ◌∙◌}
use Rattle.firing.specs.declared.system.NodeName.TheVariants.{Act, Merge, Op, Switch}
use Rattle.op_board.specs.OperationNets.{operation_node}
use Rattle.op_net.specs.NetView.{net_of as net_in}
use Rattle.read_forks.specs.NodeLinks.{is_turn, moved_lines}
use Rattle.read_forks.proofs.arriving.turned_line.Goals as goal

pub returns-in-Op : goal.returns-in-Op
returns-in-Op g c =
    let x = net_in c.args.net.now in
    let is : operation_node x c.args.k ≡ Op c.in-Op.field-0 c.in-Op.field-1 = sym c.name.ensures ∙ c.in-Op.is in
    let e : false ≡ true = sym (ap is_turn is) ∙ c.requires.turns in
    absurd cc

pub returns-in-Switch : goal.returns-in-Switch
returns-in-Switch g c =
    let x = net_in c.args.net.now in
    let is : operation_node x c.args.k ≡ Switch c.in-Switch.field-0 c.in-Switch.line = sym c.name.ensures ∙ c.in-Switch.is in
    ap (moved_lines x) is

pub returns-in-Merge : goal.returns-in-Merge
returns-in-Merge g c =
    let x = net_in c.args.net.now in
    let is : operation_node x c.args.k ≡ Merge c.in-Merge.field-0 c.in-Merge.line = sym c.name.ensures ∙ c.in-Merge.is in
    ap (moved_lines x) is

pub returns-in-Act : goal.returns-in-Act
returns-in-Act g c =
    let x = net_in c.args.net.now in
    let is : operation_node x c.args.k ≡ Act c.in-Act.field-0 = sym c.name.ensures ∙ c.in-Act.is in
    ap (moved_lines x) is
