use Rattle.std.proofs.Common.{◌≡◌, sym, ap, subst, ◌∙◌, arith}
use Rattle.f77_meaning.specs.Storage.{memory_of}
use Rattle.firing.specs.declared.system.NodeName.TheVariants.{Merge, Switch}
use Rattle.op_board.specs.OperationNets.{operation_node}
use Rattle.op_board.specs.OperationTokens.{fired_as, ready_as}
use Rattle.op_net.specs.NetView.{marking_of, net_of}
use Rattle.operation_places.specs.PlacesView.{standing}
use Rattle.operation_places.specs.Steering.{LeadsBy}
use Rattle.operation_places.proofs.ControlMoveLemmas.{merge_leads, switch_leads}
use Rattle.op_net.proofs.LedLines.{merge_whole, switch_whole}
use Rattle.op_net.proofs.net.OpNet.turn.Goals as goal

pub switch-requires : goal.switch-requires
switch-requires g c =
    let x = net_of c.args.self.now in
    let name : operation_node x c.args.k ≡ Switch c.in-Switch.piece c.in-Switch.line = sym c.name.ensures ∙ c.in-Switch.is in
    (omega arith, (c.requires.node, (name, (ap (ready_as x (marking_of c.args.self.now) c.args.k) (sym name) ∙ c.requires.ready, (c.args.self.now.own_places, c.args.self.now.counted)))))

pub merge-requires : goal.merge-requires
merge-requires g c =
    let x = net_of c.args.self.now in
    let name : operation_node x c.args.k ≡ Merge c.in-Merge.piece c.in-Merge.line = sym c.name.ensures ∙ c.in-Merge.is in
    (omega arith, (c.requires.node, (name, (ap (ready_as x (marking_of c.args.self.now) c.args.k) (sym name) ∙ c.requires.ready, (c.args.self.now.own_places, c.args.self.now.counted)))))

pub returns-in-Switch-clause-marking : goal.returns-in-Switch-clause-marking
returns-in-Switch-clause-marking g c =
    let x = net_of c.args.self.now in
    let s = c.args.self.now in
    let name : operation_node x c.args.k ≡ Switch c.in-Switch.piece c.in-Switch.line = sym c.name.ensures ∙ c.in-Switch.is in
    switch_whole x (standing s.places) c.in-Switch.piece c.in-Switch.line (memory_of s.storage) s.trapped _ c.switch.ensures.standing
    ∙ ap (fired_as x (marking_of s) c.args.k) (sym name)

pub returns-in-Switch-clause-leads : goal.returns-in-Switch-clause-leads
returns-in-Switch-clause-leads g c = switch_leads (net_of c.args.self.now) c.args.self.now.board.plan.facts c.args.k c.requires.node (marking_of c.args.self.now) c.in-Switch.piece c.in-Switch.line _ (sym c.name.ensures ∙ c.in-Switch.is)

pub returns-in-Merge-clause-marking : goal.returns-in-Merge-clause-marking
returns-in-Merge-clause-marking g c =
    let x = net_of c.args.self.now in
    let s = c.args.self.now in
    let name : operation_node x c.args.k ≡ Merge c.in-Merge.piece c.in-Merge.line = sym c.name.ensures ∙ c.in-Merge.is in
    merge_whole x (standing s.places) c.in-Merge.piece c.in-Merge.line (memory_of s.storage) s.trapped _ c.merge.ensures.standing
    ∙ ap (fired_as x (marking_of s) c.args.k) (sym name)

pub returns-in-Merge-clause-leads : goal.returns-in-Merge-clause-leads
returns-in-Merge-clause-leads g c =
    let x = net_of c.args.self.now in
    let m = marking_of c.args.self.now in
    subst (LeadsBy x m c.args.k) (sym c.merge.ensures.edge) (merge_leads x c.args.self.now.board.plan.facts c.args.k c.requires.node m c.in-Merge.piece c.in-Merge.line (sym c.name.ensures ∙ c.in-Merge.is))

pub returns-in-Merge-clause-edge : goal.returns-in-Merge-clause-edge
returns-in-Merge-clause-edge g c = c.merge.ensures.exists
