use Rattle.std.proofs.Common.{◌≡◌, slice_get, Some, sym, ◌∙◌, arith}
use Rattle.op_board.specs.OperationNets.{operation_node}
use Rattle.op_net.specs.NetView.{marking_of as operations_on}
use Rattle.fork_board.proofs.ForkNodes.{other_ready}
use Rattle.read_forks.specs.ForkView.{marking_of, net_of}
use Rattle.read_forks.proofs.ListedLoads.{load_step}
use Rattle.read_forks.proofs.ReadyLoads.{waits_ready}
use Rattle.read_forks.proofs.TestedNets.{room_closed, room_steps}
use Rattle.read_forks.proofs.fork_net.ForkNet.is_ready.Goals as goal

pub at-step-requires : goal.at-step-requires
at-step-requires g c =
    let long = room_steps c.args.self.now in
    let low = c.requires.node in
    omega (arith, long, low)

pub can_load-requires : goal.can_load-requires
can_load-requires g c =
    let s = c.args.self.now in
    let x = net_of s in
    let k = c.args.k in
    let low = c.requires.node in
    let long = room_steps s in
    let room = room_closed s in
    let step = c.at-step.result in
    let at : slice_get s.waiting.steps k ≡ Some step = c.at-step.ensures in
    let is = s.kept.tables.steps.each k step at in
    let loads = sym is.loads ∙ c.if-step.true in
    (omega arith, (low, (load_step x s.waiting.links.items k step is loads, omega (arith, room, low))))

pub returns-then-step : goal.returns-then-step
returns-then-step g c =
    let s = c.args.self.now in
    let x = net_of s in
    let k = c.args.k in
    let low = c.requires.node in
    let long = room_steps s in
    let step = c.at-step.result in
    let at : slice_get s.waiting.steps k ≡ Some step = c.at-step.ensures in
    let is = s.kept.tables.steps.each k step at in
    c.can_load.ensures ∙ waits_ready x (operations_on s.net) s.waiting s.kept k low (sym is.loads ∙ c.if-step.true)

pub returns-else-step : goal.returns-else-step
returns-else-step g c =
    let s = c.args.self.now in
    let x = net_of s in
    let k = c.args.k in
    let low = c.requires.node in
    let long = room_steps s in
    let step = c.at-step.result in
    let at : slice_get s.waiting.steps k ≡ Some step = c.at-step.ensures in
    let is = s.kept.tables.steps.each k step at in
    c.ready.ensures ∙ sym (other_ready x (marking_of s) k (operation_node x k) (sym is.loads ∙ c.if-step.false))

pub ready-requires : goal.ready-requires
ready-requires g c =
    let sound = c.requires.sound in
    (omega arith, (c.requires.node, record { ground = sound.ground; is_net = sound.is_net; is_marking = sound.is_marking }))
