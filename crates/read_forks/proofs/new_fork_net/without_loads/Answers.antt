use Rattle.std.proofs.Common.{◌<◌, ℕ, Bool, List, refl, sym, ap, ◌∙◌, subst}
use Rattle.firing.specs.ReadySet.{has}
use Rattle.op_board.specs.OperationNets.{OperationNet, operation_node}
use Rattle.operation_tables.specs.Waits.{node_total}
use Rattle.fork_board.specs.ForkTokens.{is_load_node}
use Rattle.op_net.specs.NetView.{marking_of as operations_on, net_of as net_in}
use Rattle.read_forks.specs.KeptLoads.{IsOpenForNone, opened_of}
use Rattle.read_forks.proofs.KeptNets.{kept_there}
use Rattle.read_forks.proofs.new_fork_net.without_loads.Goals as goal

pub returns-clause-apart : goal.returns-clause-apart
returns-clause-apart g c = λ k low.
    let did = c.lead_apart.ensures in
    ap (λ (flags : List Bool). has flags k) did.apart
    ∙ c.in_ok-loads.ensures.flags k (subst (λ (y : OperationNet). k < node_total y) did.net low)
    ∙ ap (λ (y : OperationNet). is_load_node y (operation_node y k)) (sym did.net)

pub returns-clause-kept : goal.returns-clause-kept
returns-clause-kept g c =
    let led = c.lead_apart in
    let now = operations_on led.new.self in
    kept_there (net_in c.args.whole) (net_in led.new.self) now now c.in_ok-waiting.waiting led.ensures.net refl (c.in_ok-waiting.ensures.kept now)

pub returns-clause-none : goal.returns-clause-none
returns-clause-none g c = subst (λ (y : OperationNet). (line : ℕ) → IsOpenForNone (opened_of y c.in_ok-waiting.waiting) line) (sym c.lead_apart.ensures.net) c.in_ok-waiting.ensures.none
