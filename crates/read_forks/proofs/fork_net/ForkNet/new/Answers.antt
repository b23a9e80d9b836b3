use Rattle.std.proofs.Common.{◌≡◌, ◌≤◌, ℕ, false, Some, sym, ap, ◌∙◌, subst, arith}
use Rattle.net_board.specs.ControlCourse.{first_control}
use Rattle.net_board.specs.Nodes.{graph_in}
use Rattle.op_board.specs.OperationNets.{OperationNet, operation_count}
use Rattle.op_board.specs.OperationTokens.{first_operation_tokens}
use Rattle.op_board.specs.SoundOperationNets.{IsOperationNet}
use Rattle.op_net.specs.NetView.{marking_of as operations_on, net_of as net_in}
use Rattle.read_forks.proofs.FirstForks.{AreAllOpen, in_step_begins, marking_begins, open_there, sound_begins}
use Rattle.read_forks.proofs.KeptNets.{apart_too, kept_there}
use Rattle.read_forks.proofs.fork_net.ForkNet.new.Goals as goal

pub arrive_all-requires : goal.arrive_all-requires
arrive_all-requires g c =
    let led = c.in_ok-net.ensures in
    (omega arith, (subst (λ (y : OperationNet). IsOperationNet y) (sym led.net) c.in_ok-whole.ensures.is_net, (led.apart, (led.kept, led.none))))

pub invariant_of-result : goal.invariant_of-result
invariant_of-result g c =
    let led = c.in_ok-net in
    let did = c.arrive_all in
    let rest = did.ensures.rest in
    record {
      apart = apart_too led.net did.new.net rest.net rest.apart led.ensures.apart;
      kept = kept_there (net_in led.net) (net_in did.new.net) (operations_on led.net) (operations_on did.new.net) did.new.self rest.net rest.marking did.ensures.kept;
    }

pub returns-clause-net : goal.returns-clause-net
returns-clause-net g c =
    let whole = c.in_ok-whole in
    let led = c.in_ok-net in
    let did = c.arrive_all in
    let end = did.new.net in
    let net : net_in end ≡ net_in whole.whole = did.ensures.rest.net ∙ led.ensures.net in
    ap (λ (y : OperationNet). y.net) net ∙ whole.ensures.net

pub returns-clause-is_net : goal.returns-clause-is_net
returns-clause-is_net g c =
    let whole = c.in_ok-whole in
    let led = c.in_ok-net in
    let did = c.arrive_all in
    let end = did.new.net in
    let net : net_in end ≡ net_in whole.whole = did.ensures.rest.net ∙ led.ensures.net in
    subst (λ (y : OperationNet). IsOperationNet y) (sym net) whole.ensures.is_net

pub returns-clause-outside_pieces : goal.returns-clause-outside_pieces
returns-clause-outside_pieces g c =
    let whole = c.in_ok-whole in
    let led = c.in_ok-net in
    let did = c.arrive_all in
    let end = did.new.net in
    let net : net_in end ≡ net_in whole.whole = did.ensures.rest.net ∙ led.ensures.net in
    subst (λ (y : OperationNet). (piece i line : ℕ) → (graph_in y.net).nodes ≤ piece → y.needs piece i line ≡ false) (sym net) whole.ensures.outside_pieces

pub returns-clause-outside_operations : goal.returns-clause-outside_operations
returns-clause-outside_operations g c =
    let whole = c.in_ok-whole in
    let led = c.in_ok-net in
    let did = c.arrive_all in
    let end = did.new.net in
    let net : net_in end ≡ net_in whole.whole = did.ensures.rest.net ∙ led.ensures.net in
    subst (λ (y : OperationNet). (piece i line : ℕ) → operation_count y piece ≤ i → y.needs piece i line ≡ false) (sym net) whole.ensures.outside_operations

pub returns-clause-marking : goal.returns-clause-marking
returns-clause-marking g c =
    let whole = c.in_ok-whole in
    let led = c.in_ok-net in
    let did = c.arrive_all in
    let end = did.new.net in
    let net : net_in end ≡ net_in whole.whole = did.ensures.rest.net ∙ led.ensures.net in
    let first : operations_on end ≡ first_operation_tokens (net_in end) = did.ensures.rest.marking ∙ led.ensures.marking ∙ whole.ensures.marking ∙ ap (λ (y : OperationNet). first_operation_tokens y) (sym net) in
    let is_net : IsOperationNet (net_in end) = subst (λ (y : OperationNet). IsOperationNet y) (sym net) whole.ensures.is_net in
    let opened : AreAllOpen (net_in end) (operations_on end) did.new.self = open_there (net_in led.net) (net_in end) (operations_on led.net) (operations_on end) did.new.self did.ensures.rest.net did.ensures.rest.marking did.ensures.opened in
    let begins = c.forks_begin_soundly.ensures (net_in end) is_net in
    marking_begins (net_in end) (operations_on end) did.new.self opened begins first

pub returns-clause-place : goal.returns-clause-place
returns-clause-place g c =
    let whole = c.in_ok-whole in
    let led = c.in_ok-net in
    let did = c.arrive_all in
    let end = did.new.net in
    let net : net_in end ≡ net_in whole.whole = did.ensures.rest.net ∙ led.ensures.net in
    did.ensures.rest.place ∙ led.ensures.place ∙ whole.ensures.place ∙ ap (λ (y : OperationNet). Some (first_control y.net)) (sym net)

pub returns-clause-sound : goal.returns-clause-sound
returns-clause-sound g c =
    let whole = c.in_ok-whole in
    let led = c.in_ok-net in
    let did = c.arrive_all in
    let end = did.new.net in
    let net : net_in end ≡ net_in whole.whole = did.ensures.rest.net ∙ led.ensures.net in
    let first : operations_on end ≡ first_operation_tokens (net_in end) = did.ensures.rest.marking ∙ led.ensures.marking ∙ whole.ensures.marking ∙ ap (λ (y : OperationNet). first_operation_tokens y) (sym net) in
    let is_net : IsOperationNet (net_in end) = subst (λ (y : OperationNet). IsOperationNet y) (sym net) whole.ensures.is_net in
    let opened : AreAllOpen (net_in end) (operations_on end) did.new.self = open_there (net_in led.net) (net_in end) (operations_on led.net) (operations_on end) did.new.self did.ensures.rest.net did.ensures.rest.marking did.ensures.opened in
    let begins = c.forks_begin_soundly.ensures (net_in end) is_net in
    sound_begins (net_in end) (operations_on end) did.new.self opened begins first

pub returns-clause-in_step : goal.returns-clause-in_step
returns-clause-in_step g c =
    let whole = c.in_ok-whole in
    let led = c.in_ok-net in
    let did = c.arrive_all in
    let end = did.new.net in
    let net : net_in end ≡ net_in whole.whole = did.ensures.rest.net ∙ led.ensures.net in
    let first : operations_on end ≡ first_operation_tokens (net_in end) = did.ensures.rest.marking ∙ led.ensures.marking ∙ whole.ensures.marking ∙ ap (λ (y : OperationNet). first_operation_tokens y) (sym net) in
    let is_net : IsOperationNet (net_in end) = subst (λ (y : OperationNet). IsOperationNet y) (sym net) whole.ensures.is_net in
    let opened : AreAllOpen (net_in end) (operations_on end) did.new.self = open_there (net_in led.net) (net_in end) (operations_on led.net) (operations_on end) did.new.self did.ensures.rest.net did.ensures.rest.marking did.ensures.opened in
    let begins = c.forks_begin_soundly.ensures (net_in end) is_net in
    in_step_begins (net_in end) (operations_on end) did.new.self opened begins first end.control (did.ensures.rest.place ∙ led.ensures.place ∙ whole.ensures.place ∙ ap (λ (y : OperationNet). Some (first_control y.net)) (sym net))
    (c.forks_stay_in_lockstep.ensures.begins (net_in end) is_net) (c.forks_stay_in_lockstep.ensures.steady (net_in end)) (c.forks_stay_in_lockstep.ensures.ordered (net_in end))
