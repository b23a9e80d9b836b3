use Rattle.std.proofs.Common.{◌≡◌, ℕ, Option, Some, None, sym, ap, ◌∙◌, subst, rules}
use Rattle.op_board.specs.OperationNets.{operation_node}
use Rattle.op_net.specs.NetView.{net_of}
use Rattle.fork_board.specs.ForkTokens.{is_load_node}
use Rattle.read_forks.specs.LoadSpots.{IsLoadAt}
use Rattle.read_forks.proofs.new_marks.is_load.Goals as goal

pub returns-in-Some : goal.returns-in-Some
returns-in-Some g c =
    let x = net_of c.args.net.now in
    let load = c.in-Some.field-0 in
    let at : IsLoadAt x (operation_node x c.args.k) (Some load) = subst (λ (o : Option (ℕ × ℕ)). IsLoadAt x (operation_node x c.args.k) o) c.in-Some.is c.load_of.ensures in
    sym (ap (is_load_node x) at.0 ∙ at.1)

pub returns-in-None : goal.returns-in-None
returns-in-None g c =
    let x = net_of c.args.net.now in
    let none : c.load_of.result ≡ None = search rules in
    sym (subst (λ (o : Option (ℕ × ℕ)). IsLoadAt x (operation_node x c.args.k) o) none c.load_of.ensures)
