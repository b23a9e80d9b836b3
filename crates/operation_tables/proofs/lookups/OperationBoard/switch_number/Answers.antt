use Rattle.std.proofs.Common.{◌≡◌, ◌-◌, ap, sym, ◌∙◌, arith}
use Rattle.net_board.specs.WokenNodes.{switch_number}
use Rattle.operation_tables.specs.BoardView.{operation_net_on}
use Rattle.operation_tables.proofs.LookedUp.{IsSwitchBehind, same_line, switch_behind}
use Rattle.operation_tables.proofs.lookups.OperationBoard.switch_number.Goals as goal

pub end-requires : goal.end-requires
end-requires g c =
    let at : IsSwitchBehind (operation_net_on c.args.self.now) c.args.k c.args.piece = switch_behind (operation_net_on c.args.self.now) c.args.k c.args.piece c.requires.node c.requires.switch in
    (omega arith, at.exists)

pub overflow_sub-behind : goal.overflow_sub-behind
overflow_sub-behind g c =
    let at : IsSwitchBehind (operation_net_on c.args.self.now) c.args.k c.args.piece = switch_behind (operation_net_on c.args.self.now) c.args.k c.args.piece c.requires.node c.requires.switch in
    let low = at.low in
    omega (arith, low, c.end.ensures.end)

pub end-requires-2 : goal.end-requires-2
end-requires-2 g c =
    let at : IsSwitchBehind (operation_net_on c.args.self.now) c.args.k c.args.piece = switch_behind (operation_net_on c.args.self.now) c.args.k c.args.piece c.requires.node c.requires.switch in
    (omega arith, at.exists)

pub overflow_sub-result : goal.overflow_sub-result
overflow_sub-result g c =
    let at : IsSwitchBehind (operation_net_on c.args.self.now) c.args.k c.args.piece = switch_behind (operation_net_on c.args.self.now) c.args.k c.args.piece c.requires.node c.requires.switch in
    let short = at.short in
    omega (arith, short, c.end.ensures.end, c.end-2.ensures.end)

pub returns-clause-within : goal.returns-clause-within
returns-clause-within g c =
    let x = operation_net_on c.args.self.now in
    let at : IsSwitchBehind x c.args.k c.args.piece = switch_behind x c.args.k c.args.piece c.requires.node c.requires.switch in
    let low = at.low in
    let behind = at.behind in
    let within = at.within in
    omega (arith, low, behind, within, c.end.ensures.end, c.end-2.ensures.end)

pub returns-clause-number : goal.returns-clause-number
returns-clause-number g c = λ line named.
    let x = operation_net_on c.args.self.now in
    let at : IsSwitchBehind x c.args.k c.args.piece = switch_behind x c.args.k c.args.piece c.requires.node c.requires.switch in
    let low = at.low in
    let behind = at.behind in
    let number : c.end-2.result - (c.end.result - c.args.k) ≡ switch_number x.net c.args.piece at.line = omega (arith, low, behind, c.end.ensures.end, c.end-2.ensures.end) in
    number ∙ ap (switch_number x.net c.args.piece) (same_line x c.args.piece at.line line (sym at.named ∙ named))
