use Rattle.std.proofs.Common.{◌≡◌, ◌≢◌, ℕ, Bor, Option, Some, None, option_copied, refl, sym, ap, subst, ◌∙◌, arith}
use Rattle.firing.specs.declared.system.NodeName.{NodeName}
use Rattle.firing.specs.declared.system.NodeName.TheVariants.{Op}
use Rattle.firing.specs.Moves.{newest}
use Rattle.op_board.specs.OperationNets.{operation_node}
use Rattle.op_board.specs.OperationTokens.{fired_as, line_as, ready_as}
use Rattle.op_net.specs.NetView.{marking_of, net_of}
use Rattle.operation_tables.specs.OperationTables.{RowOfNode}
use Rattle.operation_tables.specs.declared.rows.Row.{Row}
use Rattle.op_net.proofs.LedLines.{turning, turning_line, turning_silent}
use Rattle.operation_tables.proofs.NodeNames.{no_act}
use Rattle.op_net.proofs.NodeRows.{named_by_none, named_by_row}
use Rattle.op_net.proofs.net.OpNet.fire_node.Goals as goal

pub operate-requires : goal.operate-requires
operate-requires g c =
    let x = net_of c.args.self.now in
    let row = c.in-Some.row.now in
    let own : RowOfNode x (operation_node x c.args.k) (Some row) = subst (λ (o : Option (Bor Row)). RowOfNode x (operation_node x c.args.k) (option_copied o)) c.in-Some.is c.row_at.ensures in
    let name : operation_node x c.args.k ≡ Op row.piece row.number = named_by_row x (operation_node x c.args.k) row own in
    (omega arith, (c.requires.node, (name, (ap (ready_as x (marking_of c.args.self.now) c.args.k) (sym name) ∙ c.requires.ready, (c.requires.sizes, c.requires.going)))))

pub turn-requires : goal.turn-requires
turn-requires g c =
    let x = net_of c.args.self.now in
    let none : RowOfNode x (operation_node x c.args.k) None = subst (λ (o : Option (Bor Row)). RowOfNode x (operation_node x c.args.k) (option_copied o)) c.in-None.is c.row_at.ensures in
    let other : (piece i : ℕ) → operation_node x c.args.k ≢ Op piece i = named_by_none x (operation_node x c.args.k) none in
    (omega arith, (c.requires.node, (turning (operation_node x c.args.k) (λ piece i is. other piece i is) (λ piece is. no_act x c.args.k piece c.requires.node is), c.requires.ready)))

pub returns-in-Some-clause-marking : goal.returns-in-Some-clause-marking
returns-in-Some-clause-marking g c =
    let x = net_of c.args.self.now in
    let row = c.in-Some.row.now in
    let own : RowOfNode x (operation_node x c.args.k) (Some row) = subst (λ (o : Option (Bor Row)). RowOfNode x (operation_node x c.args.k) (option_copied o)) c.in-Some.is c.row_at.ensures in
    let name : operation_node x c.args.k ≡ Op row.piece row.number = named_by_row x (operation_node x c.args.k) row own in
    c.operate.ensures.marking ∙ ap (fired_as x (marking_of c.args.self.now) c.args.k) (sym name)

pub returns-in-Some-clause-last : goal.returns-in-Some-clause-last
returns-in-Some-clause-last g c =
    let x = net_of c.args.self.now in
    let row = c.in-Some.row.now in
    let own : RowOfNode x (operation_node x c.args.k) (Some row) = subst (λ (o : Option (Bor Row)). RowOfNode x (operation_node x c.args.k) (option_copied o)) c.in-Some.is c.row_at.ensures in
    let name : operation_node x c.args.k ≡ Op row.piece row.number = named_by_row x (operation_node x c.args.k) row own in
    c.operate.ensures.last ∙ ap (λ (n : NodeName). newest (line_as x (marking_of c.args.self.now) n) c.args.self.now.text.items) (sym name)

pub returns-in-None-clause-fired : goal.returns-in-None-clause-fired
returns-in-None-clause-fired g c =
    let x = net_of c.args.self.now in
    let none : RowOfNode x (operation_node x c.args.k) None = subst (λ (o : Option (Bor Row)). RowOfNode x (operation_node x c.args.k) (option_copied o)) c.in-None.is c.row_at.ensures in
    let other : (piece i : ℕ) → operation_node x c.args.k ≢ Op piece i = named_by_none x (operation_node x c.args.k) none in
    let turns = turning (operation_node x c.args.k) (λ piece i is. other piece i is) (λ piece is. no_act x c.args.k piece c.requires.node is) in
    turning_silent x (marking_of c.args.self.now) c.args.k (operation_node x c.args.k) turns refl c.requires.going

pub returns-in-None-clause-last : goal.returns-in-None-clause-last
returns-in-None-clause-last g c =
    let x = net_of c.args.self.now in
    let none : RowOfNode x (operation_node x c.args.k) None = subst (λ (o : Option (Bor Row)). RowOfNode x (operation_node x c.args.k) (option_copied o)) c.in-None.is c.row_at.ensures in
    let other : (piece i : ℕ) → operation_node x c.args.k ≢ Op piece i = named_by_none x (operation_node x c.args.k) none in
    let turns = turning (operation_node x c.args.k) (λ piece i is. other piece i is) (λ piece is. no_act x c.args.k piece c.requires.node is) in
    c.turn.ensures.text ∙ turning_line x (marking_of c.args.self.now) c.args.k (operation_node x c.args.k) c.args.self.now.text.items turns
