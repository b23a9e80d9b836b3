use Rattle.std.proofs.Common.{◌+◌, ℕ, Option, Some, None, subst, sym, arith}
use Rattle.operation_tables.specs.BoardView.{operation_net_on}
use Rattle.operation_tables.specs.OperationRows.{EntryIs, IsEntry}
use Rattle.operation_tables.specs.Waits.{IsNodeBefore}
use Rattle.operation_tables.proofs.NodeNames.{operation_within}
use Rattle.operation_places.proofs.TurnNodes.{entry_before}
use Rattle.operation_places.proofs.standing.first_needing.Goals as goal

pub overflow_add-result : goal.overflow_add-result
overflow_add-result g c =
    let board = c.args.board.now in
    let x = operation_net_on board in
    let entry : IsEntry x c.args.piece c.args.line c.in-Some.n = subst (λ (o : Option ℕ). EntryIs x c.args.piece c.args.line o) c.in-Some.is c.entry.ensures in
    let low = operation_within x c.args.piece c.in-Some.n c.requires.piece entry.inside in
    let few = board.own_tables.few in
    omega (arith, low, few, c.first.ensures)

pub returns-in-Some-clause-before : goal.returns-in-Some-clause-before
returns-in-Some-clause-before g c = λ edge leads.
    let board = c.args.board.now in
    let x = operation_net_on board in
    let entry : IsEntry x c.args.piece c.args.line c.in-Some.n = subst (λ (o : Option ℕ). EntryIs x c.args.piece c.args.line o) c.in-Some.is c.entry.ensures in
    subst (λ (k : ℕ). IsNodeBefore x c.args.line (Some edge) 0 (k + c.in-Some.n)) (sym c.first.ensures) (entry_before x board.plan.facts c.args.piece c.args.line edge c.in-Some.n c.requires.piece entry leads)

pub returns-in-Some-clause-within : goal.returns-in-Some-clause-within
returns-in-Some-clause-within g c =
    let board = c.args.board.now in
    let x = operation_net_on board in
    let entry : IsEntry x c.args.piece c.args.line c.in-Some.n = subst (λ (o : Option ℕ). EntryIs x c.args.piece c.args.line o) c.in-Some.is c.entry.ensures in
    let low = operation_within x c.args.piece c.in-Some.n c.requires.piece entry.inside in
    omega (arith, low, c.first.ensures)

pub returns-in-None-clause-before : goal.returns-in-None-clause-before
returns-in-None-clause-before g c =
    let x = operation_net_on c.args.board.now in
    let none : EntryIs x c.args.piece c.args.line None = subst (λ (o : Option ℕ). EntryIs x c.args.piece c.args.line o) c.in-None.is c.entry.ensures in
    absurd none
