use Rattle.std.proofs.Common.{◌≡◌, ◌<◌, ◌+◌, ◌==◌, ℕ, true, None, refl, arith}
use Rattle.op_board.specs.OperationTokens.{OperationTokens}
use Rattle.operation_tables.specs.BoardView.{operation_net_on}
use Rattle.operation_places.specs.PlacesView.{line_put, standing}
use Rattle.operation_tables.specs.Waits.{node_total, one_if, waits}
use Rattle.operation_places.proofs.CountedAhead.{ahead_alone}
use Rattle.operation_tables.proofs.NodesBefore.{none_before}
use Rattle.operation_places.proofs.WaitChanges.{line_waits}
use Rattle.operation_places.proofs.places.Places.take_off.Goals as goal

pub returns-clause-counted : goal.returns-clause-counted
returns-clause-counted g c =
    let x = operation_net_on c.args.board.now in
    let old = c.args.self.now in
    let new : OperationTokens = line_put (standing old) c.args.line None 0 in
    let change : old.counted ≡ true → (j : ℕ) → j < node_total x → waits x new j + one_if (j == node_total x) ≡ waits x (standing old) j + one_if (j == c.args.from) =
    λ counted. line_waits x (standing old) c.args.line None 0 c.requires.exists c.requires.line c.requires.passed c.args.from (node_total x) (c.requires.from counted) (none_before x c.args.line 0) in
    ahead_alone x old c.args.from new (node_total x) change (omega arith) _ refl refl refl refl refl refl
