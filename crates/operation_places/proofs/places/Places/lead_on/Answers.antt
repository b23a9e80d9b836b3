use Rattle.std.proofs.Common.{◌≡◌, ◌<◌, ◌+◌, ◌==◌, ℕ, true, Some}
use Rattle.op_board.specs.OperationTokens.{OperationTokens}
use Rattle.operation_tables.specs.BoardView.{operation_net_on}
use Rattle.operation_places.specs.PlacesView.{line_put, standing}
use Rattle.operation_tables.specs.Waits.{node_total, one_if, waits}
use Rattle.operation_places.proofs.CountedAhead.{ahead_after, less_marks, less_right, less_some}
use Rattle.operation_places.proofs.WaitChanges.{line_waits}
use Rattle.operation_places.proofs.places.Places.lead_on.Goals as goal

pub wait_less-requires-clause-some : goal.wait_less-requires-clause-some
wait_less-requires-clause-some g c =
    let x = operation_net_on c.args.board.now in
    let old = c.args.self.now in
    let new : OperationTokens = line_put (standing old) c.args.line (Some c.args.edge) 0 in
    let change : old.counted ≡ true → (j : ℕ) → j < node_total x → waits x new j + one_if (j == c.args.to) ≡ waits x (standing old) j + one_if (j == c.args.from) =
    λ counted. line_waits x (standing old) c.args.line (Some c.args.edge) 0 c.requires.exists c.requires.line c.requires.passed c.args.from c.args.to (c.requires.from counted) (c.requires.to counted) in
    less_some x old c.args.from new c.args.to change c.requires.ahead

pub wait_less-requires-clause-right : goal.wait_less-requires-clause-right
wait_less-requires-clause-right g c inside some free =
    let x = operation_net_on c.args.board.now in
    let old = c.args.self.now in
    let new : OperationTokens = line_put (standing old) c.args.line (Some c.args.edge) 0 in
    let change : old.counted ≡ true → (j : ℕ) → j < node_total x → waits x new j + one_if (j == c.args.to) ≡ waits x (standing old) j + one_if (j == c.args.from) =
    λ counted. line_waits x (standing old) c.args.line (Some c.args.edge) 0 c.requires.exists c.requires.line c.requires.passed c.args.from c.args.to (c.requires.from counted) (c.requires.to counted) in
    less_right x old c.args.from new c.args.to change c.requires.ahead inside free

pub wait_less-requires-clause-marks : goal.wait_less-requires-clause-marks
wait_less-requires-clause-marks g c =
    let x = operation_net_on c.args.board.now in
    let old = c.args.self.now in
    let new : OperationTokens = line_put (standing old) c.args.line (Some c.args.edge) 0 in
    let change : old.counted ≡ true → (j : ℕ) → j < node_total x → waits x new j + one_if (j == c.args.to) ≡ waits x (standing old) j + one_if (j == c.args.from) =
    λ counted. line_waits x (standing old) c.args.line (Some c.args.edge) 0 c.requires.exists c.requires.line c.requires.passed c.args.from c.args.to (c.requires.from counted) (c.requires.to counted) in
    less_marks x old c.args.from new c.args.to change c.requires.ahead

pub returns-clause-counted : goal.returns-clause-counted
returns-clause-counted g c =
    let x = operation_net_on c.args.board.now in
    let old = c.args.self.now in
    let new : OperationTokens = line_put (standing old) c.args.line (Some c.args.edge) 0 in
    let change : old.counted ≡ true → (j : ℕ) → j < node_total x → waits x new j + one_if (j == c.args.to) ≡ waits x (standing old) j + one_if (j == c.args.from) =
    λ counted. line_waits x (standing old) c.args.line (Some c.args.edge) 0 c.requires.exists c.requires.line c.requires.passed c.args.from c.args.to (c.requires.from counted) (c.requires.to counted) in
    ahead_after x old c.args.from new c.args.to change c.wait_less.new.self c.wait_less.ensures.kept.counted c.wait_less.ensures.kept.apart (c.wait_less.ensures.standing) c.wait_less.ensures.none c.wait_less.ensures.counts c.wait_less.ensures.leads

pub returns-clause-kept : goal.returns-clause-kept
returns-clause-kept g c =
    let less = c.wait_less.ensures.kept in
    record { counted = less.counted; marks = less.marks; room = less.room; apart = less.apart; flags = less.flags }
