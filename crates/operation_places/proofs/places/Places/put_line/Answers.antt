use Rattle.std.proofs.Common.{◌≡◌, ◌<◌, ◌+◌, ◌==◌, ℕ, true, ◌∙◌}
use Rattle.op_board.specs.OperationTokens.{OperationTokens}
use Rattle.operation_tables.specs.BoardView.{operation_net_on}
use Rattle.operation_places.specs.PlacesView.{line_put, standing}
use Rattle.operation_tables.specs.Waits.{node_total, one_if, waits}
use Rattle.operation_places.proofs.CountedPlaces.{counted_after, counted_apart, counted_few, counted_marks, less_marks, less_right, less_some}
use Rattle.operation_places.proofs.CountsKept.{keeps_more}
use Rattle.operation_places.proofs.WaitChanges.{line_waits}
use Rattle.operation_places.proofs.places.Places.put_line.Goals as goal

pub wait_more-requires-clause-few : goal.wait_more-requires-clause-few
wait_more-requires-clause-few g c = counted_few (operation_net_on c.args.board.now) c.args.self.now c.requires.counted c.args.from c.waits_are_few.ensures

pub wait_more-requires-clause-apart : goal.wait_more-requires-clause-apart
wait_more-requires-clause-apart g c = counted_apart (operation_net_on c.args.board.now) c.args.self.now c.requires.counted c.args.from

pub wait_more-requires-clause-marks : goal.wait_more-requires-clause-marks
wait_more-requires-clause-marks g c = counted_marks (operation_net_on c.args.board.now) c.args.self.now c.requires.counted c.requires.marks

pub wait_less-requires-clause-some : goal.wait_less-requires-clause-some
wait_less-requires-clause-some g c =
    let x = operation_net_on c.args.board.now in
    let old = c.args.self.now in
    let new : OperationTokens = line_put (standing old) c.args.line c.args.edge c.args.passed in
    let change : old.counted ≡ true → (j : ℕ) → j < node_total x → waits x new j + one_if (j == c.args.to) ≡ waits x (standing old) j + one_if (j == c.args.from) =
    λ counted. line_waits x (standing old) c.args.line c.args.edge c.args.passed c.requires.exists c.requires.line c.requires.passed c.args.from c.args.to (c.requires.from counted) (c.requires.to counted) in
    less_some x old c.requires.counted c.wait_more.new.self new c.args.from c.args.to change c.wait_more.ensures.kept.counted c.wait_more.ensures.kept.apart c.wait_more.ensures.none c.wait_more.ensures.counts

pub wait_less-requires-clause-right : goal.wait_less-requires-clause-right
wait_less-requires-clause-right g c inside some free =
    let x = operation_net_on c.args.board.now in
    let old = c.args.self.now in
    let new : OperationTokens = line_put (standing old) c.args.line c.args.edge c.args.passed in
    let change : old.counted ≡ true → (j : ℕ) → j < node_total x → waits x new j + one_if (j == c.args.to) ≡ waits x (standing old) j + one_if (j == c.args.from) =
    λ counted. line_waits x (standing old) c.args.line c.args.edge c.args.passed c.requires.exists c.requires.line c.requires.passed c.args.from c.args.to (c.requires.from counted) (c.requires.to counted) in
    less_right x old c.requires.counted c.wait_more.new.self new c.args.from c.args.to change c.wait_more.ensures.kept.counted c.wait_more.ensures.kept.apart c.wait_more.ensures.none c.wait_more.ensures.counts inside free

pub wait_less-requires-clause-marks : goal.wait_less-requires-clause-marks
wait_less-requires-clause-marks g c =
    let x = operation_net_on c.args.board.now in
    let old = c.args.self.now in
    let new : OperationTokens = line_put (standing old) c.args.line c.args.edge c.args.passed in
    let change : old.counted ≡ true → (j : ℕ) → j < node_total x → waits x new j + one_if (j == c.args.to) ≡ waits x (standing old) j + one_if (j == c.args.from) =
    λ counted. line_waits x (standing old) c.args.line c.args.edge c.args.passed c.requires.exists c.requires.line c.requires.passed c.args.from c.args.to (c.requires.from counted) (c.requires.to counted) in
    less_marks x old c.requires.counted c.wait_more.new.self new c.args.from c.args.to change c.wait_more.ensures.kept.counted c.wait_more.ensures.kept.apart c.wait_more.ensures.none c.wait_more.ensures.counts

pub returns-clause-counted : goal.returns-clause-counted
returns-clause-counted g c =
    let x = operation_net_on c.args.board.now in
    let old = c.args.self.now in
    let new : OperationTokens = line_put (standing old) c.args.line c.args.edge c.args.passed in
    let change : old.counted ≡ true → (j : ℕ) → j < node_total x → waits x new j + one_if (j == c.args.to) ≡ waits x (standing old) j + one_if (j == c.args.from) =
    λ counted. line_waits x (standing old) c.args.line c.args.edge c.args.passed c.requires.exists c.requires.line c.requires.passed c.args.from c.args.to (c.requires.from counted) (c.requires.to counted) in
    counted_after x old c.requires.counted c.wait_more.new.self new c.args.from c.args.to change c.wait_more.ensures.kept.counted c.wait_more.ensures.kept.apart c.wait_more.ensures.none c.wait_more.ensures.counts
    c.wait_less.new.self c.wait_less.ensures.kept.counted c.wait_less.ensures.kept.apart (c.wait_less.ensures.standing ∙ c.wait_more.ensures.standing) c.wait_less.ensures.none c.wait_less.ensures.counts (c.wait_less.ensures.leads ∙ c.wait_more.ensures.leads)

pub returns-clause-kept : goal.returns-clause-kept
returns-clause-kept g c =
    let more = c.wait_more.ensures.kept in
    keeps_more c.args.self.now c.wait_more.new.self c.wait_less.new.self (record { counted = more.counted; marks = more.marks; room = more.room; apart = more.apart; flags = more.flags }) c.wait_less.ensures.kept
