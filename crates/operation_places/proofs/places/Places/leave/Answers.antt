use Rattle.std.proofs.Common.{◌≡◌, ◌<◌, ◌+◌, ◌==◌, ℕ, true, Some, is_some, ap}
use Rattle.net_board.specs.Tokens.{joined}
use Rattle.op_board.specs.OperationTokens.{OperationTokens}
use Rattle.operation_tables.specs.BoardView.{operation_net_on}
use Rattle.operation_places.specs.PlacesView.{edge_put, standing}
use Rattle.operation_tables.specs.Waits.{node_total, one_if, waits}
use Rattle.operation_places.proofs.CountedAhead.{ahead_after, less_marks, less_right, less_some}
use Rattle.operation_places.proofs.WaitChanges.{edge_waits, put_elsewhere, put_there}
use Rattle.operation_places.proofs.places.Places.leave.Goals as goal

pub wait_less-requires-clause-some : goal.wait_less-requires-clause-some
wait_less-requires-clause-some g c =
    let x = operation_net_on c.args.board.now in
    let old = c.args.self.now in
    let new : OperationTokens = edge_put (standing old) c.args.switch (Some c.args.edge) in
    let change : old.counted ≡ true → (j : ℕ) → j < node_total x → waits x new j + one_if (j == c.args.node) ≡ waits x (standing old) j + one_if (j == c.args.decision) =
    λ counted. edge_waits x (standing old) old.edges.items new.tokens.edges c.args.switch (λ j differ. put_elsewhere old.edges.items c.args.switch j (Some c.args.edge) differ) (ap is_some c.requires.empty) (ap (λ o. is_some (joined o)) (put_there old.edges.items c.args.switch (Some c.args.edge) c.requires.switch)) c.args.node c.args.decision (c.requires.nodes counted) in
    less_some x old c.args.decision new c.args.node change c.requires.ahead

pub wait_less-requires-clause-right : goal.wait_less-requires-clause-right
wait_less-requires-clause-right g c inside some free =
    let x = operation_net_on c.args.board.now in
    let old = c.args.self.now in
    let new : OperationTokens = edge_put (standing old) c.args.switch (Some c.args.edge) in
    let change : old.counted ≡ true → (j : ℕ) → j < node_total x → waits x new j + one_if (j == c.args.node) ≡ waits x (standing old) j + one_if (j == c.args.decision) =
    λ counted. edge_waits x (standing old) old.edges.items new.tokens.edges c.args.switch (λ j differ. put_elsewhere old.edges.items c.args.switch j (Some c.args.edge) differ) (ap is_some c.requires.empty) (ap (λ o. is_some (joined o)) (put_there old.edges.items c.args.switch (Some c.args.edge) c.requires.switch)) c.args.node c.args.decision (c.requires.nodes counted) in
    less_right x old c.args.decision new c.args.node change c.requires.ahead inside free

pub wait_less-requires-clause-marks : goal.wait_less-requires-clause-marks
wait_less-requires-clause-marks g c =
    let x = operation_net_on c.args.board.now in
    let old = c.args.self.now in
    let new : OperationTokens = edge_put (standing old) c.args.switch (Some c.args.edge) in
    let change : old.counted ≡ true → (j : ℕ) → j < node_total x → waits x new j + one_if (j == c.args.node) ≡ waits x (standing old) j + one_if (j == c.args.decision) =
    λ counted. edge_waits x (standing old) old.edges.items new.tokens.edges c.args.switch (λ j differ. put_elsewhere old.edges.items c.args.switch j (Some c.args.edge) differ) (ap is_some c.requires.empty) (ap (λ o. is_some (joined o)) (put_there old.edges.items c.args.switch (Some c.args.edge) c.requires.switch)) c.args.node c.args.decision (c.requires.nodes counted) in
    less_marks x old c.args.decision new c.args.node change c.requires.ahead

pub returns-clause-counted : goal.returns-clause-counted
returns-clause-counted g c =
    let x = operation_net_on c.args.board.now in
    let old = c.args.self.now in
    let new : OperationTokens = edge_put (standing old) c.args.switch (Some c.args.edge) in
    let change : old.counted ≡ true → (j : ℕ) → j < node_total x → waits x new j + one_if (j == c.args.node) ≡ waits x (standing old) j + one_if (j == c.args.decision) =
    λ counted. edge_waits x (standing old) old.edges.items new.tokens.edges c.args.switch (λ j differ. put_elsewhere old.edges.items c.args.switch j (Some c.args.edge) differ) (ap is_some c.requires.empty) (ap (λ o. is_some (joined o)) (put_there old.edges.items c.args.switch (Some c.args.edge) c.requires.switch)) c.args.node c.args.decision (c.requires.nodes counted) in
    ahead_after x old c.args.decision new c.args.node change c.wait_less.new.self c.wait_less.ensures.kept.counted c.wait_less.ensures.kept.apart (c.wait_less.ensures.standing) c.wait_less.ensures.none c.wait_less.ensures.counts c.wait_less.ensures.leads

pub returns-clause-kept : goal.returns-clause-kept
returns-clause-kept g c =
    let less = c.wait_less.ensures.kept in
    record { counted = less.counted; marks = less.marks; room = less.room; apart = less.apart; flags = less.flags }
