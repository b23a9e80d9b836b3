use Rattle.std.proofs.Common.{◌≡◌, ◌<◌, ◌+◌, ◌==◌, ℕ, true, Some, is_some, ap, ◌∙◌, rules, w32}
use mir.Val.{SFits}
use Rattle.std.proofs.lemmas.Int.{to_z-of_z}
use Rattle.op_board.specs.OperationTokens.{OperationTokens, value_of}
use Rattle.operation_tables.specs.BoardView.{operation_net_on}
use Rattle.operation_places.specs.PlacesView.{value_put, standing}
use Rattle.operation_tables.specs.Waits.{node_total, one_if, waits}
use Rattle.operation_places.proofs.CountedAhead.{ahead_after, less_marks, less_right, less_some}
use Rattle.operation_places.proofs.WaitChanges.{put_elsewhere, put_there, value_waits}
use Rattle.operation_places.proofs.ValueNodes.{giver_operates}
use Rattle.operation_places.proofs.places.Places.give.Goals as goal

pub wait_less-requires-clause-some : goal.wait_less-requires-clause-some
wait_less-requires-clause-some g c =
    let x = operation_net_on c.args.board.now in
    let old = c.args.self.now in
    let new : OperationTokens = value_put (standing old) c.args.k (Some c.args.z) in
    let change : old.counted ≡ true → (j : ℕ) → j < node_total x → waits x new j + one_if (j == c.args.taker) ≡ waits x (standing old) j + one_if (j == c.args.k) =
    λ counted. value_waits x (standing old) old.values.items new.values c.args.k (λ j differ. put_elsewhere old.values.items c.args.k j (Some c.args.z) differ) (ap is_some c.requires.empty) (ap (λ o. is_some (value_of o)) (put_there old.values.items c.args.k (Some c.args.z) c.requires.value)) c.args.taker (giver_operates x c.args.board.now.plan.facts c.args.k c.args.taker c.requires.after (c.requires.taker counted)) (c.requires.taker counted) in
    less_some x old c.args.k new c.args.taker change c.requires.ahead

pub wait_less-requires-clause-right : goal.wait_less-requires-clause-right
wait_less-requires-clause-right g c inside some free =
    let x = operation_net_on c.args.board.now in
    let old = c.args.self.now in
    let new : OperationTokens = value_put (standing old) c.args.k (Some c.args.z) in
    let change : old.counted ≡ true → (j : ℕ) → j < node_total x → waits x new j + one_if (j == c.args.taker) ≡ waits x (standing old) j + one_if (j == c.args.k) =
    λ counted. value_waits x (standing old) old.values.items new.values c.args.k (λ j differ. put_elsewhere old.values.items c.args.k j (Some c.args.z) differ) (ap is_some c.requires.empty) (ap (λ o. is_some (value_of o)) (put_there old.values.items c.args.k (Some c.args.z) c.requires.value)) c.args.taker (giver_operates x c.args.board.now.plan.facts c.args.k c.args.taker c.requires.after (c.requires.taker counted)) (c.requires.taker counted) in
    less_right x old c.args.k new c.args.taker change c.requires.ahead inside free

pub wait_less-requires-clause-marks : goal.wait_less-requires-clause-marks
wait_less-requires-clause-marks g c =
    let x = operation_net_on c.args.board.now in
    let old = c.args.self.now in
    let new : OperationTokens = value_put (standing old) c.args.k (Some c.args.z) in
    let change : old.counted ≡ true → (j : ℕ) → j < node_total x → waits x new j + one_if (j == c.args.taker) ≡ waits x (standing old) j + one_if (j == c.args.k) =
    λ counted. value_waits x (standing old) old.values.items new.values c.args.k (λ j differ. put_elsewhere old.values.items c.args.k j (Some c.args.z) differ) (ap is_some c.requires.empty) (ap (λ o. is_some (value_of o)) (put_there old.values.items c.args.k (Some c.args.z) c.requires.value)) c.args.taker (giver_operates x c.args.board.now.plan.facts c.args.k c.args.taker c.requires.after (c.requires.taker counted)) (c.requires.taker counted) in
    less_marks x old c.args.k new c.args.taker change c.requires.ahead

pub returns-clause-counted : goal.returns-clause-counted
returns-clause-counted g c =
    let x = operation_net_on c.args.board.now in
    let old = c.args.self.now in
    let new : OperationTokens = value_put (standing old) c.args.k (Some c.args.z) in
    let change : old.counted ≡ true → (j : ℕ) → j < node_total x → waits x new j + one_if (j == c.args.taker) ≡ waits x (standing old) j + one_if (j == c.args.k) =
    λ counted. value_waits x (standing old) old.values.items new.values c.args.k (λ j differ. put_elsewhere old.values.items c.args.k j (Some c.args.z) differ) (ap is_some c.requires.empty) (ap (λ o. is_some (value_of o)) (put_there old.values.items c.args.k (Some c.args.z) c.requires.value)) c.args.taker (giver_operates x c.args.board.now.plan.facts c.args.k c.args.taker c.requires.after (c.requires.taker counted)) (c.requires.taker counted) in
    let fits : SFits w32 c.args.z = search rules in
    ahead_after x old c.args.k new c.args.taker change c.wait_less.new.self c.wait_less.ensures.kept.counted c.wait_less.ensures.kept.apart (c.wait_less.ensures.standing ∙ ap (λ v. value_put (standing old) c.args.k (Some v)) (to_z-of_z w32 c.args.z fits)) c.wait_less.ensures.none c.wait_less.ensures.counts c.wait_less.ensures.leads

pub returns-clause-kept : goal.returns-clause-kept
returns-clause-kept g c =
    let less = c.wait_less.ensures.kept in
    record { counted = less.counted; marks = less.marks; room = less.room; apart = less.apart; flags = less.flags }
