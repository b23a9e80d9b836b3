use Rattle.std.proofs.Common.{◌≡◌, ℕ, Bool, length, subst, arith}
use Rattle.class_set.specs.ClassSet.{holds}
use Rattle.operation_tables.specs.PlannedPieces.{AreNeedsOf}
use Rattle.operation_tables.proofs.GrownLists.{item_at}
use Rattle.operation_tables.proofs.PlanLemmas.{needs_done, next_needs, same_touches}
use Rattle.operation_tables.proofs.plan.all_needs.Goals as goal

pub loop-operation-preserved : goal.loop-operation-preserved
loop-operation-preserved g c =
    let operations = c.args.operations.now.items in
    let at = item_at operations c.deref-operation-items.result.now c.loop-operation.operation-index c.operation-item.result c.deref-operation-items.ensures.value (omega arith) c.operation-item.is in
    next_needs c.args.c.now (holds c.at-touched.result.now) operations c.loop-operation.operation-index c.loop-operation.needs c.push.new.self c.operation-item.result c.operation_needs.result c.loop-operation.invariant at c.operation_needs.ensures c.in_ok-push.ensures.count c.in_ok-push.ensures.last c.in_ok-push.ensures.others

pub returns : goal.returns
returns g c =
    let operations = c.args.operations.now.items in
    let all : c.loop-operation.operation-index ≡ length operations = omega arith in
    subst (λ (t : ℕ → Bool). AreNeedsOf c.args.c.now t operations c.loop-operation.needs) (same_touches c.args.board.now.plan.touch.now c.args.piece c.at-touched.result.now c.at-touched.ensures.item)
    (needs_done c.args.c.now (holds c.at-touched.result.now) operations c.loop-operation.operation-index c.loop-operation.needs c.loop-operation.invariant all)
