use Rattle.std.proofs.Common.{rules, arith, ◌&&◌, not, true, Some, option_map, length, ◌≤◌, ◌≡◌, [], List, take, map, fold, sym, ap, subst, ◌∙◌}
use Rattle.std.specs.Prelude.{IfOk}
use Rattle.declared_names.specs.Functions.{intrinsic_named}
use Rattle.std.proofs.lemmas.List.{take_all}
use Rattle.f77_tree.specs.declared.statements.RawExpr.{RawExpr}
use Rattle.f77_tree.specs.declared.statements.RawExpr.TheVariants.{Apply}
use Rattle.program_units.specs.Copies.{changed}
use Rattle.inlined_copies.specs.Changes.{changes_of, with_operand}
use Rattle.inlined_copies.proofs.ChangedRows.{map-few, changed-Call, changed-Apply, pairs-fold, changed_call-pairs, mapped-more, folded-more}
use Rattle.inlined_copies.proofs.changed.+changing.Goals as goal

pub changed-returns-in-Call : goal.changed-returns-in-Call
changed-returns-in-Call t c =
    let change = changes_of c.args.c.now in
    subst (λ (e : RawExpr). IfOk c.changed_call.result (λ x. x ≡ e)) (sym (changed-Call change c.in-Call.name c.in-Call.args) ∙ ap (changed change) (sym c.in-Call.is)) c.changed_call.ensures

pub changed-returns-in_ok-operands-in-Apply : goal.changed-returns-in_ok-operands-in-Apply
changed-returns-in_ok-operands-in-Apply t c =
    let change = changes_of c.args.c.now in
    let op = c.in-Apply.op in
    let args = c.in-Apply.args in
    let operands : c.in_ok-operands-in-Apply.operands ≡ map (changed change) args = search rules in
    ap (λ (es : List RawExpr). Apply op es) operands ∙ sym (changed-Apply change op args) ∙ ap (changed change) (sym c.in-Apply.is)

pub changed_pairs-returns : goal.changed_pairs-returns
changed_pairs-returns t c =
    let change = changes_of c.args.c.now in
    let op = c.args.op in
    let all : take c.loop-arg.arg-index c.as_slice-arg-items.result.now ≡ c.args.args.now = take_all _ _ c.loop-arg-test.false ∙ c.as_slice-arg-items.ensures.items in
    ap (λ (es : List RawExpr). Apply op es) (c.loop-arg.invariant ∙ ap (λ (es : List RawExpr). fold (with_operand op) [] (map (changed change) es)) all) ∙ sym (pairs-fold op (map (changed change) c.args.args.now))

pub changed_call-returns-in-Some : goal.changed_call-returns-in-Some
changed_call-returns-in-Some t c =
    let change = changes_of c.args.c.now in
    let args = map (changed change) c.args.args.now in
    let free : (change.copied && not (change.arrays c.args.name.now)) ≡ true = search rules in
    let is : Some c.in-Some.op ≡ option_map (λ f. f.op) (intrinsic_named c.args.name.now) = search rules in
    subst (λ (e : RawExpr). IfOk c.changed_pairs.result (λ x. x ≡ e)) (sym (changed_call-pairs change c.args.name.now args c.in-Some.op free is)) c.changed_pairs.ensures

pub changed_row-push-requires : goal.changed_row-push-requires
changed_row-push-requires t c =
    let few : length c.loop-arg.row ≤ c.loop-arg.arg-index = subst (λ (row : List RawExpr). length row ≤ c.loop-arg.arg-index) (sym c.loop-arg.invariant) (map-few (changed (changes_of c.args.c.now)) c.as_slice-arg-items.result.now c.loop-arg.arg-index) in
    let room = c.as_slice-arg-items.ensures.len in
    omega (arith, few, room)

pub changed_row-loop-arg-preserved : goal.changed_row-loop-arg-preserved
changed_row-loop-arg-preserved t c =
    c.in_ok-push.ensures.ok
    ∙ mapped-more (changed (changes_of c.args.c.now)) c.as_slice-arg-items.result.now c.loop-arg.arg-index c.arg-item.result c.loop-arg.row c.in_ok-changed.field-0 c.loop-arg-test.true c.arg-item.is c.loop-arg.invariant c.in_ok-changed.ensures

pub changed_pairs-loop-arg-preserved : goal.changed_pairs-loop-arg-preserved
changed_pairs-loop-arg-preserved t c =
    c.in_ok-operands.ensures
    ∙ folded-more (changed (changes_of c.args.c.now)) c.args.op c.as_slice-arg-items.result.now c.loop-arg.arg-index c.arg-item.result c.loop-arg.operands c.in_ok-operand.operand c.loop-arg-test.true c.arg-item.is c.loop-arg.invariant c.in_ok-operand.ensures
