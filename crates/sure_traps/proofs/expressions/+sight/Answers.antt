use Rattle.std.proofs.Common.{◌≡◌, ℕ, ◌<◌, ◌∷◌, [], ◌++◌, ℤ, List, length, take, Option, All, rules, refl, sym, ap, subst, ◌∙◌, arith}
use Rattle.std.proofs.lemmas.List.{take_more_set}
use Rattle.std.specs.Prelude.{slice_get}
use Rattle.std.specs.Option.{option_or}
use Rattle.f77_tree.specs.declared.declarations.Dim.{Dim}
use Rattle.f77_tree.specs.declared.expressions.Expr.{Expr}
use Rattle.f77_tree.specs.Value.{IsExpression, dims_in, dims_of}
use Rattle.f77_tree.proofs.ForesightLemmas.{known-more, operator-known}
use Rattle.sure_traps.specs.Causes.{subscript_cause}
use Rattle.sure_traps.proofs.Rows.{cause-Read, cause-more, operator-caused, subs-found, subs-passed, subs_cause}
use Rattle.sure_traps.proofs.expressions.+sight.Goals as goal

pub access_cause-loop-sub-init : goal.access_cause-loop-sub-init
access_cause-loop-sub-init t c =
    let names = c.args.names.now in
    let access = c.args.access.now in
    let dims : dims_of names access.name ≡ c.as_slice-dims.result.now = ap dims_in c.at.ensures.item ∙ sym c.as_slice-dims.ensures.items in
    let subs = c.as_slice-sub-items.ensures.items in
    record {
      counted = refl;
      as_many = ap length subs ∙ c.requires.as_many ∙ ap length dims;
      expressions = subst (λ (es : List Expr). All (IsExpression names) es) (sym subs) c.requires.subscripts;
      rest = cause-Read names access ∙ ap (λ (ds : List Dim). subs_cause names ds access.subs) dims ∙ ap (subs_cause names c.as_slice-dims.result.now) (sym subs);
    }

pub access_cause-returns-then-is_some : goal.access_cause-returns-then-is_some
access_cause-returns-then-is_some t c =
    let kept = c.loop-sub.invariant in
    let names = c.args.names.now in
    let dims = c.as_slice-dims.result.now in
    let subs = c.as_slice-sub-items.result.now in
    let i = c.loop-sub.sub-index in
    let e = c.sub-item.result in
    let r = c.subscript_cause-cause.result in
    let in_subs : i < length subs = c.loop-sub-test.true in
    let in_dims : i < length dims = omega (arith, in_subs, kept.as_many) in
    let is : r ≡ subscript_cause names (slice_get dims i) e = c.subscript_cause-cause.ensures ∙ ap (λ (n : ℕ). subscript_cause names (slice_get dims n) e) kept.counted in
    sym (kept.rest ∙ subs-found names dims subs i e in_subs in_dims c.sub-item.is r is (sym c.is_some.ensures ∙ c.if-is_some.true))

pub access_cause-loop-sub-preserved : goal.access_cause-loop-sub-preserved
access_cause-loop-sub-preserved t c =
    let kept = c.loop-sub.invariant in
    let names = c.args.names.now in
    let dims = c.as_slice-dims.result.now in
    let subs = c.as_slice-sub-items.result.now in
    let i = c.loop-sub.sub-index in
    let e = c.sub-item.result in
    let r = c.subscript_cause-cause.result in
    let in_subs : i < length subs = c.loop-sub-test.true in
    let in_dims : i < length dims = omega (arith, in_subs, kept.as_many) in
    let is : r ≡ subscript_cause names (slice_get dims i) e = c.subscript_cause-cause.ensures ∙ ap (λ (n : ℕ). subscript_cause names (slice_get dims n) e) kept.counted in
    record {
      counted = omega (arith, kept.counted);
      as_many = kept.as_many;
      expressions = kept.expressions;
      rest = kept.rest ∙ subs-passed names dims subs i e in_subs in_dims c.sub-item.is r is (sym c.is_some.ensures ∙ c.if-is_some.false);
    }

pub see-loop-arg-preserved : goal.see-loop-arg-preserved
see-loop-arg-preserved t c =
    let names = c.args.names.now in
    let kept = c.loop-arg.invariant in
    let items = c.as_slice-arg-items.result.now in
    let i = c.loop-arg.arg-index in
    let k = c.loop-arg.count in
    let operands = c.loop-arg.operands in
    let z = c.see-operand.result.value in
    let test = c.loop-arg-test.true in
    let counted = kept.counted in
    let room : k < length operands = omega (arith, kept.room, kept.few, counted, test) in
    record {
      counted = omega (arith, counted);
      as_many = kept.as_many;
      few = kept.few;
      room = search rules;
      expressions = kept.expressions;
      values = take_more_set operands k z room ∙ ap (λ (x : Option ℤ). take k operands ++ x ∷ []) c.see-operand.ensures.value ∙ known-more items i c.arg-item.result (take k operands) test c.arg-item.is kept.values;
      causes = c.or-cause.ensures ∙ ap (option_or c.loop-arg.cause) c.see-operand.ensures.cause ∙ cause-more names items i c.arg-item.result c.loop-arg.cause test c.arg-item.is kept.causes;
    }

pub see-returns-after-loop-arg-clause-value : goal.see-returns-after-loop-arg-clause-value
see-returns-after-loop-arg-clause-value t c =
    operator-known c.args.e.now c.in-Apply.op c.in-Apply.args c.as_slice-arg-items.result.now c.loop-arg.arg-index (take c.loop-arg.count c.loop-arg.operands) c.fold.result c.in-Apply.is c.as_slice-arg-items.ensures.items c.loop-arg-test.false c.loop-arg.invariant.values c.fold.ensures

pub see-returns-after-loop-arg-clause-cause : goal.see-returns-after-loop-arg-clause-cause
see-returns-after-loop-arg-clause-cause t c =
    c.or.ensures
    ∙ operator-caused c.args.names.now c.args.e.now c.in-Apply.op c.in-Apply.args c.as_slice-arg-items.result.now c.loop-arg.arg-index (take c.loop-arg.count c.loop-arg.operands) c.loop-arg.cause c.operator_cause.result c.in-Apply.is c.as_slice-arg-items.ensures.items c.loop-arg-test.false c.loop-arg.invariant.values c.loop-arg.invariant.causes c.operator_cause.ensures
