use Rattle.std.proofs.Common.{◌≡◌, ◌<◌, ℤ, List, [], ◌∷◌, ◌++◌, length, take, Option, All, rules, refl, sym, ap, subst, ◌∙◌, arith}
use Rattle.std.proofs.lemmas.List.{take_more_set}
use Rattle.f77_tree.specs.declared.declarations.Dim.{Dim}
use Rattle.f77_tree.specs.declared.expressions.Expr.{Expr}
use Rattle.f77_tree.specs.Known.{MayTrapBut}
use Rattle.f77_tree.specs.Value.{IsExpression, dims_in, dims_of}
use Rattle.f77_tree.proofs.ForesightLemmas.{known-more, one-more, operator-known}
use Rattle.range_lines.specs.RangeRisks.{IsMarked}
use Rattle.range_lines.proofs.RiskTraps.{ListMayTrap, access-traps, operator-may-trap, operator-can}
use Rattle.range_lines.proofs.risks.+risk.Goals as goal

pub access_risk-loop-sub-init : goal.access_risk-loop-sub-init
access_risk-loop-sub-init t c =
    let names = c.args.names.now in
    let access = c.args.access.now in
    let dims : dims_of names access.name ≡ c.as_slice-dims.result.now = ap dims_in c.at.ensures.item ∙ sym c.as_slice-dims.ensures.items in
    let subs = c.as_slice-sub-items.ensures.items in
    let P = λ (ds : List Dim) (es : List Expr). ListMayTrap (IsMarked c.args.current.now c.args.k) names ds es in
    let all = access-traps (IsMarked c.args.current.now c.args.k) names access in
    record {
      counted = refl;
      as_many = ap length subs ∙ c.requires.as_many ∙ ap length dims;
      expressions = subst (λ (es : List Expr). All (IsExpression names) es) (sym subs) c.requires.subscripts;
      rest = (
        λ may. subst (λ (es : List Expr). P c.as_slice-dims.result.now es) (sym subs) (subst (λ (ds : List Dim). P ds access.subs) dims (all.0 may)),
        λ may. all.1 (subst (λ (ds : List Dim). P ds access.subs) (sym dims) (subst (λ (es : List Expr). P c.as_slice-dims.result.now es) subs may)),
      );
    }

pub foresee-loop-arg-preserved : goal.foresee-loop-arg-preserved
foresee-loop-arg-preserved t c =
    let names = c.args.names.now in
    let kept = c.loop-arg.invariant in
    let items = c.as_slice-arg-items.result.now in
    let i = c.loop-arg.arg-index in
    let k = c.loop-arg.count in
    let operands = c.loop-arg.operands in
    let z = c.foresee-operand.result.value in
    let test = c.loop-arg-test.true in
    let counted = kept.counted in
    let room : k < length operands = omega (arith, kept.room, kept.few, counted, test) in
    record {
      counted = omega (arith, counted);
      as_many = kept.as_many;
      few = kept.few;
      room = search rules;
      expressions = kept.expressions;
      values = take_more_set operands k z room ∙ ap (λ (x : Option ℤ). take k operands ++ x ∷ []) c.foresee-operand.ensures.value ∙ known-more items i c.arg-item.result (take k operands) test c.arg-item.is kept.values;
      risks = one-more (MayTrapBut (IsMarked c.args.current.now c.args.k) names) items i c.arg-item.result c.loop-arg.risk c.foresee-operand.result.may_trap test c.arg-item.is kept.risks c.foresee-operand.ensures.trap;
    }

pub foresee-returns-then-risk-clause-value : goal.foresee-returns-then-risk-clause-value
foresee-returns-then-risk-clause-value t c =
    operator-known c.args.e.now c.in-Apply.op c.in-Apply.args c.as_slice-arg-items.result.now c.loop-arg.arg-index (take c.loop-arg.count c.loop-arg.operands) c.fold.result c.in-Apply.is c.as_slice-arg-items.ensures.items c.loop-arg-test.false c.loop-arg.invariant.values c.fold.ensures

pub foresee-returns-then-risk-clause-trap : goal.foresee-returns-then-risk-clause-trap
foresee-returns-then-risk-clause-trap t c =
    operator-can (IsMarked c.args.current.now c.args.k) c.args.names.now c.args.e.now c.in-Apply.op c.in-Apply.args c.as_slice-arg-items.result.now c.loop-arg.arg-index c.loop-arg.risk c.in-Apply.is c.as_slice-arg-items.ensures.items c.loop-arg-test.false c.loop-arg.invariant.risks c.if-risk.true

pub foresee-returns-else-risk-clause-value : goal.foresee-returns-else-risk-clause-value
foresee-returns-else-risk-clause-value t c =
    operator-known c.args.e.now c.in-Apply.op c.in-Apply.args c.as_slice-arg-items.result.now c.loop-arg.arg-index (take c.loop-arg.count c.loop-arg.operands) c.fold.result c.in-Apply.is c.as_slice-arg-items.ensures.items c.loop-arg-test.false c.loop-arg.invariant.values c.fold.ensures

pub foresee-returns-else-risk-clause-trap : goal.foresee-returns-else-risk-clause-trap
foresee-returns-else-risk-clause-trap t c =
    operator-may-trap (IsMarked c.args.current.now c.args.k) c.args.names.now c.args.e.now c.in-Apply.op c.in-Apply.args c.as_slice-arg-items.result.now c.loop-arg.arg-index (take c.loop-arg.count c.loop-arg.operands) c.loop-arg.risk c.may_trap.result c.in-Apply.is c.as_slice-arg-items.ensures.items c.loop-arg-test.false c.loop-arg.invariant.values c.loop-arg.invariant.risks c.if-risk.false c.may_trap.ensures
