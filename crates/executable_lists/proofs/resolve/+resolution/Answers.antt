use Rattle.std.proofs.Common.{rules, ◌≡◌, [], List, take, map, fold, false, Some, option_map, sym, ap, subst, ◌∙◌}
use Rattle.std.specs.Prelude.{IfOk}
use Rattle.std.proofs.lemmas.List.{take_all}
use Rattle.op_table.specs.declared.Op.{Op}
use Rattle.f77_tree.specs.declared.expressions.Expr.{Expr}
use Rattle.f77_tree.specs.declared.expressions.Expr.TheVariants.{Apply}
use Rattle.f77_tree.specs.declared.statements.RawExpr.{RawExpr}
use Rattle.declared_names.specs.Functions.{operator_of, intrinsic_named}
use Rattle.executable_lists.specs.Nested.{with_operand}
use Rattle.layout_rules.specs.Resolved.{in_dialect, nested, resolved}
use Rattle.layout_rules.specs.Types.{is_array_in}
use Rattle.executable_lists.proofs.ResolvedRows.{resolved-Call, resolved-Apply, nested-fold, resolved_call-intrinsic}
use Rattle.executable_lists.proofs.resolve.+resolution.Goals as goal

pub resolve-returns-in-Call : goal.resolve-returns-in-Call
resolve-returns-in-Call t c =
    let names = c.args.names.now in
    let checked = c.args.checked in
    subst (λ (e : Expr). IfOk c.resolve_call.result (λ x. x ≡ e)) (sym (resolved-Call names checked c.in-Call.name c.in-Call.args) ∙ ap (resolved names checked) (sym c.in-Call.is)) c.resolve_call.ensures

pub resolve-returns-in_ok-operands-in-Apply : goal.resolve-returns-in_ok-operands-in-Apply
resolve-returns-in_ok-operands-in-Apply t c =
    let names = c.args.names.now in
    let checked = c.args.checked in
    let op = c.in-Apply.op in
    let args = c.in-Apply.args in
    let operands : c.in_ok-operands-in-Apply.operands ≡ map (resolved names checked) args = search rules in
    ap (λ (o : Op). Apply o c.in_ok-operands-in-Apply.operands) c.in_dialect.ensures ∙ ap (λ (es : List Expr). Apply (in_dialect checked op) es) operands ∙ sym (resolved-Apply names checked op args) ∙ ap (resolved names checked) (sym c.in-Apply.is)

pub resolve_call-returns-in-Some : goal.resolve_call-returns-in-Some
resolve_call-returns-in-Some t c =
    let names = c.args.names.now in
    let checked = c.args.checked in
    let args = map (resolved names checked) c.args.args.now in
    let scalar : is_array_in names c.args.name.now ≡ false = search rules in
    let op = operator_of c.in-Some.function in
    let is : Some op ≡ option_map (λ f. f.op) (intrinsic_named c.args.name.now) = search rules in
    let op_is : c.in_dialect-op.result ≡ in_dialect checked op = search rules in
    subst (λ (e : Expr). IfOk c.resolve_nested.result (λ x. x ≡ e)) (ap (λ (o : Op). nested o args) op_is ∙ sym (resolved_call-intrinsic names checked c.args.name.now args op scalar is)) c.resolve_nested.ensures

pub resolve_nested-returns : goal.resolve_nested-returns
resolve_nested-returns t c =
    let names = c.args.names.now in
    let checked = c.args.checked in
    let op = c.args.op in
    let all : take c.loop-arg.arg-index c.as_slice-arg-items.result.now ≡ c.args.args.now = take_all _ _ c.loop-arg-test.false ∙ c.as_slice-arg-items.ensures.items in
    ap (λ (es : List Expr). Apply op es) (c.loop-arg.invariant ∙ ap (λ (es : List RawExpr). fold (with_operand op) [] (map (resolved names checked) es)) all) ∙ sym (nested-fold op (map (resolved names checked) c.args.args.now))
