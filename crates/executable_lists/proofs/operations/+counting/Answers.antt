use Rattle.std.proofs.Common.{rules, ◌≡◌, ◌+◌, ◌-◌, ◌*◌, max, true, false, ℕ, List, length, map, Option, Some, None, option_map, refl, sym, ap, ◌∙◌, arith}
use Rattle.std.proofs.lemmas.List.{length-map}
use Rattle.std.specs.Prelude.{sum_by}
use Rattle.std.specs.Option.{is_some}
use Rattle.op_table.specs.declared.Op.{Op}
use Rattle.f77_tree.specs.declared.expressions.Expr.{Expr}
use Rattle.f77_tree.specs.declared.statements.RawExpr.{RawExpr}
use Rattle.f77_tree.specs.Operations.{operations}
use Rattle.f77_tree.specs.Declarations.{index_of}
use Rattle.f77_tree.proofs.OperationLaws.{operations-Apply}
use Rattle.declared_names.specs.declared.intrinsics.Function.{Function}
use Rattle.control_structure.specs.Counted.{counted}
use Rattle.declared_names.specs.Functions.{intrinsic_named, operator_of}
use Rattle.layout_rules.specs.Resolved.{in_dialect, resolved}
use Rattle.layout_rules.specs.Types.{is_array_in}
use Rattle.executable_lists.proofs.CountedOperations.{operations-element, operations-function, operations-scalar, counted-sum, counted-small}
use Rattle.executable_lists.proofs.ResolvedRows.{resolved-Call, resolved-Apply}
use Rattle.executable_lists.proofs.operations.+counting.Goals as goal

-- a function that has a name has an operator
named_is : (op : Option Op) (f : Option Function) → option_map operator_of f ≡ op → is_some f ≡ true → is_some op ≡ true
named_is op None is some = absurd cc
named_is op (Some f) is some = ap is_some (sym is)

pub operations_of-returns-in-Named : goal.operations_of-returns-in-Named
operations_of-returns-in-Named t c checked =
    let names = c.args.names.now in
    sym (ap counted (ap (λ (e : RawExpr). operations (resolved names checked e)) c.in-Named.is ∙ operations-scalar (index_of names c.in-Named.field-0)))

pub operations_of-returns-in-Call : goal.operations_of-returns-in-Call
operations_of-returns-in-Call t c checked =
    let names = c.args.names.now in
    c.count_in_call.ensures checked ∙ ap (λ (e : Expr). counted (operations e)) (sym (resolved-Call names checked c.in-Call.name c.in-Call.args) ∙ ap (resolved names checked) (sym c.in-Call.is))

pub operations_of-returns-in-Apply : goal.operations_of-returns-in-Apply
operations_of-returns-in-Apply t c checked =
    let names = c.args.names.now in
    let op = c.in-Apply.field-0 in
    let args = map (resolved names checked) c.in-Apply.args in
    let whole : operations (resolved names checked c.args.e.now) ≡ 1 + sum_by operations args = ap (λ (e : RawExpr). operations (resolved names checked e)) c.in-Apply.is ∙ ap operations (resolved-Apply names checked op c.in-Apply.args) ∙ operations-Apply (in_dialect checked op) args in
    counted-sum c.saturating_add.result c.count_in_row.result 1 (sum_by operations args) 1 _ c.saturating_add.ensures (c.count_in_row.ensures checked) refl (omega (arith, whole))

pub count_in_call-returns-then-is_array : goal.count_in_call-returns-then-is_array
count_in_call-returns-then-is_array t c checked =
    let names = c.args.names.now in
    let name = c.args.name.now in
    let args = map (resolved names checked) c.args.args.now in
    let array : is_array_in names name ≡ true = search rules in
    let steps = length-map c.args.args.now (resolved names checked) in
    let extra : c.access_steps.result ≡ counted (1 + 2 * length args) = c.access_steps.ensures ∙ ap (λ n. counted (1 + 2 * n)) (c.len.ensures ∙ sym steps) in
    counted-sum c.saturating_add.result c.count_in_row.result c.access_steps.result (sum_by operations args) (1 + 2 * length args) _ c.saturating_add.ensures (c.count_in_row.ensures checked) extra (operations-element names checked name args array)

pub count_in_call-returns : goal.count_in_call-returns
count_in_call-returns t c checked =
    let names = c.args.names.now in
    let name = c.args.name.now in
    let args = map (resolved names checked) c.args.args.now in
    let scalar : is_array_in names name ≡ false = search rules in
    let some : is_some (option_map (λ f. f.op) (intrinsic_named name)) ≡ true = named_is (option_map (λ f. f.op) (intrinsic_named name)) c.named.result (c.named.ensures.operator ∙ ap (λ (n : List ℕ). option_map (λ f. f.op) (intrinsic_named n)) c.as_bytes.ensures) (search rules) in
    let steps = length-map c.args.args.now (resolved names checked) in
    let extra : c.applications.result ≡ counted (max 1 (length args - 1)) = counted-small c.applications.result c.applications.type_inv ∙ ap counted (c.applications.ensures ∙ ap (λ n. max 1 (n - 1)) (c.len-2.ensures ∙ sym steps)) in
    counted-sum c.saturating_add-2.result c.count_in_row-2.result c.applications.result (sum_by operations args) (max 1 (length args - 1)) _ c.saturating_add-2.ensures (c.count_in_row-2.ensures checked) extra (operations-function names checked name args scalar some)
