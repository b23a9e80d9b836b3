use Rattle.std.proofs.Common.{rules, ◌≡◌, sym, ap, ◌∙◌, length, false, true, Bool, if◌then◌else◌, Some, None}
use Rattle.std.specs.List.{list_all}
use Rattle.f77_tree.specs.declared.declarations.Kind.{Kind}
use Rattle.f77_tree.specs.declared.declarations.Kind.TheVariants.{Integer}
use Rattle.f77_tree.specs.Kinds.{operand_kind}
use Rattle.f77_tree.specs.Line.{kind_of_op}
use Rattle.layout_rules.specs.Types.{kind_in, is_of_kind, kind_of_call}
use Rattle.layout_rules.proofs.RawRows.{kind_in-Call, kind_in-Apply}
use Rattle.declared_names.proofs.kinds.+kinds.Goals as goal

pub kind_of-returns-then-not-are_of_kind : goal.kind_of-returns-then-not-are_of_kind
kind_of-returns-then-not-are_of_kind t c =
    let names = c.args.names.now in
    let name = c.in-Call.name in
    let args = c.in-Call.args in
    let tested : list_all (is_of_kind names Integer) args ≡ false = search rules in
    ap (λ (b : Bool). if b then kind_of_call names name (length args) else None) (sym tested) ∙ sym (kind_in-Call names name args) ∙ ap (kind_in names) (sym c.in-Call.is)

pub kind_of-returns-then-not-are_of_kind-2 : goal.kind_of-returns-then-not-are_of_kind-2
kind_of-returns-then-not-are_of_kind-2 t c =
    let names = c.args.names.now in
    let op = c.in-Apply.op in
    let args = c.in-Apply.args in
    let tested : list_all (is_of_kind names (operand_kind op)) args ≡ false = ap (λ (k : Kind). list_all (is_of_kind names k) args) (sym c.operand_kind.ensures) ∙ sym c.are_of_kind-in-Apply.ensures ∙ c.if-not-are_of_kind-2.true in
    ap (λ (b : Bool). if b then Some (kind_of_op op) else None) (sym tested) ∙ sym (kind_in-Apply names op args) ∙ ap (kind_in names) (sym c.in-Apply.is)

pub kind_of-returns-else-not-are_of_kind : goal.kind_of-returns-else-not-are_of_kind
kind_of-returns-else-not-are_of_kind t c =
    let names = c.args.names.now in
    let name = c.in-Call.name in
    let args = c.in-Call.args in
    let tested : list_all (is_of_kind names Integer) args ≡ true = search rules in
    let is : c.call_kind.result ≡ kind_of_call names name (length args) = search rules in
    is ∙ ap (λ (b : Bool). if b then kind_of_call names name (length args) else None) (sym tested) ∙ sym (kind_in-Call names name args) ∙ ap (kind_in names) (sym c.in-Call.is)

pub kind_of-returns-else-not-are_of_kind-2 : goal.kind_of-returns-else-not-are_of_kind-2
kind_of-returns-else-not-are_of_kind-2 t c =
    let names = c.args.names.now in
    let op = c.in-Apply.op in
    let args = c.in-Apply.args in
    let tested : list_all (is_of_kind names (operand_kind op)) args ≡ true = ap (λ (k : Kind). list_all (is_of_kind names k) args) (sym c.operand_kind.ensures) ∙ sym c.are_of_kind-in-Apply.ensures ∙ c.if-not-are_of_kind-2.false in
    ap Some c.kind_of_operator.ensures ∙ ap (λ (b : Bool). if b then Some (kind_of_op op) else None) (sym tested) ∙ sym (kind_in-Apply names op args) ∙ ap (kind_in names) (sym c.in-Apply.is)
