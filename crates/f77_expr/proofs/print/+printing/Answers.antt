use Rattle.std.proofs.Common.{rules, ◌≡◌, ◌<◌, [], ◌∷◌, ◌++◌, length, map, take, Err, arith, ap, sym, subst, ◌∙◌, append_assoc}
use Rattle.std.specs.Prelude.{codes}
use Rattle.std.proofs.lemmas.Result.{on_ok_weaker}
use Rattle.f77_tree.specs.declared.expressions.Expr.{Apply}
use Rattle.f77_tree.specs.Grammar.{spelling, spellings}
use Rattle.f77_tree.specs.Kinds.{IsProper}
use Rattle.f77_tree.proofs.ExpressionLemmas.{All-at, weight, weight-Read, weight-Apply, weight-at}
use Rattle.f77_expr.specs.Appending.{Appended, arguments_text, listed_in, operator_of}
use Rattle.f77_expr.specs.Constants.{HasConstants}
use Rattle.f77_expr.specs.Operands.{operator_at, access_at}
use Rattle.f77_expr.specs.Printing.{Printed, printed}
use Rattle.f77_expr.proofs.Appends.{appended_is, appended_three, appended_part, begins_appended, begins_further, two_items}
use Rattle.f77_expr.proofs.PrintedItems.{printed-Apply, printed-Read, Apply-HasConstants, Read-HasConstants, operands_of, subscripts_of}
use Rattle.f77_expr.proofs.PrintedTexts.{enclosed-zero, spellings-listed_two, arity-extreme, arguments_next, all_next}
use Rattle.f77_expr.proofs.print.+printing.Goals as goal

-- ---- print_open

pub print_open-print_element-requires : goal.print_open-print_element-requires
print_open-print_element-requires t c =
    let names = c.args.names.now in
    let access = c.in-Read.access in
    (let w = weight-Read access in let i = ap weight c.in-Read.is in let d = c.decreases in omega (arith, d, i, w), subscripts_of names access (subst (IsProper names) c.in-Read.is c.requires))

pub print_open-print_operator-requires : goal.print_open-print_operator-requires
print_open-print_operator-requires t c =
    let names = c.args.names.now in
    (let w = weight-Apply c.in-Apply.op c.in-Apply.args in let i = ap weight c.in-Apply.is in let d = c.decreases in omega (arith, d, i, w), operands_of names c.in-Apply.op c.in-Apply.args (subst (IsProper names) c.in-Apply.is c.requires))

pub print_open-returns-in-Read-clause-text : goal.print_open-returns-in-Read-clause-text
print_open-returns-in-Read-clause-text t c =
    let names = c.args.names.now in
    let same : access_at names c.in-Read.access ≡ printed names c.args.e.now = sym (printed-Read names c.in-Read.access) ∙ ap (printed names) (sym c.in-Read.is) in
    appended_is _ _ _ _ c.print_element.result (ap (λ (p : Printed). spelling p.alone) same) c.print_element.ensures.text

pub print_open-returns-in-Read-clause-constants : goal.print_open-returns-in-Read-clause-constants
print_open-returns-in-Read-clause-constants t c =
    on_ok_weaker c.print_element.result (λ all. subst HasConstants (sym c.in-Read.is) (Read-HasConstants c.in-Read.access all)) c.print_element.ensures.constants

pub print_open-returns-in-Apply-clause-text : goal.print_open-returns-in-Apply-clause-text
print_open-returns-in-Apply-clause-text t c =
    let names = c.args.names.now in
    let same : operator_at names c.in-Apply.op c.in-Apply.args ≡ printed names c.args.e.now = sym (printed-Apply names c.in-Apply.op c.in-Apply.args) ∙ ap (printed names) (sym c.in-Apply.is) in
    appended_is _ _ _ _ c.print_operator.result (ap (λ (p : Printed). spelling p.alone) same) c.print_operator.ensures.text

pub print_open-returns-in-Apply-clause-constants : goal.print_open-returns-in-Apply-clause-constants
print_open-returns-in-Apply-clause-constants t c =
    on_ok_weaker c.print_operator.result (λ all. subst HasConstants (sym c.in-Apply.is) (Apply-HasConstants c.in-Apply.op c.in-Apply.args all)) c.print_operator.ensures.constants

-- ---- print_listed

pub print_listed-returns-clause-text : goal.print_listed-returns-clause-text
print_listed-returns-clause-text t c =
    let x = c.args.extreme in
    let f = printed c.args.names.now in
    let a = c.at.result.now in
    let b = c.at-2.result.now in
    let args : c.args.args.now ≡ a ∷ b ∷ [] = two_items c.args.args.now a b (c.requires.as_many ∙ arity-extreme x) c.at.ensures.item c.at-2.ensures.item in
    let whole = spellings-listed_two x (f a) (f b) ∙ ap (λ es. spellings (listed_in x (operator_at c.args.names.now (operator_of x) es))) (sym args) in
    let second : Appended c.append.new.out.items (spelling (f b).alone) c.print_at.new.out.items c.print_at.result = appended_is _ _ _ _ c.print_at.result (ap spelling (enclosed-zero (f b).alone)) c.print_at.ensures.text in
    appended_is _ _ _ _ c.print_at.result whole (appended_three c.args.out.now.items (spellings (listed_in x (f a))) c.print_first.new.out.items (codes ",") c.append.new.out.items (spelling (f b).alone) c.print_at.new.out.items c.print_at.result c.in_ok-print_first.ensures.text c.in_ok-append.ensures second)

-- ---- print_first

pub print_first-print_listed-requires : goal.print_first-print_listed-requires
print_first-print_listed-requires t c =
    let names = c.args.names.now in
    let op = operator_of c.args.extreme in
    let args = c.in-Some.args.now in
    let is : c.args.e.now ≡ Apply op args = c.in-Some.ensures in
    (let w = weight-Apply op args in let i = ap weight is in let d = c.decreases in omega (arith, d, i, w), operands_of names op args (subst (IsProper names) is c.requires))

pub print_first-returns-in-Some-clause-text : goal.print_first-returns-in-Some-clause-text
print_first-returns-in-Some-clause-text t c =
    let names = c.args.names.now in
    let op = operator_of c.args.extreme in
    let args = c.in-Some.args.now in
    let is : c.args.e.now ≡ Apply op args = c.in-Some.ensures in
    let same : operator_at names op args ≡ printed names c.args.e.now = sym (printed-Apply names op args) ∙ ap (printed names) (sym is) in
    appended_is _ _ _ _ c.print_listed.result (ap (λ (p : Printed). spellings (listed_in c.args.extreme p)) same) c.print_listed.ensures.text

pub print_first-returns-in-Some-clause-constants : goal.print_first-returns-in-Some-clause-constants
print_first-returns-in-Some-clause-constants t c =
    let op = operator_of c.args.extreme in
    let args = c.in-Some.args.now in
    let is : c.args.e.now ≡ Apply op args = c.in-Some.ensures in
    on_ok_weaker c.print_listed.result (λ all. subst HasConstants (sym is) (Apply-HasConstants op args all)) c.print_listed.ensures.constants

-- ---- print_arguments

pub print_arguments-returns-in_err-append-clause-text : goal.print_arguments-returns-in_err-append-clause-text
print_arguments-returns-in_err-append-clause-text t c =
    let is : c.from_residual-in_err-append.result ≡ Err c.in_err-append.field-0.0 = search rules in
    let begun = begins_appended c.args.out.now.items _ c.loop-k.out.items c.loop-k.invariant.text in
    appended_part c.args.out.now.items _ c.append.new.out.items c.from_residual-in_err-append.result c.in_err-append.field-0.0 is (begins_further c.args.out.now.items c.loop-k.out.items c.append.new.out.items begun c.in_err-append.ensures)

pub print_arguments-print_at-requires-in-loop-k : goal.print_arguments-print_at-requires-in-loop-k
print_arguments-print_at-requires-in-loop-k t c =
    let args = c.args.args.now in
    let e = c.at-in-loop-k.result.now in
    let lt : c.loop-k.k < length args = search rules in
    let at = weight-at args c.loop-k.k e lt c.at-in-loop-k.ensures.lookup in
    let d = c.decreases in
    (omega (arith, d, at), All-at (IsProper c.args.names.now) args c.loop-k.k e lt c.at-in-loop-k.ensures.lookup c.requires.proper)

pub print_arguments-loop-k-preserved : goal.print_arguments-loop-k-preserved
print_arguments-loop-k-preserved t c =
    let args = c.args.args.now in
    let f = printed c.args.names.now in
    let k = c.loop-k.k in
    let e = c.at-in-loop-k.result.now in
    let kept = c.loop-k.invariant in
    let lt : k < length args = search rules in
    let at = c.at-in-loop-k.ensures.lookup in
    let old = c.args.out.now.items in
    let second : c.print_at-in-loop-k.new.out.items ≡ c.append.new.out.items ++ spelling (f e).alone = c.in_ok-print_at-2.ensures.text ∙ ap (λ w. c.append.new.out.items ++ spelling w) (enclosed-zero (f e).alone) in
    let three = second ∙ ap (λ text. text ++ spelling (f e).alone) (c.in_ok-append.ensures ∙ ap (λ text. text ++ codes ",") kept.text) in
    let joined : ((old ++ arguments_text (map f (take k args))) ++ codes ",") ++ spelling (f e).alone ≡ old ++ (arguments_text (map f (take k args)) ++ codes "," ++ spelling (f e).alone) = simp append_assoc in
    record {
      some = omega (arith, kept.some);
      within = omega (arith, lt);
      text = three ∙ joined ∙ ap (λ text. old ++ text) (sym (arguments_next f args k e kept.some lt at));
      constants = all_next HasConstants args k e lt at kept.constants c.in_ok-print_at-2.ensures.constants;
    }
