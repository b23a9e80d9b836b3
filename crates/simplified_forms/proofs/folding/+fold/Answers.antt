use Rattle.std.proofs.Common.{◌≡◌, [], ◌∷◌, ◌++◌, map, Option, Some, None, ℤ, sym, ap, ◌∙◌, rules, w32}
use Rattle.std.proofs.lemmas.Int.{to_z-of_z}
use mir.Val.{SFits}
use Rattle.f77_tree.specs.declared.expressions.Expr.{Expr}
use Rattle.f77_tree.specs.KnownWith.{known_with}
use Rattle.f77_tree.specs.Line.{kind_of_expression}
use Rattle.const_prop.specs.Closed.{words_on}
use Rattle.const_prop.specs.Table.{knowns_of}
use Rattle.simplified_forms.specs.declared.folding.FoldedExpr.{FoldedExpr}
use Rattle.simplified_forms.specs.Folding.{folded}
use Rattle.simplified_forms.specs.Literals.{literal}
use Rattle.simplified_forms.proofs.FoldedLists.{map-more, read-unknown, operator-told, operator-known, operator-unknown, if_ok-map}
use Rattle.simplified_forms.proofs.folding.+fold.Goals as goal

pub fold_all-loop-e-preserved : goal.fold_all-loop-e-preserved
fold_all-loop-e-preserved g t c =
    let names = c.args.p.now.names in
    let words = words_on c.args.c.now (knowns_of c.args.t.now) c.args.edge in
    let kept = c.loop-e.invariant in
    let items = c.as_slice-e-items.result.now in
    let i = c.loop-e.e-index in
    let e = c.e-item.result in
    let old = c.loop-e.trees in
    let told = c.loop-e.known.items in
    record {
      expressions = kept.expressions;
      trees = c.in_ok-push.ensures.ok ∙ ap (λ (x : Expr). old ++ x ∷ []) c.in_ok-f.ensures.tree ∙ map-more (folded names c.args.checked words) items i e old c.loop-e-test.true c.e-item.is kept.trees;
      known = c.in_ok-push-2.ensures.ok ∙ ap (λ (x : Option ℤ). told ++ x ∷ []) c.in_ok-f.ensures.known ∙ map-more (known_with names words) items i e told c.loop-e-test.true c.e-item.is kept.known;
    }

pub fold_expr-returns-in-Some-fold-clause-tree : goal.fold_expr-returns-in-Some-fold-clause-tree
fold_expr-returns-in-Some-fold-clause-tree g t c =
    let names = c.args.p.now.names in
    let words = words_on c.args.c.now (knowns_of c.args.t.now) c.args.edge in
    let e = c.args.e.now in
    let are : c.as_slice.result.now ≡ map (known_with names words) c.in-Apply.args = c.as_slice.ensures ∙ c.in_ok-trees-in-Apply.ensures.known in
    let told : known_with names words e ≡ Some c.in-Some-fold.z = sym (operator-told names c.args.checked words e c.in-Apply.op c.in-Apply.args c.as_slice.result.now c.fold.result c.in-Apply.is are c.fold.ensures) ∙ c.in-Some-fold.is in
    let fits : SFits w32 c.in-Some-fold.z = search rules in
    let made = rw (to_z-of_z w32 c.in-Some-fold.z fits) at c.known_as-in-Some-fold.ensures.tree in
    if_ok-map (λ (f : FoldedExpr). f.tree ≡ literal c.args.checked (kind_of_expression names e) c.in-Some-fold.z) (λ (f : FoldedExpr). f.tree ≡ folded names c.args.checked words e) c.known_as-in-Some-fold.result
    (λ f is. operator-known names c.args.checked words e f.tree c.in-Apply.op c.in-Apply.args c.in-Some-fold.z c.in-Apply.is told is)
    made

pub fold_expr-returns-in-Some-fold-clause-known : goal.fold_expr-returns-in-Some-fold-clause-known
fold_expr-returns-in-Some-fold-clause-known g t c =
    let names = c.args.p.now.names in
    let words = words_on c.args.c.now (knowns_of c.args.t.now) c.args.edge in
    let e = c.args.e.now in
    let are : c.as_slice.result.now ≡ map (known_with names words) c.in-Apply.args = c.as_slice.ensures ∙ c.in_ok-trees-in-Apply.ensures.known in
    let told : Some c.in-Some-fold.z ≡ known_with names words e = sym c.in-Some-fold.is ∙ operator-told names c.args.checked words e c.in-Apply.op c.in-Apply.args c.as_slice.result.now c.fold.result c.in-Apply.is are c.fold.ensures in
    let fits : SFits w32 c.in-Some-fold.z = search rules in
    let made = rw (to_z-of_z w32 c.in-Some-fold.z fits) at c.known_as-in-Some-fold.ensures.known in
    if_ok-map (λ (f : FoldedExpr). f.known ≡ Some c.in-Some-fold.z) (λ (f : FoldedExpr). f.known ≡ known_with names words e) c.known_as-in-Some-fold.result
    (λ f is. is ∙ told)
    made

pub fold_expr-returns-in_ok-trees-in-Read-clause-tree : goal.fold_expr-returns-in_ok-trees-in-Read-clause-tree
fold_expr-returns-in_ok-trees-in-Read-clause-tree g t c =
    let names = c.args.p.now.names in
    let words = words_on c.args.c.now (knowns_of c.args.t.now) c.args.edge in
    read-unknown names c.args.checked words c.args.e.now c.in-Read.access c.in_ok-trees-in-Read.field-0.trees c.in-Read.is (sym c.known_value.ensures ∙ c.in_default.is) c.in_ok-trees-in-Read.ensures.trees

pub fold_expr-returns-in_default-fold-clause-tree : goal.fold_expr-returns-in_default-fold-clause-tree
fold_expr-returns-in_default-fold-clause-tree g t c =
    let names = c.args.p.now.names in
    let words = words_on c.args.c.now (knowns_of c.args.t.now) c.args.edge in
    let e = c.args.e.now in
    let are : c.as_slice.result.now ≡ map (known_with names words) c.in-Apply.args = c.as_slice.ensures ∙ c.in_ok-trees-in-Apply.ensures.known in
    let told : known_with names words e ≡ None = sym (operator-told names c.args.checked words e c.in-Apply.op c.in-Apply.args c.as_slice.result.now c.fold.result c.in-Apply.is are c.fold.ensures) ∙ c.in_default-fold.is in
    operator-unknown names c.args.checked words e c.in-Apply.op c.in-Apply.args c.in_ok-trees-in-Apply.field-0.trees c.in-Apply.is told c.in_ok-trees-in-Apply.ensures.trees

pub fold_expr-returns-in_default-fold-clause-known : goal.fold_expr-returns-in_default-fold-clause-known
fold_expr-returns-in_default-fold-clause-known g t c =
    let names = c.args.p.now.names in
    let words = words_on c.args.c.now (knowns_of c.args.t.now) c.args.edge in
    let e = c.args.e.now in
    let are : c.as_slice.result.now ≡ map (known_with names words) c.in-Apply.args = c.as_slice.ensures ∙ c.in_ok-trees-in-Apply.ensures.known in
    sym c.in_default-fold.is ∙ operator-told names c.args.checked words e c.in-Apply.op c.in-Apply.args c.as_slice.result.now c.fold.result c.in-Apply.is are c.fold.ensures
