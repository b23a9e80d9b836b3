use Rattle.std.proofs.Common.{◌≡◌, ◌∷◌, [], ◌++◌, All, refl, sym, ap, subst, ◌∙◌}
use Rattle.std.proofs.lemmas.Bool.{false≢true}
use Rattle.f77_tree.specs.declared.expressions.Expr.{Apply}
use Rattle.f77_tree.specs.declared.expressions.Expr.TheVariants.{Const, Truth, Input}
use Rattle.op_table.specs.Known.{folded}
use Rattle.f77_tree.specs.Known.{known}
use Rattle.f77_tree.specs.Value.{IsExpression}
use Rattle.redundancy.proofs.Operands.{known-Apply}
use Rattle.redundancy.proofs.Growing.{grown-none, grown-next, grown-Apply-take, grown-Apply-skip, grown-leaf, grown-access, map_more}
use Rattle.redundancy.proofs.collect.+collect.Goals as goal
use Rattle.redundancy.proofs.collect.+collect.Goals.{collect-then-is_candidate+in_ok-copy-in-Apply+in_ok-push-in-Apply, collect-else-is_candidate}

pub collect-returns-in-Const-clause-found : goal.collect-returns-in-Const-clause-found
collect-returns-in-Const-clause-found t c = grown-leaf c.args.names.now c.args.e.now (Const c.in-Const.z) c.args.found.now.items c.in-Const.is refl (λ is. is)

pub collect-returns-in-Truth-clause-found : goal.collect-returns-in-Truth-clause-found
collect-returns-in-Truth-clause-found t c = grown-leaf c.args.names.now c.args.e.now (Truth c.in-Truth.b) c.args.found.now.items c.in-Truth.is refl (λ is. is)

pub collect-returns-in-Input-clause-found : goal.collect-returns-in-Input-clause-found
collect-returns-in-Input-clause-found t c = grown-leaf c.args.names.now c.args.e.now Input c.args.found.now.items c.in-Input.is refl (λ is. is)

pub collect-returns-in_ok-collect_all-in-Read-clause-found : goal.collect-returns-in_ok-collect_all-in-Read-clause-found
collect-returns-in_ok-collect_all-in-Read-clause-found t c = grown-access c.args.names.now c.args.e.now c.in-Read.access c.args.found.now.items c.collect_all.new.found.items c.in-Read.is c.in_ok-collect_all-in-Read.ensures.found

pub collect-returns-after-is_candidate-clause-known : goal.collect-returns-after-is_candidate-clause-known
collect-returns-after-is_candidate-clause-known t c =
    c.fold.ensures ∙ ap (folded c.in-Apply.op) (c.deref-in-Apply.ensures.value ∙ c.in_ok-values-in-Apply.ensures.known) ∙ sym (known-Apply c.in-Apply.op c.in-Apply.args) ∙ ap known (sym c.in-Apply.is)

pub collect-returns-after-is_candidate-clause-found : goal.collect-returns-after-is_candidate-clause-found
collect-returns-after-is_candidate-clause-found t c =
    let names = c.args.names.now in
    let e = c.args.e.now in
    let old = c.args.found.now.items in
    let between = c.collect_all-in-Apply.new.found.items in
    let is = c.in-Apply.is in
    let grown = c.in_ok-values-in-Apply.ensures.found in
    elim c.if-is_candidate.branch [
      | collect-then-is_candidate+in_ok-copy-in-Apply+in_ok-push-in-Apply w ↦
          let copied : w.in_ok-copy-in-Apply.field-0 ≡ Apply c.in-Apply.op c.in-Apply.args = w.in_ok-copy-in-Apply.ensures ∙ is in
          rw (w.found-is, w.in_ok-push-in-Apply.ensures.items, copied, is)
          (grown-Apply-take names c.in-Apply.op c.in-Apply.args old between ((c.is_candidate.ensures names).0 w.if-is_candidate.true) grown)
      | collect-else-is_candidate w ↦
          rw (w.found-is, is)
          (grown-Apply-skip names c.in-Apply.op c.in-Apply.args old between (λ yes'. false≢true (sym w.if-is_candidate.false ∙ (c.is_candidate.ensures names).1 yes')) grown)
    ]

pub collect_all-loop-e-init : goal.collect_all-loop-e-init
collect_all-loop-e-init t c = record {
  expressions = subst (All (IsExpression c.args.names.now)) (sym c.as_slice-e-items.ensures.items) c.requires;
  values = c.new-values.ensures.items;
  grown = grown-none c.args.names.now c.args.found.now.items;
}

pub collect_all-loop-e-preserved : goal.collect_all-loop-e-preserved
collect_all-loop-e-preserved t c =
    let items = c.as_slice-e-items.result.now in
    let i = c.loop-e.e-index in
    record {
      expressions = c.loop-e.invariant.expressions;
      values = c.in_ok-push.ensures.items ∙ ap (λ z. z ++ c.in_ok-collect.field-0 ∷ []) c.loop-e.invariant.values ∙ map_more items i c.e-item.result c.in_ok-collect.field-0 c.loop-e-test.true c.e-item.is c.in_ok-collect.ensures.known;
      grown = grown-next c.args.names.now items i c.e-item.result c.args.found.now.items c.loop-e.found.items c.collect.new.found.items c.loop-e-test.true c.e-item.is c.loop-e.invariant.grown c.in_ok-collect.ensures.found;
    }
