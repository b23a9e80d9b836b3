use Rattle.std.proofs.Common.{◌≡◌, ◌∙◌, ◌∷◌, [], ap, w32, to_z, of_z, arith, rules}
use Rattle.op_table.specs.Operators.{applied}
use Rattle.op_table.proofs.Rows.{bits_back}
use Rattle.op_table.proofs.Folds.{missing, none_folded, some_folded, one_known}
use Rattle.op_table.proofs.table.fold_one.Goals as goal

pub returns-in_err-a : goal.returns-in_err-a
returns-in_err-a c = c.from_residual.ensures ∙ none_folded c.args.op c.args.known.now (missing c.args.known.now 0 (omega arith) c.in_err-a.was)

pub returns : goal.returns
returns c =
    let back_a : to_z w32 (of_z w32 c.in_ok-a.a) ≡ c.in_ok-a.a = bits_back c.in_ok-a.a (search rules) in
    let args = c.in_ok-a.a ∷ [] in
    c.ok.ensures.value ∙ some_folded c.args.op c.args.known.now args c.apply.result (one_known c.args.known.now c.in_ok-a.a c.requires.operands c.in_ok-a.was)
    (c.apply.ensures ∙ ap (λ z. applied c.args.op (z ∷ [])) back_a)
