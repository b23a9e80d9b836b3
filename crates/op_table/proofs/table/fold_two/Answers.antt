use Rattle.std.proofs.Common.{◌≡◌, ◌∙◌, ◌∷◌, [], ap, w32, to_z, of_z, arith, rules}
use Rattle.op_table.specs.Operators.{applied}
use Rattle.op_table.proofs.Rows.{bits_back}
use Rattle.op_table.proofs.Folds.{missing, none_folded, some_folded, both_known}
use Rattle.op_table.proofs.table.fold_two.Goals as goal

pub returns-in_err-a : goal.returns-in_err-a
returns-in_err-a c = c.from_residual.ensures ∙ none_folded c.args.op c.args.known.now (missing c.args.known.now 0 (omega arith) c.in_err-a.was)

pub returns-in_err-b : goal.returns-in_err-b
returns-in_err-b c = c.from_residual-in_err-b.ensures ∙ none_folded c.args.op c.args.known.now (missing c.args.known.now 1 (omega arith) c.in_err-b.was)

pub returns : goal.returns
returns c =
    let back_a : to_z w32 (of_z w32 c.in_ok-a.a) ≡ c.in_ok-a.a = bits_back c.in_ok-a.a (search rules) in
    let back_b : to_z w32 (of_z w32 c.in_ok-b.b) ≡ c.in_ok-b.b = bits_back c.in_ok-b.b (search rules) in
    let args = c.in_ok-a.a ∷ c.in_ok-b.b ∷ [] in
    c.ok.ensures.value ∙ some_folded c.args.op c.args.known.now args c.apply.result (both_known c.args.known.now c.in_ok-a.a c.in_ok-b.b c.requires.operands c.in_ok-a.was c.in_ok-b.was)
    (c.apply.ensures ∙ ap (λ z. applied c.args.op (z ∷ to_z w32 (of_z w32 c.in_ok-b.b) ∷ [])) back_a ∙ ap (λ z. applied c.args.op (c.in_ok-a.a ∷ z ∷ [])) back_b)
