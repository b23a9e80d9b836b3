use Rattle.std.proofs.Common.{◌≡◌, None, rules, sym, get_or, ◌∙◌}
use Rattle.op_table.specs.declared.Op.TheVariants.{Pow}
use Rattle.f77_tree.specs.Grammar.{symbol}
use Rattle.f77_expr.specs.Reader.{operators, after_prefix}
use Rattle.f77_expr.proofs.Parts.{among_missed}
use Rattle.f77_expr.proofs.operators.first_operator.Goals as goal

pub loop-op-preserved : goal.loop-op-preserved
loop-op-preserved c =
    let i = c.loop-op.op-index in
    let missing : after_prefix (symbol (get_or operators i Pow)) c.args.text.now ≡ None = search rules in
    sym (among_missed operators i Pow c.args.text.now c.loop-op-test.true missing) ∙ c.loop-op.invariant
