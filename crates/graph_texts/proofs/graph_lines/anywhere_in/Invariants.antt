use Rattle.std.specs.Prelude.{◌≡◌, length, All}
use Rattle.f77_tree.specs.declared.expressions.Expr.TheVariants.{Input}
use Rattle.f77_tree.specs.Value.{IsExpression}
use Rattle.graph_texts.proofs.graph_lines.anywhere_in.Given as goal

abbrev pub invariant-loop : goal.invariant-loop
invariant-loop l = record {
  many : length l.subs ≡ l.counter;
  each : All (IsExpression l.names) l.subs;
  unknown : All (λ e. e ≡ Input) l.subs;
}
