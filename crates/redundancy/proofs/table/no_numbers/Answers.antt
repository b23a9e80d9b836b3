use Rattle.std.proofs.Common.{ap, arith, [], get_or, ◌∙◌}
use Rattle.redundancy.proofs.Tables.{blank-push}
use Rattle.redundancy.proofs.table.no_numbers.Goals as goal

pub loop-preserved : goal.loop-preserved
loop-preserved c = record {
  len = omega (arith, c.loop.invariant.len, c.in_ok-push.ensures.len);
  blank = λ b. ap (λ xs. get_or xs b []) c.in_ok-push.ensures.items ∙ blank-push c.loop.lists.items c.new.result c.new.ensures c.loop.invariant.blank b;
}
