use Rattle.std.proofs.Common.{◌∙◌, max, ap}
use Rattle.printed_graphs.specs.declared.dataflow.Operand.TheVariants.{From}
use Rattle.trace_profiles.specs.Tables.{given_in}
use Rattle.trace_profiles.proofs.Greatest.{newest_more}
use Rattle.trace_profiles.proofs.rounds.newest_given.Goals as goal

pub loop-operand-preserved : goal.loop-operand-preserved
loop-operand-preserved c =
    newest_more (given_in c.args.numbers.now) c.args.operands.now c.loop-operand.operand-index c.loop-operand.newest c.greater-newest.result (From 0) c.loop-operand-test.true c.loop-operand.invariant (c.greater-newest.ensures ∙ ap (max c.loop-operand.newest) c.given_at.ensures)
