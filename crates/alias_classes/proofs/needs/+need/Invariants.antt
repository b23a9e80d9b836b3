use Rattle.alias_classes.specs.Kept.{table_of}
use Rattle.alias_classes.proofs.Rows.{NeedsSoFar}
use Rattle.alias_classes.proofs.needs.+need.Given as goal

abbrev pub invariant-all_need-loop-e : goal.invariant-all_need-loop-e
invariant-all_need-loop-e g l = NeedsSoFar (table_of l.p l.words.numbers.items l.words.count) l.e-items l.e-index l.set
