use Rattle.simplified_forms.specs.Plans.{answer, keeps}
use Rattle.simplified_forms.specs.Tables.{AreAnswers}
use Rattle.simplified_forms.proofs.items.kept.Given as goal

abbrev pub invariant-loop-k : goal.invariant-loop-k
invariant-loop-k l = AreAnswers (keeps l.p (answer l.entered)) l.k l.items.items
