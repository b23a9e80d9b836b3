use Rattle.copied_values.proofs.SameElements.{elements}
use Rattle.copied_values.proofs.ChangedValues.{kinds}
use Rattle.copied_values.proofs.CopiedValues.{places, steps, values}
use Rattle.copied_values.proofs.CopiedLines.{lines, takes-none}
use Rattle.copied_values.proofs.copied_values.copies_have_the_same_values.Goals as goal

pub returns : goal.returns
returns c = record {
  elements = elements;
  kinds = kinds;
  values = λ names others words words' a b change checked next tables placed placed' e. values names others words words' a b change checked tables placed placed' next e;
  steps = λ names others words words' a b change checked next tables placed placed' step. steps names others words words' a b change checked tables placed placed' next step;
  places = λ names others words words' a b change checked next tables placed placed' e. places names others words words' a b change checked tables placed placed' next e;
  lines = λ names others words words' a b change checked tables placed placed' items. lines names others words words' a b change checked tables placed placed' items;
  taken = takes-none;
}
