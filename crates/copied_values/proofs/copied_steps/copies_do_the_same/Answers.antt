use Rattle.copied_values.specs.SideBySide.{Are}
use Rattle.copied_values.proofs.CopiedSteps.{assigns, increments, picks, prints, signs, starts, takes, tests}
use Rattle.copied_values.proofs.copied_steps.copies_do_the_same.Goals as goal

pub returns : goal.returns
returns c = record {
  assigned = λ words live loops nexts names others change checked input m n is. assigns (Are words) (Are live) (Are loops) (Are nexts) names others change checked input m n is;
  taken = λ words live loops nexts names others change checked input m n is. takes (Are words) (Are live) (Are loops) (Are nexts) names others change checked input m n is;
  printed = λ words live loops nexts names others change checked input m n is. prints (Are words) (Are live) (Are loops) (Are nexts) names others change checked input m n is;
  tested = λ words live loops nexts names others change checked input m n is. tests (Are words) (Are live) (Are loops) (Are nexts) names others change checked input m n is;
  signed = λ words live loops nexts names others change checked input m n is. signs (Are words) (Are live) (Are loops) (Are nexts) names others change checked input m n is;
  picked = λ words live loops nexts names others change checked input m n is. picks (Are words) (Are live) (Are loops) (Are nexts) names others change checked input m n is;
  started = λ words live loops nexts names others change checked input m n is. starts (Are words) (Are live) (Are loops) (Are nexts) names others change checked input m n is;
  incremented = λ words live loops nexts names others change checked input m n is. increments (Are words) (Are live) (Are loops) (Are nexts) names others change checked input m n is;
}
