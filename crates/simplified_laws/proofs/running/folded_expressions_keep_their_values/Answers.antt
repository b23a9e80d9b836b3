use Rattle.simplified_laws.proofs.FoldedLaws.{folded-kind, folded-value}
use Rattle.simplified_laws.proofs.FoldedUses.{folded-assigned, folded-line, folded-place}
use Rattle.simplified_laws.proofs.LiteralLaws.{literal-value}
use Rattle.simplified_laws.proofs.running.folded_expressions_keep_their_values.Goals as goal

pub returns-clause-literals : goal.returns-clause-literals
returns-clause-literals c = literal-value

pub returns-clause-kinds : goal.returns-clause-kinds
returns-clause-kinds c = folded-kind

pub returns-clause-values : goal.returns-clause-values
returns-clause-values c = λ names checked words store next e right are_words proper. folded-value names checked words store next right are_words e proper

pub returns-clause-places : goal.returns-clause-places
returns-clause-places c = λ names checked words store next access right are_words proper. folded-place names checked words store right are_words next access proper

pub returns-clause-lines : goal.returns-clause-lines
returns-clause-lines c = λ names checked words store items right are_words proper. folded-line names checked words store right are_words items proper

pub returns-clause-assigned : goal.returns-clause-assigned
returns-clause-assigned c = λ names checked words store next target e right are_words is. folded-assigned names checked words store right are_words next target e is
