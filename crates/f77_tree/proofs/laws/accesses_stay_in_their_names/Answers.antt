use Rattle.f77_tree.proofs.KnownValues.{surely-only}
use Rattle.f77_tree.proofs.TouchedWords.{named-is_word_of, exec-reads_below, exec-changes_below}
use Rattle.f77_tree.proofs.laws.accesses_stay_in_their_names.Goals as goal

pub returns-clause-own : goal.returns-clause-own
returns-clause-own c = named-is_word_of

pub returns-clause-alone : goal.returns-clause-alone
returns-clause-alone c = surely-only

pub returns-clause-reads : goal.returns-clause-reads
returns-clause-reads c = λ p kind word placed can may. exec-reads_below p placed word kind can may

pub returns-clause-changes : goal.returns-clause-changes
returns-clause-changes c = λ p kind word placed can may. exec-changes_below p placed word kind can may
