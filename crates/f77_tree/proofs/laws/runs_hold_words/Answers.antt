use Rattle.f77_tree.specs.declared.programs.Exec.{Exec}
use Rattle.f77_tree.specs.WellFormed.{IsExecutable}
use Rattle.f77_tree.proofs.AllLemmas.{All-get}
use Rattle.f77_tree.proofs.WordValues.{goes-words, source-words, value-is_word}
use Rattle.f77_tree.proofs.laws.runs_hold_words.Goals as goal

pub returns-clause-states : goal.returns-clause-states
returns-clause-states c = source-words

pub returns-clause-steps : goal.returns-clause-steps
returns-clause-steps c = λ p input m k exec is fed at words. goes-words p.names input m exec.kind fed (All-get (λ (e : Exec). IsExecutable p.names e.kind) p.execs k exec is.execs.each at) words

pub returns-clause-values : goal.returns-clause-values
returns-clause-values c = λ names store next e z words proper is. value-is_word names store next words e z proper is
