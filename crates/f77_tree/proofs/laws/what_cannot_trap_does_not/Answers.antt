use Rattle.std.proofs.Common.{◌≡◌, true}
use Rattle.f77_tree.specs.Known.{none}
use Rattle.f77_tree.specs.Run.{source}
use Rattle.f77_tree.proofs.Untrapped.{outcome-untrapped}
use Rattle.f77_tree.proofs.WordValues.{source-words}
use Rattle.f77_tree.proofs.laws.what_cannot_trap_does_not.Goals as goal

pub returns-clause-executables : goal.returns-clause-executables
returns-clause-executables c = λ excepted names input m kind words fine can. outcome-untrapped (λ sub dim. excepted sub dim ≡ true) names input m words fine kind can

pub returns-clause-runs : goal.returns-clause-runs
returns-clause-runs c = λ p input n exec is words at can. outcome-untrapped none p.names input (source p input n).memory (source-words p input n is words).store (λ next sub dim x. absurd x) exec.kind can

pub returns-clause-words : goal.returns-clause-words
returns-clause-words c = λ names input m kind words can. outcome-untrapped none names input m words (λ next sub dim x. absurd x) kind can
