use Rattle.shared_laws.specs.SharedRuns.{shared_steps}
use Rattle.shared_laws.proofs.SharedPrints.{print-alike, same-words}
use Rattle.shared_laws.proofs.shared_runs.shared_programs_print_alike.Goals as goal

pub returns-clause-alike : goal.returns-clause-alike
returns-clause-alike g = λ q r c a input is fed.
    let follow = g.shared_programs_follow.ensures in
    let number = is.shared.number in
    print-alike q r input (shared_steps q a number input) q.words (follow.later q a number input) (λ n. follow.steps q r c a input n is fed)
    (λ p n k. g.stopped_runs_stay.ensures.ended p input n k) (λ p n k. g.stopped_runs_stay.ensures.trapped p input n k) (λ p n k. g.stopped_runs_stay.ensures.text p input n k)

pub returns-clause-words : goal.returns-clause-words
returns-clause-words g = λ q r c a input m n word is fed.
    let follow = g.shared_programs_follow.ensures in
    let number = is.shared.number in
    same-words q r input (shared_steps q a number input) q.words (follow.later q a number input) (λ k. follow.steps q r c a input k is fed)
    (λ p i k. g.stopped_runs_stay.ensures.ended p input i k) (λ p i k. g.stopped_runs_stay.ensures.trapped p input i k) (λ p i k. g.stopped_runs_stay.ensures.text p input i k)
    m n word
