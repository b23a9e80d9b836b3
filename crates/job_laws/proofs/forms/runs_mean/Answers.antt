use Rattle.job_laws.proofs.FormsMean.{run_on}
use Rattle.job_laws.proofs.forms.runs_mean.Goals as goal

pub returns : goal.returns
returns c = λ p checked limit input well words.
    let one = c.rewritten_forms_are_one.ensures in
    let stay = c.stopped_runs_stay.ensures in
    run_on (record { ended = stay.ended; trapped = stay.trapped; text = stay.text; first = c.runs_stop_first.ensures })
    p checked input limit words
    (record {
      form = λ s r is also. one.rewritten p checked s r well is also;
      none = λ s end is passes. one.none p checked s end well is passes;
      limit = λ end other passes also. one.limit p checked end other well passes also;
    })
    (λ s xs is are. c.rewritten_programs_print_alike.ensures.alike p checked s xs well is are)
    (λ s xs n is are. c.rewritten_programs_print_alike.ensures.steps p checked s xs n well is are)
