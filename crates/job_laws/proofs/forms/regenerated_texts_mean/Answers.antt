use Rattle.job_laws.proofs.FormsMean.{regen_on}
use Rattle.job_laws.proofs.forms.regenerated_texts_mean.Goals as goal

pub returns : goal.returns
returns c = λ p checked well dialect.
    let one = c.rewritten_forms_are_one.ensures in
    let stay = c.stopped_runs_stay.ensures in
    regen_on (record { ended = stay.ended; trapped = stay.trapped; text = stay.text; first = c.runs_stop_first.ensures }) c.executables_tell_statements.ensures.one p checked
    (record {
      form = λ s r is also. one.rewritten p checked s r well is also;
      none = λ s end is passes. one.none p checked s end well is passes;
      limit = λ end other passes also. one.limit p checked end other well passes also;
    })
    (λ s input is words. c.rewritten_programs_print_alike.ensures.alike p checked s input well is words)
    (λ text arrays is. c.rewritten_texts_are_read_back.ensures p checked text arrays dialect is)
