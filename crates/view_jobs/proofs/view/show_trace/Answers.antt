use Rattle.std.proofs.Common.{rules}
use Rattle.view_jobs.proofs.Drawn.{on_ok}
use Rattle.view_jobs.proofs.view.show_trace.Goals as goal

pub returns : goal.returns
returns g c =
    on_ok c.write_trace_lines.result
    (λ added. record { trace = c.in_ok-trace.trace.now; trace_is = search rules; holds = search rules })
    c.write_trace_lines.ensures
