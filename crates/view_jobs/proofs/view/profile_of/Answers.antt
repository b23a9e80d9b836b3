use Rattle.std.proofs.Common.{rules}
use Rattle.view_jobs.proofs.Drawn.{on_ok}
use Rattle.view_jobs.proofs.view.profile_of.Goals as goal

pub returns : goal.returns
returns g c =
    on_ok c.write_profile.result
    (λ added. record { graph = c.in_ok-graph.graph.now; trace = c.in_ok-trace.trace.now; graph_is = search rules; trace_is = search rules; added = added })
    c.write_profile.ensures
