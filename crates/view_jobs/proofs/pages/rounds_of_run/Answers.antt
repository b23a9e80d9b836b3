use Rattle.std.proofs.Common.{◌≡◌, rules, subst}
use Rattle.trace_profiles.specs.declared.loads.Loads.{Loads}
use Rattle.view_jobs.specs.Drawn.{rounds_by}
use Rattle.view_jobs.proofs.Known.{if_ok}
use Rattle.view_jobs.proofs.pages.rounds_of_run.Goals as goal

pub returns : goal.returns
returns c =
    if_ok c.rounds_in.result
    (λ rounds are. record {
      flow = c.in_ok-graph.field-0-0.now;
      graph = c.in_ok-graph.graph.now;
      flow_is = search rules;
      graph_is = search rules;
      holds = record { trace = c.in_ok-trace.trace.now; trace_is = search rules; holds = subst (λ (loads : Loads). rounds.items ≡ rounds_by c.in_ok-graph.graph.now loads c.in_ok-trace.trace.now) c.loads_of-loads.ensures are };
    })
    c.rounds_in.ensures
