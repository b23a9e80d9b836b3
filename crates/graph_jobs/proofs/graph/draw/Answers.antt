use Rattle.std.proofs.Common.{rules}
use Rattle.graph_jobs.proofs.graph.draw.Goals as goal

pub returns : goal.returns
returns c = record {
  analysis = c.in_ok-analysis.ensures;
  sets = c.in_ok-name_sets.ensures;
  input = search rules;
  buffer = search rules;
}
