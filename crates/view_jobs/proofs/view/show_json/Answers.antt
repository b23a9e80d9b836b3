use Rattle.std.proofs.Common.{rules}
use Rattle.view_jobs.proofs.view.show_json.Goals as goal

pub returns : goal.returns
returns g c = record {
  rounds = c.in_ok-rounds.rounds;
  are = search rules;
  added = search rules;
}
