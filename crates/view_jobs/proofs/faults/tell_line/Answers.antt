use Rattle.view_output.proofs.Pieces.{and_last, and_then}
use Rattle.view_jobs.proofs.faults.tell_line.Goals as goal

pub returns : goal.returns
returns g c = and_last _ _ c.text-2.result (and_then c.in_ok-text.ensures c.in_ok-number.ensures) c.text-2.ensures
