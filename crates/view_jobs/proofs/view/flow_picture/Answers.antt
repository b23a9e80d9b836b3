use Rattle.std.proofs.Common.{rules}
use Rattle.view_jobs.proofs.Drawn.{on_ok}
use Rattle.view_jobs.proofs.view.flow_picture.Goals as goal

pub returns-in-Some : goal.returns-in-Some
returns-in-Some g c = on_ok c.write_flow.result (λ added. record { flow = c.in-Some.flow; is = search rules; added = added }) c.write_flow.ensures
