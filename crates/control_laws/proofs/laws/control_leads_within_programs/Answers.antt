use Rattle.control_laws.proofs.LoopsOfProgram.{AreLoops-source}
use Rattle.control_laws.proofs.SuccessorLaws.{successors_exist}
use Rattle.control_laws.proofs.laws.control_leads_within_programs.Goals as goal

pub returns : goal.returns
returns c = λ names checked stmts is. record {
  successors = successors_exist stmts is.source is.once is.borne is.nested names checked;
  loops = AreLoops-source names checked stmts is.source is.once is.borne is.nested is.stays;
}
