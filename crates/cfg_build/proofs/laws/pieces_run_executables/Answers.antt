use Rattle.cfg_build.proofs.RunPieces.{act_runs, branch_runs}
use Rattle.cfg_build.proofs.laws.pieces_run_executables.Goals as goal

pub returns-clause-acts : goal.returns-clause-acts
returns-clause-acts c = λ names execs loops node well. act_runs c.reaching_is_told.ensures c.endless_ways_meet_cycles.ensures names execs loops well node

pub returns-clause-branches : goal.returns-clause-branches
returns-clause-branches c = λ names execs loops node well. branch_runs c.reaching_is_told.ensures c.endless_ways_meet_cycles.ensures names execs loops well node
