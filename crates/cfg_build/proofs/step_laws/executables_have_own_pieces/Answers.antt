use Rattle.cfg_build.proofs.PassesLie.{own_piece}
use Rattle.cfg_build.proofs.step_laws.executables_have_own_pieces.Goals as goal

pub returns : goal.returns
returns c = λ names execs loops k exec is. own_piece c.reaching_is_told.ensures c.endless_ways_meet_cycles.ensures names execs loops k exec is
