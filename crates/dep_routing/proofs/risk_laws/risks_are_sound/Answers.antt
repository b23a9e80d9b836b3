use Rattle.cfg_build.specs.Passes.{passes}
use Rattle.dep_routing.specs.Touches.{IsFlagged}
use Rattle.dep_routing.proofs.Risking.{OwnPieces, marks_traps, sound_by}
use Rattle.dep_routing.proofs.risk_laws.risks_are_sound.Goals as goal

pub returns-clause-traps : goal.returns-clause-traps
returns-clause-traps c = λ p classes flags touches is are risks.
    let own : OwnPieces p = record {
      below = λ input n. (c.flow_graph_is_strong.ensures p.names p.execs p.loops is.execs).sound.ends (passes p input n).edge (c.passes_are_a_walk.ensures.edges p input n is.execs);
      acts = λ node exists kind. c.pieces_run_executables.ensures.acts p.names p.execs p.loops node is.execs exists kind;
      branches = λ node exists kind. c.pieces_run_executables.ensures.branches p.names p.execs p.loops node is.execs exists kind;
      begins = λ input k passed. c.passes_lie_within_steps.ensures.own p input k passed is.execs;
    } in
    marks_traps p classes (IsFlagged flags) touches own are risks

pub returns-clause-sound : goal.returns-clause-sound
returns-clause-sound c = λ p classes flags t touches is tree are risks.
    let own : OwnPieces p = record {
      below = λ input n. (c.flow_graph_is_strong.ensures p.names p.execs p.loops is.execs).sound.ends (passes p input n).edge (c.passes_are_a_walk.ensures.edges p input n is.execs);
      acts = λ node exists kind. c.pieces_run_executables.ensures.acts p.names p.execs p.loops node is.execs exists kind;
      branches = λ node exists kind. c.pieces_run_executables.ensures.branches p.names p.execs p.loops node is.execs exists kind;
      begins = λ input k passed. c.passes_lie_within_steps.ensures.own p input k passed is.execs;
    } in
    sound_by p classes (IsFlagged flags) t touches own (λ marks input n r. c.quiet_regions_are_left.ensures.leaves p t touches input n r is.execs tree marks) are risks
