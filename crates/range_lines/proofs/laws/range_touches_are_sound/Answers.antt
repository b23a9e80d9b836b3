use Rattle.cfg_build.specs.Passes.{passes}
use Rattle.dep_routing.proofs.Risking.{OwnPieces, sound_by}
use Rattle.range_lines.specs.RangeRisks.{MayTrapInRuns}
use Rattle.range_lines.proofs.RangeRiskLemmas.{are-risks}
use Rattle.range_lines.proofs.laws.range_touches_are_sound.Goals as goal

pub returns : goal.returns
returns c = λ p classes t touches well own_classes tree are.
    let execs = well.execs in
    let own : OwnPieces p = record {
      below = λ input n. (c.flow_graph_is_strong.ensures p.names p.execs p.loops execs).sound.ends (passes p input n).edge (c.passes_are_a_walk.ensures.edges p input n execs);
      acts = λ node exists kind. c.pieces_run_executables.ensures.acts p.names p.execs p.loops node execs exists kind;
      branches = λ node exists kind. c.pieces_run_executables.ensures.branches p.names p.execs p.loops node execs exists kind;
      begins = λ input k passed. c.passes_lie_within_steps.ensures.own p input k passed execs;
    } in
    sound_by p classes (MayTrapInRuns p classes) t touches own (λ marks input n r. c.quiet_regions_are_left.ensures.leaves p t touches input n r execs tree marks) are
    (are-risks p classes well own_classes c.writes_cover_changes.ensures.changed (λ input steps exec words at can. c.subscripts_seen_in_range_do_not_trap.ensures.executables p classes input steps exec well own_classes words at can))
