use Rattle.std.proofs.Common.{sym, subst, refl}
use Rattle.cfg_build.specs.Flow.{flow}
use Rattle.cfg_build.specs.Joined.{FlowGraph}
use Rattle.const_prop.specs.Setting.{IsProgram}
use Rattle.const_prop.proofs.facts.program_facts.Goals as goal

pub returns-clause-program : goal.returns-clause-program
returns-clause-program c = λ p f wf is.
    let can = c.well_formed_programs_can_run.ensures p wf in
    let at : IsProgram p (flow p.execs) = record {
      well_formed = wf;
      flow = refl;
      sound = (c.flow_graph_is_strong.ensures p.names p.execs p.loops wf.execs).sound;
      shape = c.flow_graph_has_shape.ensures p.names p.execs p.loops wf.execs;
      acts = λ node l kind. c.pieces_run_executables.ensures.acts p.names p.execs p.loops node wf.execs l kind;
      branches = λ node l kind. c.pieces_run_executables.ensures.branches p.names p.execs p.loops node wf.execs l kind;
      placed = can.placed;
      can_run = can;
    } in
    subst (λ (g : FlowGraph). IsProgram p g) (sym is) at

pub returns-clause-strong : goal.returns-clause-strong
returns-clause-strong c = λ p wf. c.flow_graph_is_strong.ensures p.names p.execs p.loops wf.execs
