use Rattle.shared_laws.proofs.OwnPasses.{PieceLaws}
use Rattle.shared_laws.proofs.SharedLaws.{fit-table, shared-follows}
use Rattle.shared_laws.proofs.SharedPrints.{steps-later}
use Rattle.shared_laws.proofs.SharedSteps.{StepLaws}
use Rattle.shared_laws.proofs.SharedValues.{ValueLaws}
use Rattle.shared_laws.proofs.shared_runs.shared_programs_follow.Goals as goal

pub returns-clause-steps : goal.returns-clause-steps
returns-clause-steps g = λ q r c a input n is fed.
    let formed = is.program in
    let execs = formed.execs in
    let can = g.well_formed_programs_can_run.ensures q formed in
    let placed = can.placed in
    let pieces : PieceLaws q input = record {
      reaching = g.reaching_is_told.ensures;
      leads = g.executables_lead_to_successors.ensures q.names input;
      pieces = g.executables_have_own_pieces.ensures q.names q.execs q.loops;
      within = λ m i. g.passes_lie_within_steps.ensures.within q input m i execs;
      own = λ k passed. g.passes_lie_within_steps.ensures.own q input k passed execs;
      acts = λ node. g.pieces_run_executables.ensures.acts q.names q.execs q.loops node execs;
      branches = λ node. g.pieces_run_executables.ensures.branches q.names q.execs q.loops node execs;
      graph = (g.flow_graph_is_strong.ensures q.names q.execs q.loops execs).sound;
      edges = λ m. g.passes_are_a_walk.ensures.edges q input m execs;
    } in
    let values : ValueLaws q = record {
      longer = g.longer_tables_agree.ensures.values q.names;
      values = λ x y next next' e. g.reads_decide.ensures.values q.names x y next next' e;
      reads = λ kind word. g.accesses_stay_in_their_names.ensures.reads q kind word placed;
      untrapped = g.what_cannot_trap_has_a_value.ensures.words q.names;
      truths = g.logical_values_are_truths.ensures.same q.names;
    } in
    let laws : StepLaws q c a is.shared.flat input = record {
      pieces = pieces;
      values = values;
      fit = fit-table q c a formed is.available (g.scalars_can_be_added.ensures.executables q.names);
      proper = g.executables_tell_statements.ensures.proper q is.shared.flat formed is.shared.sharing.statements;
      can = can;
      positions = λ m. g.runs_stay_inside.ensures.position q input m can;
      memories = λ m. g.runs_stay_inside.ensures.memory q input m can;
      words = λ m. (g.runs_hold_words.ensures.states q input m formed fed).store;
      keeps = λ m e runs there. g.available_expressions_keep_their_values.ensures q c input m e formed is.classes fed runs there;
      alike = λ m k kind. g.reads_decide.ensures.outcomes q input m k kind placed;
      rest = λ m kind. g.executables_keep_the_rest.ensures.rest q.names input m kind;
      changes = λ m kind word able change. g.accesses_stay_in_their_names.ensures.changes q kind word placed able (g.executables_keep_the_rest.ensures.changes q.names input m kind word change);
    } in
    shared-follows q r c a input n is laws

pub returns-clause-later : goal.returns-clause-later
returns-clause-later g = λ q a number input n. steps-later q a number input n
