use Rattle.cfg_build.proofs.PassesLie.{in_program}
use Rattle.f77_tree.specs.Run.{source}
use Rattle.net_board.proofs.ListPrefixes.{HasItem, item_at}
use Rattle.op_board.proofs.simulation_laws.runs_ground_orders.Goals as goal

pub returns : goal.returns
returns c = λ x n.
    let p = x.net.program in
    let input = x.net.input in
    let well = n.is_net.program.execs in
    record {
      operations = c.operations_have_facts.ensures x n;
      few = λ piece. c.pieces_have_operations.ensures.few x piece;
      begins = c.nets_simulate_programs.ensures.begins x.net n.is_net;
      comes = c.nets_begin_soundly.ensures x.net n.is_net;
      words = λ k. c.passes_hold_words.ensures p input k n.is_net.program n.is_net.input_words;
      along = λ k. c.passes_follow_steps.ensures p input k well;
      chains = λ k.
          let inside = in_program c.reaching_is_told.ensures c.endless_ways_meet_cycles.ensures c.executables_lead_to_successors.ensures p input well k in
          let own : HasItem p.execs (source p input k).position = item_at p.execs (source p input k).position inside.below in
          record { exec = own.item; found = own.at; are = c.chains_lead_to_successors.ensures.chain p.names p.execs p.loops (source p input k).position own.item well inside.reached own.at };
      within = λ k i low. c.passes_lie_within_steps.ensures.within p input k i well low;
    }
