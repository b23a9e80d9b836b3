use Rattle.op_board.proofs.OperationLaws.{firing_facts}
use Rattle.fork_board.proofs.ForkControl.{fork_begins, fork_fires, fork_over, fork_stays}
use Rattle.fork_board.proofs.simulation_laws.forks_stay_in_lockstep.Goals as goal

pub returns-clause-begins : goal.returns-clause-begins
returns-clause-begins c = λ x n. fork_begins x (c.operation_nets_stay_in_lockstep.ensures.begins x n)

pub returns-clause-steady : goal.returns-clause-steady
returns-clause-steady c = λ x. record {
  kept = λ m p k sound in_step can due going.
      let n = sound.is_net in
      let comes = c.operation_nets_begin_soundly.ensures x n in
      let laws = c.operation_nets_stay_in_lockstep.ensures in
      fork_stays sound.ground x n (firing_facts sound.ground x n) (c.loads_come_once.ensures x n) comes (laws.ordered x) (laws.steady x) m p k in_step can.going due going;
}

pub returns-clause-ordered : goal.returns-clause-ordered
returns-clause-ordered c = λ x. record {
  fires = λ m p k sound in_step going due.
      let n = sound.is_net in
      let comes = c.operation_nets_begin_soundly.ensures x n in
      let laws = c.operation_nets_stay_in_lockstep.ensures in
      fork_fires sound.ground x n (firing_facts sound.ground x n) (c.loads_come_once.ensures x n) comes (laws.ordered x) m p k in_step going due;
  over = λ m p sound in_step going due.
      let n = sound.is_net in
      let comes = c.operation_nets_begin_soundly.ensures x n in
      let laws = c.operation_nets_stay_in_lockstep.ensures in
      fork_over sound.ground x n (firing_facts sound.ground x n) (c.loads_come_once.ensures x n) comes (laws.ordered x) (c.operations_have_facts.ensures x n) ((c.nets_simulate_programs.ensures.begins x.net n.is_net).ground.graph) (c.operation_nets_simulate_programs.ensures.rests x n) m p in_step going due;
}
