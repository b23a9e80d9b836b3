use Rattle.flat_programs.proofs.ExecutableRows.{Belongs, belongs, execs-length, following-at, leading-at}
use Rattle.flat_programs.proofs.FlowLemmas.{first_of-next}
use Rattle.flat_programs.proofs.laws.executables_stand_in_order.Goals as goal

pub returns-clause-first : goal.returns-clause-first
returns-clause-first c = leading-at

pub returns-clause-other : goal.returns-clause-other
returns-clause-other c = following-at

pub returns-clause-next : goal.returns-clause-next
returns-clause-next c = first_of-next

pub returns-clause-count : goal.returns-clause-count
returns-clause-count c = execs-length

pub returns-clause-only : goal.returns-clause-only
returns-clause-only c flat k exec is =
    let b : Belongs flat k exec = belongs flat k exec is in
    record { place = b.place; of = record { statement = b.line; there = b.of.is; which = b.of.which } }
