use Rattle.operation_lists.proofs.executables.end_with.Goals as goal

pub returns-clause-can : goal.returns-clause-can
returns-clause-can c = c.in_ok-_operand.ensures.can c.args.p.now c.requires.can c.requires.work
