use Rattle.operation_lists.proofs.executables.begin_operations.Goals as goal

pub end_with-requires-clause-can : goal.end_with-requires-clause-can
end_with-requires-clause-can c = c.in_ok-d.ensures.can c.args.p.now c.in_ok-c.ensures.can
