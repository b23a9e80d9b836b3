use Rattle.copied_names.proofs.Accepted.{accepted-read}
use Rattle.copied_names.proofs.copied.copied_names.Goals as goal

pub names_of_text-requires-clause-named : goal.names_of_text-requires-clause-named
names_of_text-requires-clause-named c = (accepted-read c.args.bytes.now c.args.checked _ _ _ c.in_ok-read_program.ensures.statements c.in_ok-stmts.ensures c.as_slice.ensures.items).named

pub names_of_text-requires-clause-small : goal.names_of_text-requires-clause-small
names_of_text-requires-clause-small c = (accepted-read c.args.bytes.now c.args.checked _ _ _ c.in_ok-read_program.ensures.statements c.in_ok-stmts.ensures c.as_slice.ensures.items).small

pub names_of_text-requires-clause-first : goal.names_of_text-requires-clause-first
names_of_text-requires-clause-first c = (accepted-read c.args.bytes.now c.args.checked _ _ _ c.in_ok-read_program.ensures.statements c.in_ok-stmts.ensures c.as_slice.ensures.items).first
