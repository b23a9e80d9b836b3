use Rattle.std.proofs.Common.{◌^◌, arith}
use Rattle.unit_checks.proofs.FewCalls.{few-edges, few-units}
use Rattle.f77_subs.proofs.form_refusals.call_refusal.Goals as goal

pub first_recursion-requires-clause-units : goal.first_recursion-requires-clause-units
first_recursion-requires-clause-units c = few-units c.args.stmts.now c.args.us.now 4000 (2 ^ 31) c.requires.units c.requires.few (omega arith)

pub first_recursion-requires-clause-room : goal.first_recursion-requires-clause-room
first_recursion-requires-clause-room c = few-edges c.args.stmts.now c.args.us.now 4000 (2 ^ 31) c.requires.units c.requires.few (omega arith)
