use Rattle.std.proofs.Common.{length, sym, ap, ◌∙◌}
use Rattle.f77_layout.specs.Stages.{AreStored}
use Rattle.storage_laws.proofs.KnownStatements.{statements-known}
use Rattle.f77_layout.proofs.MadePrograms.{as-many, found-is, stored-placed}
use Rattle.f77_layout.proofs.assembly.numbers_of.Goals as goal
use Rattle.f77_layout.proofs.assembly.numbers_of.Goals.{In_ok-numbers-in-Right}

pub place_names-requires : goal.place_names-requires
place_names-requires c = rw c.requires.table (statements-known c.args.stmts.now)

stored : (c : In_ok-numbers-in-Right) → AreStored c.args.stmts.now c.in_ok-numbers-in-Right.numbers
stored c = stored-placed c.args.stmts.now c.args.names.now c.in_ok-line.field-0 c.in-Right.storages c.in_ok-numbers-in-Right.numbers c.requires.table c.in-Right.is c.in_ok-line.ensures c.in_ok-numbers-in-Right.ensures

pub wrong_storage_line-requires-clause-as_many : goal.wrong_storage_line-requires-clause-as_many
wrong_storage_line-requires-clause-as_many c =
    ap length c.deref.ensures.value ∙ as-many c.args.stmts.now c.in_ok-numbers-in-Right.numbers (stored (goal.at.wrong_storage_line-requires-clause-as_many c).In_ok-numbers-in-Right) ∙ sym (ap length c.requires.table)

pub wrong_storage_line-requires-clause-few : goal.wrong_storage_line-requires-clause-few
wrong_storage_line-requires-clause-few c = rw c.deref.ensures.value (stored (goal.at.wrong_storage_line-requires-clause-few c).In_ok-numbers-in-Right).few

pub returns-in-Some-clause-faulty : goal.returns-in-Some-clause-faulty
returns-in-Some-clause-faulty c =
    sym c.in-Some.is ∙ found-is c.args.stmts.now c.in_ok-numbers-in-Right.numbers (stored (goal.at.returns-in-Some-clause-faulty c).In_ok-numbers-in-Right) c.args.names.now c.deref.result.now c.in_ok-line-in-Right.field-0 c.requires.table c.deref.ensures.value c.in_ok-line-in-Right.ensures

pub returns-clause-faulty : goal.returns-clause-faulty
returns-clause-faulty c =
    sym c.in-None.is ∙ found-is c.args.stmts.now c.in_ok-numbers-in-Right.numbers (stored (goal.at.returns-clause-faulty c).In_ok-numbers-in-Right) c.args.names.now c.deref.result.now c.in_ok-line-in-Right.field-0 c.requires.table c.deref.ensures.value c.in_ok-line-in-Right.ensures

pub returns-clause-numbers : goal.returns-clause-numbers
returns-clause-numbers c = stored (goal.at.returns-clause-numbers c).In_ok-numbers-in-Right
