use Rattle.std.proofs.Common.{refl}
use Rattle.inlined_copies.proofs.NamesOfTables.{table-of}
use Rattle.f77_subs.proofs.unit_tables.unit_table.Goals as goal

pub returns : goal.returns
returns c = table-of c.args.new.now.text.now.us.now c.args.counts.now c.args.k c.at-unit.result.now _ c.requires.same c.at-unit.ensures.statements refl c.in_ok-declared.ensures c.in_ok-names.ensures c.in_ok-labels.ensures.labels
