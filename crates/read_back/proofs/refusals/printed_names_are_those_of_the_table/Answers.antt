use Rattle.read_back.proofs.PrintedTable.{none_real, table_same}
use Rattle.read_back.proofs.PrintedTypes.{none_wrong_type}
use Rattle.read_back.proofs.refusals.printed_names_are_those_of_the_table.Goals as goal

pub returns-clause-table : goal.returns-clause-table
returns-clause-table c = λ q flat given. table_same q flat given.text given.arrays

pub returns-clause-known : goal.returns-clause-known
returns-clause-known c = λ q flat given. none_real q flat given.text given.arrays

pub returns-clause-kinds : goal.returns-clause-kinds
returns-clause-kinds c = λ q flat given. none_wrong_type q flat given.text given.arrays
