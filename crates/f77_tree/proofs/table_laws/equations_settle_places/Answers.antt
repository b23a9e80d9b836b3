use Rattle.f77_tree.proofs.OnePlacing.{one-count, one-place, one-table}
use Rattle.f77_tree.proofs.table_laws.equations_settle_places.Goals as goal

pub returns-clause-places : goal.returns-clause-places
returns-clause-places c = λ names others commons more all words words' k differ table is also lt. one-place names others commons more all words words' differ table is also k lt

pub returns-clause-words : goal.returns-clause-words
returns-clause-words c = λ names others commons more all words words' differ table is also. one-count names others commons more all words words' differ table is also

pub returns-clause-table : goal.returns-clause-table
returns-clause-table c = λ names others commons more all words words' differ table is also. one-table names others commons more all words words' differ table is also
