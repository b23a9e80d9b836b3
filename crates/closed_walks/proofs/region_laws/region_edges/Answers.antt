use Rattle.closed_walks.proofs.Regions.{one_exit, one_entry, entry_of}
use Rattle.closed_walks.proofs.region_laws.region_edges.Goals as goal

pub returns-clause-entry : goal.returns-clause-entry
returns-clause-entry c = λ g a b c flow r s. one_exit g flow a b c r s

pub returns-clause-exit : goal.returns-clause-exit
returns-clause-exit c = λ g a b c flow r s. one_entry g flow a c b r s

pub returns-clause-nodes : goal.returns-clause-nodes
returns-clause-nodes c = λ g a b c d flow r s equal. entry_of g flow a b c d r s equal
