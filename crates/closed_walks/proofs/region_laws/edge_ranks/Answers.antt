use Rattle.closed_walks.proofs.Ranks.{rank_of, rank_bound, IsRank-of, grown_before}
use Rattle.closed_walks.proofs.region_laws.edge_ranks.Goals as goal

pub returns-clause-rank : goal.returns-clause-rank
returns-clause-rank c = λ g flow. (rank_of g flow, rank_bound g flow, IsRank-of g flow)

pub returns-clause-grown : goal.returns-clause-grown
returns-clause-grown c = λ g a b edges flow p before grown i within inside. grown_before g flow a b p before edges grown i within inside
