use Rattle.closed_walks.proofs.Orders.{either_before, not_both, last_is_zero}
use Rattle.closed_walks.proofs.Ranks.{before_on}
use Rattle.closed_walks.proofs.region_laws.class_order.Goals as goal

pub returns-clause-first : goal.returns-clause-first
returns-clause-first c = λ g a b flow p. either_before g flow a b p

pub returns-clause-not_both : goal.returns-clause-not_both
returns-clause-not_both c = λ g a b flow p before after. not_both g flow a b p before after

pub returns-clause-on : goal.returns-clause-on
returns-clause-on c = λ g a b c flow p q first second. before_on g flow a b c p q first second

pub returns-clause-last : goal.returns-clause-last
returns-clause-last c = λ g c flow p. last_is_zero g flow c p
