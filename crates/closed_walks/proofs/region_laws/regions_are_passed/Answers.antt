use Rattle.closed_walks.proofs.Orders.{entered_by, left_by}
use Rattle.closed_walks.proofs.region_laws.regions_are_passed.Goals as goal

pub returns-clause-entry : goal.returns-clause-entry
returns-clause-entry c = λ g a b node flow p before way inside. entered_by g flow a b p before node way inside

pub returns-clause-exit : goal.returns-clause-exit
returns-clause-exit c = λ g a b node flow p before inside way. left_by g flow a b p before node inside way
