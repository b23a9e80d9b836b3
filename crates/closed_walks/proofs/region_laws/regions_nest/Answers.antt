use Rattle.closed_walks.proofs.Nesting.{regions_nest}
use Rattle.closed_walks.proofs.region_laws.regions_nest.Goals as goal

pub returns : goal.returns
returns c = λ g a b c d flow r s apart. regions_nest g flow a b c d r s apart
