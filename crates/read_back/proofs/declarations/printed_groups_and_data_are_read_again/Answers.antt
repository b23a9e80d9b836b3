use Rattle.read_back.proofs.ReadDeclarations.{groups_same, inits_same}
use Rattle.read_back.proofs.declarations.printed_groups_and_data_are_read_again.Goals as goal

pub returns-clause-groups : goal.returns-clause-groups
returns-clause-groups c = λ q flat given. groups_same q flat given

pub returns-clause-inits : goal.returns-clause-inits
returns-clause-inits c = λ q flat given. inits_same q flat given
