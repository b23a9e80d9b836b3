use Rattle.read_back.proofs.PrintedDimensions.{none_dims_twice, none_wrong_dims, none_wrong_member}
use Rattle.read_back.proofs.refusals.printed_arrays_have_their_dimensions.Goals as goal

pub returns-clause-once : goal.returns-clause-once
returns-clause-once c = λ q flat given. none_dims_twice q flat given

pub returns-clause-sizes : goal.returns-clause-sizes
returns-clause-sizes c = λ q flat given. none_wrong_dims q flat given

pub returns-clause-members : goal.returns-clause-members
returns-clause-members c = λ q flat given. none_wrong_member q flat given.text given.arrays
