use Rattle.read_back.proofs.PrintedCommon.{none_common_twice}
use Rattle.read_back.proofs.refusals.printed_names_are_common_once.Goals as goal

pub returns : goal.returns
returns c = λ q flat given. none_common_twice q flat given
