use Rattle.read_back.proofs.PrintedUnit.{printed_plain, printed_unit}
use Rattle.read_back.proofs.programs.printed_programs_are_one_unit.Goals as goal

pub returns : goal.returns
returns c = record { unit = printed_unit; plain = printed_plain }
