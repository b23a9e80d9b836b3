use Rattle.view_commands.proofs.NumbersAgain.{numbers_again}
use Rattle.view_commands.proofs.numbers.written_numbers_are_read.Goals as goal

pub returns : goal.returns
returns c = numbers_again
