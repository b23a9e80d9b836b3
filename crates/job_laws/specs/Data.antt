-- What is known of the data of a task.
use Rattle.std.specs.Prelude.{All}
use Rattle.op_table.specs.Words.{IsWord}
use Rattle.job_terms.specs.Tasks.{Task, Run}

-- the data of a run are words of the machine, of 32 bits; those of a game are, where a net is due
abbrev pub HasWords : Task → Type 0
HasWords (Run limit input) = All IsWord input
HasWords _ = Unit {0}
