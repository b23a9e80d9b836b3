use Rattle.std.proofs.Common.{take}
use Rattle.printed_laws.specs.ShortProgram.{HaveShortLines}
use Rattle.printed_laws.proofs.programs.programs_are_short.Given as goal

abbrev pub invariant-loop-k : goal.invariant-loop-k
invariant-loop-k l = HaveShortLines (take l.k l.program.execs)
