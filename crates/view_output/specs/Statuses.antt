-- The exit statuses of faults.
use Rattle.std.specs.Prelude.{ℕ}
use Rattle.view_output.specs.declared.fault.Fault.{Fault}
use Rattle.view_output.specs.declared.fault.Fault.TheVariants.{Usage, Line, Firing, Refused, NoStatement, NoLine, File, NoText, TooLong, Read, Write, NoMemory, NoWords}

-- 1 for words without meaning, 2 for a text that can't be read, and from 5 on as that of `dfc`
abbrev pub status_of : Fault → ℕ
status_of Usage = 1
status_of (Line line) = 2
status_of (Firing firing) = 2
status_of Refused = 2
status_of (NoStatement line) = 2
status_of (NoLine line) = 2
status_of File = 5
status_of NoText = 2
status_of TooLong = 2
status_of Read = 5
status_of Write = 6
status_of NoMemory = 7
status_of NoWords = 8
