-- A stepper as a state of a run.
use Rattle.std.specs.Prelude.{◌≡◌, ℕ, ℤ, List, []}
use Rattle.f77_tree.specs.declared.programs.Program.{Program}
use Rattle.f77_tree.specs.Line.{IsLine}
use Rattle.f77_tree.specs.Run.{Mark, Running, Ended, Trapped, State}
use Rattle.f77_meaning.specs.declared.stepper.Progress.{Progress}
use Rattle.f77_meaning.specs.declared.stepper.Progress.TheVariants.{Going, Done, Failed}
use Rattle.f77_meaning.specs.declared.stepper.Stepped.{Stepped}
use Rattle.f77_meaning.specs.declared.stepper.Stepped.TheVariants.{Moved, Line, Ended as End_told, Trapped as Trap_told}
use Rattle.f77_meaning.specs.declared.stepper.Stepper.{Stepper}
use Rattle.f77_meaning.specs.Storage.{memory_of}

abbrev pub program_of : Stepper → Program
program_of s = s.program.now

-- the data
abbrev pub input_of : Stepper → List ℤ
input_of s = s.input.items

abbrev pub mark_in : Progress → Mark
mark_in Going = Running
mark_in Done = Ended
mark_in (Failed trap line) = Trapped trap line

-- the state, with this output so far
abbrev pub state_of : Stepper → List ℕ → State
state_of s out = record { position = s.position; memory = memory_of s.storage; out = out; mark = mark_in s.progress }

-- the line that was made last
abbrev pub last_line : Stepper → List ℕ
last_line s = s.line.items

-- the mark that an answer tells
abbrev pub told_mark : Stepped → Mark
told_mark Moved = Running
told_mark Line = Running
told_mark End_told = Ended
told_mark (Trap_told trap line) = Trapped trap line

-- what a step adds to the output: where it answers Line, that line
abbrev pub told_text : Stepped → List ℕ → List ℕ
told_text Moved line = []
told_text Line line = line
told_text End_told line = []
told_text (Trap_told trap line_no) line = []

-- the line that was made last, before a step and after it: a step that answers Line has made a whole one
abbrev pub KeepsLine : Stepped → List ℕ → List ℕ → Type 0
KeepsLine Line old new = IsLine new
KeepsLine Moved old new = new ≡ old
KeepsLine End_told old new = new ≡ old
KeepsLine (Trap_told trap line_no) old new = new ≡ old
