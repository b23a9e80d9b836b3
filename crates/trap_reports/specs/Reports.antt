-- The report of a sure trap.
use Rattle.std.specs.Prelude.{ℕ, List, ◌++◌, codes}
use Rattle.std.specs.Fmt.{decimal}
use Rattle.shown_lines.specs.Lines.{line_of, shown}
use Rattle.sure_traps.specs.declared.causes.SureTrap.{SureTrap}
use Rattle.trap_reports.specs.Words.{instead, wrong}

-- a place, what is wrong there, the line, and what to write instead
abbrev pub report_text : (file : List ℕ) → (line : ℕ) → (wrong shown instead : List ℕ) → List ℕ
report_text file line wrong shown instead =
    file ++ codes ":" ++ decimal line ++ codes ": error: " ++ wrong ++ codes ", so the statement traps [TRAP]\n  |" ++ shown ++ codes "\n  " ++ instead ++ codes "\n"

abbrev pub report_of : (file text : List ℕ) → SureTrap → List ℕ
report_of file text trap = report_text file trap.line (wrong trap.cause) (shown (line_of text trap.line)) (instead trap.cause)
