-- Laws on printed texts, as statements.
use Rattle.std.specs.Prelude.{ℕ, List, ◌++◌}
use Rattle.f77_tree.specs.declared.programs.Program.{Program}
use Rattle.printed_laws.specs.ShortFlow.{IsShortFlow}
use Rattle.alias_classes.specs.Number.{HasFewClasses}
use Rattle.cfg_build.specs.Flow.{flow}
use Rattle.printed_graphs.specs.Printable.{IsPrintedText}
use Rattle.printed_laws.specs.ShortNet.{IsShortNet}
use Rattle.printed_laws.specs.ShortProgram.{IsShortProgram}
use Rattle.graph_jobs.specs.DueGraphs.{TellsGraph}
use Rattle.job_terms.specs.Due.{Due, all_due}
use Rattle.printed_laws.specs.TraceOf.{IsTraceOf, net_fired}

-- a text that tells the net of a program can be read
abbrev pub GraphsAreRead : Type 0
GraphsAreRead = (p : Program) (text : List ℕ) (tells : TellsGraph p text)
    → HasFewClasses p → IsShortProgram p → IsShortFlow (flow p.execs) → IsShortNet tells.net → IsPrintedText text

-- so can such a text with what is written for `trace` of that program after it
abbrev pub ProfilesAreRead : Type 0
ProfilesAreRead = (words : List (List ℕ)) (p : Program) (text : List ℕ) (due : Due) (tells : TellsGraph p text) (trace : IsTraceOf words p due)
    → HasFewClasses p → IsShortProgram p → IsShortFlow (flow p.execs) → IsShortNet tells.net → IsShortNet (net_fired words p due trace)
    → IsPrintedText (text ++ all_due due)

-- so can what is written for `trace`
abbrev pub TracesAreRead : Type 0
TracesAreRead = (words : List (List ℕ)) (p : Program) (due : Due) (trace : IsTraceOf words p due)
    → HasFewClasses p → IsShortFlow (flow p.execs) → IsShortNet (net_fired words p due trace) → IsPrintedText (all_due due)
