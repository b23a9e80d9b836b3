-- What each job promises of a text that is a program, beyond the bytes that are due: output, ends and traps are those of a run of the
-- text, which the program that it comes to follows in at most four times as many steps, with the same words by name (`RunsAs`).
use Rattle.std.specs.Prelude.{◌≡◌, ◌<◌, ◌≤◌, ◌+◌, ◌*◌, ◌++◌, ◌↔◌, ◌⊎◌, ℕ, ℤ, suc, Bool, false, All, List, [], length, slice_index}
use Rattle.op_table.specs.declared.Trap.{Trap}
use Rattle.op_table.specs.Words.{IsWord}
use Rattle.closed_walks.specs.Graph.{edge_count}
use Rattle.closed_walks.specs.Walk.{IsCycleEquivalent}
use Rattle.f77_tree.specs.declared.programs.Program.{Program}
use Rattle.f77_tree.specs.Operations.{most_operations}
use Rattle.f77_tree.specs.Prefixes.{IsPrefix}
use Rattle.f77_tree.specs.Run as marks
use Rattle.f77_tree.specs.Run.{Ended, EndsIn, TrapsAt, out, source}
use Rattle.alias_classes.specs.Number.{number_of_classes}
use Rattle.cfg_build.specs.Flow.{flow}
use Rattle.cfg_build.specs.Joined.{FlowGraph}
use Rattle.region_tree.specs.Tree.{Tree, IsRegionTree}
use Rattle.flat_programs.specs.declared.statements.FlatLine.{FlatLine}
use Rattle.flat_programs.specs.FlatForm.{AreStatementsOf}
use Rattle.flat_programs.specs.Text.{text as text_of}
use Rattle.op_board.specs.OperationNets.{OperationNet}
use Rattle.read_back.specs.PrintedArrays.{HasNoPrintedArrays}
use Rattle.read_back.specs.ReadAgain.{IsReadBack}
use Rattle.job_terms.specs.declared.status.Status.TheVariants.{Done, Refused as Refused_status, Trapped}
use Rattle.job_terms.specs.declared.task.Told.{Told}
use Rattle.job_terms.specs.declared.task.Told.TheVariants.{Output, Nodes, Store}
use Rattle.job_terms.specs.Due.{Due, lines_in, trapped, trapped_alone}
use Rattle.dfc_jobs.specs.Due.{IsDueOn}
use Rattle.sample_jobs.specs.DueSamples.{IsDueSample, TellsSizes, up_to}
use Rattle.game_jobs.specs.DueGames.{IsPlayed, told_by_forks}
use Rattle.graph_jobs.specs.DueGraphs.{TellsGraph}
use Rattle.program_nets.specs.Game.{GameKind, IsNetOn, fork_game, operation_game}
use Rattle.graph_texts.specs.GraphText.{graph_text}
use Rattle.job_terms.specs.Reading.{Reading, Accepted, Refused, reading}
use Rattle.graph_jobs.specs.Regions.{regions_text}
use Rattle.job_laws.specs.SourceRuns.{AreRunsOf, PrintTheSame, RunsAs, SourceRun, SourceRuns, Stops, Writes, run_of}
use Rattle.game_jobs.specs.StoreText.{fired_line, store_text}
use Rattle.job_terms.specs.Tasks.{Asked, Task, Regions, Graph, Play, Forks, Regen, Run}

-- ---- games

-- how many lines a net has: that of output, and one for each class
abbrev pub line_count : Program → ℕ
line_count p = suc (number_of_classes p)

-- so many firings are enough for so many steps of the program
abbrev pub bound_of : Program → (steps : ℕ) → ℕ
bound_of p steps = (5 * (line_count p + 1) + most_operations p) * (steps + 1)

-- what is told as output is a prefix of what the run writes
abbrev pub TellsPrefix : Told → SourceRun → List ℕ → Type 0
TellsPrefix Output run text = Writes run text
TellsPrefix Nodes run text = Unit {0}
TellsPrefix Store run text = Unit {0}

-- what is told as output begins with this one
abbrev pub TellsAtLeast : Told → (output text : List ℕ) → Type 0
TellsAtLeast Output output text = IsPrefix output text
TellsAtLeast Nodes output text = Unit {0}
TellsAtLeast Store output text = Unit {0}

-- What is told where the run ended in so many steps, and the game came to rest after so many firings: all that the run writes, a line
-- for each firing, or the final words of all names and the number of firings.
abbrev pub TellsEnd : Told → Asked → Program → (steps firings : ℕ) → List ℕ → Type 0
TellsEnd Output asked p steps firings text = text ≡ out p asked.input steps
TellsEnd Nodes asked p steps firings text = lines_in text ≡ firings
TellsEnd Store asked p steps firings text = text ≡ store_text p.names (source p asked.input steps).memory.store ++ fired_line firings

-- What is told where the run trapped at so many steps: all that it writes, or no store.
abbrev pub TellsTrap : Told → Asked → Program → (steps : ℕ) → List ℕ → Type 0
TellsTrap Output asked p steps text = text ≡ out p asked.input steps
TellsTrap Nodes asked p steps text = Unit {0}
TellsTrap Store asked p steps text = text ≡ []

-- The run ends, that of the program in so many steps and with the same output, and what is told is what it comes to. The game comes to
-- rest after few firings.
pub record MeansRest {M : Type 0} (kind : GameKind M) (what : Told) (asked : Asked) (p : Program) (run : SourceRun) (due : Due) : Type 0 where
  pub steps : ℕ
  pub ends : EndsIn p asked.input steps
  pub run_ends : Stops run Ended (out p asked.input steps)
  pub firings : ℕ
  pub played : IsPlayed kind what asked p firings due
  pub few : firings ≤ bound_of p steps
  pub told : TellsEnd what asked p steps firings due.text

-- The run traps, with the trap and at the line that are told, and so does that of the program, with the same output.
pub record MeansTrap (what : Told) (asked : Asked) (p : Program) (run : SourceRun) (due : Due) : Type 0 where
  pub steps : ℕ
  pub trap : Trap
  pub line : ℕ
  pub traps : TrapsAt p asked.input steps trap line
  pub run_traps : Stops run (marks.Trapped trap line) (out p asked.input steps)
  pub is : due ≡ trapped due.text trap line
  pub told : TellsTrap what asked p steps due.text

-- The same by steps of the run of the text, of which the program takes at most four each (`KeepsUp`): where the run ends, the game is
-- done; where it traps, the game traps in the source's own order; and what it has written is told in that order.
pub record MeansSoon (what : Told) (asked : Asked) (p : Program) (run : SourceRun) (due : Due) : Type 0 where
  pub ends : (n : ℕ) → run.mark n ≡ Ended → bound_of p (4 * n) ≤ asked.limit → due.status ≡ Done
  pub fails : (n : ℕ) (trap : Trap) (line : ℕ) → run.mark n ≡ marks.Trapped trap line → asked.picks ≡ [] → bound_of p (4 * n) ≤ asked.limit → due.status ≡ Trapped
  pub reaches : (n : ℕ) → asked.picks ≡ [] → bound_of p (4 * n) ≤ asked.limit → TellsAtLeast what (run.out n) due.text

-- What is written as output is a prefix of what the run writes, whatever the picks and the limit. The game is done only where the run
-- ends, and traps only where it traps. Where the run of the program ends and the limit is large enough, the game is done; where it traps
-- and the limit is large enough, the game traps in the source's own order. In that order what the program has written after some steps is
-- told, whether or not it ever ends, where the limit is large enough for these steps.
pub record MeansPlay {M : Type 0} (kind : GameKind M) (what : Told) (asked : Asked) (p : Program) (run : SourceRun) (due : Due) : Type 0 where
  pub prefix : TellsPrefix what run due.text
  pub rests : due.status ≡ Done → MeansRest kind what asked p run due
  pub traps : due.status ≡ Trapped → MeansTrap what asked p run due
  pub ends : (steps : ℕ) → EndsIn p asked.input steps → bound_of p steps ≤ asked.limit → due.status ≡ Done
  pub fails : (steps : ℕ) (trap : Trap) (line : ℕ) → TrapsAt p asked.input steps trap line → asked.picks ≡ [] → bound_of p steps ≤ asked.limit → due.status ≡ Trapped
  pub reaches : (steps : ℕ) → asked.picks ≡ [] → bound_of p steps ≤ asked.limit → TellsAtLeast what (out p asked.input steps) due.text
  pub soon : MeansSoon what asked p run due

-- ---- graphs

-- The text is that of the net of operations of the program, which is the net that games of the program fire, over whatever data.
pub record MeansGraph (p : Program) (due : Due) : Type 0 where
  pub done : due.status ≡ Done
  pub tells : TellsGraph p due.text
  pub fired : (words : List ℤ) (net : OperationNet) (own : IsNetOn p words net) → due.text ≡ graph_text p own.parts.classes net

-- ---- regions

-- The text is the line of counts, then one line for each piece, one for each edge, and one for each region, in the order of their
-- numbers, and nothing else. Two lines of edges tell one class exactly where the edges are cycle equivalent.
pub record MeansRegions (f : FlowGraph) (due : Due) : Type 0 where
  pub done : due.status ≡ Done
  pub classes : List ℕ
  pub tree : Tree
  pub lines : due.text ≡ regions_text f classes tree
  pub same : (a b : ℕ) → a < edge_count f.graph → b < edge_count f.graph → (slice_index classes a ≡ slice_index classes b) ↔ IsCycleEquivalent f.graph a b
  pub regions : IsRegionTree f.graph tree

-- ---- rewritten programs

-- The text is that of a program of flat statements, which prints what the runs print, whatever the data. Where no array of the program
-- bears a name with which an intrinsic function is printed, the text is read as that program again, on other lines and with COMMON once a
-- block, and is one unit without subroutines.
pub record MeansText (checked : Bool) (p : Program) (runs : SourceRuns) (text : List ℕ) : Type 0 where
  pub form : Program
  pub flat : List FlatLine
  pub statements : AreStatementsOf form flat
  pub is : text ≡ text_of form flat
  pub alike : (input : List ℤ) → All IsWord input → PrintTheSame (runs input) (run_of form input)
  pub read : HasNoPrintedArrays p.names → IsReadBack text checked form

-- The text is written, or the rewriting passes a limit.
pub record MeansRegen (checked : Bool) (p : Program) (runs : SourceRuns) (due : Due) : Type 0 where
  pub ends : (due.status ≡ Done) ⊎ (due.status ≡ Refused_status)
  pub text : due.status ≡ Done → MeansText checked p runs due.text

-- so many steps of the rewritten form are enough for so many steps of the program
abbrev pub run_bound : Program → (steps : ℕ) → ℕ
run_bound p steps = (most_operations p + 3) * steps

-- The run ends, and the text is all that it writes. That of the program ends in so many steps, with the same output.
pub record MeansEnd (input : List ℤ) (p : Program) (run : SourceRun) (text : List ℕ) : Type 0 where
  pub run_ends : Stops run Ended text
  pub steps : ℕ
  pub ends : EndsIn p input steps
  pub output : text ≡ out p input steps

-- The run traps with the trap that is told, and the text before is all that it writes. So does that of the program.
pub record MeansStop (input : List ℤ) (p : Program) (run : SourceRun) (due : Due) : Type 0 where
  pub steps : ℕ
  pub trap : Trap
  pub line : ℕ
  pub run_traps : Stops run (marks.Trapped trap line) due.text
  pub traps : TrapsAt p input steps trap line
  pub is : due ≡ trapped_alone due.text trap
  pub output : due.text ≡ out p input steps

-- The same by steps of the run of the text, of which the program takes at most four each.
pub record RunsSoon (limit : ℕ) (p : Program) (run : SourceRun) (due : Due) : Type 0 where
  pub finishes : (n : ℕ) → run.mark n ≡ Ended → run_bound p (4 * n) ≤ limit → (due.status ≡ Done) ⊎ (due.status ≡ Refused_status)
  pub fails : (n : ℕ) (trap : Trap) (line : ℕ) → run.mark n ≡ marks.Trapped trap line → run_bound p (4 * n) ≤ limit → (due.status ≡ Trapped) ⊎ (due.status ≡ Refused_status)
  pub reaches : (n : ℕ) → run_bound p (4 * n) ≤ limit → IsPrefix (run.out n) due.text ⊎ (due.status ≡ Refused_status)

-- What is written as output is a prefix of what the run writes. The job is done only where the run ends, and tells of a trap only where
-- it traps. Where that of the program ends or traps and the limit is large enough, so it is, but for a limit of the rewriting. What the
-- program has written after some steps is told, where the limit is large enough for these steps, but for a limit of the rewriting.
pub record MeansRun (limit : ℕ) (input : List ℤ) (p : Program) (run : SourceRun) (due : Due) : Type 0 where
  pub prefix : Writes run due.text
  pub ends : due.status ≡ Done → MeansEnd input p run due.text
  pub traps : due.status ≡ Trapped → MeansStop input p run due
  pub finishes : (steps : ℕ) → EndsIn p input steps → run_bound p steps ≤ limit → (due.status ≡ Done) ⊎ (due.status ≡ Refused_status)
  pub fails : (steps : ℕ) (trap : Trap) (line : ℕ) → TrapsAt p input steps trap line → run_bound p steps ≤ limit → (due.status ≡ Trapped) ⊎ (due.status ≡ Refused_status)
  pub reaches : (steps : ℕ) → run_bound p steps ≤ limit → IsPrefix (out p input steps) due.text ⊎ (due.status ≡ Refused_status)
  pub soon : RunsSoon limit p run due

-- what each task promises
abbrev pub Means : Task → (checked : Bool) → Program → SourceRuns → Due → Type 0
Means Regions checked p runs due = MeansRegions (flow p.execs) due
Means Graph checked p runs due = MeansGraph p due
Means (Play what asked) checked p runs due = MeansPlay operation_game what asked p (runs asked.input) due
Means (Forks nodes asked) checked p runs due = MeansPlay fork_game (told_by_forks nodes) asked p (runs asked.input) due
Means Regen checked p runs due = MeansRegen checked p runs due
Means (Run limit input) checked p runs due = MeansRun limit input p (runs input) due

-- No two things are due on the program, and what is due means this of the runs.
pub record MeansOn (task : Task) (checked : Bool) (p : Program) (runs : SourceRuns) : Type 0 where
  pub one : (a b : Due) → IsDueOn task checked p a → IsDueOn task checked p b → a ≡ b
  pub means : (due : Due) → IsDueOn task checked p due → Means task checked p runs due

-- The text has runs, any of which are alike with those of the program; and what is due means this of any runs of the text.
pub record MeansAccepted (task : Task) (checked : Bool) (bytes : List ℕ) (p : Program) : Type 0 where
  pub runs : RunsAs bytes checked p
  pub means : (runs : SourceRuns) → AreRunsOf bytes checked p runs → MeansOn task checked p runs

abbrev pub MeansRead : Task → (checked : Bool) → (bytes : List ℕ) → Reading → Type 0
MeansRead task checked bytes (Refused line code) = Unit {0}
MeansRead task checked bytes (Accepted p) = MeansAccepted task checked bytes p

-- ---- samples

-- The run of the program ends, and after the sizes the text is all that it writes, twice: as it is fired, and as it is run.
pub record MeansTwice (n bytes : ℕ) (p : Program) (text : List ℕ) : Type 0 where
  pub steps : ℕ
  pub ends : EndsIn p [] steps
  pub sizes : List ℕ
  pub tells_sizes : TellsSizes n bytes p sizes
  pub output : text ≡ sizes ++ out p [] steps ++ out p [] steps

-- No two things are due of the program of a sample, and each part of what is due means what the job promises that owes it. It is done
-- only where the run of the program ends; and where that ends and the limit is large enough, it is, but for a limit of the rewriting.
pub record MeansSample (n bytes limit : ℕ) (p : Program) : Type 0 where
  pub one : (a b : Due) → IsDueSample n bytes limit p a → IsDueSample n bytes limit p b → a ≡ b
  pub regions : MeansOn Regions false p (run_of p)
  pub graph : MeansOn Graph false p (run_of p)
  pub fired : MeansOn (Play Output (up_to limit)) false p (run_of p)
  pub ran : MeansOn (Run limit []) false p (run_of p)
  pub twice : (due : Due) → IsDueSample n bytes limit p due → due.status ≡ Done → MeansTwice n bytes p due.text
  pub finishes : (due : Due) (steps : ℕ) → IsDueSample n bytes limit p due → EndsIn p [] steps → bound_of p steps ≤ limit → run_bound p steps ≤ limit → (due.status ≡ Done) ⊎ (due.status ≡ Refused_status)

abbrev pub MeansSampleRead : (n bytes limit : ℕ) → Reading → Type 0
MeansSampleRead n bytes limit (Refused line code) = Unit {0}
MeansSampleRead n bytes limit (Accepted p) = MeansSample n bytes limit p

abbrev pub MeansSampleText : (n limit : ℕ) → (text : List ℕ) → Type 0
MeansSampleText n limit text = MeansSampleRead n (length text) limit (reading false text)
