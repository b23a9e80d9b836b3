-- What is shown of the program in a file.
use Rattle.std.specs.Prelude.{◌≡◌, ◌⊎◌, ℕ, Bool, true, false, List, [], Option, Some, flat_map}
use Rattle.copied_names.specs.CopiedNames.{AreNamesOf}
use Rattle.copied_names.specs.declared.copied.CopiedName.{CopiedName}
use Rattle.f77_source.specs.Reading.{reading}
use Rattle.made_texts.specs.Texts.{PrintsGraphs, PrintsRun}
use Rattle.view_commands.specs.RunWords.{forks_apart, is_checked_last, is_run_told}
use Rattle.view_commands.specs.Words.{Program, Shown, Json, JsonTrace, Page, Profile, Rounds}
use Rattle.view_jobs.specs.Drawn.{loads_of}
use Rattle.view_jobs.specs.Given.{Given}
use Rattle.view_jobs.specs.Lowered.{OfProgram}
use Rattle.view_jobs.specs.Names.{name_text}
use Rattle.view_jobs.specs.Outputs.{IsOutput}
use Rattle.view_jobs.specs.Pages.{ShowsPage}
use Rattle.view_jobs.specs.Refused.{TellsReading}
use Rattle.printed_graphs.specs.declared.printed.Printed.{Printed}
use Rattle.view_jobs.specs.Shown.{IsSeen, ShowsOf}
use Rattle.view_output.specs.Told.{Adds}

-- whether the run is needed that the words tell
abbrev pub needs_run : Shown → (words : List (List ℕ)) → Bool
needs_run Rounds words = true
needs_run Profile words = true
needs_run JsonTrace words = true
needs_run Json words = is_run_told words
needs_run _ words = false

-- what `dfc` prints of a program was added: both graphs, and of a run also that
abbrev pub MadeText : (with_run : Bool) → (words : List (List ℕ)) → (program old new : List ℕ) → Type 0
MadeText true words program old new = PrintsRun (forks_apart words) program old new
MadeText false words program old new = PrintsGraphs words program old new

-- What is shown is made of what `dfc` prints of the program.
pub record IsMade (shown : Shown) (words : List (List ℕ)) (given : Given) (seen : Printed) : Type 0 where
  pub text : List ℕ
  pub made : MadeText (needs_run shown words) words given.text [] text
  pub is : IsSeen given.map text seen

-- This is shown of it, and the status is 0.
pub record ShowsMade (shown : Shown) (words : List (List ℕ)) (given : Given) (told now : Option (List ℕ)) (status : ℕ) : Type 0 where
  pub seen : Printed
  pub made : IsMade shown words given seen
  pub shows : ShowsOf shown (loads_of words) seen told now
  pub status_is : status ≡ 0

-- a page has two runs of the program
abbrev pub ShowsProgram : Shown → (words : List (List ℕ)) → Given → (told now : Option (List ℕ)) → (status : ℕ) → Type 0
ShowsProgram Page words given told now status = ShowsPage given words told now status
ShowsProgram shown words given told now status = ShowsMade shown words given told now status

-- What the program prints in its run was added.
pub record RunsProgram (words : List (List ℕ)) (given : Given) (told now : Option (List ℕ)) (status : ℕ) : Type 0 where
  pub output : List ℕ
  pub is : IsOutput given words output status
  pub added : Adds told now output

-- What names become was added.
pub record NamesProgram (given : Given) (told now : Option (List ℕ)) (status : ℕ) : Type 0 where
  pub names : List CopiedName
  pub are : AreNamesOf given.text names
  pub added : Adds told now (flat_map (name_text given.map) names)
  pub status_is : status ≡ 0

-- ---- in a file

abbrev pub is_checked : (words : List (List ℕ)) → Bool
is_checked words = is_checked_last (forks_apart words).0

-- `dfc` refuses the program, and the errors got the report.
pub record RefusesProgram (p : Program) (given : Given) (faults now : Option (List ℕ)) (status : ℕ) : Type 0 where
  pub report : List ℕ
  pub is : TellsReading p.name given (reading given.text (is_checked p.words)) (Some report)
  pub added : Adds faults now report
  pub status_is : status ≡ 2

-- This was done, with this status, and no fault told; or the program is refused, and nothing told of it.
abbrev pub UnlessRefused : Program → Given → (Done : ℕ → Type 0) → (told now faults faults_now : Option (List ℕ)) → (status : ℕ) → Type 0
UnlessRefused p given Done told now faults faults_now status = (Done status × (faults_now ≡ faults)) ⊎ (RefusesProgram p given faults faults_now status × (now ≡ told))

abbrev pub ShowsGiven : Shown → Program → Given → (told now faults faults_now : Option (List ℕ)) → (status : ℕ) → Type 0
ShowsGiven shown p given told now = UnlessRefused p given (ShowsProgram shown p.words given told now) told now

abbrev pub RunsGiven : Program → Given → (told now faults faults_now : Option (List ℕ)) → (status : ℕ) → Type 0
RunsGiven p given told now = UnlessRefused p given (RunsProgram p.words given told now) told now

abbrev pub NamesGiven : Program → Given → (told now faults faults_now : Option (List ℕ)) → (status : ℕ) → Type 0
NamesGiven p given told now = UnlessRefused p given (NamesProgram given told now) told now

abbrev pub ShowsFile : Shown → Program → (source : List ℕ) → (told now faults faults_now : Option (List ℕ)) → (status : ℕ) → Type 0
ShowsFile shown p source told now faults faults_now status = OfProgram p source (λ given. ShowsGiven shown p given told now faults faults_now status) told now faults faults_now status

abbrev pub RunsFile : Program → (source : List ℕ) → (told now faults faults_now : Option (List ℕ)) → (status : ℕ) → Type 0
RunsFile p source told now faults faults_now status = OfProgram p source (λ given. RunsGiven p given told now faults faults_now status) told now faults faults_now status

abbrev pub NamesFile : Program → (source : List ℕ) → (told now faults faults_now : Option (List ℕ)) → (status : ℕ) → Type 0
NamesFile p source told now faults faults_now status = OfProgram p source (λ given. NamesGiven p given told now faults faults_now status) told now faults faults_now status
