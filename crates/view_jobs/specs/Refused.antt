-- What is told of a text that isn't a program.
use Rattle.std.specs.Prelude.{◌≡◌, ◌<◌, ◌⊎◌, ℕ, ⊤, if◌then◌else◌, Bool, true, false, List, [], ◌∷◌, length, flat_map, Option, Some, None, is_some, Result, Ok, Err}
use Rattle.std.specs.List.{list_any}
use Rattle.f77_tree.specs.declared.programs.Program.{Program}
use Rattle.f77_source.specs.Reading.{reading}
use Rattle.f77_source.specs.declared.source_end.Refusal.{Refusal}
use Rattle.job_terms.specs.Codes.{name_of}
use Rattle.job_terms.specs.declared.reading.Code.TheVariants.{Text}
use Rattle.refusal_reports.specs.Refusals.{IsReportOf, too_long}
use Rattle.source_maps.specs.Places.{Map, line_in}
use Rattle.view_jobs.specs.Files.{OfKnown}
use Rattle.sure_traps.specs.SureTraps.{traps_of}
use Rattle.sure_traps.specs.declared.causes.SureTrap.{SureTrap}
use Rattle.trap_reports.specs.Reports.{report_of}
use Rattle.view_jobs.specs.Given.{Given, OfGiven}
use Rattle.view_jobs.specs.Lowered.{IsLoweringReport}
use Rattle.view_output.specs.Told.{Adds}

-- a refusal at the line of the source
abbrev pub placed : Map → Refusal → Refusal
placed m refusal = record refusal { line = line_in m.lines refusal.line }

-- nothing of a program, and of another text the report of its refusal
abbrev pub TellsReading : (name : List ℕ) → Given → Result Program Refusal → Option (List ℕ) → Type 0
TellsReading name given (Ok p) None = ⊤
TellsReading name given (Err refusal) (Some report) = IsReportOf name given.source (placed given.map refusal) (name_of (Text refusal.code)) report
TellsReading name given _ _ = ⊥

-- a trap at the line of the source
abbrev pub trap_placed : Map → SureTrap → SureTrap
trap_placed m trap = record trap { line = line_in m.lines trap.line }

abbrev pub placed_report : (name : List ℕ) → Given → SureTrap → List ℕ
placed_report name given trap = report_of name given.source (trap_placed given.map trap)

-- the reports of the traps that are sure, one after another
abbrev pub traps_text : (name : List ℕ) → Given → Program → List ℕ
traps_text name given p = flat_map (placed_report name given) (traps_of p)

abbrev pub unless_empty : List ℕ → Option (List ℕ)
unless_empty [] = None
unless_empty (c ∷ cs) = Some (c ∷ cs)

-- what is wrong with a program that is read: its traps; and with another text: its refusal
abbrev pub TellsProgram : (name : List ℕ) → Given → Result Program Refusal → Option (List ℕ) → Type 0
TellsProgram name given (Ok p) report = report ≡ unless_empty (traps_text name given p)
TellsProgram name given (Err refusal) report = TellsReading name given (Err refusal) report

-- Everyday Fortran can't be lowered, as this report tells.
pub record TellsLowering (is_wide : Bool) (name source : List ℕ) (told : Option (List ℕ)) : Type 0 where
  pub wide : is_wide ≡ true
  pub report : List ℕ
  pub is : IsLoweringReport name source report
  pub told_is : told ≡ Some report

-- what is wrong with the program of a text, or why there is none
abbrev pub TellsText : (is_wide : Bool) → (name text : List ℕ) → Option (List ℕ) → Type 0
TellsText is_wide name text report = OfGiven is_wide text (λ given. TellsProgram name given (reading given.text false) report) ⊎ TellsLowering is_wide name text report

-- what is told of a file: that it is too long, or what is wrong with its text
abbrev pub TellsFile : (is_wide : Bool) → (name text : List ℕ) → Option (List ℕ) → Type 0
TellsFile is_wide name text report = (4194304 < length text) × (report ≡ Some (too_long name)) ⊎ TellsText is_wide name text report

-- ---- several files

abbrev pub AreReports : (is_wide : Bool) → (known : List ℕ → Option (List ℕ)) → (names : List (List ℕ)) → List (Option (List ℕ)) → Type 0
AreReports is_wide known [] [] = ⊤
AreReports is_wide known (name ∷ names) (report ∷ reports) = OfKnown (known name) (λ text. TellsFile is_wide name text report) × AreReports is_wide known names reports
AreReports is_wide known _ _ = ⊥

abbrev pub report_text : Option (List ℕ) → List ℕ
report_text None = []
report_text (Some report) = report

-- A file has this report, if it has one, and that was told.
pub record ReportsFile (is_wide : Bool) (known : Option (List ℕ)) (name : List ℕ) (told now : Option (List ℕ)) (found : Bool) : Type 0 where
  pub report : Option (List ℕ)
  pub is : OfKnown known (λ text. TellsFile is_wide name text report)
  pub added : Adds told now (report_text report)
  pub found_is : found ≡ is_some report

-- The reports of files were told one after another, and one was found or none.
pub record ReportsFiles (is_wide : Bool) (known : List ℕ → Option (List ℕ)) (names : List (List ℕ)) (told now : Option (List ℕ)) (found : Bool) : Type 0 where
  pub reports : List (Option (List ℕ))
  pub are : AreReports is_wide known names reports
  pub added : Adds told now (flat_map report_text reports)
  pub found_is : found ≡ list_any is_some reports

-- The status is 1 where one was found.
pub record ChecksFiles (is_wide : Bool) (known : List ℕ → Option (List ℕ)) (names : List (List ℕ)) (told now : Option (List ℕ)) (status : ℕ) : Type 0 where
  pub found : Bool
  pub reported : ReportsFiles is_wide known names told now found
  pub status_is : status ≡ (if found then 1 else 0)
