-- What is told of a text that is lowered.
use Rattle.std.specs.Prelude.{◌≡◌, ◌≤◌, ◌⊎◌, ◌++◌, ℕ, ⊤, suc, true, length, List, [], ◌∷◌, Option, codes, flat_map, is_some, string_bytes}
use Rattle.std.specs.Fmt.{decimal}
use Rattle.std.specs.declared.alloc.Global.{Global}
use Rattle.std.specs.declared.string.String.{String}
use Rattle.f77_lower.specs.Lowering.{IsProgram}
use Rattle.shown_lines.specs.Lines.{caret, line_of, shown}
use Rattle.shown_lines.specs.Places.{place_text, lines_text as shown_lines_text}
use Rattle.shown_lines.specs.declared.places.Place.{Place}
use Rattle.source_maps.specs.Places.{Map}
use Rattle.view_commands.specs.Words.{Program}
use Rattle.view_commands.specs.declared.arguments.LoweredForm.{LoweredForm}
use Rattle.view_commands.specs.declared.arguments.LoweredForm.TheVariants as form
use Rattle.view_jobs.specs.Given.{Given, IsLoweredTo, IsWithin, Lowers, OfGiven, given_meant}
use Rattle.view_jobs.specs.declared.given.FileText.{FileText}
use Rattle.view_jobs.specs.declared.given.FileText.TheVariants as file_text
use Rattle.view_jobs.specs.declared.given.Lowering.{Lowering}
use Rattle.view_jobs.specs.declared.given.Lowering.TheVariants as lowering
use Rattle.view_output.specs.Told.{Adds}

-- ---- what can't be lowered

-- a place, why what stands there can't be lowered, and the lines that are shown
abbrev pub lowering_text : (place reason lines : List ℕ) → List ℕ
lowering_text place reason lines = place ++ codes ": error: " ++ reason ++ codes "\n" ++ lines

-- the same of a line, with a caret
abbrev pub place_report : Place → (line reason : List ℕ) → List ℕ
place_report place line reason = lowering_text (place_text place) reason (shown_lines_text (shown line) (caret line place.column))

-- The place is told with a reason, and with its line of the source.
pub record TellsPlace (place : Place) (source report : List ℕ) : Type 0 where
  pub reason : List ℕ
  pub is : report ≡ place_report place (line_of source place.line) reason

-- The source is no program, and this tells why it can't be lowered to one.
pub record IsLoweringReport (name source report : List ℕ) : Type 0 where
  pub no_program : IsProgram source → ⊥
  pub place : Place
  pub in_file : place.file.now ≡ name
  pub at_column : is_some place.column ≡ true
  pub tells : TellsPlace place source report

-- what everyday Fortran comes to
abbrev pub IsLowering : (name source : List ℕ) → Lowering → Type 0
IsLowering name source (lowering.Done lowered) = Lowers source lowered
IsLowering name source (lowering.Refused report) = IsLoweringReport name source (string_bytes report)

abbrev pub IsWithinLowering : Lowering → Type 0
IsWithinLowering (lowering.Done lowered) = length lowered.text.items ≤ 4194304
IsWithinLowering (lowering.Refused report) = ⊤

abbrev pub IsWithinFile : FileText → Type 0
IsWithinFile (file_text.Program given) = IsWithin (given_meant given)
IsWithinFile (file_text.Refused report) = ⊤

-- what a file has
abbrev pub IsFileText : Program → (source : List ℕ) → FileText → Type 0
IsFileText p source (file_text.Program given) = IsLoweredTo p.is_wide source given.lowered × (given.source.items ≡ source)
IsFileText p source (file_text.Refused report) = (p.is_wide ≡ true) × IsLoweringReport p.name source (string_bytes report)

-- Everyday Fortran can't be lowered, and the errors got the report.
pub record RefusesLowering (p : Program) (source : List ℕ) (faults now : Option (List ℕ)) (status : ℕ) : Type 0 where
  pub wide : p.is_wide ≡ true
  pub report : List ℕ
  pub is : IsLoweringReport p.name source report
  pub added : Adds faults now report
  pub status_is : status ≡ 2

-- this is done with the program of a source; or it can't be lowered, and nothing is told
abbrev pub OfProgram : Program → (source : List ℕ) → (Does : Given → Type 0) → (told now faults faults_now : Option (List ℕ)) → (status : ℕ) → Type 0
OfProgram p source Does told now faults faults_now status = OfGiven p.is_wide source Does ⊎ (RefusesLowering p source faults faults_now status × (now ≡ told))

-- ---- what is lowered

-- a line of a text, and the line of the source that it comes from
abbrev pub line_text : (line source : ℕ) → List ℕ
line_text line source = decimal line ++ codes " " ++ decimal source ++ codes "\n"

-- the same for each line from this one on
abbrev pub lines_text : (line : ℕ) → (sources : List ℕ) → List ℕ
lines_text line [] = []
lines_text line (source ∷ sources) = line_text line source ++ lines_text (suc line) sources

-- a name that was made shorter
abbrev pub short_line : (long short : List ℕ) → List ℕ
short_line long short = codes "NAME " ++ long ++ codes " " ++ short ++ codes "\n"

abbrev pub short_name_text : String Global × String Global → List ℕ
short_name_text both = short_line (string_bytes both.0) (string_bytes both.1)

abbrev pub map_text : Map → List ℕ
map_text m = lines_text 1 m.lines ++ flat_map short_name_text m.names

abbrev pub form_text : LoweredForm → Given → List ℕ
form_text form.Text given = given.text
form_text form.Map given = map_text given.map

-- The lowered text, or the map, was added.
pub record LowersGiven (which : LoweredForm) (given : Given) (told now faults faults_now : Option (List ℕ)) (status : ℕ) : Type 0 where
  pub added : Adds told now (form_text which given)
  pub no_fault : faults_now ≡ faults
  pub status_is : status ≡ 0

abbrev pub LowersFile : LoweredForm → Program → (source : List ℕ) → (told now faults faults_now : Option (List ℕ)) → (status : ℕ) → Type 0
LowersFile which p source told now faults faults_now status = OfProgram p source (λ given. LowersGiven which given told now faults faults_now status) told now faults faults_now status
