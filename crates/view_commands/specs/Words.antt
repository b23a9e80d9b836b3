-- What the words after the program's name ask for.
use Rattle.std.specs.Prelude.{ℕ, Bool, true, false, if◌then◌else◌, List, [], ◌∷◌, map, Option, Some, None, option_map, option_and_then, codes}
use Rattle.std.specs.List.{list_any}
use Rattle.std.specs.Str.{bytes_eq}
use Rattle.std.specs.String.{string_bytes}
use Rattle.view_commands.specs.Numbers.{number_on, numbers_on}
use Rattle.view_commands.specs.RunWords.{begins_with}
use Rattle.view_commands.specs.declared.arguments.Job as read_job
use Rattle.view_commands.specs.declared.arguments.Job.TheVariants as job
use Rattle.view_commands.specs.declared.arguments.LoweredForm.{LoweredForm}
use Rattle.view_commands.specs.declared.arguments.LoweredForm.TheVariants as form
use Rattle.view_commands.specs.declared.arguments.Program as read_program
use Rattle.view_commands.specs.declared.arguments.Task as read_task
use Rattle.view_commands.specs.declared.arguments.Task.TheVariants as task
use Rattle.view_commands.specs.declared.commands.Command.{Command}
use Rattle.view_commands.specs.declared.commands.Command.TheVariants as command
use Rattle.view_output.specs.declared.shown_lines.Lines.{Lines}
use Rattle.view_output.specs.declared.shown_lines.Lines.TheVariants as lines

-- what is shown of a program; of the dataflow graph all token lines where none are told
pub data Shown : Type 0 where
  Chart : Shown
  Rounds : Shown
  Page : Shown
  Regions : Shown
  Dot : (lines : Option (List ℕ)) → Shown
  Json : Shown
  JsonTrace : Shown
  Profile : Shown
  Dependences : Shown
  DependencesJson : Shown
  Independent : (first second : ℕ) → Shown

-- a program in a file, in everyday Fortran or not, with words for its run
pub record Program : Type 0 where
  pub is_wide : Bool
  pub name : List ℕ
  pub words : List (List ℕ)

-- Something is shown of the program in a file, or of the one that standard input tells.
pub data Asked : Type 0 where
  Help : Asked
  HelpOf : Command → Asked
  Version : Asked
  Show : Shown → Option Program → Asked
  Check : (is_wide : Bool) (files : List (List ℕ)) → Asked
  Names : Program → Asked
  Lower : Program → LoweredForm → Asked
  Run : Program → Asked

-- ---- what is meant

abbrev pub lines_meant : Lines → Option (List ℕ)
lines_meant lines.All = None
lines_meant (lines.Only numbers) = Some numbers.items

abbrev pub task_meant : read_task.Task → Shown
task_meant task.Chart = Chart
task_meant task.Rounds = Rounds
task_meant task.Page = Page
task_meant task.Regions = Regions
task_meant (task.Dot lines) = Dot (lines_meant lines)
task_meant task.Json = Json
task_meant task.JsonTrace = JsonTrace
task_meant task.Profile = Profile
task_meant task.Dependences = Dependences
task_meant task.DependencesJson = DependencesJson
task_meant (task.Independent first second) = Independent first second

abbrev pub program_meant : read_program.Program → Program
program_meant p = record { is_wide = p.is_wide; name = p.name.now; words = map string_bytes p.words.now }

abbrev pub job_meant : read_job.Job → Asked
job_meant job.Help = Help
job_meant (job.HelpOf command) = HelpOf command
job_meant job.Version = Version
job_meant (job.Show task program) = Show (task_meant task) (option_map program_meant program)
job_meant (job.Check files) = Check files.is_wide (map string_bytes files.names.now)
job_meant (job.Names program) = Names (program_meant program)
job_meant (job.Lower program form) = Lower (program_meant program) form
job_meant (job.Run program) = Run (program_meant program)

-- ---- words

abbrev pub is_option : List ℕ → Bool
is_option word = begins_with (codes "-") word

-- whether an option is the first of the words, and the words after it
abbrev pub option_on : (option : List ℕ) → List (List ℕ) → Bool × List (List ℕ)
option_on option [] = (false, [])
option_on option (word ∷ words) = if bytes_eq word option then (true, words) else (false, word ∷ words)

-- the program in the file that words name, of which the first is no option
abbrev pub file_of : (is_wide : Bool) → List (List ℕ) → Option Program
file_of is_wide [] = None
file_of is_wide (name ∷ words) = if is_option name then None else Some (record { is_wide = is_wide; name = name; words = words })

abbrev pub program_of : List (List ℕ) → Option Program
program_of words = let wide = option_on (codes "--wide") words in file_of wide.0 wide.1

-- something of the program that words name, or else of the one that standard input tells
abbrev pub shown_of : Shown → List (List ℕ) → Option Asked
shown_of shown [] = Some (Show shown None)
shown_of shown (word ∷ words) = option_map (λ p. Show shown (Some p)) (program_of (word ∷ words))

-- the picture of these token lines
abbrev pub lines_of : List (List ℕ) → Option Asked
lines_of [] = None
lines_of (numbers ∷ words) = option_and_then (λ ns. shown_of (Dot (Some ns)) words) (numbers_on None numbers)

-- the picture that the words after `dot` ask for
abbrev pub picture_of : List (List ℕ) → Option Asked
picture_of [] = shown_of (Dot None) []
picture_of (option ∷ words) = if bytes_eq option (codes "--regions") then shown_of Regions words else if bytes_eq option (codes "--lines") then lines_of words else shown_of (Dot None) (option ∷ words)

-- the statements at two lines
abbrev pub pair_of : List (List ℕ) → Option Asked
pair_of [] = None
pair_of (first ∷ []) = None
pair_of (first ∷ second ∷ words) = option_and_then (λ m. option_and_then (λ n. shown_of (Independent m n) words) (number_on second)) (number_on first)

abbrev pub json_of : List (List ℕ) → Option Asked
json_of words = let trace = option_on (codes "--trace") words in if trace.0 then shown_of JsonTrace trace.1 else shown_of Json trace.1

abbrev pub dependences_of : List (List ℕ) → Option Asked
dependences_of words = let json = option_on (codes "--json") words in if json.0 then shown_of DependencesJson json.1 else shown_of Dependences json.1

-- one file or more
abbrev pub checked_of : (is_wide : Bool) → List (List ℕ) → Option Asked
checked_of is_wide [] = None
checked_of is_wide (name ∷ names) = if list_any is_option (name ∷ names) then None else Some (Check is_wide (name ∷ names))

abbrev pub files_of : List (List ℕ) → Option Asked
files_of words = let wide = option_on (codes "--wide") words in checked_of wide.0 wide.1

-- nothing stands after the file
abbrev pub by_itself : (after : List (List ℕ)) → Asked → Option Asked
by_itself [] asked = Some asked
by_itself (word ∷ words) asked = None

abbrev pub names_of : List (List ℕ) → Option Asked
names_of words = option_and_then (λ p. by_itself p.words (Names p)) (program_of words)

abbrev pub form_of : (with_map : Bool) → LoweredForm
form_of true = form.Map
form_of false = form.Text

-- the lowered form of the program in a file
abbrev pub lowered_of : List (List ℕ) → Option Asked
lowered_of words = let mapped = option_on (codes "--map") words in option_and_then (λ p. by_itself p.words (Lower p (form_of mapped.0))) (file_of true mapped.1)

-- ---- commands

abbrev pub command_by : List ℕ → Option Command
command_by word = if bytes_eq word (codes "chart") then Some command.Chart else if bytes_eq word (codes "rounds") then Some command.Rounds else if bytes_eq word (codes "page") then Some command.Page else if bytes_eq word (codes "deps") then Some command.Deps else if bytes_eq word (codes "independent") then Some command.Independent else if bytes_eq word (codes "dot") then Some command.Dot else if bytes_eq word (codes "json") then Some command.Json else if bytes_eq word (codes "profile") then Some command.Profile else if bytes_eq word (codes "check") then Some command.Check else if bytes_eq word (codes "names") then Some command.Names else if bytes_eq word (codes "lower") then Some command.Lower else if bytes_eq word (codes "run") then Some command.Run else None

-- what a command asks for, by the words after it
abbrev pub asked_of : Command → List (List ℕ) → Option Asked
asked_of command.Chart words = shown_of Chart words
asked_of command.Rounds words = shown_of Rounds words
asked_of command.Page words = shown_of Page words
asked_of command.Json words = json_of words
asked_of command.Profile words = shown_of Profile words
asked_of command.Dot words = picture_of words
asked_of command.Deps words = dependences_of words
asked_of command.Independent words = pair_of words
asked_of command.Check words = files_of words
asked_of command.Names words = names_of words
asked_of command.Lower words = lowered_of words
asked_of command.Run words = option_map Run (program_of words)

abbrev pub asks_help : List (List ℕ) → Bool
asks_help [] = false
asks_help (word ∷ []) = bytes_eq word (codes "--help")
asks_help (word ∷ other ∷ words) = false

abbrev pub asked_with : Command → List (List ℕ) → Option Asked
asked_with command words = if asks_help words then Some (HelpOf command) else asked_of command words

-- what is asked about the program itself, by a word alone
abbrev pub about_program : (word : List ℕ) → List (List ℕ) → Option Asked
about_program word [] = if bytes_eq word (codes "-h") then Some Help else if bytes_eq word (codes "--help") then Some Help else if bytes_eq word (codes "--version") then Some Version else None
about_program word (other ∷ words) = None

abbrev pub asked_by_word : Option Command → (word : List ℕ) → List (List ℕ) → Option Asked
asked_by_word (Some command) word words = asked_with command words
asked_by_word None word words = about_program word words

-- what the words ask for; other words have no meaning
abbrev pub asked_by : List (List ℕ) → Option Asked
asked_by [] = None
asked_by (word ∷ words) = asked_by_word (command_by word) word words
