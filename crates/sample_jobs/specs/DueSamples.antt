-- What is due of sample programs.
use Rattle.std.specs.Prelude.{◌≡◌, ◌==◌, ◌⊎◌, ℕ, false, List, [], ◌∷◌, ◌++◌, length, codes, if◌then◌else◌}
use Rattle.std.specs.Fmt.{decimal}
use Rattle.f77_tree.specs.declared.programs.Program.{Program}
use Rattle.job_terms.specs.declared.status.Status.{Status}
use Rattle.job_terms.specs.declared.status.Status.TheVariants as status
use Rattle.job_terms.specs.declared.task.Told.TheVariants as told
use Rattle.program_nets.specs.Game.{operation_game}
use Rattle.job_terms.specs.Reading.{Reading, Accepted, Refused, reading}
use Rattle.graph_jobs.specs.Regions.{TellsRegions}
use Rattle.job_terms.specs.Tasks.{Asked}
use Rattle.job_terms.specs.Due.{Due, all_due, refusal, IsJust}
use Rattle.game_jobs.specs.DueGames.{IsDuePlay}
use Rattle.graph_jobs.specs.DueGraphs.{TellsGraph}
use Rattle.form_jobs.specs.DueForms.{IsDueLimit, IsOutputDue}

-- how long the text of a sample is
abbrev pub sample_line : (n bytes : ℕ) → List ℕ
sample_line n bytes = codes "SAMPLE " ++ decimal n ++ codes " BYTES " ++ decimal bytes ++ 10 ∷ []

-- the characters up to the first line feed, and that
abbrev pub first_line : List ℕ → List ℕ
first_line [] = []
first_line (c ∷ text) = if c == 10 then c ∷ [] else c ∷ first_line text

-- how large a sample is: that line, and the first lines of the texts that tell the regions and the net of its program
pub record TellsSizes (n bytes : ℕ) (p : Program) (text : List ℕ) : Type 0 where
  pub regions : List ℕ
  pub tells_regions : TellsRegions p regions
  pub graph : List ℕ
  pub tells_graph : TellsGraph p graph
  pub is : text ≡ sample_line n bytes ++ first_line regions ++ first_line graph

-- what is due after a text
abbrev pub after_text : List ℕ → Due → Due
after_text text due = record { status = due.status; text = text ++ due.text; last = due.last }

-- what is due of two jobs, of which the second is begun only where the first one is done
abbrev pub followed : Status → Due → Due → Due
followed status.Done first second = after_text (all_due first) second
followed _ first second = first

abbrev pub followed_by : Due → Due → Due
followed_by first second = followed first.status first second

-- a game in the source's own order, without data
abbrev pub up_to : (limit : ℕ) → Asked
up_to limit = record { limit = limit; picks = []; input = [] }

-- what is due of the program of a sample: its sizes, what `fire` owes, and where that is done what `run` owes
pub record IsSampleDue (n bytes limit : ℕ) (p : Program) (due : Due) : Type 0 where
  pub sizes : List ℕ
  pub tells_sizes : TellsSizes n bytes p sizes
  pub fired : Due
  pub is_fired : IsDuePlay operation_game told.Output (up_to limit) p fired
  pub ran : Due
  pub is_ran : IsOutputDue p false [] limit ran
  pub is : due ≡ after_text sizes (followed_by fired ran)

-- or nothing of that, where the rewriting passes a limit
abbrev pub IsDueSample : (n bytes limit : ℕ) → Program → Due → Type 0
IsDueSample n bytes limit p due = IsSampleDue n bytes limit p due ⊎ IsDueLimit p false due

abbrev pub IsDueSampleRead : (n bytes limit : ℕ) → Reading → Due → Type 0
IsDueSampleRead n bytes limit (Refused line code) = IsJust (refusal line code)
IsDueSampleRead n bytes limit (Accepted p) = IsDueSample n bytes limit p

-- a sample is read as any text is, in the plain dialect
abbrev pub IsDueSampleText : (n limit : ℕ) → (text : List ℕ) → Due → Type 0
IsDueSampleText n limit text = IsDueSampleRead n (length text) limit (reading false text)

-- the most firings and the most steps of a sample
abbrev pub sample_limit : ℕ
sample_limit = 1000000
