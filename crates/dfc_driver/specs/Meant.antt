-- What a job that was read from words means. Its picks and its data are still texts.
use Rattle.std.specs.Prelude.{◌≡◌, ℕ, true, List, [], ◌∷◌, Option, Some, None}
use Rattle.fixed_form.specs.Columns.{number}
use Rattle.job_terms.specs.Tasks.{Asked, IsSampleNumber, Task, Regions, Graph, Play, Forks, Regen, Run}
use Rattle.dfc_driver.specs.declared.words.GameWords.{GameWords}
use Rattle.dfc_driver.specs.declared.words.Job as read
use Rattle.dfc_driver.specs.declared.words.Job.TheVariants as read_job
use Rattle.dfc_driver.specs.declared.words.Setting.{Setting}
use Rattle.dfc_driver.specs.declared.words.Setting.TheVariants.{Picks, Data}
use Rattle.dfc_driver.specs.declared.words.TaskWords.{TaskWords}
use Rattle.dfc_driver.specs.declared.words.TaskWords.TheVariants as words_of
use Rattle.dfc_driver.specs.Words.{Job, On, Sample, is_text, values_in, word_value}

abbrev pub asked_in : GameWords → Asked
asked_in words = record { limit = words.limit; picks = values_in number words.picks.now; input = values_in word_value words.input.now }

abbrev pub task_meant : TaskWords → Task
task_meant words_of.Regions = Regions
task_meant words_of.Graph = Graph
task_meant (words_of.Play told words) = Play told (asked_in words)
task_meant (words_of.Forks nodes words) = Forks nodes (asked_in words)
task_meant words_of.Regen = Regen
task_meant (words_of.Run words) = Run words.limit (values_in word_value words.input.now)

abbrev pub job_meant : read.Job → Job
job_meant (read_job.On task checked) = On (task_meant task) checked
job_meant (read_job.Sample n) = Sample n

abbrev pub meant : Option read.Job → Option Job
meant None = None
meant (Some job) = Some (job_meant job)

-- the text of its picks, and that of its data, if it has one
abbrev pub picks_text : TaskWords → List ℕ
picks_text (words_of.Play told words) = words.picks.now
picks_text (words_of.Forks nodes words) = words.picks.now
picks_text _ = []

abbrev pub data_text : TaskWords → List ℕ
data_text (words_of.Play told words) = words.input.now
data_text (words_of.Forks nodes words) = words.input.now
data_text (words_of.Run words) = words.input.now
data_text _ = []

-- such a text stands after the name of the setting, or there is none
abbrev pub MayStand : Setting → List ℕ → Type 0
MayStand s [] = Unit {0}
MayStand s (c ∷ text) = is_text s (c ∷ text) ≡ true

pub record AreGameWords (words : GameWords) : Type 0 where
  pub picks : MayStand Picks words.picks.now
  pub input : MayStand Data words.input.now

abbrev pub IsTask : TaskWords → Type 0
IsTask words_of.Regions = Unit {0}
IsTask words_of.Graph = Unit {0}
IsTask (words_of.Play told words) = AreGameWords words
IsTask (words_of.Forks nodes words) = AreGameWords words
IsTask words_of.Regen = Unit {0}
IsTask (words_of.Run words) = MayStand Data words.input.now

abbrev pub IsJob : read.Job → Type 0
IsJob (read_job.On task checked) = IsTask task
IsJob (read_job.Sample n) = IsSampleNumber n
