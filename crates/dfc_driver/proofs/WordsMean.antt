-- What is due for words means what the job promises that they ask for.
use Rattle.std.proofs.Common.{◌≡◌, ℕ, Bool, true, false, List, [], ◌∷◌, codes, drop, length, Option, Some, None, refl, if◌then◌else◌}
use Rattle.std.specs.Str.{bytes_eq}
use Rattle.sample_texts.specs.SampleText.{sample_text}
use Rattle.f77_tree.specs.WellFormed.{IsWellFormed}
use Rattle.fixed_form.specs.Columns.{number}
use Rattle.job_terms.specs.declared.task.Told.{Told}
use Rattle.sample_jobs.specs.DueSamples.{sample_limit}
use Rattle.job_terms.specs.Reading.{IfAccepted, IsOwnProgram, reading}
use Rattle.job_terms.specs.Tasks.{Task, Regions, Graph, Play, Forks, Regen, Run}
use Rattle.job_laws.specs.Data.{HasWords}
use Rattle.job_laws.specs.Headline.{MeansRead, MeansSampleText}
use Rattle.dfc_driver.specs.declared.words.Setting.{Setting}
use Rattle.dfc_driver.specs.declared.words.Setting.TheVariants.{Limit, Data}
use Rattle.dfc_driver.specs.declared.words.TaskWords.{TaskWords}
use Rattle.dfc_driver.specs.declared.words.TaskWords.TheVariants as words_of
use Rattle.dfc_driver.specs.Meant.{IsTask, MayStand, task_meant}
use Rattle.dfc_driver.specs.Words.{Job, On, Sample, after, asked_of, dialect_after, dialect_of, forks_of, game_of_words, is_sample, is_setting, is_text, job_of, limit_in, name_of, on, run_of, sample_of, text_of, told_by, values_in, word_value}
use Rattle.dfc_driver.specs.WordsDue.{IsOwnFor, MeansFor}
use Rattle.dfc_driver.proofs.DataWords.{data_words}
use Rattle.dfc_driver.proofs.Pieces.{right_of}

-- ---- the data of a job are words of the machine

abbrev HasWordsFor : Option Job → Type 0
HasWordsFor None = Unit {0}
HasWordsFor (Some (On task checked)) = HasWords task
HasWordsFor (Some (Sample n)) = Unit {0}

on_dialect : (task : Task) (d : Option Bool) → HasWords task → HasWordsFor (on task d)
on_dialect task None words = tt
on_dialect task (Some checked) words = words

stands : (s : Setting) (text : List ℕ) → is_text s text ≡ true → MayStand s text
stands s [] is = tt
stands s (c ∷ text) is = is

text_stands : (s : Setting) (words : List (List ℕ)) → MayStand s (text_of s words)
text_stands s [] = tt
text_stands s (word ∷ words) = by (is_setting s word) refl
  where
    by : (b : Bool) → is_setting s word ≡ b → MayStand s (if b then drop (length (name_of s)) word else [])
    by true is = stands s (drop (length (name_of s)) word) (right_of _ _ is)
    by false is = tt

of_sample : (words : List (List ℕ)) → HasWordsFor (sample_of words)
of_sample [] = tt
of_sample (word ∷ []) = by (is_sample word)
  where
    by : (is : Bool) → HasWordsFor (if is then Some (Sample (number word)) else None)
    by true = tt
    by false = tt
of_sample (word ∷ more ∷ words) = tt

of_forks : (words : List (List ℕ)) → HasWordsFor (forks_of words)
of_forks [] = tt
of_forks (word ∷ words) = by (bytes_eq word (codes "nodes"))
  where
    by : (nodes : Bool) → HasWordsFor (if nodes then on (Forks true (asked_of words)) (dialect_after words) else on (Forks false (asked_of (word ∷ words))) (dialect_after (word ∷ words)))
    by true = on_dialect (Forks true (asked_of words)) (dialect_after words) tt
    by false = on_dialect (Forks false (asked_of (word ∷ words))) (dialect_after (word ∷ words)) tt

of_game : (told : Option Told) (words : List (List ℕ)) → HasWordsFor (game_of_words told words)
of_game None words = tt
of_game (Some told) words = on_dialect (Play told (asked_of words)) (dialect_after words) tt

of_run : (words : List (List ℕ)) → HasWordsFor (run_of words)
of_run words =
    let rest = after Limit words in
    on_dialect (Run (limit_in (text_of Limit words)) (values_in word_value (text_of Data rest))) (dialect_of (after Data rest)) (data_words (text_of Data rest) (text_stands Data rest))

of_words : (words : List (List ℕ)) → HasWordsFor (job_of words)
of_words [] = tt
of_words (word ∷ words) =
    by (bytes_eq word (codes "regions")) (bytes_eq word (codes "graph")) (bytes_eq word (codes "regen")) (bytes_eq word (codes "run")) (bytes_eq word (codes "sample")) (bytes_eq word (codes "forks"))
  where
    by : (regions graph regen run sample forks : Bool) → HasWordsFor (if regions then on Regions (dialect_of words) else if graph then on Graph (dialect_of words) else if regen then on Regen (dialect_of words) else if run then run_of words else if sample then sample_of words else if forks then forks_of words else game_of_words (told_by word) words)
    by true graph regen run sample forks = on_dialect Regions (dialect_of words) tt
    by false true regen run sample forks = on_dialect Graph (dialect_of words) tt
    by false false true run sample forks = on_dialect Regen (dialect_of words) tt
    by false false false true sample forks = of_run words
    by false false false false true forks = of_sample words
    by false false false false false true = of_forks words
    by false false false false false false = of_game (told_by word) words

pub task_words : (words : TaskWords) → IsTask words → HasWords (task_meant words)
task_words words_of.Regions is = tt
task_words words_of.Graph is = tt
task_words (words_of.Play told words) is = tt
task_words (words_of.Forks nodes words) is = tt
task_words words_of.Regen is = tt
task_words (words_of.Run words) is = data_words words.input.now is

-- ---- jobs

module _ (texts : (task : Task) (checked : Bool) (bytes : List ℕ) → IsOwnProgram bytes checked → HasWords task → MeansRead task checked bytes (reading checked bytes)) (samples : (n limit : ℕ) (text : List ℕ) → IfAccepted (reading false text) IsWellFormed → MeansSampleText n limit text) where
  job_means : (job : Option Job) (bytes : List ℕ) → HasWordsFor job → IsOwnFor job bytes → MeansFor job bytes
  job_means None bytes words own = tt
  job_means (Some (On task checked)) bytes words own = texts task checked bytes own words
  job_means (Some (Sample n)) bytes words own = samples n sample_limit (sample_text n) own

  pub words_mean : (words : List (List ℕ)) (bytes : List ℕ) → IsOwnFor (job_of words) bytes → MeansFor (job_of words) bytes
  words_mean words bytes own = job_means (job_of words) bytes (of_words words) own
