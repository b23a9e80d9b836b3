-- What the words after the program's name come to.
use Rattle.std.specs.Prelude.{◌≡◌, ℕ, Bool, true, List, Option, None, Some, codes}
use Rattle.view_commands.specs.Help.{is_help, is_help_of}
use Rattle.view_commands.specs.Words.{Asked, Check, Help, HelpOf, Lower, Names, Run, Show, Version, asked_by}
use Rattle.view_jobs.specs.Files.{OfKnown}
use Rattle.view_jobs.specs.Lowered.{LowersFile}
use Rattle.view_jobs.specs.Programs.{NamesFile, RunsFile, ShowsFile}
use Rattle.view_jobs.specs.Refused.{ChecksFiles}
use Rattle.view_jobs.specs.Shown.{ShowsSource}
use Rattle.view_output.specs.Told.{Adds}

-- Such a text was added.
pub record TellsOf (is : List ℕ → Bool) (told now : Option (List ℕ)) : Type 0 where
  pub text : List ℕ
  pub such : is text ≡ true
  pub added : Adds told now text

-- what a job does: to the source, which has these bytes left, to the output and to the errors
abbrev pub DoesJob : (known : List ℕ → Option (List ℕ)) → Asked → (left rest told now faults faults_now : Option (List ℕ)) → (status : ℕ) → Type 0
DoesJob known Help left rest told now faults faults_now status = TellsOf is_help told now × (status ≡ 0)
DoesJob known (HelpOf command) left rest told now faults faults_now status = TellsOf (is_help_of command) told now × (status ≡ 0)
DoesJob known Version left rest told now faults faults_now status = Adds told now (codes "dfc_view 1\n") × (status ≡ 0)
DoesJob known (Show shown None) left rest told now faults faults_now status = ShowsSource shown left rest told now × (status ≡ 0)
DoesJob known (Show shown (Some p)) left rest told now faults faults_now status = OfKnown (known p.name) (λ text. ShowsFile shown p text told now faults faults_now status)
DoesJob known (Check is_wide names) left rest told now faults faults_now status = ChecksFiles is_wide known names told now status
DoesJob known (Names p) left rest told now faults faults_now status = OfKnown (known p.name) (λ text. NamesFile p text told now faults faults_now status)
DoesJob known (Lower p form) left rest told now faults faults_now status = OfKnown (known p.name) (λ text. LowersFile form p text told now faults faults_now status)
DoesJob known (Run p) left rest told now faults faults_now status = OfKnown (known p.name) (λ text. RunsFile p text told now faults faults_now status)

-- The words ask for this job, and it was done.
pub record DoesWords (known : List ℕ → Option (List ℕ)) (words : List (List ℕ)) (left rest told now faults faults_now : Option (List ℕ)) (status : ℕ) : Type 0 where
  pub job : Asked
  pub asked : asked_by words ≡ Some job
  pub does : DoesJob known job left rest told now faults faults_now status
