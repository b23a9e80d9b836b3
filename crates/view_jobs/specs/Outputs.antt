-- What a run prints, with the lines of the source.
use Rattle.std.specs.Prelude.{◌≡◌, ◌≢◌, ◌⊎◌, ◌++◌, ℕ, List, []}
use Rattle.made_texts.specs.Texts.{Prints, output_words}
use Rattle.source_maps.specs.Outputs.{line_words}
use Rattle.source_maps.specs.Places.{Map, line_in}
use Rattle.view_commands.specs.RunWords.{forks_apart}
use Rattle.view_jobs.specs.Given.{Given}

-- A trap is told at the line of the source.
pub record TellsTrap (m : Map) (old new : List ℕ) : Type 0 where
  pub front : List ℕ
  pub line : ℕ
  pub old_is : old ≡ front ++ line_words line
  pub new_is : new ≡ front ++ line_words (line_in m.lines line)

-- Nothing changes but the line of a trap, where the run trapped.
abbrev pub TellsOutput : Map → (old : List ℕ) → (status : ℕ) → (new : List ℕ) → Type 0
TellsOutput m old status new = ((status ≡ 3) × TellsTrap m old new) ⊎ ((status ≢ 3) × (new ≡ old))

-- What the run of a program prints that the words tell.
pub record IsOutput (given : Given) (words : List (List ℕ)) (output : List ℕ) (status : ℕ) : Type 0 where
  pub text : List ℕ
  pub prints : Prints (output_words (forks_apart words)) given.text [] text status
  pub tells : TellsOutput given.map text status output
