-- What a call from C answers.
use Rattle.std.specs.Prelude.{◌≡◌, ◌++◌, ℕ, List, [], Some, length, take, drop}
use Rattle.job_terms.specs.Answers.{Answers}
use Rattle.dfc_driver.specs.WordsDue.{IsDue}
use Rattle.dfc_c.specs.Words.{words_in}

-- What the words between the blanks of `words` ask for was done on the text: the exit status is this one, so many bytes were written, and
-- as many of them as there was room for stand where they are wanted. What stood behind them stays.
pub record IsAnswer (words text room shown : List ℕ) (written code : ℕ) : Type 0 where
  pub bytes : List ℕ
  pub answers : Answers (IsDue (words_in words) text) (Some []) (Some bytes) code
  pub count : written ≡ length bytes
  pub copied : shown ≡ take (length room) bytes ++ drop (length bytes) room
