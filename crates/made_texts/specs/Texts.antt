-- What `dfc` prints of a program, for one command after another.
use Rattle.std.specs.Prelude.{◌≡◌, ◌==◌, ◌||◌, ℕ, Bool, true, false, List, ◌∷◌, ◌++◌, codes}
use Rattle.job_terms.specs.Answers.{code_of}
use Rattle.job_terms.specs.Due.{Due, all_due}
use Rattle.dfc_driver.specs.WordsDue.{IsDue}
use Rattle.view_commands.specs.RunWords.{dialect_in}

-- it was done, trapped or came to its limit
abbrev pub is_shown : (status : ℕ) → Bool
is_shown status = status == 0 || (status == 3 || status == 4)

-- What is due for these words on the program was added, and its status is this one.
pub record Prints (words : List (List ℕ)) (program old new : List ℕ) (status : ℕ) : Type 0 where
  pub due : Due
  pub is : IsDue words program due
  pub shown : is_shown status ≡ true
  pub status_is : status ≡ code_of due.status
  pub added : new ≡ old ++ all_due due

pub record PrintsAny (words : List (List ℕ)) (program old new : List ℕ) : Type 0 where
  pub status : ℕ
  pub prints : Prints words program old new status

-- the flow graph, and then the dataflow graph
pub record PrintsGraphs (words : List (List ℕ)) (program old new : List ℕ) : Type 0 where
  pub between : List ℕ
  pub regions : PrintsAny (codes "regions" ∷ words) program old between
  pub graph : PrintsAny (codes "graph" ∷ words) program between new

-- the words for the firings of a run, by its words, which may end with `forks`
abbrev pub firing_words : List (List ℕ) × Bool → List (List ℕ)
firing_words (words, true) = codes "forks" ∷ codes "nodes" ∷ words
firing_words (words, false) = codes "trace" ∷ words

-- the words for what it prints
abbrev pub output_words : List (List ℕ) × Bool → List (List ℕ)
output_words (words, true) = codes "forks" ∷ words
output_words (words, false) = codes "fire" ∷ words

-- both graphs, and then the firings of the run
pub record PrintsRun (words : List (List ℕ) × Bool) (program old new : List ℕ) : Type 0 where
  pub between : List ℕ
  pub graphs : PrintsGraphs (dialect_in words.0) program old between
  pub firings : PrintsAny (firing_words words) program between new
