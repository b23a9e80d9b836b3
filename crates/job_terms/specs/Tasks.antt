-- What is done with a program.
use Rattle.std.specs.Prelude.{◌≤◌, ℕ, ℤ, Bool, List}
use Rattle.job_terms.specs.declared.task.Asked as given
use Rattle.job_terms.specs.declared.task.Task as given_tasks
use Rattle.job_terms.specs.declared.task.Task.TheVariants as given_task
use Rattle.job_terms.specs.declared.task.Told.{Told}

-- what a game is asked to do: the most firings, the picks that choose the nodes, of which there are none where the source's own
-- order does, and the words that READ takes
pub record Asked : Type 0 where
  pub limit : ℕ
  pub picks : List ℕ
  pub input : List ℤ

pub data Task : Type 0 where
  Regions : Task
  Graph : Task
  Play : (told : Told) (asked : Asked) → Task
  -- the game is played in which the loads of a group fire in any order, and its output is told, or its nodes as they fire
  Forks : (nodes : Bool) (asked : Asked) → Task
  -- the text of its rewritten form is written
  Regen : Task
  -- its rewritten form is run, for so many steps at most, over these words for READ
  Run : (limit : ℕ) (input : List ℤ) → Task

-- ---- what the code is given

abbrev pub asked_in : given.Asked → Asked
asked_in asked = record { limit = asked.limit; picks = asked.picks.now; input = asked.input.now.items }

abbrev pub task_meant : given_tasks.Task → Task
task_meant given_task.Regions = Regions
task_meant given_task.Graph = Graph
task_meant (given_task.Play told asked) = Play told (asked_in asked)
task_meant (given_task.Forks nodes asked) = Forks nodes (asked_in asked)
task_meant given_task.Regen = Regen
task_meant (given_task.Run limit input) = Run limit input.now.items

-- there is a sample with this number
pub record IsSampleNumber (n : ℕ) : Type 0 where
  pub least : 1 ≤ n
  pub most : n ≤ 2000
