-- Pages with two runs.
use Rattle.std.specs.Prelude.{◌≡◌, ℕ, List, [], ◌∷◌, Option, codes}
use Rattle.lane_charts.specs.Page.{IsPage}
use Rattle.lane_charts.specs.declared.pages.Run.{Run}
use Rattle.made_texts.specs.Texts.{PrintsRun}
use Rattle.printed_graphs.specs.declared.dataflow.PrintedGraph.{PrintedGraph}
use Rattle.printed_graphs.specs.declared.flow.PrintedFlow.{PrintedFlow}
use Rattle.view_commands.specs.RunWords.{forks_apart, picks_added, picks_left_out}
use Rattle.view_jobs.specs.Drawn.{Draws, IsRun, OfGraphs, OfRun, OfTrace, loads_of, rounds_by}
use Rattle.view_jobs.specs.Given.{Given}
use Rattle.view_jobs.specs.Outputs.{IsOutput}
use Rattle.view_jobs.specs.Shown.{IsSeen}
use Rattle.view_jobs.specs.declared.pages.BothRuns.{BothRuns}
use Rattle.view_jobs.specs.declared.pages.SeenRun.{SeenRun}

-- A run of a program by these words: what `dfc` prints of it, and what it prints itself.
pub record IsRunBy (given : Given) (words : List (List ℕ)) (run : SeenRun) : Type 0 where
  pub text : List ℕ
  pub made : PrintsRun (forks_apart words) given.text [] text
  pub seen : IsSeen given.map text run.printed
  pub rounds : OfRun run.printed (λ flow graph trace. run.rounds.items ≡ rounds_by graph (loads_of words) trace)
  pub status : ℕ
  pub output : IsOutput given words run.output.items status

-- a run under this name
abbrev pub IsSeenRun : (name : List ℕ) → SeenRun → Run → Type 0
IsSeenRun name seen run = OfTrace seen.printed (λ trace. IsRun name trace seen.rounds.items seen.output.items run)

-- A page shows two runs: one in the order of the text, and one by picks.
pub record IsPageOfTwo (flow : PrintedFlow) (graph : PrintedGraph) (runs : BothRuns) (text : List ℕ) : Type 0 where
  pub in_order : Run
  pub by_picks : Run
  pub is_first : IsSeenRun (codes "In the order of the text") runs.first in_order
  pub is_second : IsSeenRun (codes "In another order, by picks") runs.second by_picks
  pub page : IsPage flow graph (in_order ∷ by_picks ∷ []) text

-- The runs in the order of the text and by picks.
pub record AreRuns (given : Given) (words : List (List ℕ)) (runs : BothRuns) : Type 0 where
  pub first : IsRunBy given (picks_left_out words) runs.first
  pub second : IsRunBy given (picks_added words) runs.second

-- The page of these was added, on the graph of the first, and the status is 0.
pub record ShowsPage (given : Given) (words : List (List ℕ)) (told now : Option (List ℕ)) (status : ℕ) : Type 0 where
  pub runs : BothRuns
  pub are : AreRuns given words runs
  pub page : OfGraphs runs.first.printed (λ flow graph. Draws (IsPageOfTwo flow graph runs) told now)
  pub status_is : status ≡ 0
