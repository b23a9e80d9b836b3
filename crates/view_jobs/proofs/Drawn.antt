-- What was drawn, in other words.
use Rattle.std.proofs.Common.{ℕ, List, [], ◌∷◌, Option, Result, Ok, Err, OnOk}
use Rattle.std.specs.Prelude.{codes}
use Rattle.lane_charts.specs.Page.{IsPage}
use Rattle.lane_charts.specs.declared.pages.Run.{Run}
use Rattle.printed_graphs.specs.declared.dataflow.PrintedGraph.{PrintedGraph}
use Rattle.printed_graphs.specs.declared.flow.PrintedFlow.{PrintedFlow}
use Rattle.printed_graphs.specs.declared.trace.PrintedTrace.{PrintedTrace}
use Rattle.trace_profiles.specs.declared.loads.Loads.{Loads}
use Rattle.view_jobs.specs.Drawn.{Draws, IsPageOfOne, IsRun, rounds_by}
use Rattle.view_jobs.specs.Pages.{IsPageOfTwo, IsSeenRun}
use Rattle.view_jobs.specs.declared.pages.BothRuns.{BothRuns}

-- what follows where all went well
pub on_ok : {R E P Q : Type 0} (result : Result R E) → (P → Q) → OnOk result P → OnOk result Q
on_ok (Ok r) f h = f h
on_ok (Err e) f h = tt

drawn : {P Q : List ℕ → Type 0} {told now : Option (List ℕ)} → ((text : List ℕ) → P text → Q text) → Draws P told now → Draws Q told now
drawn f d = record { text = d.text; is = f d.text d.is; added = d.added }

pub page_of_one : {flow : PrintedFlow} {graph : PrintedGraph} {run : Run} {told now : Option (List ℕ)} (name : List ℕ) (order : Loads) (trace : PrintedTrace) (output : List ℕ) → Draws (IsPage flow graph (run ∷ [])) told now → IsRun name trace (rounds_by graph order trace) output run → Draws (IsPageOfOne name flow graph order trace output) told now
page_of_one {run = run} name order trace output d is = drawn (λ text page. record { run = run; is = is; page = page }) d

pub page_of_two : {flow : PrintedFlow} {graph : PrintedGraph} {in_order by_picks : Run} {told now : Option (List ℕ)} (runs : BothRuns) → Draws (IsPage flow graph (in_order ∷ by_picks ∷ [])) told now → IsSeenRun (codes "In the order of the text") runs.first in_order → IsSeenRun (codes "In another order, by picks") runs.second by_picks → Draws (IsPageOfTwo flow graph runs) told now
page_of_two {in_order = in_order} {by_picks = by_picks} runs d first second = drawn (λ text page. record { in_order = in_order; by_picks = by_picks; is_first = first; is_second = second; page = page }) d
