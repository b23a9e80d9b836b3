-- What a task means of one run it means of any run that is alike.
use Rattle.std.proofs.Common.{◌≡◌, ℕ, ℤ, Bool, List, ◌++◌, ap, ◌∙◌, append_assoc}
use Rattle.op_table.specs.declared.Trap.{Trap}
use Rattle.f77_tree.specs.declared.programs.Program.{Program}
use Rattle.f77_tree.specs.Run.{out}
use Rattle.job_terms.specs.declared.task.Told.{Told}
use Rattle.job_terms.specs.declared.task.Told.TheVariants.{Output, Nodes, Store}
use Rattle.job_terms.specs.Due.{Due}
use Rattle.game_jobs.specs.DueGames.{told_by_forks}
use Rattle.program_nets.specs.Game.{GameKind, fork_game, operation_game}
use Rattle.job_laws.specs.Headline.{Means, MeansAccepted, MeansEnd, MeansOn, MeansPlay, MeansRest, MeansRun, MeansStop, MeansText, MeansTrap, TellsPrefix}
use Rattle.job_laws.specs.GameLaws.{StopFirst}
use Rattle.job_laws.specs.SourceRuns.{AreAlike, KeepsUp, PrintTheSame, RunsAs, SourceRun, SourceRuns, StopsByTrap, Writes, run_of}
use Rattle.job_terms.specs.Tasks.{Asked, Task, Regions, Graph, Play, Forks, Regen, Run}
use Rattle.job_laws.proofs.Soon.{means_play, means_run}

-- what a text that is written begins with is written
shorter : (run : SourceRun) (text rest all : List ℕ) → all ≡ text ++ rest → Writes run all → Writes run text
shorter run text rest all is writes = record {
  steps = writes.steps;
  rest = rest ++ writes.rest;
  is = writes.is ∙ ap (λ (bytes : List ℕ). bytes ++ writes.rest) is ∙ append_assoc text rest writes.rest;
}

module _ (stop_first : StopFirst) (a b : SourceRun) (alike : AreAlike a b) where
  writes : (text : List ℕ) → Writes b text → Writes a text
  writes text is = shorter a text is.rest (b.out is.steps) is.is (alike.back is.steps)

  traps_there : (c : SourceRun) → PrintTheSame b c → (trap : Trap) (text : List ℕ) → StopsByTrap a trap text → StopsByTrap c trap text
  traps_there c same trap text is = (same.traps trap text).0 (record { line = is.line; stops = (alike.traps trap is.line text).0 is.stops })

  traps_here : (c : SourceRun) → PrintTheSame b c → (trap : Trap) (text : List ℕ) → StopsByTrap c trap text → StopsByTrap a trap text
  traps_here c same trap text is =
      let there : StopsByTrap b trap text = (same.traps trap text).1 is in
      record { line = there.line; stops = (alike.traps trap there.line text).1 there.stops }

  prints_the_same : (c : SourceRun) → PrintTheSame b c → PrintTheSame a c
  prints_the_same c same = record {
    front = λ n. let there = alike.front n in shorter c (a.out n) there.rest (b.out there.steps) there.is (same.front there.steps);
    back = λ n. writes (c.out n) (same.back n);
    ends = λ text. (λ is. (same.ends text).0 ((alike.ends text).0 is), λ is. (alike.ends text).1 ((same.ends text).1 is));
    traps = λ trap text. (traps_there c same trap text, traps_here c same trap text);
  }

  -- ---- games

  prefix_on : (what : Told) (text : List ℕ) → TellsPrefix what b text → TellsPrefix what a text
  prefix_on Output text is = writes text is
  prefix_on Nodes text is = tt
  prefix_on Store text is = tt

  module _ {M : Type 0} (kind : GameKind M) (what : Told) (asked : Asked) (p : Program) (due : Due) where
    rest_on : MeansRest kind what asked p b due → MeansRest kind what asked p a due
    rest_on is = record {
      steps = is.steps;
      ends = is.ends;
      run_ends = (alike.ends (out p asked.input is.steps)).1 is.run_ends;
      firings = is.firings;
      played = is.played;
      few = is.few;
      told = is.told;
    }

    trap_on : MeansTrap what asked p b due → MeansTrap what asked p a due
    trap_on is = record {
      steps = is.steps;
      trap = is.trap;
      line = is.line;
      traps = is.traps;
      run_traps = (alike.traps is.trap is.line (out p asked.input is.steps)).1 is.run_traps;
      is = is.is;
      told = is.told;
    }

    play_on : ((n : ℕ) → KeepsUp a (run_of p asked.input) n) → MeansPlay kind what asked p b due → MeansPlay kind what asked p a due
    play_on keeps_up is =
        means_play kind stop_first what asked p a keeps_up due (prefix_on what due.text is.prefix) (λ done. rest_on (is.rests done)) (λ trapped. trap_on (is.traps trapped)) is.ends is.fails is.reaches

  -- ---- runs of rewritten programs

  end_on : (input : List ℤ) (p : Program) (text : List ℕ) → MeansEnd input p b text → MeansEnd input p a text
  end_on input p text is = record { run_ends = (alike.ends text).1 is.run_ends; steps = is.steps; ends = is.ends; output = is.output }

  stop_on : (input : List ℤ) (p : Program) (due : Due) → MeansStop input p b due → MeansStop input p a due
  stop_on input p due is = record {
    steps = is.steps;
    trap = is.trap;
    line = is.line;
    run_traps = (alike.traps is.trap is.line due.text).1 is.run_traps;
    traps = is.traps;
    is = is.is;
    output = is.output;
  }

  run_on : (limit : ℕ) (input : List ℤ) (p : Program) (due : Due) → ((n : ℕ) → KeepsUp a (run_of p input) n) → MeansRun limit input p b due → MeansRun limit input p a due
  run_on limit input p due keeps_up is =
      means_run stop_first p input a keeps_up limit due (writes due.text is.prefix) (λ done. end_on input p due.text (is.ends done)) (λ trapped. stop_on input p due (is.traps trapped)) is.finishes is.fails is.reaches

module _ (stop_first : StopFirst) (checked : Bool) (p : Program) (runs : SourceRuns) (alike : (input : List ℤ) → AreAlike (runs input) (run_of p input)) where
  text_on : (text : List ℕ) → MeansText checked p (run_of p) text → MeansText checked p runs text
  text_on text is = record {
    form = is.form;
    flat = is.flat;
    statements = is.statements;
    is = is.is;
    alike = λ input words. prints_the_same stop_first (runs input) (run_of p input) (alike input) (run_of is.form input) (is.alike input words);
    read = is.read;
  }

  means_of : (task : Task) (due : Due) → Means task checked p (run_of p) due → Means task checked p runs due
  means_of Regions due is = is
  means_of Graph due is = is
  means_of (Play what asked) due is = play_on stop_first (runs asked.input) (run_of p asked.input) (alike asked.input) operation_game what asked p due (alike asked.input).keeps_up is
  means_of (Forks nodes asked) due is = play_on stop_first (runs asked.input) (run_of p asked.input) (alike asked.input) fork_game (told_by_forks nodes) asked p due (alike asked.input).keeps_up is
  means_of Regen due is = record { ends = is.ends; text = λ done. text_on due.text (is.text done) }
  means_of (Run limit input) due is = run_on stop_first (runs input) (run_of p input) (alike input) limit input p due (alike input).keeps_up is

  means_on : (task : Task) → MeansOn task checked p (run_of p) → MeansOn task checked p runs
  means_on task is = record { one = is.one; means = λ due owed. means_of task due (is.means due owed) }

-- what is meant of the program is meant of its text
pub accepted_means : StopFirst → (task : Task) (checked : Bool) (bytes : List ℕ) (p : Program) → RunsAs bytes checked p → MeansOn task checked p (run_of p) → MeansAccepted task checked bytes p
accepted_means stop_first task checked bytes p runs_as is = record {
  runs = runs_as;
  means = λ runs are. means_on stop_first checked p runs (runs_as.alike runs are) task is;
}
