-- What tasks mean by steps of the program they mean by steps of a run with which it keeps up.
use Rattle.std.proofs.Common.{◌≡◌, ◌≢◌, ◌⊎◌, ℕ, ◌+◌, ◌*◌, ◌≤◌, ℤ, List, [], refl, sym, subst, ◌∙◌, arith}
use Rattle.std.proofs.Math.Nat.{le_trans, mul-le-mul_left}
use Rattle.op_table.specs.declared.Trap.{Trap}
use Rattle.f77_tree.specs.declared.programs.Program.{Program}
use Rattle.f77_tree.specs.Operations.{most_operations}
use Rattle.f77_tree.specs.Prefixes.{IsPrefix}
use Rattle.f77_tree.specs.Run as runs
use Rattle.f77_tree.specs.Run.{EndsIn, Mark, Running, TrapsAt, out}
use Rattle.f77_tree.specs.Steps.{StopsWithin}
use Rattle.job_terms.specs.declared.status.Status.TheVariants.{Done, Refused as Refused_status, Trapped}
use Rattle.job_terms.specs.declared.task.Told.{Told}
use Rattle.job_terms.specs.Due.{Due}
use Rattle.program_nets.specs.Game.{GameKind}
use Rattle.job_terms.specs.Tasks.{Asked}
use Rattle.job_laws.specs.GameLaws.{StopFirst}
use Rattle.job_laws.specs.Headline.{MeansEnd, MeansPlay, MeansRest, MeansRun, MeansStop, MeansTrap, TellsAtLeast, TellsPrefix, bound_of, line_count, run_bound}
use Rattle.job_laws.specs.SourceRuns.{KeepsUp, SourceRun, Writes, run_of}

pub keeps_up_itself : (run : SourceRun) (n : ℕ) → KeepsUp run run n
keeps_up_itself run n = record { steps = n; few = omega arith; outs = refl; marks = refl }

-- more steps want a limit that is no smaller
more_firings : (p : Program) (m n limit : ℕ) → m ≤ n → bound_of p n ≤ limit → bound_of p m ≤ limit
more_firings p m n limit few enough = le_trans (mul-le-mul_left (5 * (line_count p + 1) + most_operations p) (let e : m + 1 ≤ n + 1 = omega (arith, few) in e)) enough

more_steps : (p : Program) (m n limit : ℕ) → m ≤ n → run_bound p n ≤ limit → run_bound p m ≤ limit
more_steps p m n limit few enough = le_trans (mul-le-mul_left (most_operations p + 3) few) enough

module _ (stop_first : StopFirst) (p : Program) (input : List ℤ) (run : SourceRun) (keeps_up : (n : ℕ) → KeepsUp run (run_of p input) n) where
  -- where the run has stopped, the program stops within four times as many steps
  stops_soon : (n : ℕ) (mark : Mark) → mark ≢ Running → run.mark n ≡ mark → StopsWithin p input (4 * n) mark
  stops_soon n mark stopped is =
      let s = keeps_up n in
      let first = stop_first p input s.steps mark stopped (sym s.marks ∙ is) in
      let within = first.within in
      let few = s.few in
      record { count = first.count; within = omega (arith, within, few); stops = first.stops }

  pub means_run : (limit : ℕ) (due : Due) → Writes run due.text → (due.status ≡ Done → MeansEnd input p run due.text) → (due.status ≡ Trapped → MeansStop input p run due)
      → ((steps : ℕ) → EndsIn p input steps → run_bound p steps ≤ limit → (due.status ≡ Done) ⊎ (due.status ≡ Refused_status))
      → ((steps : ℕ) (trap : Trap) (line : ℕ) → TrapsAt p input steps trap line → run_bound p steps ≤ limit → (due.status ≡ Trapped) ⊎ (due.status ≡ Refused_status))
      → ((steps : ℕ) → run_bound p steps ≤ limit → IsPrefix (out p input steps) due.text ⊎ (due.status ≡ Refused_status)) → MeansRun limit input p run due
  means_run limit due prefix ends traps finishes fails reaches = record {
    prefix = prefix;
    ends = ends;
    traps = traps;
    finishes = finishes;
    fails = fails;
    reaches = reaches;
    soon = record {
      finishes = λ n is enough. let s = stops_soon n runs.Ended (λ e. absurd cc) is in finishes s.count s.stops (more_steps p s.count (4 * n) limit s.within enough);
      fails = λ n trap line is enough. let s = stops_soon n (runs.Trapped trap line) (λ e. absurd cc) is in fails s.count trap line s.stops (more_steps p s.count (4 * n) limit s.within enough);
      reaches = λ n enough.
          let s = keeps_up n in
          subst (λ (bytes : List ℕ). IsPrefix bytes due.text ⊎ (due.status ≡ Refused_status)) (sym s.outs) (reaches s.steps (more_steps p s.steps (4 * n) limit s.few enough));
    };
  }

module _ {M : Type 0} (kind : GameKind M) (stop_first : StopFirst) (what : Told) (asked : Asked) (p : Program) (run : SourceRun) (keeps_up : (n : ℕ) → KeepsUp run (run_of p asked.input) n) where
  pub means_play : (due : Due) → TellsPrefix what run due.text → (due.status ≡ Done → MeansRest kind what asked p run due) → (due.status ≡ Trapped → MeansTrap what asked p run due)
      → ((steps : ℕ) → EndsIn p asked.input steps → bound_of p steps ≤ asked.limit → due.status ≡ Done)
      → ((steps : ℕ) (trap : Trap) (line : ℕ) → TrapsAt p asked.input steps trap line → asked.picks ≡ [] → bound_of p steps ≤ asked.limit → due.status ≡ Trapped)
      → ((steps : ℕ) → asked.picks ≡ [] → bound_of p steps ≤ asked.limit → TellsAtLeast what (out p asked.input steps) due.text) → MeansPlay kind what asked p run due
  means_play due prefix rests traps ends fails reaches = record {
    prefix = prefix;
    rests = rests;
    traps = traps;
    ends = ends;
    fails = fails;
    reaches = reaches;
    soon = record {
      ends = λ n is enough.
          let s = stops_soon stop_first p asked.input run keeps_up n runs.Ended (λ e. absurd cc) is in
          ends s.count s.stops (more_firings p s.count (4 * n) asked.limit s.within enough);
      fails = λ n trap line is none enough.
          let s = stops_soon stop_first p asked.input run keeps_up n (runs.Trapped trap line) (λ e. absurd cc) is in
          fails s.count trap line s.stops none (more_firings p s.count (4 * n) asked.limit s.within enough);
      reaches = λ n none enough.
          let s = keeps_up n in
          subst (λ (bytes : List ℕ). TellsAtLeast what bytes due.text) (sym s.outs) (reaches s.steps none (more_firings p s.steps (4 * n) asked.limit s.few enough));
    };
  }
