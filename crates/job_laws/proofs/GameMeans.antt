-- What a game means for the run of its program.
use Rattle.std.proofs.Common.{◌≡◌, ◌≢◌, ℕ, zero, suc, ◌+◌, ◌-◌, ◌≤◌, ℤ, List, [], ◌++◌, length, Option, Some, None, refl, sym, ap, subst, ◌∙◌, arith}
use Rattle.op_table.specs.declared.Trap.{Trap}
use Rattle.f77_tree.specs.declared.programs.Program.{Program}
use Rattle.f77_tree.specs.Prefixes as prefixes
use Rattle.f77_tree.specs.Run as runs
use Rattle.f77_tree.specs.Steps.{StopsWithin}
use Rattle.f77_tree.specs.Run.{Mark, Running, Ended, State, EndsIn, TrapsAt, out, source}
use Rattle.firing.specs.declared.playing.PlayEnd.{PlayEnd}
use Rattle.firing.specs.declared.playing.PlayEnd.TheVariants.{Rest, Trapped, Limit, WriteFault}
use Rattle.firing.specs.declared.playing.Show.TheVariants as show
use Rattle.firing.specs.Moves.{CanFire}
use Rattle.firing.specs.Orders.{IsOver, IsPrefix, after, written}
use Rattle.firing.specs.Pacing.{EndsWith, Going, Done, Failed, Stage, StandsAt, TrapsWith, WritesPrefix}
use Rattle.firing.specs.Play.{Way, node_at, played, shown}
use Rattle.firing.specs.Runs.{HasOrder, IsRun}
use Rattle.job_terms.specs.declared.status.Status.{Status}
use Rattle.job_terms.specs.declared.status.Status.TheVariants as status
use Rattle.job_terms.specs.declared.task.Told.{Told}
use Rattle.job_terms.specs.declared.task.Told.TheVariants.{Output, Nodes, Store}
use Rattle.job_terms.specs.Due.{Due, lines_in, trapped}
use Rattle.game_jobs.specs.DueGames.{IsDueBy, IsPlayed, told_text}
use Rattle.program_nets.specs.Game.{GameKind, Place}
use Rattle.job_laws.specs.GameLaws.{StopFirst}
use Rattle.job_laws.specs.Headline.{MeansRest, MeansTrap, TellsAtLeast, TellsEnd, TellsPrefix, TellsTrap, bound_of}
use Rattle.program_nets.specs.Playing.{Game, StaysInLockstep, opening, stage, stage_of, way_of}
use Rattle.job_laws.specs.SourceRuns.{Writes, run_of}
use Rattle.game_jobs.specs.StoreText.{fired_line, store_text}
use Rattle.job_terms.specs.Tasks.{Asked}
use Rattle.game_jobs.proofs.NameLines.{name_lines}

-- ---- where the program is

ended_at : (mark : Mark) → stage_of mark ≡ Done → mark ≡ Ended
ended_at Running is = absurd cc
ended_at Ended is = refl
ended_at (runs.Trapped trap line) is = absurd cc

trapped_at : (mark : Mark) (trap : Trap) (line : ℕ) → stage_of mark ≡ Failed (trap, line) → mark ≡ runs.Trapped trap line
trapped_at Running trap line is = absurd cc
trapped_at Ended trap line is = absurd cc
trapped_at (runs.Trapped kind at) trap line is = same kind at trap line is
  where
    trap_of : (other : Trap × ℕ) → Stage → Trap
    trap_of other Going = other.0
    trap_of other Done = other.0
    trap_of other (Failed t) = t.0

    line_of : Stage → ℕ
    line_of Going = 0
    line_of Done = 0
    line_of (Failed t) = t.1

    same : (a : Trap) (k : ℕ) (b : Trap) (l : ℕ) → Failed (a, k) ≡ Failed (b, l) → runs.Trapped a k ≡ runs.Trapped b l
    same a k b l is = ap (λ (x : Trap). runs.Trapped x k) (ap (trap_of (a, k)) is) ∙ ap (runs.Trapped b) (ap line_of is)

module _ (p : Program) (input : List ℤ) where
  stopped_stays : (x : State) (mark : Mark) → mark ≢ Running → runs.step_from p input x mark ≡ x
  stopped_stays x Running goes = absurd (goes refl)
  stopped_stays x Ended goes = refl
  stopped_stays x (runs.Trapped trap line) goes = refl

  -- a run that has stopped stays as it is
  stays : (n d : ℕ) (mark : Mark) → mark ≢ Running → (source p input n).mark ≡ mark → source p input (d + n) ≡ source p input n
  stays n zero mark goes is = let same : 0 + n ≡ n = omega arith in ap (source p input) same
  stays n (suc d) mark goes is =
      let before = stays n d mark goes is in
      let same : suc d + n ≡ suc (d + n) = omega arith in
      let y = source p input n in
      ap (source p input) same
      ∙ ap (λ (x : State). runs.step_from p input x x.mark) before
      ∙ ap (runs.step_from p input y) is
      ∙ stopped_stays y mark goes

-- ---- the game

module _ {M : Type 0} (kind : GameKind M) (stop_first : StopFirst) (what : Told) (asked : Asked) (p : Program) (due : Due) (game : Game M Place) (lockstep : StaysInLockstep game p asked.input) (store : (n : ℕ) → kind.store (after game.moves game.start (game.own_order n)) ≡ (source p asked.input n).memory.store) (within : (n : ℕ) → length (game.own_order n) ≤ bound_of p n) where
  abbrev w : Way M Place
  w = way_of game asked.picks

  -- the same text at the first step at which the run has stopped
  first_text : (n : ℕ) (mark : Mark) → mark ≢ Running → (first : StopsWithin p asked.input n mark) → out p asked.input n ≡ out p asked.input first.count
  first_text n mark goes first =
      let le = first.within in
      let d = n - first.count in
      let sum : n ≡ d + first.count = omega (arith, le) in
      ap (out p asked.input) sum ∙ ap (λ (x : State). x.out) (stays p asked.input first.count d mark goes first.stops.reached)

  module _ (firings : ℕ) (whole : IsPlayed kind what asked p firings due) (all : HasOrder w (opening game) firings) where
    abbrev ks : List ℕ
    ks = all.nodes

    -- what is told of the game
    abbrev text : PlayEnd → List ℕ
    text end = told_text kind what p w (opening game) firings end

    text_is : (end : PlayEnd) (bytes : List ℕ) → IsDueBy end asked.limit bytes due → due.text ≡ bytes
    text_is (Rest n) bytes is = ap (λ (d : Due). d.text) is
    text_is (Trapped trap line) bytes is = ap (λ (d : Due). d.text) is
    text_is Limit bytes is = ap (λ (d : Due). d.text) is
    text_is (WriteFault n) bytes is = absurd is

    other_status : (a b : Status) (text : Due) → (a ≡ b → ⊥) → due ≡ text → text.status ≡ a → due.status ≡ b → ⊥
    other_status a b text differ is has told = differ (sym has ∙ ap (λ (d : Due). d.status) (sym is) ∙ told)

    output_prefix : (bytes : List ℕ) → bytes ≡ shown w show.Output (opening game) firings → Writes (run_of p asked.input) bytes
    output_prefix bytes is =
        let f : WritesPrefix (out p asked.input) (written game.moves game.start ks) = lockstep.follows.prefix ks all.are.order in
        let prefix : IsPrefix bytes (out p asked.input f.steps) = subst (λ l. IsPrefix l (out p asked.input f.steps)) (all.are.lines ∙ sym is) f.prefix in
        record { steps = f.steps; rest = prefix.more; is = prefix.is }

    tells_prefix : (shown_as : Told) (end : PlayEnd) → due.text ≡ told_text kind shown_as p w (opening game) firings end → TellsPrefix shown_as (run_of p asked.input) due.text
    tells_prefix Output end is = output_prefix due.text is
    tells_prefix Nodes end is = tt
    tells_prefix Store end is = tt

    pub prefix_of_run : (end : PlayEnd) → IsDueBy end asked.limit (text end) due → TellsPrefix what (run_of p asked.input) due.text
    prefix_of_run end is = tells_prefix what end (text_is end (text end) is)

    tells_at_least : (shown_as : Told) (end : PlayEnd) (output : List ℕ) → prefixes.IsPrefix output (shown w show.Output (opening game) firings) → due.text ≡ told_text kind shown_as p w (opening game) firings end → TellsAtLeast shown_as output due.text
    tells_at_least Output end output prefix is = subst (prefixes.IsPrefix output) (sym is) prefix
    tells_at_least Nodes end output prefix is = tt
    tells_at_least Store end output prefix is = tt

    pub shows : (end : PlayEnd) → IsDueBy end asked.limit (text end) due → (output : List ℕ) → prefixes.IsPrefix output (shown w show.Output (opening game) firings) → TellsAtLeast what output due.text
    shows end is output prefix = tells_at_least what end output prefix (text_is end (text end) is)

    -- the marking that the firings lead to
    abbrev there : M
    there = after game.moves game.start ks

    over_there : IsOver game.moves (played w (opening game) firings).marking → IsOver game.moves there
    over_there over = subst (IsOver game.moves) (sym all.are.leads) over

    -- the marking at the end of the source's own order
    end_is : (steps : ℕ) → EndsIn p asked.input steps → length ks ≡ length (game.own_order steps) → there ≡ after game.moves game.start (game.own_order steps)
    end_is steps ends count =
        let settles = lockstep.follows.ends steps (ap stage_of (ends.reached)) in
        settles.same_end ks all.are.order count ∙ sym (settles.same_end (game.own_order steps) (lockstep.simulated.order steps) refl)

    store_is : (steps : ℕ) → EndsIn p asked.input steps → length ks ≡ length (game.own_order steps) → kind.store (played w (opening game) firings).marking ≡ (source p asked.input steps).memory.store
    store_is steps ends count = ap kind.store (sym all.are.leads ∙ end_is steps ends count) ∙ store steps

    tells_end : (shown_as : Told) (n steps : ℕ) → n ≡ firings → written game.moves game.start ks ≡ out p asked.input steps → kind.store (played w (opening game) firings).marking ≡ (source p asked.input steps).memory.store → due.text ≡ told_text kind shown_as p w (opening game) firings (Rest n) → TellsEnd shown_as asked p steps firings due.text
    tells_end Output n steps made lines words is = is ∙ sym all.are.lines ∙ lines
    tells_end Nodes n steps made lines words is = ap lines_in is ∙ name_lines w (opening game) firings
    tells_end Store n steps made lines words is = is ∙ ap (λ l. store_text p.names l ++ fired_line n) words ∙ ap (λ k. store_text p.names (source p asked.input steps).memory.store ++ fired_line k) made

    tells_trap : (shown_as : Told) (trap : Trap) (line steps : ℕ) → written game.moves game.start ks ≡ out p asked.input steps → due.text ≡ told_text kind shown_as p w (opening game) firings (Trapped trap line) → TellsTrap shown_as asked p steps due.text
    tells_trap Output trap line steps lines is = is ∙ sym all.are.lines ∙ lines
    tells_trap Nodes trap line steps lines is = tt
    tells_trap Store trap line steps lines is = is

    pub rests : (end : PlayEnd) → IsRun w (opening game) asked.limit firings end → IsDueBy end asked.limit (text end) due → due.status ≡ status.Done → MeansRest kind what asked p (run_of p asked.input) due
    rests (WriteFault n) run is told = absurd is
    rests Limit run is told = absurd (other_status status.Limit status.Done _ (λ e. cc) is refl told)
    rests (Trapped trap line) run is told = absurd (other_status status.Trapped status.Done _ (λ e. cc) is refl told)
    rests (Rest n) run is told =
        let s = game.moves in
        let over : IsOver s there = over_there run.ends.2 in
        let none : s.trap there ≡ None = ap s.trap all.are.leads ∙ run.ends.1 in
        let e : EndsWith s game.start (out p asked.input) (stage p asked.input) game.own_order ks = lockstep.follows.rests ks all.are.order over none in
        let first = stop_first p asked.input e.steps Ended (λ c. cc) (ended_at (source p asked.input e.steps).mark e.done) in
        let settles = lockstep.follows.ends first.count (ap stage_of first.stops.reached) in
        let count : length ks ≡ length (game.own_order first.count) = settles.whole ks (record { order = all.are.order; over = over }) in
        let made = all.are.count in
        let few = within first.count in
        record {
          steps = first.count;
          ends = first.stops;
          run_ends = record { steps = first.count; is = first.stops.reached; whole = refl };
          firings = firings;
          played = whole;
          few = omega (arith, count, made, few);
          told = tells_end what n first.count run.ends.0 (e.lines ∙ first_text e.steps Ended (λ c. cc) first) (store_is first.count first.stops count) (text_is (Rest n) (text (Rest n)) is);
        }

    pub traps : (end : PlayEnd) → IsRun w (opening game) asked.limit firings end → IsDueBy end asked.limit (text end) due → due.status ≡ status.Trapped → MeansTrap what asked p (run_of p asked.input) due
    traps (WriteFault n) run is told = absurd is
    traps Limit run is told = absurd (other_status status.Limit status.Trapped _ (λ e. cc) is refl told)
    traps (Rest n) run is told = absurd (other_status status.Done status.Trapped _ (λ e. cc) is refl told)
    traps (Trapped trap line) run is told =
        let s = game.moves in
        let trapped_there : s.trap there ≡ Some (trap, line) = ap s.trap all.are.leads ∙ run.ends in
        let e : TrapsWith (out p asked.input) (stage p asked.input) (trap, line) (written s game.start ks) = lockstep.follows.traps ks (trap, line) all.are.order trapped_there in
        let first = stop_first p asked.input e.steps (runs.Trapped trap line) (λ c. cc) (trapped_at (source p asked.input e.steps).mark trap line e.failed) in
        record {
          steps = first.count;
          trap = trap;
          line = line;
          traps = first.stops;
          run_traps = record { steps = first.count; is = first.stops.reached; whole = refl };
          is = is ∙ ap (λ bytes. trapped bytes trap line) (sym (text_is (Trapped trap line) (text (Trapped trap line)) is));
          told = tells_trap what trap line first.count (e.lines ∙ first_text e.steps (runs.Trapped trap line) (λ c. cc) first) (text_is (Trapped trap line) (text (Trapped trap line)) is);
        }

    -- where the run ends, the game is done
    pub done_by : (steps : ℕ) → EndsIn p asked.input steps → bound_of p steps ≤ asked.limit → (end : PlayEnd) → IsRun w (opening game) asked.limit firings end → IsDueBy end asked.limit (text end) due → due.status ≡ status.Done
    done_by steps ends enough (Rest n) run is = ap (λ (d : Due). d.status) is
    done_by steps ends enough (WriteFault n) run is = absurd is
    done_by steps ends enough (Trapped trap line) run is =
        let s = game.moves in
        let settles = lockstep.follows.ends steps (ap stage_of (ends.reached)) in
        let clash : s.trap there ≡ None = settles.no_trap ks all.are.order in
        let trapped_there : s.trap there ≡ Some (trap, line) = ap s.trap all.are.leads ∙ run.ends in
        absurd (no_trap (s.trap there) (trap, line) clash trapped_there)
      where
        no_trap : (t : Option (Trap × ℕ)) (x : Trap × ℕ) → t ≡ None → t ≡ Some x → ⊥
        no_trap t x none some = cc
    done_by steps ends enough Limit run is =
        let s = game.moves in
        let m = game.start in
        let stage : stage p asked.input steps ≡ Done = ap stage_of (ends.reached) in
        let settles = lockstep.follows.ends steps stage in
        let most = settles.at_most ks all.are.order in
        let made = all.are.count in
        let few = within steps in
        let limit : firings ≡ asked.limit = run.ends.0 in
        let count : length ks ≡ length (game.own_order steps) = omega (arith, most, made, few, limit, enough) in
        let same_end : there ≡ after s m (game.own_order steps) = end_is steps ends count in
        let over : IsOver s (after s m (game.own_order steps)) = (subst (StandsAt s (after s m (game.own_order steps))) stage (lockstep.simulated.stands steps)).1 in
        let can : CanFire s there (node_at w (opening game) firings) = subst (λ (x : M). CanFire s x (node_at w (opening game) firings)) (sym all.are.leads) run.ends.1 in
        absurd (subst (IsOver s) (sym same_end) over (node_at w (opening game) firings) can)

    -- where the run traps, the game traps in the source's own order
    pub fails_by : ((steps : ℕ) → (end : PlayEnd) → asked.picks ≡ [] → IsRun w (opening game) asked.limit firings end → IsOver game.moves (after game.moves game.start (game.own_order steps)) → length (game.own_order steps) ≤ asked.limit → end ≢ Limit) → (steps : ℕ) (trap : Trap) (line : ℕ) → TrapsAt p asked.input steps trap line → asked.picks ≡ [] → bound_of p steps ≤ asked.limit → (end : PlayEnd) → IsRun w (opening game) asked.limit firings end → IsDueBy end asked.limit (text end) due → due.status ≡ status.Trapped
    fails_by no_limit steps trap line fails none enough (Trapped kind at) run is = ap (λ (d : Due). d.status) is
    fails_by no_limit steps trap line fails none enough (WriteFault n) run is = absurd is
    fails_by no_limit steps trap line fails none enough (Rest n) run is =
        let s = game.moves in
        let stage : stage p asked.input steps ≡ Failed (trap, line) = ap stage_of (fails.reached) in
        let told = lockstep.follows.fails steps (trap, line) stage in
        let same : s.trap there ≡ Some (trap, line) = told.same_trap ks (record { order = all.are.order; over = over_there run.ends.2 }) in
        absurd (no_trap (s.trap there) (trap, line) (ap s.trap all.are.leads ∙ run.ends.1) same)
      where
        no_trap : (t : Option (Trap × ℕ)) (x : Trap × ℕ) → t ≡ None → t ≡ Some x → ⊥
        no_trap t x none some = cc
    fails_by no_limit steps trap line fails none enough Limit run is =
        let s = game.moves in
        let m = game.start in
        let stage : stage p asked.input steps ≡ Failed (trap, line) = ap stage_of (fails.reached) in
        let there : s.trap (after s m (game.own_order steps)) ≡ Some (trap, line) = subst (StandsAt s (after s m (game.own_order steps))) stage (lockstep.simulated.stands steps) in
        let few = within steps in
        absurd (no_limit steps Limit none run (λ k can. no_trap (s.trap (after s m (game.own_order steps))) (trap, line) can.going there) (omega (arith, few, enough)) refl)
      where
        no_trap : (t : Option (Trap × ℕ)) (x : Trap × ℕ) → t ≡ None → t ≡ Some x → ⊥
        no_trap t x none some = cc
