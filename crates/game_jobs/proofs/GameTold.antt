-- What is told of a game.
use Rattle.std.proofs.Common.{◌≡◌, Bool, true, false, ℕ, zero, suc, ◌+◌, ◌-◌, ◌<◌, ◌≤◌, List, [], ◌∷◌, ◌++◌, length, take, Option, Some, refl, sym, ap, subst, ◌∙◌, append_assoc, append-nil, length-append, arith}
use Rattle.std.proofs.KnownBytes.{Appends-trans}
use Rattle.std.proofs.Math.Seq.{take-append-add, take-nil}
use Rattle.std.specs.Io.KnownBytes.{Appends}
use Rattle.op_table.specs.declared.Trap.{Trap}
use Rattle.f77_tree.specs.declared.programs.Program.{Program}
use Rattle.df_io.specs.Write.{AppendsPrefix}
use Rattle.df_io.proofs.Prefixes.{AppendsPrefix-longer}
use Rattle.firing.specs.declared.playing.PlayEnd.{PlayEnd}
use Rattle.firing.specs.declared.playing.PlayEnd.TheVariants as end
use Rattle.firing.specs.declared.playing.Show.{Show}
use Rattle.firing.specs.declared.playing.Show.TheVariants as show
use Rattle.firing.specs.Control.{Course}
use Rattle.firing.specs.Moves.{Moves, CanFire}
use Rattle.firing.specs.Play.{Moment, Way, BreaksOff, Plays, by_order, by_picks, moment, node_at, played, shown, shown_at}
use Rattle.firing.specs.Runs.{HasEnd, IsOwnEnd, IsRun}
use Rattle.job_terms.specs.declared.status.Status.{Status}
use Rattle.job_terms.specs.declared.status.Status.TheVariants.{Done, WriteFault}
use Rattle.job_terms.specs.declared.task.Told.{Told}
use Rattle.job_terms.specs.declared.task.Told.TheVariants.{Output, Nodes, Store}
use Rattle.job_terms.specs.Answers.{AnswersAs, Tells}
use Rattle.job_terms.specs.Due.{Due, done, stopped, trapped}
use Rattle.game_jobs.specs.DueGames.{IsDueBy, IsDuePlay, IsGameOf, IsGameTold, shown_by_forks, told_by_forks, told_text}
use Rattle.program_nets.specs.Game.{GameKind, IsGameOn, Place}
use Rattle.program_nets.specs.Playing.{Game, opening, way_by, way_of}
use Rattle.game_jobs.specs.StoreText.{fired_line, store_text}
use Rattle.job_terms.specs.Tasks.{Asked}
use Rattle.job_terms.proofs.AnswersTold.{prefix_after, trap_after, limit_after}

module _ {M P : Type 0} (w : Way M P) (start : Moment M P) (limit : ℕ) (show : Show) where
  abbrev text : ℕ → List ℕ
  text n = shown w show start n

  run_of : {last : Moment M P} {old mid : Option (List ℕ)} {end : PlayEnd} (plays : Plays w start limit show last old mid end) → IsOwnEnd end → IsRun w start limit plays.firings end
  run_of plays own = record { going = plays.going; bounded = plays.bounded; ends = plays.ends; own = own }

  module _ (last : Moment M P) (old mid : Option (List ℕ)) where
    -- nothing follows at rest
    pub rest_told : (n : ℕ) → Plays w start limit show last old mid (end.Rest n) → AnswersAs (IsGameOf w start limit show) old mid Done
    rest_told n plays = record {
      due = done (text plays.firings);
      is = record { firings = plays.firings; played = record { end = end.Rest n; run = run_of plays tt; is = refl } };
      same = refl;
      written = subst (Appends old mid) (sym (append-nil (text plays.firings))) plays.writes;
    }

    pub trap_told : (trap : Trap) (line : ℕ) (new : Option (List ℕ)) (s : Status) → Plays w start limit show last old mid (end.Trapped trap line) → Tells (trapped [] trap line) mid new s → AnswersAs (IsGameOf w start limit show) old new s
    trap_told trap line new s plays tells =
        trap_after (IsGameOf w start limit show) (text plays.firings) trap line (record { firings = plays.firings; played = record { end = end.Trapped trap line; run = run_of plays tt; is = refl } })
        old mid new s plays.writes tells

    pub limit_told : (new : Option (List ℕ)) (s : Status) → Plays w start limit show last old mid end.Limit → Tells (stopped [] limit) mid new s → AnswersAs (IsGameOf w start limit show) old new s
    limit_told new s plays tells =
        limit_after (IsGameOf w start limit show) (text plays.firings) limit (record { firings = plays.firings; played = record { end = end.Limit; run = run_of plays tt; is = refl } })
        old mid new s plays.writes tells

  -- ---- a fault of the sink

  -- what fewer firings write is at the beginning of what more write
  text_prefix : (n more : ℕ) → (rest : List ℕ) × (text (more + n) ≡ text n ++ rest)
  text_prefix n zero =
      let same : zero + n ≡ n = omega arith in
      ([], ap text same ∙ sym (append-nil (text n)))
  text_prefix n (suc more) =
      let before = text_prefix n more in
      let next = shown_at w show start (more + n) in
      let same : suc more + n ≡ suc (more + n) = omega arith in
      (before.0 ++ next, ap text same ∙ ap (λ (bytes : List ℕ). bytes ++ next) before.1 ∙ append_assoc (text n) before.0 next)

  broken : (n : ℕ) (old mid : Option (List ℕ)) → BreaksOff w show start n old mid → AppendsPrefix old mid (text n)
  broken n old mid b =
      let prefix : AppendsPrefix old mid (text b.last ++ shown_at w show start b.last) = record {
        count = length (text b.last) + b.count;
        within = let all = length-append (text b.last) (shown_at w show start b.last) in let low = b.within in omega (arith, all, low);
        added = subst (Appends old mid) (sym (take-append-add (text b.last) (shown_at w show start b.last) b.count)) b.written;
      } in
      subst (λ i. AppendsPrefix old mid (text i)) (sym b.is) prefix

  pub record IsDueWith (e : PlayEnd) (bytes : List ℕ) : Type 0 where
    pub due : Due
    pub is : IsDueBy e limit bytes due
    pub same : due.text ≡ bytes

  pub due_with : (e : PlayEnd) (bytes : List ℕ) → IsOwnEnd e → IsDueWith e bytes
  due_with (end.Rest n) bytes own = record { due = done bytes; is = refl; same = refl }
  due_with (end.Trapped trap line) bytes own = record { due = trapped bytes trap line; is = refl; same = refl }
  due_with end.Limit bytes own = record { due = stopped bytes limit; is = refl; same = refl }
  due_with (end.WriteFault n) bytes own = absurd own

  pub fault_told : (last : Moment M P) (old mid : Option (List ℕ)) (n : ℕ) → HasEnd w start limit → ((j m : ℕ) (e : PlayEnd) → IsRun w start limit m e → j ≤ limit → ((i : ℕ) → i < j → CanFire w.moves (played w start i).marking (node_at w start i)) → j ≤ m) → Plays w start limit show last old mid (end.WriteFault n) → AnswersAs (IsGameOf w start limit show) old mid WriteFault
  fault_told last old mid n has longest plays =
      let le : plays.firings ≤ has.firings = longest plays.firings has.firings has.end has.run plays.bounded plays.going in
      let more = has.firings - plays.firings in
      let sum : more + plays.firings ≡ has.firings = omega (arith, le) in
      let rest = text_prefix plays.firings more in
      let with = due_with has.end (text has.firings) has.run.own in
      let prefix : AppendsPrefix old mid (text has.firings) = subst (λ i. AppendsPrefix old mid (text i)) sum (subst (AppendsPrefix old mid) (sym rest.1) (AppendsPrefix-longer old mid (text plays.firings) rest.0 (broken plays.firings old mid plays.writes))) in
      record {
        due = with.due;
        is = record { firings = has.firings; played = record { end = has.end; run = has.run; is = with.is } };
        prefix = subst (λ bytes. AppendsPrefix old mid (bytes ++ with.due.last)) (sym with.same) (AppendsPrefix-longer old mid (text has.firings) with.due.last prefix);
      }

-- a game has an end where its run has, by picks or in the source's own order
pub has_end : {M P : Type 0} (moves : Moves M) (course : Course M P) (start : Moment M P) (limit : ℕ) → HasEnd (by_order moves course) start limit → ((picks : List ℕ) → HasEnd (by_picks moves course picks) start limit) → (picks : List ℕ) → HasEnd (way_by moves course picks) start limit
has_end moves course start limit order by [] = order
has_end moves course start limit order by (pick ∷ picks) = by (pick ∷ picks)

-- ---- a game of a program

-- where the output is told, or the nodes, what is shown of the firings is told
pub output_told : {M : Type 0} (kind : GameKind M) (what : Told) → what ≡ Output → (p : Program) (w : Way M Place) (start : Moment M Place) (limit : ℕ) (due : Due) → IsGameOf w start limit show.Output due → IsGameTold kind what p w start limit due
output_told kind what same p w start limit due is = subst (λ (shown_as : Told). IsGameTold kind shown_as p w start limit due) (sym same) (record { firings = is.firings; tells = record { end = is.played.end; run = is.played.run; is = is.played.is } })

pub nodes_told : {M : Type 0} (kind : GameKind M) (what : Told) → what ≡ Nodes → (p : Program) (w : Way M Place) (start : Moment M Place) (limit : ℕ) (due : Due) → IsGameOf w start limit show.Nodes due → IsGameTold kind what p w start limit due
nodes_told kind what same p w start limit due is = subst (λ (shown_as : Told). IsGameTold kind shown_as p w start limit due) (sym same) (record { firings = is.firings; tells = record { end = is.played.end; run = is.played.run; is = is.played.is } })

-- what `forks` shows of the firings is told
pub forks_told : {M : Type 0} (kind : GameKind M) (nodes : Bool) (p : Program) (w : Way M Place) (start : Moment M Place) (limit : ℕ) (due : Due) → IsGameOf w start limit (shown_by_forks nodes) due → IsGameTold kind (told_by_forks nodes) p w start limit due
forks_told kind false p w start limit due is = output_told kind Output refl p w start limit due is
forks_told kind true p w start limit due is = nodes_told kind Nodes refl p w start limit due is

-- a game of the program and its data is due on it
pub played_on : {M : Type 0} (kind : GameKind M) (what : Told) (asked : Asked) (p : Program) (game : Game M Place) (m : M) (place : Option Place) (picks : List ℕ) → IsGameOn kind p asked.input game → m ≡ game.start → place ≡ Some game.control → picks ≡ asked.picks → (due : Due) → IsGameTold kind what p (way_of game picks) (moment m place) asked.limit due → IsDuePlay kind what asked p due
played_on {M = M} kind what asked p game m place picks own begun control same due is =
    let there : IsGameTold kind what p (way_of game asked.picks) (opening game) asked.limit due =
    subst (λ xs. IsGameTold kind what p (way_of game xs) (opening game) asked.limit due) same
    (subst (λ c. IsGameTold kind what p (way_of game picks) (moment game.start c) asked.limit due) control
    (subst (λ (x : M). IsGameTold kind what p (way_of game picks) (moment x place) asked.limit due) begun is)) in
    record { firings = there.firings; played = record { game = game; own = own; played = there.tells } }

-- ---- the store

-- what is shown of firings of which nothing is shown
nothing_shown : {M : Type 0} (w : Way M Place) (start : Moment M Place) (n : ℕ) → shown w show.Nothing start n ≡ []
nothing_shown w start zero = refl
nothing_shown w start (suc n) = append-nil (shown w show.Nothing start n) ∙ nothing_shown w start n

module _ {M : Type 0} (kind : GameKind M) (p : Program) (w : Way M Place) (start : Moment M Place) (limit : ℕ) where
  -- nothing was written of the firings
  unwritten : (n : ℕ) (old mid : Option (List ℕ)) → Appends old mid (shown w show.Nothing start n) → Appends old mid []
  unwritten n old mid written = subst (Appends old mid) (nothing_shown w start n) written

  abbrev is_told : Due → Type 0
  is_told due = IsGameTold kind Store p w start limit due

  module _ (last : Moment M Place) (old mid : Option (List ℕ)) where
    -- at rest: the store, and how many nodes fired
    abbrev text_at : (count : ℕ) → List ℕ
    text_at count = store_text p.names (kind.store last.marking) ++ fired_line count

    rest_due : (n : ℕ) → Plays w start limit show.Nothing last old mid (end.Rest n) → is_told (done (text_at n))
    rest_due n plays = record {
      firings = plays.firings;
      tells = record {
        end = end.Rest n;
        run = run_of w start limit show.Nothing plays tt;
        is = ap (λ (m : Moment M Place). done (store_text p.names (kind.store m.marking) ++ fired_line n)) plays.leads;
      };
    }

    pub store_told : (n : ℕ) (new : Option (List ℕ)) → Plays w start limit show.Nothing last old mid (end.Rest n) → Appends mid new (text_at n) → AnswersAs is_told old new Done
    store_told n new plays written = record {
      due = done (text_at n);
      is = rest_due n plays;
      same = refl;
      written = subst (Appends old new) (sym (append-nil (text_at n))) (Appends-trans old mid new [] (text_at n) (unwritten plays.firings old mid plays.writes) written);
    }

    pub store_begun : (n : ℕ) (new : Option (List ℕ)) → Plays w start limit show.Nothing last old mid (end.Rest n) → AppendsPrefix mid new (text_at n) → AnswersAs is_told old new WriteFault
    store_begun n new plays prefix = record {
      due = done (text_at n);
      is = rest_due n plays;
      prefix = subst (AppendsPrefix old new) (sym (append-nil (text_at n))) (prefix_after old mid new [] (text_at n) (unwritten plays.firings old mid plays.writes) prefix);
    }

    -- at a trap or at the limit no store is told
    pub store_trap : (trap : Trap) (line : ℕ) (new : Option (List ℕ)) (s : Status) → Plays w start limit show.Nothing last old mid (end.Trapped trap line) → Tells (trapped [] trap line) mid new s → AnswersAs is_told old new s
    store_trap trap line new s plays tells =
        trap_after is_told [] trap line (record { firings = plays.firings; tells = record { end = end.Trapped trap line; run = run_of w start limit show.Nothing plays tt; is = refl } })
        old mid new s (unwritten plays.firings old mid plays.writes) tells

    pub store_limit : (new : Option (List ℕ)) (s : Status) → Plays w start limit show.Nothing last old mid end.Limit → Tells (stopped [] limit) mid new s → AnswersAs is_told old new s
    store_limit new s plays tells =
        limit_after is_told [] limit (record { firings = plays.firings; tells = record { end = end.Limit; run = run_of w start limit show.Nothing plays tt; is = refl } })
        old mid new s (unwritten plays.firings old mid plays.writes) tells

    -- Before the end nothing was written.
    pub store_fault : (n : ℕ) → HasEnd w start limit → Plays w start limit show.Nothing last old mid (end.WriteFault n) → AnswersAs is_told old mid WriteFault
    store_fault n has plays =
        let b : BreaksOff w show.Nothing start plays.firings old mid = plays.writes in
        let with = due_with w start limit show.Nothing has.end (told_text kind Store p w start has.firings has.end) has.run.own in
        let none : shown w show.Nothing start b.last ++ take b.count [] ≡ [] = ap (λ (bytes : List ℕ). shown w show.Nothing start b.last ++ bytes) (take-nil b.count) ∙ append-nil (shown w show.Nothing start b.last) ∙ nothing_shown w start b.last in
        record {
          due = with.due;
          is = record { firings = has.firings; tells = record { end = has.end; run = has.run; is = with.is } };
          prefix = record { count = 0; within = omega arith; added = subst (Appends old mid) none b.written };
        }
