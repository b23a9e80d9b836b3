-- What rewritten forms mean for their programs.
use Rattle.std.proofs.Common.{◌≡◌, ◌≢◌, ◌⊎◌, inl, inr, ℕ, ◌+◌, ◌-◌, ◌<◌, ◌≤◌, ℤ, Bool, List, [], refl, sym, ap, subst, ◌∙◌, ⊎_elim, append-nil, arith}
use Rattle.std.specs.Prelude.{All}
use Rattle.op_table.specs.declared.Trap.{Trap}
use Rattle.op_table.specs.Words.{IsWord}
use Rattle.f77_tree.specs.declared.programs.Program.{Program}
use Rattle.f77_tree.specs.Prefixes.{IsPrefix}
use Rattle.f77_tree.specs.Run as runs
use Rattle.f77_tree.specs.Run.{HasEnded, HasTrapped, Mark, PrintAlike, State, out, source}
use Rattle.f77_tree.specs.Steps.{StopsWithin}
use Rattle.flat_programs.specs.declared.statements.FlatLine.{FlatLine}
use Rattle.flat_programs.specs.FlatForm.{AreStatementsOf}
use Rattle.flat_programs.specs.Text.{text as text_of}
use Rattle.shared_forms.specs.declared.ends.RewriteEnd.{RewriteEnd}
use Rattle.shared_laws.specs.RewrittenSteps.{FollowsWithin}
use Rattle.shared_forms.specs.declared.ends.RewriteEnd.TheVariants as rewrite_end
use Rattle.rewriting.specs.Rewritten.{IsRewritten, IsRewrittenText, PassesLimit}
use Rattle.read_back.specs.PrintedArrays.{HasNoPrintedArrays}
use Rattle.read_back.specs.ReadAgain.{IsReadBack}
use Rattle.job_terms.specs.declared.status.Status.{Status}
use Rattle.job_terms.specs.declared.status.Status.TheVariants as status
use Rattle.job_terms.specs.Due.{Due, done, trapped_alone}
use Rattle.form_jobs.specs.DueForms.{IsDueByEnd, IsDueLimit, IsDueRegen, IsDueRun, IsDueRunOf, IsOutputDue, IsPrinted, IsTextDue, MakesSteps, due_by_mark}
use Rattle.job_laws.specs.Headline.{MeansEnd, MeansOn, MeansRegen, MeansRun, MeansStop, MeansText, run_bound}
use Rattle.job_laws.specs.SourceRuns.{Writes, run_of}
use Rattle.job_terms.specs.Tasks.{Regen, Run}
use Rattle.job_laws.proofs.SameOutputs.{RunsStay, print_the_same, same_end}
use Rattle.job_laws.proofs.Soon.{keeps_up_itself, means_run}

-- ---- one rewritten form

-- a program has one rewritten form, or it passes one limit
pub record IsOneForm (p : Program) (checked : Bool) : Type 0 where
  pub form : (s r : Program) → IsRewritten p checked s → IsRewritten p checked r → s ≡ r
  pub none : (s : Program) (end : RewriteEnd) → IsRewritten p checked s → PassesLimit p checked end → ⊥
  pub limit : (end other : RewriteEnd) → PassesLimit p checked end → PassesLimit p checked other → end ≡ other

by_end : (end : RewriteEnd) (a b : Due) → IsDueByEnd end a → IsDueByEnd end b → a ≡ b
by_end rewrite_end.TooManyNames a b is also = is ∙ sym also
by_end rewrite_end.TooManyStatements a b is also = is ∙ sym also
by_end rewrite_end.LongText a b is also = is ∙ sym also
by_end rewrite_end.NoMemory a b is also = absurd is

one_limit : (p : Program) (checked : Bool) → IsOneForm p checked → (a b : Due) → IsDueLimit p checked a → IsDueLimit p checked b → a ≡ b
one_limit p checked one a b is also =
    let same : also.end ≡ is.end = one.limit also.end is.end also.passes is.passes in
    by_end is.end a b is.is (subst (λ (end : RewriteEnd). IsDueByEnd end b) same also.is)

pub refused : (end : RewriteEnd) (due : Due) → IsDueByEnd end due → due.status ≡ status.Refused
refused rewrite_end.TooManyNames due is = ap (λ (d : Due). d.status) is
refused rewrite_end.TooManyStatements due is = ap (λ (d : Due). d.status) is
refused rewrite_end.LongText due is = ap (λ (d : Due). d.status) is
refused rewrite_end.NoMemory due is = absurd is

-- no other status comes of a limit
not_refused : (p : Program) (checked : Bool) (due : Due) (s : Status) → (status.Refused ≡ s → ⊥) → IsDueLimit p checked due → due.status ≡ s → ⊥
not_refused p checked due s other is told = other (sym (refused is.end due is.is) ∙ told)

-- ---- texts

-- two lists of statements that have the executables of one program are the same
abbrev pub OneList : Type 0
OneList = (p : Program) (flat other : List FlatLine) → AreStatementsOf p flat → AreStatementsOf p other → flat ≡ other

one_text : OneList → (s r : Program) → s ≡ r → (a b : Due) → IsPrinted s a → IsPrinted r b → a ≡ b
one_text one s r same a b is also =
    let there : IsPrinted s b = subst (λ (q : Program). IsPrinted q b) (sym same) also in
    is.is ∙ ap (λ flat. done (text_of s flat)) (one s is.flat there.flat is.statements there.statements) ∙ sym there.is

one_regen : OneList → (p : Program) (checked : Bool) → IsOneForm p checked → (a b : Due) → IsDueRegen p checked a → IsDueRegen p checked b → a ≡ b
one_regen lists p checked one a b is also =
    ⊎_elim
    (λ (x : IsTextDue p checked a). ⊎_elim
    (λ (y : IsTextDue p checked b). one_text lists x.form y.form (one.form x.form y.form x.rewritten y.rewritten) a b x.printed y.printed)
    (λ (y : IsDueLimit p checked b). absurd (one.none x.form y.end x.rewritten y.passes))
    also)
    (λ (x : IsDueLimit p checked a). ⊎_elim
    (λ (y : IsTextDue p checked b). absurd (one.none y.form x.end y.rewritten x.passes))
    (λ (y : IsDueLimit p checked b). one_limit p checked one a b x y)
    also)
    is

-- a program and its rewritten forms print alike
abbrev pub FormsPrintAlike : Program → (checked : Bool) → Type 0
FormsPrintAlike p checked = (s : Program) (input : List ℤ) → IsRewritten p checked s → All IsWord input → PrintAlike (source p input) (source s input)

-- and their texts are read back
abbrev pub TextsAreReadBack : Program → (checked : Bool) → Type 0
TextsAreReadBack p checked = (text : List ℕ) → HasNoPrintedArrays p.names → (is : IsRewrittenText p checked text) → IsReadBack text checked is.form

text_means : RunsStay → (p : Program) (checked : Bool) → FormsPrintAlike p checked → TextsAreReadBack p checked → (due : Due) → IsTextDue p checked due → MeansText checked p (run_of p) due.text
text_means stay p checked alike again due is = record {
  form = is.form;
  flat = is.printed.flat;
  statements = is.printed.statements;
  is = ap (λ (d : Due). d.text) is.printed.is;
  alike = λ input words. print_the_same stay p is.form input (alike is.form input is.rewritten words);
  read = λ arrays. again due.text arrays (record {
    form = is.form;
    rewritten = is.rewritten;
    flat = is.printed.flat;
    statements = is.printed.statements;
    is = ap (λ (d : Due). d.text) is.printed.is;
  });
}

regen_means : RunsStay → (p : Program) (checked : Bool) → FormsPrintAlike p checked → TextsAreReadBack p checked → (due : Due) → IsDueRegen p checked due → MeansRegen checked p (run_of p) due
regen_means stay p checked alike again due is = record {
  ends =
      ⊎_elim
      (λ (x : IsTextDue p checked due). inl (ap (λ (d : Due). d.status) x.printed.is))
      (λ (x : IsDueLimit p checked due). inr (refused x.end due x.is))
      is;
  text = λ told. ⊎_elim
      (λ (x : IsTextDue p checked due). text_means stay p checked alike again due x)
      (λ (x : IsDueLimit p checked due). absurd (not_refused p checked due status.Done (λ e. absurd cc) x told))
      is;
}

pub regen_on : RunsStay → OneList → (p : Program) (checked : Bool) → IsOneForm p checked → FormsPrintAlike p checked → TextsAreReadBack p checked → MeansOn Regen checked p (run_of p)
regen_on stay lists p checked one alike again = record { one = one_regen lists p checked one; means = regen_means stay p checked alike again }

-- ---- runs

-- a run makes so many steps and no others
one_count : (p : Program) (input : List ℤ) (limit m n : ℕ) → MakesSteps p input limit m → MakesSteps p input limit n → m ≡ n
one_count p input limit m n a b =
    let low : m < n → ⊥ = λ (less : m < n). let e = a.last (b.before m less) in let le = b.most in omega (arith, less, e, le) in
    let high : n < m → ⊥ = λ (less : n < m). let e = b.last (a.before n less) in let le = a.most in omega (arith, less, e, le) in
    between m n low high
  where
    between : (m n : ℕ) → (m < n → ⊥) → (n < m → ⊥) → m ≡ n
    between m n low high = grind (arith, low, high)

one_output : (s r : Program) (input : List ℤ) (limit : ℕ) → s ≡ r → (a b : Due) → IsDueRunOf s input limit a → IsDueRunOf r input limit b → a ≡ b
one_output s r input limit same a b is also =
    let there : IsDueRunOf s input limit b = subst (λ (q : Program). IsDueRunOf q input limit b) (sym same) also in
    is.is ∙ ap (λ n. due_by_mark (source s input n).mark (out s input n) limit) (one_count s input limit is.steps there.steps is.made there.made) ∙ sym there.is

one_run : (p : Program) (checked : Bool) (input : List ℤ) (limit : ℕ) → IsOneForm p checked → (a b : Due) → IsDueRun p checked input limit a → IsDueRun p checked input limit b → a ≡ b
one_run p checked input limit one a b is also =
    ⊎_elim
    (λ (x : IsOutputDue p checked input limit a). ⊎_elim
    (λ (y : IsOutputDue p checked input limit b). one_output x.form y.form input limit (one.form x.form y.form x.rewritten y.rewritten) a b x.ran y.ran)
    (λ (y : IsDueLimit p checked b). absurd (one.none x.form y.end x.rewritten y.passes))
    also)
    (λ (x : IsDueLimit p checked a). ⊎_elim
    (λ (y : IsOutputDue p checked input limit b). absurd (one.none y.form x.end y.rewritten x.passes))
    (λ (y : IsDueLimit p checked b). one_limit p checked one a b x y)
    also)
    is

-- ---- what runs that print alike come to

module _ (stay : RunsStay) (p s : Program) (input : List ℤ) (alike : PrintAlike (source p input) (source s input)) where
  -- where the run of the rewritten form has ended, so has that of the program
  end_means : (n : ℕ) (text : List ℕ) → (source s input n).mark ≡ runs.Ended → text ≡ out s input n → MeansEnd input p (run_of p input) text
  end_means n text ended is =
      let has : HasEnded (source p input) = alike.ends.1 (record { steps = n; ended = ended }) in
      let stop : StopsWithin p input has.steps runs.Ended = stay.first p input has.steps runs.Ended (λ e. absurd cc) has.ended in
      let same : text ≡ out p input stop.count = is ∙ same_end stay p s input alike stop.count n stop.stops.reached ended in
      record { run_ends = record { steps = stop.count; is = stop.stops.reached; whole = sym same }; steps = stop.count; ends = stop.stops; output = same }

  -- and so with a trap
  stop_means : (n : ℕ) (trap : Trap) (line : ℕ) (due : Due) → (source s input n).mark ≡ runs.Trapped trap line → due ≡ trapped_alone (out s input n) trap → MeansStop input p (run_of p input) due
  stop_means n trap line due trapped is =
      let text : due.text ≡ out s input n = ap (λ (d : Due). d.text) is in
      let has : HasTrapped (source p input) trap (out s input n) = (alike.traps trap (out s input n)).1 (record { steps = n; line = line; trapped = trapped; whole = refl }) in
      let stop : StopsWithin p input has.steps (runs.Trapped trap has.line) = stay.first p input has.steps (runs.Trapped trap has.line) (λ e. absurd cc) has.trapped in
      let le = stop.within in
      let more = has.steps - stop.count in
      let sum : more + stop.count ≡ has.steps = omega (arith, le) in
      let same : out p input has.steps ≡ out p input stop.count = ap (out p input) (sym sum) ∙ ap (λ (x : State). x.out) (stay.trapped p input stop.count more trap has.line stop.stops.reached) in
      record {
        steps = stop.count;
        trap = trap;
        line = has.line;
        run_traps = record { steps = stop.count; is = stop.stops.reached; whole = sym (text ∙ sym has.whole ∙ same) };
        traps = stop.stops;
        is = is ∙ ap (λ (bytes : List ℕ). trapped_alone bytes trap) (sym text);
        output = text ∙ sym has.whole ∙ same;
      }

  -- ---- how far a run comes

  module _ (follows : (n : ℕ) → FollowsWithin p s input n) (limit k : ℕ) (made : MakesSteps s input limit k) where
    abbrev mark_at : ℕ → Mark
    mark_at n = (source s input n).mark

    -- a run that has stopped within the limit has the mark that it stopped with
    same_mark : (m : ℕ) → m ≤ limit → mark_at m ≢ runs.Running → mark_at k ≡ mark_at m
    same_mark m within stopped = on (below_or_not m k)
      where
        below_or_not : (m k : ℕ) → (m < k) ⊎ (k ≤ m)
        below_or_not m k = grind arith

        stays : k ≤ m → (mark : Mark) → mark_at k ≡ mark → mark_at k ≡ mark_at m
        stays le runs.Running is =
            let e = made.last is in
            let same : k ≡ m = omega (arith, e, le, within) in
            ap mark_at same
        stays le runs.Ended is =
            let sum : m - k + k ≡ m = omega (arith, le) in
            sym (ap mark_at (sym sum) ∙ ap (λ (x : State). x.mark) (stay.ended s input k (m - k) is))
        stays le (runs.Trapped trap line) is =
            let sum : m - k + k ≡ m = omega (arith, le) in
            sym (ap mark_at (sym sum) ∙ ap (λ (x : State). x.mark) (stay.trapped s input k (m - k) trap line is))

        on : (m < k) ⊎ (k ≤ m) → mark_at k ≡ mark_at m
        on (inl low) = absurd (stopped (made.before m low))
        on (inr high) = stays high (mark_at k) refl

    -- so it has the mark of the program, where the limit is large enough
    mark_of_program : (n : ℕ) (mark : Mark) → mark ≢ runs.Running → (source p input n).mark ≡ mark → run_bound p n ≤ limit → mark_at k ≡ mark
    mark_of_program n mark stopped is enough =
        let f = follows n in
        let there : mark_at f.steps ≡ mark = f.agrees.mark ∙ is in
        let low = f.most in
        let within : f.steps ≤ limit = le_trans f.steps (run_bound p n) limit low enough in
        same_mark f.steps within (λ e. stopped (sym there ∙ e)) ∙ there
      where
        le_trans : (a b c : ℕ) → a ≤ b → b ≤ c → a ≤ c
        le_trans a b c low high = omega (arith, low, high)

    -- what the program has written is written by then
    written_by : (n : ℕ) → run_bound p n ≤ limit → IsPrefix (out p input n) (out s input k)
    written_by n enough =
        let f = follows n in
        let low = f.most in
        let within : f.steps ≤ limit = le_trans f.steps (run_bound p n) limit low enough in
        subst (λ bytes. IsPrefix bytes (out s input k)) f.agrees.text (on f.steps within (below_or_not f.steps k))
      where
        le_trans : (a b c : ℕ) → a ≤ b → b ≤ c → a ≤ c
        le_trans a b c low high = omega (arith, low, high)

        below_or_not : (m k : ℕ) → (m ≤ k) ⊎ (k < m)
        below_or_not m k = grind arith

        stays : (m : ℕ) → m ≤ limit → k < m → (mark : Mark) → mark_at k ≡ mark → out s input k ≡ out s input m
        stays m within lt runs.Running is = let e = made.last is in absurd (omega (arith, e, lt, within))
        stays m within lt runs.Ended is =
            let sum : m - k + k ≡ m = omega (arith, lt) in
            sym (ap (out s input) (sym sum) ∙ ap (λ (x : State). x.out) (stay.ended s input k (m - k) is))
        stays m within lt (runs.Trapped trap line) is =
            let sum : m - k + k ≡ m = omega (arith, lt) in
            sym (ap (out s input) (sym sum) ∙ ap (λ (x : State). x.out) (stay.trapped s input k (m - k) trap line is))

        on : (m : ℕ) → m ≤ limit → (m ≤ k) ⊎ (k < m) → IsPrefix (out s input m) (out s input k)
        on m within which = ⊎_elim
            (λ (le : m ≤ k). let sum : k - m + m ≡ k = omega (arith, le) in subst (λ n. IsPrefix (out s input m) (out s input n)) sum (stay.text s input m (k - m)))
            (λ (lt : k < m). record { more = []; is = stays m within lt (mark_at k) refl ∙ sym (append-nil (out s input m)) })
            which

  -- what the rewritten form has written the program writes too
  written_here : (n : ℕ) → Writes (run_of p input) (out s input n)
  written_here n = let here = alike.back n in record { steps = here.steps; rest = here.rest; is = here.is }

  -- what is due of a run means what the run of the program does
  record MeansOutput (due : Due) : Type 0 where
    prefix : Writes (run_of p input) due.text
    ends : due.status ≡ status.Done → MeansEnd input p (run_of p input) due.text
    traps : due.status ≡ status.Trapped → MeansStop input p (run_of p input) due

  by_mark : (limit n : ℕ) (due : Due) (mark : Mark) → (source s input n).mark ≡ mark → due ≡ due_by_mark mark (out s input n) limit → MeansOutput due
  by_mark limit n due runs.Running at is =
      let text : due.text ≡ out s input n = ap (λ (d : Due). d.text) is in
      let state : due.status ≡ status.Limit = ap (λ (d : Due). d.status) is in
      record {
        prefix = subst (Writes (run_of p input)) (sym text) (written_here n);
        ends = λ told. let e : status.Limit ≡ status.Done = sym state ∙ told in absurd cc;
        traps = λ told. let e : status.Limit ≡ status.Trapped = sym state ∙ told in absurd cc;
      }
  by_mark limit n due runs.Ended at is =
      let text : due.text ≡ out s input n = ap (λ (d : Due). d.text) is in
      let state : due.status ≡ status.Done = ap (λ (d : Due). d.status) is in
      record {
        prefix = subst (Writes (run_of p input)) (sym text) (written_here n);
        ends = λ told. end_means n due.text at text;
        traps = λ told. let e : status.Done ≡ status.Trapped = sym state ∙ told in absurd cc;
      }
  by_mark limit n due (runs.Trapped trap line) at is =
      let text : due.text ≡ out s input n = ap (λ (d : Due). d.text) is in
      let state : due.status ≡ status.Trapped = ap (λ (d : Due). d.status) is in
      record {
        prefix = subst (Writes (run_of p input)) (sym text) (written_here n);
        ends = λ told. let e : status.Trapped ≡ status.Done = sym state ∙ told in absurd cc;
        traps = λ told. stop_means n trap line due at is;
      }

  told_text : (mark : Mark) (text : List ℕ) (limit : ℕ) (due : Due) → due ≡ due_by_mark mark text limit → due.text ≡ text
  told_text runs.Running text limit due is = ap (λ (d : Due). d.text) is
  told_text runs.Ended text limit due is = ap (λ (d : Due). d.text) is
  told_text (runs.Trapped trap line) text limit due is = ap (λ (d : Due). d.text) is

  output_means : ((n : ℕ) → FollowsWithin p s input n) → (limit : ℕ) (due : Due) → IsDueRunOf s input limit due → MeansRun limit input p (run_of p input) due
  output_means follows limit due is =
      let k = is.steps in
      let text = out s input k in
      let m = by_mark limit k due (source s input k).mark refl is.is in
      means_run stay.first p input (run_of p input) (keeps_up_itself (run_of p input)) limit due m.prefix m.ends m.traps
      (λ n ends enough.
      let mark = mark_of_program follows limit k is.made n runs.Ended (λ e. absurd cc) ends.reached enough in
      inl (ap (λ (d : Due). d.status) (is.is ∙ ap (λ (x : Mark). due_by_mark x text limit) mark)))
      (λ n trap line traps enough.
      let mark = mark_of_program follows limit k is.made n (runs.Trapped trap line) (λ e. absurd cc) traps.reached enough in
      inl (ap (λ (d : Due). d.status) (is.is ∙ ap (λ (x : Mark). due_by_mark x text limit) mark)))
      (λ n enough. inl (subst (IsPrefix (out p input n)) (sym (told_text (source s input k).mark text limit due is.is)) (written_by follows limit k is.made n enough)))

-- nothing is written before the line that tells of a limit of the rewriting
no_text : (end : RewriteEnd) (due : Due) → IsDueByEnd end due → due.text ≡ []
no_text rewrite_end.TooManyNames due is = ap (λ (d : Due). d.text) is
no_text rewrite_end.TooManyStatements due is = ap (λ (d : Due). d.text) is
no_text rewrite_end.LongText due is = ap (λ (d : Due). d.text) is
no_text rewrite_end.NoMemory due is = absurd is

limit_means : (p : Program) (checked : Bool) (limit : ℕ) (input : List ℤ) (due : Due) → IsDueLimit p checked due → MeansRun limit input p (run_of p input) due
limit_means p checked limit input due is = record {
  prefix = record { steps = 0; rest = []; is = sym (append-nil due.text ∙ no_text is.end due is.is) };
  ends = λ told. absurd (not_refused p checked due status.Done (λ e. absurd cc) is told);
  traps = λ told. absurd (not_refused p checked due status.Trapped (λ e. absurd cc) is told);
  finishes = λ n ends enough. inr (refused is.end due is.is);
  fails = λ n trap line traps enough. inr (refused is.end due is.is);
  reaches = λ n enough. inr (refused is.end due is.is);
  soon = record {
    finishes = λ n ends enough. inr (refused is.end due is.is);
    fails = λ n trap line traps enough. inr (refused is.end due is.is);
    reaches = λ n enough. inr (refused is.end due is.is);
  };
}

-- and they follow it in few steps
abbrev pub FormsFollow : Program → (checked : Bool) → Type 0
FormsFollow p checked = (s : Program) (input : List ℤ) (n : ℕ) → IsRewritten p checked s → All IsWord input → FollowsWithin p s input n

run_means : RunsStay → (p : Program) (checked : Bool) (input : List ℤ) (limit : ℕ) → All IsWord input → FormsPrintAlike p checked → FormsFollow p checked → (due : Due) → IsDueRun p checked input limit due → MeansRun limit input p (run_of p input) due
run_means stay p checked input limit words alike follow due is =
    ⊎_elim
    (λ (x : IsOutputDue p checked input limit due). output_means stay p x.form input (alike x.form input x.rewritten words) (λ n. follow x.form input n x.rewritten words) limit due x.ran)
    (λ (x : IsDueLimit p checked due). limit_means p checked limit input due x)
    is

pub run_on : RunsStay → (p : Program) (checked : Bool) (input : List ℤ) (limit : ℕ) → All IsWord input → IsOneForm p checked → FormsPrintAlike p checked → FormsFollow p checked → MeansOn (Run limit input) checked p (run_of p)
run_on stay p checked input limit words one alike follow = record { one = one_run p checked input limit one; means = run_means stay p checked input limit words alike follow }
