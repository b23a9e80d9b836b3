-- What is told of rewritten forms.
use Rattle.std.proofs.Common.{◌≡◌, ℕ, ℤ, Bool, List, [], inl, inr, Option, Err, refl, sym, ap, subst, ◌∙◌, ⊎_elim, append-nil}
use Rattle.std.specs.Prelude.{IsErrOf}
use Rattle.std.specs.Io.KnownBytes.{Appends}
use Rattle.df_io.specs.Write.{AppendsPrefix}
use Rattle.df_io.proofs.Prefixes.{AppendsPrefix-longer}
use Rattle.op_table.specs.declared.Trap.{Trap}
use Rattle.f77_tree.specs.declared.programs.Program.{Program}
use Rattle.f77_tree.specs.Run as runs
use Rattle.f77_tree.specs.Run.{Mark, out, source}
use Rattle.shared_forms.specs.declared.ends.RewriteEnd.{RewriteEnd}
use Rattle.shared_forms.specs.declared.ends.RewriteEnd.TheVariants as rewrite_end
use Rattle.rewriting.specs.Rewritten.{IsRewrittenText, PassesLimit}
use Rattle.form_jobs.specs.declared.run.RunEnd.{RunEnd}
use Rattle.form_jobs.specs.declared.run.RunEnd.TheVariants as end
use Rattle.job_terms.specs.declared.status.Status.{Status}
use Rattle.job_terms.specs.declared.status.Status.TheVariants.{Done, Trapped, WriteFault}
use Rattle.job_terms.specs.Answers.{AnswersAs, Tells}
use Rattle.job_terms.specs.Due.{Due, IsJust, done, stopped, trapped_alone}
use Rattle.form_jobs.specs.DueForms.{IsDueByEnd, IsDueLimit, IsDueRun, IsDueRegen, IsDueRunOf, due_by_mark}
use Rattle.form_jobs.specs.Stopping.{IsBrokenOff, IsWritten, end_by}
use Rattle.job_terms.proofs.AnswersTold.{begun_on, limit_after, told_on}

-- ---- limits

-- the end of a rewriting without a form passes a limit, but for want of memory
pub record IsEndOf (p : Program) (checked : Bool) (end : RewriteEnd) : Type 0 where
  pub names : IsErrOf {T = Program} (Err end) rewrite_end.TooManyNames → PassesLimit p checked rewrite_end.TooManyNames
  pub statements : IsErrOf {T = Program} (Err end) rewrite_end.TooManyStatements → PassesLimit p checked rewrite_end.TooManyStatements
  pub long : IsErrOf {T = Program} (Err end) rewrite_end.LongText → PassesLimit p checked rewrite_end.LongText

-- what an error is doesn't hang on what there is where there is none
other_error : {T : Type 0} (a b : RewriteEnd) → IsErrOf {T = Program} (Err a) b → IsErrOf {T = T} (Err a) b
other_error {T} a b is =
    let e : Err a ≡ Err b = is in
    let same : a ≡ b = cc in
    ap (λ (x : RewriteEnd). Err x) same

-- the same of a rewriting that gives a text
pub end_of_text : {T : Type 0} (p : Program) (checked : Bool) (end : RewriteEnd) → (IsErrOf {T = T} (Err end) rewrite_end.TooManyNames → PassesLimit p checked rewrite_end.TooManyNames) → (IsErrOf {T = T} (Err end) rewrite_end.TooManyStatements → PassesLimit p checked rewrite_end.TooManyStatements) → (IsErrOf {T = T} (Err end) rewrite_end.LongText → PassesLimit p checked rewrite_end.LongText) → IsEndOf p checked end
end_of_text p checked end names statements long =
    record {
      names = λ is. names (other_error end rewrite_end.TooManyNames is);
      statements = λ is. statements (other_error end rewrite_end.TooManyStatements is);
      long = λ is. long (other_error end rewrite_end.LongText is);
    }

pub limit_due : (p : Program) (checked : Bool) (end : RewriteEnd) → IsEndOf p checked end → (due : Due) → IsDueByEnd end due → IsDueLimit p checked due
limit_due p checked rewrite_end.TooManyNames is due told = record { end = rewrite_end.TooManyNames; passes = is.names refl; is = told }
limit_due p checked rewrite_end.TooManyStatements is due told = record { end = rewrite_end.TooManyStatements; passes = is.statements refl; is = told }
limit_due p checked rewrite_end.LongText is due told = record { end = rewrite_end.LongText; passes = is.long refl; is = told }
limit_due p checked rewrite_end.NoMemory is due told = absurd told

-- ---- runs

ended_mark : (mark : Mark) → end.Ended ≡ end_by mark → mark ≡ runs.Ended
ended_mark runs.Running is = absurd cc
ended_mark runs.Ended is = refl
ended_mark (runs.Trapped trap line) is = absurd cc

going_mark : (mark : Mark) → end.Limit ≡ end_by mark → mark ≡ runs.Running
going_mark runs.Running is = refl
going_mark runs.Ended is = absurd cc
going_mark (runs.Trapped trap line) is = absurd cc

abbrev trap_in : Trap → RunEnd → Trap
trap_in other end.Ended = other
trap_in other (end.Trapped trap) = trap
trap_in other end.Limit = other

trapped_due : (trap : Trap) (mark : Mark) (text : List ℕ) (limit : ℕ) → end.Trapped trap ≡ end_by mark → trapped_alone text trap ≡ due_by_mark mark text limit
trapped_due trap runs.Running text limit is = absurd cc
trapped_due trap runs.Ended text limit is = absurd cc
trapped_due trap (runs.Trapped kind line) text limit is = ap (trapped_alone text) (ap (trap_in trap) is)

text_due : (mark : Mark) (text : List ℕ) (limit : ℕ) → (due_by_mark mark text limit).text ≡ text
text_due runs.Running text limit = refl
text_due runs.Ended text limit = refl
text_due (runs.Trapped trap line) text limit = refl

module _ (p : Program) (input : List ℤ) (limit : ℕ) (old mid : Option (List ℕ)) where
  abbrev is_due : Due → Type 0
  is_due due = IsDueRunOf p input limit due

  pub end_told : IsWritten p input limit end.Ended old mid → AnswersAs is_due old mid Done
  end_told w =
      let text = out p input w.steps in
      let mark = (source p input w.steps).mark in
      record {
        due = done text;
        is = record { steps = w.steps; made = w.made; is = ap (λ (x : Mark). due_by_mark x text limit) (sym (ended_mark mark w.ended)) };
        same = refl;
        written = subst (Appends old mid) (sym (append-nil text)) w.written;
      }

  pub limit_told : (new : Option (List ℕ)) (s : Status) → IsWritten p input limit end.Limit old mid → Tells (stopped [] limit) mid new s → AnswersAs is_due old new s
  limit_told new s w tells =
      let text = out p input w.steps in
      let mark = (source p input w.steps).mark in
      limit_after is_due text limit (record { steps = w.steps; made = w.made; is = ap (λ (x : Mark). due_by_mark x text limit) (sym (going_mark mark w.ended)) })
      old mid new s w.written tells

  pub trap_told : (trap : Trap) (new : Option (List ℕ)) (s : Status) → IsWritten p input limit (end.Trapped trap) old mid → Tells (trapped_alone [] trap) mid new s → AnswersAs is_due old new s
  trap_told trap new s w tells =
      let text = out p input w.steps in
      let due = trapped_alone text trap in
      let told = trapped_alone [] trap in
      let is : is_due due = record { steps = w.steps; made = w.made; is = trapped_due trap (source p input w.steps).mark text limit w.ended } in
      ⊎_elim
      (λ (e : s ≡ Trapped). subst (AnswersAs is_due old new) (sym e) (told_on is_due due told is refl old mid new w.written (subst (AnswersAs (IsJust told) mid new) e tells.answers)))
      (λ (e : s ≡ WriteFault). subst (AnswersAs is_due old new) (sym e) (begun_on is_due due told is refl old mid new w.written (subst (AnswersAs (IsJust told) mid new) e tells.answers)))
      tells.told

  pub fault_told : IsBrokenOff p input limit old mid → AnswersAs is_due old mid WriteFault
  fault_told b =
      let text = out p input b.steps in
      let mark = (source p input b.steps).mark in
      let due = due_by_mark mark text limit in
      record {
        due = due;
        is = record { steps = b.steps; made = b.made; is = refl };
        prefix = AppendsPrefix-longer old mid due.text due.last (subst (AppendsPrefix old mid) (sym (text_due mark text limit)) b.prefix);
      }

pub no_run_due : (p : Program) (checked : Bool) (input : List ℤ) (limit : ℕ) (end : RewriteEnd) → IsEndOf p checked end → (due : Due) → IsDueByEnd end due → IsDueRun p checked input limit due
no_run_due p checked input limit end is due told = inr (limit_due p checked end is due told)

pub rewritten_text_due : (p : Program) (checked : Bool) (text : List ℕ) → IsRewrittenText p checked text → (due : Due) → IsJust (done text) due → IsDueRegen p checked due
rewritten_text_due p checked text is due told = inl (record { form = is.form; rewritten = is.rewritten; printed = record { flat = is.flat; statements = is.statements; is = told ∙ ap done is.is } })

pub no_form_due : (p : Program) (checked : Bool) (end : RewriteEnd) → IsEndOf p checked end → (due : Due) → IsDueByEnd end due → IsDueRegen p checked due
no_form_due p checked end is due told = inr (limit_due p checked end is due told)
