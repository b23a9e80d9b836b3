-- What is told of a sample, part after part.
use Rattle.std.proofs.Common.{◌≡◌, ◌≢◌, ℕ, ℤ, zero, suc, ◌<◌, List, [], ◌++◌, ◌⊎◌, inl, inr, Option, refl, sym, ap, subst, ◌∙◌, ⊎_elim, append_assoc, arith}
use Rattle.std.proofs.KnownBytes.{Appends-trans}
use Rattle.std.specs.Io.KnownBytes.{Appends}
use Rattle.df_io.specs.Write.{AppendsPrefix}
use Rattle.df_io.proofs.Prefixes.{AppendsPrefix-after, AppendsPrefix-longer}
use Rattle.f77_tree.specs.declared.programs.Program.{Program}
use Rattle.f77_tree.specs.Run as runs
use Rattle.f77_tree.specs.Run.{Mark, out, source}
use Rattle.firing.specs.declared.playing.Show.TheVariants.{Output}
use Rattle.firing.specs.Play.{Moment, Way, shown}
use Rattle.firing.specs.Runs.{HasEnd}
use Rattle.job_terms.specs.declared.status.Status.{Status}
use Rattle.job_terms.specs.declared.status.Status.TheVariants.{Done, Usage, Refused, Trapped, Limit, ReadFault, WriteFault, NoMemory}
use Rattle.job_terms.specs.Answers.{AnswersAs, IsTold}
use Rattle.job_terms.specs.Due.{Due, all_due}
use Rattle.form_jobs.specs.DueForms.{IsDueRunOf, MakesSteps, due_by_mark}
use Rattle.game_jobs.specs.DueGames.{IsGameOf}
use Rattle.sample_jobs.specs.DueSamples.{after_text, followed, followed_by}
use Rattle.sample_jobs.specs.Samples.{AreBothOf, IsAfter}
use Rattle.job_terms.proofs.AnswersTold.{answers_more}
use Rattle.game_jobs.proofs.GameTold.{due_with}

-- ---- what is due of a run or of a game, without a sink

record HasSteps (p : Program) (input : List ℤ) (limit : ℕ) : Type 0 where
  steps : ℕ
  made : MakesSteps p input limit steps

running_or_not : (mark : Mark) → (mark ≡ runs.Running) ⊎ (mark ≡ runs.Running → ⊥)
running_or_not runs.Running = inl refl
running_or_not runs.Ended = inr (λ (e : runs.Ended ≡ runs.Running). absurd cc)
running_or_not (runs.Trapped trap line) = inr (λ (e : runs.Trapped trap line ≡ runs.Running). absurd cc)

module _ (p : Program) (input : List ℤ) where
  -- a run makes some number of steps
  has_steps : (limit : ℕ) → HasSteps p input limit
  has_steps zero = record { steps = zero; made = record { most = omega arith; before = λ n lt. absurd (omega (arith, lt)); last = λ going. refl } }
  has_steps (suc limit) =
      let h = has_steps limit in
      let most = h.made.most in
      ⊎_elim
      (λ (going : (source p input h.steps).mark ≡ runs.Running).
      let all : h.steps ≡ limit = h.made.last going in
      record { steps = suc limit; made = record { most = omega arith; before = before_last limit h going all; last = λ (more : (source p input (suc limit)).mark ≡ runs.Running). refl } })
      (λ (stopped : (source p input h.steps).mark ≡ runs.Running → ⊥).
      record { steps = h.steps; made = record { most = omega (arith, most); before = h.made.before; last = λ going. absurd (stopped going) } })
      (running_or_not (source p input h.steps).mark)
    where
      before_last : (limit : ℕ) (h : HasSteps p input limit) → (source p input h.steps).mark ≡ runs.Running → h.steps ≡ limit → (n : ℕ) → n < suc limit → (source p input n).mark ≡ runs.Running
      before_last limit h going all n lt =
          ⊎_elim
          (λ (less : n < h.steps). h.made.before n less)
          (λ (same : n ≡ h.steps). ap (λ k. (source p input k).mark) same ∙ going)
          (split n h.steps (omega (arith, lt, all)))
        where
          split : (n steps : ℕ) → n < suc steps → (n < steps) ⊎ (n ≡ steps)
          split n zero lt = inr (omega (arith, lt))
          split zero (suc steps) lt = inl (omega arith)
          split (suc n) (suc steps) lt =
              ⊎_elim (λ (less : n < steps). inl (omega (arith, less))) (λ (same : n ≡ steps). inr (ap suc same)) (split n steps (omega (arith, lt)))

record HasRun (p : Program) (input : List ℤ) (limit : ℕ) : Type 0 where
  due : Due
  is : IsDueRunOf p input limit due

has_run : (p : Program) (input : List ℤ) (limit : ℕ) → HasRun p input limit
has_run p input limit =
    let h = has_steps p input limit in
    record { due = due_by_mark (source p input h.steps).mark (out p input h.steps) limit; is = record { steps = h.steps; made = h.made; is = refl } }

-- ---- one part after another

-- what is told after a text that was written
pub told_after : (text : List ℕ) (is_due : Due → Type 0) (old mid new : Option (List ℕ)) (s : Status) → Appends old mid text → s ≢ NoMemory → s ≢ ReadFault → AnswersAs is_due mid new s → AnswersAs (IsAfter text is_due) old new s
told_after text is_due old mid new s written memory bytes answers = on s memory bytes answers
  where
    told : (x : Status) → IsTold is_due mid new x → IsTold (IsAfter text is_due) old new x
    told x t = record {
      due = after_text text t.due;
      is = record { rest = t.due; told = t.is; is = refl };
      same = t.same;
      written = subst (Appends old new) (sym (append_assoc text t.due.text t.due.last)) (Appends-trans old mid new text (all_due t.due) written t.written);
    }

    on : (x : Status) → x ≢ NoMemory → x ≢ ReadFault → AnswersAs is_due mid new x → AnswersAs (IsAfter text is_due) old new x
    on Done m b t = told Done t
    on Usage m b t = told Usage t
    on Refused m b t = told Refused t
    on Trapped m b t = told Trapped t
    on Limit m b t = told Limit t
    on ReadFault m b t = absurd (b refl)
    on WriteFault m b t = record {
      due = after_text text t.due;
      is = record { rest = t.due; told = t.is; is = refl };
      prefix = subst (AppendsPrefix old new) (sym (append_assoc text t.due.text t.due.last)) (AppendsPrefix-after old mid new text (all_due t.due) written t.prefix);
    }
    on NoMemory m b t = absurd (m refl)

-- a fault at a text that was to come first
pub fault_within : (text : List ℕ) (is_due : Due → Type 0) (old new : Option (List ℕ)) (due : Due) → is_due due → AppendsPrefix old new text → AnswersAs (IsAfter text is_due) old new WriteFault
fault_within text is_due old new due is prefix = record {
  due = after_text text due;
  is = record { rest = due; told = is; is = refl };
  prefix = AppendsPrefix-longer old new (text ++ due.text) due.last (AppendsPrefix-longer old new text due.text prefix);
}

-- what is due begins with what is due of the first job
first_before : (s : Status) (first second : Due) (old new : Option (List ℕ)) → AppendsPrefix old new (all_due first) → AppendsPrefix old new (all_due (followed s first second))
first_before Done first second old new prefix = AppendsPrefix-longer old new (all_due first ++ second.text) second.last (AppendsPrefix-longer old new (all_due first) second.text prefix)
first_before Usage first second old new prefix = prefix
first_before Refused first second old new prefix = prefix
first_before Trapped first second old new prefix = prefix
first_before Limit first second old new prefix = prefix
first_before ReadFault first second old new prefix = prefix
first_before WriteFault first second old new prefix = prefix
first_before NoMemory first second old new prefix = prefix

-- the second job isn't begun where the first one isn't done
alone : (s : Status) (first second : Due) → s ≢ Done → followed s first second ≡ first
alone Done first second other = absurd (other refl)
alone Usage first second other = refl
alone Refused first second other = refl
alone Trapped first second other = refl
alone Limit first second other = refl
alone ReadFault first second other = refl
alone WriteFault first second other = refl
alone NoMemory first second other = refl

module _ {M P : Type 0} (w : Way M P) (start : Moment M P) (limit : ℕ) (form : Program) where
  abbrev is_game : Due → Type 0
  is_game due = IsGameOf w start limit Output due

  abbrev are_both : Due → Type 0
  are_both due = AreBothOf w start limit form due

  -- the game came to rest, and the run was told
  pub both_told : (old mid new : Option (List ℕ)) (s : Status) → AnswersAs is_game old mid Done → s ≢ NoMemory → s ≢ ReadFault → AnswersAs (λ due. IsDueRunOf form [] limit due) mid new s → AnswersAs are_both old new s
  both_told old mid new s first memory bytes answers =
      let t : IsTold is_game old mid Done = first in
      let next : (run : Due) → followed_by t.due run ≡ after_text (all_due t.due) run = λ run. ap (λ (x : Status). followed x t.due run) (sym t.same) in
      answers_more (IsAfter (all_due t.due) (λ due. IsDueRunOf form [] limit due)) are_both old new s
      (λ due is. record { game = t.due; played = t.is; run = is.rest; ran = is.told; is = is.is ∙ sym (next is.rest) })
      (told_after (all_due t.due) (λ due. IsDueRunOf form [] limit due) old mid new s t.written memory bytes answers)

  -- the game didn't come to rest
  pub first_told : (old new : Option (List ℕ)) (s : Status) → s ≢ Done → AnswersAs is_game old new s → AnswersAs are_both old new s
  first_told old new s other answers = on s other answers
    where
      run : HasRun form [] limit
      run = has_run form [] limit

      told : (x : Status) → x ≢ Done → IsTold is_game old new x → IsTold are_both old new x
      told x other t =
          let same : followed_by t.due run.due ≡ t.due = ap (λ (y : Status). followed y t.due run.due) (sym t.same) ∙ alone x t.due run.due other in
          record {
            due = t.due;
            is = record { game = t.due; played = t.is; run = run.due; ran = run.is; is = sym same };
            same = t.same;
            written = t.written;
          }

      on : (x : Status) → x ≢ Done → AnswersAs is_game old new x → AnswersAs are_both old new x
      on Done other t = absurd (other refl)
      on Usage other t = told Usage other t
      on Refused other t = told Refused other t
      on Trapped other t = told Trapped other t
      on Limit other t = told Limit other t
      on ReadFault other t = t
      on WriteFault other t = record {
        due = followed_by t.due run.due;
        is = record { game = t.due; played = t.is; run = run.due; ran = run.is; is = refl };
        prefix = first_before t.due.status t.due run.due old new t.prefix;
      }
      on NoMemory other t = t

  pub record HasBoth : Type 0 where
    pub due : Due
    pub is : AreBothOf w start limit form due

  -- something is due of both
  pub has_both : HasEnd w start limit → HasBoth
  has_both has =
      let with = due_with w start limit Output has.end (shown w Output start has.firings) has.run.own in
      let run = has_run form [] limit in
      record {
        due = followed_by with.due run.due;
        is = record { game = with.due; played = record { firings = has.firings; played = record { end = has.end; run = has.run; is = with.is } }; run = run.due; ran = run.is; is = refl };
      }
