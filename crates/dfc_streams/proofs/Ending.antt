-- What is promised of a status still holds where the last flush failed.
use Rattle.std.proofs.Common.{◌≤◌, ℕ, List, length, Option, None, Some, Result, Ok, Err, OnOk, inl, inr, refl, sym, ap, subst, arith}
use Rattle.std.proofs.Math.Seq.{take-length}
use Rattle.std.specs.Prelude.{IfSome, IsOk}
use Rattle.std.specs.Io.KnownBytes.{Appends, Keeps}
use Rattle.df_io.specs.declared.std_source.StdSource.{StdSource}
use Rattle.df_io.specs.Write.{AppendsPrefix, KeepsFirst}
use Rattle.job_terms.specs.declared.status.Status.{Status}
use Rattle.job_terms.specs.declared.status.Status.TheVariants.{Done, Usage, Refused, Trapped, Limit, ReadFault, WriteFault, NoMemory}
use Rattle.job_terms.specs.Answers.{Answers, AnswersAs, HasAll, IsBegun, IsTold, IsUnwritten, code_of}
use Rattle.job_terms.specs.Due.{Due, IsJust, all_due, usage}
use Rattle.sample_jobs.specs.DueSamples.{IsDueSampleText, sample_limit}
use Rattle.sample_texts.specs.SampleText.{sample_text}
use Rattle.dfc_driver.specs.Words.{Job, On, Sample, job_of}
use Rattle.dfc_driver.specs.WordsDue.{IsDue, MeansFor, ReadsFor, TellsWords}
use Rattle.dfc_streams.specs.Streams.{IsOutput, IsStatusAfter}

whole : (old new : Option (List ℕ)) (bytes : List ℕ) → Appends old new bytes → AppendsPrefix old new bytes
whole old new bytes added = record { count = length bytes; within = omega arith; added = subst (Appends old new) (sym (take-length bytes)) added }

module _ (is_due : Due → Type 0) (old new : Option (List ℕ)) where
  told : (s : Status) → IsTold is_due old new s → IsBegun is_due old new
  told s all = record { due = all.due; is = all.is; prefix = whole old new (all_due all.due) all.written }

  -- all of what is due was written, and so a prefix of it
  begun : (s : Status) → code_of s ≤ 4 → AnswersAs is_due old new s → IsBegun is_due old new
  begun Done low all = told Done all
  begun Usage low all = told Usage all
  begun Refused low all = told Refused all
  begun Trapped low all = told Trapped all
  begun Limit low all = told Limit all
  begun ReadFault low all = absurd (omega (arith, low))
  begun WriteFault low all = all
  begun NoMemory low all = absurd (omega (arith, low))

  at_six : (status : ℕ) → status ≤ 4 → Answers is_due old new status → Answers is_due old new 6
  at_six status low all = record { status = WriteFault; code_is = refl; answers = begun all.status (subst (λ n. n ≤ 4) all.code_is low) all.answers }

  answers_after : (status code : ℕ) → IsStatusAfter status code → Answers is_due old new status → Answers is_due old new code
  answers_after status code (inl same) all = subst (Answers is_due old new) (sym same) all
  answers_after status code (inr (low, fault)) all = subst (Answers is_due old new) (sym fault) (at_six status low all)

due_after : (text : Option (List ℕ)) (is_due : List ℕ → Due → Type 0) (old new : Option (List ℕ)) (status code : ℕ) → IsStatusAfter status code
    → IfSome text (λ bytes. Answers (is_due bytes) old new status) → IfSome text (λ bytes. Answers (is_due bytes) old new code)
due_after None is_due old new status code after all = tt
due_after (Some bytes) is_due old new status code after all = answers_after (is_due bytes) old new status code after all

told_at_six : (job : Option Job) (old new : Option (List ℕ)) (status : ℕ) → status ≤ 4 → TellsWords job old new status → TellsWords job old new 6
told_at_six None old new status low all = (at_six (IsJust usage) old new status low all.0, inr refl)
told_at_six (Some (On task checked)) old new status low all = λ e. absurd (omega (arith, e))
told_at_six (Some (Sample n)) old new status low all = record {
  answers = at_six (IsDueSampleText n sample_limit (sample_text n)) old new status low all.answers;
  means = λ memory. all.means (λ e. absurd (omega (arith, e, low)));
  meant = λ e. absurd (omega (arith, e));
  reads = λ e. absurd (omega (arith, e));
}

told_after : (job : Option Job) (old new : Option (List ℕ)) (status code : ℕ) → IsStatusAfter status code → TellsWords job old new status → TellsWords job old new code
told_after job old new status code (inl same) all = subst (TellsWords job old new) (sym same) all
told_after job old new status code (inr (low, fault)) all = subst (TellsWords job old new) (sym fault) (told_at_six job old new status low all)

unwritten_after : (old new : Option (List ℕ)) (status code : ℕ) → IsStatusAfter status code → IsUnwritten old new status → IsUnwritten old new code
unwritten_after old new status code (inl same) all = subst (IsUnwritten old new) (sym same) all
unwritten_after old new status code (inr (low, fault)) all = record {
  fault = λ e. absurd (omega (arith, e, fault));
  memory = λ e. absurd (omega (arith, e, fault));
}

-- no more failed before the last flush
all_before : (status code : ℕ) → IsStatusAfter status code → HasAll code → HasAll status
all_before status code (inl same) all = subst HasAll same all
all_before status code (inr (low, fault)) all = record { bytes = λ e. absurd (omega (arith, e, low)); memory = λ e. absurd (omega (arith, e, low)) }

-- what was read of a source was read of the reader that it has
pub reads_after : {R : Type 0} (remaining : R → Option (List ℕ)) (job : Option Job) (old new : StdSource R) (status code : ℕ) → IsStatusAfter status code
    → ReadsFor (λ (s : StdSource R). remaining s.inner) job old new status → ReadsFor remaining job old.inner new.inner code
reads_after remaining None old new status code after same = ap (λ (s : StdSource _). s.inner) same
reads_after remaining (Some (On task checked)) old new status code after reads = record {
  whole = λ all. reads.whole (all_before status code after all);
  within = reads.within;
}
reads_after remaining (Some (Sample n)) old new status code after same = ap (λ (s : StdSource _). s.inner) same

if_ok : {R E : Type 0} (answer : Result R E) (P : Type 0) → IsOk answer → OnOk answer P → P
if_ok (Ok x) P ok all = all
if_ok (Err e) P ok all = absurd cc

-- what was promised of a sink, and what the last flush handed on
pub output_after : {R E : Type 0} (words : List (List ℕ)) (text old handed new : Option (List ℕ)) (status code : ℕ) (flushed : Result R E) → IsStatusAfter status code → (code ≤ 4 → IsOk flushed)
    → IfSome text (λ bytes. Answers (IsDue words bytes) old handed status) → TellsWords (job_of words) old handed status → IsUnwritten old handed status
    → KeepsFirst handed new → OnOk flushed (Keeps handed new) → IsOutput words text old new code
output_after words text old handed new status code flushed after is_flushed due tells unwritten first all = record {
  handed = handed;
  due = due_after text (IsDue words) old handed status code after due;
  told = told_after (job_of words) old handed status code after tells;
  unwritten = unwritten_after old handed status code after unwritten;
  reached = record { first = first; all = λ low. if_ok flushed (Keeps handed new) (is_flushed low) all };
}

pub means_after : (text : Option (List ℕ)) (job : Option Job) (status code : ℕ) → IsStatusAfter status code → (HasAll status → IfSome text (MeansFor job)) → HasAll code → IfSome text (MeansFor job)
means_after text job status code after means all = means (all_before status code after all)
