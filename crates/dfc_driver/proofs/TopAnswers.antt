-- What the top call answers, by what a job answers.
use Rattle.std.proofs.Common.{◌≡◌, ◌≢◌, ◌≤◌, ℕ, List, Option, Some, None, refl, sym, ap, subst, arith}
use Rattle.std.specs.Prelude.{IfSome}
use Rattle.df_io.specs.Faults.{Rose}
use Rattle.sample_texts.specs.SampleText.{sample_text}
use Rattle.job_terms.specs.declared.status.Status.{Status}
use Rattle.job_terms.specs.declared.status.Status.TheVariants.{Done, Usage, Refused, Trapped, Limit, ReadFault, WriteFault, NoMemory}
use Rattle.job_terms.specs.Answers.{Answers, AnswersAs, Blames, HasAll, code_of}
use Rattle.sample_jobs.specs.DueSamples.{IsDueSampleText, sample_limit}
use Rattle.job_laws.specs.Headline.{MeansSampleText}
use Rattle.dfc_driver.specs.Words.{Job, Sample}
use Rattle.dfc_driver.specs.WordsDue.{IsDueFor, MeansFor, TellsSample, TellsWords}

-- the same, of words that ask for this job, and by the exit status
pub answers_on : (left : Option (List ℕ)) (job also : Option Job) (old new : Option (List ℕ)) (s : Status) (code : ℕ) → job ≡ also → code ≡ code_of s
    → IfSome left (λ bytes. AnswersAs (IsDueFor job bytes) old new s) → IfSome left (λ bytes. Answers (IsDueFor also bytes) old new code)
answers_on None job also old new s code same is answers = tt
answers_on (Some bytes) job also old new s code same is answers = record {
  status = s;
  code_is = is;
  answers = subst (λ (x : Option Job). AnswersAs (IsDueFor x bytes) old new s) same answers;
}

pub words_on : (job also : Option Job) (old new : Option (List ℕ)) (s : Status) (code : ℕ) → job ≡ also → code ≡ code_of s → TellsWords job old new (code_of s) → TellsWords also old new code
words_on job also old new s code same is told = subst (TellsWords also old new) (sym is) (subst (λ (x : Option Job). TellsWords x old new (code_of s)) same told)

-- what follows for every text follows for the one that a source has
pub promised : (left : Option (List ℕ)) (P Q : List ℕ → Type 0) → ((bytes : List ℕ) → P bytes → Q bytes) → IfSome left P → IfSome left Q
promised None P Q all holds = tt
promised (Some bytes) P Q all holds = all bytes holds

-- ---- samples

usage_at_one : (s : Status) → code_of s ≡ 1 → s ≡ Usage
usage_at_one Done is = absurd cc
usage_at_one Usage is = refl
usage_at_one Refused is = absurd cc
usage_at_one Trapped is = absurd cc
usage_at_one Limit is = absurd cc
usage_at_one ReadFault is = absurd cc
usage_at_one WriteFault is = absurd cc
usage_at_one NoMemory is = absurd cc

fault_at_five : (s : Status) → code_of s ≡ 5 → s ≡ ReadFault
fault_at_five Done is = absurd cc
fault_at_five Usage is = absurd cc
fault_at_five Refused is = absurd cc
fault_at_five Trapped is = absurd cc
fault_at_five Limit is = absurd cc
fault_at_five ReadFault is = refl
fault_at_five WriteFault is = absurd cc
fault_at_five NoMemory is = absurd cc

fault_at_six : (s : Status) → code_of s ≡ 6 → s ≡ WriteFault
fault_at_six Done is = absurd cc
fault_at_six Usage is = absurd cc
fault_at_six Refused is = absurd cc
fault_at_six Trapped is = absurd cc
fault_at_six Limit is = absurd cc
fault_at_six ReadFault is = absurd cc
fault_at_six WriteFault is = refl
fault_at_six NoMemory is = absurd cc

module _ (n : ℕ) (old new : Option (List ℕ)) (s : Status) where
  pub sample_words : AnswersAs (IsDueSampleText n sample_limit (sample_text n)) old new s → (s ≢ NoMemory → MeansSampleText n sample_limit (sample_text n)) → s ≢ Usage → s ≢ ReadFault → TellsSample n old new (code_of s)
  sample_words answers means usage reads = record {
    answers = record { status = s; code_is = refl; answers = answers };
    means = λ memory. means (λ (e : s ≡ NoMemory). memory (ap code_of e));
    meant = λ e. usage (usage_at_one s e);
    reads = λ e. reads (fault_at_five s e);
  }

  pub sample_answers : (left : Option (List ℕ)) → AnswersAs (IsDueSampleText n sample_limit (sample_text n)) old new s → IfSome left (λ bytes. AnswersAs (IsDueFor (Some (Sample n)) bytes) old new s)
  sample_answers None answers = tt
  sample_answers (Some bytes) answers = answers

  pub sample_promises : (left : Option (List ℕ)) → (s ≢ NoMemory → MeansSampleText n sample_limit (sample_text n)) → HasAll (code_of s) → IfSome left (MeansFor (Some (Sample n)))
  sample_promises None means all = tt
  sample_promises (Some bytes) means all = means (λ (e : s ≡ NoMemory). all.memory (ap code_of e))

  -- the source stays as it was
  pub sample_blames : (source sink_old sink_new : ℕ) → s ≢ ReadFault → sink_old ≤ sink_new → (s ≡ WriteFault → Rose sink_old sink_new) → Blames source source sink_old sink_new (code_of s)
  sample_blames source sink_old sink_new reads later fault = record {
    source_later = omega arith;
    source_fault = λ e. absurd (reads (fault_at_five s e));
    sink_later = later;
    sink_fault = λ e. fault (fault_at_six s e);
  }
