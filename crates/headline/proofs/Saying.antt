-- What a job answers, by what is due and what this means, is what its sentence says.
use Rattle.std.proofs.Common.{ℕ, Bool, List, Option, Some, None}
use Rattle.std.specs.Prelude.{IfSome}
use Rattle.job_terms.specs.declared.status.Status.{Status}
use Rattle.job_terms.specs.declared.status.Status.TheVariants.{Done, Usage, Refused as Refused_status, Trapped, Limit, ReadFault, WriteFault, NoMemory}
use Rattle.job_terms.specs.Answers.{AnswersAs, HasAll, IsTold, code_of}
use Rattle.job_terms.specs.Due.{Due}
use Rattle.dfc_jobs.specs.Due.{IsDueRead}
use Rattle.job_terms.specs.Reading.{Reading, Accepted, IsOwnProgram, Refused, reading}
use Rattle.job_terms.specs.Tasks.{Task}
use Rattle.job_laws.specs.Data.{HasWords}
use Rattle.job_laws.specs.Headline.{MeansRead}
use Rattle.headline.specs.Sentences.{Does, Says, SaysRead}

-- What answers one claim answers another that follows of it where neither the source failed nor memory ended.
answers_with : (is also : Due → Type 0) (old new : Option (List ℕ)) (s : Status) → (HasAll (code_of s) → (due : Due) → is due → also due) → AnswersAs is old new s → AnswersAs also old new s
answers_with is also old new s more answers = on s more answers
  where
    told : (x : Status) → ((due : Due) → is due → also due) → IsTold is old new x → IsTold also old new x
    told x so t = record { due = t.due; is = so t.due t.is; same = t.same; written = t.written }

    on : (x : Status) → (HasAll (code_of x) → (due : Due) → is due → also due) → AnswersAs is old new x → AnswersAs also old new x
    on Done so t = told Done (so (record { bytes = λ e. absurd cc; memory = λ e. absurd cc })) t
    on Usage so t = told Usage (so (record { bytes = λ e. absurd cc; memory = λ e. absurd cc })) t
    on Refused_status so t = told Refused_status (so (record { bytes = λ e. absurd cc; memory = λ e. absurd cc })) t
    on Trapped so t = told Trapped (so (record { bytes = λ e. absurd cc; memory = λ e. absurd cc })) t
    on Limit so t = told Limit (so (record { bytes = λ e. absurd cc; memory = λ e. absurd cc })) t
    on ReadFault so t = t
    on WriteFault so t = record { due = t.due; is = so (record { bytes = λ e. absurd cc; memory = λ e. absurd cc }) t.due t.is; prefix = t.prefix }
    on NoMemory so t = t

module _ (task : Task) (checked : Bool) where
  says : (text : List ℕ) (read : Reading) → MeansRead task checked text read → (due : Due) → IsDueRead task checked read due → SaysRead task checked text read due
  says text (Refused line code) means due is = is
  says text (Accepted p) means due is =
      let on = means.means means.runs.has.runs means.runs.has.are in
      record { is = is; only = λ other also. on.one other due also is; has_runs = means.runs; means = λ runs are. (means.means runs are).means due is }

  -- the sentence holds of the text that a source has
  pub said : (left : Option (List ℕ)) (old new : Option (List ℕ)) (s : Status) → IfSome left (λ text. AnswersAs (IsDueRead task checked (reading checked text)) old new s)
      → (HasAll (code_of s) → IfSome left (λ text. IsOwnProgram text checked)) → ((text : List ℕ) → IsOwnProgram text checked → HasWords task → MeansRead task checked text (reading checked text))
      → HasWords task → Does task checked left old new s
  said None old new s due own means words = tt
  said (Some text) old new s due own means words =
      answers_with (IsDueRead task checked (reading checked text)) (Says task checked text) old new s
      (λ all d is. says text (reading checked text) (means text (own all) words) d is)
      due
