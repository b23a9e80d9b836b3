-- What a job that was done, trapped or came to its limit has added.
use Rattle.std.proofs.Common.{◌≡◌, ℕ, true, List, Some, ap, ◌∙◌, arith}
use Rattle.job_terms.specs.Answers.{Answers, AnswersAs, IsTold, code_of}
use Rattle.job_terms.specs.declared.status.Status.{Status}
use Rattle.job_terms.specs.declared.status.Status.TheVariants.{Done, Usage, Refused, Trapped, Limit, ReadFault, WriteFault, NoMemory}
use Rattle.dfc_driver.specs.WordsDue.{IsDue}
use Rattle.made_texts.specs.Texts.{Prints, is_shown}

module _ (words : List (List ℕ)) (program old new : List ℕ) (code : ℕ) (shown : is_shown code ≡ true) where
  all_told : (status : Status) → code ≡ code_of status → IsTold (IsDue words program) (Some old) (Some new) status → Prints words program old new code
  all_told status is told = record { due = told.due; is = told.is; shown = shown; status_is = is ∙ ap code_of told.same; added = told.written }

  by_status : (status : Status) → code ≡ code_of status → AnswersAs (IsDue words program) (Some old) (Some new) status → Prints words program old new code
  by_status Done is told = all_told Done is told
  by_status Trapped is told = all_told Trapped is told
  by_status Limit is told = all_told Limit is told
  by_status Usage is told = absurd (grind (arith, is, shown))
  by_status Refused is told = absurd (grind (arith, is, shown))
  by_status ReadFault is told = absurd (grind (arith, is, shown))
  by_status WriteFault is told = absurd (grind (arith, is, shown))
  by_status NoMemory is told = absurd (grind (arith, is, shown))

  pub prints_shown : Answers (IsDue words program) (Some old) (Some new) code → Prints words program old new code
  prints_shown answers = by_status answers.status answers.code_is answers.answers
