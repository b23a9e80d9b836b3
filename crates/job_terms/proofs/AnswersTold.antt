-- What is answered after a text that was written.
use Rattle.std.proofs.Common.{◌≡◌, ℕ, ◌+◌, List, [], ◌++◌, length, take, Option, refl, sym, ap, subst, ◌∙◌, ⊎_elim, length-append, arith}
use Rattle.std.proofs.KnownBytes.{Appends-trans}
use Rattle.std.proofs.Math.Seq.{take-append-add}
use Rattle.std.specs.Io.KnownBytes.{Appends}
use Rattle.op_table.specs.declared.Trap.{Trap}
use Rattle.df_io.specs.Write.{AppendsPrefix}
use Rattle.job_terms.specs.declared.status.Status.{Status}
use Rattle.job_terms.specs.declared.status.Status.TheVariants.{Done, Usage, Refused, Trapped, Limit, ReadFault, WriteFault, NoMemory}
use Rattle.job_terms.specs.Answers.{AnswersAs, IsBegun, IsTold, Tells}
use Rattle.job_terms.specs.Due.{Due, IsJust, all_due, stopped, trapped}

-- ---- a line after a text

-- some bytes after others
pub prefix_after : (old mid new : Option (List ℕ)) (text last : List ℕ) → Appends old mid text → AppendsPrefix mid new last → AppendsPrefix old new (text ++ last)
prefix_after old mid new text last before prefix = record {
  count = length text + prefix.count;
  within = let all = length-append text last in let low = prefix.within in omega (arith, all, low);
  added = subst (Appends old new) (sym (take-append-add text last prefix.count)) (Appends-trans old mid new text (take prefix.count last) before prefix.added);
}

module _ (is_due : Due → Type 0) (due line : Due) (is : is_due due) (same : all_due line ≡ due.last) (old mid new : Option (List ℕ)) (before : Appends old mid due.text) where
  pub told_on : IsTold (IsJust line) mid new due.status → IsTold is_due old new due.status
  told_on told = record {
    due = due;
    is = is;
    same = refl;
    written = Appends-trans old mid new due.text due.last before (subst (Appends mid new) (ap all_due told.is ∙ same) told.written);
  }

  pub begun_on : IsBegun (IsJust line) mid new → IsBegun is_due old new
  begun_on begun = record {
    due = due;
    is = is;
    prefix = prefix_after old mid new due.text due.last before (subst (AppendsPrefix mid new) (ap all_due begun.is ∙ same) begun.prefix);
  }

-- a trap came after a text that was written, and its line is told
pub trap_after : (is_due : Due → Type 0) (text : List ℕ) (trap : Trap) (line : ℕ) → is_due (trapped text trap line) → (old mid new : Option (List ℕ)) (s : Status) → Appends old mid text → Tells (trapped [] trap line) mid new s → AnswersAs is_due old new s
trap_after is_due text trap line is old mid new s before tells =
    let due = trapped text trap line in
    let told = trapped [] trap line in
    ⊎_elim
    (λ (e : s ≡ Trapped). subst (AnswersAs is_due old new) (sym e) (told_on is_due due told is refl old mid new before (subst (AnswersAs (IsJust told) mid new) e tells.answers)))
    (λ (e : s ≡ WriteFault). subst (AnswersAs is_due old new) (sym e) (begun_on is_due due told is refl old mid new before (subst (AnswersAs (IsJust told) mid new) e tells.answers)))
    tells.told

-- the limit came after a text that was written, and its line is told
pub limit_after : (is_due : Due → Type 0) (text : List ℕ) (limit : ℕ) → is_due (stopped text limit) → (old mid new : Option (List ℕ)) (s : Status) → Appends old mid text → Tells (stopped [] limit) mid new s → AnswersAs is_due old new s
limit_after is_due text limit is old mid new s before tells =
    let due = stopped text limit in
    let told = stopped [] limit in
    ⊎_elim
    (λ (e : s ≡ Limit). subst (AnswersAs is_due old new) (sym e) (told_on is_due due told is refl old mid new before (subst (AnswersAs (IsJust told) mid new) e tells.answers)))
    (λ (e : s ≡ WriteFault). subst (AnswersAs is_due old new) (sym e) (begun_on is_due due told is refl old mid new before (subst (AnswersAs (IsJust told) mid new) e tells.answers)))
    tells.told

-- ---- a weaker claim

-- what answers one claim answers a weaker one
pub answers_more : (is also : Due → Type 0) (old new : Option (List ℕ)) (s : Status) → ((due : Due) → is due → also due) → AnswersAs is old new s → AnswersAs also old new s
answers_more is also old new s more answers = on s answers
  where
    told : (x : Status) → IsTold is old new x → IsTold also old new x
    told x t = record { due = t.due; is = more t.due t.is; same = t.same; written = t.written }

    on : (x : Status) → AnswersAs is old new x → AnswersAs also old new x
    on Done t = told Done t
    on Usage t = told Usage t
    on Refused t = told Refused t
    on Trapped t = told Trapped t
    on Limit t = told Limit t
    on ReadFault t = t
    on WriteFault t = record { due = t.due; is = more t.due t.is; prefix = t.prefix }
    on NoMemory t = t
