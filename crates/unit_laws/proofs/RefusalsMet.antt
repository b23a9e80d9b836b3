-- The refusals of form, and then those of size.
use Rattle.std.proofs.Common.{◌≡◌, Bool, true, false, List, ◌++◌, Option, Some, None, refl, sym, ap, ◌∙◌}
use Rattle.std.specs.Option.{is_some}
use Rattle.f77_tree.specs.declared.statements.Labelled.{Labelled}
use Rattle.layout_rules.specs.Faults.{answer_or, first_answer}
use Rattle.layout_rules.proofs.FirstLine.{first_answer-append}
use Rattle.program_units.specs.declared.sub_end.SubEnd.{SubEnd}
use Rattle.program_units.specs.Refusals.{form_refusals, size_refusals, unit_refusal}
use Rattle.program_units.specs.Units.{units}

kept-first : (a b : Option SubEnd) → is_some a ≡ true → a ≡ answer_or a b
kept-first (Some x) b is = refl
kept-first None b is = absurd cc

then-second : (a b : Option SubEnd) → is_some a ≡ false → b ≡ answer_or a b
then-second (Some x) b is = absurd cc
then-second None b is = refl

module _ (stmts : List Labelled) (us : List (List Labelled)) (checked : Bool) (is : us ≡ units stmts) (form : Option SubEnd) (told : form ≡ first_answer (λ r. r) (form_refusals stmts us checked)) where
  both : answer_or form (first_answer (λ r. r) (size_refusals us)) ≡ unit_refusal stmts checked
  both =
      ap (λ (o : Option SubEnd). answer_or o (first_answer (λ r. r) (size_refusals us))) told
      ∙ sym (first_answer-append (λ r. r) (form_refusals stmts us checked) (size_refusals us))
      ∙ ap (λ (vs : List (List Labelled)). first_answer (λ r. r) (form_refusals stmts vs checked ++ size_refusals vs)) is

  pub form-told : is_some form ≡ true → form ≡ unit_refusal stmts checked
  form-told some = kept-first form (first_answer (λ r. r) (size_refusals us)) some ∙ both

  pub size-told : (size : Option SubEnd) → is_some form ≡ false → size ≡ first_answer (λ r. r) (size_refusals us) → size ≡ unit_refusal stmts checked
  size-told size none found = found ∙ then-second form (first_answer (λ r. r) (size_refusals us)) none ∙ both
