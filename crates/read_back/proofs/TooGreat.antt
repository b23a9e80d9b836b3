-- A text that is read as a program can be refused for its size alone.
use Rattle.std.proofs.Common.{◌≡◌, ℕ, Bool, true, false, cond, nat_lt, List, [], ◌∷◌, ◌++◌, Option, Some, None, Ok, Err, inl, inr, refl}
use Rattle.std.specs.Prelude.{Result}
use Rattle.alias_classes.specs.Number.{number_of_classes}
use Rattle.f77_tree.specs.declared.programs.Program.{Program}
use Rattle.f77_tree.specs.declared.statements.Labelled.{Labelled}
use Rattle.layout_rules.specs.declared.layout_end.LayoutEnd.TheVariants.{TooManyOps}
use Rattle.layout_rules.specs.Counts.{is_too_great}
use Rattle.layout_rules.specs.Faults.{first_answer, answer_or}
use Rattle.layout_rules.specs.LowestLines.{lowest_line}
use Rattle.layout_rules.specs.Layout.{names_of, at_line, refusals_of_form, refusal, HasForm, program, layout, unless_refused, last_line}
use Rattle.f77_source.specs.declared.source_end.Code.TheVariants as code
use Rattle.f77_source.specs.declared.source_end.Refusal.{Refusal}
use Rattle.f77_source.specs.Reading.{Reads, told, most_classes, program_laid, reading}
use Rattle.read_back.specs.ReadAgain.{IsUnlessTooGreat}
use Rattle.std.proofs.Common.{arith}

-- the answer of the later ones, where the first ones give none
later_answer : {A B : Type 0} (f : A → Option B) (xs ys : List A) → first_answer f xs ≡ None → first_answer f (xs ++ ys) ≡ first_answer f ys
later_answer f [] ys none = refl
later_answer {A} {B} f (x ∷ xs) ys none = grind (arith, later_answer f xs ys)

module _ (stmts : List Labelled) (checked : Bool) (p : Program) (form : HasForm stmts) (is : program stmts checked ≡ p) where
  abbrev ops : Option ℕ
  ops = lowest_line (is_too_great (names_of stmts) checked stmts) stmts

  only_operations : refusal stmts checked ≡ answer_or (at_line TooManyOps ops) None
  only_operations = later_answer (λ r. r) (refusals_of_form stmts) (at_line TooManyOps ops ∷ []) form

  abbrev if_many : (many : Bool) → Result Program Refusal
  if_many many = cond many (Err (told code.TooManyClasses (last_line stmts))) (Ok (program stmts checked))

  classes_by : (many : Bool) → IsUnlessTooGreat p (if_many many)
  classes_by true = inr refl
  classes_by false = is

  operations_by : (found : Option ℕ) → IsUnlessTooGreat p (program_laid (last_line stmts) (unless_refused (answer_or (at_line TooManyOps found) None) (program stmts checked)))
  operations_by (Some line) = inl refl
  operations_by None = classes_by (nat_lt most_classes (number_of_classes (program stmts checked)))

  laid_unless_too_great : IsUnlessTooGreat p (program_laid (last_line stmts) (layout stmts checked))
  laid_unless_too_great = grind (arith, only_operations, operations_by ops)

pub read_unless_too_great : (bytes : List ℕ) (checked : Bool) (p : Program) → Reads bytes checked p → IsUnlessTooGreat p (reading bytes checked)
read_unless_too_great bytes checked p reads = grind (arith, laid_unless_too_great reads.list checked p reads.form reads.is)
