-- A text that is accepted is read.
use Rattle.std.proofs.Common.{◌≡◌, ℕ, Bool, true, false, cond, nat_lt, List, [], ◌∷◌, ◌++◌, Option, Some, None, Ok, Err, refl}
use Rattle.std.specs.Prelude.{Result}
use Rattle.alias_classes.specs.Number.{number_of_classes}
use Rattle.fixed_form.specs.declared.form_end.FormEnd.{FormEnd}
use Rattle.fixed_form.specs.declared.raw_stmt.RawStmt.{RawStmt}
use Rattle.fixed_form.specs.Reading as lines
use Rattle.f77_tree.specs.declared.programs.Program.{Program}
use Rattle.f77_tree.specs.declared.statements.Labelled.{Labelled}
use Rattle.layout_rules.specs.declared.layout_end.LayoutEnd.{LayoutEnd}
use Rattle.layout_rules.specs.declared.layout_end.LayoutEnd.TheVariants.{TooManyOps}
use Rattle.layout_rules.specs.Counts.{is_too_great}
use Rattle.layout_rules.specs.Faults.{first_answer, answer_or}
use Rattle.layout_rules.specs.LowestLines.{lowest_line}
use Rattle.layout_rules.specs.Layout.{at_line, names_of, refusals_of_form, refusal, HasForm, program, layout, unless_refused, last_line}
use Rattle.program_units.specs.declared.sub_end.SubEnd.{SubEnd}
use Rattle.f77_source.specs.declared.source_end.Code.TheVariants as code
use Rattle.f77_source.specs.declared.source_end.Refusal.{Refusal}
use Rattle.f77_source.specs.Listed.{listed}
use Rattle.f77_source.specs.Reading.{Reads, told, most_classes, program_laid, program_from, program_of, program_in, statements_of, reading}

-- where no one answers, none of the first ones do
none-before : {A B : Type 0} (f : A → Option B) (xs ys : List A) → first_answer f (xs ++ ys) ≡ None → first_answer f xs ≡ None
none-before f [] ys none = refl
none-before {A} {B} f (x ∷ xs) ys none = by (f x) none (λ rest. none-before f xs ys rest)
  where
    by : (found : Option B) → answer_or found (first_answer f (xs ++ ys)) ≡ None → (first_answer f (xs ++ ys) ≡ None → first_answer f xs ≡ None) → answer_or found (first_answer f xs) ≡ None
    by None rest later = later rest
    by (Some b) rest later = absurd cc

-- statements that are laid out as a program
record AreLaid (stmts : List Labelled) (checked : Bool) (p : Program) : Type 0 where
  form : HasForm stmts
  is : program stmts checked ≡ p

module _ (checked : Bool) (p : Program) where
  module _ (stmts : List Labelled) where
    few-classes : (q : Program) (many : Bool) → cond many (Err (told code.TooManyClasses (last_line stmts))) (Ok q) ≡ Ok p → q ≡ p
    few-classes q true is = absurd cc
    few-classes q false is = cc

    not-refused : (refused : Option LayoutEnd) → program_laid (last_line stmts) (unless_refused refused (program stmts checked)) ≡ Ok p → (refused ≡ None) × (program stmts checked ≡ p)
    not-refused None is = (refl, few-classes (program stmts checked) (nat_lt most_classes (number_of_classes (program stmts checked))) is)
    not-refused (Some end) is = absurd cc

    are-laid : program_laid (last_line stmts) (layout stmts checked) ≡ Ok p → AreLaid stmts checked p
    are-laid is =
        let both = not-refused (refusal stmts checked) is in
        let last : List (Option LayoutEnd) = at_line TooManyOps (lowest_line (is_too_great (names_of stmts) checked stmts) stmts) ∷ [] in
        record { form = none-before (λ r. r) (refusals_of_form stmts) last both.0; is = both.1 }

  list-laid : (bytes : List ℕ) (raws : List RawStmt) (stmts : List Labelled) (o : Result (List Labelled) SubEnd) → lines.reading bytes ≡ Ok raws → statements_of raws ≡ Ok stmts → listed stmts checked ≡ o → program_from checked o ≡ Ok p → Reads bytes checked p
  list-laid bytes raws stmts (Err end) lines statements units is = absurd cc
  list-laid bytes raws stmts (Ok list) lines statements units is =
      let laid = are-laid list is in
      record { raws = raws; stmts = stmts; lines = lines; statements = statements; list = list; units = units; form = laid.form; is = laid.is }

  statements-laid : (bytes : List ℕ) (raws : List RawStmt) (o : Result (List Labelled) Refusal) → lines.reading bytes ≡ Ok raws → statements_of raws ≡ o → program_of checked o ≡ Ok p → Reads bytes checked p
  statements-laid bytes raws (Err refusal) lines statements is = absurd cc
  statements-laid bytes raws (Ok stmts) lines statements is = list-laid bytes raws stmts (listed stmts checked) lines statements refl is

  text-laid : (bytes : List ℕ) (o : Result (List RawStmt) FormEnd) → lines.reading bytes ≡ o → program_in checked o ≡ Ok p → Reads bytes checked p
  text-laid bytes (Err end) lines is = absurd cc
  text-laid bytes (Ok raws) lines is = statements-laid bytes raws (statements_of raws) lines refl is

pub accepted-read : (bytes : List ℕ) (checked : Bool) (p : Program) → reading bytes checked ≡ Ok p → Reads bytes checked p
accepted-read bytes checked p is = text-laid checked p bytes (lines.reading bytes) refl is
