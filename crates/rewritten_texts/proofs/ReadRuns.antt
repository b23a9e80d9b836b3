-- What the text of a rewritten form is read as prints what the program prints.
use Rattle.std.proofs.Common.{◌≡◌, ℕ, Bool, List, ◌++◌, Ok, sym, ap, subst, ◌∙◌, append_assoc}
use Rattle.std.specs.Prelude.{Result}
use Rattle.f77_tree.specs.declared.programs.Program.{Program}
use Rattle.f77_tree.specs.declared.statements.Labelled.{Labelled}
use Rattle.f77_tree.specs.Run.{PrintAlike, Reaches, State, source}
use Rattle.layout_rules.specs.Layout.{program}
use Rattle.f77_source.specs.Listed.{listed}
use Rattle.f77_source.specs.Reading.{Reads, statements_of}
use Rattle.rewriting.specs.Running.{RewrittenProgramsPrintAlike}
use Rattle.rewritten_texts.specs.ReadRuns.{RewrittenTextsPrintAlike}
use Rattle.rewritten_texts.specs.Texts.{RewrittenTextsAreReadBack}
use Rattle.rewritten_texts.proofs.AgainRuns.{again_alike}

-- ---- a text is read as one program

one_ok : {A E : Type 0} (a b : A) → (let r : Result A E = Ok a in r) ≡ Ok b → a ≡ b
one_ok a b is = cc

one_reading : (bytes : List ℕ) (checked : Bool) (a b : Program) → Reads bytes checked a → Reads bytes checked b → a ≡ b
one_reading bytes checked a b first second =
    let raws : first.raws ≡ second.raws = one_ok first.raws second.raws (sym first.lines ∙ second.lines) in
    let stmts : first.stmts ≡ second.stmts = one_ok first.stmts second.stmts (sym first.statements ∙ ap statements_of raws ∙ second.statements) in
    let list : first.list ≡ second.list = one_ok first.list second.list (sym first.units ∙ ap (λ (xs : List Labelled). listed xs checked) stmts ∙ second.units) in
    sym first.is ∙ ap (λ (xs : List Labelled). program xs checked) list ∙ second.is

-- ---- three runs

reaches : (b c : ℕ → State) (text : List ℕ) → ((n : ℕ) → Reaches c (b n).out) → Reaches b text → Reaches c text
reaches b c text on first =
    let second = on first.steps in
    record {
      steps = second.steps;
      rest = first.rest ++ second.rest;
      is = second.is ∙ ap (λ (xs : List ℕ). xs ++ second.rest) first.is ∙ append_assoc text first.rest second.rest;
    }

alike_through : (a b c : ℕ → State) → PrintAlike a b → PrintAlike c b → PrintAlike a c
alike_through a b c first second = record {
  prefix = λ n. reaches b c (a n).out second.back (first.prefix n);
  back = λ n. reaches b a (c n).out first.back (second.prefix n);
  ends = ((λ h. second.ends.1 (first.ends.0 h)), (λ h. first.ends.1 (second.ends.0 h)));
  traps = λ trap text. ((λ h. (second.traps trap text).1 ((first.traps trap text).0 h)), (λ h. (first.traps trap text).1 ((second.traps trap text).0 h)));
}

pub read_alike : RewrittenTextsAreReadBack → RewrittenProgramsPrintAlike → RewrittenTextsPrintAlike
read_alike back alike p checked text again input well arrays dialect is reads words =
    let read = back p checked text arrays dialect is in
    let one : read.again ≡ again = one_reading text checked read.again again read.reads reads in
    subst (λ (q : Program). PrintAlike (source p input) (source q input)) one
    (alike_through (source p input) (source is.form input) (source read.again input) (alike p checked is.form input well is.rewritten words) (again_alike read.again is.form input read.same))
