-- What is due of rewritten forms: their texts and their runs.
use Rattle.std.specs.Prelude.{◌≡◌, ◌<◌, ◌≤◌, ◌⊎◌, ℕ, ℤ, Bool, List}
use Rattle.f77_tree.specs.declared.programs.Program.{Program}
use Rattle.f77_tree.specs.Run as runs
use Rattle.f77_tree.specs.Run.{Mark, Running, Ended, out, source}
use Rattle.f77_source.specs.declared.source_end.Code.TheVariants as text_code
use Rattle.flat_programs.specs.declared.statements.FlatLine.{FlatLine}
use Rattle.flat_programs.specs.FlatForm.{AreStatementsOf}
use Rattle.flat_programs.specs.Text.{text as text_of}
use Rattle.shared_forms.specs.declared.ends.RewriteEnd.{RewriteEnd}
use Rattle.shared_forms.specs.declared.ends.RewriteEnd.TheVariants as rewrite_end
use Rattle.rewriting.specs.Rewritten.{IsRewritten, PassesLimit}
use Rattle.job_terms.specs.declared.reading.Code.TheVariants as code
use Rattle.job_terms.specs.Due.{Due, refusal, done, trapped_alone, stopped}

-- what is due where a rewriting ends like this: the code of the limit, at no line of the source
abbrev pub IsDueByEnd : RewriteEnd → Due → Type 0
IsDueByEnd rewrite_end.TooManyNames due = due ≡ refusal 0 code.TooManyNames
IsDueByEnd rewrite_end.TooManyStatements due = due ≡ refusal 0 (code.Text text_code.TooManyStatements)
IsDueByEnd rewrite_end.LongText due = due ≡ refusal 0 code.LongText
IsDueByEnd rewrite_end.NoMemory due = ⊥

-- the rewriting of a program passes a limit, and this is due of it
pub record IsDueLimit (p : Program) (checked : Bool) (due : Due) : Type 0 where
  pub end : RewriteEnd
  pub passes : PassesLimit p checked end
  pub is : IsDueByEnd end due

-- the text of a program of flat statements
pub record IsPrinted (form : Program) (due : Due) : Type 0 where
  pub flat : List FlatLine
  pub statements : AreStatementsOf form flat
  pub is : due ≡ done (text_of form flat)

-- that of the rewritten form of a program
pub record IsTextDue (p : Program) (checked : Bool) (due : Due) : Type 0 where
  pub form : Program
  pub rewritten : IsRewritten p checked form
  pub printed : IsPrinted form due

abbrev pub IsDueRegen : Program → (checked : Bool) → Due → Type 0
IsDueRegen p checked due = IsTextDue p checked due ⊎ IsDueLimit p checked due

-- a run makes so many steps: the least number after which it has ended or trapped, or the limit, whatever comes first
pub record MakesSteps (p : Program) (input : List ℤ) (limit steps : ℕ) : Type 0 where
  pub most : steps ≤ limit
  pub before : (n : ℕ) → n < steps → (source p input n).mark ≡ Running
  pub last : (source p input steps).mark ≡ Running → steps ≡ limit

-- what is due after the output of a run, by the mark that it has then
abbrev pub due_by_mark : Mark → (output : List ℕ) → (limit : ℕ) → Due
due_by_mark Running output limit = stopped output limit
due_by_mark Ended output limit = done output
due_by_mark (runs.Trapped trap line) output limit = trapped_alone output trap

-- a program was run, and this is due of it
pub record IsDueRunOf (form : Program) (input : List ℤ) (limit : ℕ) (due : Due) : Type 0 where
  pub steps : ℕ
  pub made : MakesSteps form input limit steps
  pub is : due ≡ due_by_mark (source form input steps).mark (out form input steps) limit

-- the rewritten form of a program was run
pub record IsOutputDue (p : Program) (checked : Bool) (input : List ℤ) (limit : ℕ) (due : Due) : Type 0 where
  pub form : Program
  pub rewritten : IsRewritten p checked form
  pub ran : IsDueRunOf form input limit due

abbrev pub IsDueRun : Program → (checked : Bool) → (input : List ℤ) → (limit : ℕ) → Due → Type 0
IsDueRun p checked input limit due = IsOutputDue p checked input limit due ⊎ IsDueLimit p checked due
