-- The shared form of a program follows it.
use Rattle.std.proofs.Common.{ℕ, ℤ, List, ◌++◌, Option, sym, subst}
use Rattle.alias_classes.specs.Classes.{ClassTable}
use Rattle.f77_tree.specs.declared.expressions.Expr.{Expr}
use Rattle.f77_tree.specs.declared.programs.ExecKind.{ExecKind}
use Rattle.f77_tree.specs.declared.programs.NameInfo.{NameInfo}
use Rattle.f77_tree.specs.declared.programs.Program.{Program}
use Rattle.f77_tree.specs.Run.{source}
use Rattle.f77_tree.specs.WellFormed.{IsExecutable, IsWellFormed}
use Rattle.cfg_build.specs.Flow.{flow}
use Rattle.redundancy.specs.Available.{Availability, IsAvailability}
use Rattle.shared_forms.specs.Numbered.{number_of}
use Rattle.shared_forms.specs.Shared.{shared_program}
use Rattle.shared_laws.specs.SharedRuns.{shared_steps, AgreeUpTo, IsSharedBy}
use Rattle.shared_forms.proofs.ProperCandidates.{candidate-proper}
use Rattle.shared_laws.proofs.ReplacedValues.{numbers-told}
use Rattle.shared_laws.proofs.SharedFollows.{follows}
use Rattle.shared_forms.proofs.SharedProper.{FitTable}
use Rattle.shared_laws.proofs.SharedSteps.{StepLaws}

-- candidates fit the table of names, and a longer one
pub fit-table : (q : Program) (c : ClassTable) (a : Availability) → IsWellFormed q → IsAvailability q (flow q.execs) c a → ((more : List NameInfo) (kind : ExecKind) → IsExecutable q.names kind → IsExecutable (q.names ++ more) kind) → FitTable q a
fit-table q c a formed is keeps =
    record {
      candidates = λ k e at. (is.candidates.sound k e at).0;
      proper = candidate-proper q (flow q.execs) a.candidates formed.execs.each is.candidates;
      longer = keeps;
    }

pub shared-follows : (q r : Program) (c : ClassTable) (a : Availability) (input : List ℤ) (n : ℕ) (is : IsSharedBy q c a r) → StepLaws q c a is.shared.flat input → AgreeUpTo q.words (source q input n) (source r input (shared_steps q a is.shared.number input n))
shared-follows q r c a input n is laws =
    let flat = is.shared.flat in
    let statements = is.shared.sharing.statements in
    let same = numbers-told a is.shared.number is.shared.sharing.numbers in
    let step = follows q c a flat input is.program is.available statements laws n in
    let own : AgreeUpTo q.words (source q input n) (source (shared_program q a (number_of a) flat) input (shared_steps q a (number_of a) input n)) =
    record { mark = step.alike.mark; text = step.alike.out; taken = sym step.alike.taken; store = step.alike.words }
    in
    let numbered : AgreeUpTo q.words (source q input n) (source (shared_program q a is.shared.number flat) input (shared_steps q a is.shared.number input n)) =
    subst (λ (g : Expr → Option ℕ). AgreeUpTo q.words (source q input n) (source (shared_program q a g flat) input (shared_steps q a g input n))) same own
    in
    subst (λ (p : Program). AgreeUpTo q.words (source q input n) (source p input (shared_steps q a is.shared.number input n))) (sym is.shared.is) numbered
