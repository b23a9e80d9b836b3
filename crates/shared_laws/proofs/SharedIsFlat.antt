-- The shared form of a flat program is a flat program.
use Rattle.std.proofs.Common.{◌≡◌, ℕ, Bool, true, false, List, Option, Some, None, refl, sym, ap, subst, ◌∙◌}
use Rattle.std.specs.Prelude.{if◌then◌else◌}
use mathlib.Core.Path.{fun_ext}
use Rattle.f77_tree.specs.declared.expressions.Expr.{Expr}
use Rattle.f77_tree.specs.declared.programs.Program.{Program}
use Rattle.f77_tree.specs.WellFormed.{IsWellFormed}
use Rattle.alias_classes.specs.Classes.{ClassTable}
use Rattle.cfg_build.specs.Flow.{flow}
use Rattle.flat_programs.specs.declared.statements.FlatLine.{FlatLine}
use Rattle.flat_programs.specs.Executables.{program_of}
use Rattle.flat_programs.specs.FlatForm.{AreProper, AreStatementsOf, HasFewStatements, IsFlat, IsFlatProgram}
use Rattle.flat_programs.specs.Text.{has_long_text}
use Rattle.redundancy.specs.Available.{Availability, IsAvailability}
use Rattle.shared_forms.specs.declared.ends.RewriteEnd.TheVariants.{TooManyNames, TooManyStatements, LongText}
use Rattle.shared_forms.specs.Numbered.{number_of}
use Rattle.shared_forms.specs.Shared.{has_many_names, refusal, shared_flat, shared_program, with_temporaries, AreNumbers, IsShared}
use Rattle.simplified_forms.specs.Simplified.{has_many_statements}
use Rattle.shared_forms.proofs.NumberLemmas.{number_in-is}
use Rattle.shared_forms.proofs.ProperCandidates.{candidate-proper, place-number}
use Rattle.shared_forms.proofs.SharedSpread.{shared-flat}
use Rattle.shared_forms.proofs.SharedProper.{shared-proper, FitTable}
use Rattle.shared_laws.proofs.SharedSizes.{shared-few}
use Rattle.shared_laws.proofs.SharedTable.{longer-formed, KeepScalars}

-- ---- numbers of candidates

numbers-same : (o p : Option ℕ) → ((k : ℕ) → o ≡ Some k → p ≡ Some k) → ((k : ℕ) → p ≡ Some k → o ≡ Some k) → o ≡ p
numbers-same None None there back = refl
numbers-same None (Some k) there back = back k refl
numbers-same (Some k) p there back = sym (there k refl)

-- candidates have one numbering
pub one-numbering : (q : Program) (c : ClassTable) (a : Availability) (number : Expr → Option ℕ) → IsWellFormed q → IsAvailability q (flow q.execs) c a → AreNumbers a number → number ≡ number_of a
one-numbering q c a number formed is numbers =
    fun_ext (λ e. numbers-same (number e) (number_of a e)
    (λ k told. place-number q (flow q.execs) a.candidates formed.execs.each is.candidates e k ((numbers e k).0 told))
    (λ k told. (numbers e k).1 (number_in-is a.candidates e k told)))

-- ---- limits

-- no limit is passed
record PassesNone (names statements text : Bool) : Type 0 where
  few_names : names ≡ false
  few_statements : statements ≡ false

passes-none : (names statements text : Bool) → (if names then Some TooManyNames else if statements then Some TooManyStatements else if text then Some LongText else None) ≡ None → PassesNone names statements text
passes-none true statements text is = absurd cc
passes-none false true text is = absurd cc
passes-none false false text is = record { few_names = refl; few_statements = refl }

-- ---- the shared form

module _ (q : Program) (c : ClassTable) (a : Availability) (keep : KeepScalars) (proper_of : (p : Program) (flat : List FlatLine) → IsWellFormed p → AreStatementsOf p flat → AreProper p.names flat) (program_is : (p : Program) (flat : List FlatLine) → IsWellFormed p → IsFlat flat → AreProper p.names flat → HasFewStatements flat → IsWellFormed (program_of p flat)) (formed : IsWellFormed q) (is : IsAvailability q (flow q.execs) c a) where
  shared-is : (flat : List FlatLine) → AreStatementsOf q flat → refusal q a (number_of a) flat ≡ None → IsFlatProgram (shared_program q a (number_of a) flat)
  shared-is flat statements none =
      let longer = with_temporaries q a (number_of a) in
      let all = shared_flat q a (number_of a) flat in
      let few = passes-none (has_many_names q a (number_of a)) (has_many_statements longer all) (has_long_text longer all) none in
      let table : FitTable q a = record { candidates = λ k e at. (is.candidates.sound k e at).0; proper = candidate-proper q (flow q.execs) a.candidates formed.execs.each is.candidates; longer = keep.executables q.names } in
      let form : IsFlat all = shared-flat q a (number_of a) flat statements.form in
      let proper : AreProper longer.names all = shared-proper q a table flat (proper_of q flat formed statements) in
      record {
        well_formed = program_is longer all (longer-formed q a formed few.few_names keep) form proper (shared-few q a (number_of a) flat statements formed.execs few.few_statements);
        flat = all;
        statements = record { form = form; execs = refl };
      }

  pub shared-program : (s : Program) → IsShared q a s → IsFlatProgram s
  shared-program s shared =
      let number = shared.number in
      let flat = shared.flat in
      let same : number ≡ number_of a = one-numbering q c a number formed is shared.sharing.numbers in
      let none : refusal q a (number_of a) flat ≡ None = ap (λ (f : Expr → Option ℕ). refusal q a f flat) (sym same) ∙ shared.sharing.ends in
      subst IsFlatProgram (ap (λ (f : Expr → Option ℕ). shared_program q a f flat) (sym same) ∙ sym shared.is) (shared-is flat shared.sharing.statements none)
