-- Flat statements are of the dialect of which their executables are.
use Rattle.std.proofs.Common.{◌≡◌, ⊎_elim, ℕ, ◌+◌, Bool, true, false, List, get_or, All, Some, None, subst}
use Rattle.std.specs.Prelude.{if◌then◌else◌, slice_get}
use Rattle.std.proofs.lemmas.Option.{slice_get-get_or}
use Rattle.f77_tree.specs.declared.programs.Exec.{Exec}
use Rattle.f77_tree.specs.declared.programs.ExecKind.{ExecKind}
use Rattle.f77_tree.specs.declared.programs.ExecKind.TheVariants.{Pass}
use Rattle.f77_tree.specs.Dialects.{HasDialect, ItemHasDialect, ExecHasDialect}
use Rattle.f77_tree.proofs.AllLemmas.{All-get}
use Rattle.flat_programs.specs.declared.statements.Flat.{Flat}
use Rattle.flat_programs.specs.declared.statements.Flat.TheVariants.{Mark, Assignment, Output, LogicalIf, ArithmeticIf, ComputedGoTo, DoLoop, Jump, Finish}
use Rattle.flat_programs.specs.declared.statements.FlatLine.{FlatLine}
use Rattle.flat_programs.specs.Marks.{is_end, loop_to, mark_at}
use Rattle.flat_programs.specs.Executables.{executables, first_of, following, increment, leading, marked}
use Rattle.flat_programs.specs.ExecutablePlaces.{IsExecutableOfSome}

-- every operator of the statement's expressions is of the dialect
abbrev pub FlatHasDialect : (checked : Bool) → Flat → Type 0
FlatHasDialect checked Mark = Unit {0}
FlatHasDialect checked (Assignment target value) = All (HasDialect checked) target.subs × HasDialect checked value
FlatHasDialect checked (Output items) = All (ItemHasDialect checked) items
FlatHasDialect checked (LogicalIf cond target) = HasDialect checked cond
FlatHasDialect checked (ArithmeticIf value below at above) = HasDialect checked value
FlatHasDialect checked (ComputedGoTo value targets) = HasDialect checked value
FlatHasDialect checked (DoLoop end var first last step) = HasDialect checked first × HasDialect checked last × HasDialect checked step
FlatHasDialect checked (Jump target) = Unit {0}
FlatHasDialect checked Finish = Unit {0}

abbrev pub LineHasDialect : (checked : Bool) → FlatLine → Type 0
LineHasDialect checked l = FlatHasDialect checked l.stmt

abbrev pub ExecIsOfDialect : (checked : Bool) → Exec → Type 0
ExecIsOfDialect checked exec = ExecHasDialect checked exec.kind

-- the first executable of each statement, and that each executable is one of a statement
abbrev pub StandFirst : Type 0
StandFirst = (flat : List FlatLine) (place : ℕ) (l : FlatLine) → slice_get flat place ≡ Some l → slice_get (executables flat) (first_of flat place) ≡ Some (record { line = l.line; kind = leading flat place l.stmt })

abbrev pub AreOnly : Type 0
AreOnly = (flat : List FlatLine) (k : ℕ) (exec : Exec) → slice_get (executables flat) k ≡ Some exec → IsExecutableOfSome flat k exec

module _ (checked : Bool) (flat : List FlatLine) where
  leading-dialect : (place : ℕ) (stmt : Flat) → FlatHasDialect checked stmt → ExecHasDialect checked (leading flat place stmt)
  leading-dialect place Mark has = tt
  leading-dialect place (Assignment target value) has = has
  leading-dialect place (Output items) has = has
  leading-dialect place (LogicalIf cond target) has = has
  leading-dialect place (ArithmeticIf value below at above) has = has
  leading-dialect place (ComputedGoTo value targets) has = has
  leading-dialect place (DoLoop end var first last step) has = has
  leading-dialect place (Jump target) has = tt
  leading-dialect place Finish has = tt

  dialect-leading : (place : ℕ) (stmt : Flat) → ExecHasDialect checked (leading flat place stmt) → FlatHasDialect checked stmt
  dialect-leading place Mark has = tt
  dialect-leading place (Assignment target value) has = has
  dialect-leading place (Output items) has = has
  dialect-leading place (LogicalIf cond target) has = has
  dialect-leading place (ArithmeticIf value below at above) has = has
  dialect-leading place (ComputedGoTo value targets) has = has
  dialect-leading place (DoLoop end var first last step) has = has
  dialect-leading place (Jump target) has = tt
  dialect-leading place Finish has = tt

  increment-dialect : (ends : Bool) (d next : ℕ) (kind : ExecKind) → (if ends then Some (increment flat d next) else None) ≡ Some kind → ExecHasDialect checked kind
  increment-dialect true d next kind is = let same : increment flat d next ≡ kind = cc in subst (ExecHasDialect checked) same tt
  increment-dialect false d next kind is = let no : None ≡ Some kind = is in absurd cc

  following-dialect : (place : ℕ) (stmt : Flat) (kind : ExecKind) → following flat place stmt ≡ Some kind → ExecHasDialect checked kind
  following-dialect place Mark kind is = increment-dialect (is_end flat (mark_at flat place)) (loop_to flat (mark_at flat place)) (first_of flat (place + 1)) kind is
  following-dialect place (LogicalIf cond target) kind is = let same : Pass (marked flat target) ≡ kind = cc in subst (ExecHasDialect checked) same tt
  following-dialect place (Assignment target value) kind is = let no : None ≡ Some kind = is in absurd cc
  following-dialect place (Output items) kind is = let no : None ≡ Some kind = is in absurd cc
  following-dialect place (ArithmeticIf value below at above) kind is = let no : None ≡ Some kind = is in absurd cc
  following-dialect place (ComputedGoTo value targets) kind is = let no : None ≡ Some kind = is in absurd cc
  following-dialect place (DoLoop end var first last step) kind is = let no : None ≡ Some kind = is in absurd cc
  following-dialect place (Jump target) kind is = let no : None ≡ Some kind = is in absurd cc
  following-dialect place Finish kind is = let no : None ≡ Some kind = is in absurd cc

  -- the statements of executables of a dialect
  pub flat-dialect : StandFirst → All (ExecIsOfDialect checked) (executables flat) → All (LineHasDialect checked) flat
  flat-dialect first all = λ place d less.
      let at = slice_get-get_or flat place d less in
      let l = get_or flat place d in
      let exec : Exec = record { line = l.line; kind = leading flat place l.stmt } in
      dialect-leading place l.stmt (All-get (ExecIsOfDialect checked) (executables flat) (first_of flat place) exec all (first flat place l at))

  exec-dialect : AreOnly → All (LineHasDialect checked) flat → (k : ℕ) (exec : Exec) → slice_get (executables flat) k ≡ Some exec → ExecIsOfDialect checked exec
  exec-dialect only all k exec at =
      let r = only flat k exec at in
      let s = r.of in
      let has = All-get (LineHasDialect checked) flat r.place s.statement all s.there in
      ⊎_elim
      (λ lead. subst (ExecHasDialect checked) lead.1 (leading-dialect r.place s.statement.stmt has))
      (λ after. following-dialect r.place s.statement.stmt exec.kind after.1)
      s.which

  -- the executables of statements of a dialect
  pub executables-dialect : AreOnly → All (LineHasDialect checked) flat → All (ExecIsOfDialect checked) (executables flat)
  executables-dialect only all = λ k d less. exec-dialect only all k _ (slice_get-get_or (executables flat) k d less)
