-- What the executables of a well-formed program tell of its flat statements.
use Rattle.std.proofs.Common.{◌≡◌, ℕ, zero, suc, ◌+◌, ◌≤◌, List, length, sym, ap, ◌∙◌, subst, arith}
use Rattle.std.specs.Prelude.{slice_get, Some}
use Rattle.std.proofs.lemmas.List.{length-map}
use Rattle.f77_tree.specs.declared.programs.Exec.{Exec}
use Rattle.f77_tree.specs.declared.programs.NameInfo.{NameInfo}
use Rattle.f77_tree.specs.declared.programs.Program.{Program}
use Rattle.f77_tree.specs.WellFormed.{IsExecutable, IsWellFormed}
use Rattle.f77_tree.proofs.AllLemmas.{All-get}
use Rattle.flat_programs.specs.declared.statements.Flat.{Flat}
use Rattle.flat_programs.specs.declared.statements.Flat.TheVariants.{Mark, Assignment, Output, LogicalIf, ArithmeticIf, ComputedGoTo, DoLoop, Jump, Finish}
use Rattle.flat_programs.specs.declared.statements.FlatLine.{FlatLine}
use Rattle.flat_programs.specs.Executables.{first_of, marked, leading}
use Rattle.flat_programs.specs.FlatForm.{AreProper, AreStatementsOf, IsFlatProgram, IsProperFlat}
use Rattle.flat_programs.specs.Recovered.{recovered}
use Rattle.flat_programs.proofs.MarkLemmas.{item_at}
use Rattle.flat_programs.proofs.CountedItems.{All-items}
use Rattle.flat_programs.proofs.ExecutableRows.{with_line, execs-length, first-more, leading-at}
use Rattle.flat_programs.proofs.FlatRecovered.{recovered-is}

proper-led : (names : List NameInfo) (flat : List FlatLine) (place : ℕ) (stmt : Flat) → IsExecutable names (leading flat place stmt) → IsProperFlat names stmt
proper-led names flat place Mark is = is
proper-led names flat place (LogicalIf cond target) is = is
proper-led names flat place (Assignment target value) is = is
proper-led names flat place (Output items) is = is
proper-led names flat place (ArithmeticIf value below at above) is = is
proper-led names flat place (ComputedGoTo value targets) is = (is.0, let size = length-map targets (marked flat) in let some = is.1 in omega (arith, size, some))
proper-led names flat place (DoLoop end var first last step) is = is
proper-led names flat place (Jump target) is = is
proper-led names flat place Finish is = is

-- a statement has at least one executable
first-least : (flat : List FlatLine) (place : ℕ) → place ≤ length flat → place ≤ first_of flat place
first-least flat zero le = omega arith
first-least flat (suc place) le =
    let add : place + 1 ≡ suc place = omega arith in
    let item = item_at flat place (omega (arith, le)) in
    let more = first-more flat place item.0 item.1 in
    let less = first-least flat place (omega (arith, le)) in
    subst (λ m. m ≤ first_of flat m) add (omega (arith, more, less))

module _ (p : Program) (flat : List FlatLine) (of : AreStatementsOf p flat) where
  pub proper-of : IsWellFormed p → AreProper p.names flat
  proper-of right =
      All-items (λ (l : FlatLine). IsProperFlat p.names l.stmt) flat (λ place l is.
      let at : slice_get p.execs (first_of flat place) ≡ Some (with_line l.line (leading flat place l.stmt)) = ap (λ (execs : List Exec). slice_get execs (first_of flat place)) (sym of.execs) ∙ leading-at flat place l is in
      proper-led p.names flat place l.stmt (All-get (λ (exec : Exec). IsExecutable p.names exec.kind) p.execs (first_of flat place) (with_line l.line (leading flat place l.stmt)) right.execs.each at))

  pub few-of : length flat ≤ length p.execs
  few-of =
      let a = first-least flat (length flat) (omega arith) in
      let b = execs-length flat in
      let c = ap length of.execs in
      omega (arith, a, b, c)

  pub told-of : recovered p.execs ≡ flat
  told-of = ap recovered (sym of.execs) ∙ recovered-is flat of.form

pub only-one : (p : Program) (flat other : List FlatLine) → AreStatementsOf p flat → AreStatementsOf p other → flat ≡ other
only-one p flat other of also = sym (told-of p flat of) ∙ told-of p other also

-- the statements that are recovered have the executables
pub recovered-of : (p : Program) (flat : List FlatLine) → IsFlatProgram p → flat ≡ recovered p.execs → AreStatementsOf p flat
recovered-of p flat right is = subst (AreStatementsOf p) (sym (told-of p right.flat right.statements) ∙ sym is) right.statements
