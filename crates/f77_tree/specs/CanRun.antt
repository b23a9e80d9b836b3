-- What a step needs of a program, so that it reads and writes only what there is.
use Rattle.std.specs.Prelude.{◌≡◌, ℕ, ◌<◌, List, Some, All, length, slice_get}
use Rattle.f77_tree.specs.declared.programs.Exec.{Exec}
use Rattle.f77_tree.specs.declared.programs.ExecKind.{ExecKind}
use Rattle.f77_tree.specs.declared.programs.ExecKind.TheVariants.{Assign, Print, Pass, Test, Sign, Pick, DoStart, DoNext, End}
use Rattle.f77_tree.specs.declared.programs.Item.{Item}
use Rattle.f77_tree.specs.declared.programs.Item.TheVariants.{Value, Chars}
use Rattle.f77_tree.specs.declared.programs.NameInfo.{NameInfo}
use Rattle.f77_tree.specs.declared.programs.Program.{Program}
use Rattle.f77_tree.specs.Value.{place_of, IsExpression, IsAccess, ArePlaced}

abbrev pub CanPrint : List NameInfo → Item → Type 0
CanPrint names (Value e) = IsExpression names e
CanPrint names (Chars text) = Unit {0}

-- an index of an executable
abbrev pub IsNext : Program → ℕ → Type 0
IsNext p next = next < length p.execs

-- a DO of the program, and the word of its variable
pub record CanLoop (p : Program) (loop_no var body exit : ℕ) : Type 0 where
  pub loop : loop_no < p.loops
  pub name : var < length p.names
  pub word : place_of p.names var < p.words
  pub body_next : IsNext p body
  pub exit_next : IsNext p exit

-- names, subscripts and operands are as the table of names and the operators ask, and successors are executables
abbrev pub CanExecute : Program → ExecKind → Type 0
CanExecute p (Assign target value next) = IsAccess p.names target × IsExpression p.names value × IsNext p next
CanExecute p (Print items next) = All (CanPrint p.names) items × IsNext p next
CanExecute p (Pass next) = IsNext p next
CanExecute p (Test cond yes' no') = IsExpression p.names cond × IsNext p yes' × IsNext p no'
CanExecute p (Sign value neg zero' pos') = IsExpression p.names value × IsNext p neg × IsNext p zero' × IsNext p pos'
CanExecute p (Pick value targets other) = IsExpression p.names value × All (IsNext p) targets × IsNext p other
CanExecute p (DoStart loop_no var first last step body exit) = CanLoop p loop_no var body exit × IsExpression p.names first × IsExpression p.names last × IsExpression p.names step
CanExecute p (DoNext loop_no var body exit) = CanLoop p loop_no var body exit
CanExecute p End = Unit {0}

-- each executable can run, and the first one is there
pub record CanRun (p : Program) : Type 0 where
  pub placed : ArePlaced p.names p.words
  pub initial : length p.initial ≡ p.words
  pub begins : 0 < length p.execs
  pub executes : (k : ℕ) (exec : Exec) → slice_get p.execs k ≡ Some exec → CanExecute p exec.kind
