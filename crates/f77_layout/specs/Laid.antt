-- What is said of the program that the statements of a source make.
use Rattle.std.specs.Prelude.{◌≡◌, ℕ, ◌+◌, Bool, List, Some, Ok, slice_get}
use Rattle.f77_tree.specs.Places.{IsWordOf, Linked, equations}
use Rattle.f77_tree.specs.declared.programs.Exec.{Exec}
use Rattle.f77_tree.specs.declared.programs.ExecKind.{ExecKind}
use Rattle.f77_tree.specs.declared.programs.Program.{Program}
use Rattle.f77_tree.specs.declared.statements.Labelled.{Labelled}
use Rattle.f77_layout.specs.Leading.{IsLedTo}
use Rattle.layout_rules.specs.Executables.{beyond, first_of, increments, labelled, loops_to, own_executables, own_kinds}
use Rattle.layout_rules.specs.Labels.{used}
use Rattle.layout_rules.specs.Layout.{layout, names_of}
use Rattle.layout_rules.specs.Source.{IsSource}

-- the program is the layout of these statements
pub record IsLaid (stmts : List Labelled) (checked : Bool) (p : Program) : Type 0 where
  pub source : IsSource stmts
  pub laid : layout stmts checked ≡ Ok p

-- executables of these kinds stand in the list from a place on, each with this line
abbrev pub StandFrom : List Exec → (first line : ℕ) → List ExecKind → Type 0
StandFrom execs first line kinds =
    (j : ℕ) (kind : ExecKind) → slice_get kinds j ≡ Some kind → slice_get execs (first + j) ≡ Some (record { line = line; kind = kind })

-- the kinds of the executables of the statement at this place: its own, and the increments of the loops that end at it
abbrev pub own_of : List Labelled → (checked : Bool) → (place : ℕ) → Labelled → List ExecKind
own_of stmts checked place s = own_kinds (names_of stmts) checked stmts place (first_of stmts place) (beyond stmts place s) s.stmt

abbrev pub increments_of : List Labelled → (place : ℕ) → Labelled → List ExecKind
increments_of stmts place s = increments (names_of stmts) stmts place (first_of stmts place + own_executables s.stmt) (loops_to stmts s.label)

-- each statement's own executables stand from its first one on, and the increments after them
abbrev pub OwnStand : List Labelled → (checked : Bool) → List Exec → Type 0
OwnStand stmts checked execs =
    (i : ℕ) (s : Labelled) → slice_get stmts i ≡ Some s → StandFrom execs (first_of stmts i) s.line (own_of stmts checked i s)

abbrev pub IncrementsStand : List Labelled → List Exec → Type 0
IncrementsStand stmts execs =
    (i : ℕ) (s : Labelled) → slice_get stmts i ≡ Some s
    → StandFrom execs (first_of stmts i + own_executables s.stmt) s.line (increments_of stmts i s)

-- each label that a statement uses leads to the first executable of the statement that bears it
abbrev pub LabelsLead : List Labelled → List Exec → Type 0
LabelsLead stmts execs =
    (i j : ℕ) (s : Labelled) (label : ℕ) → slice_get stmts i ≡ Some s → slice_get (used s.stmt) j ≡ Some label
    → IsLedTo stmts execs label (labelled stmts label)

-- two names have a word in common only where equations link them
abbrev pub SharesWhereLinked : Program → Type 0
SharesWhereLinked p = (x y word : ℕ) → IsWordOf p.names x word → IsWordOf p.names y word → Linked (equations p.names p.commons p.groups) x y
