-- What the classes of a program cover, as statements.
use Rattle.std.specs.Prelude.{ℕ, ◌≤◌, List, ℤ}
use Rattle.f77_tree.specs.declared.programs.Program.{Program}
use Rattle.f77_tree.specs.Places.{IsWordOf}
use Rattle.alias_classes.specs.Classes.{ClassTable, class_of_word, IsClasses, class_count}
use Rattle.f77_tree.specs.declared.programs.ExecKind.{ExecKind}
use Rattle.alias_classes.specs.Needs.{ExecNeeds, Hits}
use Rattle.f77_tree.specs.CanRun.{CanExecute}
use Rattle.f77_tree.specs.WellFormed.{IsWellFormed}
use Rattle.f77_tree.specs.Value.{ArePlaced, IsAccess}
use Rattle.f77_tree.specs.declared.expressions.Access.{Access}
use Rattle.f77_tree.specs.Touched.{AccessMayName, ExecMayRead, ExecMayChange}
use Rattle.f77_tree.specs.Execution.{Memory, outcome}
use Rattle.f77_tree.specs.Steps.{Changes, HasRoomFor, AreAlike, IfGoes}
use Rattle.alias_classes.specs.Frame.{AgreeOnClasses, KeepsOtherClasses}

-- each word of a name has a class of words
abbrev pub WordsHaveClasses : Type 0
WordsHaveClasses = (p : Program) (t : ClassTable) (name word : ℕ)
    → IsClasses p t → IsWordOf p.names name word → (1 ≤ class_of_word t word) × (class_of_word t word ≤ t.word_classes)

-- what an executable needs is a class of the program
abbrev pub NeedsAreNumbered : Type 0
NeedsAreNumbered = (p : Program) (t : ClassTable) (kind : ExecKind) (n : ℕ)
    → IsWellFormed p → IsClasses p t → CanExecute p kind → ExecNeeds t kind n → (1 ≤ n) × (n ≤ class_count t)

-- an access hits the class of each word that it may name
abbrev pub HitsWhatMayBeNamed : Type 0
HitsWhatMayBeNamed = (p : Program) (t : ClassTable) (access : Access) (word : ℕ)
    → IsClasses p t → ArePlaced p.names p.words → IsAccess p.names access → AccessMayName p.names access word
    → Hits t access (class_of_word t word)

-- an executable needs the class of each word that it may read
abbrev pub NeedsWhatMayBeRead : Type 0
NeedsWhatMayBeRead = (p : Program) (t : ClassTable) (kind : ExecKind) (word : ℕ)
    → IsClasses p t → ArePlaced p.names p.words → CanExecute p kind → ExecMayRead p.names kind word
    → ExecNeeds t kind (class_of_word t word)

-- so it does of each word that it may change
abbrev pub NeedsWhatMayChange : Type 0
NeedsWhatMayChange = (p : Program) (t : ClassTable) (kind : ExecKind) (word : ℕ)
    → IsClasses p t → ArePlaced p.names p.words → CanExecute p kind → ExecMayChange p.names kind word
    → ExecNeeds t kind (class_of_word t word)

-- and of each word that it changes over some memory
abbrev pub NeedsWhatChanges : Type 0
NeedsWhatChanges = (p : Program) (t : ClassTable) (input : List ℤ) (m : Memory) (kind : ExecKind) (word : ℕ)
    → IsClasses p t → ArePlaced p.names p.words → CanExecute p kind → Changes p.names input m kind word
    → ExecNeeds t kind (class_of_word t word)

-- Over memories that agree on the classes that an executable needs, its outcomes are alike.
abbrev pub NeedsDecide : Type 0
NeedsDecide = (p : Program) (t : ClassTable) (input : List ℤ) (m n : Memory) (kind : ExecKind)
    → IsClasses p t → ArePlaced p.names p.words → HasRoomFor p m → HasRoomFor p n → CanExecute p kind → AgreeOnClasses t kind m n
    → AreAlike p.names input kind m n (outcome p.names input m kind) (outcome p.names input n kind)

-- an executable leaves the classes that it doesn't need as they are
abbrev pub KeepsTheRest : Type 0
KeepsTheRest = (p : Program) (t : ClassTable) (input : List ℤ) (m : Memory) (kind : ExecKind)
    → IsClasses p t → ArePlaced p.names p.words → CanExecute p kind
    → IfGoes (outcome p.names input m kind) (λ next new text. KeepsOtherClasses t kind m new)
