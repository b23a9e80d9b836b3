-- What is written beside what may change and what is needed.
use Rattle.std.specs.Prelude.{◌≡◌, ℕ, ℤ, ◌≤◌, List}
use Rattle.f77_tree.specs.declared.programs.ExecKind.{ExecKind}
use Rattle.f77_tree.specs.declared.programs.Program.{Program}
use Rattle.f77_tree.specs.CanRun.{CanExecute}
use Rattle.f77_tree.specs.Execution.{Memory}
use Rattle.f77_tree.specs.Steps.{Changes}
use Rattle.f77_tree.specs.Touched.{ExecMayChange}
use Rattle.f77_tree.specs.Value.{ArePlaced}
use Rattle.alias_classes.specs.Classes.{ClassTable, IsClasses, class_of_word, class_of_loop}
use Rattle.alias_classes.specs.Number.{number_of_classes}
use Rattle.alias_classes.specs.Writes.{ExecWrites, ExecWritesOrCounts}

-- ---- executables

-- the class of a word that an executable may change is written
abbrev pub WritesWhatMayChange : Type 0
WritesWhatMayChange = (p : Program) (t : ClassTable) (kind : ExecKind) (word : ℕ)
    → IsClasses p t → ArePlaced p.names p.words → CanExecute p kind → ExecMayChange p.names kind word → ExecWrites t kind (class_of_word t word)

-- so is that of a word that an executable changes over some memory
abbrev pub WritesWhatChanges : Type 0
WritesWhatChanges = (p : Program) (t : ClassTable) (input : List ℤ) (m : Memory) (kind : ExecKind) (word : ℕ)
    → IsClasses p t → ArePlaced p.names p.words → CanExecute p kind → Changes p.names input m kind word → ExecWrites t kind (class_of_word t word)

-- the class of a DO whose count or step an executable sets is counted
abbrev pub CountsWhatIsSet : (sets : ExecKind → ℕ → Type 0) → Type 0
CountsWhatIsSet sets = (t : ClassTable) (kind : ExecKind) (n : ℕ) → sets kind n → ExecWritesOrCounts t kind (class_of_loop t n)

-- each class of the one kind is one of the other
abbrev pub AreAmong : (some more : ClassTable → ExecKind → ℕ → Type 0) → Type 0
AreAmong some more = (t : ClassTable) (kind : ExecKind) (n : ℕ) → some t kind n → more t kind n

-- ---- programs with the same names and words

pub record HaveSameWords (p q : Program) : Type 0 where
  pub names : q.names ≡ p.names
  pub words : q.words ≡ p.words

-- fewer DOs give no more classes
abbrev pub FewerLoopsFewerClasses : Type 0
FewerLoopsFewerClasses = (p q : Program) → HaveSameWords p q → q.loops ≤ p.loops → number_of_classes q ≤ number_of_classes p

-- their words have the same classes
abbrev pub SameWordsSameClasses : Type 0
SameWordsSameClasses = (p q : Program) (t : ClassTable) → HaveSameWords p q → IsClasses p t → IsClasses q (record t { loops = q.loops })
