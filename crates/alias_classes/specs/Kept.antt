-- What is kept of the classes of a program.
use Rattle.std.specs.Prelude.{◌≡◌, ℕ, ◌+◌, ◌*◌, ◌<◌, true, List, length, slice_index_or}
use Rattle.class_set.specs.declared.ClassSet.{ClassSet}
use Rattle.class_set.specs.ClassSet.{holds}
use Rattle.class_set.specs.Members.{IsWidth}
use Rattle.f77_tree.specs.declared.programs.Program.{Program}
use Rattle.f77_tree.specs.Value.{ArePlaced}
use Rattle.alias_classes.specs.Classes.{ClassTable, IsClasses}
use Rattle.alias_classes.specs.Needs.{IsClassOfName}

-- the table of a program whose words have these numbers
abbrev pub table_of : Program → (numbers : List ℕ) → (word_classes : ℕ) → ClassTable
table_of p numbers word_classes = record { names = p.names; numbers = numbers; word_classes = word_classes; loops = p.loops }

-- the members of a set are the classes of a name
pub record IsSetOfName {W : ℕ} (t : ClassTable) (name : ℕ) (set : ClassSet W) : Type 0 where
  pub sound : (n : ℕ) → holds set n ≡ true → IsClassOfName t name n
  pub whole : (n : ℕ) → IsClassOfName t name n → holds set n ≡ true

-- the classes of a program, of which there are so few that sets of W words hold them, and the set of each name's
pub record AreKept (W : ℕ) (p : Program) (numbers : List ℕ) (word_classes : ℕ) (sets : List (ClassSet W)) : Type 0 where
  pub width : IsWidth W
  pub placed : ArePlaced p.names p.words
  pub initial : length p.initial ≡ p.words
  pub own : IsClasses p (table_of p numbers word_classes)
  pub few : word_classes + p.loops < 64 * W
  pub count : length sets ≡ length p.names
  pub each : (k : ℕ) (d : ClassSet W) → k < length p.names → IsSetOfName (table_of p numbers word_classes) k (slice_index_or sets k d)
