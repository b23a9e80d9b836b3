-- What memories agree on, and what an executable keeps, in terms of the classes that it needs.
use Rattle.std.specs.Prelude.{◌≡◌, ℕ, slice_get, slice_index}
use Rattle.f77_tree.specs.declared.programs.ExecKind.{ExecKind}
use Rattle.f77_tree.specs.Execution.{Memory}
use Rattle.f77_tree.specs.Touched.{ExecReadsData}
use Rattle.f77_tree.specs.Value.{word_at}
use Rattle.alias_classes.specs.Classes.{ClassTable, class_of_word, class_of_loop}
use Rattle.alias_classes.specs.Needs.{ExecNeeds}

-- two memories agree on the words, the counts and the steps of the classes that an executable needs, and on the data taken
-- where it reads data
pub record AgreeOnClasses (t : ClassTable) (kind : ExecKind) (m n : Memory) : Type 0 where
  pub store : (word : ℕ) → ExecNeeds t kind (class_of_word t word) → word_at m.store word ≡ word_at n.store word
  pub counts : (k : ℕ) → ExecNeeds t kind (class_of_loop t k) → slice_index m.counts k ≡ slice_index n.counts k
  pub steps : (k : ℕ) → ExecNeeds t kind (class_of_loop t k) → word_at m.steps k ≡ word_at n.steps k
  pub taken : ExecReadsData kind → m.taken ≡ n.taken

-- words, counts and steps of other classes than an executable needs stay as they are, and so do the data, where it reads
-- none
pub record KeepsOtherClasses (t : ClassTable) (kind : ExecKind) (m new : Memory) : Type 0 where
  pub store : (word : ℕ) → (ExecNeeds t kind (class_of_word t word) → ⊥) → slice_get new.store word ≡ slice_get m.store word
  pub counts : (k : ℕ) → (ExecNeeds t kind (class_of_loop t k) → ⊥) → slice_get new.counts k ≡ slice_get m.counts k
  pub steps : (k : ℕ) → (ExecNeeds t kind (class_of_loop t k) → ⊥) → slice_get new.steps k ≡ slice_get m.steps k
  pub taken : (ExecReadsData kind → ⊥) → new.taken ≡ m.taken
