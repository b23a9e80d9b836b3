-- The storage of a stepper as what executables read and change.
use Rattle.std.specs.Prelude.{◌≡◌, ℕ, [], length, Result, Ok, Err}
use Rattle.op_table.specs.declared.Trap.{Trap}
use Rattle.f77_tree.specs.Execution.{Memory, Outcome, Goes, Stops}
use Rattle.f77_meaning.specs.declared.storage.Storage.{Storage}

abbrev pub memory_of : Storage → Memory
memory_of s = record { store = s.store.items; counts = s.counts.items; steps = s.steps.items; taken = s.taken }

-- what comes of an executable that writes nothing: the next one in this memory, or a trap
abbrev pub outcome_of : Result ℕ Trap → Memory → Outcome
outcome_of (Ok next) memory = Goes next memory []
outcome_of (Err trap) memory = Stops trap

-- there are as many words, counts and steps as before
pub record HasSizes (old new : Storage) : Type 0 where
  pub words : length new.store.items ≡ length old.store.items
  pub counts : length new.counts.items ≡ length old.counts.items
  pub steps : length new.steps.items ≡ length old.steps.items
