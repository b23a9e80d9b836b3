-- What came of a task.
use Rattle.std.specs.Prelude.{◌≡◌, ◌≢◌, ℕ, List, [], None, Result, Ok, Err}
use Rattle.op_table.specs.declared.Trap.{Trap}
use Rattle.f77_tree.specs.Execution.{Memory}
use Rattle.f77_meaning.specs.declared.storage.Storage.{Storage}
use Rattle.op_board.specs.Effects.{Effect, changes, gives, tells}
use Rattle.operation_effects.specs.declared.performing.Did.{Did}
use Rattle.operation_effects.specs.declared.performing.Did.TheVariants as did

-- the effect that an answer tells, in the memory and with the line there are then
abbrev pub told : Did → Memory → (line : List ℕ) → Result Effect Trap
told (did.Gave z) m line = Ok (gives m z)
told did.Changed m line = Ok (changes m)
told did.Wrote m line = Ok (record { value = None; memory = m; text = line; choice = 0 })
told (did.Told choice) m line = Ok (tells m choice)
told (did.Trapped trap) m line = Err trap

-- a trap changes nothing
abbrev pub KeepsStorage : Did → (old new : Storage) → Type 0
KeepsStorage (did.Trapped trap) old new = new ≡ old
KeepsStorage _ old new = Unit {0}

-- the line that was made isn't empty, and where none was made it is as it was
abbrev pub KeepsLine : Did → (old new : List ℕ) → Type 0
KeepsLine did.Wrote old new = new ≢ []
KeepsLine _ old new = new ≡ old
