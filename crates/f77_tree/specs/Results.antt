-- Results that are no traps.
use Rattle.std.specs.Prelude.{◌≡◌, Result, Ok}
use Rattle.op_table.specs.declared.Trap.{Trap}

-- no trap: a value, or the word that an access names
pub record HasResult {A : Type 0} (r : Result A Trap) : Type 0 where
  pub result : A
  pub is : r ≡ Ok result
