-- That something is due.
use Rattle.std.specs.Prelude.{ℕ, List}
use Rattle.firing.specs.Runs.{HasEnd}
use Rattle.op_board.specs.OperationNets.{OperationNet}
use Rattle.op_board.specs.SoundOperationNets.{IsOperationNet}
use Rattle.job_terms.specs.Due.{Due}
use Rattle.program_nets.specs.Game.{GameKind}
use Rattle.program_nets.specs.Playing.{opening, way_of}

-- something is due
pub record HasDue (is_due : Due → Type 0) : Type 0 where
  pub due : Due
  pub is : is_due due

-- the game of each net of this kind comes to an end, of its own or at the limit, by any picks and without
abbrev pub GamesEnd : {M : Type 0} → GameKind M → Type 0
GamesEnd kind = (x : OperationNet) (picks : List ℕ) (limit : ℕ) → IsOperationNet x → HasEnd (way_of (kind.of_net x) picks) (opening (kind.of_net x)) limit
