-- How control leaves a piece whose operations were all performed.
use Rattle.std.specs.Prelude.{ℕ, List, [], None}
use Rattle.f77_tree.specs.Execution.{Memory}
use Rattle.op_board.specs.Effects.{Effect}
use Rattle.op_net.specs.declared.piece_performing.PieceEnd.{PieceEnd}
use Rattle.op_net.specs.declared.piece_performing.PieceEnd.TheVariants.{Along, Wrote}

-- the effect of the last operation that is told, in the memory and with the line there are then
abbrev pub effect_told : PieceEnd → Memory → (line : List ℕ) → Effect
effect_told (Along choice) m line = record { value = None; memory = m; text = []; choice = choice }
effect_told Wrote m line = record { value = None; memory = m; text = line; choice = 0 }
