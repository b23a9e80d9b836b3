-- How many edges leave the pieces of a flow graph.
use Rattle.std.specs.Prelude.{ℕ, length}
use Rattle.f77_tree.specs.declared.programs.ExecKind.{ExecKind}
use Rattle.f77_tree.specs.Control.{successors}
use Rattle.cfg_build.specs.declared.pieces.PieceKind.{PieceKind}
use Rattle.cfg_build.specs.declared.pieces.PieceKind.TheVariants.{Branch, Hold}

-- how many edges leave a piece of this kind that is made for such an executable: one, but for a branch, which has one for each
-- successor, and a hold
abbrev pub ways_out : PieceKind → ExecKind → ℕ
ways_out Branch kind = length (successors kind)
ways_out Hold kind = 2
ways_out _ kind = 1
