-- What sound touches give of each piece.
use Rattle.std.specs.Prelude.{◌≡◌, ◌<◌, ℕ, suc, Bool, true}
use Rattle.f77_tree.specs.declared.programs.Program.{Program}
use Rattle.f77_tree.specs.WellFormed.{IsWellFormed}
use Rattle.alias_classes.specs.Classes.{ClassTable, IsClasses, class_count}
use Rattle.cfg_build.specs.declared.pieces.PieceKind.{PieceKind}
use Rattle.cfg_build.specs.Flow.{flow}
use Rattle.region_tree.specs.Tree.{Tree}
use Rattle.dep_routing.specs.Sound.{IsSound}
use Rattle.dep_routing.specs.Touches.{piece_kind}

-- the node touches one of so many lines, from 0 on
abbrev pub TouchesSomeLine : (touches : ℕ → ℕ → Bool) → (lines node : ℕ) → Type 0
TouchesSomeLine touches lines node = (line : ℕ) × (line < lines) × (touches node line ≡ true)

-- each piece of the kind touches the line of output or a class of the program
abbrev pub PiecesTouchLines : PieceKind → Type 0
PiecesTouchLines kind = (p : Program) (c : ClassTable) (t : Tree) (touches : ℕ → ℕ → Bool) (node : ℕ)
    → IsWellFormed p → IsClasses p c → IsSound p c t touches → node < (flow p.execs).graph.nodes → piece_kind p node ≡ kind
    → TouchesSomeLine touches (suc (class_count c)) node
