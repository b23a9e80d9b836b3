-- Laws on nets and their parts, as statements.
use Rattle.std.specs.Prelude.{ℕ, Bool, ℤ, List, All}
use Rattle.net_board.specs.Nodes.{NetOf, node_at}
use Rattle.f77_tree.specs.declared.programs.Program.{Program}
use Rattle.cfg_build.specs.Joined.{FlowGraph}
use Rattle.dep_routing.specs.Routing.{Routing}
use Rattle.op_table.specs.Words.{IsWord}
use Rattle.net_board.specs.NetParts.{AreParts, net_with}
use Rattle.net_board.specs.Tokens.{Tokens, net_moves}
use Rattle.firing.specs.Marks.{Wakes}
use Rattle.firing.specs.Moves.{CanFire}
use Rattle.net_board.specs.SoundNets.{CanCome}
use Rattle.net_board.specs.WokenNodes.{IsWoken}

-- each net that the parts of a program make over data of words is so
abbrev pub HoldsOfProgramNets : (NetOf → Type 0) → Type 0
HoldsOfProgramNets P = (p : Program) (f : FlowGraph) (touches : (piece line : ℕ) → Bool) (routing : Routing) (input : List ℤ)
    → AreParts p f touches routing → All IsWord input → P (net_with p input touches routing)

-- a list of the woken nodes has each that a firing can have made ready
abbrev pub WokenNodesAreAll : Type 0
WokenNodesAreAll = (net : NetOf) (m : Tokens) (k : ℕ) (woken : List ℕ)
    → CanCome net m → CanFire (net_moves net) m k → IsWoken net ((net_moves net).fired m k) (node_at net k) woken
    → Wakes (net_moves net) m k woken
