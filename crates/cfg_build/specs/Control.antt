-- Which executables control can come to.
use Rattle.std.specs.Prelude.{◌≡◌, ℕ, suc, Bool, true, List, [], ◌∷◌, ◌++◌, length, map, Some, slice_get}
use Rattle.closed_walks.specs.Graph.{Graph}
use Rattle.closed_walks.specs.Reaching.{reaches}
use Rattle.f77_tree.specs.declared.programs.Exec.{Exec}
use Rattle.f77_tree.specs.declared.programs.NameInfo.{NameInfo}
use Rattle.f77_tree.specs.Control.{successors}
use Rattle.f77_tree.specs.WellFormed.{AreExecs}

-- edges by the nodes at which they begin: from the first node to those of its list, then from the next node, and so on
abbrev pub fan : (first : ℕ) → List (List ℕ) → List (ℕ × ℕ)
fan first [] = []
fan first (heads ∷ rest) = map (λ head. (first, head)) heads ++ fan (suc first) rest

-- an edge leads from each executable to each of its successors
abbrev pub control : List Exec → Graph
control execs = record { nodes = length execs; edges = fan 0 (map (λ exec. successors exec.kind) execs) }

-- control can come to the executable from the first one
abbrev pub is_reached : List Exec → ℕ → Bool
is_reached execs k = reaches (control execs) 0 k

-- an executable of a well-formed program that control can come to
pub record IsReachedExec (names : List NameInfo) (execs : List Exec) (loops k : ℕ) (exec : Exec) : Type 0 where
  pub well : AreExecs names execs loops
  pub reached : is_reached execs k ≡ true
  pub found : slice_get execs k ≡ Some exec
