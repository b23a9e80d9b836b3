-- Which of the ready nodes a number chooses.
use Rattle.std.specs.Prelude.{ℕ, zero, suc, ◌%◌, ◌++◌, if◌then◌else◌, List, [], ◌∷◌, length, slice_get, slice_index, Option}
use Rattle.firing.specs.Moves.{Moves}

-- the ready nodes below n, in number order
abbrev pub ready_below : {M : Type 0} → Moves M → M → ℕ → List ℕ
ready_below s m zero = []
ready_below s m (suc n) = ready_below s m n ++ (if s.ready m n then n ∷ [] else [])

-- the ready nodes, in number order
abbrev pub ready_nodes : {M : Type 0} → Moves M → M → List ℕ
ready_nodes s m = ready_below s m s.nodes

-- the ready node that a pick q chooses: of the r ready nodes, in number order, the one at the place q mod r
abbrev pub chosen : {M : Type 0} → Moves M → M → ℕ → ℕ
chosen s m q = let nodes = ready_nodes s m in slice_index nodes (q % length nodes)

-- the lowest ready node
abbrev pub lowest : {M : Type 0} → Moves M → M → Option ℕ
lowest s m = slice_get (ready_nodes s m) 0
