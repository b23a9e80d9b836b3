-- Which lines stand before a load, as code asks for it.
use Rattle.std.proofs.Common.{◌≡◌, ◌<◌, ℕ, ◌&&◌, Bool, true, false, not, is_some, length, refl, sym, ap, ◌∙◌, subst}
use Rattle.std.specs.List.{list_all}
use Rattle.firing.specs.declared.system.NodeName.TheVariants.{Op}
use Rattle.net_board.specs.Nodes.{graph_in}
use Rattle.op_board.specs.OperationNets.{OperationNet, all_operation_nodes, needed, operation_at, operation_count, operation_node}
use Rattle.op_board.specs.OperationTokens.{is_given, value_at}
use Rattle.op_board.proofs.OperationNumbers.{IsOperationNamed, operation_named}
use Rattle.fork_board.specs.ForkTokens.{ForkTokens, fork_moves, fork_ready_as, is_open, standing}
use Rattle.fork_board.specs.LoadGroups.{is_load}
use Rattle.fork_board.proofs.ForkNodes.{load_ready}

-- ---- loads

-- a load, by the number of its node
pub record IsLoadHere (x : OperationNet) (k piece i : ℕ) : Type 0 where
  pub name : operation_node x k ≡ Op piece i
  pub loads : is_load (operation_at x piece i).work ≡ true
  pub exists : piece < (graph_in x.net).nodes
  pub inside : i < operation_count x piece

-- an operation, by the number of its node
pub record IsOperationHere (x : OperationNet) (piece i : ℕ) : Type 0 where
  pub exists : piece < (graph_in x.net).nodes
  pub inside : i < operation_count x piece

pub is_operation_here : (x : OperationNet) (k piece i : ℕ) → k < length (all_operation_nodes x) → operation_node x k ≡ Op piece i → IsOperationHere x piece i
is_operation_here x k piece i below name =
    let named : IsOperationNamed x (Op piece i) = subst (λ a. IsOperationNamed x a) name (operation_named x k below) in
    record { exists = named.exists; inside = named.fits.2 }

regroup : (a b d : Bool) → (a && (b && d)) ≡ ((a && b) && d)
regroup true true d = refl
regroup true false d = refl
regroup false b d = refl

pub load_can : (x : OperationNet) (m : ForkTokens) (k piece i : ℕ) (before given : Bool) → IsLoadHere x k piece i
    → before ≡ list_all (λ line. is_open x line piece i (standing m line)) (needed x piece i)
    → given ≡ (list_all (is_given x m.operations piece) (operation_at x piece i).operands && not (is_some (value_at m.operations k)))
    → (before && given) ≡ (fork_moves x).ready m k
load_can x m k piece i before given here lines values =
    ap (λ b. b && given) lines
    ∙ ap (λ b. list_all (λ line. is_open x line piece i (standing m line)) (needed x piece i) && b) values
    ∙ regroup (list_all (λ line. is_open x line piece i (standing m line)) (needed x piece i)) (list_all (is_given x m.operations piece) (operation_at x piece i).operands) (not (is_some (value_at m.operations k)))
    ∙ sym (ap (fork_ready_as x m k) here.name ∙ load_ready x m k piece i here.loads)
