-- A load is ready exactly where it waits for nothing.
use Rattle.std.proofs.Common.{◌≡◌, ◌<◌, ℕ, ◌==◌, ◌&&◌, true, Option, Some, slice_get, refl, sym, ap, ◌∙◌, subst}
use Rattle.std.specs.List.{list_all}
use Rattle.firing.specs.declared.system.NodeName.{NodeName}
use Rattle.firing.specs.declared.system.NodeName.TheVariants.{Op}
use Rattle.op_board.specs.OperationNets.{OperationNet, needed, operation_node}
use Rattle.op_board.specs.OperationTokens.{OperationTokens}
use Rattle.op_board.proofs.OperationNumbers.{IsOperationNamed, operation_named}
use Rattle.operation_tables.specs.Waits.{node_total}
use Rattle.fork_board.specs.ForkTokens.{fork_moves, is_load_node, is_open, standing}
use Rattle.fork_board.proofs.ForkNodes.{IsLoadNamed, load_named}
use Rattle.read_forks.specs.KeptLoads.{AreKept, opened_of}
use Rattle.read_forks.specs.OpenGroups.{closed_of, marking_by}
use Rattle.read_forks.specs.WaitingLoads.{has_values, is_none_left, waits_for_nothing}
use Rattle.read_forks.specs.declared.waiting.Waiting.{Waiting}
use Rattle.read_forks.proofs.OpenLines.{IsLoadHere, load_can}
use Rattle.read_forks.proofs.OpenLoads.{all_open, none_closed}

pub waits_ready : (x : OperationNet) (m : OperationTokens) (w : Waiting) → AreKept x m w → (j : ℕ) → j < node_total x → is_load_node x (operation_node x j) ≡ true → waits_for_nothing x m w.closed.items j ≡ (fork_moves x).ready (marking_by x m (opened_of x w)) j
waits_ready x m w kept j below loads =
    ap (λ (o : Option ℕ). is_none_left o && has_values x m j (operation_node x j)) at
    ∙ ap (λ b. b && has_values x m j (operation_node x j)) lines
    ∙ ap (λ (n : NodeName). list_all (λ line. is_open x line l.piece l.number (standing (marking_by x m (opened_of x w)) line)) (needed x l.piece l.number) && has_values x m j n) l.is
    ∙ load_can x (marking_by x m (opened_of x w)) j l.piece l.number
    (list_all (λ line. is_open x line l.piece l.number (standing (marking_by x m (opened_of x w)) line)) (needed x l.piece l.number))
    (has_values x m j (Op l.piece l.number)) here refl refl
  where
    l : IsLoadNamed x (operation_node x j)
    l = load_named x (operation_node x j) loads

    here : IsLoadHere x j l.piece l.number
    here =
        let named : IsOperationNamed x (Op l.piece l.number) = subst (λ a. IsOperationNamed x a) l.is (operation_named x j below) in
        record { name = l.is; loads = l.loads; exists = named.exists; inside = named.fits.2 }

    at : slice_get w.closed.items j ≡ Some (closed_of x (opened_of x w) (Op l.piece l.number))
    at = kept.closed j below loads ∙ ap (λ (n : NodeName). Some (closed_of x (opened_of x w) n)) l.is

    lines : (closed_of x (opened_of x w) (Op l.piece l.number) == 0) ≡ list_all (λ line. is_open x line l.piece l.number (standing (marking_by x m (opened_of x w)) line)) (needed x l.piece l.number)
    lines =
        none_closed (λ line. opened_of x w line l.piece l.number) (needed x l.piece l.number)
        ∙ sym (all_open x m (opened_of x w) kept.near l.piece l.number (needed x l.piece l.number))
