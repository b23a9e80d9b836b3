-- The own order of the game with groups of loads is that of a net of operations.
use Rattle.std.proofs.Common.{◌≡◌, ℕ, Option, Some, None, refl, ap, ◌∙◌, subst}
use Rattle.firing.specs.Control.{due_at, steered}
use Rattle.net_board.specs.declared.control.Control.{Control}
use Rattle.op_board.specs.OperationCourse.{operation_course}
use Rattle.op_board.specs.OperationNets.{OperationNet}
use Rattle.op_board.specs.OperationTokens.{OperationTokens}
use Rattle.operation_places.specs.Steering.{LeadsBy}
use Rattle.fork_board.specs.ForkTokens.{ForkTokens, fork_course}

pub due_there : (x : OperationNet) (m : ForkTokens) (c : Option Control) → due_at (operation_course x) m.operations c ≡ due_at (fork_course x) m c
due_there x m None = refl
due_there x m (Some p) = refl

pub steered_there : (x : OperationNet) (m : ForkTokens) (c : Option Control) (k : ℕ) → steered (operation_course x) m.operations c k ≡ steered (fork_course x) m c k
steered_there x m None k = refl
steered_there x m (Some p) k = refl

-- where control goes, told by a net that hasn't changed
pub place_told : (x1 x0 : OperationNet) (m : ForkTokens) (c1 c0 new : Option Control) (k edge : ℕ) → x1 ≡ x0 → c1 ≡ c0 → ((n : OperationTokens) → LeadsBy x1 n k edge → new ≡ steered (operation_course x1) n c1 k) → LeadsBy x0 m.operations k edge → new ≡ steered (fork_course x0) m c0 k
place_told x1 x0 m c1 c0 new k edge same control tells leads =
    let told : (x : OperationNet) → x1 ≡ x → LeadsBy x m.operations k edge → new ≡ steered (operation_course x) m.operations c1 k =
    λ x e. subst (λ (y : OperationNet). LeadsBy y m.operations k edge → new ≡ steered (operation_course y) m.operations c1 k) e (tells m.operations) in
    told x0 same leads ∙ ap (λ (c : Option Control). steered (operation_course x0) m.operations c k) control ∙ steered_there x0 m c0 k
