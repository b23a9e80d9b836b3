-- What is told of a net after a part of a firing, said of the net before it, which is the same.
use Rattle.std.proofs.Common.{◌≡◌, ℕ, Option, ap, ◌∙◌, subst}
use Rattle.firing.specs.Control.{steered}
use Rattle.net_board.specs.declared.control.Control.{Control}
use Rattle.op_board.specs.OperationCourse.{operation_course}
use Rattle.op_board.specs.OperationNets.{OperationNet}
use Rattle.op_board.specs.OperationTokens.{OperationTokens}
use Rattle.operation_places.specs.Steering.{LeadsBy}

module _ {x1 x0 : OperationNet} (same : x1 ≡ x0) where
  pub place_told : (c1 c0 new : Option Control) (k edge : ℕ) → c1 ≡ c0 → ((m : OperationTokens) → LeadsBy x1 m k edge → new ≡ steered (operation_course x1) m c1 k) → (m : OperationTokens) → LeadsBy x0 m k edge → new ≡ steered (operation_course x0) m c0 k
  place_told c1 c0 new k edge control tells =
      subst (λ (x : OperationNet). (m : OperationTokens) → LeadsBy x m k edge → new ≡ steered (operation_course x) m c0 k) same
      (subst (λ (c : Option Control). (m : OperationTokens) → LeadsBy x1 m k edge → new ≡ steered (operation_course x1) m c k) control tells)

  pub marking_told : (after : OperationNet → OperationTokens → OperationTokens) (new m1 m0 : OperationTokens) → new ≡ after x1 m1 → m1 ≡ m0 → new ≡ after x0 m0
  marking_told after new m1 m0 is marking = is ∙ ap (λ (x : OperationNet). after x m1) same ∙ ap (after x0) marking
