-- The control after a firing, and the node that is due at its place.
use Rattle.std.proofs.Common.{◌≡◌, ◌≢◌, ℕ, false, if◌then◌else◌, Option, Some, None, is_some, refl, sym, ap, ◌∙◌}
use Rattle.std.proofs.lemmas.Bool.{eqb-true, eq-eqb}
use Rattle.firing.specs.Control.{Course, IsInStep, KeepsStep, due_at, due_node, is_node, steered}
use Rattle.firing.specs.Moves.{Moves, CanFire}
use Rattle.firing.specs.Orders.{IsOver}
use Rattle.firing.specs.SourceOrder.{IsSourceOrder}
use Rattle.std.proofs.Common.{arith}

module _ {M P : Type 0} (course : Course M P) where
  -- control moves on where the node is due
  pub moves_on : (m : M) (p : P) (k : ℕ) → course.due m p ≡ Some k → steered course m (Some p) k ≡ Some (course.moved m p)
  moves_on m p k is = ap (λ due. if is_node due k then Some (course.moved m p) else None) is ∙ ap (λ b. if b then Some (course.moved m p) else None) (eq-eqb k k refl)

  pub control_stays : (m : M) (c : Option P) (k : ℕ) → due_at course m c ≡ Some k → steered course m c k ≢ None
  control_stays m None k is = absurd cc
  control_stays m (Some p) k is = λ lost. let e : Some (course.moved m p) ≡ None = sym (moves_on m p k is) ∙ lost in absurd cc

  pub due_here : (s : Moves M) (m : M) (c : Option P) (k : ℕ) → due_at course m c ≡ Some k → due_node s course m c ≡ Some k
  due_here s m None k is = absurd cc
  due_here s m (Some p) k is = is

module _ {M P : Type 0} (s : Moves M) (course : Course M P) (in_step : M → P → Type 0) where
  moved_by : (m : M) (p : P) (k : ℕ) (due : Option ℕ) → (due ≡ Some k → s.trap (s.fired m k) ≡ None → in_step (s.fired m k) (course.moved m p)) → IsInStep s in_step (s.fired m k) (if is_node due k then Some (course.moved m p) else None)
  moved_by m p k None fires = tt
  moved_by m p k (Some j) fires = grind (arith, eqb-true)

module _ {M P : Type 0} {sound : M → Type 0} {s : Moves M} {course : Course M P} {in_step : M → P → Type 0} where
  -- control stays in step, or is lost
  pub in_step_next : KeepsStep sound s course in_step → (m : M) (c : Option P) (k : ℕ) → sound m → IsInStep s in_step m c → CanFire s m k → IsInStep s in_step (s.fired m k) (steered course m c k)
  in_step_next keeps m None k is_sound step can = tt
  in_step_next keeps m (Some p) k is_sound step can = moved_by s course in_step m p k (course.due m p) (λ is quiet. keeps.kept m p k is_sound (step can.going) can is quiet)

  -- ---- with control

  pub due_fires : IsSourceOrder sound s course in_step → (m : M) (c : Option P) (k : ℕ) → sound m → IsInStep s in_step m c → s.trap m ≡ None → due_at course m c ≡ Some k → CanFire s m k
  due_fires order m None k is_sound step none is = absurd cc
  due_fires order m (Some p) k is_sound step none is = order.fires m p k is_sound (step none) none is

  pub none_due : IsSourceOrder sound s course in_step → (m : M) (c : Option P) → c ≢ None → sound m → IsInStep s in_step m c → s.trap m ≡ None → due_at course m c ≡ None → IsOver s m
  none_due order m None some is_sound step none is = absurd (some refl)
  none_due order m (Some p) some is_sound step none is = order.over m p is_sound (step none) none is

pub lost_control : {P : Type 0} (c : Option P) → false ≡ is_some c → c ≡ None
lost_control None is = refl
lost_control (Some p) is = absurd cc

-- where a node is due, control has a place
pub due_control : {M P : Type 0} (course : Course M P) (m : M) (c : Option P) → due_at course m c ≢ None → c ≢ None
due_control course m c some = λ lost. some (ap (due_at course m) lost)

-- the node that a system with an equal net tells
pub due_told : {N M P : Type 0} (course : N → Course M P) {net other : N} (m : M) (c : Option P) {told : Option ℕ} → other ≡ net → told ≡ due_at (course other) m c → due_at (course net) m c ≡ told
due_told course {net} {other} m c same is = ap (λ n. due_at (course n) m c) (sym same) ∙ sym is
