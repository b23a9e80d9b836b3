-- Each firing of the own order of a net of operations is due in its turn.
use Rattle.std.proofs.Common.{◌≡◌, ◌<◌, ◌≤◌, ℕ, zero, suc, ◌+◌, ◌-◌, ◌||◌, nat_lt, Bool, false, if◌then◌else◌, List, [], ◌∷◌, ◌++◌, Some, None, refl, sym, ap, ◌∙◌, subst, arith, eq-eqb, lt-ltb}
use Rattle.std.proofs.lemmas.Bool.{or_from, or_left}
use Rattle.std.specs.List.{range_with_len}
use Rattle.cfg_build.specs.Joined.{is_end}
use Rattle.cfg_build.specs.Passes.{out}
use Rattle.firing.specs.Control.{Course}
use Rattle.firing.specs.Moves.{Moves}
use Rattle.firing.specs.Orders.{after}
use Rattle.firing.specs.SourceOrder.{IsDueOrder}
use Rattle.net_board.specs.declared.control.Control.{Control}
use Rattle.net_board.specs.ControlCourse.{arrived}
use Rattle.net_board.specs.Nodes.{graph_in, kind_in, is_acting}
use Rattle.net_board.proofs.DueLockstep.{place_after}
use Rattle.net_board.proofs.OrderJoins.{range_more}
use Rattle.op_board.specs.OperationCourse.{control_after, decided, due_operation, edge_taken, operation_course}
use Rattle.op_board.specs.OperationNets.{OperationNet, first_operation, operation_count, operation_node_count}
use Rattle.op_board.specs.OperationTokens.{OperationTokens, operation_moves}
use Rattle.op_board.proofs.OperationControl.{at_place, idle_decided, is_not}
use Rattle.op_board.proofs.PieceNodes.{no_operations}

-- ---- places after firings

module _ {M P : Type 0} (s : Moves M) (course : Course M P) where
  pub due_join : (m : M) (p : P) (ks js : List ℕ) → IsDueOrder s course m p ks → IsDueOrder s course (after s m ks) (place_after s course m p ks) js → IsDueOrder s course m p (ks ++ js)
  due_join m p [] js first next = next
  due_join m p (k ∷ ks) js first next = (first.0, due_join (s.fired m k) (course.moved m p) ks js first.1 next)

  pub place_join : (m : M) (p : P) (ks js : List ℕ) → place_after s course m p (ks ++ js) ≡ place_after s course (after s m ks) (place_after s course m p ks) js
  place_join m p [] js = refl
  place_join m p (k ∷ ks) js = place_join (s.fired m k) (course.moved m p) ks js

module _ (x : OperationNet) where
  -- ---- at a piece

  module _ (piece : ℕ) (start : OperationTokens) (left : ℕ) where
    -- the edge that is told after so many firings, where this one was told before
    pub leaves_after : (i : ℕ) → ℕ
    leaves_after zero = left
    leaves_after (suc i) = edge_taken x (after (operation_moves x) start (range_with_len (first_operation x piece) i)) (at_place piece i (leaves_after i))

    pub record IsPartDue (i : ℕ) : Type 0 where
      pub due : IsDueOrder (operation_moves x) (operation_course x) start (at_place piece 0 left) (range_with_len (first_operation x piece) i)
      pub place : place_after (operation_moves x) (operation_course x) start (at_place piece 0 left) (range_with_len (first_operation x piece) i) ≡ at_place piece i (leaves_after i)

    due_here : (i leaves : ℕ) → i < operation_node_count x piece → due_operation x (at_place piece i leaves) ≡ Some (first_operation x piece + i)
    due_here i leaves low = ap (λ (b : Bool). if b then Some (first_operation x piece + i) else None) (lt-ltb i (operation_node_count x piece) low)

    due_more : (i : ℕ) → i < operation_node_count x piece → IsPartDue i → IsDueOrder (operation_moves x) (operation_course x) start (at_place piece 0 left) (range_with_len (first_operation x piece) (suc i))
    due_more i low part =
        let ks = range_with_len (first_operation x piece) i in
        subst (IsDueOrder (operation_moves x) (operation_course x) start (at_place piece 0 left)) (sym (range_more (first_operation x piece) i))
        (due_join (operation_moves x) (operation_course x) start (at_place piece 0 left) ks ((first_operation x piece + i) ∷ []) part.due
        (subst (λ (p : Control). IsDueOrder (operation_moves x) (operation_course x) (after (operation_moves x) start ks) p ((first_operation x piece + i) ∷ [])) (sym part.place) (due_here i (leaves_after i) low, tt)))

    place_more : (i : ℕ) → i < operation_node_count x piece → IsPartDue i → place_after (operation_moves x) (operation_course x) start (at_place piece 0 left) (range_with_len (first_operation x piece) (suc i)) ≡ (if nat_lt (suc i) (operation_node_count x piece) || is_end (kind_in x.net piece) then at_place piece (suc i) (leaves_after (suc i)) else arrived x.net (leaves_after (suc i)))
    unfolding leaves_after
    place_more i low part =
        let ks = range_with_len (first_operation x piece) i in
        ap (place_after (operation_moves x) (operation_course x) start (at_place piece 0 left)) (range_more (first_operation x piece) i)
        ∙ place_join (operation_moves x) (operation_course x) start (at_place piece 0 left) ks ((first_operation x piece + i) ∷ [])
        ∙ ap (λ (p : Control). control_after x (after (operation_moves x) start ks) p) part.place

    part_due : (i : ℕ) → i < operation_node_count x piece → IsPartDue i
    unfolding leaves_after
    part_due zero low = record { due = tt; place = refl }
    part_due (suc i) low = on (part_due i (omega (arith, low)))
      where
        on : IsPartDue i → IsPartDue (suc i)
        on part = record {
          due = due_more i (omega (arith, low)) part;
          place = place_more i (omega (arith, low)) part
              ∙ ap (λ (b : Bool). if b then at_place piece (suc i) (leaves_after (suc i)) else arrived x.net (leaves_after (suc i))) (or_left (nat_lt (suc i) (operation_node_count x piece)) (is_end (kind_in x.net piece)) (lt-ltb (suc i) (operation_node_count x piece) low));
        }

    pub so_many_due : (i : ℕ) → i ≤ operation_node_count x piece → IsDueOrder (operation_moves x) (operation_course x) start (at_place piece 0 left) (range_with_len (first_operation x piece) i)
    so_many_due zero few = tt
    so_many_due (suc i) few = due_more i (omega (arith, few)) (part_due i (omega (arith, few)))

    pub all_placed : (count : ℕ) → count ≡ operation_node_count x piece → 0 < count → is_end (kind_in x.net piece) ≡ false → place_after (operation_moves x) (operation_course x) start (at_place piece 0 left) (range_with_len (first_operation x piece) count) ≡ arrived x.net (leaves_after count)
    all_placed zero is some not_end = absurd (omega (arith, some))
    all_placed (suc i) is some not_end =
        place_more i (omega (arith, is)) (part_due i (omega (arith, is)))
        ∙ ap (λ (b : Bool). if b then at_place piece (suc i) (leaves_after (suc i)) else arrived x.net (leaves_after (suc i))) (or_from (nat_lt (suc i) (operation_node_count x piece)) (is_end (kind_in x.net piece)) (not_less (suc i) (operation_node_count x piece) is) not_end)
      where
        not_less : (a b : ℕ) → a ≡ b → nat_lt a b ≡ false
        not_less a b same = grind (arith, same)

    -- ---- by which edge

    told_at : (i leaves : ℕ) → i ≡ operation_count x piece - 1 → edge_taken x (after (operation_moves x) start (range_with_len (first_operation x piece) i)) (at_place piece i leaves) ≡ decided x (after (operation_moves x) start (range_with_len (first_operation x piece) i)) piece i
    told_at i leaves same = ap (λ (b : Bool). if b then decided x (after (operation_moves x) start (range_with_len (first_operation x piece) i)) piece i else leaves) (eq-eqb i (operation_count x piece - 1) same)

    told_before : (i leaves : ℕ) → (i ≡ operation_count x piece - 1 → ⊥) → edge_taken x (after (operation_moves x) start (range_with_len (first_operation x piece) i)) (at_place piece i leaves) ≡ leaves
    told_before i leaves differ = ap (λ (b : Bool). if b then decided x (after (operation_moves x) start (range_with_len (first_operation x piece) i)) piece i else leaves) (is_not i (operation_count x piece - 1) differ)

    -- where the last operation tells an edge, it stays told
    pub stays_told : (edge : ℕ) → 0 < operation_count x piece → ((i : ℕ) → suc i ≡ operation_count x piece → decided x (after (operation_moves x) start (range_with_len (first_operation x piece) i)) piece i ≡ edge) → (more i : ℕ) → i ≡ more + operation_count x piece → leaves_after i ≡ edge
    unfolding leaves_after
    stays_told edge some tells zero zero is = absurd (omega (arith, some, is))
    stays_told edge some tells zero (suc i) is = told_at i (leaves_after i) (omega (arith, is)) ∙ tells i (omega (arith, is))
    stays_told edge some tells (suc more) zero is = absurd (omega (arith, some, is))
    stays_told edge some tells (suc more) (suc i) is = told_before i (leaves_after i) (λ h. omega (arith, some, is, h)) ∙ stays_told edge some tells more i (omega (arith, is))

    pub idle_told : is_acting (kind_in x.net piece) ≡ false → (i : ℕ) → 0 < i → leaves_after i ≡ out (graph_in x.net) piece 0
    unfolding leaves_after
    idle_told idle zero some = absurd (omega (arith, some))
    idle_told idle (suc zero) some = let none = no_operations x piece idle in told_at 0 (leaves_after 0) (omega (arith, none)) ∙ idle_decided x (after (operation_moves x) start (range_with_len (first_operation x piece) 0)) piece 0 idle
    idle_told idle (suc (suc i)) some = let none = no_operations x piece idle in told_before (suc i) (leaves_after (suc i)) (λ h. omega (arith, none, h)) ∙ idle_told idle (suc i) (omega arith)
