-- The marks of loads after a firing of which the loads are tested that it can have made ready or unready by values.
use Rattle.std.proofs.Common.{◌≡◌, ◌<◌, ℕ, ◌&&◌, Bool, true, false, List, length, refl, sym, ap, ◌∙◌, subst, slice_get}
use Rattle.firing.specs.Moves.{CanFire}
use Rattle.firing.specs.ReadySet.{has}
use Rattle.op_board.specs.OperationNets.{OperationNet, operation_node}
use Rattle.op_board.specs.OperationTokens.{OperationTokens}
use Rattle.operation_tables.specs.Waits.{node_total}
use Rattle.fork_board.specs.ForkTokens.{ForkTokens, fork_moves, is_load_node}
use Rattle.fork_board.specs.SoundForks.{ForksCanCome}
use Rattle.read_forks.specs.Retests.{takes}
use Rattle.read_forks.specs.WaitingLoads.{KeepsMarks, has_values, is_none_left, waits_for_nothing}
use Rattle.read_forks.proofs.FarValues.{far_values}

module _ (x : OperationNet) (t : ForkTokens) (comes : ForksCanCome x t) (k : ℕ) (can : CanFire (fork_moves x) t k) (n : OperationTokens) (is : n ≡ ((fork_moves x).fired t k).operations) where
  -- a load waits for the same values where neither takes the value of the other node
  pub same_values : (closed : List ℕ) (j : ℕ) → j < node_total x → is_load_node x (operation_node x j) ≡ true → (k ≡ j → ⊥) → takes x (operation_node x j) k ≡ false → takes x (operation_node x k) j ≡ false → waits_for_nothing x n closed j ≡ waits_for_nothing x t.operations closed j
  same_values closed j below loads differ takes_not gives_not =
      ap (λ b. is_none_left (slice_get closed j) && b)
      (ap (λ (o : OperationTokens). has_values x o j (operation_node x j)) is ∙ far_values x t comes k can j below loads differ takes_not gives_not)

  -- other lines are opened, and the loads are tested whose values the node takes, and then the one that takes its value
  pub marks_then : (other : is_load_node x (operation_node x k) ≡ false) (old new : List ℕ) (before led opened given taken : List Bool) → length led ≡ length before
      → ((j : ℕ) → j < node_total x → is_load_node x (operation_node x j) ≡ true → has led j ≡ has before j)
      → KeepsMarks x n old new led opened → KeepsMarks x n new new opened given
      → ((j : ℕ) → j < node_total x → j < length opened → is_load_node x (operation_node x j) ≡ true → takes x (operation_node x k) j ≡ true → has given j ≡ waits_for_nothing x n new j)
      → KeepsMarks x n new new given taken
      → ((j : ℕ) → j < node_total x → j < length given → is_load_node x (operation_node x j) ≡ true → takes x (operation_node x j) k ≡ true → has taken j ≡ waits_for_nothing x n new j)
      → (j : ℕ) → j < node_total x → j < length before → is_load_node x (operation_node x j) ≡ true → has before j ≡ waits_for_nothing x t.operations old j → has taken j ≡ waits_for_nothing x n new j
  marks_then other old new before led opened given taken room same lines givers gave takers took j below inside loads right = by (takes x (operation_node x j) k) refl (takes x (operation_node x k) j) refl
    where
      differ : k ≡ j → ⊥
      differ e = let f : true ≡ false = sym loads ∙ ap (λ i. is_load_node x (operation_node x i)) (sym e) ∙ other in cc

      in_led : j < length led
      in_led = subst (λ (i : ℕ). j < i) (sym room) inside

      in_opened : j < length opened
      in_opened = subst (λ (i : ℕ). j < i) (sym lines.room) in_led

      in_given : j < length given
      in_given = subst (λ (i : ℕ). j < i) (sym givers.room) in_opened

      by : (b : Bool) → takes x (operation_node x j) k ≡ b → (c : Bool) → takes x (operation_node x k) j ≡ c → has taken j ≡ waits_for_nothing x n new j
      by true took_it c is_c = took j below in_given loads took_it
      by false not true gave_it = takers.marks j below in_given loads (gave j below in_opened loads gave_it)
      by false not false gives_not =
          takers.marks j below in_given loads
          (givers.marks j below in_opened loads
          (lines.marks j below in_led loads
          (same j below loads ∙ right ∙ sym (same_values old j below loads differ not gives_not))))
