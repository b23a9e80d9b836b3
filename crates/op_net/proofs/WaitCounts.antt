-- Nodes are ready that wait for nothing.
use Rattle.std.proofs.Common.{◌≡◌, ⊎_elim, ℕ, ◌+◌, ◌&&◌, ◌==◌, Bool, true, false, not, is_some, if◌then◌else◌, List, [], ◌∷◌, Option, refl, sym, ap, ◌∙◌, arith}
use Rattle.std.specs.List.{list_all}
use Rattle.std.proofs.lemmas.Bool.{cases_eq, eq-eqb, ne_eqb}
use Rattle.op_table.specs.declared.Trap.{Trap}
use Rattle.f77_tree.specs.Execution.{Memory}
use Rattle.firing.specs.declared.system.NodeName.{NodeName}
use Rattle.firing.specs.declared.system.NodeName.TheVariants.{Act, Merge, Op, Switch}
use Rattle.net_board.specs.Nodes.{switches}
use Rattle.net_board.specs.Tokens.{is_before, left_for}
use Rattle.net_board.specs.WokenNodes.{switch_number}
use Rattle.op_board.specs.Operations.{Known, From, Operand, Work, is_decision}
use Rattle.op_board.specs.OperationNets.{OperationNet, needed, operation_at}
use Rattle.op_board.specs.OperationTokens.{OperationTokens, are_clear, has_room, is_given, ready_as, stands_before, value_at}
use Rattle.operation_tables.specs.Waits.{failing, one_if, waits_as, waits_for_room}
use Rattle.operation_places.proofs.FailingLists.{failing_same}

sum_zero : (a b : ℕ) → (a + b == 0) ≡ ((a == 0) && (b == 0))
sum_zero a b = ⊎_elim
    (λ (e : a ≡ 0). ⊎_elim
    (λ (f : b ≡ 0). eq-eqb (a + b) 0 (omega (arith, e, f)) ∙ sym (ap (λ c. c && (b == 0)) (eq-eqb a 0 e) ∙ eq-eqb b 0 f))
    (λ (d : b ≡ 0 → ⊥). ne_eqb (a + b) 0 (λ h. d (omega (arith, h))) ∙ sym (ap (λ c. c && (b == 0)) (eq-eqb a 0 e) ∙ ne_eqb b 0 d))
    (cases_eq b 0))
    (λ (d : a ≡ 0 → ⊥). ne_eqb (a + b) 0 (λ h. d (omega (arith, h))) ∙ sym (ap (λ c. c && (b == 0)) (ne_eqb a 0 d)))
    (cases_eq a 0)

two_zero : (a b : ℕ) (p q : Bool) → (a == 0) ≡ p → (b == 0) ≡ q → (a + b == 0) ≡ (p && q)
two_zero a b p q first second = sum_zero a b ∙ ap (λ c. c && (b == 0)) first ∙ ap (λ c. p && c) second

and_four : (p q r s : Bool) → (p && (q && (r && s))) ≡ (p && q && r && s)
and_four true true true s = refl
and_four true true false s = refl
and_four true false r s = refl
and_four false q r s = refl

four_zero : (a b c d : ℕ) (p q r s : Bool) → (a == 0) ≡ p → (b == 0) ≡ q → (c == 0) ≡ r → (d == 0) ≡ s → (a + (b + (c + d)) == 0) ≡ (p && q && r && s)
four_zero a b c d p q r s is_p is_q is_r is_s =
    two_zero a (b + (c + d)) p (q && (r && s)) is_p (two_zero b (c + d) q (r && s) is_q (two_zero c d r s is_r is_s)) ∙ and_four p q r s

one_not : (b : Bool) → (one_if (not b) == 0) ≡ b
one_not true = refl
one_not false = refl

one_for : (b : Bool) → (one_if b == 0) ≡ not b
one_for true = refl
one_for false = refl

none_fails : {A : Type 0} (p : A → Bool) (xs : List A) → (failing p xs == 0) ≡ list_all p xs
none_fails p [] = refl
none_fails p (x ∷ xs) = sum_zero (one_if (not (p x))) (failing p xs) ∙ ap (λ b. b && (failing p xs == 0)) (one_not (p x)) ∙ ap (λ b. p x && b) (none_fails p xs)

module _ (x : OperationNet) (m : OperationTokens) where
  room_waits : (piece : ℕ) (work : Work) → (waits_for_room x m piece work == 0) ≡ has_room x m piece work
  room_waits piece work = by (is_decision work)
    where
      by : (b : Bool) → ((if b then failing (λ switch. not (is_some (left_for m.tokens switch))) (switches x.net piece) else 0) == 0) ≡ (if b then are_clear x m piece else true)
      by true = none_fails (λ switch. not (is_some (left_for m.tokens switch))) (switches x.net piece)
      by false = refl

  -- a node is ready where it waits for nothing
  pub ready_waits : (k : ℕ) (name : NodeName) → ready_as x m k name ≡ (waits_as x m k name == 0)
  ready_waits k (Op piece i) =
      sym (four_zero (failing (stands_before x m piece i) (needed x piece i)) (failing (is_given x m piece) (operation_at x piece i).operands) (one_if (is_some (value_at m k))) (waits_for_room x m piece (operation_at x piece i).work)
      (list_all (stands_before x m piece i) (needed x piece i)) (list_all (is_given x m piece) (operation_at x piece i).operands) (not (is_some (value_at m k))) (has_room x m piece (operation_at x piece i).work)
      (none_fails (stands_before x m piece i) (needed x piece i)) (none_fails (is_given x m piece) (operation_at x piece i).operands) (one_for (is_some (value_at m k))) (room_waits piece (operation_at x piece i).work))
  ready_waits k (Switch piece line) =
      sym (two_zero (one_if (not (is_before x.net m.tokens piece line))) (one_if (not (is_some (left_for m.tokens (switch_number x.net piece line))))) (is_before x.net m.tokens piece line) (is_some (left_for m.tokens (switch_number x.net piece line)))
      (one_not (is_before x.net m.tokens piece line)) (one_not (is_some (left_for m.tokens (switch_number x.net piece line)))))
  ready_waits k (Merge piece line) = sym (one_not (is_before x.net m.tokens piece line))
  ready_waits k (Act piece) = refl

-- ---- memory and trap

module _ (x : OperationNet) (m : OperationTokens) (memory : Memory) (trap : Option (Trap × ℕ)) where
  abbrev with_memory : OperationTokens
  with_memory = record m { tokens = record m.tokens { memory = memory; trap = trap } }

  operands_alike : (piece : ℕ) (operands : List Operand) → failing (is_given x with_memory piece) operands ≡ failing (is_given x m piece) operands
  operands_alike piece operands = failing_same (is_given x with_memory piece) (is_given x m piece) operands (λ o among. given o)
    where
      given : (o : Operand) → is_given x with_memory piece o ≡ is_given x m piece o
      given (Known z) = refl
      given (From number) = refl

  -- for how much a node waits doesn't depend on the words
  pub waits_alike : (k : ℕ) (name : NodeName) → waits_as x with_memory k name ≡ waits_as x m k name
  waits_alike k (Op piece i) = let operands = operands_alike piece (operation_at x piece i).operands in omega (arith, operands)
  waits_alike k (Switch piece line) = refl
  waits_alike k (Merge piece line) = refl
  waits_alike k (Act piece) = refl

  pub ready_alike : (k : ℕ) (name : NodeName) → ready_as x with_memory k name ≡ (waits_as x m k name == 0)
  ready_alike k name = ready_waits x with_memory k name ∙ ap (λ n. n == 0) (waits_alike k name)
