-- The value of an operation goes to one node.
use Rattle.std.proofs.Common.{◌≡◌, ◌<◌, ◌≤◌, ◌⊎◌, inl, inr, ⊎_elim, ℕ, zero, suc, ◌+◌, ◌==◌, Bool, List, [], ◌∷◌, Some, slice_get, refl, sym, ap, ◌∙◌, subst, arith}
use Rattle.std.proofs.lemmas.Bool.{cases_eq, eq-eqb, ne_eqb}
use Rattle.dep_routing.specs.Touches.{exec_kind}
use Rattle.firing.specs.declared.system.NodeName.{NodeName}
use Rattle.firing.specs.declared.system.NodeName.TheVariants.{Act, Merge, Switch, Op}
use Rattle.net_board.specs.Nodes.{graph_in, kind_in}
use Rattle.op_board.specs.OperationLists.{takes_by, takes_of, takes_one}
use Rattle.op_board.specs.OperationNets.{OperationNet, first_operation, operation_at, operation_count, operation_node, operations_at}
use Rattle.op_board.specs.OperationTokens.{givers}
use Rattle.op_board.specs.Operations.{Operand, Known, From, Operation}
use Rattle.op_board.proofs.OperationTakers.{one_taker}
use Rattle.op_board.proofs.OperationsApart.{operation_get}
use Rattle.op_board.proofs.ValueTaking.{taken_later, taken_once, takes_one_other, takes_one_same}
use Rattle.operation_tables.specs.OperationRows.{IsTaker}
use Rattle.operation_tables.specs.Waits.{IsNodeAfter, node_total, one_if, operands_from, takes_from}
use Rattle.operation_tables.proofs.NodeNames.{IsOperationAt, operation_at_node, operation_name_at}

pub some_more : (other number more : ℕ) → 0 < more → 0 < takes_one other number more
some_more zero zero more some = omega arith
some_more zero (suc n) more some = some
some_more (suc o) zero more some = some
some_more (suc o) (suc n) more some = some_more o n more some

pub own_one : (number more : ℕ) → 0 < takes_one number number more
own_one number more = let e = takes_one_same number more in omega (arith, e)

-- an operation takes a value no more often than all operations do
pub no_more : (ops : List Operation) (i number : ℕ) (op : Operation) → slice_get ops i ≡ Some op → takes_by op.operands number ≤ takes_of ops number
no_more [] i number op at = absurd cc
no_more (first ∷ ops) zero number op at =
    let same : first ≡ op = cc in
    subst (λ (o : Operation). takes_by o.operands number ≤ takes_by first.operands number + takes_of ops number) same (omega arith)
no_more (first ∷ ops) (suc i) number op at = let more = no_more ops i number op at in omega (arith, more)

none_or_some : (n : ℕ) → (n ≡ 0) ⊎ (0 < n)
none_or_some zero = inl refl
none_or_some (suc n) = inr (omega arith)

module _ (x : OperationNet) where
  -- ---- operands

  one_operand : (first number i more : ℕ) → one_if (first + number == first + i) + more ≡ takes_one number i more
  one_operand first number i more = ⊎_elim
      (λ (e : number ≡ i). ap (λ (b : Bool). one_if b + more) (eq-eqb (first + number) (first + i) (omega (arith, e))) ∙ subst (λ (n : ℕ). 1 + more ≡ takes_one number n more) e (same number))
      (λ (ne : number ≡ i → ⊥). ap (λ (b : Bool). one_if b + more) (ne_eqb (first + number) (first + i) (λ e. ne (omega (arith, e)))) ∙ other ne)
      (cases_eq number i)
    where
      same : (n : ℕ) → 1 + more ≡ takes_one n n more
      same n = let e = takes_one_same n more in omega (arith, e)

      other : (number ≡ i → ⊥) → 0 + more ≡ takes_one number i more
      other ne = let e = takes_one_other number i more ne in omega (arith, e)

  own_operands : (piece i : ℕ) (operands : List Operand) → operands_from (givers x piece operands) (first_operation x piece + i) ≡ takes_by operands i
  own_operands piece i [] = refl
  own_operands piece i (Known z ∷ operands) = own_operands piece i operands
  own_operands piece i (From number ∷ operands) =
      ap (λ (more : ℕ). one_if (first_operation x piece + number == first_operation x piece + i) + more) (own_operands piece i operands)
      ∙ one_operand (first_operation x piece) number i (takes_by operands i)

  no_operands : (piece k : ℕ) (operands : List Operand) → ((number : ℕ) → 0 < takes_by operands number → first_operation x piece + number ≡ k → ⊥) → operands_from (givers x piece operands) k ≡ 0
  no_operands piece k [] none = refl
  no_operands piece k (Known z ∷ operands) none = no_operands piece k operands none
  no_operands piece k (From number ∷ operands) none =
      ap (λ (b : Bool). one_if b + operands_from (givers x piece operands) k) (ne_eqb (first_operation x piece + number) k (none number (own_one number (takes_by operands number))))
      ∙ ap (λ (more : ℕ). 0 + more) (no_operands piece k operands (λ n some. none n (some_more number n (takes_by operands n) some)))

  -- ---- operations

  -- an operation takes values of earlier ones alone
  pub giver_before : (piece i number : ℕ) → i < operation_count x piece → 0 < takes_by (operation_at x piece i).operands number → number < i
  giver_before piece i number inside takes = taken_later x.net.program.names (kind_in x.net piece) (exec_kind x.net.program piece) i number (operation_at x piece i) (operation_get x piece i inside) takes

  pub taker_later : (piece i taker : ℕ) → IsTaker x piece i taker → i < taker
  taker_later piece i taker is = giver_before piece taker i is.inside is.takes

  module _ (piece i taker : ℕ) (exists : piece < (graph_in x.net).nodes) (is : IsTaker x piece i taker) where
    once : takes_of (operations_at x piece) i ≤ 1
    once = taken_once x.net.program.names (kind_in x.net piece) (exec_kind x.net.program piece) i

    inside : i < operation_count x piece
    inside = let later = taker_later piece i taker is in let low = is.inside in omega (arith, later, low)

    taken_by : (a : ℕ) → a < operation_count x piece → takes_by (operation_at x piece a).operands i ≡ one_if (first_operation x piece + a == first_operation x piece + taker)
    taken_by a low = ⊎_elim
        (λ (e : a ≡ taker).
        let some : 0 < takes_by (operation_at x piece a).operands i = subst (λ (n : ℕ). 0 < takes_by (operation_at x piece n).operands i) (sym e) is.takes in
        let most = no_more (operations_at x piece) a i (operation_at x piece a) (operation_get x piece a low) in
        let all = once in
        let one : takes_by (operation_at x piece a).operands i ≡ 1 = omega (arith, some, most, all) in
        one ∙ sym (ap one_if (eq-eqb (first_operation x piece + a) (first_operation x piece + taker) (omega (arith, e)))))
        (λ (ne : a ≡ taker → ⊥). none ne (none_or_some (takes_by (operation_at x piece a).operands i)) ∙ sym (ap one_if (ne_eqb (first_operation x piece + a) (first_operation x piece + taker) (λ e. ne (omega (arith, e))))))
        (cases_eq a taker)
      where
        none : (a ≡ taker → ⊥) → (takes_by (operation_at x piece a).operands i ≡ 0) ⊎ (0 < takes_by (operation_at x piece a).operands i) → takes_by (operation_at x piece a).operands i ≡ 0
        none ne (inl e) = e
        none ne (inr some) = absurd (ne (one_taker (operations_at x piece) a taker i (operation_at x piece a) (operation_at x piece taker) (operation_get x piece a low) (operation_get x piece taker is.inside) some is.takes once))

    same_piece : (p a n : ℕ) → Op p a ≡ Op piece n → p ≡ piece
    same_piece p a n e = cc

    not_taker : (j : ℕ) (name : NodeName) → operation_node x j ≡ name → (name ≡ Op piece taker → ⊥) → 0 ≡ one_if (j == first_operation x piece + taker)
    not_taker j name named differs =
        sym (ap one_if (ne_eqb j (first_operation x piece + taker) (λ e. differs (sym named ∙ ap (operation_node x) e ∙ operation_name_at x piece taker exists is.inside))))

    other_piece : (j p a : ℕ) → IsOperationAt x j p a → operation_node x j ≡ Op p a → (p ≡ piece → ⊥) → takes_from x (Op p a) (first_operation x piece + i) ≡ one_if (j == first_operation x piece + taker)
    other_piece j p a at named ne =
        no_operands p (first_operation x piece + i) (operation_at x p a).operands
        (λ number takes same.
        let low = giver_before p a number at.inside takes in
        let own = at.inside in
        let here : operation_node x (first_operation x p + number) ≡ Op p number = operation_name_at x p number at.exists (omega (arith, low, own)) in
        ne (same_piece p number i (sym here ∙ ap (operation_node x) same ∙ operation_name_at x piece i exists inside)))
        ∙ not_taker j (Op p a) named (λ e. ne (same_piece p a taker e))

    own_piece : (j p a : ℕ) → IsOperationAt x j p a → p ≡ piece → takes_from x (Op p a) (first_operation x piece + i) ≡ one_if (j == first_operation x piece + taker)
    own_piece j p a at e =
        let number : j ≡ first_operation x piece + a = subst (λ (n : ℕ). j ≡ first_operation x n + a) e at.number in
        let low : a < operation_count x piece = subst (λ (n : ℕ). a < operation_count x n) e at.inside in
        ap (λ (n : ℕ). takes_from x (Op n a) (first_operation x piece + i)) e
        ∙ own_operands piece i (operation_at x piece a).operands
        ∙ taken_by a low
        ∙ ap (λ (n : ℕ). one_if (n == first_operation x piece + taker)) (sym number)

    by_name : (j : ℕ) (name : NodeName) → j < node_total x → operation_node x j ≡ name → takes_from x name (first_operation x piece + i) ≡ one_if (j == first_operation x piece + taker)
    by_name j (Op p a) below named =
        let at = operation_at_node x j p a below named in
        ⊎_elim (λ (e : p ≡ piece). own_piece j p a at e) (λ (ne : p ≡ piece → ⊥). other_piece j p a at named ne) (cases_eq p piece)
    by_name j (Switch p line) below named = not_taker j (Switch p line) named (λ e. cc)
    by_name j (Merge p line) below named = not_taker j (Merge p line) named (λ e. cc)
    by_name j (Act p) below named = not_taker j (Act p) named (λ e. cc)

  -- the operation that takes a value is the node that does
  pub one_after : (piece i taker : ℕ) → piece < (graph_in x.net).nodes → IsTaker x piece i taker → IsNodeAfter x (first_operation x piece + i) (first_operation x piece + taker)
  one_after piece i taker exists is j low = by_name piece i taker exists is j (operation_node x j) low refl
