-- The operands of an operation are taken, one after another.
use Rattle.std.proofs.Common.{◌≡◌, ◌<◌, ◌≤◌, ℕ, ℤ, zero, suc, ◌+◌, true, List, [], ◌∷◌, length, map, get_or, fold, drop, pos, unwrap_or, Option, None, is_some, slice_get, refl, sym, ap, ◌∙◌, subst, inl, inr, arith}
use Rattle.std.specs.List.{list_all}
use Rattle.dep_routing.specs.Touches.{exec_kind}
use Rattle.list_laws.specs.Member.{Member}
use Rattle.net_board.specs.Nodes.{graph_in, kind_in}
use Rattle.net_board.proofs.ListPlaces.{get_set_other, length_slice_set, same_tests}
use Rattle.op_board.specs.OperationLists.{takes_by}
use Rattle.op_board.specs.OperationNets.{OperationNet, first_operation, operation_at, operation_count, operations_at}
use Rattle.op_board.specs.OperationTokens.{OperationTokens, givers, is_given, operand_in, replaced, value_at, value_of}
use Rattle.op_board.specs.Operations.{Operand, Known, From}
use Rattle.op_board.proofs.OperationsApart.{operation_get}
use Rattle.op_board.proofs.ValueTaking.{taken_once, takes_by_more, takes_one_same}
use Rattle.operation_tables.specs.OperationRows.{IsTaker}
use Rattle.op_net.specs.PlaceSteps.{IsOwnOperand, operand_taken, values_for}
use Rattle.operation_places.specs.PlacesView.{value_put}
use Rattle.operation_places.specs.StandingChanges.{values_taken}
use Rattle.operation_tables.specs.Waits.{IsNodeAfter, node_total}
use Rattle.operation_tables.proofs.NodeNames.{operation_within}
use Rattle.operation_tables.proofs.NodesAfter.{giver_before, no_more, one_after, own_one}

member_takes : (operands : List Operand) (number : ℕ) → Member operands (From number) → 0 < takes_by operands number
member_takes [] number m = absurd m
member_takes (operand ∷ operands) number (inl same) = subst (λ (o : Operand). 0 < takes_by (o ∷ operands) number) (sym same) (own_one number (takes_by operands number))
member_takes (operand ∷ operands) number (inr m) =
    let some = member_takes operands number m in
    let all = takes_by_more operand operands number in
    omega (arith, some, all)

-- of those that are left none is taken more often
left_takes : (operands : List Operand) (i number : ℕ) → takes_by (drop i operands) number ≤ takes_by operands number
left_takes [] zero number = omega arith
left_takes [] (suc i) number = omega arith
left_takes (operand ∷ operands) zero number = omega arith
left_takes (operand ∷ operands) (suc i) number =
    let some = left_takes operands i number in
    let all = takes_by_more operand operands number in
    omega (arith, some, all)

module _ (x : OperationNet) (piece : ℕ) where
  all_taken : (m : OperationTokens) (operands : List Operand) → fold (operand_taken x piece) m operands ≡ record m { values = replaced m.values (givers x piece operands) (λ k. None) }
  all_taken m [] = refl
  all_taken m (Known z ∷ operands) = all_taken m operands
  all_taken m (From number ∷ operands) = all_taken (value_put m (first_operation x piece + number) None) operands

  given_same : (m : OperationTokens) (k : ℕ) (operand : Operand) → ((number : ℕ) → operand ≡ From number → k ≡ first_operation x piece + number → ⊥) → is_given x (value_put m k None) piece operand ≡ is_given x m piece operand
  given_same m k (Known z) apart = refl
  given_same m k (From number) apart = ap (λ o. is_some (value_of o)) (get_set_other m.values k (first_operation x piece + number) None (apart number refl))

  -- what is left takes no value that the first of it takes
  apart : (number : ℕ) (rest : List Operand) → ((other : ℕ) → takes_by (From number ∷ rest) other ≤ 1) → (operand : Operand) (other : ℕ) → Member rest operand → operand ≡ From other → first_operation x piece + number ≡ first_operation x piece + other → ⊥
  apart number rest once operand other among is same =
      let same_number : other ≡ number = omega (arith, same) in
      let there : Member rest (From number) = subst (λ (n : ℕ). Member rest (From n)) same_number (subst (λ (o : Operand). Member rest o) is among) in
      let some = member_takes rest number there in
      let one = takes_one_same number (takes_by rest number) in
      let most = once number in
      omega (arith, some, one, most)

  pub still_given : (m : OperationTokens) (operand : Operand) (rest : List Operand) → ((number : ℕ) → takes_by (operand ∷ rest) number ≤ 1) → list_all (is_given x m piece) rest ≡ true → list_all (is_given x (operand_taken x piece m operand) piece) rest ≡ true
  still_given m (Known z) rest once given = given
  still_given m (From number) rest once given =
      same_tests (is_given x (value_put m (first_operation x piece + number) None) piece) (is_given x m piece) rest
      (λ operand among. given_same m (first_operation x piece + number) operand (λ other is same. apart number rest once operand other among is same))
      ∙ given

  read_same : (m : OperationTokens) (k : ℕ) (operand : Operand) → ((number : ℕ) → operand ≡ From number → k ≡ first_operation x piece + number → ⊥) → operand_in x (value_put m k None) piece operand ≡ operand_in x m piece operand
  read_same m k (Known z) apart = refl
  read_same m k (From number) apart = ap (λ (o : Option (Option ℤ)). unwrap_or (value_of o) (pos 0)) (get_set_other m.values k (first_operation x piece + number) None (apart number refl))

  same_reads : (f g : Operand → ℤ) (operands : List Operand) → ((operand : Operand) → Member operands operand → f operand ≡ g operand) → map f operands ≡ map g operands
  same_reads f g [] same = refl
  same_reads f g (operand ∷ operands) same = ap (λ z. z ∷ map f operands) (same operand (inl refl)) ∙ ap (λ zs. g operand ∷ zs) (same_reads f g operands (λ other among. same other (inr among)))

  pub still_read : (m : OperationTokens) (operand : Operand) (rest : List Operand) → ((number : ℕ) → takes_by (operand ∷ rest) number ≤ 1) → map (operand_in x (operand_taken x piece m operand) piece) rest ≡ map (operand_in x m piece) rest
  still_read m (Known z) rest once = refl
  still_read m (From number) rest once =
      same_reads (operand_in x (value_put m (first_operation x piece + number) None) piece) (operand_in x m piece) rest
      (λ operand among. read_same m (first_operation x piece + number) operand (λ other is same. apart number rest once operand other among is same))

  module _ (i : ℕ) (inside : i < operation_count x piece) where
    -- each operand is one of the operation
    pub own_operand : (operand : Operand) → Member (operation_at x piece i).operands operand → IsOwnOperand x piece i operand
    own_operand (Known z) among = tt
    own_operand (From number) among = record { inside = inside; takes = member_takes (operation_at x piece i).operands number among }

    pub once_taken : (number : ℕ) → takes_by (operation_at x piece i).operands number ≤ 1
    once_taken number =
        let most = no_more (operations_at x piece) i number (operation_at x piece i) (operation_get x piece i inside) in
        let one = taken_once x.net.program.names (kind_in x.net piece) (exec_kind x.net.program piece) number in
        omega (arith, most, one)

    -- what is left is given after the first of it was taken
    pub rest_given : (m : OperationTokens) (place : ℕ) (operand : Operand) (rest : List Operand) → drop place (operation_at x piece i).operands ≡ operand ∷ rest → list_all (is_given x m piece) rest ≡ true → list_all (is_given x (operand_taken x piece m operand) piece) rest ≡ true
    rest_given m place operand rest is given =
        still_given m operand rest
        (λ number.
        let some : takes_by (operand ∷ rest) number ≤ takes_by (operation_at x piece i).operands number = subst (λ (os : List Operand). takes_by os number ≤ takes_by (operation_at x piece i).operands number) is (left_takes (operation_at x piece i).operands place number) in
        let one = once_taken number in
        omega (arith, some, one))
        given

    pub rest_read : (m : OperationTokens) (place : ℕ) (operand : Operand) (rest : List Operand) → drop place (operation_at x piece i).operands ≡ operand ∷ rest → map (operand_in x (operand_taken x piece m operand) piece) rest ≡ map (operand_in x m piece) rest
    rest_read m place operand rest is =
        still_read m operand rest
        (λ number.
        let some : takes_by (operand ∷ rest) number ≤ takes_by (operation_at x piece i).operands number = subst (λ (os : List Operand). takes_by os number ≤ takes_by (operation_at x piece i).operands number) is (left_takes (operation_at x piece i).operands place number) in
        let one = once_taken number in
        omega (arith, some, one))

  -- so many values are taken for the first and for those after it
  pub values_next : (operand : Operand) (rest : List Operand) → length (givers x piece (operand ∷ rest)) ≡ values_for operand + length (givers x piece rest)
  values_next (Known z) rest = omega arith
  values_next (From number) rest = omega arith

  pub operands_taken : (m : OperationTokens) (i : ℕ) → fold (operand_taken x piece) m (operation_at x piece i).operands ≡ values_taken x m piece i
  operands_taken m i = all_taken m (operation_at x piece i).operands

module _ (x : OperationNet) (piece i number : ℕ) (exists : piece < (graph_in x.net).nodes) (own : IsTaker x piece number i) where
  giver_inside : number < operation_count x piece
  giver_inside = let before = giver_before x piece i number own.inside own.takes in let inside = own.inside in omega (arith, before, inside)

  -- the node that gives an operand is one of the net, and its value goes to the operation
  pub giver_exists : (first : ℕ) → first ≡ first_operation x piece → first + number < node_total x
  giver_exists first is = let below = operation_within x piece number exists giver_inside in omega (arith, below, is)

  pub giver_after : (first : ℕ) → first ≡ first_operation x piece → IsNodeAfter x (first + number) (first + i)
  giver_after first is = subst (λ (f : ℕ). IsNodeAfter x (f + number) (f + i)) (sym is) (one_after x piece number i exists own)

  pub giver_full : (m : OperationTokens) (first : ℕ) → first ≡ first_operation x piece → is_given x m piece (From number) ≡ true → is_some (value_at m (first + number)) ≡ true
  giver_full m first is given = subst (λ (f : ℕ). is_some (value_at m (f + number)) ≡ true) (sym is) given

pub own_node : (x : OperationNet) (piece i first : ℕ) → piece < (graph_in x.net).nodes → i < operation_count x piece → first ≡ first_operation x piece → first + i < node_total x
own_node x piece i first exists inside is = let below = operation_within x piece i exists inside in omega (arith, below, is)

pub taken_length : (x : OperationNet) (piece : ℕ) (m : OperationTokens) (operand : Operand) → length (operand_taken x piece m operand).values ≡ length m.values
taken_length x piece m (Known z) = refl
taken_length x piece m (From number) = length_slice_set m.values (first_operation x piece + number) None

pub read_value : (values : List (Option ℤ)) (k : ℕ) (value : Option ℤ) → k < length values → value ≡ get_or values k value → value_of (slice_get values k) ≡ value
read_value [] k value low at = absurd (omega (arith, low))
read_value (v ∷ values) zero value low at = sym at
read_value (v ∷ values) (suc k) value low at = read_value values k value (omega (arith, low)) at
