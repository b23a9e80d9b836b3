-- Which loads are tested: those whose values an operation takes, and the one that takes its value.
use Rattle.std.proofs.Common.{◌≡◌, ◌<◌, inl, inr, ℕ, zero, suc, ◌+◌, ◌==◌, ◌||◌, Bool, true, false, List, [], ◌∷◌, length, map, Some, None, slice_get, refl, ap, ◌∙◌, eqb-true, arith}
use Rattle.std.specs.List.{list_any}
use Rattle.list_laws.specs.Member.{Member}
use Rattle.firing.specs.declared.system.NodeName.{NodeName}
use Rattle.firing.specs.declared.system.NodeName.TheVariants.{Act, Merge, Switch, Op}
use Rattle.net_board.specs.Nodes.{graph_in, is_acting, kind_in}
use Rattle.dep_routing.specs.Touches.{exec_kind}
use Rattle.op_board.specs.Operations.{Operand, Known, From}
use Rattle.op_board.specs.OperationNets.{OperationNet, first_operation, operation_at, operation_count, operation_node}
use Rattle.op_board.specs.OperationTokens.{givers}
use Rattle.op_board.proofs.OperationNumbers.{operation_name}
use Rattle.op_board.proofs.OperationTakers.{takes_among}
use Rattle.op_board.proofs.OperationsApart.{operation_get}
use Rattle.op_board.proofs.ValueTaking.{taken_later}
use Rattle.op_net.specs.ApartLoads.{giver_of}
use Rattle.operation_tables.specs.Waits.{one_if, operands_from, takes_from}
use Rattle.fork_board.proofs.ForksApart.{acting_with}
use Rattle.read_forks.specs.Retests.{takes}

-- ---- places of lists

pub record IsPlaced {A : Type 0} (xs : List A) (a : A) : Type 0 where
  pub place : ℕ
  pub inside : place < length xs
  pub is : slice_get xs place ≡ Some a

pub placed : {A : Type 0} (xs : List A) (a : A) → Member xs a → IsPlaced xs a
placed [] a among = absurd among
placed (y ∷ xs) a (inl e) = record { place = 0; inside = omega arith; is = ap (λ b. Some b) e }
placed (y ∷ xs) a (inr among) =
    let r : IsPlaced xs a = placed xs a among in
    let low = r.inside in
    record { place = suc r.place; inside = omega (arith, low); is = r.is }

pub member_there : {A : Type 0} (xs : List A) (k : ℕ) (a : A) → slice_get xs k ≡ Some a → Member xs a
member_there [] k a is = let e : None ≡ Some a = is in absurd cc
member_there (y ∷ xs) zero a is = inl cc
member_there (y ∷ xs) (suc k) a is = inr (member_there xs k a is)

pub mapped : {A B : Type 0} (f : A → B) (xs : List A) (k : ℕ) (a : A) → slice_get xs k ≡ Some a → slice_get (map f xs) k ≡ Some (f a)
mapped f [] k a is = let e : None ≡ Some a = is in absurd cc
mapped f (y ∷ xs) zero a is = let e : y ≡ a = cc in ap (λ b. Some (f b)) e
mapped f (y ∷ xs) (suc k) a is = mapped f xs k a is

pub unmapped : (xs : List Operand) (k number : ℕ) → slice_get (map giver_of xs) k ≡ Some (Some number) → slice_get xs k ≡ Some (From number)
unmapped [] k number is = let e : None ≡ Some (Some number) = is in absurd cc
unmapped (Known z ∷ xs) zero number is = let e : Some None ≡ Some (Some number) = is in absurd cc
unmapped (From n ∷ xs) zero number is = let e : n ≡ number = cc in ap (λ m. Some (From m)) e
unmapped (y ∷ xs) (suc k) number is = unmapped xs k number is

-- ---- counts of takers

counted : (gs : List ℕ) (k : ℕ) → list_any (λ giver. giver == k) gs ≡ true → 0 < operands_from gs k
counted [] k some = let e : false ≡ true = some in absurd cc
counted (g ∷ gs) k some = by (g == k) refl some (λ rest. counted gs k rest)
  where
    by : (b : Bool) → (g == k) ≡ b → (b || list_any (λ giver. giver == k) gs) ≡ true → (list_any (λ giver. giver == k) gs ≡ true → 0 < operands_from gs k) → 0 < operands_from (g ∷ gs) k
    by true own some later = let e : one_if (g == k) ≡ 1 = ap one_if own in omega (arith, e)
    by false other some later = let r = later some in omega (arith, r)

pub only_taker : (x : OperationNet) (k j result : ℕ) (name : NodeName) → takes_from x name k ≡ one_if (j == result) → takes x name k ≡ true → j ≡ result
only_taker x k j result (Op piece i) is gives = by (j == result) refl
  where
    by : (b : Bool) → (j == result) ≡ b → j ≡ result
    by true same = eqb-true j result same
    by false other =
        let some : 0 < operands_from (givers x piece (operation_at x piece i).operands) k = counted (givers x piece (operation_at x piece i).operands) k gives in
        let none : operands_from (givers x piece (operation_at x piece i).operands) k ≡ 0 = is ∙ ap one_if other in
        absurd (omega (arith, some, none))
only_taker x k j result (Switch piece line) is gives = let e : false ≡ true = gives in absurd cc
only_taker x k j result (Merge piece line) is gives = let e : false ≡ true = gives in absurd cc
only_taker x k j result (Act piece) is gives = let e : false ≡ true = gives in absurd cc

-- ---- operands of operations that exist

module _ (x : OperationNet) (piece i : ℕ) (exists : piece < (graph_in x.net).nodes) (inside : i < operation_count x piece) where
  pub acts : is_acting (kind_in x.net piece) ≡ true
  acts = acting_with x.net.program.names (kind_in x.net piece) (exec_kind x.net.program piece) i inside

  pub given_inside : (number : ℕ) → Member (operation_at x piece i).operands (From number) → number < operation_count x piece
  given_inside number among =
      let low = taken_later x.net.program.names (kind_in x.net piece) (exec_kind x.net.program piece) i number (operation_at x piece i) (operation_get x piece i inside) (takes_among (operation_at x piece i).operands number among) in
      omega (arith, low, inside)

  pub giver_below : (nth number : ℕ) → slice_get (map giver_of (operation_at x piece i).operands) nth ≡ Some (Some number) → number < operation_count x piece
  giver_below nth number told = given_inside number (member_there (operation_at x piece i).operands nth (From number) (unmapped (operation_at x piece i).operands nth number told))

  pub name_there : (number : ℕ) → number < operation_count x piece → operation_node x (first_operation x piece + number) ≡ Op piece number
  name_there number low = operation_name x piece number exists acts low
