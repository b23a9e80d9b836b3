-- The loads whose values nodes take, and those that take theirs, node by node.
use Rattle.std.proofs.Common.{◌≡◌, ◌<◌, ◌≤◌, ◌⊎◌, inl, inr, ⊎_elim, ℕ, zero, suc, ◌+◌, ◌-◌, ◌==◌, true, false, List, [], ◌∷◌, ◌++◌, length, Option, Some, slice_get, refl, sym, ap, ◌∙◌, subst, eqb-true, arith}
use Rattle.std.specs.List.{list_any, range_with_len}
use Rattle.std.proofs.lemmas.Bool.{eq-eqb, ne_eqb}
use Rattle.std.proofs.lemmas.List.{length-append}
use Rattle.list_laws.specs.Member.{Member}
use Rattle.list_laws.proofs.Members.{IsPassed, Member-filter, Member-filtered, Member-in_range, Member-range, list_any_member, member_of_list_any}
use Rattle.dep_routing.specs.Touches.{exec_kind}
use Rattle.firing.specs.declared.system.NodeName.{NodeName}
use Rattle.firing.specs.declared.system.NodeName.TheVariants.{Act, Merge, Op, Switch}
use Rattle.net_board.specs.Nodes.{graph_in, kind_in}
use Rattle.net_board.proofs.NodeLaws.{get_left, get_right, member_at}
use Rattle.op_board.specs.Operations.{Operand, Known, From, gives_value}
use Rattle.op_board.specs.OperationFootprints.{is_giver}
use Rattle.op_board.specs.OperationLists.{IsOperationList}
use Rattle.op_board.specs.OperationNets.{OperationNet, first_operation, operation_at, operation_count, operation_node, operations_at}
use Rattle.op_board.specs.OperationTokens.{givers}
use Rattle.op_board.proofs.OperationNumbers.{IsOperationNamed, operation_named, operation_stands}
use Rattle.op_board.proofs.OperationTakers.{takes_among}
use Rattle.op_board.proofs.OperationsApart.{operation_get}
use Rattle.op_board.proofs.ValueTaking.{below_or_not, get_end, list_of, operations_end, taken_later}
use Rattle.operation_tables.specs.Waits.{node_total, one_if, operands_from, takes_from}
use Rattle.fork_board.specs.ForkTokens.{is_load_node}
use Rattle.read_forks.specs.MadeSteps.{load_givers}
use Rattle.read_forks.specs.NodeLinks.{AreGivers, AreValueLoads, IsLoadTaker, is_listed, is_that}
use Rattle.read_forks.specs.Retests.{takes}
use Rattle.read_forks.specs.declared.steps.Step.{Step}
use Rattle.read_forks.proofs.TestedLoads.{IsPlaced, acts, given_inside, name_there, placed}

-- ---- operations that exist

module _ (x : OperationNet) (piece i : ℕ) (inside : i < operation_count x piece) where
  pub own_list : IsOperationList (operations_at x piece)
  own_list = ⊎_elim
      (λ (none : operations_at x piece ≡ []). absurd (let e = ap length none in omega (arith, e, inside)))
      (λ e. list_of _ (operations_at x piece) e)
      (operations_end x.net.program.names (kind_in x.net piece) (exec_kind x.net.program piece))

within : {A : Type 0} (xs : List A) (k : ℕ) (a : A) → slice_get xs k ≡ Some a → k < length xs
within [] k a is = absurd cc
within (y ∷ xs) zero a is = omega arith
within (y ∷ xs) (suc k) a is = let r = within xs k a is in omega (arith, r)

pub operation_exists : (x : OperationNet) (piece i : ℕ) → piece < (graph_in x.net).nodes → i < operation_count x piece → first_operation x piece + i < node_total x
operation_exists x piece i exists inside = within _ (first_operation x piece + i) (Op piece i) (operation_stands x piece i exists (acts x piece i exists inside) inside)

-- ---- an operation among those whose values are taken

pub record IsFromOne (x : OperationNet) (piece : ℕ) (operands : List Operand) (k : ℕ) : Type 0 where
  pub number : ℕ
  pub among : Member operands (From number)
  pub is : first_operation x piece + number ≡ k

pub from_one : (x : OperationNet) (piece : ℕ) (operands : List Operand) (k : ℕ) → Member (givers x piece operands) k → IsFromOne x piece operands k
from_one x piece [] k among = absurd among
from_one x piece (Known z ∷ operands) k among = let r : IsFromOne x piece operands k = from_one x piece operands k among in record { number = r.number; among = inr r.among; is = r.is }
from_one x piece (From number ∷ operands) k (inl e) = record { number = number; among = inl refl; is = e }
from_one x piece (From number ∷ operands) k (inr among) = let r : IsFromOne x piece operands k = from_one x piece operands k among in record { number = r.number; among = inr r.among; is = r.is }

pub giver_among : (gs : List ℕ) (k : ℕ) → list_any (λ g. g == k) gs ≡ true → Member gs k
giver_among gs k some =
    let p : IsPassed (λ g. g == k) gs = member_of_list_any (λ g. g == k) gs some in
    subst (λ (g : ℕ). Member gs g) (eqb-true p.one k p.passes) p.among

pub none_from : (gs : List ℕ) (k : ℕ) → (Member gs k → ⊥) → operands_from gs k ≡ 0
none_from [] k none = refl
none_from (g ∷ gs) k none =
    ap (λ b. one_if b + operands_from gs k) (ne_eqb g k (λ e. none (inl e)))
    ∙ (let r : operands_from gs k ≡ 0 = none_from gs k (λ m. none (inr m)) in let e : 0 + operands_from gs k ≡ 0 = omega (arith, r) in e)

-- ---- the loads whose values an operation takes

module _ (x : OperationNet) (piece i : ℕ) (exists : piece < (graph_in x.net).nodes) (inside : i < operation_count x piece) where
  abbrev operands : List Operand
  operands = (operation_at x piece i).operands

  pub load_among : (giver : ℕ) → is_load_node x (operation_node x giver) ≡ true → is_giver x piece i giver ≡ true → Member (load_givers x piece operands) giver
  load_among giver loads gives = Member-filter (λ k. is_load_node x (operation_node x k)) (givers x piece operands) giver (giver_among (givers x piece operands) giver gives) loads

  pub among_loads : (giver : ℕ) → Member (load_givers x piece operands) giver → is_load_node x (operation_node x giver) ≡ true
  among_loads giver among = (Member-filtered (λ k. is_load_node x (operation_node x k)) (givers x piece operands) giver among).1

  pub among_exists : (giver : ℕ) → Member (load_givers x piece operands) giver → giver < node_total x
  among_exists giver among =
      let f : IsFromOne x piece operands giver = from_one x piece operands giver ((Member-filtered (λ k. is_load_node x (operation_node x k)) (givers x piece operands) giver among).0) in
      subst (λ (k : ℕ). k < node_total x) f.is (operation_exists x piece f.number exists (given_inside x piece i exists inside f.number f.among))

-- ---- the node that takes a value

-- no node takes the value of one that gives none
pub untaken_at : (x : OperationNet) (k j : ℕ) → ((piece i : ℕ) → operation_node x k ≡ Op piece i → gives_value (operation_at x piece i).work ≡ false) → j < node_total x → takes_from x (operation_node x j) k ≡ 0
untaken_at x k j none low = by (operation_node x j) refl
  where
    contrary : (q s : ℕ) → operation_node x j ≡ Op q s → Member (givers x q (operation_at x q s).operands) k → ⊥
    contrary q s is among =
        let named : IsOperationNamed x (Op q s) = subst (λ (a : NodeName). IsOperationNamed x a) is (operation_named x j low) in
        let high = named.fits.2 in
        let f : IsFromOne x q (operation_at x q s).operands k = from_one x q (operation_at x q s).operands k among in
        let before = taken_later x.net.program.names (kind_in x.net q) (exec_kind x.net.program q) s f.number (operation_at x q s) (operation_get x q s high) (takes_among (operation_at x q s).operands f.number f.among) in
        let inside : f.number < operation_count x q = omega (arith, before, high) in
        let some : gives_value (operation_at x q f.number).work ≡ true = (own_list x q s high).gives f.number (operation_at x q f.number) (operation_get x q f.number inside) (omega (arith, before, high)) in
        let name : operation_node x k ≡ Op q f.number = ap (operation_node x) (sym f.is) ∙ name_there x q s named.exists high f.number inside in
        let e : true ≡ false = sym some ∙ none q f.number name in
        absurd cc

    by : (n : NodeName) → operation_node x j ≡ n → takes_from x n k ≡ 0
    by (Op q s) is = none_from (givers x q (operation_at x q s).operands) k (contrary q s is)
    by (Switch piece line) is = refl
    by (Merge piece line) is = refl
    by (Act piece) is = refl

module _ (x : OperationNet) (k : ℕ) where
  -- no load takes its value where none does
  pub no_load_taker : ((piece i : ℕ) → operation_node x k ≡ Op piece i → gives_value (operation_at x piece i).work ≡ false) → (none : ℕ) → node_total x ≤ none → IsLoadTaker x k none
  no_load_taker not none over j low loads = untaken_at x k j not low ∙ sym (ap one_if (ne_eqb j none (λ e. omega (arith, e, low, over))))

  -- or where the node that does is no load
  pub other_taker : (taker : ℕ) → ((j : ℕ) → j < node_total x → takes_from x (operation_node x j) k ≡ one_if (j == taker)) → is_load_node x (operation_node x taker) ≡ false → IsLoadTaker x k (node_total x)
  other_taker taker takes no_load j low loads =
      takes j low
      ∙ ap one_if (ne_eqb j taker (λ e. let f : true ≡ false = sym loads ∙ ap (λ (m : ℕ). is_load_node x (operation_node x m)) e ∙ no_load in absurd cc))
      ∙ sym (ap one_if (ne_eqb j (node_total x) (λ e. omega (arith, e, low))))

-- ---- listed nodes

pub that_one : (giver : ℕ) (o : Option ℕ) → o ≡ Some giver → is_that giver o ≡ true
that_one giver o is = ap (is_that giver) is ∙ eq-eqb giver giver refl

pub listed_at : (giver : ℕ) (listed : List ℕ) (first count n : ℕ) → first ≤ n → n < first + count → slice_get listed n ≡ Some giver → is_listed giver listed first count ≡ true
listed_at giver listed first count n from below at = list_any_member (λ m. is_that giver (slice_get listed m)) (range_with_len first count) n (Member-range first count n from below) (that_one giver (slice_get listed n) at)

pub still_listed : (giver : ℕ) (listed more : List ℕ) (first count : ℕ) → first + count ≤ length listed → is_listed giver listed first count ≡ true → is_listed giver (listed ++ more) first count ≡ true
still_listed giver listed more first count inside is =
    let p : IsPassed (λ m. is_that giver (slice_get listed m)) (range_with_len first count) = member_of_list_any (λ m. is_that giver (slice_get listed m)) (range_with_len first count) is in
    let r = Member-in_range first count p.one p.among in
    let high = r.1 in
    list_any_member (λ m. is_that giver (slice_get (listed ++ more) m)) (range_with_len first count) p.one p.among (ap (is_that giver) (get_left listed more p.one (omega (arith, high, inside))) ∙ p.passes)

-- ---- one node more

module _ (x : OperationNet) (n : ℕ) (steps : List Step) (listed : List ℕ) (all : length steps ≡ n) (made : AreValueLoads x steps listed) (step : Step) (more : List ℕ)
    (takes_these : (giver : ℕ) → giver < node_total x → is_load_node x (operation_node x giver) ≡ true → takes x (operation_node x n) giver ≡ true → Member more giver)
    (these_load : (giver : ℕ) → Member more giver → is_load_node x (operation_node x giver) ≡ true)
    (these_exist : (giver : ℕ) → Member more giver → giver < node_total x)
    (first : (more ≡ []) ⊎ (step.giver ≡ length listed)) (fits : step.giver + step.givers ≡ step.giver + length more) (place : step.giver ≤ length listed)
    (taker : IsLoadTaker x n step.taker) (loads : step.taker < node_total x → is_load_node x (operation_node x step.taker) ≡ true) where
  abbrev all_steps : List Step
  all_steps = steps ++ step ∷ []

  abbrev all_listed : List ℕ
  all_listed = listed ++ more

  longer : length all_listed ≡ length listed + length more
  longer = length-append listed more

  own_givers : AreGivers x all_listed n step
  own_givers giver low load takes = by first (takes_these giver low load takes)
    where
      by : (more ≡ []) ⊎ (step.giver ≡ length listed) → Member more giver → is_listed giver all_listed step.giver step.givers ≡ true
      by (inl none) among = absurd (subst (λ (ms : List ℕ). Member ms giver) none among)
      by (inr begins) among =
          let p : IsPlaced more giver = placed more giver among in
          let inside = p.inside in
          listed_at giver all_listed step.giver step.givers (length listed + p.place) (omega (arith, begins)) (omega (arith, begins, fits, inside)) (get_right listed more p.place ∙ p.is)

  -- what holds of the steps before it and of it
  each_step : (P : ℕ → Step → Type 0) → ((k : ℕ) (s : Step) → slice_get steps k ≡ Some s → P k s) → P n step → (k : ℕ) (s : Step) → slice_get all_steps k ≡ Some s → P k s
  each_step P old own k s at = ⊎_elim
      (λ (e : slice_get steps k ≡ Some s). old k s e)
      (λ (e : (k ≡ length steps) × (step ≡ s)). subst (λ (t : Step). P k t) e.1 (subst (λ (m : ℕ). P m step) (sym (e.0 ∙ all)) own))
      (get_end steps step s k at)

  each_listed : (P : ℕ → Type 0) → ((m g : ℕ) → slice_get listed m ≡ Some g → P g) → ((g : ℕ) → Member more g → P g) → (m g : ℕ) → slice_get all_listed m ≡ Some g → P g
  each_listed P old own m g at = ⊎_elim
      (λ (low : m < length listed). old m g (sym (get_left listed more m low) ∙ at))
      (λ (over : length listed ≤ m).
      let e : m ≡ length listed + (m - length listed) = omega (arith, over) in
      own g (member_at more (m - length listed) g (sym (get_right listed more (m - length listed)) ∙ sym (ap (slice_get all_listed) e) ∙ at)))
      (below_or_not m (length listed))

  own_inside : step.giver + step.givers ≤ length all_listed
  own_inside = let l = longer in omega (arith, fits, place, l)

  pub values_more : AreValueLoads x all_steps all_listed
  values_more = record {
    givers = each_step (λ k s. AreGivers x all_listed k s) (λ k s at. λ giver low load takes. still_listed giver listed more s.giver s.givers (made.inside k s at) (made.givers k s at giver low load takes)) own_givers;
    taker = each_step (λ k s. IsLoadTaker x k s.taker) made.taker taker;
    inside = each_step (λ k s. s.giver + s.givers ≤ length all_listed) (λ k s at. let i = made.inside k s at in let l = longer in omega (arith, i, l)) own_inside;
    loads = each_listed (λ g. is_load_node x (operation_node x g) ≡ true) made.loads these_load;
    exist = each_listed (λ g. g < node_total x) made.exist these_exist;
    takers = each_step (λ k s. s.taker < node_total x → is_load_node x (operation_node x s.taker) ≡ true) made.takers loads;
  }

pub no_values : (x : OperationNet) (steps : List Step) (listed : List ℕ) → steps ≡ [] → listed ≡ [] → AreValueLoads x steps listed
no_values x steps listed none nothing = subst (λ (ss : List Step). AreValueLoads x ss listed) (sym none) (subst (λ (ls : List ℕ). AreValueLoads x [] ls) (sym nothing) (record {
  givers = λ k s at. absurd cc;
  taker = λ k s at. absurd cc;
  inside = λ k s at. absurd cc;
  loads = λ m g at. absurd cc;
  exist = λ m g at. absurd cc;
  takers = λ k s at. absurd cc;
}))

-- the operation that a node is gives no value
pub gives_none : (x : OperationNet) (k piece i : ℕ) → operation_node x k ≡ Op piece i → gives_value (operation_at x piece i).work ≡ false → (p q : ℕ) → operation_node x k ≡ Op p q → gives_value (operation_at x p q).work ≡ false
gives_none x k piece i name none p q is =
    let both : Op piece i ≡ Op p q = sym name ∙ is in
    let e : piece ≡ p = cc in
    let f : i ≡ q = cc in
    subst (λ (r : ℕ). gives_value (operation_at x r q).work ≡ false) e (subst (λ (r : ℕ). gives_value (operation_at x piece r).work ≡ false) f none)
