-- What the lines and the operands in the row of an operation wait for, and what waits for switches.
use Rattle.std.proofs.Common.{◌≡◌, ◌<◌, ◌≤◌, ◌+◌, ◌-◌, ◌&&◌, ◌==◌, ℕ, ℤ, zero, suc, Bool, true, false, not, is_some, List, [], ◌∷◌, ◌++◌, length, get_or, take, map, All, Option, slice_get, refl, sym, ap, ◌∙◌, subst, inl, inr, arith}
use Rattle.std.specs.List.{range_with_len}
use Rattle.std.proofs.lemmas.List.{take_more}
use Rattle.list_laws.specs.Member.{Member}
use Rattle.list_laws.proofs.Members.{IsAt, Member-at, Member-map, at_of}
use Rattle.list_laws.proofs.Ranges.{range_last}
use Rattle.std.proofs.Props.{props}
use Rattle.net_board.specs.Nodes.{first_node, is_acting, kind_in, node_count, switch_lines, switches}
use Rattle.net_board.specs.Tokens.{is_before}
use Rattle.op_board.specs.Operations as board
use Rattle.op_board.specs.OperationLists.{takes_by, takes_one}
use Rattle.op_board.specs.OperationNets.{OperationNet, first_operation, needed, operation_at}
use Rattle.op_board.specs.OperationTokens.{OperationTokens, is_given, passed_by, stands_before, value_of}
use Rattle.operation_lists.specs.declared.operations.Operand.{Operand}
use Rattle.operation_lists.specs.declared.operations.Operand.TheVariants.{Known, Node}
use Rattle.operation_lists.specs.Seen.{operand_seen}
use Rattle.operation_tables.specs.declared.hops.Hop.{Hop}
use Rattle.operation_tables.specs.OperationRows.{IsHop}
use Rattle.operation_places.specs.RowWaits.{IsBelow, hop_stands, is_there}
use Rattle.operation_tables.specs.Waits.{failing, one_if}
use Rattle.operation_places.proofs.FailingLists.{failing_same}
use Rattle.operation_tables.proofs.NodeNames.{IsOperationAt}
use Rattle.operation_tables.proofs.NodesAfter.{giver_before}
use Rattle.operation_tables.proofs.SwitchNodes.{switch_count}
use Rattle.operation_places.proofs.OperandBounds.{takes_more, takes_same}

pub one_twice : (b : Bool) → one_if b ≡ one_if (not (not b))
one_twice true = refl
one_twice false = refl

-- ---- a loop's steps

module _ {A : Type 0} (p : A → Bool) where
  failing_last : (xs : List A) (y : A) → failing p (xs ++ y ∷ []) ≡ failing p xs + one_if (not (p y))
  failing_last [] y = omega arith
  failing_last (x ∷ xs) y = let r = failing_last xs y in omega (arith, r)

  pub failing_next : (xs : List A) (i : ℕ) (d : A) → i < length xs → failing p (take (i + 1) xs) ≡ failing p (take i xs) + one_if (not (p (get_or xs i d)))
  failing_next xs i d inside = ap (failing p) (take_more xs i d inside) ∙ failing_last (take i xs) (get_or xs i d)

module _ (p : ℕ → Bool) where
  pub row_next : (first k : ℕ) → suc first ≤ k → failing p (range_with_len (suc first) (k + 1 - suc first)) ≡ failing p (range_with_len (suc first) (k - suc first)) + one_if (not (p k))
  row_next first k low =
      let count : k + 1 - suc first ≡ suc (k - suc first) = omega (arith, low) in
      let last : suc first + (k - suc first) ≡ k = omega (arith, low) in
      ap (λ n. failing p (range_with_len (suc first) n)) count
      ∙ ap (failing p) (range_last (suc first) (k - suc first))
      ∙ failing_last p (range_with_len (suc first) (k - suc first)) (suc first + (k - suc first))
      ∙ ap (λ n. failing p (range_with_len (suc first) (k - suc first)) + one_if (not (p n))) last

all_member : {A : Type 0} (P : A → Type 0) (xs : List A) (x : A) → All P xs → Member xs x → P x
all_member P xs x all m = let r : IsAt xs x = at_of xs x m in subst P (r.is x) (all r.place x r.exists)

failing-map : {A B : Type 0} (p : B → Bool) (f : A → B) (xs : List A) → failing p (map f xs) ≡ failing (λ x. p (f x)) xs
failing-map p f [] = refl
failing-map p f (x ∷ xs) = ap (λ n. one_if (not (p (f x))) + n) (failing-map p f xs)

-- ---- lines

module _ (x : OperationNet) (m : OperationTokens) (piece i : ℕ) (hops : List Hop) (lines : map (λ (hop : Hop). hop.line) hops ≡ needed x piece i) (are : All (IsHop x piece i) hops) where
  pub hops_wait : failing (hop_stands x m piece) hops ≡ failing (stands_before x m piece i) (needed x piece i)
  hops_wait =
      failing_same (hop_stands x m piece) (λ (hop : Hop). stands_before x m piece i hop.line) hops
      (λ hop among. ap (λ n. is_before x.net m.tokens piece hop.line && (passed_by m hop.line == n)) (all_member (IsHop x piece i) hops hop are among).before)
      ∙ sym (failing-map (stands_before x m piece i) (λ (hop : Hop). hop.line) hops)
      ∙ ap (failing (stands_before x m piece i)) lines

  pub hops_exist : All (λ (hop : Hop). hop.line < x.net.routing.lines) hops
  hops_exist place d inside = (are place d inside).exists

-- ---- operands

takes_member : (operands : List board.Operand) (number : ℕ) → Member operands (board.From number) → 0 < takes_by operands number
takes_member [] number m = absurd m
takes_member (board.Known z ∷ operands) number (inl e) = absurd cc
takes_member (board.Known z ∷ operands) number (inr m) = takes_member operands number m
takes_member (board.From other ∷ operands) number (inl e) =
    let same : other ≡ number = cc in
    let here : takes_one other number (takes_by operands number) ≡ suc (takes_by operands number) = ap (λ o. takes_one o number (takes_by operands number)) same ∙ takes_same number (takes_by operands number) in
    omega (arith, here)
takes_member (board.From other ∷ operands) number (inr m) =
    let r = takes_member operands number m in
    let more = takes_more other number (takes_by operands number) in
    omega (arith, r, more)

module _ (x : OperationNet) (k piece i first : ℕ) (at : IsOperationAt x k piece i) (begins : first ≡ first_operation x piece) (row : List Operand) (seen : map operand_seen row ≡ (operation_at x piece i).operands) where
  operand_below : (nodes : ℕ) → k < nodes → (o : Operand) → Member (operation_at x piece i).operands (operand_seen o) → IsBelow nodes first o
  operand_below nodes below (Known z) m = tt
  operand_below nodes below (Node number) m =
      let number_is = at.number in
      let earlier = giver_before x piece i number at.inside (takes_member (operation_at x piece i).operands number m) in
      omega (arith, number_is, begins, earlier, below)

  pub operands_below : (nodes : ℕ) → k < nodes → All (IsBelow nodes first) row
  operands_below nodes below place d inside =
      operand_below nodes below (get_or row place d) (subst (λ (os : List board.Operand). Member os (operand_seen (get_or row place d))) seen (Member-map operand_seen row (get_or row place d) (Member-at row place d inside)))

  there_given : (m : OperationTokens) (o : Operand) → is_there m.values first o ≡ is_given x m piece (operand_seen o)
  there_given m (Known z) = refl
  there_given m (Node number) = ap (λ n. is_some (value_of (slice_get m.values (n + number)))) begins

  pub operands_wait : (m : OperationTokens) → failing (is_there m.values first) row ≡ failing (is_given x m piece) (operation_at x piece i).operands
  operands_wait m =
      failing_same (is_there m.values first) (λ (o : Operand). is_given x m piece (operand_seen o)) row (λ o among. there_given m o)
      ∙ sym (failing-map (is_given x m piece) operand_seen row)
      ∙ ap (failing (is_given x m piece)) seen

below_prop : (nodes first : ℕ) (o : Operand) → IsProp (IsBelow nodes first o)
below_prop nodes first (Known z) = hlevel props
below_prop nodes first (Node number) = hlevel props

pub all_below_prop : (nodes first : ℕ) (row : List Operand) → IsProp (All (IsBelow nodes first) row)
all_below_prop nodes first row a b = λ i. λ place d inside. below_prop nodes first (get_or row place d) (a place d inside) (b place d inside) i

-- ---- switches

pub switches_are : (x : OperationNet) (piece first end : ℕ) → is_acting (kind_in x.net piece) ≡ true → first ≡ first_node x.net piece → end ≡ first_node x.net piece + node_count x.net piece → range_with_len (suc first) (end - suc first) ≡ switches x.net piece
switches_are x piece first end acts begins ends =
    let n = switch_count x piece acts in
    let count : end - suc first ≡ length (switch_lines x.net piece (kind_in x.net piece)) = omega (arith, n, begins, ends) in
    ap (λ a. range_with_len (suc a) (end - suc first)) begins ∙ ap (range_with_len (suc (first_node x.net piece))) count

-- ---- reads

pub read_value : (xs : List (Option ℤ)) (k : ℕ) (v : Option ℤ) → k < length xs → v ≡ get_or xs k v → value_of (slice_get xs k) ≡ v
read_value [] k v below is = absurd (omega (arith, below))
read_value (y ∷ ys) zero v below is = sym is
read_value (y ∷ ys) (suc k) v below is = read_value ys k v (omega (arith, below)) is
