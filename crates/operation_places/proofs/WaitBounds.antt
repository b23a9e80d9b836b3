-- No node waits for more than can be counted.
use Rattle.std.proofs.Common.{◌≡◌, ◌<◌, ◌≤◌, ◌^◌, ℕ, ℤ, zero, suc, ◌&&◌, Bool, true, false, not, is_some, if◌then◌else◌, List, [], ◌∷◌, length, Some, slice_get, refl, sym, ap, subst, arith}
use Rattle.std.proofs.lemmas.List.FromFn.{length-range_with_len}
use Rattle.cfg_build.specs.declared.pieces.PieceKind.{PieceKind}
use Rattle.cfg_build.specs.declared.pieces.PieceKind.TheVariants as kind
use Rattle.firing.specs.declared.system.NodeName.{NodeName}
use Rattle.firing.specs.declared.system.NodeName.TheVariants.{Act, Merge, Op, Switch}
use Rattle.net_board.specs.Nodes.{all_lines, first_node, is_free, kind_in, passing, switch_lines, switches}
use Rattle.net_board.specs.Tokens.{is_before, left_for}
use Rattle.net_board.specs.WokenNodes.{switch_number}
use Rattle.net_tables.proofs.TableLemmas.{short_filter}
use Rattle.op_board.specs.Operations.{Known, Operation, Work, is_decision}
use Rattle.op_board.specs.OperationLists.{IsOperationList, takes_by}
use Rattle.op_board.specs.OperationNets.{OperationNet, needed, operation_at, operation_in, operation_node, operations_at}
use Rattle.op_board.specs.OperationTokens.{OperationTokens, is_given, stands_before, value_at}
use Rattle.operation_tables.specs.PlanFacts.{PlanFacts}
use Rattle.operation_tables.specs.Waits.{failing, node_total, waits, waits_as, waits_for_room}
use Rattle.operation_places.proofs.FailingLists.{failing_short, one_at_most}
use Rattle.operation_tables.proofs.NodeNames.{IsOperationAt, operation_at_node}
use Rattle.operation_places.proofs.OperandBounds.{failing_few, takes_within}

-- what stands at a place below the length
record IsItem {X : Type 0} (xs : List X) (i : ℕ) : Type 0 where
  item : X
  is : slice_get xs i ≡ Some item

item_at : {X : Type 0} (xs : List X) (i : ℕ) → i < length xs → IsItem xs i
item_at [] i inside = absurd (omega (arith, inside))
item_at (y ∷ ys) zero inside = record { item = y; is = refl }
item_at (y ∷ ys) (suc i) inside = let r = item_at ys i (omega (arith, inside)) in record { item = r.item; is = r.is }

module _ (x : OperationNet) (m : OperationTokens) where
  lines_few : (piece i : ℕ) → failing (stands_before x m piece i) (needed x piece i) ≤ x.net.routing.lines
  lines_few piece i =
      let f = failing_short (stands_before x m piece i) (needed x piece i) in
      let s = short_filter (x.needs piece i) (all_lines x.net) in
      let r = length-range_with_len 0 x.net.routing.lines in
      omega (arith, f, s, r)

  passing_few : (piece : ℕ) → length (passing x.net piece) ≤ x.net.routing.lines
  passing_few piece =
      let s = short_filter (λ line. is_free x.net piece line && not (x.net.touches piece line)) (all_lines x.net) in
      let r = length-range_with_len 0 x.net.routing.lines in
      omega (arith, s, r)

  switches_few : (piece : ℕ) (k : PieceKind) → length (switch_lines x.net piece k) ≤ x.net.routing.lines
  switches_few piece kind.Act = omega arith
  switches_few piece kind.Branch = passing_few piece
  switches_few piece kind.Hold = passing_few piece
  switches_few piece kind.Start = omega arith
  switches_few piece kind.Pass = omega arith
  switches_few piece kind.Join = omega arith
  switches_few piece kind.End = omega arith

  room_few : (piece : ℕ) (work : Work) → waits_for_room x m piece work ≤ x.net.routing.lines
  room_few piece work = by (is_decision work)
    where
      by : (b : Bool) → (if b then failing (λ switch. not (is_some (left_for m.tokens switch))) (switches x.net piece) else 0) ≤ x.net.routing.lines
      by true =
          let f = failing_short (λ switch. not (is_some (left_for m.tokens switch))) (switches x.net piece) in
          let r = length-range_with_len (suc (first_node x.net piece)) (length (switch_lines x.net piece (kind_in x.net piece))) in
          let s = switches_few piece (kind_in x.net piece) in
          omega (arith, f, r, s)
      by false = omega arith

  given_known : (piece : ℕ) (z : ℤ) → is_given x m piece (Known z) ≡ true
  given_known piece z = refl

  module _ (facts : PlanFacts x) where
    -- the values of at most i operations come before operation i
    pub operands_few : (k piece i : ℕ) → IsOperationAt x k piece i → failing (is_given x m piece) (operation_at x piece i).operands ≤ i
    operands_few k piece i at =
        let ops = operations_at x piece in
        let list : IsOperationList ops = facts.lists piece at.exists at.acts in
        let there : IsItem ops i = item_at ops i at.inside in
        let same : there.item ≡ operation_at x piece i = sym (ap operation_in there.is) in
        let once : (number : ℕ) → number < i → takes_by there.item.operands number ≤ 1 =
        λ number low. let w = takes_within ops i number there.item there.is in let inside = at.inside in let o = list.once number (omega (arith, low, inside)) in omega (arith, w, o) in
        subst (λ (op : Operation). failing (is_given x m piece) op.operands ≤ i) same
        (failing_few (is_given x m piece) (given_known piece) i there.item.operands (λ number some. list.later i number there.item there.is some) once)

    module _ (few : node_total x < 2 ^ 32) (lines : x.net.routing.lines < 2 ^ 32) where
      waits_as_few : (k : ℕ) (name : NodeName) → k < node_total x → operation_node x k ≡ name → waits_as x m k name < 2 ^ 34
      waits_as_few k (Op piece i) below is =
          let at = operation_at_node x k piece i below is in
          let number = at.number in
          let l = lines_few piece i in
          let o = operands_few k piece i at in
          let w = one_at_most (is_some (value_at m k)) in
          let r = room_few piece (operation_at x piece i).work in
          omega (arith, below, few, lines, number, l, o, w, r)
      waits_as_few k (Switch piece line) below is =
          let a = one_at_most (not (is_before x.net m.tokens piece line)) in
          let b = one_at_most (not (is_some (left_for m.tokens (switch_number x.net piece line)))) in
          omega (arith, a, b)
      waits_as_few k (Merge piece line) below is = let a = one_at_most (not (is_before x.net m.tokens piece line)) in omega (arith, a)
      waits_as_few k (Act piece) below is = omega arith

      pub waits_few : (k : ℕ) → k < node_total x → waits x m k < 2 ^ 34
      waits_few k below = waits_as_few k (operation_node x k) below refl
