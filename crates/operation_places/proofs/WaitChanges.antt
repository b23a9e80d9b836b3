-- For what nodes wait after a line, a value or an edge that is left has changed.
use Rattle.std.proofs.Common.{◌≡◌, ⊎_elim, ℕ, ℤ, zero, suc, ◌+◌, ◌<◌, ◌&&◌, ◌==◌, Bool, true, false, not, is_some, if◌then◌else◌, List, [], ◌∷◌, length, Option, Some, slice_get, slice_set, refl, sym, ap, ◌∙◌, arith}
use Rattle.std.specs.List.{list_any}
use Rattle.std.proofs.lemmas.Bool.{cases_eq, cases_Bool, eqb-true, eq-eqb, ne_eqb}
use Rattle.std.proofs.lemmas.List.{get_or-set_same, get_or-set_other}
use Rattle.firing.specs.declared.system.NodeName.{NodeName}
use Rattle.firing.specs.declared.system.NodeName.TheVariants.{Act, Merge, Op, Switch}
use Rattle.net_board.specs.Nodes.{first_node, graph_in, kind_in, switch_lines, switches}
use Rattle.net_board.specs.Tokens.{edge_of, is_before, joined, leads_to, left_for}
use Rattle.net_board.specs.WokenNodes.{switch_number}
use Rattle.net_board.proofs.ListPlaces.{get_set_other}
use Rattle.op_board.specs.Operations.{Known, From, Operand, Work, is_decision}
use Rattle.op_board.specs.OperationNets.{OperationNet, first_operation, needed, needing_before, operation_at, operation_node}
use Rattle.op_board.specs.OperationTokens.{OperationTokens, givers, is_given, passed_by, stands_before, value_at, value_of}
use Rattle.operation_tables.specs.Waits.{AreSwitchNodes, IsNodeAfter, IsNodeBefore, decides_for, failing, goes_through, is_switch_at, node_total, one_if, operands_from, stands_at, takes_from, waits, waits_as, waits_for_room}
use Rattle.operation_places.proofs.FailingLists.{change_in_filter, change_in_row, failing_same, one_or_none}

-- ---- what is put into a list

pub put_there : {X : Type 0} (xs : List X) (k : ℕ) (v : X) → k < length xs → slice_get (slice_set xs k v) k ≡ Some v
put_there [] k v inside = absurd (omega (arith, inside))
put_there (x ∷ xs) zero v inside = refl
put_there (x ∷ xs) (suc k) v inside = put_there xs k v (omega (arith, inside))

pub put_elsewhere : {X : Type 0} (xs : List X) (k j : ℕ) (v : X) → (j ≡ k → ⊥) → slice_get (slice_set xs k v) j ≡ slice_get xs j
put_elsewhere xs k j v differ = get_set_other xs k j v (λ e. differ (sym e))

no_and : (b : Bool) → one_if (b && false) ≡ 0
no_and true = refl
no_and false = refl

yes_and : (b : Bool) → one_if (b && true) ≡ one_if b
yes_and true = refl
yes_and false = refl

-- ---- lines

module _ (x : OperationNet) (m : OperationTokens) (line : ℕ) (edge : Option ℕ) (passed : ℕ) (exists : line < x.net.routing.lines) (place : line < length m.tokens.lines) (place_passed : line < length m.passed) where
  -- the marking, with the line put there
  abbrev moved : OperationTokens
  moved = record m { tokens = record m.tokens { lines = slice_set m.tokens.lines line edge }; passed = slice_set m.passed line passed }

  edge_here : edge_of moved.tokens line ≡ edge
  edge_here = ap joined (put_there m.tokens.lines line edge place)

  edge_there : (other : ℕ) → (other ≡ line → ⊥) → edge_of moved.tokens other ≡ edge_of m.tokens other
  edge_there other differ = ap joined (put_elsewhere m.tokens.lines line other edge differ)

  passed_here : passed_by moved line ≡ passed
  passed_here = get_or-set_same m.passed line passed 0 place_passed

  passed_there : (other : ℕ) → (other ≡ line → ⊥) → passed_by moved other ≡ passed_by m other
  passed_there other differ = get_or-set_other m.passed line other passed 0 differ

  module _ (piece i : ℕ) where
    stands_there : (other : ℕ) → (other ≡ line → ⊥) → stands_before x m piece i other ≡ stands_before x moved piece i other
    stands_there other differ =
        ap (λ o. leads_to (graph_in x.net) piece o && (passed_by m other == needing_before x piece i other)) (sym (edge_there other differ))
        ∙ ap (λ n. leads_to (graph_in x.net) piece (edge_of moved.tokens other) && (n == needing_before x piece i other)) (sym (passed_there other differ))

    stands_here : stands_before x moved piece i line ≡ stands_at x edge passed (Op piece i) line
    stands_here =
        ap (λ o. leads_to (graph_in x.net) piece o && (passed_by moved line == needing_before x piece i line)) edge_here
        ∙ ap (λ n. leads_to (graph_in x.net) piece edge && (n == needing_before x piece i line)) passed_here

    lines_wait : failing (stands_before x moved piece i) (needed x piece i) + one_if (x.needs piece i line && stands_at x edge passed (Op piece i) line) ≡ failing (stands_before x m piece i) (needed x piece i) + one_if (x.needs piece i line && stands_before x m piece i line)
    lines_wait =
        ap (λ b. failing (stands_before x moved piece i) (needed x piece i) + one_if (x.needs piece i line && b)) (sym stands_here)
        ∙ change_in_filter (stands_before x m piece i) (stands_before x moved piece i) line stands_there (x.needs piece i) 0 x.net.routing.lines (omega arith) (omega (arith, exists))

    operands_wait : (operands : List Operand) → failing (is_given x moved piece) operands ≡ failing (is_given x m piece) operands
    operands_wait operands = failing_same (is_given x moved piece) (is_given x m piece) operands (λ o among. given o)
      where
        given : (o : Operand) → is_given x moved piece o ≡ is_given x m piece o
        given (Known z) = refl
        given (From number) = refl

  -- a switch or a merge waits for its line
  turn_waits : (piece own : ℕ) → one_if (not (is_before x.net moved.tokens piece own)) + one_if ((own == line) && leads_to (graph_in x.net) piece edge) ≡ one_if (not (is_before x.net m.tokens piece own)) + one_if ((own == line) && leads_to (graph_in x.net) piece (edge_of m.tokens line))
  turn_waits piece own = ⊎_elim
      (λ (e : own ≡ line).
      let same : (own == line) ≡ true = eq-eqb own line e in
      let now : is_before x.net moved.tokens piece own ≡ leads_to (graph_in x.net) piece edge = ap (λ l. is_before x.net moved.tokens piece l) e ∙ ap (leads_to (graph_in x.net) piece) edge_here in
      let was : is_before x.net m.tokens piece own ≡ leads_to (graph_in x.net) piece (edge_of m.tokens line) = ap (λ l. is_before x.net m.tokens piece l) e in
      let now_not = ap (λ b. one_if (not b)) now in
      let was_not = ap (λ b. one_if (not b)) was in
      let now_one = ap (λ b. one_if (b && leads_to (graph_in x.net) piece edge)) same in
      let was_one = ap (λ b. one_if (b && leads_to (graph_in x.net) piece (edge_of m.tokens line))) same in
      let o = one_or_none (leads_to (graph_in x.net) piece edge) in
      let u = one_or_none (leads_to (graph_in x.net) piece (edge_of m.tokens line)) in
      omega (arith, now_not, was_not, now_one, was_one, o, u))
      (λ (differ : own ≡ line → ⊥).
      let other : (own == line) ≡ false = ne_eqb own line differ in
      let same = ap (λ o. one_if (not (leads_to (graph_in x.net) piece o))) (edge_there own differ) in
      let now_one = ap (λ b. one_if (b && leads_to (graph_in x.net) piece edge)) other in
      let was_one = ap (λ b. one_if (b && leads_to (graph_in x.net) piece (edge_of m.tokens line))) other in
      omega (arith, same, now_one, was_one))
      (cases_eq own line)

  line_waits_as : (k : ℕ) (name : NodeName) → waits_as x moved k name + one_if (goes_through x name line && stands_at x edge passed name line) ≡ waits_as x m k name + one_if (goes_through x name line && stands_at x (edge_of m.tokens line) (passed_by m line) name line)
  line_waits_as k (Op piece i) =
      let lines = lines_wait piece i in
      let operands = operands_wait piece i (operation_at x piece i).operands in
      omega (arith, lines, operands)
  line_waits_as k (Switch piece own) = let turn = turn_waits piece own in omega (arith, turn)
  line_waits_as k (Merge piece own) = turn_waits piece own
  line_waits_as k (Act piece) = refl

  -- the node before which the line stood waits for one thing more, and that before which it stands for one less
  pub line_waits : (from to : ℕ) → IsNodeBefore x line (edge_of m.tokens line) (passed_by m line) from → IsNodeBefore x line edge passed to → (j : ℕ) → j < node_total x → waits x moved j + one_if (j == to) ≡ waits x m j + one_if (j == from)
  line_waits from to before after j below =
      ap (λ b. waits x moved j + one_if b) (sym (after j below)) ∙ line_waits_as j (operation_node x j) ∙ ap (λ b. waits x m j + one_if b) (before j below)

-- ---- values

-- the node is an operation
abbrev pub is_operation : NodeName → Bool
is_operation (Op piece i) = true
is_operation _ = false

-- Of two markings one has no value of the node, and the other one has one.
module _ (x : OperationNet) (m : OperationTokens) (without with' : List (Option ℤ)) (k : ℕ) where
  abbrev empty : OperationTokens
  empty = record m { values = without }

  abbrev full : OperationTokens
  full = record m { values = with' }

  module _ (others : (j : ℕ) → (j ≡ k → ⊥) → slice_get with' j ≡ slice_get without j) (none : is_some (value_at empty k) ≡ false) (some : is_some (value_at full k) ≡ true) where
    value_there : (j : ℕ) → (j ≡ k → ⊥) → one_if (is_some (value_at full j)) ≡ one_if (is_some (value_at empty j))
    value_there j differ = ap (λ o. one_if (is_some (value_of o))) (others j differ)

    own_waits : (j : ℕ) → one_if (is_some (value_at full j)) ≡ one_if (is_some (value_at empty j)) + one_if (j == k)
    own_waits j = ⊎_elim
        (λ (e : j ≡ k).
        let now : one_if (is_some (value_at full j)) ≡ 1 = ap (λ i. one_if (is_some (value_at full i))) e ∙ ap one_if some in
        let was : one_if (is_some (value_at empty j)) ≡ 0 = ap (λ i. one_if (is_some (value_at empty i))) e ∙ ap one_if none in
        let here : one_if (j == k) ≡ 1 = ap one_if (eq-eqb j k e) in
        omega (arith, now, was, here))
        (λ (differ : j ≡ k → ⊥).
        let same = value_there j differ in
        let there : one_if (j == k) ≡ 0 = ap one_if (ne_eqb j k differ) in
        omega (arith, same, there))
        (cases_eq j k)

    operand_waits : (j : ℕ) → one_if (not (is_some (value_at full j))) + one_if (j == k) ≡ one_if (not (is_some (value_at empty j)))
    operand_waits j =
        let own = own_waits j in
        let o = one_or_none (is_some (value_at full j)) in
        let u = one_or_none (is_some (value_at empty j)) in
        omega (arith, own, o, u)

    operands_wait_for : (piece : ℕ) (operands : List Operand) → failing (is_given x full piece) operands + operands_from (givers x piece operands) k ≡ failing (is_given x empty piece) operands
    operands_wait_for piece [] = refl
    operands_wait_for piece (Known z ∷ operands) = let rest = operands_wait_for piece operands in omega (arith, rest)
    operands_wait_for piece (From number ∷ operands) =
        let rest = operands_wait_for piece operands in
        let here = operand_waits (first_operation x piece + number) in
        omega (arith, rest, here)

    other : (j w : ℕ) → ((j == k) ≡ true → ⊥) → w + 0 ≡ w + one_if (j == k)
    other j w differ = ⊎_elim (λ same. absurd (differ same)) (λ there. ap (λ b. w + one_if b) (sym there)) (cases_Bool (j == k))

    value_waits_as : (j : ℕ) (name : NodeName) → ((j == k) ≡ true → is_operation name ≡ true) → waits_as x full j name + takes_from x name k ≡ waits_as x empty j name + one_if (j == k)
    value_waits_as j (Op piece i) operates =
        let operands = operands_wait_for piece (operation_at x piece i).operands in
        let own = own_waits j in
        omega (arith, operands, own)
    value_waits_as j (Switch piece line) operates = other j (waits_as x full j (Switch piece line)) (λ same. let e : false ≡ true = operates same in absurd cc)
    value_waits_as j (Merge piece line) operates = other j (waits_as x full j (Merge piece line)) (λ same. let e : false ≡ true = operates same in absurd cc)
    value_waits_as j (Act piece) operates = other j 1 (λ same. let e : false ≡ true = operates same in absurd cc)

    -- the node waits for one thing more while it has a value, and the one that takes it for one less
    pub value_waits : (taker : ℕ) → is_operation (operation_node x k) ≡ true → IsNodeAfter x k taker → (j : ℕ) → j < node_total x → waits x full j + one_if (j == taker) ≡ waits x empty j + one_if (j == k)
    value_waits taker operates after j below =
        ap (λ n. waits x full j + n) (sym (after j below)) ∙ value_waits_as j (operation_node x j) (λ same. ap (λ i. is_operation (operation_node x i)) (eqb-true j k same) ∙ operates)

-- ---- edges that are left for switches

-- In one of two markings nothing is left for the switch, and in the other one an edge.
module _ (x : OperationNet) (m : OperationTokens) (without with' : List (Option ℕ)) (switch : ℕ) where
  abbrev clear : OperationTokens
  clear = record m { tokens = record m.tokens { edges = without } }

  abbrev left : OperationTokens
  left = record m { tokens = record m.tokens { edges = with' } }

  module _ (others : (j : ℕ) → (j ≡ switch → ⊥) → slice_get with' j ≡ slice_get without j) (none : is_some (left_for clear.tokens switch) ≡ false) (some : is_some (left_for left.tokens switch) ≡ true) where
    abbrev is_free_in : OperationTokens → ℕ → Bool
    is_free_in n j = not (is_some (left_for n.tokens j))

    free_there : (j : ℕ) → (j ≡ switch → ⊥) → is_free_in clear j ≡ is_free_in left j
    free_there j differ = ap (λ o. not (is_some (joined o))) (sym (others j differ))

    room_waits : (piece : ℕ) (work : Work) → waits_for_room x left piece work ≡ waits_for_room x clear piece work + one_if (is_decision work && list_any (λ n. n == switch) (switches x.net piece))
    room_waits piece work = by (is_decision work)
      where
        row : failing (is_free_in left) (switches x.net piece) ≡ failing (is_free_in clear) (switches x.net piece) + one_if (list_any (λ n. n == switch) (switches x.net piece))
        row =
            let change = change_in_row (is_free_in clear) (is_free_in left) switch free_there (suc (first_node x.net piece)) (length (switch_lines x.net piece (kind_in x.net piece))) in
            let now : one_if (list_any (λ n. n == switch) (switches x.net piece) && is_free_in left switch) ≡ 0 = ap (λ b. one_if (list_any (λ n. n == switch) (switches x.net piece) && not b)) some ∙ no_and (list_any (λ n. n == switch) (switches x.net piece)) in
            let was : one_if (list_any (λ n. n == switch) (switches x.net piece) && is_free_in clear switch) ≡ one_if (list_any (λ n. n == switch) (switches x.net piece)) = ap (λ b. one_if (list_any (λ n. n == switch) (switches x.net piece) && not b)) none ∙ yes_and (list_any (λ n. n == switch) (switches x.net piece)) in
            omega (arith, change, now, was)

        by : (b : Bool) → (if b then failing (is_free_in left) (switches x.net piece) else 0) ≡ (if b then failing (is_free_in clear) (switches x.net piece) else 0) + one_if (b && list_any (λ n. n == switch) (switches x.net piece))
        by true = row
        by false = refl

    turn_of_switch : (number : ℕ) → one_if (not (is_some (left_for left.tokens number))) + one_if (number == switch) ≡ one_if (not (is_some (left_for clear.tokens number)))
    turn_of_switch number = ⊎_elim
        (λ (e : number ≡ switch).
        let now : one_if (is_free_in left number) ≡ 0 = ap (λ i. one_if (is_free_in left i)) e ∙ ap (λ b. one_if (not b)) some in
        let was : one_if (is_free_in clear number) ≡ 1 = ap (λ i. one_if (is_free_in clear i)) e ∙ ap (λ b. one_if (not b)) none in
        let here : one_if (number == switch) ≡ 1 = ap one_if (eq-eqb number switch e) in
        omega (arith, now, was, here))
        (λ (differ : number ≡ switch → ⊥).
        let same = ap one_if (free_there number differ) in
        let there : one_if (number == switch) ≡ 0 = ap one_if (ne_eqb number switch differ) in
        omega (arith, same, there))
        (cases_eq number switch)

    operands_wait_alike : (piece : ℕ) (operands : List Operand) → failing (is_given x left piece) operands ≡ failing (is_given x clear piece) operands
    operands_wait_alike piece operands = failing_same (is_given x left piece) (is_given x clear piece) operands (λ o among. given o)
      where
        given : (o : Operand) → is_given x left piece o ≡ is_given x clear piece o
        given (Known z) = refl
        given (From number) = refl

    edge_waits_as : (j : ℕ) (name : NodeName) → waits_as x left j name + one_if (is_switch_at x name switch) ≡ waits_as x clear j name + one_if (decides_for x name switch)
    edge_waits_as j (Op piece i) =
        let room = room_waits piece (operation_at x piece i).work in
        let operands = operands_wait_alike piece (operation_at x piece i).operands in
        omega (arith, room, operands)
    edge_waits_as j (Switch piece line) = let turn = turn_of_switch (switch_number x.net piece line) in omega (arith, turn)
    edge_waits_as j (Merge piece line) = refl
    edge_waits_as j (Act piece) = refl

    -- the decision waits for one thing more while the edge is left, and the switch for one less
    pub edge_waits : (node decision : ℕ) → AreSwitchNodes x switch node decision → (j : ℕ) → j < node_total x → waits x left j + one_if (j == node) ≡ waits x clear j + one_if (j == decision)
    edge_waits node decision are j below =
        ap (λ b. waits x left j + one_if b) (sym (are.taken j below)) ∙ edge_waits_as j (operation_node x j) ∙ ap (λ b. waits x clear j + one_if b) (are.decided j below)
