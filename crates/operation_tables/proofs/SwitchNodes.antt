-- Which node a switch is, and which one decides for it.
use Rattle.std.proofs.Common.{◌≡◌, ◌<◌, ℕ, suc, ◌+◌, ◌-◌, ◌&&◌, ◌==◌, true, length, Some, slice_get, refl, sym, ap, ◌∙◌, subst, arith}
use Rattle.std.specs.List.{list_any}
use Rattle.std.specs.Option.{option_map}
use Rattle.std.proofs.lemmas.Bool.{and_from, and_parts, eqb-true, eq-eqb}
use Rattle.std.proofs.lemmas.List.{length-map}
use Rattle.std.proofs.lemmas.Option.{slice_get-map}
use Rattle.cfg_build.specs.declared.pieces.PieceKind.{PieceKind}
use Rattle.cfg_build.specs.declared.pieces.PieceKind.TheVariants as kind
use Rattle.dep_routing.specs.Touches.{exec_kind}
use Rattle.firing.specs.declared.system.NodeName.{NodeName}
use Rattle.firing.specs.declared.system.NodeName.TheVariants.{Act, Merge, Switch, Op}
use Rattle.list_laws.specs.Member.{Member}
use Rattle.list_laws.proofs.Members.{IsPassed, list_any_member, member_of_list_any}
use Rattle.net_board.specs.Nodes.{graph_in, kind_in, first_node, is_acting, node_at, node_count, nodes_at, nodes_by, nodes_of, passing, switch_lines, switches}
use Rattle.net_board.specs.WokenNodes.{switch_number}
use Rattle.net_board.proofs.ListPrefixes.{HasItem, item_at}
use Rattle.net_board.proofs.NodeLaws.{one_number, switch_is}
use Rattle.net_board.proofs.NodeNumbers.{get_within}
use Rattle.net_board.proofs.PieceSteps.{node_below, node_named}
use Rattle.op_board.specs.OperationFacts.{is_parting}
use Rattle.operation_tables.specs.PlanFacts.{PlanFacts}
use Rattle.op_board.specs.OperationNets.{OperationNet, first_operation, operation_at, operation_count, operation_node}
use Rattle.op_board.specs.Operations.{is_decision}
use Rattle.op_board.proofs.ListEnds.{decisions_end}
use Rattle.op_board.proofs.OperationNumbers.{IsOperationNamed, operation_named, switch_named}
use Rattle.op_board.proofs.OperationsApart.{operation_get}
use Rattle.op_board.proofs.PieceNodes.{others_same}
use Rattle.operation_tables.specs.Waits.{AreSwitchNodes, decides_for, is_switch_at, node_total}
use Rattle.operation_tables.proofs.NodeNames.{IsNodeAt, IsOperationAt, IsSwitchAt, acts_where, node_is_at, operation_at_node, operation_name_at, same_nodes, switch_at_node}
use Rattle.operation_tables.proofs.NodesBefore.{holds_at_one}

module _ (x : OperationNet) where
  -- ---- decisions

  decides_as : (piece i : ℕ) → i < operation_count x piece → is_decision (operation_at x piece i).work ≡ (is_parting (kind_in x.net piece) && (suc i == operation_count x piece))
  decides_as piece i inside = decisions_end x.net.program.names (kind_in x.net piece) (exec_kind x.net.program piece) i (operation_at x piece i) (operation_get x piece i inside)

  -- a decision is the last operation of its piece
  pub decision_last : (piece i : ℕ) → i < operation_count x piece → is_decision (operation_at x piece i).work ≡ true → suc i ≡ operation_count x piece
  decision_last piece i inside decides =
      eqb-true (suc i) (operation_count x piece) ((and_parts (is_parting (kind_in x.net piece)) (suc i == operation_count x piece) (sym (decides_as piece i inside) ∙ decides)).1)

  -- and that decides where edges part
  pub last_decides : (piece : ℕ) → is_parting (kind_in x.net piece) ≡ true → 0 < operation_count x piece → is_decision (operation_at x piece (operation_count x piece - 1)).work ≡ true
  last_decides piece parts some =
      decides_as piece (operation_count x piece - 1) (omega (arith, some))
      ∙ and_from (is_parting (kind_in x.net piece)) (suc (operation_count x piece - 1) == operation_count x piece) parts (eq-eqb (suc (operation_count x piece - 1)) (operation_count x piece) (omega (arith, some)))

  -- a piece at which edges part has operations where it has a switch
  pub some_operations : (facts : PlanFacts x) (k piece line : ℕ) → k < node_total x → operation_node x k ≡ Switch piece line → 0 < operation_count x piece
  some_operations facts k piece line below is =
      let at : IsSwitchAt x k piece line = switch_at_node x k piece line below is in
      (facts.lists piece at.exists at.acts).some

  -- ---- the switches of a piece

  -- each switch of a piece is a node after its first one
  pub record IsSwitchPlace (piece place : ℕ) : Type 0 where
    pub line : ℕ
    pub at : slice_get (nodes_at x.net piece) (suc place) ≡ Some (Switch piece line)

  record IsLinePlace (piece : ℕ) (k : PieceKind) (place : ℕ) : Type 0 where
    pub line : ℕ
    pub at : slice_get (nodes_by x.net piece k) (suc place) ≡ Some (Switch piece line)

  passing_place : (piece place : ℕ) → place < length (passing x.net piece) → IsLinePlace piece kind.Branch place
  passing_place piece place low =
      let r : HasItem (passing x.net piece) place = item_at (passing x.net piece) place low in
      record { line = r.item; at = slice_get-map (Switch piece) (passing x.net piece) place ∙ ap (option_map (Switch piece)) r.at }

  line_place : (piece place : ℕ) (k : PieceKind) → place < length (switch_lines x.net piece k) → IsLinePlace piece k place
  line_place piece place kind.Branch low = passing_place piece place low
  line_place piece place kind.Hold low = let r : IsLinePlace piece kind.Branch place = passing_place piece place low in record { line = r.line; at = r.at }
  line_place piece place kind.Act low = absurd (omega (arith, low))
  line_place piece place kind.Start low = absurd (omega (arith, low))
  line_place piece place kind.Pass low = absurd (omega (arith, low))
  line_place piece place kind.Join low = absurd (omega (arith, low))
  line_place piece place kind.End low = absurd (omega (arith, low))

  switch_at_place : (piece place : ℕ) → place < length (switch_lines x.net piece (kind_in x.net piece)) → IsSwitchPlace piece place
  switch_at_place piece place low = let r : IsLinePlace piece (kind_in x.net piece) place = line_place piece place (kind_in x.net piece) low in record { line = r.line; at = r.at }

  count_by : (piece : ℕ) (k : PieceKind) → is_acting k ≡ true → length (nodes_by x.net piece k) ≡ suc (length (switch_lines x.net piece k))
  count_by piece kind.Act acts = refl
  count_by piece kind.Branch acts = ap suc (length-map (passing x.net piece) (Switch piece))
  count_by piece kind.Hold acts = ap suc (length-map (passing x.net piece) (Switch piece))
  count_by piece kind.Start acts = absurd cc
  count_by piece kind.Pass acts = absurd cc
  count_by piece kind.Join acts = absurd cc
  count_by piece kind.End acts = absurd cc

  -- in the net of statements such a piece has its switches, and one node more
  pub switch_count : (piece : ℕ) → is_acting (kind_in x.net piece) ≡ true → node_count x.net piece ≡ suc (length (switch_lines x.net piece (kind_in x.net piece)))
  switch_count piece acts = count_by piece (kind_in x.net piece) acts

  -- ---- the nodes of a switch

  in_switches : (piece switch : ℕ) → list_any (λ n. n == switch) (switches x.net piece) ≡ true → Member (switches x.net piece) switch
  in_switches piece switch is =
      let r : IsPassed (λ n. n == switch) (switches x.net piece) = member_of_list_any (λ n. n == switch) (switches x.net piece) is in
      subst (λ (n : ℕ). Member (switches x.net piece) n) (eqb-true r.one switch r.passes) r.among

  same_piece : (p q a b : ℕ) → Switch p a ≡ Switch q b → p ≡ q
  same_piece p q a b e = cc

  -- the name of a switch in the net of statements
  pub statement_name : (k piece line : ℕ) → k < node_total x → operation_node x k ≡ Switch piece line → node_at x.net (switch_number x.net piece line) ≡ Switch piece line
  statement_name k piece line below is =
      let own : IsOperationNamed x (Switch piece line) = subst (λ a. IsOperationNamed x a) is (operation_named x k below) in
      switch_named x.net piece line own.exists own.fits.2

  module _ (k piece line i : ℕ) (below : k < node_total x) (named : operation_node x k ≡ Switch piece line) (inside : i < operation_count x piece) (decides : is_decision (operation_at x piece i).work ≡ true) where
    abbrev switch : ℕ
    switch = switch_number x.net piece line

    at : IsSwitchAt x k piece line
    at = switch_at_node x k piece line below named

    its_decision : (j : ℕ) (name : NodeName) → j < node_total x → operation_node x j ≡ name → decides_for x name switch ≡ true → j ≡ first_operation x piece + i
    its_decision j (Op p a) low is holds =
        let own : IsOperationAt x j p a = operation_at_node x j p a low is in
        let parts = and_parts (is_decision (operation_at x p a).work) (list_any (λ n. n == switch) (switches x.net p)) holds in
        let r = switch_is x.net p switch own.exists (in_switches p switch parts.1) in
        let same : p ≡ piece = same_piece p piece r.line line (sym r.is ∙ statement_name k piece line below named) in
        let last : suc a ≡ operation_count x piece = subst (λ (n : ℕ). suc a ≡ operation_count x n) same (decision_last p a own.inside parts.0) in
        let own_last = decision_last piece i inside decides in
        let number : j ≡ first_operation x piece + a = subst (λ (n : ℕ). j ≡ first_operation x n + a) same own.number in
        omega (arith, number, last, own_last)
    its_decision j (Switch p own) low is holds = absurd cc
    its_decision j (Merge p own) low is holds = absurd cc
    its_decision j (Act p) low is holds = absurd cc

    decision_decides : (j : ℕ) → j ≡ first_operation x piece + i → decides_for x (operation_node x j) switch ≡ true
    decision_decides j e =
        subst (λ (name : NodeName). decides_for x name switch ≡ true) (sym (ap (operation_node x) e ∙ operation_name_at x piece i at.exists inside))
        (and_from (is_decision (operation_at x piece i).work) (list_any (λ n. n == switch) (switches x.net piece)) decides
        (list_any_member (λ n. n == switch) (switches x.net piece) switch at.among (eq-eqb switch switch refl)))

    its_node : (j : ℕ) (name : NodeName) → j < node_total x → operation_node x j ≡ name → is_switch_at x name switch ≡ true → j ≡ k
    its_node j (Switch p own) low is holds =
        let same : Switch p own ≡ Switch piece line =
        sym (statement_name j p own low is) ∙ ap (node_at x.net) (eqb-true (switch_number x.net p own) switch holds) ∙ statement_name k piece line below named
        in
        same_nodes x j k low below (is ∙ same ∙ sym named)
    its_node j (Op p a) low is holds = absurd cc
    its_node j (Merge p own) low is holds = absurd cc
    its_node j (Act p) low is holds = absurd cc

    node_takes : (j : ℕ) → j ≡ k → is_switch_at x (operation_node x j) switch ≡ true
    node_takes j e = subst (λ (name : NodeName). is_switch_at x name switch ≡ true) (sym (ap (operation_node x) e ∙ named)) (eq-eqb switch switch refl)

    are_nodes : AreSwitchNodes x switch k (first_operation x piece + i)
    are_nodes = record {
      decided = λ j low. holds_at_one (decides_for x (operation_node x j) switch) j (first_operation x piece + i) (its_decision j (operation_node x j) low refl) (decision_decides j);
      taken = λ j low. holds_at_one (is_switch_at x (operation_node x j) switch) j k (its_node j (operation_node x j) low refl) (node_takes j);
    }

  -- of a switch its node and the decision of its piece
  pub switch_nodes : (facts : PlanFacts x) (k piece line : ℕ) → k < node_total x → operation_node x k ≡ Switch piece line → AreSwitchNodes x (switch_number x.net piece line) k (first_operation x piece + (operation_count x piece - 1))
  switch_nodes facts k piece line below is =
      let at : IsSwitchAt x k piece line = switch_at_node x k piece line below is in
      let some = some_operations facts k piece line below is in
      are_nodes k piece line (operation_count x piece - 1) below is (omega (arith, some)) (last_decides piece at.parts some)

  -- and of the switches of a decision, one after another
  pub decided_switches : (piece i place : ℕ) → piece < (graph_in x.net).nodes → i < operation_count x piece → is_decision (operation_at x piece i).work ≡ true → place < length (switch_lines x.net piece (kind_in x.net piece)) → AreSwitchNodes x (suc (first_node x.net piece) + place) (first_operation x piece + (i + 1 + place)) (first_operation x piece + i)
  decided_switches piece i place exists inside decides low =
      let s : IsSwitchPlace piece place = switch_at_place piece place low in
      let acts = acts_where x piece i inside in
      let node : IsNodeAt x (first_operation x piece + (operation_count x piece + place)) (Switch piece s.line) = node_is_at x piece (operation_count x piece + place) (Switch piece s.line) exists (others_same x piece acts place (Switch piece s.line) s.at) in
      let at : IsSwitchAt x (first_operation x piece + (operation_count x piece + place)) piece s.line = switch_at_node x (first_operation x piece + (operation_count x piece + place)) piece s.line node.below node.named in
      let last = decision_last piece i inside decides in
      let k : first_operation x piece + (operation_count x piece + place) ≡ first_operation x piece + (i + 1 + place) = omega (arith, last) in
      let there : node_at x.net (first_node x.net piece + suc place) ≡ Switch piece s.line = node_named x.net piece (suc place) (Switch piece s.line) exists s.at in
      let within : first_node x.net piece + suc place < length (nodes_of x.net) = node_below x.net piece (suc place) exists (get_within (nodes_at x.net piece) (suc place) (Switch piece s.line) s.at) in
      let number : switch_number x.net piece s.line ≡ first_node x.net piece + suc place =
      one_number x.net (switch_number x.net piece s.line) (first_node x.net piece + suc place) at.below within
      (statement_name (first_operation x piece + (operation_count x piece + place)) piece s.line node.below node.named ∙ sym there)
      in
      let switch : switch_number x.net piece s.line ≡ suc (first_node x.net piece) + place = omega (arith, number) in
      subst (λ (n : ℕ). AreSwitchNodes x n (first_operation x piece + (i + 1 + place)) (first_operation x piece + i)) switch
      (subst (λ (n : ℕ). AreSwitchNodes x (switch_number x.net piece s.line) n (first_operation x piece + i)) k
      (are_nodes (first_operation x piece + (operation_count x piece + place)) piece s.line i node.below node.named inside decides))
