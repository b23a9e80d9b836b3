-- Where the firing of the node that is due moves control.
use Rattle.std.proofs.Common.{◌≡◌, ◌<◌, ◌≤◌, ◌+◌, ◌-◌, ◌==◌, ◌||◌, ◌⊎◌, inl, inr, ℕ, suc, nat_lt, Bool, true, false, if◌then◌else◌, cond, List, map, Option, Some, None, slice_get, refl, sym, ap, subst, ◌∙◌, lt-ltb, arith}
use Rattle.std.proofs.lemmas.Bool.{cases_Bool, eqb-true, eq-eqb, le-ltb}
use Rattle.std.proofs.lemmas.Option.{slice_get-map}
use Rattle.std.specs.Option.{option_map}
use Rattle.cfg_build.specs.declared.pieces.PieceKind.{PieceKind}
use Rattle.cfg_build.specs.declared.pieces.PieceKind.TheVariants as kind
use Rattle.cfg_build.specs.Joined.{is_end}
use Rattle.cfg_build.specs.Passes.{out}
use Rattle.firing.specs.Control.{steered, is_node}
use Rattle.firing.specs.declared.system.NodeName.{NodeName}
use Rattle.firing.specs.declared.system.NodeName.TheVariants.{Merge, Op, Switch}
use Rattle.net_board.specs.declared.control.Control.{Control}
use Rattle.net_board.specs.ControlCourse.{arrival, arrived}
use Rattle.net_board.specs.ControlPlaces.{IsPlaced}
use Rattle.net_board.specs.Nodes.{NetOf, graph_in, is_acting, kind_in, led_to, nodes_by}
use Rattle.op_board.specs.OperationCourse.{choice_of, control_after, decided, due_operation, edge_taken, operation_course}
use Rattle.op_board.specs.OperationLists.{IsOperationList}
use Rattle.op_board.specs.OperationNets.{OperationNet, all_operation_nodes, first_operation, operation_at, operation_count, operation_node, operation_node_count, operation_nodes_at, operations_at}
use Rattle.op_board.specs.OperationTokens.{OperationTokens, performed_at}
use Rattle.op_board.proofs.LockstepOperations.{IsDueOperation, due_operation_is}
use Rattle.op_board.proofs.OperationControl.{idle_decided}
use Rattle.op_board.proofs.OperationNumbers.{operation_is, operation_of}
use Rattle.op_board.proofs.PieceNodes.{nodes_same}
use Rattle.operation_tables.specs.PlanFacts.{PlanFacts}
use Rattle.operation_places.specs.Steering.{LeadsBy}
use Rattle.operation_places.specs.Visits.{IsVisit}
use Rattle.operation_tables.specs.Waits.{node_total}
use Rattle.operation_places.specs.declared.control_moves.Visit.{Visit}
use Rattle.operation_tables.proofs.NodeNames.{operation_name_at}

-- ---- where it leads

module _ (x : OperationNet) (m : OperationTokens) where
  pub leaves_are : (c : Control) (edge leaves : ℕ) → leaves ≡ (if c.fired == operation_count x c.piece - 1 then edge else c.leaves) → (c.fired ≡ operation_count x c.piece - 1 → decided x m c.piece c.fired ≡ edge) → leaves ≡ edge_taken x m c
  leaves_are c edge leaves is takes = by (cases_Bool (c.fired == operation_count x c.piece - 1))
    where
      by : ((c.fired == operation_count x c.piece - 1) ≡ true) ⊎ ((c.fired == operation_count x c.piece - 1) ≡ false) → leaves ≡ edge_taken x m c
      by (inl last) = is ∙ ap (λ (b : Bool). if b then edge else c.leaves) last ∙ sym (takes (eqb-true c.fired (operation_count x c.piece - 1) last)) ∙ ap (λ (b : Bool). if b then decided x m c.piece c.fired else c.leaves) (sym last)
      by (inr other) = is ∙ ap (λ (b : Bool). if b then edge else c.leaves) other ∙ ap (λ (b : Bool). if b then decided x m c.piece c.fired else c.leaves) (sym other)

  stays_or_goes : (c : Control) (goes : Bool) → (nat_lt (suc c.fired) (operation_node_count x c.piece) || is_end (kind_in x.net c.piece)) ≡ goes → control_after x m c ≡ (if goes then record { piece = c.piece; fired = suc c.fired; leaves = edge_taken x m c } else arrived x.net (edge_taken x m c))
  stays_or_goes c goes is = ap (λ (b : Bool). if b then record { piece = c.piece; fired = suc c.fired; leaves = edge_taken x m c } else arrived x.net (edge_taken x m c)) is

  pub moved_unless : (c : Control) (leaves piece : ℕ) → leaves ≡ edge_taken x m c → piece ≡ arrival x.net leaves → (nat_lt (suc c.fired) (operation_node_count x c.piece) || is_end (kind_in x.net c.piece)) ≡ false → (record { piece = piece; fired = 0; leaves = 0 }) ≡ control_after x m c
  moved_unless c leaves piece are comes goes =
      ap (λ (p : ℕ). record { piece = p; fired = 0; leaves = 0 }) comes
      ∙ ap (arrived x.net) are
      ∙ sym (stays_or_goes c false goes)

  pub steered_if : (control : Option Control) (c moved : Control) (k : ℕ) → control ≡ Some c → due_operation x c ≡ Some k → moved ≡ control_after x m c → Some moved ≡ steered (operation_course x) m control k
  steered_if control c moved k stands due is =
      let here : is_node (due_operation x c) k ≡ true = ap (λ o. is_node o k) due ∙ eq-eqb k k refl in
      ap (λ (d : Control). Some d) is
      ∙ ap (λ (b : Bool). cond b (Some (control_after x m c)) None) (sym here)
      ∙ ap (λ (o : Option Control). steered (operation_course x) m o k) (sym stands)

-- ---- visits

module _ (x : OperationNet) (v : Visit) (is : IsVisit x v) where
  abbrev number_due : ℕ
  number_due = first_operation x v.control.piece + v.control.fired

  pub due_some : v.control.fired < v.count → Some (v.first + v.control.fired) ≡ due_operation x v.control
  due_some low =
      let test : nat_lt v.control.fired (operation_node_count x v.control.piece) ≡ true = ap (nat_lt v.control.fired) (sym is.count) ∙ lt-ltb v.control.fired v.count low in
      ap (λ (n : ℕ). Some (n + v.control.fired)) is.first ∙ ap (λ (b : Bool). if b then Some number_due else None) (sym test)

  pub due_none : v.count ≤ v.control.fired → None ≡ due_operation x v.control
  due_none high =
      let test : nat_lt v.control.fired (operation_node_count x v.control.piece) ≡ false = ap (nat_lt v.control.fired) (sym is.count) ∙ le-ltb v.control.fired v.count high in
      ap (λ (b : Bool). if b then Some number_due else None) (sym test)

pub one_of : (bound edge old leaves : ℕ) (b : Bool) → leaves ≡ (if b then edge else old) → edge < bound → old < bound → leaves < bound
one_of bound edge old leaves true is new before = subst (λ (e : ℕ). e < bound) (sym is) new
one_of bound edge old leaves false is new before = subst (λ (e : ℕ). e < bound) (sym is) before

-- ---- the edge that the last operation of a piece takes, or the first node of one without operations

-- what such a node is
abbrev DueIs : OperationNet → Control → NodeName → Type 0
DueIs x c name = (name ≡ Op c.piece c.fired) ⊎ ((line : ℕ) × (name ≡ Merge c.piece line) × (is_acting (kind_in x.net c.piece) ≡ false))

module _ (net : NetOf) (piece : ℕ) where
  merge_at : (lines : List ℕ) (j : ℕ) (name : NodeName) → option_map (Merge piece) (slice_get lines j) ≡ Some name → (line : ℕ) × (name ≡ Merge piece line)
  merge_at lines j name at = by (slice_get lines j) at
    where
      by : (o : Option ℕ) → option_map (Merge piece) o ≡ Some name → (line : ℕ) × (name ≡ Merge piece line)
      by None e = absurd cc
      by (Some line) e = let same : name ≡ Merge piece line = cc in (line, same)

  joins_at : (j : ℕ) (name : NodeName) → slice_get (map (Merge piece) (led_to net piece)) j ≡ Some name → (line : ℕ) × (name ≡ Merge piece line)
  joins_at j name at = merge_at (led_to net piece) j name (sym (slice_get-map (Merge piece) (led_to net piece) j) ∙ at)

  -- the nodes of a piece without operations are merges
  idle_at : (k : PieceKind) (j : ℕ) (name : NodeName) → is_acting k ≡ false → slice_get (nodes_by net piece k) j ≡ Some name → (line : ℕ) × (name ≡ Merge piece line)
  idle_at kind.Act j name idle at = absurd cc
  idle_at kind.Branch j name idle at = absurd cc
  idle_at kind.Hold j name idle at = absurd cc
  idle_at kind.Join j name idle at = joins_at j name at
  idle_at kind.End j name idle at = joins_at j name at
  idle_at kind.Start j name idle at = absurd cc
  idle_at kind.Pass j name idle at = absurd cc

module _ (x : OperationNet) (facts : PlanFacts x) (k : ℕ) (below : k < node_total x) where
  due_last : (c : Control) → IsPlaced x.net c → due_operation x c ≡ Some k → c.fired ≡ operation_count x c.piece - 1 → DueIs x c (operation_node x k)
  due_last c placed due last = by (is_acting (kind_in x.net c.piece)) refl
    where
      is_due : IsDueOperation x c k
      is_due = due_operation_is x c k due

      by : (acts : Bool) → is_acting (kind_in x.net c.piece) ≡ acts → DueIs x c (operation_node x k)
      by true acts =
          let list : IsOperationList (operations_at x c.piece) = facts.lists c.piece placed.piece acts in
          let some : 0 < operation_count x c.piece = list.some in
          inl (ap (operation_node x) (sym is_due.is) ∙ operation_name_at x c.piece c.fired placed.piece (omega (arith, some, last)))
      by false idle =
          let at : slice_get (operation_nodes_at x c.piece) c.fired ≡ Some (operation_node x k) = sym (operation_of x c.piece c.fired placed.piece is_due.low) ∙ ap (slice_get (all_operation_nodes x)) is_due.is ∙ operation_is x k below in
          let merge = idle_at x.net c.piece (kind_in x.net c.piece) c.fired (operation_node x k) idle (ap (λ (names : List NodeName). slice_get names c.fired) (sym (nodes_same x c.piece idle)) ∙ at) in
          inr (merge.0, merge.1, idle)

  module _ (m : OperationTokens) where
    pub operation_leads : (piece i choice : ℕ) → operation_node x k ≡ Op piece i → choice_of (performed_at x m piece (operation_at x piece i)) ≡ choice → LeadsBy x m k (out (graph_in x.net) piece choice)
    operation_leads piece i choice name told c placed due last = by (due_last c placed due last)
      where
        by : DueIs x c (operation_node x k) → decided x m c.piece c.fired ≡ out (graph_in x.net) piece choice
        by (inl is) =
            let e : Op c.piece c.fired ≡ Op piece i = sym is ∙ name in
            let same : c.piece ≡ piece = cc in
            let here : c.fired ≡ i = cc in
            ap (λ (p : ℕ). decided x m p c.fired) same ∙ ap (decided x m piece) here ∙ ap (out (graph_in x.net) piece) told
        by (inr (line, is, idle)) = let e : Merge c.piece line ≡ Op piece i = sym is ∙ name in absurd cc

    pub switch_leads : (piece line edge : ℕ) → operation_node x k ≡ Switch piece line → LeadsBy x m k edge
    switch_leads piece line edge name c placed due last = by (due_last c placed due last)
      where
        by : DueIs x c (operation_node x k) → decided x m c.piece c.fired ≡ edge
        by (inl is) = let e : Op c.piece c.fired ≡ Switch piece line = sym is ∙ name in absurd cc
        by (inr (other, is, idle)) = let e : Merge c.piece other ≡ Switch piece line = sym is ∙ name in absurd cc

    pub merge_leads : (piece line : ℕ) → operation_node x k ≡ Merge piece line → LeadsBy x m k (out (graph_in x.net) piece 0)
    merge_leads piece line name c placed due last = by (due_last c placed due last)
      where
        by : DueIs x c (operation_node x k) → decided x m c.piece c.fired ≡ out (graph_in x.net) piece 0
        by (inl is) = let e : Op c.piece c.fired ≡ Merge piece line = sym is ∙ name in absurd cc
        by (inr (other, is, idle)) =
            let e : Merge c.piece other ≡ Merge piece line = sym is ∙ name in
            let same : c.piece ≡ piece = cc in
            idle_decided x m c.piece c.fired idle ∙ ap (λ (p : ℕ). out (graph_in x.net) p 0) same
