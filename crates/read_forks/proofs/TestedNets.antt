-- Loads of a net are tested, one after another.
use Rattle.std.proofs.Common.{◌≡◌, ◌<◌, ◌⊎◌, inl, inr, ⊎_elim, ℕ, ◌+◌, Bool, true, false, List, length, set, Some, slice_get, refl, sym, ap, ◌∙◌, subst, arith}
use Rattle.std.proofs.lemmas.Bool.{cases_eq}
use Rattle.firing.specs.ReadySet.{has}
use Rattle.firing.specs.declared.system.NodeName.TheVariants.{Op}
use Rattle.op_board.specs.OperationNets.{OperationNet, operation_node}
use Rattle.op_board.specs.OperationTokens.{OperationTokens, operation_moves}
use Rattle.op_net.specs.ApartLoads.{MarksOthers, apart_of, flags_of}
use Rattle.op_net.specs.NetView.{marking_of as operations_on, net_of as net_in}
use Rattle.operation_tables.specs.Waits.{node_total}
use Rattle.op_net.specs.declared.net.OpNet.{OpNet}
use Rattle.fork_board.specs.ForkTokens.{fork_moves, is_load_node}
use Rattle.fork_board.proofs.ForkNodes.{other_ready}
use Rattle.read_forks.specs.ForkView.{marking_of, net_of}
use Rattle.read_forks.specs.MarkedNets.{AreLoadsApart}
use Rattle.read_forks.specs.WaitingLoads.{waits_for_nothing}
use Rattle.read_forks.specs.declared.fork_net.ForkNet.{ForkNet}
use Rattle.read_forks.specs.declared.steps.Step.{Step}
use Rattle.read_forks.specs.declared.waiting.Waiting.{Waiting}
use Rattle.read_forks.proofs.KeptNets.{apart_too}
use Rattle.read_forks.proofs.ListedLoads.{load_step}
use Rattle.read_forks.proofs.LoadFlags.{below_or_last}
use Rattle.read_forks.proofs.ReadyLoads.{waits_ready}
use Rattle.read_forks.proofs.WaitTests.{mark_there, right_here}

module _ {W : ℕ} (s : ForkNet W) where
  abbrev x : OperationNet
  x = net_of s

  abbrev closed : List ℕ
  closed = s.waiting.closed.items

  pub room_steps : length s.waiting.steps ≡ node_total x
  room_steps = s.kept.tables.steps.all

  pub room_closed : length closed ≡ node_total x
  room_closed = s.kept.tables.nodes ∙ room_steps

  abbrev m : OperationTokens
  m = operations_on s.net

  abbrev ready : ℕ → Bool
  ready j = (fork_moves x).ready (marking_of s) j

  abbrev loads : ℕ → Bool
  loads j = is_load_node x (operation_node x j)

  module _ (now : OpNet W) (net : net_in now ≡ x) (marking : operations_on now ≡ m) (apart : apart_of now ≡ apart_of s.net) where
    -- what is wanted to test a load
    abbrev CanTest : (j : ℕ) → Step → List ℕ → OperationNet → Type 0
    CanTest j step numbers y = (j < node_total y) × ((operation_node y j ≡ Op step.piece step.number) × ((is_load_node y (operation_node y j) ≡ true) × (AreLoadsApart now × (j < length numbers))))

    pub can_test : {w : Waiting} → w ≡ s.waiting → (j : ℕ) (step : Step) → j < node_total x → slice_get s.waiting.steps j ≡ Some step → loads j ≡ true → CanTest j step w.closed.items (net_in now)
    can_test {w} waiting j step low at is =
        let long = room_closed in
        let inside : j < length closed = omega (arith, low, long) in
        subst (λ (y : OperationNet). CanTest j step w.closed.items y) (sym net)
        (low, (load_step x s.waiting.links.items j step (s.kept.tables.steps.each j step at) is, (is, (apart_too s.net now net apart s.apart, subst (λ (v : Waiting). j < length v.closed.items) (sym waiting) inside))))

    -- and what becomes of its mark
    pub tested_flags : (j : ℕ) (flags : List Bool) → flags ≡ set (flags_of now) j (waits_for_nothing (net_in now) (operations_on now) closed j) → flags ≡ set (flags_of now) j (waits_for_nothing x m closed j)
    tested_flags j flags is =
        is
        ∙ ap (λ (y : OperationNet). set (flags_of now) j (waits_for_nothing y (operations_on now) closed j)) net
        ∙ ap (λ (t : OperationTokens). set (flags_of now) j (waits_for_nothing x t closed j)) marking

    -- the marks of nodes that are no loads
    pub other_mark : MarksOthers now → (j : ℕ) → j < node_total x → loads j ≡ false → has (flags_of now) j ≡ ready j
    other_mark others j low none =
        others j (subst (λ (y : OperationNet). j < node_total y) (sym net) low) (ap (λ (flags : List Bool). has flags j) apart ∙ s.apart j low ∙ none)
        ∙ ap (λ (y : OperationNet). (operation_moves y).ready (operations_on now) j) net
        ∙ ap (λ (t : OperationTokens). (operation_moves x).ready t j) marking
        ∙ sym (other_ready x (marking_of s) j (operation_node x j) none)

  -- ---- all nodes below one are marked rightly, and so are all that are no loads

  abbrev AreRight : (flags : List Bool) (k : ℕ) → Type 0
  AreRight flags k = (j : ℕ) → j < node_total x → (loads j ≡ false) ⊎ (j < k) → has flags j ≡ ready j

  pub right_then : (flags after : List Bool) (k : ℕ) → after ≡ set flags k (waits_for_nothing x m closed k) → length flags ≡ node_total x → k < node_total x → loads k ≡ true → AreRight flags k → AreRight after (k + 1)
  right_then flags after k is room below own before j low which = by (cases_eq j k) which
    where
      by : (j ≡ k) ⊎ (j ≡ k → ⊥) → (loads j ≡ false) ⊎ (j < k + 1) → has after j ≡ ready j
      by (inl same) either =
          subst (λ (n : ℕ). has after n ≡ ready n) (sym same)
          (right_here x m closed flags after k is (omega (arith, below, room)) ∙ waits_ready x m s.waiting s.kept k below own)
      by (inr differ) (inl none) = mark_there x m flags after k j (waits_for_nothing x m closed k) is differ ∙ before j low (inl none)
      by (inr differ) (inr under) = mark_there x m flags after k j (waits_for_nothing x m closed k) is differ ∙ ⊎_elim
          (λ (less : j < k). before j low (inr less))
          (λ (same : j ≡ k). absurd (differ same))
          (below_or_last j k under)

  pub right_skipped : (flags : List Bool) (k : ℕ) → loads k ≡ false → AreRight flags k → AreRight flags (k + 1)
  right_skipped flags k none before j low (inl other) = before j low (inl other)
  right_skipped flags k none before j low (inr under) = ⊎_elim
      (λ (less : j < k). before j low (inr less))
      (λ (same : j ≡ k). before j low (inl (subst (λ (n : ℕ). loads n ≡ false) (sym same) none)))
      (below_or_last j k under)

  -- ---- a node more

  module _ (now : OpNet W) (net : net_in now ≡ x) (marking : operations_on now ≡ m) (apart : apart_of now ≡ apart_of s.net) where
    abbrev CanTestNode : (j : ℕ) → Step → List ℕ → OperationNet → Type 0
    CanTestNode j step numbers y = (j < node_total y) × ((step.loads ≡ is_load_node y (operation_node y j)) × ((step.loads ≡ true → operation_node y j ≡ Op step.piece step.number) × (AreLoadsApart now × (j < length numbers))))

    pub can_test_node : {w : Waiting} → w ≡ s.waiting → (j : ℕ) (step : Step) → j < node_total x → slice_get s.waiting.steps j ≡ Some step → CanTestNode j step w.closed.items (net_in now)
    can_test_node {w} waiting j step low at =
        let long = room_closed in
        let is = s.kept.tables.steps.each j step at in
        let inside : j < length closed = omega (arith, low, long) in
        subst (λ (y : OperationNet). CanTestNode j step w.closed.items y) (sym net)
        (low, (is.loads, (λ own. load_step x s.waiting.links.items j step is (sym is.loads ∙ own), (apart_too s.net now net apart s.apart, subst (λ (v : Waiting). j < length v.closed.items) (sym waiting) inside))))

    pub right_next : (numbers : List ℕ) → numbers ≡ closed → (k : ℕ) (step : Step) → k < node_total x → slice_get s.waiting.steps k ≡ Some step → (after : List Bool)
        → (step.loads ≡ true → after ≡ set (flags_of now) k (waits_for_nothing (net_in now) (operations_on now) numbers k)) → (step.loads ≡ false → after ≡ flags_of now) → length (flags_of now) ≡ node_total x → AreRight (flags_of now) k → AreRight after (k + 1)
    right_next numbers same k step low at after tested left room before = by step.loads refl
      where
        is_load_too : step.loads ≡ loads k
        is_load_too = (s.kept.tables.steps.each k step at).loads

        by : (b : Bool) → step.loads ≡ b → AreRight after (k + 1)
        by true own =
            right_then (flags_of now) after k
            (tested_flags now net marking apart k after (tested own ∙ ap (λ (c : List ℕ). set (flags_of now) k (waits_for_nothing (net_in now) (operations_on now) c k)) same))
            room low (sym is_load_too ∙ own) before
        by false none = subst (λ (flags : List Bool). AreRight flags (k + 1)) (sym (left none)) (right_skipped (flags_of now) k (sym is_load_too ∙ none) before)
