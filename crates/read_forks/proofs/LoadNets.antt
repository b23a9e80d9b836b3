-- A net in which a load has fired, and whose lines are closed for it.
use Rattle.std.proofs.Common.{◌≡◌, ◌<◌, ℕ, ℤ, Bool, true, false, not, List, length, set, Option, Some, None, is_some, slice_get, refl, sym, ap, ◌∙◌, subst, length-set, arith}
use Rattle.std.specs.List.{list_all}
use Rattle.std.proofs.lemmas.List.{get_or-set_same}
use Rattle.list_laws.specs.Member.{Member}
use Rattle.firing.specs.Moves.{CanFire}
use Rattle.firing.specs.ReadySet.{has}
use Rattle.firing.specs.declared.system.NodeName.TheVariants.{Op}
use Rattle.net_board.proofs.ListPlaces.{length_slice_set}
use Rattle.op_board.specs.OperationNets.{OperationNet, needed, operation_at, operation_node}
use Rattle.op_board.specs.OperationTokens.{OperationTokens, is_given, value_at}
use Rattle.op_board.specs.SoundOperationNets.{OperationsCanCome}
use Rattle.op_net.specs.ApartLoads.{IsCounting, KeepsApart, MarksOthers, apart_of, flags_of, loaded_apart}
use Rattle.op_net.specs.NetView.{marking_of as operations_on, net_of as net_in}
use Rattle.operation_tables.specs.Waits.{node_total}
use Rattle.op_net.specs.declared.net.OpNet.{OpNet}
use Rattle.fork_board.specs.Chains.{ComeOnce, GroupsEnd}
use Rattle.fork_board.specs.ForkTokens.{ForkTokens, fork_moves, fork_ready_as, is_load_node}
use Rattle.fork_board.specs.LoadGroups.{is_load}
use Rattle.fork_board.specs.SoundForks.{ForksCanCome}
use Rattle.fork_board.proofs.ForkNodes.{IsLoadNamed, load_named, other_ready}
use Rattle.fork_board.proofs.ForksApart.{IsReadyLoad, ready_load}
use Rattle.read_forks.specs.ForkView.{KeepsSet, marking_of, net_of}
use Rattle.read_forks.specs.KeptLoads.{AreClosedFor, AreKept, AreLinesKept, opened_of}
use Rattle.read_forks.specs.LoadChanges.{Loaded}
use Rattle.read_forks.specs.LoadSteps.{lines_read}
use Rattle.read_forks.specs.NodeLinks.{IsStep, linked_lines}
use Rattle.read_forks.specs.OpenGroups.{marking_by}
use Rattle.read_forks.specs.Retests.{takes}
use Rattle.read_forks.specs.WaitingLoads.{IsRemarked, KeepsMarks, waits_for_nothing}
use Rattle.read_forks.specs.declared.fork_net.ForkNet.{ForkNet}
use Rattle.read_forks.specs.declared.steps.Step.{Step}
use Rattle.read_forks.specs.declared.waiting.Waiting.{Waiting}
use Rattle.read_forks.proofs.FiredLoads.{closed_then, lines_open, marks_then, value_room}
use Rattle.read_forks.proofs.KeptNets.{kept_there}
use Rattle.read_forks.proofs.ReadyLoads.{waits_ready}
use Rattle.read_forks.proofs.StepLaws.{in_steps}
use Rattle.read_forks.proofs.WaitTests.{mark_there}

-- a place without a value
empty_value : (o : Option ℤ) → not (is_some o) ≡ true → o ≡ None
empty_value None e = refl
empty_value (Some z) e = let f : false ≡ true = e in absurd cc

pub view_there : (x y : OperationNet) (m n : OperationTokens) (w v : Waiting) → y ≡ x → n ≡ m → v ≡ w → marking_by y n (opened_of y v) ≡ marking_by x m (opened_of x w)
view_there x y m n w v net marking waiting =
    ap (λ (u : Waiting). marking_by y n (opened_of y u)) waiting ∙ ap (λ (z : OperationNet). marking_by z n (opened_of z w)) net ∙ ap (λ (t : OperationTokens). marking_by x t (opened_of x w)) marking

waits_there : (x y : OperationNet) (m n : OperationTokens) (closed : List ℕ) (j : ℕ) → y ≡ x → n ≡ m → waits_for_nothing y n closed j ≡ waits_for_nothing x m closed j
waits_there x y m n closed j net marking = ap (λ (z : OperationNet). waits_for_nothing z n closed j) net ∙ ap (λ (t : OperationTokens). waits_for_nothing x t closed j) marking

-- the loads whose values node k takes are marked rightly, and so is the one that takes its value
abbrev pub IsGiven : OperationNet → OperationTokens → (k : ℕ) → List ℕ → List Bool → List Bool → Type 0
IsGiven x m k closed before after = (j : ℕ) → j < node_total x → j < length before → is_load_node x (operation_node x j) ≡ true → takes x (operation_node x k) j ≡ true → has after j ≡ waits_for_nothing x m closed j

abbrev pub IsTaken : OperationNet → OperationTokens → (k : ℕ) → List ℕ → List Bool → List Bool → Type 0
IsTaken x m k closed before after = (j : ℕ) → j < node_total x → j < length before → is_load_node x (operation_node x j) ≡ true → takes x (operation_node x j) k ≡ true → has after j ≡ waits_for_nothing x m closed j

module _ (x y : OperationNet) (m n : OperationTokens) (net : y ≡ x) (marking : n ≡ m) (k : ℕ) (closed : List ℕ) (before after : List Bool) where
  pub given_there : IsGiven y n k closed before after → IsGiven x m k closed before after
  given_there is = subst (λ (t : OperationTokens). IsGiven x t k closed before after) marking (subst (λ (z : OperationNet). IsGiven z n k closed before after) net is)

  pub taken_there : IsTaken y n k closed before after → IsTaken x m k closed before after
  taken_there is = subst (λ (t : OperationTokens). IsTaken x t k closed before after) marking (subst (λ (z : OperationNet). IsTaken z n k closed before after) net is)

module _ {W : ℕ} (s : ForkNet W) (k : ℕ) (step : Step) (sound : ForksCanCome (net_of s) (marking_of s)) (can : CanFire (fork_moves (net_of s)) (marking_of s) k) (own : slice_get s.waiting.steps k ≡ Some step) (loads : is_load_node (net_of s) (operation_node (net_of s) k) ≡ true) where
  abbrev x : OperationNet
  x = net_of s

  abbrev t : ForkTokens
  t = marking_of s

  is_step : IsStep x s.waiting.links.items k step
  is_step = s.kept.tables.steps.each k step own

  pub name : operation_node x k ≡ Op step.piece step.number
  name =
      let l : IsLoadNamed x (operation_node x k) = load_named x (operation_node x k) loads in
      let told = is_step.named l.piece l.number l.is in
      l.is ∙ (λ n. Op (sym told.0 n) (sym told.1 n))

  pub of_load : is_load (operation_at x step.piece step.number).work ≡ true
  of_load = ap (is_load_node x) (sym name) ∙ loads

  load_ready : IsReadyLoad x t k step.piece step.number
  load_ready = ready_load x t k step.piece step.number of_load (ap (fork_ready_as x t k) (sym name) ∙ can.ready)

  pub given : list_all (is_given x t.operations step.piece) (operation_at x step.piece step.number).operands ≡ true
  given = load_ready.given

  pub empty : value_at t.operations k ≡ None
  empty = empty_value (value_at t.operations k) load_ready.empty

  pub node_closed : k < length s.waiting.closed.items
  node_closed = let low = can.node in let all = s.kept.tables.steps.all in let nodes = s.kept.tables.nodes in omega (arith, low, all, nodes)

  -- ---- its operands are taken, and its value is given

  abbrev all : List ℕ
  all = needed x step.piece step.number

  abbrev performed : OperationTokens
  performed = loaded_apart x t.operations k step.piece step.number

  sound_performed : OperationsCanCome x performed
  sound_performed = record {
    ground = sound.ground;
    is_net = sound.is_net;
    is_marking = record { tokens = sound.is_marking.tokens; passed = sound.is_marking.passed; values = value_room x t sound k can step.piece step.number name of_load };
  }

  count_is : step.count ≡ length all
  count_is = is_step.has_links.count ∙ ap (λ n. length (linked_lines x n)) name

  module _ (w : Waiting) (closed : w.closed.items ≡ set s.waiting.closed.items k step.count) (links : w.links ≡ s.waiting.links) (steps : w.steps ≡ s.waiting.steps) (givers : w.givers ≡ s.waiting.givers) (groups : w.groups ≡ s.waiting.groups) where
    same_but : (v : Waiting) → v ≡ record s.waiting { closed = w.closed } → AreLinesKept x performed v
    same_but v is = subst (λ (u : Waiting). AreLinesKept x performed u) (sym is) (record {
      tables = record {
        steps = s.kept.tables.steps;
        ways = s.kept.tables.ways;
        values = s.kept.tables.values;
        lines = s.kept.tables.lines;
        nodes = ap length closed ∙ length_slice_set s.waiting.closed.items k step.count ∙ s.kept.tables.nodes;
      };
      near = s.kept.near;
      groups = s.kept.groups;
    })

    w_is : w ≡ record s.waiting { closed = w.closed }
    w_is = λ n. record { steps = steps n; links = links n; givers = givers n; closed = w.closed; groups = groups n }

    opened_same : opened_of x w ≡ opened_of x s.waiting
    opened_same = ap (opened_of x) w_is

    -- what is wanted to close the lines
    abbrev AreClosable : OperationNet → OperationTokens → Type 0
    AreClosable y n =
        (k < node_total y)
        × ((slice_get w.steps k ≡ Some step)
        × ((operation_node y k ≡ Op step.piece step.number)
        × (OperationsCanCome y n
        × (GroupsEnd y
        × (ComeOnce y
        × (AreLinesKept y n w
        × ((line : ℕ) → Member (needed y step.piece step.number) line → opened_of y w line step.piece step.number ≡ true)))))))

    pub closable : GroupsEnd x → ComeOnce x → (marked : OpNet W) → net_in marked ≡ x → operations_on marked ≡ performed → AreClosable (net_in marked) (operations_on marked)
    closable ends once marked net marking =
        subst (λ (y : OperationNet). AreClosable y (operations_on marked)) (sym net)
        (subst (λ (n : OperationTokens). AreClosable x n) (sym marking) (
          can.node,
          (
            ap (λ (v : Waiting). slice_get v.steps k) w_is ∙ own,
            (
              name,
              (
                sound_performed,
                (
                  ends,
                  (
                    once,
                    (
                      same_but w w_is,
                      λ line among. ap (λ (o : Loaded). o line step.piece step.number) opened_same ∙ lines_open x t.operations (opened_of x s.waiting) k step.piece step.number s.kept.near name of_load can.ready line among,
                    ),
                  ),
                ),
              ),
            ),
          ),
        ))

  -- ---- its lines are closed

  -- what was done
  abbrev AreRead : OperationNet → (m n : OperationTokens) → Waiting → Type 0
  AreRead y m n v =
      (marking_by y n (opened_of y v) ≡ lines_read y step.piece step.number (marking_by y m (opened_of y s.waiting)) (needed y step.piece step.number))
      × (AreLinesKept y n v × AreClosedFor (needed y step.piece step.number) step.piece step.number (opened_of y s.waiting) (opened_of y v))

  module _ (marked shut : OpNet W) (v : Waiting) (net : net_in marked ≡ x) (marking : operations_on marked ≡ performed) (same : net_in shut ≡ net_in marked) (read : AreRead (net_in marked) (operations_on marked) (operations_on shut) v) (closed_shut : v.closed.items ≡ set s.waiting.closed.items k step.count) where
    told : AreRead x performed (operations_on shut) v
    told = subst (λ (m : OperationTokens). AreRead x m (operations_on shut) v) marking (subst (λ (y : OperationNet). AreRead y (operations_on marked) (operations_on shut) v) net read)

    pub marking_shut : marking_by x (operations_on shut) (opened_of x v) ≡ (fork_moves x).fired t k
    marking_shut =
        told.0
        ∙ sym (in_steps x t k step.piece step.number sound can.node name of_load)

    pub kept_shut : AreKept x (operations_on shut) v
    kept_shut = record {
      tables = told.1.0.tables;
      near = told.1.0.near;
      closed = closed_then x k step.piece step.number name (opened_of x s.waiting) (opened_of x v) s.waiting.closed.items v.closed.items step.count can.node
          told.1.1 count_is closed_shut s.kept.closed;
      groups = told.1.0.groups;
    }

    operations_shut : operations_on shut ≡ ((fork_moves x).fired t k).operations
    operations_shut = ap (λ (f : ForkTokens). f.operations) marking_shut

    -- ---- and control has gone on

    module _ (steered : OpNet W) (steered_net : net_in steered ≡ net_in shut) (steered_marking : operations_on steered ≡ operations_on shut) where
      pub net_steered : net_in steered ≡ x
      net_steered = steered_net ∙ same ∙ net

      pub kept_steered : AreKept (net_in steered) (operations_on steered) v
      kept_steered = kept_there x (net_in steered) (operations_on shut) (operations_on steered) v net_steered steered_marking kept_shut

      pub steps_steered : v.steps ≡ s.waiting.steps → slice_get v.steps k ≡ Some step
      steps_steered is = ap (λ (a : List Step). slice_get a k) is ∙ own

      -- ---- and loads are tested

      module _ (end : ForkNet W) (again : IsRemarked steered end.net) (waiting : end.waiting ≡ v) where
        pub net_end : net_of end ≡ x
        net_end = again.net ∙ net_steered

        operations_end : operations_on end.net ≡ operations_on shut
        operations_end = again.marking ∙ steered_marking

        pub marking_end : marking_of end ≡ (fork_moves x).fired t k
        marking_end = view_there x (net_of end) (operations_on shut) (operations_on end.net) v end.waiting net_end operations_end waiting ∙ marking_shut

        module _ (fired given : OpNet W) (counting : KeepsSet s) (kept : KeepsApart s.net fired) (flags : flags_of marked ≡ set (flags_of fired) k false) (apart : apart_of marked ≡ apart_of fired) (counted : marked.places.counted ≡ fired.places.counted) (closing : KeepsApart marked shut) (steering : KeepsApart shut steered)
            (givers_kept : KeepsMarks x (operations_on shut) v.closed.items v.closed.items (flags_of steered) (flags_of given))
            (gave : IsGiven x (operations_on shut) k v.closed.items (flags_of steered) (flags_of given))
            (takers : KeepsMarks x (operations_on shut) v.closed.items v.closed.items (flags_of given) (flags_of end.net))
            (took : IsTaken x (operations_on shut) k v.closed.items (flags_of given) (flags_of end.net)) where
          apart_then : apart_of shut ≡ apart_of s.net
          apart_then = closing.apart ∙ apart ∙ kept.apart

          -- the marks of loads as they are after the load was unmarked
          unmarked : (j : ℕ) → j < node_total x → is_load_node x (operation_node x j) ≡ true → has (flags_of steered) j ≡ has (flags_of marked) j
          unmarked j low is =
              let own_apart = s.apart j low ∙ is in
              steering.flags j (ap (λ (all_flags : List Bool). has all_flags j) apart_then ∙ own_apart)
              ∙ closing.flags j (ap (λ (all_flags : List Bool). has all_flags j) (apart ∙ kept.apart) ∙ own_apart)

          room : length (flags_of steered) ≡ length (flags_of s.net)
          room = steering.marks ∙ closing.marks ∙ ap length flags ∙ length-set (flags_of fired) k false ∙ kept.marks

          load_mark : (j : ℕ) → j < node_total x → is_load_node x (operation_node x j) ≡ true → has (flags_of end.net) j ≡ waits_for_nothing x (operations_on shut) v.closed.items j
          load_mark j low is =
              let all_room = counting.marks.room in
              let in_fired = kept.marks in
              let below = can.node in
              marks_then x t sound k can step.piece step.number name of_load (operations_on shut) operations_shut s.waiting.closed.items v.closed.items step.count (flags_of s.net) (flags_of steered) (flags_of given) (flags_of end.net) closed_shut room
              (λ a a_low a_load differ. unmarked a a_low a_load ∙ mark_there x t.operations (flags_of fired) (flags_of marked) k a false flags (λ e. differ (sym e)) ∙ kept.flags a (s.apart a a_low ∙ a_load))
              (unmarked k can.node loads ∙ ap (λ (all_flags : List Bool). has all_flags k) flags ∙ get_or-set_same (flags_of fired) k false false (omega (arith, all_room, in_fired, below)))
              givers_kept gave takers took
              j low (subst (λ (n : ℕ). j < n) (sym counting.marks.room) low) is
              (counting.marks.right j low ∙ sym (waits_ready x t.operations s.waiting s.kept j low is))

          counts : IsCounting end.net
          counts = again.counted ∙ steering.counted ∙ closing.counted ∙ counted ∙ kept.counted ∙ counting.kept

          right : MarksOthers end.net → (j : ℕ) → j < node_total (net_of end) → (b : Bool) → is_load_node (net_of end) (operation_node (net_of end) j) ≡ b → has (flags_of end.net) j ≡ (fork_moves (net_of end)).ready (marking_of end) j
          right others j low true is =
              load_mark j (subst (λ (y : OperationNet). j < node_total y) net_end low) (subst (λ (y : OperationNet). is_load_node y (operation_node y j) ≡ true) net_end is)
              ∙ sym (waits_there x (net_of end) (operations_on shut) (operations_on end.net) v.closed.items j net_end operations_end)
              ∙ ap (λ (u : Waiting). waits_for_nothing (net_of end) (operations_on end.net) u.closed.items j) (sym waiting)
              ∙ waits_ready (net_of end) (operations_on end.net) end.waiting end.kept j low is
          right others j low false is =
              others j low (end.apart j low ∙ is) ∙ sym (other_ready (net_of end) (marking_of end) j (operation_node (net_of end) j) is)

          pub set_kept : (IsCounting end.net → MarksOthers end.net) → (IsCounting end.net → length (flags_of end.net) ≡ node_total (net_of end)) → KeepsSet end
          set_kept others all_room = record {
            kept = counts;
            marks = record {
              room = all_room counts;
              right = λ j low. right (others counts) j low (is_load_node (net_of end) (operation_node (net_of end) j)) refl;
            };
          }
