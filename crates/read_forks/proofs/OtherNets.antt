-- A net in which a node that is no load has fired, and whose lines that were led on are open for the loads before which they stand.
use Rattle.std.proofs.Common.{◌≡◌, ◌<◌, ℕ, ◌==◌, Bool, true, false, List, length, refl, sym, ap, ◌∙◌, subst}
use Rattle.std.specs.List.{list_any}
use Rattle.firing.specs.Moves.{CanFire}
use Rattle.firing.specs.ReadySet.{has}
use Rattle.op_board.specs.OperationNets.{OperationNet, operation_node}
use Rattle.op_board.specs.OperationTokens.{OperationTokens, operation_moves}
use Rattle.op_net.specs.ApartLoads.{IsCounting, KeepsApart, MarksOthers, flags_of}
use Rattle.op_net.specs.NetView.{marking_of as operations_on, net_of as net_in}
use Rattle.operation_tables.specs.Waits.{node_total}
use Rattle.op_net.specs.declared.net.OpNet.{OpNet}
use Rattle.fork_board.specs.ForkTokens.{ForkTokens, fork_moves, is_load_node}
use Rattle.fork_board.specs.SoundForks.{ForksCanCome}
use Rattle.fork_board.proofs.ForkNodes.{other_ready}
use Rattle.read_forks.specs.ForkView.{KeepsSet, marking_of, net_of}
use Rattle.read_forks.specs.KeptLoads.{AreKept, AreOpened, opened_of}
use Rattle.read_forks.specs.LedLines.{IsLedOn}
use Rattle.read_forks.specs.MarkedNets.{AreLoadsApart}
use Rattle.read_forks.specs.NodeLinks.{moved_lines}
use Rattle.read_forks.specs.OpenGroups.{marking_by}
use Rattle.read_forks.specs.Retests.{takes}
use Rattle.read_forks.specs.WaitingLoads.{IsRemarked, KeepsMarks, waits_for_nothing}
use Rattle.read_forks.specs.declared.fork_net.ForkNet.{ForkNet}
use Rattle.read_forks.specs.declared.waiting.Waiting.{Waiting}
use Rattle.read_forks.proofs.ArrivedLines.{marks_there, opened_there}
use Rattle.read_forks.proofs.KeptNets.{apart_too, kept_there}
use Rattle.read_forks.proofs.LoadNodes.{other_marking}
use Rattle.read_forks.proofs.OtherFirings.{kept_then, led_on, marking_then}
use Rattle.read_forks.proofs.OtherMarks.{marks_then}
use Rattle.read_forks.proofs.ReadyLoads.{waits_ready}

view_there : (x y : OperationNet) (m n : OperationTokens) (w v : Waiting) → y ≡ x → n ≡ m → v ≡ w → marking_by y n (opened_of y v) ≡ marking_by x m (opened_of x w)
view_there x y m n w v net marking waiting =
    ap (λ (u : Waiting). marking_by y n (opened_of y u)) waiting ∙ ap (λ (z : OperationNet). marking_by z n (opened_of z w)) net ∙ ap (λ (t : OperationTokens). marking_by x t (opened_of x w)) marking

waits_there : (x y : OperationNet) (m n : OperationTokens) (closed : List ℕ) (j : ℕ) → y ≡ x → n ≡ m → waits_for_nothing y n closed j ≡ waits_for_nothing x m closed j
waits_there x y m n closed j net marking = ap (λ (z : OperationNet). waits_for_nothing z n closed j) net ∙ ap (λ (t : OperationTokens). waits_for_nothing x t closed j) marking

-- the loads whose values the node takes are marked rightly
abbrev pub AreGiversRight : (k : ℕ) → OperationNet → OperationTokens → (closed : List ℕ) (before after : List Bool) → Type 0
AreGiversRight k y n closed before after = (j : ℕ) → j < node_total y → j < length before → is_load_node y (operation_node y j) ≡ true → takes y (operation_node y k) j ≡ true → has after j ≡ waits_for_nothing y n closed j

-- and the one that takes its value
abbrev pub AreTakersRight : (k : ℕ) → OperationNet → OperationTokens → (closed : List ℕ) (before after : List Bool) → Type 0
AreTakersRight k y n closed before after = (j : ℕ) → j < node_total y → j < length before → is_load_node y (operation_node y j) ≡ true → takes y (operation_node y j) k ≡ true → has after j ≡ waits_for_nothing y n closed j

module _ {W : ℕ} (s : ForkNet W) (k : ℕ) (sound : ForksCanCome (net_of s) (marking_of s)) (can : CanFire (fork_moves (net_of s)) (marking_of s) k) (other : is_load_node (net_of s) (operation_node (net_of s) k) ≡ false) where
  abbrev x : OperationNet
  x = net_of s

  abbrev t : ForkTokens
  t = marking_of s

  abbrev then_is : OperationTokens
  then_is = (operation_moves x).fired t.operations k

  pub ready_other : (operation_moves x).ready t.operations k ≡ true
  ready_other = sym (other_ready x t k (operation_node x k) other) ∙ can.ready

  -- ---- the node has fired

  module _ (led : OpNet W) (net : net_in led ≡ x) (marking : operations_on led ≡ then_is) (kept : KeepsApart s.net led) where
    pub apart_led : AreLoadsApart led
    apart_led = apart_too s.net led net kept.apart s.apart

    pub kept_led : AreKept (net_in led) (operations_on led) s.waiting
    kept_led = kept_there x (net_in led) then_is (operations_on led) s.waiting net marking (kept_then x t sound k can.node ready_other other s.waiting s.kept)

    abbrev AreLed : OperationNet → OperationTokens → Type 0
    AreLed y n = (line : ℕ) → list_any (λ l. l == line) (moved_lines y (operation_node y k)) ≡ true → IsLedOn y n (opened_of y s.waiting) (operation_node y k) line

    pub lines_led : AreLed (net_in led) (operations_on led)
    lines_led = subst (λ (y : OperationNet). AreLed y (operations_on led)) (sym net) (subst (λ (n : OperationTokens). AreLed x n) (sym marking) (led_on x t sound k can.node ready_other other (opened_of x s.waiting) s.kept.near))

    -- ---- its lines are open

    module _ (w : Waiting) (opened : OpNet W) (rest : IsRemarked led opened) (are_kept : AreKept (net_in led) (operations_on led) w) where
      pub apart_opened : AreLoadsApart opened
      apart_opened = apart_too led opened rest.net rest.apart apart_led

      pub kept_opened : AreKept (net_in opened) (operations_on opened) w
      kept_opened = kept_there (net_in led) (net_in opened) (operations_on led) (operations_on opened) w rest.net rest.marking are_kept

      pub net_opened : net_in opened ≡ x
      net_opened = rest.net ∙ net

      marking_opened : operations_on opened ≡ then_is
      marking_opened = rest.marking ∙ marking

      -- ---- and loads are tested

      module _ (end : ForkNet W) (again : IsRemarked opened end.net) (waiting : end.waiting ≡ w) where
        pub net_end : net_of end ≡ x
        net_end = again.net ∙ net_opened

        operations_end : operations_on end.net ≡ then_is
        operations_end = again.marking ∙ marking_opened

        pub marking_end : AreOpened (net_in led) (operations_on led) (moved_lines (net_in led) (operation_node (net_in led) k)) (opened_of (net_in led) s.waiting) (opened_of (net_in led) w) → marking_of end ≡ (fork_moves x).fired t k
        marking_end are =
            view_there x (net_of end) then_is (operations_on end.net) w end.waiting net_end operations_end waiting
            ∙ marking_then x t sound k can.node ready_other other (opened_of x s.waiting) s.kept.near (opened_of x w)
            (opened_there x (net_in led) then_is (operations_on led) net marking (moved_lines x (operation_node x k)) s.waiting w
            (subst (λ (y : OperationNet). AreOpened (net_in led) (operations_on led) (moved_lines y (operation_node y k)) (opened_of (net_in led) s.waiting) (opened_of (net_in led) w)) net are))
            ∙ other_marking x t k other

        -- the marks of loads are right
        module _ (given : ForkNet W) (counting : KeepsSet s)
            (lines : KeepsMarks (net_in led) (operations_on led) s.waiting.closed.items w.closed.items (flags_of led) (flags_of opened))
            (tested : IsRemarked opened given.net) (still : given.waiting ≡ w)
            (givers : KeepsMarks (net_in opened) (operations_on opened) w.closed.items w.closed.items (flags_of opened) (flags_of given.net))
            (gave : AreGiversRight k (net_in opened) (operations_on opened) w.closed.items (flags_of opened) (flags_of given.net))
            (takers : KeepsMarks (net_of given) (operations_on given.net) given.waiting.closed.items given.waiting.closed.items (flags_of given.net) (flags_of end.net))
            (took : AreTakersRight k (net_of given) (operations_on given.net) given.waiting.closed.items (flags_of given.net) (flags_of end.net)) where
          net_given : net_of given ≡ x
          net_given = tested.net ∙ net_opened

          marking_given : operations_on given.net ≡ then_is
          marking_given = tested.marking ∙ marking_opened

          givers_x : KeepsMarks x then_is w.closed.items w.closed.items (flags_of opened) (flags_of given.net)
          givers_x = marks_there x (net_in opened) then_is (operations_on opened) net_opened marking_opened w.closed.items w.closed.items (flags_of opened) (flags_of given.net) givers

          gave_x : AreGiversRight k x then_is w.closed.items (flags_of opened) (flags_of given.net)
          gave_x = subst (λ (n : OperationTokens). AreGiversRight k x n w.closed.items (flags_of opened) (flags_of given.net)) marking_opened
              (subst (λ (y : OperationNet). AreGiversRight k y (operations_on opened) w.closed.items (flags_of opened) (flags_of given.net)) net_opened gave)

          takers_x : KeepsMarks x then_is w.closed.items w.closed.items (flags_of given.net) (flags_of end.net)
          takers_x = subst (λ (u : Waiting). KeepsMarks x then_is u.closed.items u.closed.items (flags_of given.net) (flags_of end.net)) still
              (marks_there x (net_of given) then_is (operations_on given.net) net_given marking_given given.waiting.closed.items given.waiting.closed.items (flags_of given.net) (flags_of end.net) takers)

          took_x : AreTakersRight k x then_is w.closed.items (flags_of given.net) (flags_of end.net)
          took_x = subst (λ (u : Waiting). AreTakersRight k x then_is u.closed.items (flags_of given.net) (flags_of end.net)) still
              (subst (λ (n : OperationTokens). AreTakersRight k x n given.waiting.closed.items (flags_of given.net) (flags_of end.net)) marking_given
              (subst (λ (y : OperationNet). AreTakersRight k y (operations_on given.net) given.waiting.closed.items (flags_of given.net) (flags_of end.net)) net_given took))

          load_mark : (j : ℕ) → j < node_total x → is_load_node x (operation_node x j) ≡ true → has (flags_of end.net) j ≡ waits_for_nothing x then_is w.closed.items j
          load_mark j low loads =
              marks_then x t sound k can then_is (ap (λ (n : ForkTokens). n.operations) (other_marking x t k other)) other s.waiting.closed.items w.closed.items (flags_of s.net) (flags_of led) (flags_of opened) (flags_of given.net) (flags_of end.net)
              kept.marks (λ i below is. kept.flags i (s.apart i below ∙ is))
              (marks_there x (net_in led) then_is (operations_on led) net marking s.waiting.closed.items w.closed.items (flags_of led) (flags_of opened) lines)
              givers_x gave_x takers_x took_x
              j low (subst (λ (n : ℕ). j < n) (sym counting.marks.room) low) loads
              (counting.marks.right j low ∙ sym (waits_ready x t.operations s.waiting s.kept j low loads))

          counted : IsCounting end.net
          counted = again.counted ∙ rest.counted ∙ kept.counted ∙ counting.kept

          right : MarksOthers end.net → (j : ℕ) → j < node_total (net_of end) → (b : Bool) → is_load_node (net_of end) (operation_node (net_of end) j) ≡ b → has (flags_of end.net) j ≡ (fork_moves (net_of end)).ready (marking_of end) j
          right others j low true is =
              load_mark j (subst (λ (y : OperationNet). j < node_total y) net_end low) (subst (λ (y : OperationNet). is_load_node y (operation_node y j) ≡ true) net_end is)
              ∙ sym (waits_there x (net_of end) then_is (operations_on end.net) w.closed.items j net_end operations_end)
              ∙ ap (λ (u : Waiting). waits_for_nothing (net_of end) (operations_on end.net) u.closed.items j) (sym waiting)
              ∙ waits_ready (net_of end) (operations_on end.net) end.waiting end.kept j low is
          right others j low false is =
              others j low (end.apart j low ∙ is) ∙ sym (other_ready (net_of end) (marking_of end) j (operation_node (net_of end) j) is)

          pub set_kept : (IsCounting end.net → MarksOthers end.net) → (IsCounting end.net → length (flags_of end.net) ≡ node_total (net_of end)) → KeepsSet end
          set_kept others room = record {
            kept = counted;
            marks = record {
              room = room counted;
              right = λ j low. right (others counted) j low (is_load_node (net_of end) (operation_node (net_of end) j)) refl;
            };
          }
