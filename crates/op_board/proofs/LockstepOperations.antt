-- The own order of a net of operations keeps step, and always fires nodes that are ready.
use Rattle.std.proofs.Common.{◌≡◌, ◌<◌, ◌≤◌, ⊎_elim, ℕ, suc, ◌+◌, ◌||◌, nat_lt, Bool, true, false, if◌then◌else◌, Some, None, slice_get, Result, Ok, Err, refl, sym, ap, ◌∙◌, subst, inl, arith, lt-ltb, ltb-true, ltb-false}
use Rattle.std.proofs.lemmas.Bool.{cases_Bool, or_left}
use Rattle.std.specs.List.{range_with_len}
use Rattle.op_table.specs.declared.Trap.{Trap}
use Rattle.closed_walks.specs.Graph.{from}
use Rattle.f77_tree.specs.Steps.{HoldsWords}
use Rattle.cfg_build.specs.declared.pieces.PieceKind.{PieceKind}
use Rattle.cfg_build.specs.declared.pieces.PieceKind.TheVariants as kind
use Rattle.cfg_build.specs.Joined.{finish, is_end}
use Rattle.cfg_build.specs.Passes.{Done, out, pass_of, passes}
use Rattle.cfg_build.specs.Shape.{leaves_one}
use Rattle.dep_routing.specs.Touches.{exec_kind}
use Rattle.firing.specs.Control.{KeepsStep}
use Rattle.firing.specs.Laws.{IsLawful}
use Rattle.firing.specs.Moves.{CanFire}
use Rattle.firing.specs.Orders.{IsOrder, IsOver, after}
use Rattle.firing.specs.declared.system.NodeName.TheVariants.{Act}
use Rattle.firing.specs.SourceOrder.{IsSourceOrder}
use Rattle.net_board.specs.declared.control.Control.{Control}
use Rattle.net_board.specs.ControlCourse.{due_node, moved_on, net_course}
use Rattle.net_board.specs.NetLockstep.{IsBetween, IsInLockstep}
use Rattle.net_board.specs.Nodes.{graph_in, kind_in, first_node, is_acting, node_count, nodes_at}
use Rattle.net_board.specs.SoundNets.{CanCome}
use Rattle.net_board.specs.Tokens.{Tokens, net_moves, pass_at, source_line}
use Rattle.net_board.specs.WithinPiece.{IsAmid, leaving, memory_or}
use Rattle.net_board.proofs.FiringLaws.{net_laws}
use Rattle.net_board.proofs.ListPrefixes.{HasItem, below_length, item_at}
use Rattle.net_board.proofs.LockstepLaws.{later, piece_exists}
use Rattle.net_board.proofs.PieceEnds.{all_fired}
use Rattle.net_board.proofs.RestLaws.{some_edge}
use Rattle.op_board.specs.Effects.{Effect}
use Rattle.op_board.specs.Operations.{Operation}
use Rattle.op_board.specs.OperationCourse.{control_after, due_operation, edge_taken, operation_course}
use Rattle.op_board.specs.OperationFacts.{OperationFacts}
use Rattle.op_board.specs.OperationLockstep.{IsAmidOperations, IsInOperationLockstep, IsPastOperations, act_count}
use Rattle.op_board.specs.OperationNets.{OperationNet, first_operation, operation_count, operation_node_count, operations_at}
use Rattle.op_board.specs.OperationTokens.{OperationTokens, between_pieces, operation_moves}
use Rattle.op_board.specs.SoundOperationNets.{IsOperationNet, OperationsCanCome}
use Rattle.op_board.proofs.AmidPieces.{IsAtPiece}
use Rattle.op_board.proofs.OperationControl.{at_place, at_start, goes_on, last_taken, past_taken}
use Rattle.op_board.proofs.OperationRest.{operations_rest}
use Rattle.op_board.proofs.OperationSteps.{IsStopped, last_number, result, stops}
use Rattle.op_board.proofs.OtherNodes.{Commutes, IsBeside, beside, beside_count}
use Rattle.op_board.proofs.PieceNodes.{acting_count, no_operations}
use Rattle.op_board.proofs.PieceRuns.{IsAllRun, IsPartRun, amid, can, decided_last, next_is, run_by_order, run_last, run_next, trap_or_none}
use Rattle.op_board.proofs.PiecesBeside.{act_fired, act_first}

-- ---- which node is due

pub record IsDueOperation (x : OperationNet) (c : Control) (k : ℕ) : Type 0 where
  pub low : c.fired < operation_node_count x c.piece
  pub is : first_operation x c.piece + c.fired ≡ k

pub due_operation_is : (x : OperationNet) (c : Control) (k : ℕ) → due_operation x c ≡ Some k → IsDueOperation x c k
due_operation_is x c k due = by (nat_lt c.fired (operation_node_count x c.piece)) refl due
  where
    by : (b : Bool) → nat_lt c.fired (operation_node_count x c.piece) ≡ b → (if b then Some (first_operation x c.piece + c.fired) else None) ≡ Some k → IsDueOperation x c k
    by true low same = record { low = ltb-true c.fired (operation_node_count x c.piece) low; is = same_number (first_operation x c.piece + c.fired) k same }
      where
        same_number : (a b : ℕ) → Some a ≡ Some b → a ≡ b
        same_number a b e = cc
    by false low same = let clash : None ≡ Some k = same in absurd cc

no_operation_due : (x : OperationNet) (c : Control) → due_operation x c ≡ None → operation_node_count x c.piece ≤ c.fired
no_operation_due x c due = by (nat_lt c.fired (operation_node_count x c.piece)) refl due
  where
    by : (b : Bool) → nat_lt c.fired (operation_node_count x c.piece) ≡ b → (if b then Some (first_operation x c.piece + c.fired) else None) ≡ None → operation_node_count x c.piece ≤ c.fired
    by true low same = let clash : Some (first_operation x c.piece + c.fired) ≡ None = same in absurd cc
    by false low same = let h = ltb-false c.fired (operation_node_count x c.piece) low in omega (arith, h)

module _ (x : OperationNet) (n : IsOperationNet x) (facts : OperationFacts x) (words : (k : ℕ) → HoldsWords (passes x.net.program x.net.input k).memory) (keeps : KeepsStep (CanCome x.net) (net_moves x.net) (net_course x.net) (IsInLockstep x.net)) (source : IsSourceOrder (CanCome x.net) (net_moves x.net) (net_course x.net) (IsInLockstep x.net)) where
  due_there : (m : Tokens) (piece j left : ℕ) → j < node_count x.net piece → due_node x.net (at_place piece j left) ≡ Some (first_node x.net piece + j)
  due_there m piece j left low = ap (λ (b : Bool). if b then Some (first_node x.net piece + j) else None) (lt-ltb j (node_count x.net piece) low)

  -- ---- amid the operations of a piece

  module _ (start : Tokens) (piece i leaves left : ℕ) (lockstep : IsInLockstep x.net start (at_place piece 0 left)) (comes : CanCome x.net start) (low : i < operation_count x piece) (acts : is_acting (kind_in x.net piece) ≡ true) where
    at : IsAtPiece x piece start
    at = at_start x n facts words start piece left lockstep comes acts

    exists : piece < (graph_in x.net).nodes
    exists = piece_exists x.net start (at_place piece 0 left) lockstep

    some_nodes : 0 < node_count x.net piece
    some_nodes = below_length (nodes_at x.net piece) 0 (Act piece) (act_first x.net piece (kind_in x.net piece) acts)

    many_nodes : operation_count x piece ≤ operation_node_count x piece
    many_nodes = let count = acting_count x piece acts in let some = some_nodes in omega (arith, count, some)

    module _ (order : IsOrder (operation_moves x) (between_pieces x start) (range_with_len (first_operation x piece) i)) (going : (after (operation_moves x) (between_pieces x start) (range_with_len (first_operation x piece) i)).tokens.trap ≡ None) where
      run : IsPartRun x n facts piece start at i
      run = run_by_order x n facts piece start at i low order going

      pub amid_can : CanFire (operation_moves x) (after (operation_moves x) (between_pieces x start) (range_with_len (first_operation x piece) i)) (first_operation x piece + i)
      amid_can = let own : HasItem (operations_at x piece) i = item_at (operations_at x piece) i low in can x n facts piece start at i run own.item own.at

      module _ (on : ((operation_moves x).fired (after (operation_moves x) (between_pieces x start) (range_with_len (first_operation x piece) i)) (first_operation x piece + i)).tokens.trap ≡ None) where
        goal : Type 0
        goal = IsInOperationLockstep x ((operation_moves x).fired (after (operation_moves x) (between_pieces x start) (range_with_len (first_operation x piece) i)) (first_operation x piece + i)) (control_after x (after (operation_moves x) (between_pieces x start) (range_with_len (first_operation x piece) i)) (at_place piece i leaves))

        next_amid : (op : Operation) (is : slice_get (operations_at x piece) i ≡ Some op) (e : Effect) → result x n facts piece start at i (amid x n facts piece start at i) run.part op is ≡ Ok e → suc i < operation_count x piece → goal
        unfolding goal
        next_amid op is e ok more =
            let next : IsPartRun x n facts piece start at (suc i) = run_next x n facts piece start at i run op is e ok more in
            let t = amid x n facts piece start at i in
            let many = many_nodes in
            let edge = edge_taken x t (at_place piece i leaves) in
            let test : (nat_lt (suc i) (operation_node_count x piece) || is_end (kind_in x.net piece)) ≡ true = or_left (nat_lt (suc i) (operation_node_count x piece)) (is_end (kind_in x.net piece)) (lt-ltb (suc i) (operation_node_count x piece) (omega (arith, more, many))) in
            let there : control_after x t (at_place piece i leaves) ≡ at_place piece (suc i) edge = ap (λ (b : Bool). if b then at_place piece (suc i) edge else Rattle.net_board.specs.ControlCourse.arrived x.net edge) test in
            subst (λ (c : Control). IsInOperationLockstep x ((operation_moves x).fired t (first_operation x piece + i)) c) (sym there) (inl (record {
              start = start;
              control = at_place piece 0 left;
              lockstep = lockstep;
              can_come = comes;
              at_first = refl;
              same_piece = refl;
              some_left = more;
              order = next.order;
              is = sym (next_is x n facts piece start at i run op is);
            }))

        next_past : (op : Operation) (is : slice_get (operations_at x piece) i ≡ Some op) (e : Effect) → result x n facts piece start at i (amid x n facts piece start at i) run.part op is ≡ Ok e → suc i ≡ operation_count x piece → goal
        unfolding goal
        next_past op is e ok last =
            let all : IsAllRun x n facts piece start at = run_last x n facts piece start at i run op is e ok last in
            let t = amid x n facts piece start at i in
            let k = first_node x.net piece in
            let next = (net_moves x.net).fired start (first_node x.net piece) in
            let same : (operation_moves x).fired t (first_operation x piece + i) ≡ between_pieces x next = sym (next_is x n facts piece start at i run op is) ∙ ap (amid x n facts piece start at) last ∙ all.is ∙ ap (between_pieces x) (sym (act_fired x n facts lockstep.is_net lockstep.ground piece start exists acts)) in
            let zero_plus : first_node x.net piece + 0 ≡ first_node x.net piece = omega arith in
            let due : due_node x.net (at_place piece 0 left) ≡ Some k = due_there start piece 0 left some_nodes ∙ ap (λ (j : ℕ). Some j) zero_plus in
            let fires : CanFire (net_moves x.net) start k = source.fires start (at_place piece 0 left) k comes lockstep at.going due in
            let kept : IsInLockstep x.net next (moved_on x.net start (at_place piece 0 left)) = keeps.kept start (at_place piece 0 left) k comes lockstep fires due (ap (λ (y : OperationTokens). y.tokens.trap) (sym same) ∙ on) in
            let laws : IsLawful (CanCome x.net) (net_moves x.net) = net_laws x.net in
            let plus : suc i + 1 ≡ 1 + operation_count x piece = omega (arith, last) in
            let beside_it : IsBeside x piece (suc i) 1 = (λ yes_acts. omega arith, ap (λ (b : Bool). suc i + act_count b) acts ∙ plus) in
            subst (λ (y : OperationTokens). IsInOperationLockstep x y (control_after x t (at_place piece i leaves))) (sym same)
            (goes_on x n facts words t piece i leaves 0 left start next beside_it
            (last_taken x n facts words t piece i leaves left start last (decided_last x n facts piece start at i run op is e ok last))
            kept (laws.stays_sound start k comes fires))

        by_result : (op : Operation) (is : slice_get (operations_at x piece) i ≡ Some op) (r : Result Effect Trap) → result x n facts piece start at i (amid x n facts piece start at i) run.part op is ≡ r → goal
        unfolding goal
        by_result op is (Err trap) err =
            let stopped : IsStopped x n facts piece start at i (amid x n facts piece start at i) run.part op is trap = stops x n facts piece start at i (amid x n facts piece start at i) run.part op is trap err in
            absurd (trap_or_none (trap, source_line x.net piece) (sym stopped.trapped ∙ on))
        by_result op is (Ok e) ok = ⊎_elim (λ (more : suc i < operation_count x piece). next_amid op is e ok more) (λ (last : suc i ≡ operation_count x piece). next_past op is e ok last) (last_number i (operation_count x piece) low)

        pub amid_kept : IsInOperationLockstep x ((operation_moves x).fired (after (operation_moves x) (between_pieces x start) (range_with_len (first_operation x piece) i)) (first_operation x piece + i)) (control_after x (after (operation_moves x) (between_pieces x start) (range_with_len (first_operation x piece) i)) (at_place piece i leaves))
        unfolding goal
        amid_kept = let own : HasItem (operations_at x piece) i = item_at (operations_at x piece) i low in by_result own.item own.at (result x n facts piece start at i (amid x n facts piece start at i) run.part own.item own.at) refl

  -- ---- past them

  module _ (start : Tokens) (piece i leaves j left : ℕ) (lockstep : IsInLockstep x.net start (at_place piece j left)) (comes : CanCome x.net start) (is : IsBeside x piece i j) (left_is : 0 < i → leaves ≡ left) (low : i < operation_node_count x piece) (going : start.trap ≡ None) where
    piece_there : piece < (graph_in x.net).nodes
    piece_there = piece_exists x.net start (at_place piece j left) lockstep

    low_there : j < node_count x.net piece
    low_there = let count = beside_count x piece i j is in omega (arith, count, low)

    same_node : Commutes x (first_operation x piece + i) (first_node x.net piece + j)
    same_node = beside x piece i j piece_there is low_there

    fires_there : CanFire (net_moves x.net) start (first_node x.net piece + j)
    fires_there = source.fires start (at_place piece j left) (first_node x.net piece + j) comes lockstep going (due_there start piece j left low_there)

    pub past_can : CanFire (operation_moves x) (between_pieces x start) (first_operation x piece + i)
    past_can = let fires = fires_there in record {
      going = going;
      node = Rattle.op_board.proofs.PieceNodes.operation_below x piece i piece_there low;
      ready = same_node.ready start ∙ fires.ready;
    }

    pub past_kept : ((operation_moves x).fired (between_pieces x start) (first_operation x piece + i)).tokens.trap ≡ None → IsInOperationLockstep x ((operation_moves x).fired (between_pieces x start) (first_operation x piece + i)) (control_after x (between_pieces x start) (at_place piece i leaves))
    past_kept on =
        let next = (net_moves x.net).fired start (first_node x.net piece + j) in
        let same : (operation_moves x).fired (between_pieces x start) (first_operation x piece + i) ≡ between_pieces x next = same_node.fired start in
        let kept : IsInLockstep x.net next (moved_on x.net start (at_place piece j left)) = keeps.kept start (at_place piece j left) (first_node x.net piece + j) comes lockstep fires_there (due_there start piece j left low_there) (ap (λ (y : OperationTokens). y.tokens.trap) (sym same) ∙ on) in
        let laws : IsLawful (CanCome x.net) (net_moves x.net) = net_laws x.net in
        let sum = is.1 in
        let next_beside : IsBeside x piece (suc i) (suc j) = (λ acts. omega arith, omega (arith, sum)) in
        subst (λ (y : OperationTokens). IsInOperationLockstep x y (control_after x (between_pieces x start) (at_place piece i leaves))) (sym same)
        (goes_on x n facts words (between_pieces x start) piece i leaves j left start next next_beside
        (past_taken x n facts words (between_pieces x start) piece i leaves j left start piece_there is left_is)
        kept (laws.stays_sound start (first_node x.net piece + j) comes fires_there))

  -- ---- where nothing is due

  module _ (start : Tokens) (piece j left : ℕ) (lockstep : IsInLockstep x.net start (at_place piece j left)) (high : node_count x.net piece ≤ j) where
    end_kind_of : (k : PieceKind) → is_end k ≡ true → k ≡ kind.End
    end_kind_of kind.End is = refl
    end_kind_of kind.Start is = absurd cc
    end_kind_of kind.Act is = absurd cc
    end_kind_of kind.Pass is = absurd cc
    end_kind_of kind.Branch is = absurd cc
    end_kind_of kind.Join is = absurd cc
    end_kind_of kind.Hold is = absurd cc

    over_at_end : is_end (kind_in x.net piece) ≡ true → IsOver (operation_moves x) (between_pieces x start)
    over_at_end is =
        let net = x.net in
        let way = lockstep.way in
        let few = lockstep.few in
        let g = graph_in x.net in
        let end_kind : kind_in net piece ≡ kind.End = end_kind_of (kind_in net piece) is in
        let exists : piece < (graph_in x.net).nodes = piece_exists net start (at_place piece j left) lockstep in
        let made : pass_at net piece lockstep.memory ≡ Done = ap (λ k. pass_of net.program net.input lockstep.memory (out g piece) k (exec_kind net.program piece)) end_kind in
        let at_finish : piece ≡ finish net.program.execs = (lockstep.ground.graph.shape.end piece exists).0 end_kind in
        let some = some_edge net lockstep.is_net lockstep.ground in
        let begins : from g 0 ≡ piece = (lockstep.ground.graph.shape.leaves_end 0 some).1 refl ∙ sym at_finish in
        let back_out : 0 ≡ out g piece 0 = lockstep.ground.graph.one_out 0 some (ap (λ (y : ℕ). leaves_one (kind_in net y)) begins ∙ ap leaves_one end_kind) ∙ ap (λ (y : ℕ). out g y 0) begins in
        let leaves : leaving net piece (pass_at net piece lockstep.memory) ≡ 0 = ap (leaving net piece) made ∙ sym back_out in
        let all : j ≡ node_count net piece = omega (arith, few, high) in
        let full : IsAmid net lockstep.start start piece (node_count net piece) lockstep.memory (pass_at net piece lockstep.memory) = subst (λ (i : ℕ). IsAmid net lockstep.start start piece i lockstep.memory (pass_at net piece lockstep.memory)) all lockstep.amid in
        let between : IsBetween net lockstep.is_net.tree start 0 (memory_or lockstep.memory (pass_at net piece lockstep.memory)) = all_fired net lockstep.is_net lockstep.ground lockstep.edge piece way.exists lockstep.comes (later net start (at_place piece j left) lockstep) lockstep.start lockstep.memory lockstep.between start full 0 leaves some begins in
        operations_rest x facts lockstep.is_net lockstep.ground start (memory_or lockstep.memory (pass_at net piece lockstep.memory)) between

    pub past_over : IsOver (operation_moves x) (between_pieces x start)
    past_over = ⊎_elim
        (λ (h : is_end (kind_in x.net piece) ≡ true). over_at_end h)
        (λ (h : is_end (kind_in x.net piece) ≡ false). let low = lockstep.due h in absurd (omega (arith, low, high)))
        (cases_Bool (is_end (kind_in x.net piece)))

  -- ---- places as they are

  -- the place of the statement net's control, at the piece of the other
  same_control : (start : Tokens) (c d : Control) → c.piece ≡ d.piece → IsInLockstep x.net start c → IsInLockstep x.net start (at_place d.piece c.fired c.leaves)
  same_control start c d same lockstep = subst (λ (p : ℕ). IsInLockstep x.net start (at_place p c.fired c.leaves)) same lockstep

  first_control_at : (start : Tokens) (c d : Control) → c.piece ≡ d.piece → c.fired ≡ 0 → IsInLockstep x.net start c → IsInLockstep x.net start (at_place d.piece 0 c.leaves)
  first_control_at start c d same none lockstep = subst (λ (i : ℕ). IsInLockstep x.net start (at_place d.piece i c.leaves)) none (same_control start c d same lockstep)

  acts_if_some : (piece i : ℕ) → i < operation_count x piece → is_acting (kind_in x.net piece) ≡ true
  acts_if_some piece i low = ⊎_elim
      (λ (acts : is_acting (kind_in x.net piece) ≡ true). acts)
      (λ (idle : is_acting (kind_in x.net piece) ≡ false). let none = no_operations x piece idle in absurd (omega (arith, low, none)))
      (cases_Bool (is_acting (kind_in x.net piece)))

  -- ---- the order

  module _ (m : OperationTokens) (c : Control) (amid_it : IsAmidOperations x m c) where
    own_lockstep : IsInLockstep x.net amid_it.start (at_place c.piece 0 amid_it.control.leaves)
    own_lockstep = first_control_at amid_it.start amid_it.control c amid_it.same_piece amid_it.at_first amid_it.lockstep

    own_acts : is_acting (kind_in x.net c.piece) ≡ true
    own_acts = acts_if_some c.piece c.fired amid_it.some_left

    amid_fires : m.tokens.trap ≡ None → CanFire (operation_moves x) m (first_operation x c.piece + c.fired)
    amid_fires going = subst (λ (t : OperationTokens). CanFire (operation_moves x) t (first_operation x c.piece + c.fired)) (sym amid_it.is)
        (amid_can amid_it.start c.piece c.fired c.leaves amid_it.control.leaves own_lockstep amid_it.can_come amid_it.some_left own_acts amid_it.order (ap (λ (t : OperationTokens). t.tokens.trap) (sym amid_it.is) ∙ going))

    amid_keeps : m.tokens.trap ≡ None → ((operation_moves x).fired m (first_operation x c.piece + c.fired)).tokens.trap ≡ None → IsInOperationLockstep x ((operation_moves x).fired m (first_operation x c.piece + c.fired)) (control_after x m c)
    amid_keeps going on = subst (λ (t : OperationTokens). IsInOperationLockstep x ((operation_moves x).fired t (first_operation x c.piece + c.fired)) (control_after x t c)) (sym amid_it.is)
        (amid_kept amid_it.start c.piece c.fired c.leaves amid_it.control.leaves own_lockstep amid_it.can_come amid_it.some_left own_acts amid_it.order (ap (λ (t : OperationTokens). t.tokens.trap) (sym amid_it.is) ∙ going) (ap (λ (t : OperationTokens). ((operation_moves x).fired t (first_operation x c.piece + c.fired)).tokens.trap) (sym amid_it.is) ∙ on))

    amid_due : operation_node_count x c.piece ≤ c.fired → ⊥
    amid_due high =
        let count = acting_count x c.piece own_acts in
        let some = below_length (nodes_at x.net c.piece) 0 (Act c.piece) (act_first x.net c.piece (kind_in x.net c.piece) own_acts) in
        let low = amid_it.some_left in
        omega (arith, count, some, low, high)

  module _ (m : OperationTokens) (c : Control) (sound : OperationsCanCome x m) (past : IsPastOperations x m c) where
    there_lockstep : IsInLockstep x.net past.start (at_place c.piece past.control.fired past.control.leaves)
    there_lockstep = same_control past.start past.control c past.same_piece past.lockstep

    there_comes : CanCome x.net past.start
    there_comes =
        let own = sound.is_net in
        let marking = sound.is_marking in
        record { ground = sound.ground; is_net = own.is_net; is_marking = subst (λ (t : OperationTokens). Rattle.net_board.specs.SoundNets.IsMarking x.net t.tokens) past.is marking.tokens }

    there_beside : IsBeside x c.piece c.fired past.control.fired
    there_beside = (past.acted, past.fired)

    past_fires : c.fired < operation_node_count x c.piece → m.tokens.trap ≡ None → CanFire (operation_moves x) m (first_operation x c.piece + c.fired)
    past_fires low going = subst (λ (t : OperationTokens). CanFire (operation_moves x) t (first_operation x c.piece + c.fired)) (sym past.is)
        (past_can past.start c.piece c.fired c.leaves past.control.fired past.control.leaves there_lockstep there_comes there_beside past.leaves low (ap (λ (t : OperationTokens). t.tokens.trap) (sym past.is) ∙ going))

    past_keeps : c.fired < operation_node_count x c.piece → m.tokens.trap ≡ None → ((operation_moves x).fired m (first_operation x c.piece + c.fired)).tokens.trap ≡ None → IsInOperationLockstep x ((operation_moves x).fired m (first_operation x c.piece + c.fired)) (control_after x m c)
    past_keeps low going on = subst (λ (t : OperationTokens). IsInOperationLockstep x ((operation_moves x).fired t (first_operation x c.piece + c.fired)) (control_after x t c)) (sym past.is)
        (past_kept past.start c.piece c.fired c.leaves past.control.fired past.control.leaves there_lockstep there_comes there_beside past.leaves low (ap (λ (t : OperationTokens). t.tokens.trap) (sym past.is) ∙ going) (ap (λ (t : OperationTokens). ((operation_moves x).fired t (first_operation x c.piece + c.fired)).tokens.trap) (sym past.is) ∙ on))

    past_rests : operation_node_count x c.piece ≤ c.fired → IsOver (operation_moves x) m
    past_rests high =
        let count = beside_count x c.piece c.fired past.control.fired there_beside in
        subst (λ (t : OperationTokens). IsOver (operation_moves x) t) (sym past.is) (past_over past.start c.piece past.control.fired past.control.leaves there_lockstep (omega (arith, count, high)))

  pub operations_keep_step : KeepsStep (OperationsCanCome x) (operation_moves x) (operation_course x) (IsInOperationLockstep x)
  operations_keep_step = record {
    kept = λ m c k sound in_step fires due going.
        let d : IsDueOperation x c k = due_operation_is x c k due in
        let go : ((operation_moves x).fired m (first_operation x c.piece + c.fired)).tokens.trap ≡ None = subst (λ (i : ℕ). ((operation_moves x).fired m i).tokens.trap ≡ None) (sym d.is) going in
        subst (λ (i : ℕ). IsInOperationLockstep x ((operation_moves x).fired m i) (control_after x m c)) d.is
        (⊎_elim
        (λ (a : IsAmidOperations x m c). amid_keeps m c a fires.going go)
        (λ (p : IsPastOperations x m c). past_keeps m c sound p d.low fires.going go)
        in_step);
  }

  pub operations_have_order : IsSourceOrder (OperationsCanCome x) (operation_moves x) (operation_course x) (IsInOperationLockstep x)
  operations_have_order = record {
    fires = λ m c k sound in_step going due.
        let d : IsDueOperation x c k = due_operation_is x c k due in
        subst (λ (i : ℕ). CanFire (operation_moves x) m i) d.is
        (⊎_elim
        (λ (a : IsAmidOperations x m c). amid_fires m c a going)
        (λ (p : IsPastOperations x m c). past_fires m c sound p d.low going)
        in_step);
    over = λ m c sound in_step going due.
        let high = no_operation_due x c due in
        ⊎_elim
        (λ (a : IsAmidOperations x m c). absurd (amid_due m c a high))
        (λ (p : IsPastOperations x m c). past_rests m c sound p high)
        in_step;
  }
