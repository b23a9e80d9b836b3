-- All nodes of a piece fire one after another, and control goes on.
use Rattle.std.proofs.Common.{◌≡◌, ◌<◌, ◌≤◌, ◌⊎◌, ⊎_elim, ℕ, suc, ◌+◌, ◌-◌, Bool, true, false, List, [], Option, Some, None, slice_get, Result, Ok, Err, refl, sym, ap, ◌∙◌, subst, inl, inr, arith}
use Rattle.std.proofs.lemmas.Bool.{cases_Bool}
use Rattle.std.specs.List.{range_with_len}
use Rattle.op_table.specs.declared.Trap.{Trap}
use Rattle.f77_tree.specs.Steps.{HoldsWords}
use Rattle.cfg_build.specs.Joined.{is_end}
use Rattle.cfg_build.specs.Passes.{out, passes}
use Rattle.dep_routing.specs.Sound.{DoesTrap}
use Rattle.dep_routing.specs.Touches.{exec_kind}
use Rattle.firing.specs.Orders.{IsOrder, after}
use Rattle.firing.specs.Play.{Moment, moment}
use Rattle.firing.specs.SourceOrder.{FiresTo, IsDueOrder}
use Rattle.firing.proofs.PlayLemmas.{same_moment}
use Rattle.net_board.specs.declared.control.Control.{Control}
use Rattle.net_board.specs.ControlCourse.{arrived, edge_or}
use Rattle.net_board.specs.NetLockstep.{IsInLockstep}
use Rattle.net_board.specs.Nodes.{graph_in, kind_in, is_acting, node_count}
use Rattle.net_board.specs.SoundNets.{CanCome, IsMarking}
use Rattle.net_board.specs.Tokens.{Tokens, text_of, written}
use Rattle.net_board.specs.WithinPiece.{leaving}
use Rattle.net_board.proofs.DueLockstep.{place_after}
use Rattle.net_board.proofs.ListPrefixes.{HasItem, item_at}
use Rattle.net_board.proofs.LockstepLaws.{piece_exists}
use Rattle.op_board.specs.Effects.{Effect, All_done}
use Rattle.op_board.specs.Operations.{Operation}
use Rattle.op_board.specs.OperationCourse.{operation_course}
use Rattle.op_board.specs.OperationFacts.{OperationFacts}
use Rattle.op_board.specs.OperationLockstep.{IsInOperationLockstep, IsPastOperations, act_count}
use Rattle.op_board.specs.OperationNets.{OperationNet, first_operation, operation_count, operation_node, operation_node_count, operations_at}
use Rattle.op_board.specs.OperationOrder.{ran_at}
use Rattle.op_board.specs.OperationTokens as game
use Rattle.op_board.specs.OperationTokens.{OperationTokens, between_pieces, operation_moves}
use Rattle.op_board.specs.OrderFacts.{OrderFacts}
use Rattle.op_board.specs.SoundOperationNets.{IsOperationNet, OperationsCanCome}
use Rattle.op_board.specs.WholePieces.{PassesWhole, PiecePasses, answer_of, own_way}
use Rattle.op_board.proofs.DueMoments.{fires_range, goes as goes_first, newest_line, order_first}
use Rattle.op_board.proofs.DueOperations.{all_placed, idle_told, leaves_after, so_many_due, stays_told}
use Rattle.op_board.proofs.NeededLines.{IsDistance, distance}
use Rattle.op_board.proofs.OperationControl.{at_place, idle_way}
use Rattle.op_board.proofs.OperationEnds.{text_last}
use Rattle.op_board.proofs.OperationSteps.{last_number, result, silent_next}
use Rattle.op_board.proofs.PassedPieces.{all_is, alone, along, at, beside_all, exists, goes, quiet_by, runs, silent_other, some_here, some_nodes}
use Rattle.op_board.proofs.PieceLines.{low_or_high}
use Rattle.op_board.proofs.PieceNodes.{acting_count, no_operations}
use Rattle.op_board.proofs.PieceRuns.{IsPartRun, IsStopRun, amid, decided_end, run_by_order, run_stops}
use Rattle.op_board.proofs.PiecesBeside.{AreBeside}

module _ (x : OperationNet) (n : IsOperationNet x) (facts : OperationFacts x) (words : (k : ℕ) → HoldsWords (passes x.net.program x.net.input k).memory) (start : Tokens) (piece left : ℕ) (lockstep : IsInLockstep x.net start (at_place piece 0 left)) (comes : CanCome x.net start) (not_end : is_end (kind_in x.net piece) ≡ false) (last : Effect) (ran : ran_at x piece start.memory ≡ All_done last) where
  -- the marking after so many of the nodes
  abbrev now : ℕ → OperationTokens
  now i = after (operation_moves x) (between_pieces x start) (range_with_len (first_operation x piece) i)

  abbrev line_at : ℕ → Option (List ℕ)
  line_at i = game.line_as x (now i) (operation_node x (first_operation x piece + i))

  order : IsOrder (operation_moves x) (between_pieces x start) (range_with_len (first_operation x piece) (operation_node_count x piece))
  order = let all : AreBeside x n facts lockstep.is_net lockstep.ground piece start (exists x n facts words start piece left lockstep comes not_end last ran) (operation_node_count x piece) (node_count x.net piece) = beside_all x n facts words start piece left lockstep comes not_end last ran in all.order

  going : (now (operation_node_count x piece)).tokens.trap ≡ None
  going = ap (λ (t : OperationTokens). t.tokens.trap) (all_is x n facts words start piece left lockstep comes not_end last ran) ∙ lockstep.amid.trap_is

  many : is_acting (kind_in x.net piece) ≡ true → operation_count x piece ≤ operation_node_count x piece
  many acts =
      let count = acting_count x piece acts in
      let some = some_nodes x n facts words start piece left lockstep comes not_end last ran in
      omega (arith, count, some)

  -- ---- what they write

  record IsSo (i : ℕ) : Type 0 where
    silent : suc i < operation_count x piece → line_at i ≡ None
    writes : suc i ≡ operation_count x piece → line_at i ≡ written last.text

  module _ (acts : is_acting (kind_in x.net piece) ≡ true) (i : ℕ) (low : i < operation_count x piece) where
    part : IsPartRun x n facts piece start (at x n facts words start piece left lockstep comes not_end last ran acts) i
    part =
        let all = many acts in
        run_by_order x n facts piece start (at x n facts words start piece left lockstep comes not_end last ran acts) i low
        (order_first (operation_moves x) (operation_course x) (between_pieces x start) (at_place piece 0 left) (first_operation x piece) (operation_node_count x piece) i (omega (arith, low, all)) order)
        (goes_first (operation_moves x) (operation_course x) (between_pieces x start) (at_place piece 0 left) (first_operation x piece) (operation_node_count x piece) (so_many_due x piece (between_pieces x start) left (operation_node_count x piece) (omega arith)) order going i (omega (arith, low, all)))

    by_result : (op : Operation) (is : slice_get (operations_at x piece) i ≡ Some op) (r : Result Effect Trap) → result x n facts piece start (at x n facts words start piece left lockstep comes not_end last ran acts) i (now i) part.part op is ≡ r → IsSo i
    by_result op is (Ok e) same = record {
      silent = λ more. silent_next x n facts piece start (at x n facts words start piece left lockstep comes not_end last ran acts) i (now i) part.part op is e same more;
      writes = λ end. text_last x n facts piece start (at x n facts words start piece left lockstep comes not_end last ran acts) i (now i) part.part op is e same end ∙ ap text_of (along x n facts words start piece left lockstep comes not_end last ran);
    }
    by_result op is (Err trap) same =
        let stop : IsStopRun x n facts piece start (at x n facts words start piece left lockstep comes not_end last ran acts) = run_stops x n facts piece start (at x n facts words start piece left lockstep comes not_end last ran acts) i part op is trap low same in
        absurd (goes x n facts words start piece left lockstep comes not_end last ran (subst DoesTrap (sym stop.made) tt))

    is_so : IsSo i
    is_so =
        let own : HasItem (operations_at x piece) i = item_at (operations_at x piece) i low in
        by_result own.item own.at (result x n facts piece start (at x n facts words start piece left lockstep comes not_end last ran acts) i (now i) part.part own.item own.at) refl

  acts_if_some : (i : ℕ) → i < operation_count x piece → is_acting (kind_in x.net piece) ≡ true
  acts_if_some i low = ⊎_elim
      (λ (acts : is_acting (kind_in x.net piece) ≡ true). acts)
      (λ (idle : is_acting (kind_in x.net piece) ≡ false). let none = no_operations x piece idle in absurd (omega (arith, low, none)))
      (cases_Bool (is_acting (kind_in x.net piece)))

  -- where other nodes come after the operations
  no_text : operation_count x piece < operation_node_count x piece → last.text ≡ []
  no_text more = quiet_by x (kind_in x.net piece) (exec_kind x.net.program piece) start.memory (out (graph_in x.net) piece) (out (graph_in x.net) piece last.choice) last.memory last.text
      (λ act. let all = alone x piece act in omega (arith, all, more))
      (along x n facts words start piece left lockstep comes not_end last ran)

  silent : (i : ℕ) → suc i < operation_node_count x piece → line_at i ≡ None
  silent i low = by (low_or_high i (operation_count x piece))
    where
      own_line : IsSo i → (suc i < operation_count x piece) ⊎ (suc i ≡ operation_count x piece) → line_at i ≡ None
      own_line so (inl more) = so.silent more
      own_line so (inr end) = so.writes end ∙ ap written (no_text (omega (arith, end, low)))

      by : (i < operation_count x piece) ⊎ (operation_count x piece ≤ i) → line_at i ≡ None
      by (inl own) = own_line (is_so (acts_if_some i own) i own) (last_number i (operation_count x piece) own)
      by (inr high) = silent_other x (now i) piece i (exists x n facts words start piece left lockstep comes not_end last ran) high (omega (arith, low))

  writes : (i : ℕ) → suc i ≡ operation_node_count x piece → line_at i ≡ written last.text
  writes i is = by (low_or_high i (operation_count x piece))
    where
      own_line : (acts : is_acting (kind_in x.net piece) ≡ true) → IsSo i → (suc i < operation_count x piece) ⊎ (suc i ≡ operation_count x piece) → line_at i ≡ written last.text
      own_line acts so (inl more) = let all = many acts in absurd (omega (arith, is, more, all))
      own_line acts so (inr end) = so.writes end

      by : (i < operation_count x piece) ⊎ (operation_count x piece ≤ i) → line_at i ≡ written last.text
      by (inl own) = own_line (acts_if_some i own) (is_so (acts_if_some i own) i own) (last_number i (operation_count x piece) own)
      by (inr high) = silent_other x (now i) piece i (exists x n facts words start piece left lockstep comes not_end last ran) high (omega (arith, is)) ∙ ap written (sym (no_text (omega (arith, is, high))))

  -- ---- where control goes

  module _ (leaves : ℕ) where
    told : leaves_after x piece (between_pieces x start) leaves (operation_node_count x piece) ≡ out (graph_in x.net) piece last.choice
    told = by (cases_Bool (is_acting (kind_in x.net piece)))
      where
        by : (is_acting (kind_in x.net piece) ≡ true) ⊎ (is_acting (kind_in x.net piece) ≡ false) → leaves_after x piece (between_pieces x start) leaves (operation_node_count x piece) ≡ out (graph_in x.net) piece last.choice
        by (inl acts) =
            let run = runs x n facts words start piece left lockstep comes not_end last ran acts in
            let list = facts.lists piece (exists x n facts words start piece left lockstep comes not_end last ran) acts in
            let r : IsDistance (operation_count x piece) (operation_node_count x piece) = distance (operation_count x piece) (operation_node_count x piece) (many acts) in
            stays_told x piece (between_pieces x start) leaves (out (graph_in x.net) piece last.choice) list.some
            (λ i end. decided_end x n facts piece start run.0 run.1 i end ∙ ap (leaving x.net piece) (along x n facts words start piece left lockstep comes not_end last ran))
            r.more (operation_node_count x piece) (sym r.is)
        by (inr idle) =
            idle_told x piece (between_pieces x start) leaves idle (operation_node_count x piece) (some_here x n facts words start piece left lockstep comes not_end last ran)
            ∙ sym (idle_way x piece start.memory (exec_kind x.net.program piece) (kind_in x.net piece) idle)
            ∙ ap (edge_or (out (graph_in x.net) piece 0)) (along x n facts words start piece left lockstep comes not_end last ran)

    placed : place_after (operation_moves x) (operation_course x) (between_pieces x start) (at_place piece 0 leaves) (range_with_len (first_operation x piece) (operation_node_count x piece)) ≡ arrived x.net (out (graph_in x.net) piece last.choice)
    placed = all_placed x piece (between_pieces x start) leaves (operation_node_count x piece) refl (some_here x n facts words start piece left lockstep comes not_end last ran) not_end ∙ ap (arrived x.net) told

    due : IsDueOrder (operation_moves x) (operation_course x) (between_pieces x start) (at_place piece 0 leaves) (range_with_len (first_operation x piece) (operation_node_count x piece))
    due = so_many_due x piece (between_pieces x start) leaves (operation_node_count x piece) (omega arith)

    pub passes_whole : PiecePasses x (between_pieces x start) (at_place piece 0 leaves) last
    passes_whole =
        let some = some_here x n facts words start piece left lockstep comes not_end last ran in
        record {
          to = subst (λ (end : Moment OperationTokens Control). FiresTo (own_way x) (moment (between_pieces x start) (Some (at_place piece 0 leaves))) (operation_node_count x piece) (operation_node_count x piece) (answer_of (written last.text)) end)
              (same_moment (all_is x n facts words start piece left lockstep comes not_end last ran) (ap (λ (p : Control). Some p) placed))
              (fires_range (operation_moves x) (operation_course x) (between_pieces x start) (at_place piece 0 leaves) (first_operation x piece) (operation_node_count x piece) due order going (written last.text) silent writes some);
          line = λ old. newest_line (operation_moves x) (operation_course x) (between_pieces x start) (at_place piece 0 leaves) (first_operation x piece) (operation_node_count x piece) due order going (written last.text) silent writes old (operation_node_count x piece - 1) (omega (arith, some));
        }

-- ---- a place at which no node of the piece has fired

record HasCome (x : OperationNet) (m : OperationTokens) (c : Control) : Type 0 where
  start : Tokens
  left : ℕ
  lockstep : IsInLockstep x.net start (at_place c.piece 0 left)
  comes : CanCome x.net start
  is : m ≡ between_pieces x start

module _ (x : OperationNet) (facts : OperationFacts x) (m : OperationTokens) (c : Control) (sound : OperationsCanCome x m) (none : c.fired ≡ 0) where
  came_at : (start : Tokens) (control : Control) → IsInLockstep x.net start control → control.piece ≡ c.piece → control.fired ≡ 0 → IsInLockstep x.net start (at_place c.piece 0 control.leaves)
  came_at start control lockstep same first =
      subst (λ (p : ℕ). IsInLockstep x.net start (at_place p 0 control.leaves)) same
      (subst (λ (i : ℕ). IsInLockstep x.net start (at_place control.piece i control.leaves)) first lockstep)

  none_there : (past : IsPastOperations x m c) → past.control.fired ≡ 0
  none_there past = by (cases_Bool (is_acting (kind_in x.net c.piece)))
    where
      by : (is_acting (kind_in x.net c.piece) ≡ true) ⊎ (is_acting (kind_in x.net c.piece) ≡ false) → past.control.fired ≡ 0
      by (inl acts) =
          let there : c.piece < (graph_in x.net).nodes = subst (λ (p : ℕ). p < (graph_in x.net).nodes) past.same_piece (piece_exists x.net past.start past.control past.lockstep) in
          let list = facts.lists c.piece there acts in
          let some = list.some in
          let acted = past.acted acts in
          let sum : c.fired + 1 ≡ past.control.fired + operation_count x c.piece = ap (λ (b : Bool). c.fired + act_count b) (sym acts) ∙ past.fired in
          absurd (omega (arith, some, acted, sum, none))
      by (inr idle) =
          let sum : c.fired + 0 ≡ past.control.fired + operation_count x c.piece = ap (λ (b : Bool). c.fired + act_count b) (sym idle) ∙ past.fired in
          omega (arith, sum, none)

  has_come : IsInOperationLockstep x m c → HasCome x m c
  has_come (inl amid) = record {
    start = amid.start;
    left = amid.control.leaves;
    lockstep = came_at amid.start amid.control amid.lockstep amid.same_piece amid.at_first;
    comes = amid.can_come;
    is = amid.is ∙ ap (λ (i : ℕ). after (operation_moves x) (between_pieces x amid.start) (range_with_len (first_operation x c.piece) i)) none;
  }
  has_come (inr past) = record {
    start = past.start;
    left = past.control.leaves;
    lockstep = came_at past.start past.control past.lockstep past.same_piece (none_there past);
    comes = record { ground = sound.ground; is_net = sound.is_net.is_net; is_marking = subst (λ (t : OperationTokens). IsMarking x.net t.tokens) past.is sound.is_marking.tokens };
    is = past.is;
  }

pub pieces_pass_whole : (x : OperationNet) → IsOperationNet x → OrderFacts x → PassesWhole x
pieces_pass_whole x n known m c last sound step none not_end ran =
    let come : HasCome x m c = has_come x known.operations m c sound none step in
    let same : ran_at x c.piece come.start.memory ≡ All_done last = ap (λ (t : OperationTokens). ran_at x c.piece t.tokens.memory) (sym come.is) ∙ ran in
    subst (λ (i : ℕ). PiecePasses x m (at_place c.piece i c.leaves) last) (sym none)
    (subst (λ (t : OperationTokens). PiecePasses x t (at_place c.piece 0 c.leaves) last) (sym come.is)
    (passes_whole x n known.operations known.words come.start c.piece come.left come.lockstep come.comes not_end last same c.leaves))
