-- The firings of a pass in a net of operations beside those in its net of statements.
use Rattle.std.proofs.Common.{◌≡◌, ◌<◌, ◌≤◌, ◌⊎◌, ℕ, zero, suc, ◌+◌, not, Bool, true, false, List, [], ◌∷◌, ◌++◌, length, Option, Some, None, is_some, slice_get, refl, sym, ap, ◌∙◌, subst, inl, inr, append-nil, arith}
use Rattle.std.proofs.lemmas.Bool.{and_parts, cases_Bool}
use Rattle.std.specs.List.{list_all, range_with_len}
use Rattle.closed_walks.specs.Graph.{to}
use Rattle.f77_tree.specs.Execution.{Memory}
use Rattle.f77_tree.specs.Steps.{HoldsWords}
use Rattle.cfg_build.specs.declared.pieces.PieceKind.{PieceKind}
use Rattle.cfg_build.specs.declared.pieces.PieceKind.TheVariants as kind
use Rattle.dep_routing.specs.Sound.{DoesTrap}
use Rattle.list_laws.specs.Member.{Member}
use Rattle.list_laws.proofs.Members.{Member-range}
use Rattle.firing.specs.Moves.{Moves, CanFire, line_bytes}
use Rattle.firing.specs.Orders.{IsOrder, after, counted, serial_count, written}
use Rattle.firing.specs.declared.system.NodeName.{NodeName}
use Rattle.firing.specs.declared.system.NodeName.TheVariants.{Act}
use Rattle.net_board.specs.FlowFacts.{FlowFacts}
use Rattle.net_board.specs.NetLockstep.{IsBetween, IsOnWay}
use Rattle.net_board.specs.Nodes.{NetOf, graph_in, kind_in, first_node, is_acting, node_at, node_count, nodes_at, nodes_by, switches, touched}
use Rattle.net_board.specs.SoundNets.{CanCome, IsNet}
use Rattle.net_board.specs.Tokens.{Tokens, acted, fired_as, is_before, left_for, line_as, net_moves, pass_at, ready_as, serial_as}
use Rattle.net_board.proofs.ControlWays.{not_start}
use Rattle.net_board.proofs.LockstepLaws.{traps_touch}
use Rattle.net_board.proofs.OrderJoins.{range_more, serial_join}
use Rattle.net_board.proofs.PieceEnds.{none_fired}
use Rattle.net_board.proofs.PieceSteps.{node_named, ready_next}
use Rattle.op_board.specs.OperationFacts.{IsNeededAt, OperationFacts}
use Rattle.op_board.specs.OperationLockstep.{act_count}
use Rattle.op_board.specs.OperationNets.{OperationNet, first_operation, operation_count, operation_node, operation_node_count}
use Rattle.op_board.specs.OperationTokens as game
use Rattle.op_board.specs.OperationTokens.{OperationTokens, between_pieces, operation_moves}
use Rattle.op_board.specs.SoundOperationNets.{IsOperationNet}
use Rattle.op_board.proofs.AmidPieces.{IsAtPiece}
use Rattle.op_board.proofs.OtherNodes.{Commutes, IsBeside, beside, beside_count}
use Rattle.op_board.proofs.PieceNodes.{is_operation, no_operations, operation_below, operation_named}
use Rattle.op_board.proofs.PieceRuns.{IsAllRun}
use Rattle.op_board.proofs.RangeOrders.{after_more, order_less, order_more, written_more}

-- ---- counts

serial_range : {M : Type 0} (s : Moves M) (a i : ℕ) → serial_count s (range_with_len a (suc i)) ≡ serial_count s (range_with_len a i) + counted (s.serial (a + i))
serial_range s a i = ap (serial_count s) (range_more a i) ∙ serial_join s (range_with_len a i) ((a + i) ∷ []) ∙ ap (λ (n : ℕ). serial_count s (range_with_len a i) + n) (plus_zero (counted (s.serial (a + i))))
  where
    plus_zero : (n : ℕ) → n + 0 ≡ n
    plus_zero n = omega arith

pub serial_some : {M : Type 0} (s : Moves M) (ks : List ℕ) (k : ℕ) → Member ks k → s.serial k ≡ true → 1 ≤ serial_count s ks
serial_some s [] k m is = absurd m
serial_some s (j ∷ ks) k (inl same) is = at_least (counted (s.serial j)) (serial_count s ks) (ap (λ (i : ℕ). counted (s.serial i)) same ∙ ap counted is)
  where
    at_least : (a b : ℕ) → a ≡ 1 → 1 ≤ a + b
    at_least a b is = omega (arith, is)
serial_some s (j ∷ ks) k (inr m) is = at_least (counted (s.serial j)) (serial_count s ks) (serial_some s ks k m is)
  where
    at_least : (a b : ℕ) → 1 ≤ b → 1 ≤ a + b
    at_least a b is = omega (arith, is)

pub act_first : (net : NetOf) (piece : ℕ) (k : PieceKind) → is_acting k ≡ true → slice_get (nodes_by net piece k) 0 ≡ Some (Act piece)
act_first net piece kind.Act acts = refl
act_first net piece kind.Branch acts = refl
act_first net piece kind.Hold acts = refl
act_first net piece kind.Start acts = absurd cc
act_first net piece kind.Pass acts = absurd cc
act_first net piece kind.Join acts = absurd cc
act_first net piece kind.End acts = absurd cc

module _ (x : OperationNet) (n : IsOperationNet x) (facts : OperationFacts x) (is_net : IsNet x.net) (ground : FlowFacts x.net is_net.tree) where
  -- ---- a piece that acts

  pub at_piece : (passes_made edge : ℕ) (memory : Memory) (m : Tokens) → IsOnWay x.net passes_made edge memory → IsBetween x.net is_net.tree m edge memory → CanCome x.net m → HoldsWords memory → is_acting (kind_in x.net (to (graph_in x.net) edge)) ≡ true → IsAtPiece x (to (graph_in x.net) edge) m
  at_piece k edge memory m way between sound words acts =
      let piece = to (graph_in x.net) edge in
      let marking = sound.is_marking in
      let ready : ready_as x.net m (first_node x.net piece + 0) (Act piece) ≡ true = ready_next x.net is_net ground edge piece way.exists refl m memory between m 0 (none_fired x.net is_net ground edge piece way.exists refl (not_start x.net is_net ground k edge memory way) m memory between) (Act piece) (act_first x.net piece (kind_in x.net piece) acts) in
      let both = and_parts (list_all (is_before x.net m piece) (touched x.net piece)) (list_all (λ switch. not (is_some (left_for m switch))) (switches x.net piece)) ready in
      record {
        exists = ground.graph.heads edge way.exists;
        acts = acts;
        going = between.trap_is;
        before = both.0;
        clear = both.1;
        sizes = marking.memory;
        words = subst (λ (y : Memory). HoldsWords y) (sym between.memory_is) words;
        traps = λ does. traps_touch x.net is_net k edge piece memory way refl (subst (λ (y : Memory). DoesTrap (pass_at x.net piece y)) between.memory_is does);
      }

  module _ (piece : ℕ) (m : Tokens) (exists : piece < (graph_in x.net).nodes) where
    abbrev pub here : (i : ℕ) → List ℕ
    here i = range_with_len (first_operation x piece) i

    abbrev pub there : (j : ℕ) → List ℕ
    there j = range_with_len (first_node x.net piece) j

    -- so many nodes of the piece do what so many of the net of statements do
    pub record AreBeside (i j : ℕ) : Type 0 where
      pub order : IsOrder (operation_moves x) (between_pieces x m) (here i)
      pub is : after (operation_moves x) (between_pieces x m) (here i) ≡ between_pieces x (after (net_moves x.net) m (there j))
      pub lines : written (operation_moves x) (between_pieces x m) (here i) ≡ written (net_moves x.net) m (there j)
      pub serial : serial_count (net_moves x.net) (there j) ≤ serial_count (operation_moves x) (here i)

    none_beside : AreBeside 0 0
    none_beside = record { order = tt; is = refl; lines = refl; serial = omega arith }

    -- the node of a piece that acts
    pub act_named : is_acting (kind_in x.net piece) ≡ true → node_at x.net (first_node x.net piece) ≡ Act piece
    act_named acts =
        let same : first_node x.net piece + 0 ≡ first_node x.net piece = omega arith in
        subst (λ (i : ℕ). node_at x.net i ≡ Act piece) same (node_named x.net piece 0 (Act piece) exists (act_first x.net piece (kind_in x.net piece) acts))

    pub act_fired : is_acting (kind_in x.net piece) ≡ true → (net_moves x.net).fired m (first_node x.net piece) ≡ acted x.net m piece (pass_at x.net piece m.memory)
    act_fired acts = ap (fired_as x.net m (first_node x.net piece)) (act_named acts)

    serial_first : is_acting (kind_in x.net piece) ≡ true → serial_count (net_moves x.net) (there 1) ≤ serial_count (operation_moves x) (here (operation_count x piece))
    serial_first acts = by (x.net.touches piece 0) refl
      where
        by : (b : Bool) → x.net.touches piece 0 ≡ b → counted (serial_as x.net (node_at x.net (first_node x.net piece))) + 0 ≤ serial_count (operation_moves x) (here (operation_count x piece))
        by false untouched = let none : counted (serial_as x.net (node_at x.net (first_node x.net piece))) ≡ 0 = ap (λ (a : NodeName). counted (serial_as x.net a)) (act_named acts) ∙ ap counted untouched in omega (arith, none)
        by true touches =
            let own : IsNeededAt x piece 0 = facts.needed piece 0 exists acts touches in
            let low = own.inside in
            let one : counted (serial_as x.net (node_at x.net (first_node x.net piece))) ≡ 1 = ap (λ (a : NodeName). counted (serial_as x.net a)) (act_named acts) ∙ ap counted touches in
            let named : operation_node x (first_operation x piece + own.number) ≡ Rattle.firing.specs.declared.system.NodeName.TheVariants.Op piece own.number = operation_named x piece own.number (Rattle.firing.specs.declared.system.NodeName.TheVariants.Op piece own.number) exists (is_operation x piece own.number acts own.inside) in
            let some = serial_some (operation_moves x) (here (operation_count x piece)) (first_operation x piece + own.number) (Member-range (first_operation x piece) (operation_count x piece) (first_operation x piece + own.number) (omega arith) (omega (arith, low))) (ap (game.serial_as x) named ∙ own.needs) in
            omega (arith, one, some)

    pub acts_beside : (acts : is_acting (kind_in x.net piece) ≡ true) (at : IsAtPiece x piece m) → IsAllRun x n facts piece m at → AreBeside (operation_count x piece) 1
    acts_beside acts at run = record {
      order = run.order;
      is = run.is ∙ ap (between_pieces x) (sym (act_fired acts));
      lines = run.lines ∙ ap line_bytes (sym (ap (line_as x.net m) (act_named acts))) ∙ sym (append-nil (line_bytes (line_as x.net m (node_at x.net (first_node x.net piece)))));
      serial = serial_first acts;
    }

    -- one node more
    next_beside : (i j : ℕ) → IsBeside x piece i j → j < node_count x.net piece → IsOrder (net_moves x.net) m (there (suc j)) → AreBeside i j → AreBeside (suc i) (suc j)
    next_beside i j is low order are =
        let same : Commutes x (first_operation x piece + i) (first_node x.net piece + j) = beside x piece i j exists is low in
        let t = after (net_moves x.net) m (there j) in
        let fires = (order_less (net_moves x.net) m (first_node x.net piece) j order).1 in
        let count = beside_count x piece i j is in
        let can : CanFire (operation_moves x) (after (operation_moves x) (between_pieces x m) (here i)) (first_operation x piece + i) = subst (λ (y : OperationTokens). CanFire (operation_moves x) y (first_operation x piece + i)) (sym are.is) (record {
          going = fires.going;
          node = operation_below x piece i exists (omega (arith, low, count));
          ready = same.ready (after (net_moves x.net) m (there j)) ∙ fires.ready;
        }) in
        let serial_here = serial_range (operation_moves x) (first_operation x piece) i in
        let serial_there = serial_range (net_moves x.net) (first_node x.net piece) j in
        let serial = are.serial in
        let one : counted ((operation_moves x).serial (first_operation x piece + i)) ≡ counted ((net_moves x.net).serial (first_node x.net piece + j)) = ap counted same.serial in
        record {
          order = order_more (operation_moves x) (between_pieces x m) (first_operation x piece) i are.order can;
          is = after_more (operation_moves x) (between_pieces x m) (first_operation x piece) i
              ∙ ap (λ (y : OperationTokens). (operation_moves x).fired y (first_operation x piece + i)) are.is
              ∙ same.fired (after (net_moves x.net) m (there j))
              ∙ ap (between_pieces x) (sym (after_more (net_moves x.net) m (first_node x.net piece) j));
          lines = written_more (operation_moves x) (between_pieces x m) (first_operation x piece) i
              ∙ ap (λ (before : List ℕ). before ++ line_bytes ((operation_moves x).line (after (operation_moves x) (between_pieces x m) (here i)) (first_operation x piece + i))) are.lines
              ∙ ap (λ (y : OperationTokens). written (net_moves x.net) m (there j) ++ line_bytes ((operation_moves x).line y (first_operation x piece + i))) are.is
              ∙ ap (λ (o : Option (List ℕ)). written (net_moves x.net) m (there j) ++ line_bytes o) (same.line (after (net_moves x.net) m (there j)))
              ∙ sym (written_more (net_moves x.net) m (first_node x.net piece) j);
          serial = omega (arith, serial_here, serial_there, serial, one);
        }

    beside_more : (i j : ℕ) → IsBeside x piece i j → IsBeside x piece (suc i) (suc j)
    beside_more i j is = (λ acts. omega arith, let sum = is.1 in omega (arith, sum))

    -- so many nodes more
    pub more_beside : (more i j : ℕ) → IsBeside x piece i j → more + j ≤ node_count x.net piece → ((k : ℕ) → k ≤ node_count x.net piece → IsOrder (net_moves x.net) m (there k)) → AreBeside i j → AreBeside (more + i) (more + j)
    more_beside zero i j is few orders are = subst (λ (a : ℕ). AreBeside a (0 + j)) (zero_plus i) (subst (λ (b : ℕ). AreBeside i b) (zero_plus j) are)
      where
        zero_plus : (a : ℕ) → a ≡ 0 + a
        zero_plus a = omega arith
    more_beside (suc more) i j is few orders are =
        let e : more + suc i ≡ suc more + i = omega arith in
        let f : more + suc j ≡ suc more + j = omega arith in
        subst (λ (a : ℕ). AreBeside a (suc more + j)) e (subst (λ (b : ℕ). AreBeside (more + suc i) b) f
        (more_beside more (suc i) (suc j) (beside_more i j is) (omega (arith, few)) orders (next_beside i j is (omega (arith, few)) (orders (suc j) (omega (arith, few))) are)))

    -- all nodes of the piece
    pub all_beside : ((k : ℕ) → k ≤ node_count x.net piece → IsOrder (net_moves x.net) m (there k)) → ((acts : is_acting (kind_in x.net piece) ≡ true) → (at : IsAtPiece x piece m) × IsAllRun x n facts piece m at) → AreBeside (operation_node_count x piece) (node_count x.net piece)
    all_beside orders runs = by (cases_Bool (is_acting (kind_in x.net piece)))
      where
        by : (is_acting (kind_in x.net piece) ≡ true) ⊎ (is_acting (kind_in x.net piece) ≡ false) → AreBeside (operation_node_count x piece) (node_count x.net piece)
        by (inl acts) =
            let run = runs acts in
            let is : IsBeside x piece (operation_count x piece) 1 = (λ yes_acts. omega arith, ap (λ (b : Bool). operation_count x piece + act_count b) acts ∙ plus (operation_count x piece)) in
            let count = beside_count x piece (operation_count x piece) 1 is in
            ends (Rattle.op_board.proofs.NeededLines.distance 1 (node_count x.net piece) (some (nodes_at x.net piece) (Act piece) (act_first x.net piece (kind_in x.net piece) acts))) is count (acts_beside acts run.0 run.1)
          where
            plus : (a : ℕ) → a + 1 ≡ 1 + a
            plus a = omega arith

            some : (names : List NodeName) (name : NodeName) → slice_get names 0 ≡ Some name → 1 ≤ length names
            some [] name at = let e : None ≡ Some name = at in absurd cc
            some (a ∷ names) name at = omega arith

            ends : Rattle.op_board.proofs.NeededLines.IsDistance 1 (node_count x.net piece) → IsBeside x piece (operation_count x piece) 1 → operation_node_count x piece + 1 ≡ node_count x.net piece + operation_count x piece → AreBeside (operation_count x piece) 1 → AreBeside (operation_node_count x piece) (node_count x.net piece)
            ends r is count first =
                let sum = r.is in
                let e : r.more + operation_count x piece ≡ operation_node_count x piece = omega (arith, sum, count) in
                subst (λ (a : ℕ). AreBeside a (node_count x.net piece)) e (subst (λ (b : ℕ). AreBeside (r.more + operation_count x piece) b) r.is (more_beside r.more (operation_count x piece) 1 is (omega (arith, sum)) orders first))
        by (inr idle) =
            let none = no_operations x piece idle in
            let is : IsBeside x piece 0 0 = (λ acts. (let clash : true ≡ false = sym acts ∙ idle in absurd cc), ap (λ (b : Bool). 0 + act_count b) idle ∙ ap (λ (a : ℕ). 0 + a) (sym none)) in
            let count = beside_count x piece 0 0 is in
            let e : node_count x.net piece + 0 ≡ operation_node_count x piece = omega (arith, count) in
            let f : node_count x.net piece + 0 ≡ node_count x.net piece = omega arith in
            subst (λ (a : ℕ). AreBeside a (node_count x.net piece)) e (subst (λ (b : ℕ). AreBeside (node_count x.net piece + 0) b) f (more_beside (node_count x.net piece) 0 0 is (omega arith) orders none_beside))
