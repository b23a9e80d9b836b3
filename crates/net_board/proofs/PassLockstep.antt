-- The source's own order of a net beside the passes of its program, pass by pass.
use Rattle.std.proofs.Common.{◌≡◌, ◌≢◌, ℕ, zero, suc, ◌+◌, ◌<◌, ◌≤◌, Bool, true, if◌then◌else◌, List, [], ◌++◌, length, map, replicate, Option, Some, None, slice_get, refl, sym, ap, ◌∙◌, subst, append-nil, arith}
use Rattle.std.specs.List.{range_with_len}
use Rattle.op_table.specs.declared.Trap.{Trap}
use Rattle.closed_walks.specs.Graph.{edge_count, from, to}
use Rattle.f77_tree.specs.declared.programs.ExecKind.{ExecKind}
use Rattle.f77_tree.specs.Execution.{Memory}
use Rattle.f77_tree.specs.Run.{Mark, Running, Ended, Trapped, first_memory}
use Rattle.cfg_build.specs.declared.pieces.PieceKind.{PieceKind}
use Rattle.cfg_build.specs.declared.pieces.PieceKind.TheVariants as kind
use Rattle.cfg_build.specs.Joined.{finish}
use Rattle.cfg_build.specs.Passes.{Passed, Along, Traps, Done, PassState, out, pass, pass_of, passes, passed_from, after_pass, line_at}
use Rattle.cfg_build.specs.Shape.{leaves_one}
use Rattle.dep_routing.specs.Quiet.{IsFree}
use Rattle.dep_routing.specs.Routing.{next_at}
use Rattle.dep_routing.specs.Sound.{DoesTrap}
use Rattle.dep_routing.specs.Touches.{exec_kind}
use Rattle.firing.specs.Moves.{line_bytes}
use Rattle.firing.specs.Orders.{IsOrder, after, written}
use Rattle.firing.specs.declared.system.NodeName.{NodeName}
use Rattle.firing.specs.declared.system.NodeName.TheVariants.{Act}
use Rattle.net_board.specs.WithinPiece.{leaving, memory_or, text_in, text_amid}
use Rattle.net_board.specs.SoundNets.{IsNet}
use Rattle.net_board.specs.FlowFacts.{FlowFacts}
use Rattle.net_board.specs.NetLockstep.{IsBetween, IsOnWay}
use Rattle.net_board.specs.Nodes.{NetOf, graph_in, kind_in, nodes_by, nodes_at, nodes_of, node_count, node_at, first_node}
use Rattle.net_board.specs.OwnOrder.{firings_of, firings_from, own_passes}
use Rattle.net_board.specs.Tokens.{Tokens, joined, edge_of, led_from, net_moves, first_tokens, pass_at, gone, stopped, acted, fired_as, line_as, ready_as, text_of}
use Rattle.net_board.proofs.FreeLines.{line_below}
use Rattle.net_board.proofs.OrderJoins.{after_join, order_join, written_join}
use Rattle.net_board.proofs.LockstepLaws.{traps_touch}
use Rattle.net_board.proofs.PassFirings.{IsPartFired, part_fired, fired_room}
use Rattle.net_board.proofs.PieceEnds.{none_fired, all_fired}
use Rattle.net_board.proofs.PieceSteps.{exists, node_named, node_below, ready_next}
use Rattle.net_board.proofs.ListPrefixes.{below_length}
use Rattle.net_board.proofs.RestLaws.{some_edge}
use Rattle.net_board.proofs.ControlWays.{along_exists, not_back, not_start}

-- ---- what a pass is, by the kind of its piece

-- a piece without nodes writes nothing
text_by : (net : NetOf) (piece : ℕ) (memory : Memory) (x : ExecKind) (k : PieceKind) (n : ℕ) → n ≡ length (nodes_by net piece k) → text_amid (pass_of net.program net.input memory (out (graph_in net) piece) k x) n ≡ text_in (pass_of net.program net.input memory (out (graph_in net) piece) k x)
text_by net piece memory x k (suc n) is = refl
text_by net piece memory x kind.Act zero is = absurd (omega (arith, is))
text_by net piece memory x kind.Branch zero is = absurd (omega (arith, is))
text_by net piece memory x kind.Hold zero is = refl
text_by net piece memory x kind.Join zero is = refl
text_by net piece memory x kind.End zero is = refl
text_by net piece memory x kind.Start zero is = refl
text_by net piece memory x kind.Pass zero is = refl

-- only an act or a branch traps
pub trap_acts : (net : NetOf) (piece : ℕ) (memory : Memory) (x : ExecKind) (k : PieceKind) → DoesTrap (pass_of net.program net.input memory (out (graph_in net) piece) k x) → slice_get (nodes_by net piece k) 0 ≡ Some (Act piece)
trap_acts net piece memory x kind.Act trap = refl
trap_acts net piece memory x kind.Branch trap = refl
trap_acts net piece memory x kind.Hold trap = refl
trap_acts net piece memory x kind.Join trap = absurd trap
trap_acts net piece memory x kind.End trap = absurd trap
trap_acts net piece memory x kind.Start trap = absurd trap
trap_acts net piece memory x kind.Pass trap = absurd trap

module _ (net : NetOf) (is_net : IsNet net) (ground : FlowFacts net is_net.tree) where
  -- how the marking stands beside a run of passes
  abbrev pub StandsBeside : Tokens → PassState → Mark → Type 0
  StandsBeside m x Running = (0 < x.edge) × (x.edge < edge_count (graph_in net)) × IsBetween net is_net.tree m x.edge x.memory
  StandsBeside m x Ended = IsBetween net is_net.tree m 0 x.memory
  StandsBeside m x (Trapped trap line) = (m.trap ≡ Some (trap, line)) × (m.memory ≡ x.memory)

  -- these firings lead on, as the run goes from the one state to the other
  pub record LeadsBeside (m : Tokens) (x : PassState) (ks : List ℕ) (y : PassState) : Type 0 where
    pub order : IsOrder (net_moves net) m ks
    pub lines : x.out ++ written (net_moves net) m ks ≡ y.out
    pub room_is : length (after (net_moves net) m ks).edges ≡ length (nodes_of net)
    pub stands : StandsBeside (after (net_moves net) m ks) y y.mark

  -- ---- the beginning

  get_led : (f : ℕ → Option ℕ) (a n line : ℕ) → line < n → slice_get (map f (range_with_len a n)) line ≡ Some (f (a + line))
  get_led f a zero line low = absurd (omega (arith, low))
  get_led f a (suc n) zero low = ap (λ (x : ℕ). Some (f x)) plus_zero
    where
      plus_zero : a ≡ a + 0
      plus_zero = omega arith
  get_led f a (suc n) (suc line) low = get_led f (a + 1) n line (omega (arith, low)) ∙ ap (λ (x : ℕ). Some (f x)) shift
    where
      shift : a + 1 + line ≡ a + suc line
      shift = omega arith

  nothing_left : (n k : ℕ) → joined (slice_get (replicate n None) k) ≡ None
  nothing_left zero k = refl
  nothing_left (suc n) zero = refl
  nothing_left (suc n) (suc k) = nothing_left n k

  long_replicate : (n : ℕ) (o : Option ℕ) → length (replicate n o) ≡ n
  long_replicate zero o = refl
  long_replicate (suc n) o = ap suc (long_replicate n o)

  pub begins_between : IsBetween net is_net.tree (first_tokens net) 1 (first_memory net.program)
  begins_between =
      let two = ground.graph.shape.two_edges in
      let start : from (graph_in net) 1 ≡ 0 = (ground.graph.shape.leaves_start 1 two).1 refl in
      let at : (line : ℕ) → line < net.routing.lines → edge_of (first_tokens net) line ≡ Some (next_at net.routing line 1) = λ line low. ap joined (get_led (led_from net 1) 0 net.routing.lines line low ∙ ap (λ (x : ℕ). Some (led_from net 1 x)) (zero_plus line)) in
      record {
        lines = λ line place low is. subst (λ (x : ℕ). Rattle.dep_routing.specs.Place.Place (graph_in net) is_net.tree net.touches line 1 x) (same_some (next_at net.routing line 1) place (sym (at line low) ∙ is))
            (ground.departs line 1 (next_at net.routing line 1) (subst (λ (x : ℕ). IsFree (graph_in net) is_net.tree net.touches line x) (sym start) (ground.start_free line)) (is_net.own_routing.next line 1 (line_below net is_net line low) two));
        stand = λ line low. (next_at net.routing line 1, at line low);
        edges = λ k. nothing_left (length (nodes_of net)) k;
        memory_is = refl;
        trap_is = refl;
      }
    where
      zero_plus : (n : ℕ) → 0 + n ≡ n
      zero_plus n = omega arith

      same_some : (a b : ℕ) → Some a ≡ Some b → a ≡ b
      same_some a b e = cc

  -- ---- a pass

  module _ (n : ℕ) (m : Tokens) (room : length m.edges ≡ length (nodes_of net)) where
    module _ (running : (passes net.program net.input n).mark ≡ Running) (stands : StandsBeside m (passes net.program net.input n) Running) where
      edge : ℕ
      edge = (passes net.program net.input n).edge

      memory : Memory
      memory = (passes net.program net.input n).memory

      way : IsOnWay net n (passes net.program net.input n).edge (passes net.program net.input n).memory
      way = record { running = running; edge_is = refl; memory_is = refl; exists = stands.1; later = stands.0 }

      left_start : 0 ≢ to (graph_in net) (passes net.program net.input n).edge
      left_start = not_start net is_net ground n (passes net.program net.input n).edge (passes net.program net.input n).memory way

      part : (j : ℕ) → (DoesTrap (pass_at net (to (graph_in net) (passes net.program net.input n).edge) (passes net.program net.input n).memory) → ⊥) → j ≤ node_count net (to (graph_in net) (passes net.program net.input n).edge) → IsPartFired net is_net ground (passes net.program net.input n).edge (to (graph_in net) (passes net.program net.input n).edge) stands.1 refl left_start m (passes net.program net.input n).memory stands.2 room j
      part j goes few = part_fired net is_net ground (passes net.program net.input n).edge (to (graph_in net) (passes net.program net.input n).edge) stands.1 refl left_start m (passes net.program net.input n).memory stands.2 room j goes few

      pass_along : (d : ℕ) (new : Memory) (text : List ℕ) → pass net.program net.input (passes net.program net.input n).edge (passes net.program net.input n).memory ≡ Along d new text → LeadsBeside m (passes net.program net.input n) (firings_of net (to (graph_in net) (passes net.program net.input n).edge) (Along d new text)) (after_pass (passes net.program net.input n) (line_at net.program (passes net.program net.input n).edge) (Along d new text))
      pass_along d new text along =
          let x = passes net.program net.input n in
          let piece = to (graph_in net) x.edge in
          let count = node_count net piece in
          let ks = range_with_len (first_node net piece) count in
          let all : IsPartFired net is_net ground x.edge piece stands.1 refl left_start m x.memory stands.2 room count = part count (λ trap. subst DoesTrap along trap) (omega arith) in
          let exit = along_exists net is_net ground x.edge d x.memory new text stands.1 along in
          let between : IsBetween net is_net.tree (after (net_moves net) m ks) d (memory_or x.memory (pass_at net piece x.memory)) = all_fired net is_net ground x.edge piece stands.1 refl left_start m x.memory stands.2 (after (net_moves net) m ks) all.amid d (ap (leaving net piece) along) exit.0 exit.1 in
          let between' : IsBetween net is_net.tree (after (net_moves net) m ks) d new = subst (λ (y : Memory). IsBetween net is_net.tree (after (net_moves net) m ks) d y) (ap (memory_or x.memory) along) between in
          record {
            order = all.order;
            lines = ap (λ (ys : List ℕ). x.out ++ ys) (all.lines ∙ text_by net piece x.memory (exec_kind net.program piece) (kind_in net piece) count refl ∙ ap text_in along);
            room_is = all.room_is;
            stands = subst (λ (mark : Mark). StandsBeside (after (net_moves net) m ks) (record { edge = d; memory = new; out = x.out ++ text; mark = x.mark }) mark) (sym running) (not_back net is_net ground x.edge d x.memory new text stands.1 along, exit.0, between');
          }

      pass_done : pass net.program net.input (passes net.program net.input n).edge (passes net.program net.input n).memory ≡ Done → LeadsBeside m (passes net.program net.input n) (firings_of net (to (graph_in net) (passes net.program net.input n).edge) Done) (after_pass (passes net.program net.input n) (line_at net.program (passes net.program net.input n).edge) Done)
      pass_done ended =
          let x = passes net.program net.input n in
          let g = graph_in net in
          let piece = to (graph_in net) x.edge in
          let count = node_count net piece in
          let ks = range_with_len (first_node net piece) count in
          let all : IsPartFired net is_net ground x.edge piece stands.1 refl left_start m x.memory stands.2 room count = part count (λ trap. subst DoesTrap ended trap) (omega arith) in
          let end_kind : kind_in net piece ≡ kind.End = ground.graph.ends x.edge x.memory stands.1 ended in
          let some = some_edge net is_net ground in
          let at_finish : piece ≡ finish net.program.execs = (ground.graph.shape.end piece (ground.graph.heads x.edge stands.1)).0 end_kind in
          let begins : from g 0 ≡ piece = (ground.graph.shape.leaves_end 0 some).1 refl ∙ sym at_finish in
          let back_out : 0 ≡ out g piece 0 = ground.graph.one_out 0 some (ap (λ (y : ℕ). leaves_one (kind_in net y)) begins ∙ ap leaves_one end_kind) ∙ ap (λ (y : ℕ). out g y 0) begins in
          let between : IsBetween net is_net.tree (after (net_moves net) m ks) 0 (memory_or x.memory (pass_at net piece x.memory)) = all_fired net is_net ground x.edge piece stands.1 refl left_start m x.memory stands.2 (after (net_moves net) m ks) all.amid 0 (ap (leaving net piece) ended ∙ sym back_out) some begins in
          record {
            order = all.order;
            lines = ap (λ (ys : List ℕ). x.out ++ ys) (all.lines ∙ text_by net piece x.memory (exec_kind net.program piece) (kind_in net piece) count refl ∙ ap text_in ended) ∙ append-nil x.out;
            room_is = all.room_is;
            stands = subst (λ (y : Memory). IsBetween net is_net.tree (after (net_moves net) m ks) 0 y) (ap (memory_or x.memory) ended) between;
          }

      pass_traps : (trap : Trap) → pass net.program net.input (passes net.program net.input n).edge (passes net.program net.input n).memory ≡ Traps trap → LeadsBeside m (passes net.program net.input n) (firings_of net (to (graph_in net) (passes net.program net.input n).edge) (Traps trap)) (after_pass (passes net.program net.input n) (line_at net.program (passes net.program net.input n).edge) (Traps trap))
      pass_traps trap traps =
          let x = passes net.program net.input n in
          let piece = to (graph_in net) x.edge in
          let k = first_node net piece in
          let does : DoesTrap (pass_at net piece x.memory) = subst DoesTrap (sym traps) tt in
          let at : slice_get (nodes_at net piece) 0 ≡ Some (Act piece) = trap_acts net piece x.memory (exec_kind net.program piece) (kind_in net piece) does in
          let same : first_node net piece + 0 ≡ first_node net piece = omega arith in
          let here = exists net is_net ground x.edge piece stands.1 refl in
          let named : node_at net (first_node net piece) ≡ Act piece = subst (λ (i : ℕ). node_at net i ≡ Act piece) same (node_named net piece 0 (Act piece) here at) in
          let between = stands.2 in
          let memory_is : m.memory ≡ x.memory = between.memory_is in
          let ready : ready_as net m (first_node net piece) (Act piece) ≡ true = subst (λ (i : ℕ). ready_as net m i (Act piece) ≡ true) same (ready_next net is_net ground x.edge piece stands.1 refl m x.memory stands.2 m 0 (none_fired net is_net ground x.edge piece stands.1 refl left_start m x.memory stands.2) (Act piece) at) in
          let touches : net.touches piece 0 ≡ true = traps_touch net is_net n x.edge piece x.memory way refl does in
          let fired : fired_as net m (first_node net piece) (node_at net (first_node net piece)) ≡ stopped net m piece trap =
          ap (fired_as net m (first_node net piece)) named
          ∙ ap (λ y. acted net m piece (pass_at net piece y)) memory_is
          ∙ ap (acted net m piece) traps
          ∙ ap (λ (b : Bool). if b then stopped net m piece trap else gone net m piece (out (graph_in net) piece 0) m.memory) touches
          in
          let text : line_as net m (node_at net (first_node net piece)) ≡ None = ap (line_as net m) named ∙ ap (λ y. text_of (pass_at net piece y)) memory_is ∙ ap text_of traps in
          record {
            order = (record { going = between.trap_is; node = subst (λ (i : ℕ). i < length (nodes_of net)) same (node_below net piece 0 here (below_length (nodes_at net piece) 0 (Act piece) at)); ready = subst (λ (name : NodeName). ready_as net m (first_node net piece) name ≡ true) (sym named) ready }, tt);
            lines = ap (λ (o : Option (List ℕ)). x.out ++ (line_bytes o ++ [])) text ∙ append-nil x.out;
            room_is = fired_room net m (first_node net piece) (node_at net (first_node net piece)) ∙ room;
            stands = (ap (λ (y : Tokens). y.trap) fired, ap (λ (y : Tokens). y.memory) fired ∙ memory_is);
          }

      by_pass : (made : Passed) → pass net.program net.input (passes net.program net.input n).edge (passes net.program net.input n).memory ≡ made → LeadsBeside m (passes net.program net.input n) (firings_of net (to (graph_in net) (passes net.program net.input n).edge) made) (after_pass (passes net.program net.input n) (line_at net.program (passes net.program net.input n).edge) made)
      by_pass (Along d new text) is = pass_along d new text is
      by_pass (Traps trap) is = pass_traps trap is
      by_pass Done is = pass_done is

    by_mark : (mark : Mark) → (passes net.program net.input n).mark ≡ mark → StandsBeside m (passes net.program net.input n) mark → LeadsBeside m (passes net.program net.input n) (firings_from net (passes net.program net.input n) mark) (passed_from net.program net.input (passes net.program net.input n) mark)
    by_mark Running is stands = by_pass is stands (pass net.program net.input (passes net.program net.input n).edge (passes net.program net.input n).memory) refl
    by_mark Ended is stands = record {
      order = tt;
      lines = append-nil (passes net.program net.input n).out;
      room_is = room;
      stands = subst (λ (mark : Mark). StandsBeside m (passes net.program net.input n) mark) (sym is) stands;
    }
    by_mark (Trapped trap line) is stands = record {
      order = tt;
      lines = append-nil (passes net.program net.input n).out;
      room_is = room;
      stands = subst (λ (mark : Mark). StandsBeside m (passes net.program net.input n) mark) (sym is) stands;
    }

  -- ---- the run

  pub record IsPassLockstep (n : ℕ) : Type 0 where
    pub order : IsOrder (net_moves net) (first_tokens net) (own_passes net n)
    pub lines : written (net_moves net) (first_tokens net) (own_passes net n) ≡ (passes net.program net.input n).out
    pub room_is : length (after (net_moves net) (first_tokens net) (own_passes net n)).edges ≡ length (nodes_of net)
    pub stands : StandsBeside (after (net_moves net) (first_tokens net) (own_passes net n)) (passes net.program net.input n) (passes net.program net.input n).mark

  lockstep_on : (n : ℕ) → IsPassLockstep n → IsPassLockstep (suc n)
  lockstep_on n lockstep =
      let s = net_moves net in
      let m = after s (first_tokens net) (own_passes net n) in
      let x = passes net.program net.input n in
      let ks = firings_from net x x.mark in
      let step : LeadsBeside m x ks (passes net.program net.input (suc n)) = by_mark n m lockstep.room_is x.mark refl lockstep.stands in
      let next : after s (first_tokens net) (own_passes net (suc n)) ≡ after s m ks = after_join s (first_tokens net) (own_passes net n) ks in
      record {
        order = order_join s (first_tokens net) (own_passes net n) ks lockstep.order step.order;
        lines = written_join s (first_tokens net) (own_passes net n) ks ∙ ap (λ (ys : List ℕ). ys ++ written s m ks) lockstep.lines ∙ step.lines;
        room_is = ap (λ (y : Tokens). length y.edges) next ∙ step.room_is;
        stands = subst (λ (y : Tokens). StandsBeside y (passes net.program net.input (suc n)) (passes net.program net.input (suc n)).mark) (sym next) step.stands;
      }

  pub pass_lockstep : (n : ℕ) → IsPassLockstep n
  pass_lockstep zero = record {
    order = tt;
    lines = refl;
    room_is = long_replicate (length (nodes_of net)) None;
    stands = (let two : 0 < 1 = omega arith in two, ground.graph.shape.two_edges, begins_between);
  }
  pass_lockstep (suc n) = lockstep_on n (pass_lockstep n)
