-- The source's own order of a net stays in lockstep with the passes of its program.
use Rattle.std.proofs.Common.{◌≡◌, ◌≢◌, ℕ, zero, suc, ◌+◌, ◌<◌, ◌≤◌, ◌&&◌, ◌||◌, ◌==◌, Bool, true, false, not, if◌then◌else◌, Some, None, refl, sym, ap, ◌∙◌, subst, ⊎_elim, arith, nat_eq, nat_lt, eqb-true, ltb-true, ltb-false}
use Rattle.std.proofs.lemmas.Bool.{or_cases, or_parts}
use Rattle.closed_walks.specs.Graph.{edge_count, to}
use Rattle.f77_tree.specs.Execution.{Memory}
use Rattle.cfg_build.specs.declared.pieces.PieceKind.TheVariants as kind
use Rattle.cfg_build.specs.Joined.{is_end}
use Rattle.cfg_build.specs.Passes.{Passed, Along, Traps, Done, out, pass, passes}
use Rattle.dep_routing.specs.Sound.{DoesTrap}
use Rattle.firing.specs.Control.{KeepsStep}
use Rattle.firing.specs.declared.system.NodeName.{NodeName}
use Rattle.net_board.specs.declared.control.Control.{Control}
use Rattle.net_board.specs.WithinPiece.{leaving, memory_or, memory_amid, IsAmid}
use Rattle.net_board.specs.SoundNets.{IsNet, CanCome}
use Rattle.net_board.specs.FlowFacts.{FlowFacts}
use Rattle.net_board.specs.ControlCourse.{is_idle, passed_times, arrived, edge_or, taken, due_node, moved_on, net_course}
use Rattle.net_board.specs.NetLockstep.{IsBetween, IsOnWay, IsInLockstep}
use Rattle.net_board.specs.Nodes.{NetOf, graph_in, kind_in, nodes_at, node_count, node_at, first_node}
use Rattle.net_board.specs.Tokens.{Tokens, net_moves, pass_at, fired_as, ready_as}
use Rattle.net_board.proofs.ArrivalLaws.{arrival_busy}
use Rattle.net_board.proofs.ListPrefixes.{HasItem, item_at}
use Rattle.net_board.proofs.PieceEnds.{none_fired, all_fired}
use Rattle.net_board.proofs.PieceSteps.{node_named, ready_next, further}
use Rattle.net_board.proofs.ControlWays.{IsThere, along_exists, way_on, not_start, there_passed_times}

-- ---- which node is due

pub record IsDue (net : NetOf) (c : Control) (k : ℕ) : Type 0 where
  pub low : c.fired < node_count net c.piece
  pub is : first_node net c.piece + c.fired ≡ k

pub due_is : (net : NetOf) (c : Control) (k : ℕ) → due_node net c ≡ Some k → IsDue net c k
due_is net c k due = by (nat_lt c.fired (node_count net c.piece)) refl due
  where
    by : (b : Bool) → nat_lt c.fired (node_count net c.piece) ≡ b → (if b then Some (first_node net c.piece + c.fired) else None) ≡ Some k → IsDue net c k
    by true low same = record { low = ltb-true c.fired (node_count net c.piece) low; is = same_number (first_node net c.piece + c.fired) k same }
      where
        same_number : (a b : ℕ) → Some a ≡ Some b → a ≡ b
        same_number a b e = cc
    by false low same = let clash : None ≡ Some k = same in absurd cc

pub none_due : (net : NetOf) (c : Control) → due_node net c ≡ None → node_count net c.piece ≤ c.fired
none_due net c due = by (nat_lt c.fired (node_count net c.piece)) refl due
  where
    by : (b : Bool) → nat_lt c.fired (node_count net c.piece) ≡ b → (if b then Some (first_node net c.piece + c.fired) else None) ≡ None → node_count net c.piece ≤ c.fired
    by true low same = let clash : Some (first_node net c.piece + c.fired) ≡ None = same in absurd cc
    by false low same = let h = ltb-false c.fired (node_count net c.piece) low in omega (arith, h)

-- ---- places at which no node has fired

pub in_lockstep_there : (net : NetOf) (is_net : IsNet net) (ground : FlowFacts net is_net.tree) (m : Tokens) (edge : ℕ) → IsThere net is_net ground m edge → is_idle net (to (graph_in net) edge) ≡ false → IsInLockstep net m (record { piece = to (graph_in net) edge; fired = 0; leaves = 0 })
in_lockstep_there net is_net ground m edge there busy =
    let piece = to (graph_in net) edge in
    let way = there.way in
    record {
      is_net = is_net;
      ground = ground;
      passes_made = there.passes_made;
      edge = edge;
      memory = there.memory;
      way = way;
      comes = refl;
      start = m;
      between = there.between;
      few = omega arith;
      due = λ not_end. some_nodes (node_count net piece) (is_end (kind_in net piece)) busy not_end;
      amid = none_fired net is_net ground edge piece way.exists refl (not_start net is_net ground there.passes_made edge there.memory way) m there.memory there.between;
      leaves = λ some. absurd (omega (arith, some));
    }
  where
    some_nodes : (n : ℕ) (b : Bool) → ((n == 0) && not b) ≡ false → b ≡ false → 0 < n
    some_nodes zero true busy not_end = absurd cc
    some_nodes zero false busy not_end = let clash : true ≡ false = busy in absurd cc
    some_nodes (suc n) b busy not_end = omega arith

pub in_lockstep_arrived : (net : NetOf) (is_net : IsNet net) (ground : FlowFacts net is_net.tree) (m : Tokens) (edge : ℕ) → edge < edge_count (graph_in net) → IsThere net is_net ground m edge → IsInLockstep net m (arrived net edge)
in_lockstep_arrived net is_net ground m edge inside there = in_lockstep_there net is_net ground m (passed_times net (graph_in net).nodes edge) (there_passed_times net is_net ground (graph_in net).nodes m edge there) (arrival_busy net ground.graph edge inside)

-- ---- the node that is due

-- where a pass traps, the piece touches the line of output
pub traps_touch : (net : NetOf) (is_net : IsNet net) (n edge piece : ℕ) (memory : Memory) → IsOnWay net n edge memory → to (graph_in net) edge ≡ piece → DoesTrap (pass_at net piece memory) → net.touches piece 0 ≡ true
traps_touch net is_net n edge piece memory way comes trap =
    let there : to (graph_in net) (passes net.program net.input n).edge ≡ piece = ap (to (graph_in net)) way.edge_is ∙ comes in
    let same : pass net.program net.input (passes net.program net.input n).edge (passes net.program net.input n).memory ≡ pass_at net piece memory = ap (λ (x : ℕ). pass_at net x (passes net.program net.input n).memory) there ∙ ap (pass_at net piece) way.memory_is in
    let at_run : DoesTrap (pass net.program net.input (passes net.program net.input n).edge (passes net.program net.input n).memory) = subst DoesTrap (sym same) trap in
    subst (λ (x : ℕ). net.touches x 0 ≡ true) there (is_net.sound_touches.traps net.input n is_net.input_words way.running at_run)

module _ (net : NetOf) (m : Tokens) (c : Control) (lockstep : IsInLockstep net m c) where
  pub piece_exists : c.piece < (graph_in net).nodes
  piece_exists = let way = lockstep.way in subst (λ (x : ℕ). x < (graph_in net).nodes) lockstep.comes (lockstep.ground.graph.heads lockstep.edge way.exists)

  pub later : 0 ≢ c.piece
  later is = not_start net lockstep.is_net lockstep.ground lockstep.passes_made lockstep.edge lockstep.memory lockstep.way (is ∙ sym lockstep.comes)

  taken_is : taken net m c ≡ leaving net c.piece (pass_at net c.piece lockstep.memory)
  taken_is = by (nat_eq c.fired 0) refl
    where
      by : (b : Bool) → nat_eq c.fired 0 ≡ b → (if b then edge_or (out (graph_in net) c.piece 0) (pass_at net c.piece m.memory) else c.leaves) ≡ leaving net c.piece (pass_at net c.piece lockstep.memory)
      by true is =
          let amid = lockstep.amid in
          let same : m.memory ≡ lockstep.memory = amid.memory_is ∙ ap (memory_amid lockstep.memory (pass_at net c.piece lockstep.memory)) (eqb-true c.fired 0 is) in
          ap (λ x. edge_or (out (graph_in net) c.piece 0) (pass_at net c.piece x)) same
      by false is = lockstep.leaves (some c.fired is)
        where
          some : (n : ℕ) → nat_eq n 0 ≡ false → 0 < n
          some zero is = let clash : true ≡ false = is in absurd cc
          some (suc n) is = omega arith

  module _ (low : c.fired < node_count net c.piece) where
    own : HasItem (nodes_at net c.piece) c.fired
    own = item_at (nodes_at net c.piece) c.fired low

    named : node_at net (first_node net c.piece + c.fired) ≡ own.item
    unfolding own
    named = node_named net c.piece c.fired own.item piece_exists own.at

    pub due_ready : ready_as net m (first_node net c.piece + c.fired) (node_at net (first_node net c.piece + c.fired)) ≡ true
    due_ready =
        let way = lockstep.way in
        subst (λ (n : NodeName). ready_as net m (first_node net c.piece + c.fired) n ≡ true) (sym named)
        (ready_next net lockstep.is_net lockstep.ground lockstep.edge c.piece way.exists lockstep.comes lockstep.start lockstep.memory lockstep.between m c.fired lockstep.amid own.item own.at)

    pub due_amid : CanCome net m → (fired_as net m (first_node net c.piece + c.fired) (node_at net (first_node net c.piece + c.fired))).trap ≡ None → IsAmid net lockstep.start (fired_as net m (first_node net c.piece + c.fired) (node_at net (first_node net c.piece + c.fired))) c.piece (suc c.fired) lockstep.memory (pass_at net c.piece lockstep.memory)
    due_amid sound going =
        let way = lockstep.way in
        let marking = sound.is_marking in
        let no_trap : (fired_as net m (first_node net c.piece + c.fired) own.item).trap ≡ None = subst (λ (n : NodeName). (fired_as net m (first_node net c.piece + c.fired) n).trap ≡ None) named going in
        subst (λ (n : NodeName). IsAmid net lockstep.start (fired_as net m (first_node net c.piece + c.fired) n) c.piece (suc c.fired) lockstep.memory (pass_at net c.piece lockstep.memory)) (sym named)
        (further net lockstep.is_net lockstep.ground lockstep.edge c.piece way.exists lockstep.comes lockstep.start lockstep.memory lockstep.between m c.fired lockstep.amid own.item own.at marking.nodes (traps_touch net lockstep.is_net lockstep.passes_made lockstep.edge c.piece lockstep.memory way lockstep.comes) no_trap)

    -- the run leaves the piece, whose nodes have all fired
    leave : (m' : Tokens) → IsAmid net lockstep.start m' c.piece (suc c.fired) lockstep.memory (pass_at net c.piece lockstep.memory) → suc c.fired ≡ node_count net c.piece → is_end (kind_in net c.piece) ≡ false → (made : Passed) → pass_at net c.piece lockstep.memory ≡ made → IsInLockstep net m' (arrived net (leaving net c.piece made))
    leave m' amid all not_end (Along d new text) is =
        let way = lockstep.way in
        let along : pass net.program net.input lockstep.edge lockstep.memory ≡ Along d new text = ap (λ (x : ℕ). pass_at net x lockstep.memory) lockstep.comes ∙ is in
        let exit = along_exists net lockstep.is_net lockstep.ground lockstep.edge d lockstep.memory new text way.exists along in
        let full : IsAmid net lockstep.start m' c.piece (node_count net c.piece) lockstep.memory (pass_at net c.piece lockstep.memory) = subst (λ (i : ℕ). IsAmid net lockstep.start m' c.piece i lockstep.memory (pass_at net c.piece lockstep.memory)) all amid in
        let between : IsBetween net lockstep.is_net.tree m' d (memory_or lockstep.memory (pass_at net c.piece lockstep.memory)) = all_fired net lockstep.is_net lockstep.ground lockstep.edge c.piece way.exists lockstep.comes later lockstep.start lockstep.memory lockstep.between m' full d (ap (leaving net c.piece) is) exit.0 (exit.1 ∙ lockstep.comes) in
        let there : IsThere net lockstep.is_net lockstep.ground m' d = record {
          passes_made = suc lockstep.passes_made;
          memory = new;
          way = way_on net lockstep.is_net lockstep.ground lockstep.passes_made lockstep.edge d lockstep.memory new text way along;
          between = subst (λ (x : Memory). IsBetween net lockstep.is_net.tree m' d x) (ap (memory_or lockstep.memory) is) between;
        } in
        in_lockstep_arrived net lockstep.is_net lockstep.ground m' d exit.0 there
    leave m' amid all not_end (Traps trap) is = absurd (amid.no_trap (omega arith) (subst DoesTrap (sym is) tt))
    leave m' amid all not_end Done is =
        let way = lockstep.way in
        let ended : pass net.program net.input lockstep.edge lockstep.memory ≡ Done = ap (λ (x : ℕ). pass_at net x lockstep.memory) lockstep.comes ∙ is in
        let end_kind : kind_in net c.piece ≡ kind.End = ap (kind_in net) (sym lockstep.comes) ∙ lockstep.ground.graph.ends lockstep.edge lockstep.memory way.exists ended in
        let clash : true ≡ false = sym (ap is_end end_kind) ∙ not_end in
        absurd cc

    moved_in_lockstep : (m' : Tokens) → IsAmid net lockstep.start m' c.piece (suc c.fired) lockstep.memory (pass_at net c.piece lockstep.memory) → IsInLockstep net m' (moved_on net m c)
    moved_in_lockstep m' amid = by (nat_lt (suc c.fired) (node_count net c.piece) || is_end (kind_in net c.piece)) refl
      where
        by : (b : Bool) → (nat_lt (suc c.fired) (node_count net c.piece) || is_end (kind_in net c.piece)) ≡ b → IsInLockstep net m' (if b then record { piece = c.piece; fired = suc c.fired; leaves = taken net m c } else arrived net (taken net m c))
        by true more = record {
          is_net = lockstep.is_net;
          ground = lockstep.ground;
          passes_made = lockstep.passes_made;
          edge = lockstep.edge;
          memory = lockstep.memory;
          way = lockstep.way;
          comes = lockstep.comes;
          start = lockstep.start;
          between = lockstep.between;
          few = omega (arith, low);
          due = λ not_end. ⊎_elim
              (λ (h : nat_lt (suc c.fired) (node_count net c.piece) ≡ true). ltb-true (suc c.fired) (node_count net c.piece) h)
              (λ (h : is_end (kind_in net c.piece) ≡ true). let clash : true ≡ false = sym h ∙ not_end in absurd cc)
              (or_cases (nat_lt (suc c.fired) (node_count net c.piece)) (is_end (kind_in net c.piece)) more);
          amid = amid;
          leaves = λ some. taken_is;
        }
        by false last =
            let parts = or_parts (nat_lt (suc c.fired) (node_count net c.piece)) (is_end (kind_in net c.piece)) last in
            let high = ltb-false (suc c.fired) (node_count net c.piece) parts.0 in
            subst (λ (d : ℕ). IsInLockstep net m' (arrived net d)) (sym taken_is) (leave m' amid (omega (arith, low, high)) parts.1 (pass_at net c.piece lockstep.memory) refl)

pub keeps_step : (net : NetOf) → KeepsStep (CanCome net) (net_moves net) (net_course net) (IsInLockstep net)
keeps_step net = record {
  kept = λ m c k sound lockstep can due going.
      let d : IsDue net c k = due_is net c k due in
      let go : (fired_as net m (first_node net c.piece + c.fired) (node_at net (first_node net c.piece + c.fired))).trap ≡ None = subst (λ (i : ℕ). (fired_as net m i (node_at net i)).trap ≡ None) (sym d.is) going in
      subst (λ (i : ℕ). IsInLockstep net (fired_as net m i (node_at net i)) (moved_on net m c)) d.is
      (moved_in_lockstep net m c lockstep d.low (fired_as net m (first_node net c.piece + c.fired) (node_at net (first_node net c.piece + c.fired))) (due_amid net m c lockstep d.low sound go));
}
