-- Where a run ends, nothing is ready any more; and the source's own order of a net always fires nodes that are ready.
use Rattle.std.proofs.Common.{◌≡◌, ℕ, ◌<◌, ◌≤◌, ◌==◌, Bool, true, false, not, map, Option, Some, is_some, filter, refl, sym, ap, ◌∙◌, subst, inl, inr, ⊎_elim, arith, eqb-true}
use Rattle.std.proofs.lemmas.Bool.{cases_Bool}
use Rattle.std.specs.List.{range_with_len, list_all}
use Rattle.closed_walks.specs.Graph.{edge_count, from, to}
use Rattle.f77_tree.specs.Execution.{Memory}
use Rattle.cfg_build.specs.declared.pieces.PieceKind.{PieceKind}
use Rattle.cfg_build.specs.declared.pieces.PieceKind.TheVariants as kind
use Rattle.cfg_build.specs.Joined.{is_end, finish}
use Rattle.cfg_build.specs.Passes.{Done, out, pass_of}
use Rattle.cfg_build.specs.Shape.{leaves_one}
use Rattle.dep_routing.specs.Quiet.{IsFree}
use Rattle.dep_routing.specs.Touches.{exec_kind}
use Rattle.firing.specs.Moves.{CanFire}
use Rattle.firing.specs.Orders.{IsOver}
use Rattle.firing.specs.SourceOrder.{IsSourceOrder}
use Rattle.firing.specs.declared.system.NodeName.{NodeName}
use Rattle.firing.specs.declared.system.NodeName.TheVariants.{Act, Merge, Switch}
use Rattle.net_board.specs.declared.control.Control.{Control}
use Rattle.net_board.specs.WithinPiece.{leaving, memory_or, IsAmid}
use Rattle.net_board.specs.SoundNets.{IsNet, CanCome}
use Rattle.net_board.specs.FlowFacts.{FlowFacts}
use Rattle.list_laws.specs.Member.{Member}
use Rattle.net_board.specs.ControlCourse.{net_course}
use Rattle.net_board.specs.NetLockstep.{IsBetween, IsInLockstep}
use Rattle.net_board.specs.Nodes.{NetOf, graph_in, kind_in, is_acting, is_free, touched, led_to, passing, all_lines, nodes_by, nodes_at, nodes_of, node_count, node_at, name_in, switches}
use Rattle.net_board.specs.Tokens.{Tokens, edge_of, left_for, net_moves, pass_at, is_before, leads_to, ready_as}
use Rattle.list_laws.proofs.Members.{IsImage, IsFromOne, Member-filter, Member-filtered, Member-range, Member-in_range, Member-mapped, Member-flat_mapped}
use Rattle.net_board.proofs.LockstepLaws.{IsDue, due_is, none_due, due_ready, piece_exists, later}
use Rattle.net_board.proofs.ListPrefixes.{HasItem, item_at, member_at}
use Rattle.net_board.proofs.PieceEnds.{all_fired}
use Rattle.net_board.proofs.PieceSteps.{node_below}
use Rattle.net_board.proofs.ListPlaces.{all_pass}
use Rattle.std.proofs.lemmas.Bool.{and_parts}

module _ (net : NetOf) (is_net : IsNet net) (ground : FlowFacts net is_net.tree) where
  pub some_edge : 0 < edge_count (graph_in net)
  some_edge = let two = ground.graph.shape.two_edges in omega (arith, two)

  back : to (graph_in net) 0 ≡ 0
  back = (ground.graph.shape.comes_to_start 0 some_edge).1 refl

  module _ (m : Tokens) (memory : Memory) (between : IsBetween net is_net.tree m 0 memory) where
    pub all_back : (line : ℕ) → line < net.routing.lines → edge_of m line ≡ Some 0
    all_back line low =
        let at = between.stand line low in
        let free : IsFree (graph_in net) is_net.tree net.touches line (to (graph_in net) 0) = subst (λ (x : ℕ). IsFree (graph_in net) is_net.tree net.touches line x) (sym back) (ground.start_free line) in
        let same : at.0 ≡ 0 = ground.one_place line 0 at.0 0 (between.lines line at.0 low at.1) (ground.arrives line 0 some_edge free) in
        at.1 ∙ ap (λ (x : ℕ). Some x) same

    none_before : (piece line : ℕ) → line < net.routing.lines → is_before net m piece line ≡ true → 0 ≡ piece
    none_before piece line low before =
        let there : (to (graph_in net) 0 == piece) ≡ true = sym (ap (leads_to (graph_in net) piece) (all_back line low)) ∙ before in
        sym back ∙ eqb-true (to (graph_in net) 0) piece there

    low_of : (test : ℕ → Bool) (line : ℕ) → Member (filter test (range_with_len 0 net.routing.lines)) line → line < net.routing.lines
    low_of test line m =
        let h = (Member-in_range 0 net.routing.lines line (Member-filtered test (range_with_len 0 net.routing.lines) line m).0).1 in
        omega (arith, h)

    start_acts : (piece : ℕ) → piece < (graph_in net).nodes → 0 ≡ piece → kind_in net piece ≡ kind.Start
    start_acts piece exists is = (ground.graph.shape.start piece exists).1 (sym is)

    act_rests : (k piece : ℕ) → piece < (graph_in net).nodes → is_acting (kind_in net piece) ≡ true → ready_as net m k (Act piece) ≡ true → ⊥
    act_rests k piece exists acts ready =
        let line = ground.touch_some piece exists acts in
        let own : Member (touched net piece) line.0 = Member-filter (net.touches piece) (all_lines net) line.0 (let low = line.1 in Member-range 0 net.routing.lines line.0 (omega arith) (omega (arith, low))) line.2 in
        let before = all_pass (is_before net m piece) (touched net piece) line.0 ((and_parts (list_all (is_before net m piece) (touched net piece)) (list_all (λ switch. not (is_some (left_for m switch))) (switches net piece)) ready).0) own in
        let start : kind_in net piece ≡ kind.Start = start_acts piece exists (none_before piece line.0 line.1 before) in
        let clash : false ≡ true = sym (ap is_acting start) ∙ acts in
        absurd cc

    switch_rests : (k piece line : ℕ) → ready_as net m k (Switch piece line) ≡ true → ⊥
    switch_rests k piece line ready =
        let left = (and_parts (is_before net m piece line) (is_some (left_for m k)) ready).1 in
        let clash : false ≡ true = sym (ap (λ (o : Option ℕ). is_some o) (between.edges k)) ∙ left in
        absurd cc

    merge_rests : (k piece line : ℕ) → piece < (graph_in net).nodes → (kind_in net piece ≡ kind.Start → ⊥) → Member (led_to net piece) line → ready_as net m k (Merge piece line) ≡ true → ⊥
    merge_rests k piece line exists other own ready = other (start_acts piece exists (none_before piece line (low_of (is_free net piece) line own) ready))

    mapped_switch : (k piece : ℕ) (name : NodeName) → Member (map (Switch piece) (passing net piece)) name → ready_as net m k name ≡ true → ⊥
    mapped_switch k piece name own ready =
        let r : IsImage (Switch piece) (passing net piece) name = Member-mapped (Switch piece) (passing net piece) name own in
        switch_rests k piece r.origin (subst (λ n. ready_as net m k n ≡ true) (sym r.is) ready)

    mapped_merge : (k piece : ℕ) (name : NodeName) → piece < (graph_in net).nodes → (kind_in net piece ≡ kind.Start → ⊥) → Member (map (Merge piece) (led_to net piece)) name → ready_as net m k name ≡ true → ⊥
    mapped_merge k piece name exists other own ready =
        let r : IsImage (Merge piece) (led_to net piece) name = Member-mapped (Merge piece) (led_to net piece) name own in
        merge_rests k piece r.origin exists other r.among (subst (λ n. ready_as net m k n ≡ true) (sym r.is) ready)

    first_act : (k piece : ℕ) (name : NodeName) → piece < (graph_in net).nodes → is_acting (kind_in net piece) ≡ true → Act piece ≡ name → ready_as net m k name ≡ true → ⊥
    first_act k piece name exists acts same ready = act_rests k piece exists acts (subst (λ n. ready_as net m k n ≡ true) (sym same) ready)

    not_start_kind : (piece : ℕ) (k : PieceKind) → kind_in net piece ≡ k → (k ≡ kind.Start → ⊥) → kind_in net piece ≡ kind.Start → ⊥
    not_start_kind piece k is other start = other (sym is ∙ start)

    node_rests : (k piece : ℕ) (name : NodeName) (of : PieceKind) → piece < (graph_in net).nodes → kind_in net piece ≡ of → Member (nodes_by net piece of) name → ready_as net m k name ≡ true → ⊥
    node_rests k piece name kind.Act exists is (inl same) ready = first_act k piece name exists (ap is_acting is) same ready
    node_rests k piece name kind.Act exists is (inr none) ready = none
    node_rests k piece name kind.Branch exists is (inl same) ready = first_act k piece name exists (ap is_acting is) same ready
    node_rests k piece name kind.Branch exists is (inr own) ready = mapped_switch k piece name own ready
    node_rests k piece name kind.Hold exists is (inl same) ready = first_act k piece name exists (ap is_acting is) same ready
    node_rests k piece name kind.Hold exists is (inr own) ready = mapped_switch k piece name own ready
    node_rests k piece name kind.Join exists is own ready = mapped_merge k piece name exists (not_start_kind piece kind.Join is (λ e. cc)) own ready
    node_rests k piece name kind.End exists is own ready = mapped_merge k piece name exists (not_start_kind piece kind.End is (λ e. cc)) own ready
    node_rests k piece name kind.Start exists is own ready = own
    node_rests k piece name kind.Pass exists is own ready = own

    -- nothing is ready any more
    pub rests : IsOver (net_moves net) m
    rests k can =
        let r : HasItem (nodes_of net) k = item_at (nodes_of net) k can.node in
        let from_one : IsFromOne (nodes_at net) (range_with_len 0 (graph_in net).nodes) r.item = Member-flat_mapped (nodes_at net) (range_with_len 0 (graph_in net).nodes) r.item (member_at (nodes_of net) k r.item r.at) in
        let inside = (Member-in_range 0 (graph_in net).nodes from_one.origin from_one.among).1 in
        let named : node_at net k ≡ r.item = ap name_in r.at in
        node_rests k from_one.origin r.item (kind_in net from_one.origin) (omega (arith, inside)) refl from_one.has (subst (λ n. ready_as net m k n ≡ true) named can.ready)

-- ---- the order

module _ (net : NetOf) (m : Tokens) (c : Control) (lockstep : IsInLockstep net m c) where
  end_kind_of : (k : PieceKind) → is_end k ≡ true → k ≡ kind.End
  end_kind_of kind.End is = refl
  end_kind_of kind.Start is = absurd cc
  end_kind_of kind.Act is = absurd cc
  end_kind_of kind.Pass is = absurd cc
  end_kind_of kind.Branch is = absurd cc
  end_kind_of kind.Join is = absurd cc
  end_kind_of kind.Hold is = absurd cc

  -- where all nodes of the end have fired
  over_at_end : is_end (kind_in net c.piece) ≡ true → node_count net c.piece ≤ c.fired → IsOver (net_moves net) m
  over_at_end is high =
      let way = lockstep.way in
      let few = lockstep.few in
      let g = graph_in net in
      let end_kind : kind_in net c.piece ≡ kind.End = end_kind_of (kind_in net c.piece) is in
      let exists = piece_exists net m c lockstep in
      let made : pass_at net c.piece lockstep.memory ≡ Done = ap (λ k. pass_of net.program net.input lockstep.memory (out g c.piece) k (exec_kind net.program c.piece)) end_kind in
      let at_finish : c.piece ≡ finish net.program.execs = (lockstep.ground.graph.shape.end c.piece exists).0 end_kind in
      let some = some_edge net lockstep.is_net lockstep.ground in
      let begins : from g 0 ≡ c.piece = (lockstep.ground.graph.shape.leaves_end 0 some).1 refl ∙ sym at_finish in
      let back_out : 0 ≡ out g c.piece 0 = lockstep.ground.graph.one_out 0 some (ap (λ (x : ℕ). leaves_one (kind_in net x)) begins ∙ ap leaves_one end_kind) ∙ ap (λ (x : ℕ). out g x 0) begins in
      let leaves : leaving net c.piece (pass_at net c.piece lockstep.memory) ≡ 0 = ap (leaving net c.piece) made ∙ sym back_out in
      let all : c.fired ≡ node_count net c.piece = omega (arith, few, high) in
      let full : IsAmid net lockstep.start m c.piece (node_count net c.piece) lockstep.memory (pass_at net c.piece lockstep.memory) = subst (λ (i : ℕ). IsAmid net lockstep.start m c.piece i lockstep.memory (pass_at net c.piece lockstep.memory)) all lockstep.amid in
      let between : IsBetween net lockstep.is_net.tree m 0 (memory_or lockstep.memory (pass_at net c.piece lockstep.memory)) = all_fired net lockstep.is_net lockstep.ground lockstep.edge c.piece way.exists lockstep.comes (later net m c lockstep) lockstep.start lockstep.memory lockstep.between m full 0 leaves some begins in
      rests net lockstep.is_net lockstep.ground m (memory_or lockstep.memory (pass_at net c.piece lockstep.memory)) between

pub source_order : (net : NetOf) → IsSourceOrder (CanCome net) (net_moves net) (net_course net) (IsInLockstep net)
source_order net = record {
  fires = λ m c k sound lockstep going due.
      let d : IsDue net c k = due_is net c k due in
      let exists = piece_exists net m c lockstep in
      subst (λ (i : ℕ). CanFire (net_moves net) m i) d.is (record { going = going; node = node_below net c.piece c.fired exists d.low; ready = due_ready net m c lockstep d.low });
  over = λ m c sound lockstep going due.
      let high = none_due net c due in
      ⊎_elim
      (λ (h : is_end (kind_in net c.piece) ≡ true). over_at_end net m c lockstep h high)
      (λ (h : is_end (kind_in net c.piece) ≡ false). let low = lockstep.due h in absurd (omega (arith, low, high)))
      (cases_Bool (is_end (kind_in net c.piece)));
}
