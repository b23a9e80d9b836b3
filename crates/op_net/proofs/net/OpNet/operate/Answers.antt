use Rattle.std.proofs.Common.{◌≡◌, ◌≤◌, Some, vec_capacity, true, w32, rules, length, refl, sym, ap, subst, ◌∙◌, arith}
use Rattle.std.specs.List.{list_all}
use Rattle.std.proofs.lemmas.Int.{to_z-of_z}
use mir.Val.{SFits}
use Rattle.cfg_build.specs.Joined.{FlowGraph}
use Rattle.f77_meaning.specs.Room.{most_room}
use Rattle.f77_meaning.specs.Storage.{memory_of}
use Rattle.firing.specs.declared.system.Fired.TheVariants.{Line, Moved, Trapped}
use Rattle.firing.specs.declared.system.NodeName.{NodeName}
use Rattle.op_board.specs.OperationNets.{operation_at, operation_node}
use Rattle.op_board.specs.OperationTokens.{OperationTokens, givers, is_given}
use Rattle.operation_effects.specs.declared.performing.Did.{Did}
use Rattle.operation_effects.specs.declared.performing.Did.TheVariants as did
use Rattle.operation_effects.specs.Done.{KeepsLine, KeepsStorage}
use Rattle.op_net.specs.FiringChanges.{given_on}
use Rattle.op_net.specs.NetView.{marking_of, net_of}
use Rattle.operation_tables.specs.OperationRows.{IsRow}
use Rattle.operation_places.specs.PlacesView.{IsCountedAhead, standing}
use Rattle.operation_tables.specs.Telling.{IsOperation}
use Rattle.operation_places.proofs.CountedAhead.{ahead_counted}
use Rattle.op_net.proofs.FiringParts.{IsReadyOperation, given_same, ready_operation}
use Rattle.operation_tables.proofs.NodeNames.{IsOperationAt, operation_at_node}
use Rattle.op_net.proofs.NodeRows.{row_by_name}
use Rattle.op_net.proofs.OperatedNets.{IsOperated, IsPerformed, ahead_by, ahead_whole, giving, has_given, has_passed, has_performed, has_stopped, has_told, has_written, line_told, lines_stand, place_empty, room_there, telling, whole}
use Rattle.op_net.proofs.RowReads.{row_serial, row_waits}
use Rattle.op_net.proofs.net.OpNet.operate.Given.{Over}
use Rattle.op_net.proofs.net.OpNet.operate.Goals.{After-give, After-give-then-not-row, After-stop, After-tell, After-tell-in-Told, After-tell-in-Wrote, After-work_with-did}
use Rattle.op_net.proofs.net.OpNet.operate.Goals as goal

-- ---- before the operation is performed

pub row_of-row-requires : goal.row_of-row-requires
row_of-row-requires g c = (omega arith, (c.requires.node, subst (λ (n : NodeName). IsOperation n) (sym c.requires.name) tt))

pub overflow_sub-k : goal.overflow_sub-k
overflow_sub-k g c =
    let n : IsOperationAt (net_of c.args.self.now) c.args.k c.args.piece c.args.i = operation_at_node (net_of c.args.self.now) c.args.k c.args.piece c.args.i c.requires.node c.requires.name in
    let is = n.number in
    omega (arith, is)

pub work_with-did-requires : goal.work_with-did-requires
work_with-did-requires g c =
    let x = net_of c.args.self.now in
    let k = c.args.k in let piece = c.args.piece in let i = c.args.i in
    let n : IsOperationAt x k piece i = operation_at_node x k piece i c.requires.node c.requires.name in
    let r : IsReadyOperation x (marking_of c.args.self.now) k piece i = ready_operation x (marking_of c.args.self.now) k piece i c.requires.ready in
    let row = row_by_name x (operation_node x k) piece i c.row_of-row.result.now c.requires.name c.row_of-row.ensures in
    let s = c.count_ahead.new.places in
    let is = n.number in
    let ops = (operation_at x piece i).operands in
    let given : list_all (is_given x (standing s) piece) ops ≡ true = given_same x piece (standing s) (marking_of c.args.self.now) (ap (λ (t : OperationTokens). t.values) c.count_ahead.ensures.standing) ops ∙ r.given in
    let all = ahead_whole x s k piece i n.number (subst (IsCountedAhead x s k) (row_waits x piece i c.row_of-row.result.now row) c.count_ahead.ensures.ahead) in
    let ahead = ahead_by x s _ (length (givers x piece ops)) _ all in
    (omega arith, (n.exists, (n.inside, (omega (arith, is), (row, (c.count_ahead.ensures.places, (given, (c.requires.sizes, (refl, (c.args.self.now.data, (c.args.self.now.args_room, (c.args.self.now.draft_room, ahead))))))))))))

-- ---- the operation is performed

performed : (g : Over) (c : After-work_with-did g)
    → IsPerformed (net_of c.args.self.now) (standing c.args.self.now.places) (memory_of c.args.self.now.storage) c.args.self.now.trapped c.work_with-did.new.places c.args.k c.args.piece c.args.i c.work_with-did.result (memory_of c.work_with-did.new.storage) c.work_with-did.new.draft.items
performed g c =
    let x = net_of c.args.self.now in
    let row = row_by_name x (operation_node x c.args.k) c.args.piece c.args.i c.row_of-row.result.now c.requires.name c.row_of-row.ensures in
    let work = c.work_with-did.ensures in
    has_performed x (standing c.args.self.now.places) (memory_of c.args.self.now.storage) c.args.self.now.trapped c.count_ahead.new.places c.work_with-did.new.places c.args.k c.args.piece c.args.i c.row_of-row.result.now.waits
    c.work_with-did.result (memory_of c.work_with-did.new.storage) c.work_with-did.new.draft.items
    c.requires.node c.requires.name c.requires.ready (row_waits x c.args.piece c.args.i c.row_of-row.result.now row) c.count_ahead.ensures.ahead c.count_ahead.ensures.standing work.standing work.counted work.effect
    (λ is. subst (λ (d : Did). KeepsLine d c.args.self.now.draft.items c.work_with-did.new.draft.items) is work.line)
    (λ trap is. ap memory_of (subst (λ (d : Did). KeepsStorage d c.args.self.now.storage c.work_with-did.new.storage) is work.memory))

own_row : (g : Over) (c : After-work_with-did g) → ∥ IsRow (net_of c.args.self.now) c.args.piece c.args.i c.row_of-row.result.now ∥₁
own_row g c = row_by_name (net_of c.args.self.now) (operation_node (net_of c.args.self.now) c.args.k) c.args.piece c.args.i c.row_of-row.result.now c.requires.name c.row_of-row.ensures

draft_kept : (g : Over) (c : After-work_with-did g) → most_room (net_of c.args.self.now).net.program.execs ≤ vec_capacity c.work_with-did.new.draft
draft_kept g c = let more = c.work_with-did.ensures.draft_room in let enough = c.args.self.now.draft_room in omega (arith, more, enough)

args_kept : (g : Over) (c : After-work_with-did g) → c.args.self.now.board.tables.most ≤ vec_capacity c.work_with-did.new.args
args_kept g c = let longer = c.work_with-did.ensures.room in let room = c.args.self.now.args_room in omega (arith, longer, room)

pub piece-line-requires : goal.piece-line-requires
piece-line-requires g c =
    let x = net_of c.args.self.now in
    let n : IsOperationAt x c.args.k c.args.piece c.args.i = operation_at_node x c.args.k c.args.piece c.args.i c.requires.node c.requires.name in
    let exists = n.exists in
    let plan = c.args.self.now.board.plan.board.plan in
    let same = ap (λ (f : FlowGraph). f.graph.nodes) plan.own_flow in
    let pieces = plan.pieces in
    omega (arith, same, pieces, exists)

-- ---- it gave a value

pub give-requires : goal.give-requires
give-requires g c =
    let w = (goal.at.give-requires g c).After-work_with-did in
    let p = performed g w in
    let v = giving p (did.Gave c.in-Gave.z) c.in-Gave.is refl in
    (omega arith, (c.requires.node, (c.requires.name, (p.at.exists, (p.at.inside, (own_row g w, (c.work_with-did.ensures.places, (v.gives, (place_empty p, (lines_stand p, v.ahead))))))))))

pub invariant_of-self : goal.invariant_of-self
invariant_of-self g c =
    let w = (goal.at.invariant_of-self g c).After-work_with-did in
    let v = giving (performed g w) (did.Gave c.in-Gave.z) c.in-Gave.is refl in
    record {
      own_places = c.give.ensures.places;
      counted = ahead_counted (net_of c.args.self.now) c.give.new.places c.args.k (c.give.ensures.counted 0 v.counted);
      «data» = c.work_with-did.ensures.data;
      text_room = c.args.self.now.text_room;
      draft_room = draft_kept g w;
      args_room = args_kept g w;
      values_room = c.args.self.now.values_room;
      placed = c.args.self.now.placed;
    }

gave : (g : Over) (c : After-give g)
    → IsPerformed (net_of c.args.self.now) (standing c.args.self.now.places) (memory_of c.args.self.now.storage) c.args.self.now.trapped c.work_with-did.new.places c.args.k c.args.piece c.args.i c.work_with-did.result (memory_of c.work_with-did.new.storage) c.work_with-did.new.draft.items
    → IsOperated (net_of c.args.self.now) (marking_of c.args.self.now) (whole (standing c.give.new.places) (memory_of c.work_with-did.new.storage) c.args.self.now.trapped) c.args.k c.args.piece c.args.i c.give.result Moved c.args.self.now.text.items c.args.self.now.text.items
gave g c p =
    let fits : SFits w32 c.in-Gave.z = search rules in
    let put = c.give.ensures.standing ∙ ap (given_on (net_of c.args.self.now) (standing c.work_with-did.new.places) c.args.k c.args.piece c.args.i) (to_z-of_z w32 c.in-Gave.z fits) in
    has_given p c.args.self.now.board.plan.facts c.requires.going (standing c.give.new.places) c.give.result c.args.self.now.text.items c.in-Gave.z c.in-Gave.is put c.give.ensures.edge

pub returns-in-Gave-clause-marking : goal.returns-in-Gave-clause-marking
returns-in-Gave-clause-marking g c = (gave g (goal.at.returns-in-Gave-clause-marking g c).After-give (performed g (goal.at.returns-in-Gave-clause-marking g c).After-work_with-did)).marking

pub returns-in-Gave-clause-leads : goal.returns-in-Gave-clause-leads
returns-in-Gave-clause-leads g c = (gave g (goal.at.returns-in-Gave-clause-leads g c).After-give (performed g (goal.at.returns-in-Gave-clause-leads g c).After-work_with-did)).leads

pub returns-in-Gave-clause-fired : goal.returns-in-Gave-clause-fired
returns-in-Gave-clause-fired g c = (gave g (goal.at.returns-in-Gave-clause-fired g c).After-give (performed g (goal.at.returns-in-Gave-clause-fired g c).After-work_with-did)).fired_is

-- ---- it changed what there is in memory

pub tell-requires : goal.tell-requires
tell-requires g c =
    let w = (goal.at.tell-requires g c).After-work_with-did in
    let p = performed g w in
    let v = telling p did.Changed c.in-Changed.is refl in
    (omega arith, (p.at.exists, (p.at.inside, (own_row g w, (c.work_with-did.ensures.places, (lines_stand p, (room_there p, v.ahead)))))))

pub invariant_of-self-in-Changed : goal.invariant_of-self-in-Changed
invariant_of-self-in-Changed g c =
    let w = (goal.at.invariant_of-self-in-Changed g c).After-work_with-did in
    let v = telling (performed g w) did.Changed c.in-Changed.is refl in
    record {
      own_places = c.tell.ensures.places;
      counted = ahead_counted (net_of c.args.self.now) c.tell.new.places _ (c.tell.ensures.counted 0 v.counted);
      «data» = c.work_with-did.ensures.data;
      text_room = c.args.self.now.text_room;
      draft_room = draft_kept g w;
      args_room = args_kept g w;
      values_room = c.args.self.now.values_room;
      placed = c.args.self.now.placed;
    }

changed : (g : Over) (c : After-tell g)
    → IsPerformed (net_of c.args.self.now) (standing c.args.self.now.places) (memory_of c.args.self.now.storage) c.args.self.now.trapped c.work_with-did.new.places c.args.k c.args.piece c.args.i c.work_with-did.result (memory_of c.work_with-did.new.storage) c.work_with-did.new.draft.items
    → IsOperated (net_of c.args.self.now) (marking_of c.args.self.now) (whole (standing c.tell.new.places) (memory_of c.work_with-did.new.storage) c.args.self.now.trapped) c.args.k c.args.piece c.args.i c.tell.result Moved c.args.self.now.text.items c.args.self.now.text.items
changed g c p =
    has_told p c.args.self.now.board.plan.facts c.requires.going (standing c.tell.new.places) c.tell.result c.args.self.now.text.items did.Changed 0 c.in-Changed.is refl c.tell.ensures.standing c.tell.ensures.edge

pub returns-in-Changed-clause-marking : goal.returns-in-Changed-clause-marking
returns-in-Changed-clause-marking g c = (changed g (goal.at.returns-in-Changed-clause-marking g c).After-tell (performed g (goal.at.returns-in-Changed-clause-marking g c).After-work_with-did)).marking

pub returns-in-Changed-clause-leads : goal.returns-in-Changed-clause-leads
returns-in-Changed-clause-leads g c = (changed g (goal.at.returns-in-Changed-clause-leads g c).After-tell (performed g (goal.at.returns-in-Changed-clause-leads g c).After-work_with-did)).leads

pub returns-in-Changed-clause-fired : goal.returns-in-Changed-clause-fired
returns-in-Changed-clause-fired g c = (changed g (goal.at.returns-in-Changed-clause-fired g c).After-tell (performed g (goal.at.returns-in-Changed-clause-fired g c).After-work_with-did)).fired_is

pub returns-in-Changed-clause-last : goal.returns-in-Changed-clause-last
returns-in-Changed-clause-last g c = (changed g (goal.at.returns-in-Changed-clause-last g c).After-tell (performed g (goal.at.returns-in-Changed-clause-last g c).After-work_with-did)).last

-- ---- it wrote a line

pub tell-requires-in-Wrote : goal.tell-requires-in-Wrote
tell-requires-in-Wrote g c =
    let w = (goal.at.tell-requires-in-Wrote g c).After-work_with-did in
    let p = performed g w in
    let v = telling p did.Wrote c.in-Wrote.is refl in
    (omega arith, (p.at.exists, (p.at.inside, (own_row g w, (c.work_with-did.ensures.places, (lines_stand p, (room_there p, v.ahead)))))))

pub invariant_of-self-in-Wrote : goal.invariant_of-self-in-Wrote
invariant_of-self-in-Wrote g c =
    let w = (goal.at.invariant_of-self-in-Wrote g c).After-work_with-did in
    let v = telling (performed g w) did.Wrote c.in-Wrote.is refl in
    let text_is : c.swap.new.x ≡ c.work_with-did.new.draft = search rules in
    let draft_is : c.swap.new.y ≡ c.args.self.now.text = search rules in
    record {
      own_places = c.tell-in-Wrote.ensures.places;
      counted = ahead_counted (net_of c.args.self.now) c.tell-in-Wrote.new.places _ (c.tell-in-Wrote.ensures.counted 0 v.counted);
      «data» = c.work_with-did.ensures.data;
      text_room = let text = ap (λ v. vec_capacity v) text_is in let room = draft_kept g w in omega (arith, room, text);
      draft_room = let draft = ap (λ v. vec_capacity v) draft_is in let room = c.args.self.now.text_room in omega (arith, draft, room);
      args_room = args_kept g w;
      values_room = c.args.self.now.values_room;
      placed = c.args.self.now.placed;
    }

written : (g : Over) (c : After-tell-in-Wrote g)
    → IsPerformed (net_of c.args.self.now) (standing c.args.self.now.places) (memory_of c.args.self.now.storage) c.args.self.now.trapped c.work_with-did.new.places c.args.k c.args.piece c.args.i c.work_with-did.result (memory_of c.work_with-did.new.storage) c.work_with-did.new.draft.items
    → IsOperated (net_of c.args.self.now) (marking_of c.args.self.now) (whole (standing c.tell-in-Wrote.new.places) (memory_of c.work_with-did.new.storage) c.args.self.now.trapped) c.args.k c.args.piece c.args.i c.tell-in-Wrote.result Line c.args.self.now.text.items c.work_with-did.new.draft.items
written g c p =
    has_written p c.args.self.now.board.plan.facts c.requires.going (standing c.tell-in-Wrote.new.places) c.tell-in-Wrote.result c.args.self.now.text.items c.in-Wrote.is c.tell-in-Wrote.ensures.standing c.tell-in-Wrote.ensures.edge

pub returns-in-Wrote-clause-marking : goal.returns-in-Wrote-clause-marking
returns-in-Wrote-clause-marking g c = (written g (goal.at.returns-in-Wrote-clause-marking g c).After-tell-in-Wrote (performed g (goal.at.returns-in-Wrote-clause-marking g c).After-work_with-did)).marking

pub returns-in-Wrote-clause-leads : goal.returns-in-Wrote-clause-leads
returns-in-Wrote-clause-leads g c = (written g (goal.at.returns-in-Wrote-clause-leads g c).After-tell-in-Wrote (performed g (goal.at.returns-in-Wrote-clause-leads g c).After-work_with-did)).leads

pub returns-in-Wrote-clause-fired : goal.returns-in-Wrote-clause-fired
returns-in-Wrote-clause-fired g c = (written g (goal.at.returns-in-Wrote-clause-fired g c).After-tell-in-Wrote (performed g (goal.at.returns-in-Wrote-clause-fired g c).After-work_with-did)).fired_is

pub returns-in-Wrote-clause-last : goal.returns-in-Wrote-clause-last
returns-in-Wrote-clause-last g c =
    let swapped : c.swap.new.x.items ≡ c.work_with-did.new.draft.items = search rules in
    swapped ∙ (written g (goal.at.returns-in-Wrote-clause-last g c).After-tell-in-Wrote (performed g (goal.at.returns-in-Wrote-clause-last g c).After-work_with-did)).last

-- ---- it told an edge

pub tell-requires-in-Told : goal.tell-requires-in-Told
tell-requires-in-Told g c =
    let w = (goal.at.tell-requires-in-Told g c).After-work_with-did in
    let p = performed g w in
    let v = telling p (did.Told c.in-Told.choice) c.in-Told.is refl in
    (omega arith, (p.at.exists, (p.at.inside, (own_row g w, (c.work_with-did.ensures.places, (lines_stand p, (room_there p, v.ahead)))))))

pub invariant_of-self-in-Told : goal.invariant_of-self-in-Told
invariant_of-self-in-Told g c =
    let w = (goal.at.invariant_of-self-in-Told g c).After-work_with-did in
    let v = telling (performed g w) (did.Told c.in-Told.choice) c.in-Told.is refl in
    record {
      own_places = c.tell-in-Told.ensures.places;
      counted = ahead_counted (net_of c.args.self.now) c.tell-in-Told.new.places _ (c.tell-in-Told.ensures.counted 0 v.counted);
      «data» = c.work_with-did.ensures.data;
      text_room = c.args.self.now.text_room;
      draft_room = draft_kept g w;
      args_room = args_kept g w;
      values_room = c.args.self.now.values_room;
      placed = c.args.self.now.placed;
    }

chosen : (g : Over) (c : After-tell-in-Told g)
    → IsPerformed (net_of c.args.self.now) (standing c.args.self.now.places) (memory_of c.args.self.now.storage) c.args.self.now.trapped c.work_with-did.new.places c.args.k c.args.piece c.args.i c.work_with-did.result (memory_of c.work_with-did.new.storage) c.work_with-did.new.draft.items
    → IsOperated (net_of c.args.self.now) (marking_of c.args.self.now) (whole (standing c.tell-in-Told.new.places) (memory_of c.work_with-did.new.storage) c.args.self.now.trapped) c.args.k c.args.piece c.args.i c.tell-in-Told.result Moved c.args.self.now.text.items c.args.self.now.text.items
chosen g c p =
    has_told p c.args.self.now.board.plan.facts c.requires.going (standing c.tell-in-Told.new.places) c.tell-in-Told.result c.args.self.now.text.items (did.Told c.in-Told.choice) c.in-Told.choice c.in-Told.is refl c.tell-in-Told.ensures.standing c.tell-in-Told.ensures.edge

pub returns-in-Told-clause-marking : goal.returns-in-Told-clause-marking
returns-in-Told-clause-marking g c = (chosen g (goal.at.returns-in-Told-clause-marking g c).After-tell-in-Told (performed g (goal.at.returns-in-Told-clause-marking g c).After-work_with-did)).marking

pub returns-in-Told-clause-leads : goal.returns-in-Told-clause-leads
returns-in-Told-clause-leads g c = (chosen g (goal.at.returns-in-Told-clause-leads g c).After-tell-in-Told (performed g (goal.at.returns-in-Told-clause-leads g c).After-work_with-did)).leads

pub returns-in-Told-clause-fired : goal.returns-in-Told-clause-fired
returns-in-Told-clause-fired g c = (chosen g (goal.at.returns-in-Told-clause-fired g c).After-tell-in-Told (performed g (goal.at.returns-in-Told-clause-fired g c).After-work_with-did)).fired_is

pub returns-in-Told-clause-last : goal.returns-in-Told-clause-last
returns-in-Told-clause-last g c = (chosen g (goal.at.returns-in-Told-clause-last g c).After-tell-in-Told (performed g (goal.at.returns-in-Told-clause-last g c).After-work_with-did)).last

-- ---- it trapped, and gives 0

pub give-requires-then-not-row : goal.give-requires-then-not-row
give-requires-then-not-row g c =
    let w = (goal.at.give-requires-then-not-row g c).After-work_with-did in
    let p = performed g w in
    let v = giving p (did.Trapped c.in-Trapped.trap) c.in-Trapped.is refl in
    (omega arith, (c.requires.node, (c.requires.name, (p.at.exists, (p.at.inside, (own_row g w, (c.work_with-did.ensures.places, (v.gives, (place_empty p, (lines_stand p, v.ahead))))))))))

pub invariant_of-self-then-not-row : goal.invariant_of-self-then-not-row
invariant_of-self-then-not-row g c =
    let w = (goal.at.invariant_of-self-then-not-row g c).After-work_with-did in
    let v = giving (performed g w) (did.Trapped c.in-Trapped.trap) c.in-Trapped.is refl in
    record {
      own_places = c.give-then-not-row.ensures.places;
      counted = ahead_counted (net_of c.args.self.now) c.give-then-not-row.new.places c.args.k (c.give-then-not-row.ensures.counted 0 v.counted);
      «data» = c.work_with-did.ensures.data;
      text_room = c.args.self.now.text_room;
      draft_room = draft_kept g w;
      args_room = args_kept g w;
      values_room = c.args.self.now.values_room;
      placed = c.args.self.now.placed;
    }

passed : (g : Over) (c : After-give-then-not-row g)
    → IsPerformed (net_of c.args.self.now) (standing c.args.self.now.places) (memory_of c.args.self.now.storage) c.args.self.now.trapped c.work_with-did.new.places c.args.k c.args.piece c.args.i c.work_with-did.result (memory_of c.work_with-did.new.storage) c.work_with-did.new.draft.items
    → IsOperated (net_of c.args.self.now) (marking_of c.args.self.now) (whole (standing c.give-then-not-row.new.places) (memory_of c.work_with-did.new.storage) c.args.self.now.trapped) c.args.k c.args.piece c.args.i c.give-then-not-row.result Moved c.args.self.now.text.items c.args.self.now.text.items
passed g c p =
    let needs = sym (row_serial (net_of c.args.self.now) c.args.piece c.args.i c.row_of-row.result.now (row_by_name (net_of c.args.self.now) (operation_node (net_of c.args.self.now) c.args.k) c.args.piece c.args.i c.row_of-row.result.now c.requires.name c.row_of-row.ensures)) ∙ c.if-not-row.true in
    has_passed p c.args.self.now.board.plan.facts c.requires.going (standing c.give-then-not-row.new.places) c.give-then-not-row.result c.args.self.now.text.items c.in-Trapped.trap c.in-Trapped.is c.give-then-not-row.ensures.edge needs c.give-then-not-row.ensures.standing

pub returns-then-not-row-clause-marking : goal.returns-then-not-row-clause-marking
returns-then-not-row-clause-marking g c = (passed g (goal.at.returns-then-not-row-clause-marking g c).After-give-then-not-row (performed g (goal.at.returns-then-not-row-clause-marking g c).After-work_with-did)).marking

pub returns-then-not-row-clause-leads : goal.returns-then-not-row-clause-leads
returns-then-not-row-clause-leads g c = (passed g (goal.at.returns-then-not-row-clause-leads g c).After-give-then-not-row (performed g (goal.at.returns-then-not-row-clause-leads g c).After-work_with-did)).leads

pub returns-then-not-row-clause-fired : goal.returns-then-not-row-clause-fired
returns-then-not-row-clause-fired g c = (passed g (goal.at.returns-then-not-row-clause-fired g c).After-give-then-not-row (performed g (goal.at.returns-then-not-row-clause-fired g c).After-work_with-did)).fired_is

-- ---- it trapped, and stops the net

pub stop-requires : goal.stop-requires
stop-requires g c =
    let w = (goal.at.stop-requires g c).After-work_with-did in
    let p = performed g w in
    let v = giving p (did.Trapped c.in-Trapped.trap) c.in-Trapped.is refl in
    (omega arith, (c.requires.node, (c.requires.name, (p.at.exists, (p.at.inside, (own_row g w, (c.work_with-did.ensures.places, (lines_stand p, v.ahead))))))))

pub invariant_of-self-in-Trapped : goal.invariant_of-self-in-Trapped
invariant_of-self-in-Trapped g c =
    let w = (goal.at.invariant_of-self-in-Trapped g c).After-work_with-did in
    let v = giving (performed g w) (did.Trapped c.in-Trapped.trap) c.in-Trapped.is refl in
    record {
      own_places = c.stop.ensures.places;
      counted = ahead_counted (net_of c.args.self.now) c.stop.new.places c.args.k (c.stop.ensures.counted 0 v.counted);
      «data» = c.work_with-did.ensures.data;
      text_room = c.args.self.now.text_room;
      draft_room = draft_kept g w;
      args_room = args_kept g w;
      values_room = c.args.self.now.values_room;
      placed = c.args.self.now.placed;
    }

stopped : (g : Over) (c : After-stop g)
    → IsPerformed (net_of c.args.self.now) (standing c.args.self.now.places) (memory_of c.args.self.now.storage) c.args.self.now.trapped c.work_with-did.new.places c.args.k c.args.piece c.args.i c.work_with-did.result (memory_of c.work_with-did.new.storage) c.work_with-did.new.draft.items
    → IsOperated (net_of c.args.self.now) (marking_of c.args.self.now) (whole (standing c.stop.new.places) (memory_of c.work_with-did.new.storage) (Some (c.in-Trapped.trap, c.piece-line.result.line))) c.args.k c.args.piece c.args.i c.stop.result Trapped c.args.self.now.text.items c.args.self.now.text.items
stopped g c p =
    let needs = sym (row_serial (net_of c.args.self.now) c.args.piece c.args.i c.row_of-row.result.now (row_by_name (net_of c.args.self.now) (operation_node (net_of c.args.self.now) c.args.k) c.args.piece c.args.i c.row_of-row.result.now c.requires.name c.row_of-row.ensures)) ∙ c.if-not-row.false in
    let line_is = line_told c.args.self.now.board.plan.board.plan.flow.now _ c.args.piece c.piece-line.result c.args.self.now.board.plan.board.plan.own_flow c.piece-line.ensures in
    has_stopped p c.args.self.now.board.plan.facts c.requires.going (standing c.stop.new.places) c.stop.result c.args.self.now.text.items c.in-Trapped.trap c.in-Trapped.is c.stop.ensures.edge c.piece-line.result.line line_is needs c.stop.ensures.standing

pub returns-else-not-row-clause-marking : goal.returns-else-not-row-clause-marking
returns-else-not-row-clause-marking g c = (stopped g (goal.at.returns-else-not-row-clause-marking g c).After-stop (performed g (goal.at.returns-else-not-row-clause-marking g c).After-work_with-did)).marking

pub returns-else-not-row-clause-leads : goal.returns-else-not-row-clause-leads
returns-else-not-row-clause-leads g c = (stopped g (goal.at.returns-else-not-row-clause-leads g c).After-stop (performed g (goal.at.returns-else-not-row-clause-leads g c).After-work_with-did)).leads

pub returns-else-not-row-clause-fired : goal.returns-else-not-row-clause-fired
returns-else-not-row-clause-fired g c = (stopped g (goal.at.returns-else-not-row-clause-fired g c).After-stop (performed g (goal.at.returns-else-not-row-clause-fired g c).After-work_with-did)).fired_is
