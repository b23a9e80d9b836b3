use Rattle.std.proofs.Common.{◌≡◌, ◌<◌, List, length, get_or, Some, refl, sym, ap, ◌∙◌, subst, arith, sum_by}
use Rattle.std.proofs.lemmas.List.{get_or_default}
use Rattle.closed_walks.specs.Graph.{edge_count}
use Rattle.closed_walks.specs.Walk.{Holds}
use Rattle.cycle_equiv.specs.Walking.{taking}
use Rattle.cycle_equiv.specs.TrailReaches.{reaching, starting}
use Rattle.cycle_equiv.specs.WalkState.{left_weight}
use Rattle.cycle_equiv.specs.WalkTables.{IsReachTable}
use Rattle.cycle_equiv.specs.declared.walk_tree.Mark.{Mark}
use Rattle.cycle_equiv.specs.declared.walk_tree.Mark.TheVariants.{New}
use Rattle.cycle_equiv.proofs.Further.{take_further, found_marks}
use Rattle.cycle_equiv.proofs.Tables.{table_set, tops_put}
use Rattle.cycle_equiv.proofs.WalkFound.{find_walk, find_room, none_yet, not_left}
use Rattle.cycle_equiv.proofs.WalkReads.{here_node, row, tree_row, reach_row, read_mark, read_parent_edge, read_preorder, mark_new, mark_open, mark_left, free_of, in_stands, room, pushed_table, deleted_table}
use Rattle.cycle_equiv.proofs.WalkTaken.{loop_walk, back_walk, up_walk, up_free, up_edge, down_root, down_edge, down_listed, down_walk}
use Rattle.cycle_equiv.proofs.walk.BracketWalk.take.Goals as goal

pub take-requires-clause-row : goal.take-requires-clause-row
take-requires-clause-row g c =
    row c.args.g.now c.args.self.now c.args.u c.requires.walk c.args.u (here_node c.args.g.now c.args.self.now c.args.u c.requires.walk)

pub take-requires-clause-room : goal.take-requires-clause-room
take-requires-clause-room g c =
    room c.args.g.now c.args.self.now c.args.u c.requires.walk c.args.e c.requires.next

pub take-requires-in-Open-clause-row : goal.take-requires-in-Open-clause-row
take-requires-in-Open-clause-row g c =
    row c.args.g.now c.args.self.now c.args.u c.requires.walk c.args.u (here_node c.args.g.now c.args.self.now c.args.u c.requires.walk)

pub take-requires-in-Open-clause-room : goal.take-requires-in-Open-clause-room
take-requires-in-Open-clause-room g c =
    room c.args.g.now c.args.self.now c.args.u c.requires.walk c.args.e c.requires.next

pub take-requires-in-Left-clause-row : goal.take-requires-in-Left-clause-row
take-requires-in-Left-clause-row g c =
    row c.args.g.now c.args.self.now c.args.u c.requires.walk c.args.u (here_node c.args.g.now c.args.self.now c.args.u c.requires.walk)

pub take-requires-in-Left-clause-room : goal.take-requires-in-Left-clause-room
take-requires-in-Left-clause-room g c =
    room c.args.g.now c.args.self.now c.args.u c.requires.walk c.args.e c.requires.next

-- ---- a node is found

pub find-requires-clause-row : goal.find-requires-clause-row
find-requires-clause-row g c =
    tree_row c.args.g.now.nodes c.take.new.self (taking c.requires.walk.trail c.args.u) (c.take.ensures.table c.args.g.now.nodes c.requires.walk.trail c.requires.walk.kept.tree_table) c.other_end-v.result c.other_end-v.ensures.node

pub find-requires-clause-room : goal.find-requires-clause-room
find-requires-clause-room g c =
    let count = (c.take.ensures.table c.args.g.now.nodes c.requires.walk.trail c.requires.walk.kept.tree_table).count in
    let few = find_room c.args.g.now c.args.self.now c.args.u c.requires.walk c.args.e c.other_end-v.result c.requires.next c.other_end-v.ensures.ends c.other_end-v.ensures.node (mark_new (c.requires.walk.trail.found c.other_end-v.result) (c.requires.walk.trail.left c.other_end-v.result) (sym c.in-New.is ∙ read_mark c.args.g.now c.args.self.now c.args.u c.requires.walk c.other_end-v.result c.index.result.now c.other_end-v.ensures.node c.index.ensures)) in
    omega (arith, count, few)

pub start-requires : goal.start-requires
start-requires g c =
    reach_row c.args.g.now c.args.self.now c.args.u c.requires.walk c.other_end-v.result c.other_end-v.ensures.node

pub returns-in-New-clause-walk : goal.returns-in-New-clause-walk
returns-in-New-clause-walk g c =
    λ start now p one.
    let h = p.walk in
    find_walk c.args.g.now c.args.self.now c.args.u h c.args.e c.other_end-v.result c.requires.next c.other_end-v.ensures.ends c.other_end-v.ensures.node (mark_new (h.trail.found c.other_end-v.result) (h.trail.left c.other_end-v.result) (sym c.in-New.is ∙ read_mark c.args.g.now c.args.self.now c.args.u h c.other_end-v.result c.index.result.now c.other_end-v.ensures.node c.index.ensures))
    (record { tree = c.find.new.self; reaches = c.start.new.self; lists = c.args.self.now.lists; caps = c.args.self.now.caps; names = c.args.self.now.names }) start now c.args.steps.now p.paid (omega (arith, one)) refl
    (record {
      tree_table = c.find.ensures.table c.args.g.now.nodes h.trail (c.take.ensures.table c.args.g.now.nodes h.trail h.kept.tree_table)
          (none_yet c.args.g.now c.args.self.now c.args.u h c.args.e c.other_end-v.result c.requires.next c.other_end-v.ensures.ends c.other_end-v.ensures.node (mark_new (h.trail.found c.other_end-v.result) (h.trail.left c.other_end-v.result) (sym c.in-New.is ∙ read_mark c.args.g.now c.args.self.now c.args.u h c.other_end-v.result c.index.result.now c.other_end-v.ensures.node c.index.ensures)))
          (not_left c.args.g.now c.args.self.now c.args.u h c.args.e c.other_end-v.result c.requires.next c.other_end-v.ensures.ends c.other_end-v.ensures.node (mark_new (h.trail.found c.other_end-v.result) (h.trail.left c.other_end-v.result) (sym c.in-New.is ∙ read_mark c.args.g.now c.args.self.now c.args.u h c.other_end-v.result c.index.result.now c.other_end-v.ensures.node c.index.ensures)));
      reach_table = subst (λ k. IsReachTable c.args.g.now.nodes c.start.new.self (starting h.reaches c.other_end-v.result k)) h.kept.tree_table.count (c.start.ensures c.args.g.now.nodes h.reaches h.kept.reach_table);
      list_table = h.kept.list_table;
      cap_table = h.kept.cap_table;
      top_table = h.kept.top_table;
      size_table = h.kept.size_table;
    })

pub returns-in-New-clause-further : goal.returns-in-New-clause-further
returns-in-New-clause-further g c =
    let inside = row c.args.g.now c.args.self.now c.args.u c.requires.walk c.other_end-v.result c.other_end-v.ensures.node in
    let was = sym (get_or_default c.args.self.now.tree.marks.items c.other_end-v.result c.index.result.now New inside.marks) ∙ sym c.index.ensures ∙ c.in-New.is in
    take_further c.args.self.now (record { tree = c.find.new.self; reaches = c.start.new.self; lists = c.args.self.now.lists; caps = c.args.self.now.caps; names = c.args.self.now.names }) c.args.u
    (row c.args.g.now c.args.self.now c.args.u c.requires.walk c.args.u (here_node c.args.g.now c.args.self.now c.args.u c.requires.walk)).taken
    (c.find.ensures.taken ∙ c.take.ensures.taken)
    (found_marks c.take.new.self.marks.items c.find.new.self.marks.items c.other_end-v.result
    (subst (λ (xs : List Mark). c.other_end-v.result < length xs) (sym c.take.ensures.marks) inside.marks)
    (subst (λ (xs : List Mark). get_or xs c.other_end-v.result New ≡ New) (sym c.take.ensures.marks) was)
    c.find.ensures.marks ∙ ap (sum_by left_weight) c.take.ensures.marks)

-- ---- a loop

pub returns-then-u-v-clause-walk : goal.returns-then-u-v-clause-walk
returns-then-u-v-clause-walk g c =
    λ start now p one.
    let h = p.walk in
    loop_walk c.args.g.now c.args.self.now c.args.u h c.args.e c.other_end-v.result c.requires.next c.other_end-v.ensures.ends (mark_open (h.trail.found c.other_end-v.result) (h.trail.left c.other_end-v.result) (sym c.in-Open.is ∙ read_mark c.args.g.now c.args.self.now c.args.u h c.other_end-v.result c.index.result.now c.other_end-v.ensures.node c.index.ensures)).0 c.if-u-v.true
    (record { tree = c.take-in-Open.new.self; reaches = c.args.self.now.reaches; lists = c.args.self.now.lists; caps = c.args.self.now.caps; names = c.put.new.self }) start now c.args.steps.now p.paid (omega (arith, one)) refl
    (record {
      tree_table = c.take-in-Open.ensures.table c.args.g.now.nodes h.trail h.kept.tree_table;
      reach_table = h.kept.reach_table;
      list_table = h.kept.list_table;
      cap_table = h.kept.cap_table;
      top_table = tops_put (edge_count c.args.g.now) c.args.self.now.names.tops.items c.put.new.self.tops.items h.tops c.args.e (Some c.args.e) c.requires.next.edge c.put.ensures.tops h.kept.top_table;
      size_table = table_set (edge_count c.args.g.now) 0 c.args.self.now.names.sizes.items c.put.new.self.sizes.items h.sizes c.args.e 1 c.requires.next.edge c.put.ensures.sizes h.kept.size_table;
    })

pub returns-then-u-v-clause-further : goal.returns-then-u-v-clause-further
returns-then-u-v-clause-further g c =
    take_further c.args.self.now (record { tree = c.take-in-Open.new.self; reaches = c.args.self.now.reaches; lists = c.args.self.now.lists; caps = c.args.self.now.caps; names = c.put.new.self }) c.args.u (row c.args.g.now c.args.self.now c.args.u c.requires.walk c.args.u (here_node c.args.g.now c.args.self.now c.args.u c.requires.walk)).taken
    c.take-in-Open.ensures.taken (ap (sum_by left_weight) c.take-in-Open.ensures.marks)

-- ---- back to the parent

pub returns-then-f-e-clause-walk : goal.returns-then-f-e-clause-walk
returns-then-f-e-clause-walk g c =
    λ start now p one.
    let h = p.walk in
    back_walk c.args.g.now c.args.self.now c.args.u h c.args.e c.other_end-v.result c.requires.next c.other_end-v.ensures.ends (mark_open (h.trail.found c.other_end-v.result) (h.trail.left c.other_end-v.result) (sym c.in-Open.is ∙ read_mark c.args.g.now c.args.self.now c.args.u h c.other_end-v.result c.index.result.now c.other_end-v.ensures.node c.index.ensures)).0 c.if-u-v.false (record { found = (mark_open (h.trail.found c.other_end-v.result) (h.trail.left c.other_end-v.result) (sym c.in-Open.is ∙ read_mark c.args.g.now c.args.self.now c.args.u h c.other_end-v.result c.index.result.now c.other_end-v.ensures.node c.index.ensures)).0; stays = (mark_open (h.trail.found c.other_end-v.result) (h.trail.left c.other_end-v.result) (sym c.in-Open.is ∙ read_mark c.args.g.now c.args.self.now c.args.u h c.other_end-v.result c.index.result.now c.other_end-v.ensures.node c.index.ensures)).1 }) (sym (read_parent_edge c.args.g.now c.args.self.now c.args.u h c.args.u c.index-f.result.now (here_node c.args.g.now c.args.self.now c.args.u h) c.index-f.ensures) ∙ c.if-f-e.true)
    (record { tree = c.take-in-Open.new.self; reaches = c.args.self.now.reaches; lists = c.args.self.now.lists; caps = c.args.self.now.caps; names = c.args.self.now.names }) start now c.args.steps.now p.paid (omega (arith, one)) refl
    (record {
      tree_table = c.take-in-Open.ensures.table c.args.g.now.nodes h.trail h.kept.tree_table;
      reach_table = h.kept.reach_table;
      list_table = h.kept.list_table;
      cap_table = h.kept.cap_table;
      top_table = h.kept.top_table;
      size_table = h.kept.size_table;
    })

pub returns-then-f-e-clause-further : goal.returns-then-f-e-clause-further
returns-then-f-e-clause-further g c =
    take_further c.args.self.now (record { tree = c.take-in-Open.new.self; reaches = c.args.self.now.reaches; lists = c.args.self.now.lists; caps = c.args.self.now.caps; names = c.args.self.now.names }) c.args.u (row c.args.g.now c.args.self.now c.args.u c.requires.walk c.args.u (here_node c.args.g.now c.args.self.now c.args.u c.requires.walk)).taken
    c.take-in-Open.ensures.taken (ap (sum_by left_weight) c.take-in-Open.ensures.marks)

-- ---- up

pub push-requires-clause-list : goal.push-requires-clause-list
push-requires-clause-list g c =
    let edge = (subst (λ l. l < edge_count c.args.g.now) (sym (read_parent_edge c.args.g.now c.args.self.now c.args.u c.requires.walk c.args.u c.index-f.result.now (here_node c.args.g.now c.args.self.now c.args.u c.requires.walk) c.index-f.ensures)) (up_edge c.args.g.now c.args.self.now c.args.u c.requires.walk c.args.e c.other_end-v.result c.requires.next c.other_end-v.ensures.ends (mark_open (c.requires.walk.trail.found c.other_end-v.result) (c.requires.walk.trail.left c.other_end-v.result) (sym c.in-Open.is ∙ read_mark c.args.g.now c.args.self.now c.args.u c.requires.walk c.other_end-v.result c.index.result.now c.other_end-v.ensures.node c.index.ensures)).0 c.if-u-v.false (record { found = (mark_open (c.requires.walk.trail.found c.other_end-v.result) (c.requires.walk.trail.left c.other_end-v.result) (sym c.in-Open.is ∙ read_mark c.args.g.now c.args.self.now c.args.u c.requires.walk c.other_end-v.result c.index.result.now c.other_end-v.ensures.node c.index.ensures)).0; stays = (mark_open (c.requires.walk.trail.found c.other_end-v.result) (c.requires.walk.trail.left c.other_end-v.result) (sym c.in-Open.is ∙ read_mark c.args.g.now c.args.self.now c.args.u c.requires.walk c.other_end-v.result c.index.result.now c.other_end-v.ensures.node c.index.ensures)).1 }) (λ same. c.if-f-e.false ((read_parent_edge c.args.g.now c.args.self.now c.args.u c.requires.walk c.args.u c.index-f.result.now (here_node c.args.g.now c.args.self.now c.args.u c.requires.walk) c.index-f.ensures) ∙ same)))) in
    let long = c.requires.walk.kept.list_table.size in
    omega (arith, edge, long)

pub push-requires-clause-free : goal.push-requires-clause-free
push-requires-clause-free g c =
    free_of c.args.g.now c.args.self.now c.args.u c.requires.walk c.args.e (up_free c.args.g.now c.args.self.now c.args.u c.requires.walk c.args.e c.other_end-v.result c.requires.next c.other_end-v.ensures.ends (mark_open (c.requires.walk.trail.found c.other_end-v.result) (c.requires.walk.trail.left c.other_end-v.result) (sym c.in-Open.is ∙ read_mark c.args.g.now c.args.self.now c.args.u c.requires.walk c.other_end-v.result c.index.result.now c.other_end-v.ensures.node c.index.ensures)).0 c.if-u-v.false (record { found = (mark_open (c.requires.walk.trail.found c.other_end-v.result) (c.requires.walk.trail.left c.other_end-v.result) (sym c.in-Open.is ∙ read_mark c.args.g.now c.args.self.now c.args.u c.requires.walk c.other_end-v.result c.index.result.now c.other_end-v.ensures.node c.index.ensures)).0; stays = (mark_open (c.requires.walk.trail.found c.other_end-v.result) (c.requires.walk.trail.left c.other_end-v.result) (sym c.in-Open.is ∙ read_mark c.args.g.now c.args.self.now c.args.u c.requires.walk c.other_end-v.result c.index.result.now c.other_end-v.ensures.node c.index.ensures)).1 }) (λ same. c.if-f-e.false ((read_parent_edge c.args.g.now c.args.self.now c.args.u c.requires.walk c.args.u c.index-f.result.now (here_node c.args.g.now c.args.self.now c.args.u c.requires.walk) c.index-f.ensures) ∙ same)))

pub reach-requires : goal.reach-requires
reach-requires g c =
    reach_row c.args.g.now c.args.self.now c.args.u c.requires.walk c.args.u (here_node c.args.g.now c.args.self.now c.args.u c.requires.walk)

pub returns-else-f-e-clause-walk : goal.returns-else-f-e-clause-walk
returns-else-f-e-clause-walk g c =
    λ start now p one.
    let h = p.walk in
    let place = read_preorder c.args.g.now c.args.self.now c.args.u h c.other_end-v.result c.index-place.result.now c.other_end-v.ensures.node c.index-place.ensures in
    up_walk c.args.g.now c.args.self.now c.args.u h c.args.e c.other_end-v.result c.requires.next c.other_end-v.ensures.ends (mark_open (h.trail.found c.other_end-v.result) (h.trail.left c.other_end-v.result) (sym c.in-Open.is ∙ read_mark c.args.g.now c.args.self.now c.args.u h c.other_end-v.result c.index.result.now c.other_end-v.ensures.node c.index.ensures)).0 c.if-u-v.false (record { found = (mark_open (h.trail.found c.other_end-v.result) (h.trail.left c.other_end-v.result) (sym c.in-Open.is ∙ read_mark c.args.g.now c.args.self.now c.args.u h c.other_end-v.result c.index.result.now c.other_end-v.ensures.node c.index.ensures)).0; stays = (mark_open (h.trail.found c.other_end-v.result) (h.trail.left c.other_end-v.result) (sym c.in-Open.is ∙ read_mark c.args.g.now c.args.self.now c.args.u h c.other_end-v.result c.index.result.now c.other_end-v.ensures.node c.index.ensures)).1 }) (λ same. c.if-f-e.false ((read_parent_edge c.args.g.now c.args.self.now c.args.u h c.args.u c.index-f.result.now (here_node c.args.g.now c.args.self.now c.args.u h) c.index-f.ensures) ∙ same))
    (record { tree = c.take-in-Open.new.self; reaches = c.reach.new.self; lists = c.push.new.self; caps = c.args.self.now.caps; names = c.put-in-Open.new.self }) start now c.push.new.steps p.paid (omega (arith, one, c.push.ensures.step)) refl
    (record {
      tree_table = c.take-in-Open.ensures.table c.args.g.now.nodes h.trail h.kept.tree_table;
      reach_table = subst (λ k. IsReachTable c.args.g.now.nodes c.reach.new.self (reaching h.reaches c.args.u k)) place (c.reach.ensures c.args.g.now.nodes h.reaches h.kept.reach_table);
      list_table = pushed_table c.args.g.now c.args.self.now c.args.u h c.index-f.result.now (read_parent_edge c.args.g.now c.args.self.now c.args.u h c.args.u c.index-f.result.now (here_node c.args.g.now c.args.self.now c.args.u h) c.index-f.ensures) (subst (λ l. l < edge_count c.args.g.now) (sym (read_parent_edge c.args.g.now c.args.self.now c.args.u h c.args.u c.index-f.result.now (here_node c.args.g.now c.args.self.now c.args.u h) c.index-f.ensures)) (up_edge c.args.g.now c.args.self.now c.args.u h c.args.e c.other_end-v.result c.requires.next c.other_end-v.ensures.ends (mark_open (h.trail.found c.other_end-v.result) (h.trail.left c.other_end-v.result) (sym c.in-Open.is ∙ read_mark c.args.g.now c.args.self.now c.args.u h c.other_end-v.result c.index.result.now c.other_end-v.ensures.node c.index.ensures)).0 c.if-u-v.false (record { found = (mark_open (h.trail.found c.other_end-v.result) (h.trail.left c.other_end-v.result) (sym c.in-Open.is ∙ read_mark c.args.g.now c.args.self.now c.args.u h c.other_end-v.result c.index.result.now c.other_end-v.ensures.node c.index.ensures)).0; stays = (mark_open (h.trail.found c.other_end-v.result) (h.trail.left c.other_end-v.result) (sym c.in-Open.is ∙ read_mark c.args.g.now c.args.self.now c.args.u h c.other_end-v.result c.index.result.now c.other_end-v.ensures.node c.index.ensures)).1 }) (λ same. c.if-f-e.false ((read_parent_edge c.args.g.now c.args.self.now c.args.u h c.args.u c.index-f.result.now (here_node c.args.g.now c.args.self.now c.args.u h) c.index-f.ensures) ∙ same)))) c.push.new.self c.args.e c.push.ensures.lists;
      cap_table = h.kept.cap_table;
      top_table = tops_put (edge_count c.args.g.now) c.args.self.now.names.tops.items c.put-in-Open.new.self.tops.items h.tops c.args.e (Some c.args.e) c.requires.next.edge c.put-in-Open.ensures.tops h.kept.top_table;
      size_table = table_set (edge_count c.args.g.now) 0 c.args.self.now.names.sizes.items c.put-in-Open.new.self.sizes.items h.sizes c.args.e 1 c.requires.next.edge c.put-in-Open.ensures.sizes h.kept.size_table;
    })

pub returns-else-f-e-clause-further : goal.returns-else-f-e-clause-further
returns-else-f-e-clause-further g c =
    take_further c.args.self.now (record { tree = c.take-in-Open.new.self; reaches = c.reach.new.self; lists = c.push.new.self; caps = c.args.self.now.caps; names = c.put-in-Open.new.self }) c.args.u (row c.args.g.now c.args.self.now c.args.u c.requires.walk c.args.u (here_node c.args.g.now c.args.self.now c.args.u c.requires.walk)).taken
    c.take-in-Open.ensures.taken (ap (sum_by left_weight) c.take-in-Open.ensures.marks)

-- ---- down

pub delete-requires : goal.delete-requires
delete-requires g c =
    in_stands c.args.g.now c.args.self.now c.args.u c.requires.walk c.index-f.result.now c.args.e (subst (λ l. l < edge_count c.args.g.now) (sym (read_parent_edge c.args.g.now c.args.self.now c.args.u c.requires.walk c.args.u c.index-f.result.now (here_node c.args.g.now c.args.self.now c.args.u c.requires.walk) c.index-f.ensures)) (down_edge c.args.g.now c.args.self.now c.args.u c.requires.walk c.args.e c.other_end-v.result c.requires.next c.other_end-v.ensures.ends (c.requires.walk.is_trail.left_found c.other_end-v.result (mark_left (c.requires.walk.trail.found c.other_end-v.result) (c.requires.walk.trail.left c.other_end-v.result) (sym c.in-Left.is ∙ read_mark c.args.g.now c.args.self.now c.args.u c.requires.walk c.other_end-v.result c.index.result.now c.other_end-v.ensures.node c.index.ensures))) (mark_left (c.requires.walk.trail.found c.other_end-v.result) (c.requires.walk.trail.left c.other_end-v.result) (sym c.in-Left.is ∙ read_mark c.args.g.now c.args.self.now c.args.u c.requires.walk c.other_end-v.result c.index.result.now c.other_end-v.ensures.node c.index.ensures)) (λ same. c.if-u-root.true (same ∙ sym c.requires.walk.kept.tree_table.root))))
    (subst (λ l. Holds (c.requires.walk.lists l) c.args.e) (sym (read_parent_edge c.args.g.now c.args.self.now c.args.u c.requires.walk c.args.u c.index-f.result.now (here_node c.args.g.now c.args.self.now c.args.u c.requires.walk) c.index-f.ensures)) (down_listed c.args.g.now c.args.self.now c.args.u c.requires.walk c.args.e c.other_end-v.result c.requires.next c.other_end-v.ensures.ends (c.requires.walk.is_trail.left_found c.other_end-v.result (mark_left (c.requires.walk.trail.found c.other_end-v.result) (c.requires.walk.trail.left c.other_end-v.result) (sym c.in-Left.is ∙ read_mark c.args.g.now c.args.self.now c.args.u c.requires.walk c.other_end-v.result c.index.result.now c.other_end-v.ensures.node c.index.ensures))) (mark_left (c.requires.walk.trail.found c.other_end-v.result) (c.requires.walk.trail.left c.other_end-v.result) (sym c.in-Left.is ∙ read_mark c.args.g.now c.args.self.now c.args.u c.requires.walk c.other_end-v.result c.index.result.now c.other_end-v.ensures.node c.index.ensures)) (λ same. c.if-u-root.true (same ∙ sym c.requires.walk.kept.tree_table.root))))

pub returns-then-u-root-clause-walk : goal.returns-then-u-root-clause-walk
returns-then-u-root-clause-walk g c =
    λ start now p one.
    let h = p.walk in
    down_walk c.args.g.now c.args.self.now c.args.u h c.args.e c.other_end-v.result c.requires.next c.other_end-v.ensures.ends (h.is_trail.left_found c.other_end-v.result (mark_left (h.trail.found c.other_end-v.result) (h.trail.left c.other_end-v.result) (sym c.in-Left.is ∙ read_mark c.args.g.now c.args.self.now c.args.u h c.other_end-v.result c.index.result.now c.other_end-v.ensures.node c.index.ensures))) (mark_left (h.trail.found c.other_end-v.result) (h.trail.left c.other_end-v.result) (sym c.in-Left.is ∙ read_mark c.args.g.now c.args.self.now c.args.u h c.other_end-v.result c.index.result.now c.other_end-v.ensures.node c.index.ensures)) (λ same. c.if-u-root.true (same ∙ sym h.kept.tree_table.root))
    (record { tree = c.take-in-Left.new.self; reaches = c.args.self.now.reaches; lists = c.delete.new.self; caps = c.args.self.now.caps; names = c.args.self.now.names }) start now c.delete.new.steps p.paid (omega (arith, one, c.delete.ensures.step)) refl
    (record {
      tree_table = c.take-in-Left.ensures.table c.args.g.now.nodes h.trail h.kept.tree_table;
      reach_table = h.kept.reach_table;
      list_table = deleted_table c.args.g.now c.args.self.now c.args.u h c.index-f.result.now (read_parent_edge c.args.g.now c.args.self.now c.args.u h c.args.u c.index-f.result.now (here_node c.args.g.now c.args.self.now c.args.u h) c.index-f.ensures) (subst (λ l. l < edge_count c.args.g.now) (sym (read_parent_edge c.args.g.now c.args.self.now c.args.u h c.args.u c.index-f.result.now (here_node c.args.g.now c.args.self.now c.args.u h) c.index-f.ensures)) (down_edge c.args.g.now c.args.self.now c.args.u h c.args.e c.other_end-v.result c.requires.next c.other_end-v.ensures.ends (h.is_trail.left_found c.other_end-v.result (mark_left (h.trail.found c.other_end-v.result) (h.trail.left c.other_end-v.result) (sym c.in-Left.is ∙ read_mark c.args.g.now c.args.self.now c.args.u h c.other_end-v.result c.index.result.now c.other_end-v.ensures.node c.index.ensures))) (mark_left (h.trail.found c.other_end-v.result) (h.trail.left c.other_end-v.result) (sym c.in-Left.is ∙ read_mark c.args.g.now c.args.self.now c.args.u h c.other_end-v.result c.index.result.now c.other_end-v.ensures.node c.index.ensures)) (λ same. c.if-u-root.true (same ∙ sym h.kept.tree_table.root)))) c.delete.new.self c.args.e c.delete.ensures.lists;
      cap_table = h.kept.cap_table;
      top_table = h.kept.top_table;
      size_table = h.kept.size_table;
    })

pub returns-then-u-root-clause-further : goal.returns-then-u-root-clause-further
returns-then-u-root-clause-further g c =
    take_further c.args.self.now (record { tree = c.take-in-Left.new.self; reaches = c.args.self.now.reaches; lists = c.delete.new.self; caps = c.args.self.now.caps; names = c.args.self.now.names }) c.args.u (row c.args.g.now c.args.self.now c.args.u c.requires.walk c.args.u (here_node c.args.g.now c.args.self.now c.args.u c.requires.walk)).taken
    c.take-in-Left.ensures.taken (ap (sum_by left_weight) c.take-in-Left.ensures.marks)

pub returns-else-u-root-clause-walk : goal.returns-else-u-root-clause-walk
returns-else-u-root-clause-walk g c =
    λ start now p one.
    let h = p.walk in
    down_root c.args.g.now c.args.self.now c.args.u h c.args.e c.other_end-v.result c.requires.next c.other_end-v.ensures.ends (h.is_trail.left_found c.other_end-v.result (mark_left (h.trail.found c.other_end-v.result) (h.trail.left c.other_end-v.result) (sym c.in-Left.is ∙ read_mark c.args.g.now c.args.self.now c.args.u h c.other_end-v.result c.index.result.now c.other_end-v.ensures.node c.index.ensures))) (mark_left (h.trail.found c.other_end-v.result) (h.trail.left c.other_end-v.result) (sym c.in-Left.is ∙ read_mark c.args.g.now c.args.self.now c.args.u h c.other_end-v.result c.index.result.now c.other_end-v.ensures.node c.index.ensures)) (c.if-u-root.false ∙ h.kept.tree_table.root)
    (record { tree = c.take-in-Left.new.self; reaches = c.args.self.now.reaches; lists = c.args.self.now.lists; caps = c.args.self.now.caps; names = c.args.self.now.names }) start now c.args.steps.now p.paid (omega (arith, one)) refl
    (record {
      tree_table = c.take-in-Left.ensures.table c.args.g.now.nodes h.trail h.kept.tree_table;
      reach_table = h.kept.reach_table;
      list_table = h.kept.list_table;
      cap_table = h.kept.cap_table;
      top_table = h.kept.top_table;
      size_table = h.kept.size_table;
    })

pub returns-else-u-root-clause-further : goal.returns-else-u-root-clause-further
returns-else-u-root-clause-further g c =
    take_further c.args.self.now (record { tree = c.take-in-Left.new.self; reaches = c.args.self.now.reaches; lists = c.args.self.now.lists; caps = c.args.self.now.caps; names = c.args.self.now.names }) c.args.u (row c.args.g.now c.args.self.now c.args.u c.requires.walk c.args.u (here_node c.args.g.now c.args.self.now c.args.u c.requires.walk)).taken
    c.take-in-Left.ensures.taken (ap (sum_by left_weight) c.take-in-Left.ensures.marks)
