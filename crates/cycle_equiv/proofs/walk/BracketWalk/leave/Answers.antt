use Rattle.std.proofs.Common.{◌<◌, sym, ap, ◌∙◌, subst, arith, length}
use Rattle.cycle_equiv.specs.WalkState.{IsPaidWalk}
use Rattle.cycle_equiv.proofs.Further.{leave_further}
use Rattle.cycle_equiv.proofs.WalkLeft.{parent_node, root_walk, inner_walk}
use Rattle.cycle_equiv.proofs.WalkLeftTables.{place_inside, caps_have, cap_cost, cap_free, ended_table, ended_caps_table, top_table, size_table, above_apart, above_inside, joined_table, merged_table}
use Rattle.cycle_equiv.proofs.WalkReads.{here_node, open_mark, row, reach_row, read_parent_edge, read_parent, read_preorder, read_second, taken_all, not_at_root}
use Rattle.cycle_equiv.proofs.walk.BracketWalk.leave.Goals as goal

pub end_list-requires-clause-place : goal.end_list-requires-clause-place
end_list-requires-clause-place g c =
    subst (λ k. k < length c.args.self.now.caps.items) (sym (read_preorder c.args.g.now c.args.self.now c.args.u c.requires.walk c.args.u c.index-place.result.now (here_node c.args.g.now c.args.self.now c.args.u c.requires.walk) c.index-place.ensures)) (place_inside c.args.g.now c.args.self.now c.args.u c.requires.walk (not_at_root c.args.g.now c.args.self.now c.args.u c.requires.walk c.requires.other) (taken_all c.args.g.now c.args.self.now c.args.u c.requires.walk c.requires.all))

pub end_list-requires-clause-have : goal.end_list-requires-clause-have
end_list-requires-clause-have g c =
    caps_have c.args.g.now c.args.self.now c.args.u c.requires.walk (not_at_root c.args.g.now c.args.self.now c.args.u c.requires.walk c.requires.other) (taken_all c.args.g.now c.args.self.now c.args.u c.requires.walk c.requires.all) c.index-f.result.now c.index-place.result.now c.index-second.result.now c.edges.result (read_parent_edge c.args.g.now c.args.self.now c.args.u c.requires.walk c.args.u c.index-f.result.now (here_node c.args.g.now c.args.self.now c.args.u c.requires.walk) c.index-f.ensures) (read_preorder c.args.g.now c.args.self.now c.args.u c.requires.walk c.args.u c.index-place.result.now (here_node c.args.g.now c.args.self.now c.args.u c.requires.walk) c.index-place.ensures) (read_second c.args.g.now c.args.self.now c.args.u c.requires.walk c.args.u c.index-second.result.now (here_node c.args.g.now c.args.self.now c.args.u c.requires.walk) c.index-second.ensures) c.edges.ensures.count

pub end_list-requires-clause-free : goal.end_list-requires-clause-free
end_list-requires-clause-free g c =
    λ any. cap_free c.args.g.now c.args.self.now c.args.u c.requires.walk (not_at_root c.args.g.now c.args.self.now c.args.u c.requires.walk c.requires.other) (taken_all c.args.g.now c.args.self.now c.args.u c.requires.walk c.requires.all) c.index-f.result.now c.index-place.result.now c.index-second.result.now c.edges.result (read_parent_edge c.args.g.now c.args.self.now c.args.u c.requires.walk c.args.u c.index-f.result.now (here_node c.args.g.now c.args.self.now c.args.u c.requires.walk) c.index-f.ensures) (read_preorder c.args.g.now c.args.self.now c.args.u c.requires.walk c.args.u c.index-place.result.now (here_node c.args.g.now c.args.self.now c.args.u c.requires.walk) c.index-place.ensures) (read_second c.args.g.now c.args.self.now c.args.u c.requires.walk c.args.u c.index-second.result.now (here_node c.args.g.now c.args.self.now c.args.u c.requires.walk) c.index-second.ensures) c.edges.ensures.count

pub merge-requires : goal.merge-requires
merge-requires g c =
    reach_row c.args.g.now c.args.self.now c.args.u c.requires.walk c.index-p.result.now (subst (λ n. n < c.args.g.now.nodes) (sym (read_parent c.args.g.now c.args.self.now c.args.u c.requires.walk c.args.u c.index-p.result.now (here_node c.args.g.now c.args.self.now c.args.u c.requires.walk) c.index-p.ensures)) (parent_node c.args.g.now c.args.self.now c.args.u c.requires.walk (not_at_root c.args.g.now c.args.self.now c.args.u c.requires.walk c.requires.other) (taken_all c.args.g.now c.args.self.now c.args.u c.requires.walk c.requires.all)))

pub concat-requires-clause-differ : goal.concat-requires-clause-differ
concat-requires-clause-differ g c =
    above_apart c.args.g.now c.args.self.now c.args.u c.requires.walk (not_at_root c.args.g.now c.args.self.now c.args.u c.requires.walk c.requires.other) (taken_all c.args.g.now c.args.self.now c.args.u c.requires.walk c.requires.all) c.index-f.result.now (read_parent_edge c.args.g.now c.args.self.now c.args.u c.requires.walk c.args.u c.index-f.result.now (here_node c.args.g.now c.args.self.now c.args.u c.requires.walk) c.index-f.ensures) c.end_list.new.lists (ended_table c.args.g.now c.args.self.now c.args.u c.requires.walk (not_at_root c.args.g.now c.args.self.now c.args.u c.requires.walk c.requires.other) (taken_all c.args.g.now c.args.self.now c.args.u c.requires.walk c.requires.all) c.index-f.result.now c.index-place.result.now c.index-second.result.now c.edges.result (read_parent_edge c.args.g.now c.args.self.now c.args.u c.requires.walk c.args.u c.index-f.result.now (here_node c.args.g.now c.args.self.now c.args.u c.requires.walk) c.index-f.ensures) (read_preorder c.args.g.now c.args.self.now c.args.u c.requires.walk c.args.u c.index-place.result.now (here_node c.args.g.now c.args.self.now c.args.u c.requires.walk) c.index-place.ensures) (read_second c.args.g.now c.args.self.now c.args.u c.requires.walk c.args.u c.index-second.result.now (here_node c.args.g.now c.args.self.now c.args.u c.requires.walk) c.index-second.ensures) c.edges.ensures.count c.end_list.new.lists c.in_ok-end_list.ensures.lists) c.index-above.result.now (λ same. c.if-p-root.true ((read_parent c.args.g.now c.args.self.now c.args.u c.requires.walk c.args.u c.index-p.result.now (here_node c.args.g.now c.args.self.now c.args.u c.requires.walk) c.index-p.ensures) ∙ same ∙ sym c.requires.walk.kept.tree_table.root)) (read_parent_edge c.args.g.now c.args.self.now c.args.u c.requires.walk c.index-p.result.now c.index-above.result.now (subst (λ n. n < c.args.g.now.nodes) (sym (read_parent c.args.g.now c.args.self.now c.args.u c.requires.walk c.args.u c.index-p.result.now (here_node c.args.g.now c.args.self.now c.args.u c.requires.walk) c.index-p.ensures)) (parent_node c.args.g.now c.args.self.now c.args.u c.requires.walk (not_at_root c.args.g.now c.args.self.now c.args.u c.requires.walk c.requires.other) (taken_all c.args.g.now c.args.self.now c.args.u c.requires.walk c.requires.all))) c.index-above.ensures ∙ ap c.requires.walk.trail.tree.parent_edge (read_parent c.args.g.now c.args.self.now c.args.u c.requires.walk c.args.u c.index-p.result.now (here_node c.args.g.now c.args.self.now c.args.u c.requires.walk) c.index-p.ensures))

pub concat-requires-clause-upper : goal.concat-requires-clause-upper
concat-requires-clause-upper g c =
    above_inside c.args.g.now c.args.self.now c.args.u c.requires.walk (not_at_root c.args.g.now c.args.self.now c.args.u c.requires.walk c.requires.other) (taken_all c.args.g.now c.args.self.now c.args.u c.requires.walk c.requires.all) c.index-f.result.now (read_parent_edge c.args.g.now c.args.self.now c.args.u c.requires.walk c.args.u c.index-f.result.now (here_node c.args.g.now c.args.self.now c.args.u c.requires.walk) c.index-f.ensures) c.end_list.new.lists (ended_table c.args.g.now c.args.self.now c.args.u c.requires.walk (not_at_root c.args.g.now c.args.self.now c.args.u c.requires.walk c.requires.other) (taken_all c.args.g.now c.args.self.now c.args.u c.requires.walk c.requires.all) c.index-f.result.now c.index-place.result.now c.index-second.result.now c.edges.result (read_parent_edge c.args.g.now c.args.self.now c.args.u c.requires.walk c.args.u c.index-f.result.now (here_node c.args.g.now c.args.self.now c.args.u c.requires.walk) c.index-f.ensures) (read_preorder c.args.g.now c.args.self.now c.args.u c.requires.walk c.args.u c.index-place.result.now (here_node c.args.g.now c.args.self.now c.args.u c.requires.walk) c.index-place.ensures) (read_second c.args.g.now c.args.self.now c.args.u c.requires.walk c.args.u c.index-second.result.now (here_node c.args.g.now c.args.self.now c.args.u c.requires.walk) c.index-second.ensures) c.edges.ensures.count c.end_list.new.lists c.in_ok-end_list.ensures.lists) c.index-above.result.now (λ same. c.if-p-root.true ((read_parent c.args.g.now c.args.self.now c.args.u c.requires.walk c.args.u c.index-p.result.now (here_node c.args.g.now c.args.self.now c.args.u c.requires.walk) c.index-p.ensures) ∙ same ∙ sym c.requires.walk.kept.tree_table.root)) (read_parent_edge c.args.g.now c.args.self.now c.args.u c.requires.walk c.index-p.result.now c.index-above.result.now (subst (λ n. n < c.args.g.now.nodes) (sym (read_parent c.args.g.now c.args.self.now c.args.u c.requires.walk c.args.u c.index-p.result.now (here_node c.args.g.now c.args.self.now c.args.u c.requires.walk) c.index-p.ensures)) (parent_node c.args.g.now c.args.self.now c.args.u c.requires.walk (not_at_root c.args.g.now c.args.self.now c.args.u c.requires.walk c.requires.other) (taken_all c.args.g.now c.args.self.now c.args.u c.requires.walk c.requires.all))) c.index-above.ensures ∙ ap c.requires.walk.trail.tree.parent_edge (read_parent c.args.g.now c.args.self.now c.args.u c.requires.walk c.args.u c.index-p.result.now (here_node c.args.g.now c.args.self.now c.args.u c.requires.walk) c.index-p.ensures))

pub returns-then-p-root-clause-walk : goal.returns-then-p-root-clause-walk
returns-then-p-root-clause-walk g c =
    λ start now p one.
    let h = p.walk in
    let cap = cap_cost c.args.g.now c.args.self.now c.args.u h (not_at_root c.args.g.now c.args.self.now c.args.u h c.requires.other) (taken_all c.args.g.now c.args.self.now c.args.u h c.requires.all) c.index-f.result.now c.index-place.result.now c.index-second.result.now c.edges.result (read_parent_edge c.args.g.now c.args.self.now c.args.u h c.args.u c.index-f.result.now (here_node c.args.g.now c.args.self.now c.args.u h) c.index-f.ensures) (read_preorder c.args.g.now c.args.self.now c.args.u h c.args.u c.index-place.result.now (here_node c.args.g.now c.args.self.now c.args.u h) c.index-place.ensures) (read_second c.args.g.now c.args.self.now c.args.u h c.args.u c.index-second.result.now (here_node c.args.g.now c.args.self.now c.args.u h) c.index-second.ensures) c.edges.ensures.count in
    subst (λ n. IsPaidWalk c.args.g.now (record { tree = c.leave.new.self; reaches = c.merge.new.self; lists = c.concat.new.self; caps = c.end_list.new.caps; names = c.put.new.self }) n start c.concat.new.steps) (sym (read_parent c.args.g.now c.args.self.now c.args.u h c.args.u c.index-p.result.now (here_node c.args.g.now c.args.self.now c.args.u h) c.index-p.ensures))
    (inner_walk c.args.g.now c.args.self.now c.args.u h (not_at_root c.args.g.now c.args.self.now c.args.u h c.requires.other) (taken_all c.args.g.now c.args.self.now c.args.u h c.requires.all) (λ same. c.if-p-root.true ((read_parent c.args.g.now c.args.self.now c.args.u h c.args.u c.index-p.result.now (here_node c.args.g.now c.args.self.now c.args.u h) c.index-p.ensures) ∙ same ∙ sym h.kept.tree_table.root))
    (record { tree = c.leave.new.self; reaches = c.merge.new.self; lists = c.concat.new.self; caps = c.end_list.new.caps; names = c.put.new.self })
    (record {
      tree_table = c.leave.ensures.table c.args.g.now.nodes h.trail h.kept.tree_table h.is_trail.here.found;
      reach_table = merged_table c.args.g.now c.args.self.now c.args.u h (not_at_root c.args.g.now c.args.self.now c.args.u h c.requires.other) (taken_all c.args.g.now c.args.self.now c.args.u h c.requires.all) c.index-p.result.now c.highest-highest.result c.merge.new.self (read_parent c.args.g.now c.args.self.now c.args.u h c.args.u c.index-p.result.now (here_node c.args.g.now c.args.self.now c.args.u h) c.index-p.ensures) (c.highest-highest.ensures c.args.g.now.nodes h.reaches h.kept.reach_table) (c.merge.ensures c.args.g.now.nodes h.reaches h.kept.reach_table);
      list_table = joined_table c.args.g.now c.args.self.now c.args.u h (not_at_root c.args.g.now c.args.self.now c.args.u h c.requires.other) (taken_all c.args.g.now c.args.self.now c.args.u h c.requires.all) c.index-f.result.now (read_parent_edge c.args.g.now c.args.self.now c.args.u h c.args.u c.index-f.result.now (here_node c.args.g.now c.args.self.now c.args.u h) c.index-f.ensures) c.end_list.new.lists (ended_table c.args.g.now c.args.self.now c.args.u h (not_at_root c.args.g.now c.args.self.now c.args.u h c.requires.other) (taken_all c.args.g.now c.args.self.now c.args.u h c.requires.all) c.index-f.result.now c.index-place.result.now c.index-second.result.now c.edges.result (read_parent_edge c.args.g.now c.args.self.now c.args.u h c.args.u c.index-f.result.now (here_node c.args.g.now c.args.self.now c.args.u h) c.index-f.ensures) (read_preorder c.args.g.now c.args.self.now c.args.u h c.args.u c.index-place.result.now (here_node c.args.g.now c.args.self.now c.args.u h) c.index-place.ensures) (read_second c.args.g.now c.args.self.now c.args.u h c.args.u c.index-second.result.now (here_node c.args.g.now c.args.self.now c.args.u h) c.index-second.ensures) c.edges.ensures.count c.end_list.new.lists c.in_ok-end_list.ensures.lists) c.index-above.result.now (λ same. c.if-p-root.true ((read_parent c.args.g.now c.args.self.now c.args.u h c.args.u c.index-p.result.now (here_node c.args.g.now c.args.self.now c.args.u h) c.index-p.ensures) ∙ same ∙ sym h.kept.tree_table.root)) (read_parent_edge c.args.g.now c.args.self.now c.args.u h c.index-p.result.now c.index-above.result.now (subst (λ n. n < c.args.g.now.nodes) (sym (read_parent c.args.g.now c.args.self.now c.args.u h c.args.u c.index-p.result.now (here_node c.args.g.now c.args.self.now c.args.u h) c.index-p.ensures)) (parent_node c.args.g.now c.args.self.now c.args.u h (not_at_root c.args.g.now c.args.self.now c.args.u h c.requires.other) (taken_all c.args.g.now c.args.self.now c.args.u h c.requires.all))) c.index-above.ensures ∙ ap h.trail.tree.parent_edge (read_parent c.args.g.now c.args.self.now c.args.u h c.args.u c.index-p.result.now (here_node c.args.g.now c.args.self.now c.args.u h) c.index-p.ensures)) c.concat.new.self c.concat.ensures.lists;
      cap_table = ended_caps_table c.args.g.now c.args.self.now c.args.u h (not_at_root c.args.g.now c.args.self.now c.args.u h c.requires.other) (taken_all c.args.g.now c.args.self.now c.args.u h c.requires.all) c.index-f.result.now c.index-place.result.now c.index-second.result.now c.edges.result (read_parent_edge c.args.g.now c.args.self.now c.args.u h c.args.u c.index-f.result.now (here_node c.args.g.now c.args.self.now c.args.u h) c.index-f.ensures) (read_preorder c.args.g.now c.args.self.now c.args.u h c.args.u c.index-place.result.now (here_node c.args.g.now c.args.self.now c.args.u h) c.index-place.ensures) (read_second c.args.g.now c.args.self.now c.args.u h c.args.u c.index-second.result.now (here_node c.args.g.now c.args.self.now c.args.u h) c.index-second.ensures) c.edges.ensures.count c.end_list.new.caps.items c.in_ok-end_list.ensures.caps;
      top_table = top_table c.args.g.now c.args.self.now c.args.u h (not_at_root c.args.g.now c.args.self.now c.args.u h c.requires.other) (taken_all c.args.g.now c.args.self.now c.args.u h c.requires.all) c.index-f.result.now (read_parent_edge c.args.g.now c.args.self.now c.args.u h c.args.u c.index-f.result.now (here_node c.args.g.now c.args.self.now c.args.u h) c.index-f.ensures) c.end_list.new.lists (ended_table c.args.g.now c.args.self.now c.args.u h (not_at_root c.args.g.now c.args.self.now c.args.u h c.requires.other) (taken_all c.args.g.now c.args.self.now c.args.u h c.requires.all) c.index-f.result.now c.index-place.result.now c.index-second.result.now c.edges.result (read_parent_edge c.args.g.now c.args.self.now c.args.u h c.args.u c.index-f.result.now (here_node c.args.g.now c.args.self.now c.args.u h) c.index-f.ensures) (read_preorder c.args.g.now c.args.self.now c.args.u h c.args.u c.index-place.result.now (here_node c.args.g.now c.args.self.now c.args.u h) c.index-place.ensures) (read_second c.args.g.now c.args.self.now c.args.u h c.args.u c.index-second.result.now (here_node c.args.g.now c.args.self.now c.args.u h) c.index-second.ensures) c.edges.ensures.count c.end_list.new.lists c.in_ok-end_list.ensures.lists) c.top.result c.unwrap_or-top.result c.put.new.self.tops.items c.top.ensures.top c.unwrap_or-top.ensures c.put.ensures.tops;
      size_table = size_table c.args.g.now c.args.self.now c.args.u h (not_at_root c.args.g.now c.args.self.now c.args.u h c.requires.other) (taken_all c.args.g.now c.args.self.now c.args.u h c.requires.all) c.index-f.result.now (read_parent_edge c.args.g.now c.args.self.now c.args.u h c.args.u c.index-f.result.now (here_node c.args.g.now c.args.self.now c.args.u h) c.index-f.ensures) c.end_list.new.lists (ended_table c.args.g.now c.args.self.now c.args.u h (not_at_root c.args.g.now c.args.self.now c.args.u h c.requires.other) (taken_all c.args.g.now c.args.self.now c.args.u h c.requires.all) c.index-f.result.now c.index-place.result.now c.index-second.result.now c.edges.result (read_parent_edge c.args.g.now c.args.self.now c.args.u h c.args.u c.index-f.result.now (here_node c.args.g.now c.args.self.now c.args.u h) c.index-f.ensures) (read_preorder c.args.g.now c.args.self.now c.args.u h c.args.u c.index-place.result.now (here_node c.args.g.now c.args.self.now c.args.u h) c.index-place.ensures) (read_second c.args.g.now c.args.self.now c.args.u h c.args.u c.index-second.result.now (here_node c.args.g.now c.args.self.now c.args.u h) c.index-second.ensures) c.edges.ensures.count c.end_list.new.lists c.in_ok-end_list.ensures.lists) c.size-size.result c.put.new.self.sizes.items c.size-size.ensures.size c.put.ensures.sizes;
    })
    start now c.concat.new.steps p.paid
    (omega (arith, one, cap, c.in_ok-end_list.ensures.steps, c.top.ensures.step, c.size-size.ensures.step, c.concat.ensures.step)))

pub returns-then-p-root-clause-further : goal.returns-then-p-root-clause-further
returns-then-p-root-clause-further g c =
    leave_further c.args.self.now (record { tree = c.leave.new.self; reaches = c.merge.new.self; lists = c.concat.new.self; caps = c.end_list.new.caps; names = c.put.new.self }) c.args.u (row c.args.g.now c.args.self.now c.args.u c.requires.walk c.args.u (here_node c.args.g.now c.args.self.now c.args.u c.requires.walk)).marks (open_mark c.args.g.now c.args.self.now c.args.u c.requires.walk) c.leave.ensures.marks c.leave.ensures.taken

pub returns-else-p-root-clause-walk : goal.returns-else-p-root-clause-walk
returns-else-p-root-clause-walk g c =
    λ start now p one.
    let h = p.walk in
    let cap = cap_cost c.args.g.now c.args.self.now c.args.u h (not_at_root c.args.g.now c.args.self.now c.args.u h c.requires.other) (taken_all c.args.g.now c.args.self.now c.args.u h c.requires.all) c.index-f.result.now c.index-place.result.now c.index-second.result.now c.edges.result (read_parent_edge c.args.g.now c.args.self.now c.args.u h c.args.u c.index-f.result.now (here_node c.args.g.now c.args.self.now c.args.u h) c.index-f.ensures) (read_preorder c.args.g.now c.args.self.now c.args.u h c.args.u c.index-place.result.now (here_node c.args.g.now c.args.self.now c.args.u h) c.index-place.ensures) (read_second c.args.g.now c.args.self.now c.args.u h c.args.u c.index-second.result.now (here_node c.args.g.now c.args.self.now c.args.u h) c.index-second.ensures) c.edges.ensures.count in
    subst (λ n. IsPaidWalk c.args.g.now (record { tree = c.leave.new.self; reaches = c.merge.new.self; lists = c.end_list.new.lists; caps = c.end_list.new.caps; names = c.put.new.self }) n start c.size-size.new.steps) (sym (read_parent c.args.g.now c.args.self.now c.args.u h c.args.u c.index-p.result.now (here_node c.args.g.now c.args.self.now c.args.u h) c.index-p.ensures))
    (root_walk c.args.g.now c.args.self.now c.args.u h (not_at_root c.args.g.now c.args.self.now c.args.u h c.requires.other) (taken_all c.args.g.now c.args.self.now c.args.u h c.requires.all) (sym (read_parent c.args.g.now c.args.self.now c.args.u h c.args.u c.index-p.result.now (here_node c.args.g.now c.args.self.now c.args.u h) c.index-p.ensures) ∙ c.if-p-root.false ∙ h.kept.tree_table.root)
    (record { tree = c.leave.new.self; reaches = c.merge.new.self; lists = c.end_list.new.lists; caps = c.end_list.new.caps; names = c.put.new.self })
    (record {
      tree_table = c.leave.ensures.table c.args.g.now.nodes h.trail h.kept.tree_table h.is_trail.here.found;
      reach_table = merged_table c.args.g.now c.args.self.now c.args.u h (not_at_root c.args.g.now c.args.self.now c.args.u h c.requires.other) (taken_all c.args.g.now c.args.self.now c.args.u h c.requires.all) c.index-p.result.now c.highest-highest.result c.merge.new.self (read_parent c.args.g.now c.args.self.now c.args.u h c.args.u c.index-p.result.now (here_node c.args.g.now c.args.self.now c.args.u h) c.index-p.ensures) (c.highest-highest.ensures c.args.g.now.nodes h.reaches h.kept.reach_table) (c.merge.ensures c.args.g.now.nodes h.reaches h.kept.reach_table);
      list_table = (ended_table c.args.g.now c.args.self.now c.args.u h (not_at_root c.args.g.now c.args.self.now c.args.u h c.requires.other) (taken_all c.args.g.now c.args.self.now c.args.u h c.requires.all) c.index-f.result.now c.index-place.result.now c.index-second.result.now c.edges.result (read_parent_edge c.args.g.now c.args.self.now c.args.u h c.args.u c.index-f.result.now (here_node c.args.g.now c.args.self.now c.args.u h) c.index-f.ensures) (read_preorder c.args.g.now c.args.self.now c.args.u h c.args.u c.index-place.result.now (here_node c.args.g.now c.args.self.now c.args.u h) c.index-place.ensures) (read_second c.args.g.now c.args.self.now c.args.u h c.args.u c.index-second.result.now (here_node c.args.g.now c.args.self.now c.args.u h) c.index-second.ensures) c.edges.ensures.count c.end_list.new.lists c.in_ok-end_list.ensures.lists);
      cap_table = ended_caps_table c.args.g.now c.args.self.now c.args.u h (not_at_root c.args.g.now c.args.self.now c.args.u h c.requires.other) (taken_all c.args.g.now c.args.self.now c.args.u h c.requires.all) c.index-f.result.now c.index-place.result.now c.index-second.result.now c.edges.result (read_parent_edge c.args.g.now c.args.self.now c.args.u h c.args.u c.index-f.result.now (here_node c.args.g.now c.args.self.now c.args.u h) c.index-f.ensures) (read_preorder c.args.g.now c.args.self.now c.args.u h c.args.u c.index-place.result.now (here_node c.args.g.now c.args.self.now c.args.u h) c.index-place.ensures) (read_second c.args.g.now c.args.self.now c.args.u h c.args.u c.index-second.result.now (here_node c.args.g.now c.args.self.now c.args.u h) c.index-second.ensures) c.edges.ensures.count c.end_list.new.caps.items c.in_ok-end_list.ensures.caps;
      top_table = top_table c.args.g.now c.args.self.now c.args.u h (not_at_root c.args.g.now c.args.self.now c.args.u h c.requires.other) (taken_all c.args.g.now c.args.self.now c.args.u h c.requires.all) c.index-f.result.now (read_parent_edge c.args.g.now c.args.self.now c.args.u h c.args.u c.index-f.result.now (here_node c.args.g.now c.args.self.now c.args.u h) c.index-f.ensures) c.end_list.new.lists (ended_table c.args.g.now c.args.self.now c.args.u h (not_at_root c.args.g.now c.args.self.now c.args.u h c.requires.other) (taken_all c.args.g.now c.args.self.now c.args.u h c.requires.all) c.index-f.result.now c.index-place.result.now c.index-second.result.now c.edges.result (read_parent_edge c.args.g.now c.args.self.now c.args.u h c.args.u c.index-f.result.now (here_node c.args.g.now c.args.self.now c.args.u h) c.index-f.ensures) (read_preorder c.args.g.now c.args.self.now c.args.u h c.args.u c.index-place.result.now (here_node c.args.g.now c.args.self.now c.args.u h) c.index-place.ensures) (read_second c.args.g.now c.args.self.now c.args.u h c.args.u c.index-second.result.now (here_node c.args.g.now c.args.self.now c.args.u h) c.index-second.ensures) c.edges.ensures.count c.end_list.new.lists c.in_ok-end_list.ensures.lists) c.top.result c.unwrap_or-top.result c.put.new.self.tops.items c.top.ensures.top c.unwrap_or-top.ensures c.put.ensures.tops;
      size_table = size_table c.args.g.now c.args.self.now c.args.u h (not_at_root c.args.g.now c.args.self.now c.args.u h c.requires.other) (taken_all c.args.g.now c.args.self.now c.args.u h c.requires.all) c.index-f.result.now (read_parent_edge c.args.g.now c.args.self.now c.args.u h c.args.u c.index-f.result.now (here_node c.args.g.now c.args.self.now c.args.u h) c.index-f.ensures) c.end_list.new.lists (ended_table c.args.g.now c.args.self.now c.args.u h (not_at_root c.args.g.now c.args.self.now c.args.u h c.requires.other) (taken_all c.args.g.now c.args.self.now c.args.u h c.requires.all) c.index-f.result.now c.index-place.result.now c.index-second.result.now c.edges.result (read_parent_edge c.args.g.now c.args.self.now c.args.u h c.args.u c.index-f.result.now (here_node c.args.g.now c.args.self.now c.args.u h) c.index-f.ensures) (read_preorder c.args.g.now c.args.self.now c.args.u h c.args.u c.index-place.result.now (here_node c.args.g.now c.args.self.now c.args.u h) c.index-place.ensures) (read_second c.args.g.now c.args.self.now c.args.u h c.args.u c.index-second.result.now (here_node c.args.g.now c.args.self.now c.args.u h) c.index-second.ensures) c.edges.ensures.count c.end_list.new.lists c.in_ok-end_list.ensures.lists) c.size-size.result c.put.new.self.sizes.items c.size-size.ensures.size c.put.ensures.sizes;
    })
    start now c.size-size.new.steps p.paid
    (omega (arith, one, cap, c.in_ok-end_list.ensures.steps, c.top.ensures.step, c.size-size.ensures.step)))

pub returns-else-p-root-clause-further : goal.returns-else-p-root-clause-further
returns-else-p-root-clause-further g c =
    leave_further c.args.self.now (record { tree = c.leave.new.self; reaches = c.merge.new.self; lists = c.end_list.new.lists; caps = c.end_list.new.caps; names = c.put.new.self }) c.args.u (row c.args.g.now c.args.self.now c.args.u c.requires.walk c.args.u (here_node c.args.g.now c.args.self.now c.args.u c.requires.walk)).marks (open_mark c.args.g.now c.args.self.now c.args.u c.requires.walk) c.leave.ensures.marks c.leave.ensures.taken
