use Rattle.std.proofs.Common.{◌∙◌, ℕ, List, map, max, ap, slice_index}
use Rattle.trace_profiles.specs.Rounds.{greatest, is_free}
use Rattle.trace_profiles.specs.Tables.{given_in, rounds_at}
use Rattle.trace_profiles.proofs.WaitsTold.{merge_waits, moved_by, node_there, operation_waits, switch_waits}
use Rattle.trace_profiles.proofs.rounds.Rounds.waits.Goals as goal

pub returns-in-Operation : goal.returns-in-Operation
returns-in-Operation c = λ rs tells.
    let r = c.args.self.now in
    let there = node_there r.graph.now.nodes.items c.args.node c.index.result.now _ c.requires c.index.ensures c.in-Operation.is in
    operation_waits r rs c.args.node c.in-Operation.piece c.in-Operation.number c.in-Operation.work c.in-Operation.lines c.operands_of.result.now c.newest_at-moved.result c.newest_given-given.result c.at-emptied.result c.switched_for.result c.greater-in-Operation-2.result tells c.requires there c.operands_of.ensures
    (record {
      moved_is = c.newest_at-moved.ensures ∙ ap (λ (ns : List ℕ). greatest (rounds_at ns c.deref.result.now)) c.moved_for.ensures ∙ ap (λ (ls : List ℕ). greatest (rounds_at (moved_by r (is_free r.loads c.in-Operation.work)) ls)) c.deref.ensures.value;
      given_is = c.newest_given-given.ensures ∙ ap (λ (ns : List ℕ). greatest (map (given_in ns) c.operands_of.result.now)) c.deref-in-Operation.ensures.value;
      emptied_is = c.at-emptied.ensures ∙ ap (λ (ns : List ℕ). slice_index ns c.args.node) c.deref-in-Operation-2.ensures.value;
      switched_is = c.switched_for.ensures;
      result_is = c.greater-in-Operation-2.ensures ∙ ap (λ n. max n c.switched_for.result) (c.greater-in-Operation.ensures ∙ ap (λ n. max n c.newest_given-given.result) c.greater.ensures);
    })

pub returns-in-Switch : goal.returns-in-Switch
returns-in-Switch c = λ rs tells.
    let r = c.args.self.now in
    let there = node_there r.graph.now.nodes.items c.args.node c.index.result.now _ c.requires c.index.ensures c.in-Switch.is in
    switch_waits r rs c.args.node c.in-Switch.piece c.in-Switch.line c.place_at.result c.at-moved.result c.at.result c.greater-in-Switch.result tells there
    (c.place_at.ensures ∙ ap (λ (ns : List ℕ). slice_index ns c.args.node) c.deref-in-Switch-3.ensures.value)
    (c.at-moved.ensures ∙ ap (λ (ns : List ℕ). slice_index ns c.in-Switch.line) c.deref-in-Switch.ensures.value)
    (c.at.ensures ∙ ap (λ (ns : List ℕ). slice_index ns c.place_at.result) c.deref-in-Switch-2.ensures.value)
    c.greater-in-Switch.ensures

pub returns-in-Merge : goal.returns-in-Merge
returns-in-Merge c = λ rs tells.
    let r = c.args.self.now in
    let there = node_there r.graph.now.nodes.items c.args.node c.index.result.now _ c.requires c.index.ensures c.in-Merge.is in
    merge_waits r rs c.args.node c.in-Merge.piece c.in-Merge.line c.at-in-Merge.result tells there (c.at-in-Merge.ensures ∙ ap (λ (ns : List ℕ). slice_index ns c.in-Merge.line) c.deref-in-Merge.ensures.value)
