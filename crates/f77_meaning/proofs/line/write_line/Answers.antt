use Rattle.std.proofs.Common.{arith, sym, ◌∙◌}
use Rattle.f77_tree.specs.Line.{item_text}
use Rattle.f77_meaning.proofs.Lines.{line_next, line_trap, room_next}
use Rattle.f77_meaning.proofs.line.write_line.Goals as goal

pub loop-item-preserved : goal.loop-item-preserved
loop-item-preserved c =
    let kept = c.loop-item.invariant in
    let items = c.as_slice-item-items.result.now in
    let i = c.loop-item.item-index in
    let item = c.item-item.result in
    let lt = c.loop-item-test.true in
    let f = item_text c.args.names.now c.args.store.now.items in
    let room = room_next items i item lt c.item-item.is in
    record {
      all = kept.all;
      room = omega (arith, kept.room, room, c.push_item.ensures.len, c.push_item.ensures.capacity);
      capacity = omega (arith, kept.capacity, c.push_item.ensures.capacity);
      line = sym (line_next f items i item c.loop-item.line.items c.push_item.new.line.items lt c.item-item.is c.in_default.ensures.line) ∙ kept.line;
    }

pub returns-in-Err-clause-line : goal.returns-in-Err-clause-line
returns-in-Err-clause-line c =
    let f = item_text c.args.names.now c.args.store.now.items in
    sym c.loop-item.invariant.line ∙ line_trap f c.as_slice-item-items.result.now c.loop-item.item-index c.item-item.result c.loop-item.line.items c.in-Err.trap c.loop-item-test.true c.item-item.is c.in-Err.ensures.line
