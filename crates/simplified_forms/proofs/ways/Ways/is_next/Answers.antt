use Rattle.std.proofs.Common.{◌+◌, length, arith}
use Rattle.simplified_forms.specs.Plans.{answer}
use Rattle.simplified_forms.specs.Simplified.{items_before}
use Rattle.simplified_forms.proofs.RangeCounts.{count-range-most, entry_read}
use Rattle.simplified_forms.proofs.ways.Ways.is_next.Goals as goal

pub overflow_add-result : goal.overflow_add-result
overflow_add-result c =
    let ways = c.args.self.now in
    let read = entry_read (items_before (answer ways.items.items)) (length ways.items.items + 1) c.args.k c.index-then-index-2.result.now ways.before.items c.requires.ways.before (omega (arith, c.requires.k)) c.index-then-index-2.ensures in
    let most = count-range-most (answer ways.items.items) c.args.k in
    omega (arith, read, most, c.requires.k, c.requires.ways.few)
