use Rattle.std.proofs.Common.{◌+◌, ◌∙◌, arith, length}
use Rattle.std.specs.List.{count_by, range_with_len}
use Rattle.simplified_forms.specs.Plans.{answer}
use Rattle.simplified_forms.specs.Simplified.{has_mark}
use Rattle.simplified_forms.proofs.RangeCounts.{count-range-same, entry_read}
use Rattle.simplified_forms.proofs.plan.Plan.mark.Goals as goal

pub returns : goal.returns
returns c = λ p t plan.
    let marked = c.args.self.now.marked.items in
    let k = c.args.k in
    let read = entry_read (λ j. count_by (answer marked) (range_with_len 0 j)) (length marked + 1) (k + 1) c.index.result.now c.args.self.now.marks.items plan.marks (omega (arith, c.requires.k)) c.index.ensures in
    read ∙ count-range-same (answer marked) (has_mark p t (answer c.args.self.now.ways.items.items)) (k + 1) (λ j less. plan.marked.entry j (omega (arith, less, c.requires.k, plan.marked.size)))
