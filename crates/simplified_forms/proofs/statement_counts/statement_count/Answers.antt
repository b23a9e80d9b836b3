use Rattle.std.proofs.Common.{List, length, flat_map, ap, arith}
use Rattle.std.proofs.lemmas.List.{length-append}
use Rattle.std.specs.List.{range_with_len}
use Rattle.const_prop.specs.Table.{knowns_of}
use Rattle.flat_programs.specs.declared.statements.FlatLine.{FlatLine}
use Rattle.simplified_forms.specs.Plans.{answer}
use Rattle.simplified_forms.specs.Simplified.{lines}
use Rattle.simplified_forms.proofs.StatementLemmas.{lines-more}
use Rattle.simplified_forms.proofs.statement_counts.statement_count.Goals as goal

pub loop-k-preserved : goal.loop-k-preserved
loop-k-preserved g c =
    let p = c.args.p.now in
    let t = knowns_of c.args.t.now in
    let is_item = answer c.args.plan.now.ways.items.items in
    let k = c.loop-k.k in
    let f = lines p c.args.c.now t c.args.checked is_item in
    let kept = c.loop-k.invariant in
    let more = ap (λ (xs : List FlatLine). length xs) (lines-more f k) in
    let size = length-append (flat_map f (range_with_len 0 k)) (f k) in
    record {
      count = omega (arith, more, size, kept.count, c.line_count-count.ensures.count);
      few = omega (arith, kept.few, c.line_count-count.ensures.most);
    }
