use Rattle.std.proofs.Common.{◌+◌, arith, rules, sym, ap, ◌∙◌}
use Rattle.std.specs.List.{range_with_len, count_by}
use Rattle.simplified_forms.specs.Plans.{answer}
use Rattle.simplified_forms.proofs.RangeCounts.{bit-most, byte-bit, count-range-more}
use Rattle.simplified_forms.proofs.counts.counts.Goals as goal

pub loop-is_one-preserved : goal.loop-is_one-preserved
loop-is_one-preserved c =
    let p = answer c.args.answers.now in
    let i = c.loop-is_one.is_one-index in
    let kept = c.loop-is_one.invariant in
    let most = bit-most (p i) in
    let added = c.from-count.ensures ∙ byte-bit (p i) in
    record {
      counts = search rules;
      count = ap (λ n. n + c.from-count.result) kept.count ∙ ap (λ n. count_by p (range_with_len 0 i) + n) added ∙ sym (count-range-more p i);
      few = omega (arith, kept.few, most, added);
    }
